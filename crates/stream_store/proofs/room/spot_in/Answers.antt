use Rattle.std.proofs.Common.{◌≡◌, ◌∙◌, Bool, Option, Some, None, IfSome, cond, drop, arith, sym, ap, subst}
use Rattle.block_table.specs.declared.placing.Placing.{Placing}
use Rattle.stream_store.specs.Placing.{IsMessageSpot, placing_behind}
use Rattle.stream_store.proofs.Records.{record_there}
use Rattle.stream_store.proofs.Placings.{no_room, placings, placings_begun, placings_next, room_at_end}
use Rattle.js_base.specs.declared.spot.Spot.{Spot}
use Rattle.stream_store.proofs.Spotting.{message_spot}
use Rattle.stream_store.proofs.room.spot_in.Goals as goal

pub place_effect-requires : goal.place_effect-requires
place_effect-requires c = record { allowed = record_there c.args.tail.now c.loop-effect.effect-index c.effect-item.result c.requires.records (omega arith) c.effect-item.is }

pub loop-effect-init : goal.loop-effect-init
loop-effect-init c =
    subst (λ (p : Placing). placings c.args.table.now (drop 0 c.args.tail.now) (Some p) ≡ placing_behind c.args.table.now c.args.tail.now) (sym c.placing-placing.ensures.value) (placings_begun c.args.table.now c.args.tail.now)

pub loop-effect-preserved : goal.loop-effect-preserved
loop-effect-preserved c =
    placings_next c.args.table.now c.args.tail.now c.loop-effect.effect-index c.effect-item.result c.loop-effect.placing (omega arith) c.effect-item.is c.loop-effect.invariant c.place_effect.new.placing
    (c.place_effect.ensures.value ∙ ap (λ (t : Bool). cond t (Some c.place_effect.new.placing) None) c.if-not-place_effect.false)

pub returns-then-not-place_effect : goal.returns-then-not-place_effect
returns-then-not-place_effect c = record {
  value = sym (no_room c.args.table.now c.args.tail.now c.loop-effect.effect-index c.effect-item.result c.loop-effect.placing (omega arith) c.effect-item.is c.loop-effect.invariant c.args.len
      (c.place_effect.ensures.value ∙ ap (λ (t : Bool). cond t (Some c.place_effect.new.placing) None) c.if-not-place_effect.true));
  spot = tt;
}

pub returns : goal.returns
returns c =
    let is = c.place.ensures.spot ∙ room_at_end c.args.table.now c.args.tail.now c.loop-effect.effect-index c.loop-effect.placing c.args.len (omega arith) c.loop-effect.invariant in
    record {
      value = is;
      spot = subst (λ (o : Option Spot). IfSome o IsMessageSpot) (sym is) (message_spot c.args.table.now c.args.tail.now c.args.len c.older.ensures.table (omega arith));
    }
