use Rattle.std.proofs.Common.{◌≡◌, Some, None, cond, subst, sym}
use Rattle.effects.specs.declared.effect.Effect.{Effect}
use Rattle.stream_store.specs.Placing.{placing_then}
use Rattle.stream_store.proofs.Placings.{placed_message}
use Rattle.stream_store.proofs.room.place_effect.Goals as goal

pub returns-in-PutHere : goal.returns-in-PutHere
returns-in-PutHere c =
    let e = c.in-PutHere in
    record {
      value = subst (λ (x : Effect). placing_then c.args.table.now c.args.placing.now x ≡ cond c.is_some.result (Some c.place.new.self) None) (sym e.is)
          (placed_message c.args.table.now c.args.placing.now c.place.new.self e.seq e.at e.id e.subject e.headers e.payload c.message_len-len.result c.place.result c.is_some.result c.message_len-len.ensures.value c.place.ensures.spot c.place.ensures.rest c.is_some.ensures);
    }
