use Rattle.std.proofs.Common.{◌≡◌, ◌&&◌, not, Bool, false, Option, None, Some, ap, sym, ◌∙◌}
use Rattle.effects.specs.declared.effect.Effect.{Effect}
use Rattle.place_engine.specs.Following.{is_now}
use Rattle.volume_place.specs.Since.{is_moment}
use Rattle.volume_place.proofs.MadeMoments.{Records, fails_already, none_own, one_own}
use Rattle.volume_place.proofs.since.is_moment.Goals as goal
use Rattle.volume_place.proofs.since.is_moment.Goals.{then-removes_none, else-removes_none}

pub returns-in-None : goal.returns-in-None
returns-in-None c =
    let m = c.args.made.now in
    let own : m.own.effect ≡ None = c.in-None.is in
    let records = ap (λ (o : Option Effect). is_moment (Records m.time.moment m.time.seen m.time.aged.ranges m.time.given_up o m.own.removed.ranges)) own in
    record { value = c.removes_none.ensures.value ∙ sym (records ∙ none_own m.time.moment m.time.seen m.time.aged.ranges m.time.given_up m.own.removed.ranges) }

pub returns-else-not-made : goal.returns-else-not-made
returns-else-not-made c =
    let m = c.args.made.now in
    let own : m.own.effect ≡ Some c.in-Some.effect = c.in-Some.is in
    let records = ap (λ (o : Option Effect). is_moment (Records m.time.moment m.time.seen m.time.aged.ranges m.time.given_up o m.own.removed.ranges)) own in
    let fails : (c.removes_none-in-Some.result && not m.time.seen) ≡ false = elim c.if-removes_none.branch [
      | then-removes_none w ↦ ap (λ (b : Bool). b && not m.time.seen) w.if-removes_none.true ∙ sym w.value-is ∙ c.if-not-made.false
      | else-removes_none w ↦ ap (λ (b : Bool). b && not m.time.seen) w.if-removes_none.false
    ] in
    record {
      value = c.if-not-made.false
          ∙ fails_already c.removes_none-in-Some.result m.time.seen (is_now c.in-Some.effect) fails
          ∙ ap (λ (b : Bool). b && (not m.time.seen && is_now c.in-Some.effect)) c.removes_none-in-Some.ensures.value
          ∙ sym (records ∙ one_own m.time.moment m.time.seen m.time.aged.ranges m.time.given_up c.in-Some.effect m.own.removed.ranges);
    }
