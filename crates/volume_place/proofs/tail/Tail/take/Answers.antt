use Rattle.std.proofs.Common.{◌≡◌, ◌&&◌, ◌-◌, ◌≤◌, Bool, List, length, take, drop, subst, sym, ap, ◌∙◌, arith}
use Rattle.effects.specs.declared.effect.Effect.{Effect}
use Rattle.place_engine.specs.Following.{followed}
use Rattle.place_records.specs.Records.{effects_in}
use Rattle.volume_place.specs.Measured.{IsMeasured}
use Rattle.volume_place.specs.Tail.{ends_with_moment}
use Rattle.volume_place.proofs.Following.{ends_some, replaced, unreplaced}
use Rattle.volume_place.proofs.Measuring.{measured_followed}
use Rattle.volume_place.proofs.tail.Tail.take.Goals.{After-drop_record, else-begins_with_moment-via-then-begins_with_moment+else-ends_with_moment, else-begins_with_moment-via-else-begins_with_moment}
use Rattle.volume_place.proofs.tail.Tail.take.Goals as goal

gave_way : (c : After-drop_record) → c.drop_record.new.records.items ≡ followed c.self.inside.records.items (effects_in c.args.made.now)
gave_way c =
    let all = c.give_to.new.effects.items in
    let begins = sym c.if-begins_with_moment.ensures.value in
    let ends = sym c.if-ends_with_moment.ensures.value in
    let some : 1 ≤ length c.split_at.result.0.now = ends_some c.split_at.result.0.now ends in
    let so_many : c.len-count.result ≡ length c.self.inside.records.items = omega (arith, c.len-count.ensures) in
    let first = c.split_at.ensures.front ∙ ap (take c.len-count.result) c.as_slice.ensures.value in
    let rest = c.split_at.ensures.back ∙ ap (drop c.len-count.result) c.as_slice.ensures.value in
    replaced c.self.inside.records.items (effects_in c.args.made.now) all c.split_at.result.0.now c.split_at.result.1.now c.len-count.result c.in_ok-give_to.ensures.ok so_many
    first rest c.drop_record.new.records.items (c.len-count.result - 1) begins ends (omega (arith, some, c.split_at.ensures.front_len)) c.drop_record.ensures.items

pub returns-then-ends_with_moment-clause-ok : goal.returns-then-ends_with_moment-clause-ok
returns-then-ends_with_moment-clause-ok c = gave_way c ∙ ap (λ (l : List Effect). followed l (effects_in c.args.made.now)) c.self.view_is

pub invariant_of-self-then-ends_with_moment : goal.invariant_of-self-then-ends_with_moment
invariant_of-self-then-ends_with_moment c =
    let i = c.self.inside in
    subst (λ (l : List Effect). IsMeasured l i.measured i.lengths) (sym (gave_way c))
    (measured_followed i.records.items (effects_in c.args.made.now) i.measured i.lengths (record { within = c.self.invariant.within; first = c.self.invariant.first }))

pub returns-else-begins_with_moment-clause-ok : goal.returns-else-begins_with_moment-clause-ok
returns-else-begins_with_moment-clause-ok c =
    let waiting = c.split_at.result.0.now in
    let behind = c.split_at.result.1.now in
    let so_many : c.len-count.result ≡ length c.self.inside.records.items = omega (arith, c.len-count.ensures) in
    let first = c.split_at.ensures.front ∙ ap (take c.len-count.result) c.as_slice.ensures.value in
    let rest = c.split_at.ensures.back ∙ ap (drop c.len-count.result) c.as_slice.ensures.value in
    let stays = unreplaced c.self.inside.records.items (effects_in c.args.made.now) c.give_to.new.effects.items waiting behind c.len-count.result c.in_ok-give_to.ensures.ok so_many
    first rest in
    let as_was = ap (λ (l : List Effect). followed l (effects_in c.args.made.now)) c.self.view_is in
    elim c.else-begins_with_moment.branch [
      | else-begins_with_moment-via-then-begins_with_moment+else-ends_with_moment w ↦
          w.self-is
          ∙ stays (ap (λ (b : Bool). b && ends_with_moment waiting) (sym w.if-begins_with_moment.ensures.value) ∙ sym w.if-ends_with_moment.ensures.value)
          ∙ as_was
      | else-begins_with_moment-via-else-begins_with_moment w ↦
          w.self-is ∙ stays (ap (λ (b : Bool). b && ends_with_moment waiting) (sym w.if-begins_with_moment.ensures.value)) ∙ as_was
    ]
