use Rattle.std.proofs.Common.{◌≡◌, ◌≢◌, refl, sym, ◌∙◌}
use Rattle.std.specs.Prelude.{Option, Some, None}
use Rattle.effects.specs.declared.effect.Effect.{Effect}
use Rattle.volume_place.proofs.Storing.{counted_one, counted_other, counted_without}
use Rattle.volume_place.proofs.room.count_with.Goals as goal

none_is : (o : Option Effect) → ((e : Effect) → o ≢ Some e) → o ≡ None
none_is None none = refl
none_is (Some e) none = absurd (none e refl)

pub returns-in_default : goal.returns-in_default
returns-in_default c = record { value = counted_without c.args.made.now c.args.stored (none_is c.args.made.now.own.effect (λ e. c.in_default.not-Some e)) }

pub returns-then-stores_message : goal.returns-then-stores_message
returns-then-stores_message c =
    record { value = counted_one c.args.made.now c.in-Some.effect c.args.stored c.saturating_add.result c.in-Some.is (sym c.stores_message.ensures.value ∙ c.if-stores_message.true) c.saturating_add.ensures }

pub returns-else-stores_message : goal.returns-else-stores_message
returns-else-stores_message c =
    record { value = counted_other c.args.made.now c.in-Some.effect c.args.stored c.in-Some.is (sym c.stores_message.ensures.value ∙ c.if-stores_message.false) }
