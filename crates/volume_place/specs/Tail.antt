-- What of a place waits for a commit, by a rule of this server's own: what was made and is not firm waits, as long as all that waits is little and a tick does
-- not find it overdue; a firm step is committed before it is answered, and all that waits with it.
use Rattle.std.specs.Prelude.{◌≡◌, ◌⊎◌, ◌^◌, ℕ, nat_lt, Bool, true, false, ◌&&◌, List, [], ◌∷◌, length, Option}
use Rattle.std.specs.List.{flat_map}
use Rattle.js_model.specs.declared.event.Event.{Event}
use Rattle.js_model.specs.declared.reply.Reply.{Reply}
use Rattle.js_model.specs.declared.entry.Delivery.{Delivery}
use Rattle.js_model.specs.Firm.{IsFirmStep}
use Rattle.effects.specs.Effects.{delivery_effects}
use Rattle.effects.specs.declared.effect.Effect.{Effect}
use Rattle.op_records.specs.Spelling.{spelled}
use Rattle.place_engine.specs.Following.{followed, is_now}
use Rattle.place_engine.specs.Stepping.{IsFlushed, IsPutOff, LeavesVolume, Seen, effects_of}
use Rattle.volume_place.specs.Since.{IsOverdue}

-- fewer than 1,024 records, and less than 1 MiB as they are spelled with the messages that they store
abbrev pub is_small : List Effect → Bool
is_small effects = nat_lt (length effects) 1024 && nat_lt (length (flat_map spelled effects)) (2 ^ 20)

-- ---- what becomes of a step or of a delivery with these records

-- it is committed with all that waited, since it is urgent, or since all this is not little
pub record IsCommittedWith (urgent : Type 0) (made : List Effect) (old new : Seen) : Type 0 where
  pub cause : urgent ⊎ (is_small (followed old.waiting made) ≡ false)
  pub flushed : IsFlushed new

-- it waits behind what waited, and the volume is not called
pub record IsHeldBack (urgent : Type 0) (made : List Effect) (old new : Seen) : Type 0 where
  pub patient : ¬ urgent
  pub small : is_small (followed old.waiting made) ≡ true
  pub put_off : IsPutOff made old new
  pub volume : LeavesVolume old new

-- just one of the two
abbrev pub SharesCommit : Type 0 → List Effect → Seen → Seen → Type 0
SharesCommit urgent made old new = IsCommittedWith urgent made old new ⊎ IsHeldBack urgent made old new

-- a step is urgent if it is firm, or if it is a tick that finds overdue what waits since a moment
abbrev pub IsUrgent : Option ℕ → Reply → Event → ℕ → Seen → Seen → Type 0
IsUrgent since reply event now old new = IsFirmStep old.place.state event.what reply new.place.state ⊎ IsOverdue since event.what now

abbrev pub SharesStep : Option ℕ → Reply → Event → ℕ → Seen → Seen → Type 0
SharesStep since reply event now old new = SharesCommit (IsUrgent since reply event now old new) (effects_of event now old) old new

-- a delivery is never urgent
abbrev pub SharesDelivery : Delivery → ℕ → Seen → Seen → Type 0
SharesDelivery delivery now old new = SharesCommit ⊥ (delivery_effects old.place.state now delivery new.place.state) old new

-- ---- whether the last record tells the moment

abbrev pub ends_with_moment : List Effect → Bool
ends_with_moment [] = false
ends_with_moment (effect ∷ []) = is_now effect
ends_with_moment (effect ∷ next ∷ more) = ends_with_moment (next ∷ more)
