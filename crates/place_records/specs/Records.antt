-- The records of an event or of a delivery, in the order in which a volume's log has them: time's, its own, and those of what leaves by it.
use Rattle.std.specs.Prelude.{◌≡◌, ℕ, false, if◌then◌else◌, List, [], ◌∷◌, ◌++◌, None, map}
use Rattle.std.specs.Option.{option_to_list}
use Rattle.js_base.specs.Bytes.{Bytes}
use Rattle.effects.specs.TimeEffects.{remove_of}
use Rattle.effects.specs.declared.effect.Effect.{Effect}
use Rattle.effects.specs.declared.effect.Effect.TheVariants.{GivenUp, Now}
use Rattle.place_records.specs.declared.made.Made.{Made}
use Rattle.place_records.specs.declared.made.OwnRecords.{OwnRecords}
use Rattle.place_records.specs.declared.made.TimeRecords.{TimeRecords}

-- the moment, if it is recorded
abbrev pub seen_in : TimeRecords → List Effect
seen_in time = if time.seen then Now time.moment ∷ [] else []

abbrev pub gives_up : ℕ → Bytes → Effect
gives_up moment name = GivenUp name moment

abbrev pub time_in : TimeRecords → List Effect
time_in time = seen_in time ++ (map remove_of time.aged.ranges ++ map (gives_up time.moment) time.given_up)

abbrev pub own_in : OwnRecords → List Effect
own_in own = option_to_list own.effect ++ map remove_of own.removed.ranges

abbrev pub effects_in : Made → List Effect
effects_in made = time_in made.time ++ own_in made.own

-- ---- nothing is recorded yet

pub record IsFreshTime (time : TimeRecords) : Type 0 where
  pub unseen : time.seen ≡ false
  pub none_aged : time.aged.ranges ≡ []
  pub noted : time.aged.below ≡ None
  pub none_given_up : time.given_up ≡ []

pub record IsFreshOwn (own : OwnRecords) : Type 0 where
  pub none : own.effect ≡ None
  pub none_removed : own.removed.ranges ≡ []
  pub noted : own.removed.below ≡ None

pub record IsFresh (made : Made) : Type 0 where
  pub time : IsFreshTime made.time
  pub own : IsFreshOwn made.own
