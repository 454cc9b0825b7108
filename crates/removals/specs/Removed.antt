-- What is noted of the sequences that leave a stream, this server's own.
use Rattle.std.specs.Prelude.{◌≡◌, ℕ, ◌+◌, ◌≤◌, Bool, true, false, ◌&&◌, not, if◌then◌else◌, List, [], ◌∷◌, ◌++◌, Option}
use Rattle.js_base.specs.Bytes.{is_empty}
use Rattle.js_model.specs.Events.{is_below}
use Rattle.effects.specs.Ranges.{Range}

-- the ranges; how many more there is memory for; and the sequence from which on none is noted
pub record Removed : Type 0 where
  pub ranges : List Range
  pub spare : ℕ
  pub below : Option ℕ

-- the ranges with one sequence more: at the end of the last one if it joins, or alone
abbrev pub noted : ℕ → Bool → List Range → List Range
noted n joins [] = record { low = n; high = n } ∷ []
noted n joins (r ∷ []) = if joins then record { low = r.low; high = n } ∷ [] else r ∷ record { low = n; high = n } ∷ []
noted n joins (r ∷ q ∷ rs) = r ∷ noted n joins (q ∷ rs)

-- there is a range that it joins
abbrev pub extends : Bool → List Range → Bool
extends joins ranges = joins && not (is_empty ranges)

-- one sequence more can be noted without memory
abbrev pub HasPlace : Bool → Removed → Type 0
HasPlace joins r = extends joins r.ranges ≡ false → 1 ≤ r.spare

-- one sequence was noted, if it is below the bound; that took the memory for one range at most, and for none if it joined one
pub record NotesOne (n : ℕ) (joins : Bool) (old new : Removed) : Type 0 where
  pub ranges_are : new.ranges ≡ (if is_below old.below n then noted n joins old.ranges else old.ranges)
  pub below_same : new.below ≡ old.below
  pub spare : old.spare ≤ new.spare + 1
  pub joined : extends joins old.ranges ≡ true → old.spare ≤ new.spare

-- these ranges were noted
pub record Notes (old : Removed) (ranges : List Range) (new : Removed) : Type 0 where
  pub all : new.ranges ≡ old.ranges ++ ranges
  pub below_same : new.below ≡ old.below
