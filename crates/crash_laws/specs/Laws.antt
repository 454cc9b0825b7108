-- What a crash may leave of all that was made at a place.
use Rattle.std.specs.Prelude.{◌≡◌, ◌≤◌, ◌++◌, ℕ, List, [], map, Option, None}
use Rattle.js_model.specs.declared.stream.State.{State}
use Rattle.js_api.specs.Entries.{DeskEntry}
use Rattle.js_api.specs.Machines.{steps_at}
use Rattle.crash_laws.specs.Beginnings.{IsLastingOf}
use Rattle.crash_laws.specs.Opened.{IsOpenedAt}
use Rattle.crash_laws.specs.Outlasting.{Outlasts}
use Rattle.crash_laws.specs.Timed.{Timed, timed_at}

-- the timed entries of a place are those of its run
abbrev pub LawTimed : Type 0
LawTimed = (place : ℕ) (entries : List DeskEntry) → map (λ (e : Timed). e.entry) (timed_at place entries) ≡ steps_at place entries

-- Of a kind of place: which state an image of its volume holds, what a crash at some moment from one on may have left of the volume, its moment, and which
-- states it may hold whose place is stopped at a count of faults, or not stopped.
module _ {V Image : Type 0} (holds : Image → State → Type 0) (left : V → ℕ → Image → Type 0) (clock : V → ℕ) (base : Option ℕ → V → State → Type 0) where
  -- where nothing was made, a crash may leave what it could leave
  abbrev pub LawNothing : Type 0
  LawNothing = (stopped : Option ℕ) (state : State) (vol : V) → Outlasts holds left clock (base stopped vol) (base stopped vol) [] state state vol vol

  -- what a crash may leave of entries that follow others, it may leave of all of them
  abbrev pub LawMore : Type 0
  LawMore = (stopped still ever : Option ℕ) (first more : List Timed) (a b c : State) (u v w : V) → Outlasts holds left clock (base stopped u) (base still v) first a b u v
      → Outlasts holds left clock (base still v) (base ever w) more b c v w → Outlasts holds left clock (base stopped u) (base ever w) (first ++ more) a c u w

  -- Of a place that was opened, each image of a crash since then holds what outlives a crash of the state behind a beginning of what was made there, with
  -- all that were confirmed by the moment of the crash.
  abbrev pub LawOpened : Type 0
  LawOpened = (stopped : Option ℕ) (began : ℕ) (entries : List Timed) (old new : State) (v w : V) → IsOpenedAt holds left clock (base None v) began old v
      → Outlasts holds left clock (base None v) (base stopped w) entries old new v w → (t : ℕ) (image : Image) → began ≤ t → left w t image → (l : State) × holds image l × IsLastingOf t old entries new l
