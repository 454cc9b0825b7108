-- What a crash may leave of the volume of a place after its flush: what is left of all that was made there since it was opened.
use Rattle.std.proofs.Common.{◌≡◌, ◌++◌, ◌<◌, ◌≤◌, ℕ, List, [], ◌∷◌, map, Option, None, sym, ap, subst, ◌∙◌, arith, append-nil}
use Rattle.std.proofs.lemmas.List.{map-append}
use Rattle.js_model.specs.declared.stream.State.{State}
use Rattle.js_model.specs.declared.entry.PlaceEntry.{PlaceEntry}
use Rattle.js_model.specs.PlaceStates.{PlaceIn}
use Rattle.crash_laws.specs.Beginnings as timed_so
use Rattle.crash_laws.specs.Laws.{LawOpened}
use Rattle.crash_laws.specs.Outlasting.{AreBetween, Lasted, Outlasts}
use Rattle.crash_laws.specs.Timed.{Timed}
use Rattle.crash_laws.proofs.Beginnings.{last_between}
use Rattle.crash_laws.proofs.Following.{outlasts_more}
use Rattle.crash_laws.proofs.Timed.{entries_of}
use Rattle.desk_hold.specs.Crashes.{Chain}
use Rattle.histories.specs.Entries.{Entry, AtPlace}
use Rattle.place_engine.specs.Stepping.{Image}
use Rattle.hub_place.specs.Lasting.{HasLasted}
use Rattle.hub_place.specs.Laws.{IsLastingOf}

-- ---- of entries that were answered by now all that are confirmed are left

untimed : (IsFine : ℕ → Type 0) (may : Type 0) (from until : ℕ) → ((by : ℕ) → by ≤ until → IsFine by → may) → (entries : List Timed) (old new : State) → AreBetween from until entries
    → timed_so.Chain IsFine old entries new → Chain may old (entries_of entries) new
untimed IsFine may from until so [] old new within h = h
untimed IsFine may from until so (e ∷ more) old new within h =
    (h.0, h.1, (λ firm. so e.by within.1 (h.2 firm)), untimed IsFine may from until so more h.0 new within.2 h.3)

first_between : (from until : ℕ) (first more : List Timed) → AreBetween from until (first ++ more) → AreBetween from until first
first_between from until [] more h = tt
first_between from until (e ∷ first) more h = (h.0, h.1, first_between from until first more h.2)

lasting_of : (from until : ℕ) (old : State) (entries : List Timed) (history : List Entry) (new l : State) → history ≡ map AtPlace (entries_of entries) → AreBetween from until entries
    → timed_so.IsLastingOf until old entries new l → IsLastingOf old history new l
lasting_of from until old entries history new l same within h =
    let b = h.beginning in
    let both : AreBetween from until (b.first ++ b.more) = subst (AreBetween from until) b.entries_are within in
    record {
      first = entries_of b.first;
      more = entries_of b.more;
      entries_are = same ∙ ap (map AtPlace) (ap entries_of b.entries_are ∙ map-append (λ (e : Timed). e.entry) b.first b.more);
      mid = b.mid;
      stays = untimed timed_so.Ever (Unit {0}) from until (λ by le fine. tt) b.first old b.mid (first_between from until b.first b.more both) b.stays;
      lost = untimed (λ by. until < by) ⊥ from until (λ by le late. let no : ⊥ = omega (arith, le, late) in no) b.more b.mid new (last_between from until b.first b.more both) b.lost;
      left_is = h.left_is;
    }

-- ---- what was made, and then the flush

module _ {V : Type 0} (holds : Image → State → Type 0) (left : V → ℕ → Image → Type 0) (clock : V → ℕ) (base : Option ℕ → V → State → Type 0) (keeps : V → V → Type 0)
    (law : LawOpened holds left clock base) (state : State) (steps : List PlaceEntry) (place : PlaceIn) (vol end : V) (h : HasLasted holds left clock base keeps state steps place vol) (stopped : Option ℕ)
    (flushed : Outlasts holds left clock (base place.stopped vol) (base stopped end) [] place.state place.state vol end) where
  whole : Outlasts holds left clock (base None h.first) (base stopped end) h.timed state place.state h.first end
  whole =
      subst (λ (es : List Timed). Outlasts holds left clock (base None h.first) (base stopped end) es state place.state h.first end) (append-nil h.timed)
      (outlasts_more holds left clock (base None h.first) (base place.stopped vol) (base stopped end) h.timed [] state place.state place.state h.first vol end h.outlasts flushed)

  pub left_of : (history : List Entry) → history ≡ map AtPlace steps → (image : Image) → left end (clock end) image → (l : State) × holds image l × IsLastingOf state history place.state l
  left_of history same image is_left =
      let lasted : Lasted holds left clock (base None h.first) (base stopped end) h.timed state place.state h.first end = whole h.opened.opened.bases in
      let found = law stopped h.opened.began h.timed state place.state h.first end h.opened.opened whole (clock end) image (omega (arith, h.opened.before, lasted.later)) is_left in (
        found.0,
        found.1,
        lasting_of (clock h.first) (clock end) state h.timed history place.state found.0 (same ∙ ap (map AtPlace) (sym h.steps_are)) lasted.between found.2,
      )
