-- What a crash between two turns may leave of the volume of a place.
use Rattle.std.proofs.Common.{◌≡◌, ◌++◌, ◌<◌, ◌≤◌, ℕ, List, [], ◌∷◌, map, Option, sym, ap, subst, ◌∙◌, arith}
use Rattle.std.proofs.lemmas.List.{map-append}
use Rattle.js_model.specs.declared.stream.State.{State}
use Rattle.histories.specs.Entries.{Entry, AtPlace}
use Rattle.crash_laws.specs.Beginnings as timed_so
use Rattle.crash_laws.specs.Laws.{LawOpened}
use Rattle.crash_laws.specs.Outlasting.{AreBetween}
use Rattle.crash_laws.specs.Timed.{Timed}
use Rattle.crash_laws.proofs.Beginnings.{last_between}
use Rattle.crash_laws.proofs.Timed.{entries_of}
use Rattle.desk_hold.specs.Crashes.{Chain}
use Rattle.place_engine.specs.Stepping.{Image}
use Rattle.hub_place.specs.Laws.{IsLastingOf, LawValue}

untimed : (IsFine : ℕ → Type 0) (may : Type 0) (from until : ℕ) → ((by : ℕ) → by ≤ until → IsFine by → may) → (entries : List Timed) (old new : State) → AreBetween from until entries
    → timed_so.Chain IsFine old entries new → Chain may old (entries_of entries) new
untimed IsFine may from until so [] old new within h = h
untimed IsFine may from until so (e ∷ more) old new within h =
    (h.0, h.1, (λ firm. so e.by within.1 (h.2 firm)), untimed IsFine may from until so more h.0 new within.2 h.3)

first_between : (from until : ℕ) (first more : List Timed) → AreBetween from until (first ++ more) → AreBetween from until first
first_between from until [] more h = tt
first_between from until (e ∷ first) more h = (h.0, h.1, first_between from until first more h.2)

lasting_of : (from until : ℕ) (old : State) (entries : List Timed) (steps : List Entry) (new l : State) → steps ≡ map AtPlace (entries_of entries) → AreBetween from until entries
    → timed_so.IsLastingOf until old entries new l → IsLastingOf old steps new l
lasting_of from until old entries steps new l same within h =
    let b = h.beginning in
    let both : AreBetween from until (b.first ++ b.more) = subst (AreBetween from until) b.entries_are within in
    record {
      first = entries_of b.first;
      more = entries_of b.more;
      entries_are = same ∙ ap (map AtPlace) (ap entries_of b.entries_are ∙ map-append (λ (e : Timed). e.entry) b.first b.more);
      mid = b.mid;
      stays = untimed timed_so.Ever (Unit {0}) from until (λ by le fine. tt) b.first old b.mid (first_between from until b.first b.more both) b.stays;
      lost = untimed (λ by. until < by) ⊥ from until (λ by le late. let no : ⊥ = omega (arith, le, late) in no) b.more b.mid new (last_between from until b.first b.more both) b.lost;
      left_is = h.left_is;
    }

pub value_keeps : {V : Type 0} (holds : Image → State → Type 0) (left : V → ℕ → Image → Type 0) (clock : V → ℕ) (base : Option ℕ → V → State → Type 0) (keeps : V → V → Type 0)
    → LawOpened holds left clock base → LawValue holds left clock base keeps
value_keeps holds left clock base keeps law state faults id entries place vol port h image is_left =
    let l = h.lasts in
    let lasted = l.outlasts l.opened.opened.bases in
    let found = law place.stopped l.opened.began l.timed state place.state l.first vol l.opened.opened l.outlasts (clock vol) image (omega (arith, l.opened.before, lasted.later)) is_left in (
      found.0,
      found.1,
      lasting_of (clock l.first) (clock vol) state l.timed entries place.state found.0 (h.standing.same ∙ ap (map AtPlace) (sym l.steps_are)) lasted.between found.2,
    )
