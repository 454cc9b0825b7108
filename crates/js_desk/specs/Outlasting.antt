-- What a crash may leave of the volumes of a row of places after no call, and after several.
use Rattle.std.proofs.Common.{◌≡◌, ◌≤◌, ◌++◌, ℕ, List, [], Option, Some, refl, sym, subst}
use Rattle.std.specs.Prelude.{slice_get}
use Rattle.js_model.specs.declared.stream.State.{State}
use Rattle.js_model.specs.PlaceStates.{PlaceIn}
use Rattle.js_api.specs.Entries.{DeskEntry}
use Rattle.crash_laws.specs.Outlasting.{Outlasts}
use Rattle.crash_laws.specs.Timed.{Timed, timed_at}
use Rattle.crash_laws.proofs.Following.{outlasts_more, outlasts_nothing}
use Rattle.crash_laws.proofs.Timed.{timed_more}
use Rattle.place_engine.specs.Stepping.{Image}
use Rattle.js_desk.specs.Lasting.{PlaceOutlasts, PlacesOutlast, Row}

module _ {V : Type 0} (holds : Image → State → Type 0) (left : V → ℕ → Image → Type 0) (clock : V → ℕ) (base : Option ℕ → V → State → Type 0)
    (earlier : (v : V) (t u : ℕ) (image : Image) → t ≤ u → left v u image → left v t image) where
  -- one place was not called
  pub outlast_stays : (entries : List DeskEntry) (number : ℕ) (before : PlaceIn) (vol : V) (new : Row V) → timed_at number entries ≡ [] → slice_get new.places number ≡ Some before → slice_get new.vols number ≡ Some vol
      → PlaceOutlasts holds left clock base entries number before vol new
  outlast_stays entries number before vol new none there is = record {
    after = before;
    end = vol;
    is_there = there;
    is_vol = is;
    outlasts = subst (λ (es : List Timed). Outlasts holds left clock (base before.stopped vol) (base before.stopped vol) es before.state before.state vol vol) (sym none)
        (outlasts_nothing holds left clock (base before.stopped vol) earlier before.state vol);
  }

  -- none was
  pub outlast_quiet : (entries : List DeskEntry) (row : Row V) → ((number : ℕ) → timed_at number entries ≡ []) → PlacesOutlast holds left clock base row entries row
  outlast_quiet entries row none number before vol there is = outlast_stays entries number before vol row (none number) there is

  pub outlast_none : (row : Row V) → PlacesOutlast holds left clock base row [] row
  outlast_none row = outlast_quiet [] row (λ number. refl)

module _ {V : Type 0} (holds : Image → State → Type 0) (left : V → ℕ → Image → Type 0) (clock : V → ℕ) (base : Option ℕ → V → State → Type 0) where
  pub outlast_more : (first more : List DeskEntry) (a b c : Row V) → PlacesOutlast holds left clock base a first b → PlacesOutlast holds left clock base b more c → PlacesOutlast holds left clock base a (first ++ more) c
  outlast_more first more a b c h k number before vol there is =
      let one = h number before vol there is in
      let other = k number one.after one.end one.is_there one.is_vol in
      record {
        after = other.after;
        end = other.end;
        is_there = other.is_there;
        is_vol = other.is_vol;
        outlasts = subst (λ (es : List Timed). Outlasts holds left clock (base before.stopped vol) (base other.after.stopped other.end) es before.state other.after.state vol other.end) (sym (timed_more number first more))
            (outlasts_more holds left clock (base before.stopped vol) (base one.after.stopped one.end) (base other.after.stopped other.end) (timed_at number first) (timed_at number more) before.state one.after.state other.after.state vol one.end other.end one.outlasts other.outlasts);
      }
