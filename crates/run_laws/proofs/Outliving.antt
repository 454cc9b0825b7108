-- What a crash over a run may leave of its volumes.
use Rattle.std.proofs.Common.{◌≡◌, ◌+◌, ℕ, zero, suc, List, [], ◌∷◌, Option, None, Some, Result, Ok, Err, map, refl, sym, ap, subst, ◌∙◌}
use Rattle.std.specs.List.{AllZip}
use Rattle.std.specs.Prelude.{slice_get}
use Rattle.std.proofs.lemmas.List.{append-nil}
use Rattle.std.proofs.lemmas.Option.{same_Some}
use Rattle.js_model.specs.declared.stream.State.{State}
use Rattle.js_model.specs.Lasting.{lasting}
use Rattle.js_model.specs.PlaceStates.{PlaceIn}
use Rattle.place_engine.specs.declared.faults.OpenFault.{OpenFault}
use Rattle.place_engine.specs.declared.faults.PlaceFault.{PlaceFault}
use Rattle.place_engine.specs.Opening.{AllHold}
use Rattle.place_engine.specs.Stepping.{Image, Seen}
use Rattle.place_engine.specs.Preparing.{RoomCauses}
use Rattle.js_api.specs.Worlds.{Scene}
use Rattle.crash_laws.specs.Laws.{LawMore, LawOpened}
use Rattle.crash_laws.specs.Opened as opened_at
use Rattle.crash_laws.specs.Outlasting.{Outlasts}
use Rattle.crash_laws.specs.Timed.{Timed, timed_at}
use Rattle.desk_places.specs.Closing as closing
use Rattle.desk_places.specs.Closing.{End, first_failure}
use Rattle.desk_places.specs.Places.{places_by}
use Rattle.desk_places.specs.Opening as opening
use Rattle.server.specs.Attending.{run_entries}
use Rattle.run_laws.specs.Crashes.{LawRunOutlives}

-- ---- what stands at a place of a list

record At {X Y : Type 0} (R : X → Y → Type 0) (x : X) (ys : List Y) (n : ℕ) : Type 0 where
  y : Y
  is_there : slice_get ys n ≡ Some y
  holds : R x y

zip_at : {X Y : Type 0} (R : X → Y → Type 0) (xs : List X) (ys : List Y) (n : ℕ) (x : X) → AllZip R xs ys → slice_get xs n ≡ Some x → At R x ys n
zip_at R [] ys n x h e = absurd (cc)
zip_at R (a ∷ xs) [] n x h e = absurd h
zip_at R (a ∷ xs) (b ∷ ys) zero x h e = record { y = b; is_there = refl; holds = subst (λ z. R z b) (same_Some a x e) h.0 }
zip_at R (a ∷ xs) (b ∷ ys) (suc n) x h e = let k = zip_at R xs ys n x h.1 e in record { y = k.y; is_there = k.is_there; holds = k.holds }

map_at : {X Y : Type 0} (f : X → Y) (xs : List X) (n : ℕ) (x : X) → slice_get xs n ≡ Some x → slice_get (map f xs) n ≡ Some (f x)
map_at f [] n x e = absurd (cc)
map_at f (a ∷ xs) zero x e = ap (λ z. Some (f z)) (same_Some a x e)
map_at f (a ∷ xs) (suc n) x e = map_at f xs n x e

record From {X Y : Type 0} (f : X → Y) (xs : List X) (n : ℕ) (y : Y) : Type 0 where
  x : X
  is_there : slice_get xs n ≡ Some x
  gives : f x ≡ y

from_at : {X Y : Type 0} (f : X → Y) (xs : List X) (n : ℕ) (y : Y) → slice_get (map f xs) n ≡ Some y → From f xs n y
from_at f [] n y e = absurd (cc)
from_at f (a ∷ xs) zero y e = record { x = a; is_there = refl; gives = same_Some (f a) y e }
from_at f (a ∷ xs) (suc n) y e = let k = from_at f xs n y e in record { x = k.x; is_there = k.is_there; gives = k.gives }

same_at : {X : Type 0} (xs ys : List X) (n : ℕ) (x y : X) → xs ≡ ys → slice_get xs n ≡ Some x → slice_get ys n ≡ Some y → x ≡ y
same_at xs ys n x y e h k = same_Some x y (sym h ∙ ap (λ zs. slice_get zs n) e ∙ k)

-- ---- the closing

abbrev IsNoFailure : Option (Result (Unit {0}) PlaceFault) → Type 0
IsNoFailure None = Unit {0}
IsNoFailure (Some (Ok done)) = Unit {0}
IsNoFailure (Some (Err fault)) = ⊥

none_failed : (from : ℕ) (tolds : List (Option (Result (Unit {0}) PlaceFault))) (n : ℕ) (told : Option (Result (Unit {0}) PlaceFault)) → first_failure from tolds ≡ None → slice_get tolds n ≡ Some told
    → IsNoFailure told
none_failed from [] n told h e = absurd (cc)
none_failed from (None ∷ more) zero told h e = subst IsNoFailure (same_Some None told e) tt
none_failed from (None ∷ more) (suc n) told h e = none_failed (from + 1) more n told h e
none_failed from (Some (Ok done) ∷ more) zero told h e = subst IsNoFailure (same_Some (Some (Ok done)) told e) tt
none_failed from (Some (Ok done) ∷ more) (suc n) told h e = none_failed (from + 1) more n told h e
none_failed from (Some (Err fault) ∷ more) n told h e = absurd (cc)

module _ {P V : Type 0} (seen : P → Seen) (vol : P → V) (holds : Image → State → Type 0) (reads : V → Image → Type 0) (left : V → ℕ → Image → Type 0) (clock faults : V → ℕ) (causes : RoomCauses V)
    (base : Option ℕ → V → State → Type 0) (opens : V → State → Type 0) (refuses : V → OpenFault → Type 0) (keeps : V → V → Type 0) where
  abbrev OpensOn : V → P → Type 0
  OpensOn = opening.OpensOn seen vol holds reads left clock faults causes base opens refuses keeps

  abbrev place_of : P → PlaceIn
  place_of p = (seen p).place

  abbrev EndsAt : P → End V → Type 0
  EndsAt = closing.EndsAt seen vol holds reads left clock base keeps

  abbrev EndsSo : P → Option (Result (Unit {0}) PlaceFault) → V → Type 0
  EndsSo = closing.EndsSo seen vol holds reads left clock base keeps

  -- a place that was flushed without a failure has all on its volume
  flushed_so : (p : P) (told : Option (Result (Unit {0}) PlaceFault)) (end : V) → EndsSo p told end → IsNoFailure told → (seen p).place.stopped ≡ None
      → AllHold holds reads left clock end (lasting (seen p).place.state)
  flushed_so p None end h sound going = let clash = sym h.0.1 ∙ going in absurd (cc)
  flushed_so p (Some (Ok done)) end h sound going = h.1
  flushed_so p (Some (Err fault)) end h sound going = absurd sound

  module _ (more : LawMore holds left clock base) (law : LawOpened holds left clock base) where
    pub outlives : LawRunOutlives seen vol holds reads left clock faults causes base opens refuses keeps
    outlives stream status v0 v1 old new run number before opened there is =
        let o = run.opens in
        let entries = run_entries run.desk.scene.world.places stream run.after.scene run.outcome.status old (record new { sink = run.sink }) run.attended.attends in
        let first = zip_at OpensOn v0 o.row number before o.opened there in
        let p = first.y in
        let places : run.desk.scene.world.places ≡ places_by seen o.row = ap (λ (s : Scene). s.world.places) o.scene in
        let same : opened ≡ (seen p).place = same_at run.desk.scene.world.places (places_by seen o.row) number opened (seen p).place places is (map_at place_of o.row number p first.is_there) in
        let on : slice_get run.desk.vols number ≡ Some (vol p) = ap (λ (vs : List V). slice_get vs number) o.vols ∙ map_at vol o.row number p first.is_there in
        let m = run.attended.made.2 number opened (vol p) is on in
        let c = run.closes in
        let last = from_at place_of c.row number m.after (ap (λ (ps : List PlaceIn). slice_get ps number) c.stand ∙ m.is_there) in
        let q = last.x in
        let kept : vol q ≡ m.end = same_at (map vol c.row) run.after.vols number (vol q) m.end c.before (map_at vol c.row number q last.is_there) m.is_vol in
        let ends = zip_at EndsAt c.row c.closes.ends number q c.closes.ended last.is_there in
        let end = ends.y in
        let closed : Outlasts holds left clock (base m.after.stopped m.end) (base ends.holds.stopped end.vol) [] m.after.state m.after.state m.end end.vol =
        subst (λ (v : V). Outlasts holds left clock (base m.after.stopped v) (base ends.holds.stopped end.vol) [] m.after.state m.after.state v end.vol) kept
        (subst (λ (a : PlaceIn). Outlasts holds left clock (base a.stopped (vol q)) (base ends.holds.stopped end.vol) [] a.state a.state (vol q) end.vol) last.gives ends.holds.outlasts)
        in
        let whole = more opened.stopped m.after.stopped ends.holds.stopped (timed_at number entries) [] opened.state m.after.state m.after.state (vol p) m.end end.vol m.outlasts closed in
        let all : Outlasts holds left clock (base opened.stopped (vol p)) (base ends.holds.stopped end.vol) (timed_at number entries) opened.state m.after.state (vol p) end.vol =
        subst (λ (es : List Timed). Outlasts holds left clock (base opened.stopped (vol p)) (base ends.holds.stopped end.vol) es opened.state m.after.state (vol p) end.vol)
        (append-nil (timed_at number entries)) whole
        in
        let going : opened.stopped ≡ None = ap (λ (a : PlaceIn). a.stopped) same ∙ first.holds.opened.going in
        let since = subst (λ (s : State). AllHold holds reads left clock before s → opened_at.IsOpenedAt holds left clock (base None (vol p)) (clock before) s (vol p)) (sym (ap (λ (a : PlaceIn). a.state) same)) first.holds.since in
        record {
          after = m.after;
          end = end.vol;
          is_there = m.is_there;
          is_vol = ap (λ (vs : List V). slice_get vs number) (run.vols ∙ c.closes.after) ∙ map_at (λ (e : End V). e.vol) c.closes.ends number end ends.is_there;
          outlives = λ held t image le is_left.
              law ends.holds.stopped (clock before) (timed_at number entries) opened.state m.after.state (vol p) end.vol (since held)
              (subst (λ (o : Option ℕ). Outlasts holds left clock (base o (vol p)) (base ends.holds.stopped end.vol) (timed_at number entries) opened.state m.after.state (vol p) end.vol) going all)
              t image le is_left;
          flushed = λ none goes.
              let sound = none_failed 0 (map (λ (e : End V). e.told) c.closes.ends) number end.told (sym c.closes.failed_is ∙ none) (map_at (λ (e : End V). e.told) c.closes.ends number end ends.is_there) in
              subst (λ (a : PlaceIn). AllHold holds reads left clock end.vol (lasting a.state)) last.gives
              (flushed_so q end.told end.vol ends.holds.ends sound (ap (λ (a : PlaceIn). a.stopped) last.gives ∙ goes));
        }
