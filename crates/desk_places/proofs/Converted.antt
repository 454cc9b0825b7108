-- What a crash may leave of entries at a place, told of what is seen of the place, is told of its volume.
use Rattle.std.proofs.Common.{◌≡◌, ⊎_elim, inl, inr, ℕ, ◌<◌, ◌≤◌, ◌++◌, List, [], ◌∷◌, Option, refl, sym, ap, subst, ◌∙◌, arith}
use Rattle.std.specs.Prelude.{◌↔◌}
use Rattle.js_model.specs.declared.stream.State.{State}
use Rattle.js_model.specs.declared.entry.PlaceEntry.{PlaceEntry}
use Rattle.place_engine.specs.Opening.{AllHold}
use Rattle.place_engine.specs.Stepping.{Image, IsKept, Seen}
use Rattle.place_engine.specs.Preparing.{RoomCauses}
use Rattle.crash_laws.specs.Timed.{Timed}
use Rattle.crash_laws.specs.Beginnings.{Beginning, Chain, Ever, IsLeftOf}
use Rattle.crash_laws.specs.Outlasting.{AreBetween, HasBases, Outlasts}
use Rattle.crash_laws.proofs.Timed.{entries_of}
use Rattle.desk_hold.specs.Crashes as seen_so

-- ---- entries with their moments

-- at each of their moments that is so, if this is
abbrev pub AreFine : Type 0 → (ℕ → Type 0) → List Timed → Type 0
AreFine may IsFine [] = Unit {0}
AreFine may IsFine (e ∷ more) = (may → IsFine e.by) × AreFine may IsFine more

timed_chain : (may : Type 0) (IsFine : ℕ → Type 0) (timed : List Timed) (old new : State) → AreFine may IsFine timed → seen_so.Chain may old (entries_of timed) new → Chain IsFine old timed new
timed_chain may IsFine [] old new fine h = h
timed_chain may IsFine (e ∷ more) old new fine h = (h.0, h.1, (λ firm. fine.0 (h.2 firm)), timed_chain may IsFine more h.0 new fine.1 h.3)

fine_behind : (may : Type 0) (IsFine : ℕ → Type 0) (first more : List Timed) → AreFine may IsFine (first ++ more) → AreFine may IsFine more
fine_behind may IsFine [] more h = h
fine_behind may IsFine (e ∷ first) more h = fine_behind may IsFine first more h.1

ever_fine : (timed : List Timed) → AreFine (Unit {0}) Ever timed
ever_fine [] = tt
ever_fine (e ∷ more) = ((λ u. tt), ever_fine more)

abbrev first_of : List PlaceEntry → PlaceEntry → PlaceEntry
first_of [] e = e
first_of (x ∷ xs) e = x

abbrev rest_of : List PlaceEntry → List PlaceEntry
rest_of [] = []
rest_of (x ∷ xs) = xs

-- cut as its entries are
record Cut (timed : List Timed) (first more : List PlaceEntry) : Type 0 where
  before : List Timed
  behind : List Timed
  whole : timed ≡ before ++ behind
  first_are : entries_of before ≡ first
  more_are : entries_of behind ≡ more

cut_so : (timed : List Timed) (first more : List PlaceEntry) → entries_of timed ≡ first ++ more → Cut timed first more
cut_so timed [] more h = record { before = []; behind = timed; whole = refl; first_are = refl; more_are = h }
cut_so [] (e ∷ first) more h = absurd (cc)
cut_so (t ∷ timed) (e ∷ first) more h =
    let next = cut_so timed first more (ap rest_of h) in
    record {
      before = t ∷ next.before;
      behind = next.behind;
      whole = ap (λ (ts : List Timed). t ∷ ts) next.whole;
      first_are = ap (λ (x : PlaceEntry). x ∷ entries_of next.before) (ap (λ (xs : List PlaceEntry). first_of xs e) h) ∙ ap (λ (xs : List PlaceEntry). e ∷ xs) next.first_are;
      more_are = next.more_are;
    }

none_of : (timed : List Timed) → entries_of timed ≡ [] → timed ≡ []
none_of [] h = refl
none_of (t ∷ timed) h = absurd (cc)

-- what is left of the entries is left of them with their moments
timed_left : (may : Type 0) (t : ℕ) (is_base IsBase : State → Type 0) → ((b : State) → is_base b → IsBase b) → (old : State) (timed : List Timed) (new left : State) → AreFine may (λ by. t < by) timed
    → seen_so.IsLeftOf may is_base old (entries_of timed) new left → IsLeftOf t IsBase old timed new left
timed_left may t is_base IsBase bases old timed new left fine h =
    let cut = cut_so timed h.first h.more h.entries_are in
    let begins : Beginning t old timed new = record {
      first = cut.before;
      more = cut.behind;
      entries_are = cut.whole;
      mid = h.mid;
      stays = timed_chain (Unit {0}) Ever cut.before old h.mid (ever_fine cut.before) (subst (λ (es : List PlaceEntry). seen_so.Chain (Unit {0}) old es h.mid) (sym cut.first_are) h.stays);
      lost = timed_chain may (λ by. t < by) cut.behind h.mid new
          (fine_behind may (λ by. t < by) cut.before cut.behind (subst (λ (ts : List Timed). AreFine may (λ by. t < by) ts) cut.whole fine))
          (subst (λ (es : List PlaceEntry). seen_so.Chain may h.mid es new) (sym cut.more_are) h.lost);
    } in
    record { beginning = begins; left_is = ⊎_elim (λ e. inl e) (λ e. inr (none_of cut.before (cut.first_are ∙ e.0), bases left e.1)) h.left_is }

-- ---- a place and its volume

module _ {P V : Type 0} (seen : P → Seen) (vol : P → V) (holds : Image → State → Type 0) (reads : V → Image → Type 0) (left : V → ℕ → Image → Type 0) (clock faults : V → ℕ) (causes : RoomCauses V) (base : Option ℕ → V → State → Type 0)
    (bases : (p : P) (b : State) → (seen p).is_base b ↔ base (seen p).place.stopped (vol p) b)
    (leaves : (p : P) (t : ℕ) (image : Image) → (seen p).left_since t image ↔ left (vol p) t image)
    (stands : (p : P) → ((seen p).place.volume.moment ≡ clock (vol p)) × ((seen p).place.volume.faults ≡ faults (vol p)) × ((seen p).place.volume.refusals ≡ causes.refusals (vol p))) where
  -- a crash now may leave an image of a base alone
  pub has_bases : (p : P) → IsKept holds (seen p) → HasBases holds left clock (base (seen p).place.stopped (vol p)) (vol p)
  has_bases p kept image is_left =
      let b = kept.now image (subst (λ (t : ℕ). (seen p).left_since t image) (sym (stands p).0) ((leaves p (clock (vol p)) image).1 is_left)) in
      (b.0, b.1, (bases p b.0).0 b.2)

  -- its volume holds this, if this is its one base
  pub all_hold : (p : P) → IsKept holds (seen p) → ((image : Image) → reads (vol p) image → (b : State) × holds image b × (seen p).is_base b) → (state : State)
      → ((b : State) → (seen p).is_base b → b ≡ state) → AllHold holds reads left clock (vol p) state
  all_hold p kept read state only = record {
    read = λ image is. let b = read image is in subst (λ (s : State). holds image s) (only b.0 b.2) b.1;
    now = λ image is_left. let b = has_bases p kept image is_left in subst (λ (s : State). holds image s) (only b.0 ((bases p b.0).1 b.2)) b.1;
  }

  module _ (p q : P) (kept : IsKept holds (seen q)) (IsEarly : ℕ → Type 0) (timed : List Timed)
      (later : (seen p).place.volume.moment ≤ (seen q).place.volume.moment)
      (between : AreBetween (seen p).place.volume.moment (seen q).place.volume.moment timed)
      (early : (t : ℕ) → AreFine (IsEarly t) (λ by. t < by) timed)
      (h : seen_so.Outlasts holds IsEarly (entries_of timed) (seen p) (seen q)) where
    left_so : (t : ℕ) (l : State) → (may : Type 0) → AreFine may (λ by. t < by) timed → seen_so.IsLeftOf may (seen p).is_base (seen p).place.state (entries_of timed) (seen q).place.state l
        → IsLeftOf t (base (seen p).place.stopped (vol p)) (seen p).place.state timed (seen q).place.state l
    left_so t l may fine k = timed_left may t (seen p).is_base (base (seen p).place.stopped (vol p)) (λ b is. (bases p b).0 is) (seen p).place.state timed (seen q).place.state l fine k

    never_fine : (t : ℕ) (ts : List Timed) → AreFine ⊥ (λ by. t < by) ts
    never_fine t [] = tt
    never_fine t (e ∷ more) = ((λ no. absurd no), never_fine t more)

    pub outlasts_so : Outlasts holds left clock (base (seen p).place.stopped (vol p)) (base (seen q).place.stopped (vol q)) timed (seen p).place.state (seen q).place.state (vol p) (vol q)
    outlasts_so had = record {
      later = omega (arith, later, (stands p).0, (stands q).0);
      led = timed_chain (Unit {0}) Ever timed (seen p).place.state (seen q).place.state (ever_fine timed) h.led;
      between = subst (λ (n : ℕ). AreBetween n (clock (vol q)) timed) (stands p).0 (subst (λ (n : ℕ). AreBetween (seen p).place.volume.moment n timed) (stands q).0 between);
      crash = λ t image is_left. ⊎_elim
          (λ before. inl (omega (arith, before.0, (stands p).0), (leaves p t image).0 before.1))
          (λ l. inr (l.0, l.1, left_so t l.0 (IsEarly t) (early t) l.2))
          (h.crash t image ((leaves q t image).1 is_left));
      base = λ b is. left_so (clock (vol q)) b ⊥ (never_fine (clock (vol q)) timed) (h.base b ((bases q b).1 is));
      bases = has_bases q kept;
    }
