-- What is left of entries that others follow.
use Rattle.std.proofs.Common.{◌≡◌, ◌⊎◌, ⊎_elim, inl, inr, ℕ, ◌<◌, ◌++◌, List, [], ◌∷◌, append-nil, append_assoc, refl, sym, ap, subst, ◌∙◌, arith}
use Rattle.std.proofs.lemmas.Bool.{cases_lt}
use Rattle.js_model.specs.declared.stream.State.{State}
use Rattle.js_model.specs.declared.entry.PlaceEntry.{PlaceEntry}
use Rattle.js_model.specs.Firm.{IsFirm}
use Rattle.js_model.specs.Lasting.{lasting}
use Rattle.place_engine.specs.Stepping.{Image, IsKept, Seen}
use Rattle.desk_hold.specs.Crashes.{Chain, IsEntry, IsLeftOf, MayCommit, Never, Outlasts}

-- ---- chains

pub loosened : (may might : Type 0) → (may → might) → (entries : List PlaceEntry) (old new : State) → Chain may old entries new → Chain might old entries new
loosened may might so [] old new h = h
loosened may might so (e ∷ more) old new h = (h.0, h.1, λ firm. so (h.2 firm), loosened may might so more h.0 new h.3)

pub chained : (may : Type 0) (first more : List PlaceEntry) (old mid new : State) → Chain may old first mid → Chain may mid more new → Chain may old (first ++ more) new
chained may [] more old mid new h k = subst (λ (s : State). Chain may s more new) (sym h) k
chained may (e ∷ first) more old mid new h k = (h.0, h.1, h.2, chained may first more h.0 mid new h.3 k)

-- one entry, which is confirmed only if it may be
pub one_entry : (may : Type 0) (e : PlaceEntry) (old new : State) → IsEntry old e new → (IsFirm old e new → may) → Chain may old (e ∷ []) new
one_entry may e old new made firm = (new, made, firm, refl)

-- ---- what is left

module _ (is_base : State → Type 0) (old : State) (entries : List PlaceEntry) (new : State) where
  pub left_if : (may might : Type 0) (left : State) → (may → might) → IsLeftOf may is_base old entries new left → IsLeftOf might is_base old entries new left
  left_if may might left so h = record {
    first = h.first;
    more = h.more;
    entries_are = h.entries_are;
    mid = h.mid;
    stays = h.stays;
    lost = loosened may might so h.more h.mid new h.lost;
    left_is = h.left_is;
  }

  -- none of them
  pub none_left : (may : Type 0) (left : State) → Chain may old entries new → (left ≡ lasting old) ⊎ is_base left → IsLeftOf may is_base old entries new left
  none_left may left chain is = record {
    first = [];
    more = entries;
    entries_are = refl;
    mid = old;
    stays = refl;
    lost = chain;
    left_is = ⊎_elim (λ e. inl e) (λ e. inr (refl, e)) is;
  }

  -- each of them
  pub all_left : (may : Type 0) (left : State) → Chain (Unit {0}) old entries new → left ≡ lasting new → IsLeftOf may is_base old entries new left
  all_left may left chain is = record {
    first = entries;
    more = [];
    entries_are = sym (append-nil entries);
    mid = new;
    stays = chain;
    lost = refl;
    left_is = inl is;
  }

module _ (may : Type 0) (is_base : State → Type 0) (old : State) (entries : List PlaceEntry) (mid : State) (more : List PlaceEntry) (new : State) where
  -- of those before, and the others are lost with what follows
  pub left_before : (left : State) → IsLeftOf may is_base old entries mid left → Chain may mid more new → IsLeftOf may is_base old (entries ++ more) new left
  left_before left h chain = record {
    first = h.first;
    more = h.more ++ more;
    entries_are = ap (λ (es : List PlaceEntry). es ++ more) h.entries_are ∙ append_assoc h.first h.more more;
    mid = h.mid;
    stays = h.stays;
    lost = chained may h.more more h.mid mid new h.lost chain;
    left_is = h.left_is;
  }

  -- of those that follow. What the volume may have held in between was left of those before
  pub left_behind : (is_held : State → Type 0) (left : State) → Chain (Unit {0}) old entries mid → ((b : State) → is_held b → IsLeftOf ⊥ is_base old entries mid b) → Chain ⊥ mid more new
      → IsLeftOf may is_held mid more new left → IsLeftOf may is_base old (entries ++ more) new left
  left_behind is_held left whole h chain k = ⊎_elim
      (λ is. record {
        first = entries ++ k.first;
        more = k.more;
        entries_are = ap (λ (es : List PlaceEntry). entries ++ es) k.entries_are ∙ sym (append_assoc entries k.first k.more);
        mid = k.mid;
        stays = chained (Unit {0}) entries k.first old mid k.mid whole k.stays;
        lost = k.lost;
        left_is = inl is;
      })
      (λ is. left_before left (left_if is_base old entries mid ⊥ may left (λ no. absurd no) (h left is.1)) (loosened ⊥ may (λ no. absurd no) more mid new chain))
      k.left_is

-- ---- at any moment

module _ (holds : Image → State → Type 0) where
  pub outlasts_if : (IsEarly IsSoon : ℕ → Type 0) (entries : List PlaceEntry) (old new : Seen) → ((t : ℕ) → IsEarly t → IsSoon t) → Outlasts holds IsEarly entries old new → Outlasts holds IsSoon entries old new
  outlasts_if IsEarly IsSoon entries old new so h = record {
    led = h.led;
    crash = λ t image left.
        ⊎_elim (λ before. inl before) (λ k. inr (k.0, k.1, left_if old.is_base old.place.state entries new.place.state (IsEarly t) (IsSoon t) k.0 (so t) k.2)) (h.crash t image left);
    base = h.base;
  }

  -- entries of which none is confirmed follow
  pub outlasts_more : (IsEarly : ℕ → Type 0) (entries more : List PlaceEntry) (old mid new : Seen) → Outlasts holds IsEarly entries old mid → Outlasts holds IsEarly more mid new
      → Chain ⊥ mid.place.state more new.place.state → Outlasts holds IsEarly (entries ++ more) old new
  outlasts_more IsEarly entries more old mid new h k chain = record {
    led = chained (Unit {0}) entries more old.place.state mid.place.state new.place.state h.led k.led;
    crash = λ t image left. ⊎_elim
        (λ before. ⊎_elim
        (λ earlier. inl earlier)
        (λ l. inr (
          l.0,
          l.1,
          left_before (IsEarly t) old.is_base old.place.state entries mid.place.state more new.place.state l.0 l.2 (loosened ⊥ (IsEarly t) (λ no. absurd no) more mid.place.state new.place.state chain),
        ))
        (h.crash t image before.1))
        (λ l. inr (l.0, l.1, left_behind (IsEarly t) old.is_base old.place.state entries mid.place.state more new.place.state mid.is_base l.0 h.led h.base chain l.2))
        (k.crash t image left);
    base = λ b held. left_behind ⊥ old.is_base old.place.state entries mid.place.state more new.place.state mid.is_base b h.led h.base chain (k.base b held);
  }

-- ---- one call

module _ (holds : Image → State → Type 0) (old new : Seen) (kept : IsKept holds old) (keeps : IsKept holds new) (commits : MayCommit holds old new) (entries : List PlaceEntry) where
  -- what the volume may have held, or what outlives a crash of what stands then
  pub either_left : (may : Type 0) (left : State) → Chain may old.place.state entries new.place.state → old.is_base left ⊎ (left ≡ lasting new.place.state)
      → IsLeftOf may old.is_base old.place.state entries new.place.state left
  either_left may left chain is = ⊎_elim
      (λ e. none_left old.is_base old.place.state entries new.place.state may left chain (inr e))
      (λ e. all_left old.is_base old.place.state entries new.place.state may left (loosened may (Unit {0}) (λ m. tt) entries old.place.state new.place.state chain) e)
      is

  -- an image of a crash within it
  pub crashed : (may : Type 0) (t : ℕ) (image : Image) → Chain may old.place.state entries new.place.state → new.left_since t image
      → ((t < old.place.volume.moment) × old.left_since t image) ⊎ ((left : State) × holds image left × IsLeftOf may old.is_base old.place.state entries new.place.state left)
  crashed may t image chain left = ⊎_elim
      (λ earlier. ⊎_elim (λ before. inl (earlier, before)) within (commits.time.goes_on t image (omega (arith, earlier)) left))
      (λ since. ⊎_elim
      (λ before. let now = kept.now image before in inr (now.0, now.1, none_left old.is_base old.place.state entries new.place.state may now.0 chain (inr now.2)))
      within
      (commits.time.goes_on old.place.volume.moment image (omega arith) (keeps.earlier old.place.volume.moment t image since left)))
      (cases_lt t old.place.volume.moment)
    where
      within : (d : State) × holds image d × (old.is_base d ⊎ (d ≡ lasting new.place.state))
          → ((t < old.place.volume.moment) × old.left_since t image) ⊎ ((d : State) × holds image d × IsLeftOf may old.is_base old.place.state entries new.place.state d)
      within h = inr (h.0, h.1, either_left may h.0 chain h.2)

  -- by a call none of whose entries is confirmed
  pub outlasts_call : Chain ⊥ old.place.state entries new.place.state → Outlasts holds Never entries old new
  outlasts_call chain = record {
    led = loosened ⊥ (Unit {0}) (λ no. tt) entries old.place.state new.place.state chain;
    crash = λ t image left. crashed ⊥ t image chain left;
    base = λ b held. either_left ⊥ b chain (commits.base b held);
  }

  -- by one that is on the volume at its end, if it is confirmed
  pub outlasts_firm : Chain (Unit {0}) old.place.state entries new.place.state → ((b : State) → new.is_base b → IsLeftOf ⊥ old.is_base old.place.state entries new.place.state b)
      → Outlasts holds (λ t. t < new.place.volume.moment) entries old new
  outlasts_firm whole base = record {
    led = whole;
    crash = λ t image left. ⊎_elim
        (λ early. crashed (t < new.place.volume.moment) t image (loosened (Unit {0}) (t < new.place.volume.moment) (λ u. early) entries old.place.state new.place.state whole) left)
        (λ late. inr (at_end t image (keeps.now image (keeps.earlier new.place.volume.moment t image late left))))
        (cases_lt t new.place.volume.moment);
    base = base;
  }
    where
      at_end : (t : ℕ) (image : Image) → ((d : State) × holds image d × new.is_base d)
          → (d : State) × holds image d × IsLeftOf (t < new.place.volume.moment) old.is_base old.place.state entries new.place.state d
      at_end t image h = (
        h.0,
        h.1,
        left_if old.is_base old.place.state entries new.place.state ⊥ (t < new.place.volume.moment) h.0 (λ no. absurd no) (base h.0 h.2),
      )

-- nothing was called
pub outlasts_nothing : (holds : Image → State → Type 0) (s : Seen) → IsKept holds s → Outlasts holds Never [] s s
outlasts_nothing holds s kept = outlasts_call holds s s kept kept commits [] refl
  where
    commits : MayCommit holds s s
    commits = record {
      time = record { faults = omega arith; refusals = omega arith; moments = omega arith; generations = omega arith; goes_on = λ t image le left. inl left };
      base = λ b held. inl held;
    }
