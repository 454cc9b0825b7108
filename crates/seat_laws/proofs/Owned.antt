-- What a seat opened stays open and its own, and nothing else becomes its own, as long as other seats make the calls.
use Rattle.std.proofs.Common.{◌≡◌, ◌==◌, ◌+◌, ℕ, Bool, true, false, not, cond, ◌||◌, ◌&&◌, List, [], ◌∷◌, refl, sym, ap, ◌∙◌, subst, ◌⊎◌, inl, inr, arith}
use Rattle.std.specs.Prelude.{filter}
use Rattle.std.specs.List.{list_any}
use Rattle.std.proofs.lemmas.Bool.{true≢false, and_parts, or_cases, or_left, or_right, eqb-true, ne_eqb}
use Rattle.std.proofs.Math.Bool.{or-false}
use Rattle.std.proofs.lemmas.List.Folds.{list_any-append}
use Rattle.std.proofs.lemmas.Map.Views.{any-filter_same}
use Rattle.js_base.specs.Bytes.{has}
use Rattle.js_model.specs.Lists.{Between, Lacks}
use Rattle.js_model.specs.Router as router
use Rattle.js_model.specs.Router.{Router, Session, RouteCall, RouteTold, RouteEntry, is_session, is_open}
use Rattle.js_model.proofs.Parts.{none_below, between_from_map}
use Rattle.js_model.proofs.Lacking.{lacks-head, lacks-tail}
use Rattle.seat_laws.specs.Seats.{Opener, Openers, SharedRouter, AreOpeners, SeatRun, MayName, named, has_opened, is_opener, new_openers, openers_after, without_session}
use Rattle.seat_laws.specs.Laws.{IsOwn, is_by}
use Rattle.seat_laws.proofs.Lists.{any-map}
use Rattle.seat_laws.proofs.Kept.{step_keeps, run_keeps}

-- ---- one seat opened a session

opener_session : (seat n : ℕ) (o : Opener) → is_opener seat n o ≡ true → o.session ≡ n
opener_session seat n o h = eqb-true o.session n (and_parts (o.session == n) (o.seat == seat) h).0

opener_seat : (seat n : ℕ) (o : Opener) → is_opener seat n o ≡ true → o.seat ≡ seat
opener_seat seat n o h = eqb-true o.seat seat (and_parts (o.session == n) (o.seat == seat) h).1

abbrev AreAscending : ℕ → ℕ → Openers → Type 0
AreAscending low high openers = Between (λ (o : Opener). o.session) low high openers

-- behind a session's opener there is no other one of it
none_behind : (low high a b n : ℕ) (o : Opener) (os : Openers) → AreAscending low high (o ∷ os) → is_opener a n o ≡ true → has_opened os b n ≡ true
    → ⊥
none_behind low high a b n o os rises h k =
    let at : o.session ≡ n = opener_session a n o h in
    true≢false (sym k ∙ none_below (λ (x : Opener). x.session) (λ x. x.seat == b) n (o.session + 1) high os rises.1 (omega arith))

one_seat : (low high a b n : ℕ) (openers : Openers) → AreAscending low high openers → has_opened openers a n ≡ true → has_opened openers b n ≡ true
    → a ≡ b
one_seat low high a b n [] rises h k = absurd (true≢false (sym h))
one_seat low high a b n (o ∷ os) rises h k =
    go (or_cases (is_opener a n o) (has_opened os a n) h) (or_cases (is_opener b n o) (has_opened os b n) k)
    (one_seat (o.session + 1) high a b n os rises.1)
  where
    go : (is_opener a n o ≡ true) ⊎ (has_opened os a n ≡ true) → (is_opener b n o ≡ true) ⊎ (has_opened os b n ≡ true)
        → (has_opened os a n ≡ true → has_opened os b n ≡ true → a ≡ b) → a ≡ b
    go (inl p) (inl q) later = sym (opener_seat a n o p) ∙ opener_seat b n o q
    go (inl p) (inr q) later = absurd (none_behind low high a b n o os rises p q)
    go (inr p) (inl q) later = absurd (none_behind low high b a n o os rises q p)
    go (inr p) (inr q) later = later p q

pub opener_is : (s : SharedRouter) (a b n : ℕ) → AreOpeners s → has_opened s.openers a n ≡ true → has_opened s.openers b n ≡ true → a ≡ b
opener_is s a b n h =
    let high : ℕ = s.router.latest + 1 in
    let rises = subst (Between (λ (m : ℕ). m) 1 high) (sym h.same) h.ascending in
    one_seat 1 high a b n s.openers (between_from_map (λ (m : ℕ). m) (λ (o : Opener). o.session) 1 high s.openers rises)

-- ---- what is in the openers is open

any_session : (seat n : ℕ) (openers : Openers) → has_opened openers seat n ≡ true → list_any (λ (o : Opener). o.session == n) openers ≡ true
any_session seat n [] h = h
any_session seat n (o ∷ os) h = go (or_cases (is_opener seat n o) (has_opened os seat n) h) (any_session seat n os)
  where
    go : (is_opener seat n o ≡ true) ⊎ (has_opened os seat n ≡ true)
        → (has_opened os seat n ≡ true → list_any (λ (x : Opener). x.session == n) os ≡ true)
        → ((o.session == n) || list_any (λ (x : Opener). x.session == n) os) ≡ true
    go (inl p) later = or_left _ _ (and_parts (o.session == n) (o.seat == seat) p).0
    go (inr p) later = or_right _ _ (later p)

pub stands_open : (s : SharedRouter) (seat n : ℕ) → AreOpeners s → has_opened s.openers seat n ≡ true → is_open s.router n ≡ true
stands_open s seat n h k =
    sym (any-map (λ m. m == n) (λ (x : Session). x.number) s.router.sessions)
    ∙ ap (λ ns. has ns n) (sym h.same)
    ∙ any-map (λ m. m == n) (λ (o : Opener). o.session) s.openers
    ∙ any_session seat n s.openers k

-- ---- a call of another seat

-- what no item passes, none that is left passes
none_filtered : {X : Type 0} (test keep : X → Bool) (xs : List X) → list_any test xs ≡ false → list_any test (filter keep xs) ≡ false
none_filtered test keep [] h = refl
none_filtered test keep (x ∷ xs) h = go (keep x) (or_none (test x) (list_any test xs) h) (none_filtered test keep xs)
  where
    or_none : (a b : Bool) → (a || b) ≡ false → (a ≡ false) × (b ≡ false)
    or_none true b e = absurd (true≢false e)
    or_none false b e = (refl, e)

    go : (kept : Bool) → (test x ≡ false) × (list_any test xs ≡ false) → (list_any test xs ≡ false → list_any test (filter keep xs) ≡ false)
        → list_any test (cond kept (x ∷ filter keep xs) (filter keep xs)) ≡ false
    go true k later = ap (λ b. b || list_any test (filter keep xs)) k.0 ∙ later k.1
    go false k later = later k.1

-- a session is as it was in the openers if another one is closed
others_stay : (seat m n : ℕ) (openers : Openers) → (m ≡ n → ⊥) → has_opened (without_session m openers) seat n ≡ has_opened openers seat n
others_stay seat m n openers other = any-filter_same (is_opener seat n) (λ o. not (o.session == m)) true at_another openers
  where
    at_another : (o : Opener) → is_opener seat n o ≡ true → not (o.session == m) ≡ true
    at_another o k = ap not (ne_eqb o.session m (λ e. other (sym e ∙ opener_session seat n o k)))

module _ (s : SharedRouter) (by seat n : ℕ) (h : AreOpeners s) (other : by ≡ seat → ⊥) where
  -- what others open is not the seat's
  none_new : (told : RouteTold) → has_opened (new_openers by told) seat n ≡ false
  none_new router.Done = refl
  none_new (router.Opened m) = go (m == n) (by == seat) (ne_eqb by seat other)
    where
      go : (a b : Bool) → b ≡ false → ((a && b) || false) ≡ false
      go true b e = ap (λ c. c || false) e
      go false b e = refl
  none_new (router.Taken count) = refl
  none_new (router.Listens heard) = refl
  none_new (router.Frames list more) = refl
  none_new (router.Slow length) = refl
  none_new (router.NoSession latest) = refl
  none_new router.TooManySubs = refl
  none_new router.Worn = refl
  none_new router.NoMemory = refl

  -- nobody but the opener closes a session
  close_leaves : (m : ℕ) → has_opened s.openers by m ≡ true → (own : Bool) → has_opened s.openers seat n ≡ own
      → has_opened (without_session m s.openers) seat n ≡ own
  close_leaves m may true e =
      others_stay seat m n s.openers (λ k. other (opener_is s by seat n h (subst (λ (i : ℕ). has_opened s.openers by i ≡ true) k may) e)) ∙ e
  close_leaves m may false e = none_filtered (is_opener seat n) (λ o. not (o.session == m)) s.openers e

  call_leaves : (call : RouteCall) (told : RouteTold) → MayName s.openers by (named call)
      → has_opened (openers_after by call told s.openers) seat n ≡ has_opened s.openers seat n
  call_leaves router.Open told may =
      list_any-append (is_opener seat n) s.openers (new_openers by told) ∙ ap (λ b. has_opened s.openers seat n || b) (none_new told) ∙ or-false (has_opened s.openers seat n)
  call_leaves (router.Close m) told may = close_leaves m may (has_opened s.openers seat n) refl
  call_leaves (router.Options m echo headers) told may = refl
  call_leaves (router.Sub m pattern queue sid) told may = refl
  call_leaves (router.Unsub m sid max) told may = refl
  call_leaves (router.Publish out from) told may = refl
  call_leaves (router.Interest subject queue) told may = refl
  call_leaves (router.Collect m max) told may = refl

-- ---- runs

same_own : (seats : List ℕ) (seat n : ℕ) (old new : SharedRouter) (entries : List RouteEntry) → AreOpeners old → SeatRun old entries new
    → has seats seat ≡ true → Lacks (is_by seats) entries → has_opened new.openers seat n ≡ has_opened old.openers seat n
same_own seats seat n old new [] h k among foreign = ap (λ (s : SharedRouter). has_opened s.openers seat n) (sym k)
same_own seats seat n old new (entry ∷ entries) h k among foreign =
    same_own seats seat n k.0 new entries (step_keeps old k.0 entry h k.1) k.2 among (lacks-tail foreign)
    ∙ ap (λ (os : Openers). has_opened os seat n) k.1.after
    ∙ call_leaves old entry.seat seat n h other entry.call entry.told k.1.may
  where
    other : entry.seat ≡ seat → ⊥
    other e = true≢false (sym among ∙ ap (has seats) (sym e) ∙ lacks-head foreign)

pub stays : (seats : List ℕ) (seat n : ℕ) (old new : SharedRouter) (entries : List RouteEntry) → AreOpeners old → SeatRun old entries new
    → has seats seat ≡ true → Lacks (is_by seats) entries
    → (has_opened new.openers seat n ≡ has_opened old.openers seat n) × (has_opened old.openers seat n ≡ true → IsOwn seat n new)
stays seats seat n old new entries h k among foreign =
    let same = same_own seats seat n old new entries h k among foreign in
    (same, λ own. record { session_open = stands_open new seat n (run_keeps old new entries h k) (same ∙ own); own = same ∙ own })
