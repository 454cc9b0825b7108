-- What is due, and a progress as spent deliveries are given up, one by one.
use Rattle.std.proofs.Common.{◌≡◌, ℕ, ◌+◌, ◌<◌, ◌≤◌, ◌==◌, ◌&&◌, ◌||◌, Bool, true, false, cond, not, List, [], ◌∷◌, length, refl, sym, ap, ◌∙◌, subst, arith, ◌⊎◌, inl, inr}
use Rattle.std.specs.Prelude.{filter, find, fold, nat_le, nat_lt, All, Option, Some, None}
use Rattle.std.specs.List.{list_any}
use Rattle.std.proofs.lemmas.Bool.{eq-eqb, eqb-false, false_from_ne_true, ltb-false, ltb-true, ne_eqb, or_from, or_left, or_parts, or_right, true≢false}
use Rattle.std.proofs.lemmas.List.Elements.{All-cons, All-head, All-nil, All-tail}
use Rattle.js_base.specs.Bytes.{has}
use Rattle.js_model.specs.declared.consumer.Pending.{Pending}
use Rattle.js_model.specs.Advance.{placed}
use Rattle.js_model.specs.Deliver.{with_pending, without_first}
use Rattle.js_model.specs.Lists.{Between, IsPart, keep, skip, none}
use Rattle.js_model.specs.Streams.{below_limit}
use Rattle.js_model.proofs.Lacking.{apart-parts, has-part, has-placed}
use Rattle.js_model.proofs.Members.{found_in, in_bounds, IsIn, here, there}
use Rattle.js_model.proofs.Parts.{all_part, part_between, part_map}
use Rattle.pending_table.specs.Asked.{with_found}
use Rattle.consumer_progress.specs.Progresses.{seqs_of, IsProgress, Progress}
use Rattle.consumer_progress.specs.GivingUp.{is_due, is_spent, with_given_up}
use Rattle.consumer_progress.proofs.Seqs.{seqs_placed}

-- ---- what is due

pub due_found : (now : ℕ) (most : Option ℕ) (ps : List Pending) → All (λ e. nat_le e.due now ≡ true → below_limit e.count most ≡ true) ps → find (λ p. nat_le p.due now) ps ≡ find (is_due now most) ps
due_found now most [] h = refl
due_found now most (p ∷ ps) h =
    go (nat_le p.due now) (All-head (λ e. nat_le e.due now ≡ true → below_limit e.count most ≡ true) p ps h) (due_found now most ps (All-tail (λ e. nat_le e.due now ≡ true → below_limit e.count most ≡ true) p ps h))
  where
    go : (b : Bool) → (b ≡ true → below_limit p.count most ≡ true) → find (λ p. nat_le p.due now) ps ≡ find (is_due now most) ps
        → cond b (Some p) (find (λ p. nat_le p.due now) ps) ≡ cond (b && below_limit p.count most) (Some p) (find (is_due now most) ps)
    go true f k = sym (ap (λ b. cond b (Some p) (find (is_due now most) ps)) (f refl))
    go false f k = k

-- ---- the first entry that passes a test goes

module _ (t : Pending → Bool) where
  first_kept : (ps : List Pending) → filter (λ p. not (t p)) (without_first t ps) ≡ filter (λ p. not (t p)) ps
  first_kept [] = refl
  first_kept (p ∷ ps) = go (t p) refl (first_kept ps)
    where
      go : (b : Bool) → t p ≡ b → filter (λ p. not (t p)) (without_first t ps) ≡ filter (λ p. not (t p)) ps → filter (λ p. not (t p)) (cond b ps (p ∷ without_first t ps)) ≡ cond (not b) (p ∷ filter (λ p. not (t p)) ps) (filter (λ p. not (t p)) ps)
      go true e k = refl
      go false e k = ap (λ b. cond (not b) (p ∷ filter (λ p. not (t p)) (without_first t ps)) (filter (λ p. not (t p)) (without_first t ps))) e ∙ ap (λ qs. p ∷ qs) k

  -- those that pass are the first one, and those that pass without it
  first_passed : (q : Pending) (ps : List Pending) → find t ps ≡ Some q → filter t ps ≡ q ∷ filter t (without_first t ps)
  first_passed q [] h = absurd cc
  first_passed q (p ∷ ps) h = go (t p) refl (first_passed q ps) h
    where
      go : (b : Bool) → t p ≡ b → (find t ps ≡ Some q → filter t ps ≡ q ∷ filter t (without_first t ps)) → cond b (Some p) (find t ps) ≡ Some q → cond b (p ∷ filter t ps) (filter t ps) ≡ q ∷ filter t (cond b ps (p ∷ without_first t ps))
      go true e f k = let same : p ≡ q = cc k in ap (λ x. x ∷ filter t ps) same
      go false e f k = f k ∙ ap (λ b. q ∷ cond b (p ∷ filter t (without_first t ps)) (filter t (without_first t ps))) (sym e)

  none_passed : (ps : List Pending) → list_any t ps ≡ false → (filter t ps ≡ []) × (filter (λ p. not (t p)) ps ≡ ps) × (without_first t ps ≡ ps)
  none_passed [] h = (refl, refl, refl)
  none_passed (p ∷ ps) h =
      let parts = or_parts (t p) (list_any t ps) h in
      let rest = none_passed ps parts.1 in (
        ap (λ b. cond b (p ∷ filter t ps) (filter t ps)) parts.0 ∙ rest.0,
        ap (λ b. cond (not b) (p ∷ filter (λ p. not (t p)) ps) (filter (λ p. not (t p)) ps)) parts.0 ∙ ap (λ qs. p ∷ qs) rest.1,
        ap (λ b. cond b ps (p ∷ without_first t ps)) parts.0 ∙ ap (λ qs. p ∷ qs) rest.2,
      )

  found_any : (o : Option Pending) (ps : List Pending) → find t ps ≡ None → list_any t ps ≡ false
  found_any o [] h = refl
  found_any o (p ∷ ps) h = go (t p) (found_any o ps) h
    where
      go : (b : Bool) → (find t ps ≡ None → list_any t ps ≡ false) → cond b (Some p) (find t ps) ≡ None → (b || list_any t ps) ≡ false
      go true f k = absurd cc
      go false f k = f k

  pub fewer_passed : (ps : List Pending) → list_any t ps ≡ true → length (without_first t ps) < length ps
  fewer_passed [] h = absurd (true≢false (sym h))
  fewer_passed (p ∷ ps) h = go (t p) (fewer_passed ps) h
    where
      go : (b : Bool) → (list_any t ps ≡ true → length (without_first t ps) < length ps) → (b || list_any t ps) ≡ true → length (cond b ps (p ∷ without_first t ps)) < length (p ∷ ps)
      go true f k = omega arith
      go false f k = omega (arith, f k)

  one_fewer : (q : Pending) (ps : List Pending) → find t ps ≡ Some q → length (without_first t ps) + 1 ≡ length ps
  one_fewer q [] h = absurd cc
  one_fewer q (p ∷ ps) h = go (t p) (one_fewer q ps) h
    where
      go : (b : Bool) → (find t ps ≡ Some q → length (without_first t ps) + 1 ≡ length ps) → cond b (Some p) (find t ps) ≡ Some q → length (cond b ps (p ∷ without_first t ps)) + 1 ≡ length (p ∷ ps)
      go true f k = omega arith
      go false f k = omega (arith, f k)

  first_part : (ps : List Pending) → IsPart (without_first t ps) ps
  first_part [] = none
  first_part (p ∷ ps) = go (t p) (first_part ps)
    where
      go : (b : Bool) → IsPart (without_first t ps) ps → IsPart (cond b ps (p ∷ without_first t ps)) (p ∷ ps)
      go true h = skip (all_part ps)
      go false h = keep h

  all_others : (P : Pending → Type 0) (ps : List Pending) → All P ps → All P (without_first t ps)
  all_others P [] h = All-nil P
  all_others P (p ∷ ps) h = go (t p) (all_others P ps (All-tail P p ps h))
    where
      go : (b : Bool) → All P (without_first t ps) → All P (cond b ps (p ∷ without_first t ps))
      go true k = All-tail P p ps h
      go false k = All-cons P p (without_first t ps) (All-head P p ps h) k

-- ---- the sequences of a list that ascends

-- no sequence is below the first
none_before : (n low high : ℕ) (ps : List Pending) → Between (λ e. e.seq) low high ps → n < low → has (seqs_of ps) n ≡ false
none_before n low high [] h l = refl
none_before n low high (p ∷ ps) h l = let q : low ≤ p.seq = h.0 in or_from (p.seq == n) (has (seqs_of ps) n) (ne_eqb p.seq n (λ e. omega (arith, e, q, l))) (none_before n (p.seq + 1) high ps h.1 (omega (arith, q, l)))

-- the sequence of the entry that goes goes with it
gone : (t : Pending → Bool) (q : Pending) (low high : ℕ) (ps : List Pending) → Between (λ e. e.seq) low high ps → find t ps ≡ Some q → has (seqs_of (without_first t ps)) q.seq ≡ false
gone t q low high [] h f = absurd cc
gone t q low high (p ∷ ps) h f = go (t p) (gone t q (p.seq + 1) high ps h.1) f
  where
    go : (b : Bool) → (find t ps ≡ Some q → has (seqs_of (without_first t ps)) q.seq ≡ false) → cond b (Some p) (find t ps) ≡ Some q → has (seqs_of (cond b ps (p ∷ without_first t ps))) q.seq ≡ false
    go true r k =
        let same : p ≡ q = cc k in
        let at : p.seq ≡ q.seq = ap (λ (x : Pending). x.seq) same in
        none_before q.seq (p.seq + 1) high ps h.1 (omega (arith, at))
    go false r k =
        let inside = (found_in t q ps k).0 in
        let above : p.seq + 1 ≤ q.seq = (in_bounds (λ e. e.seq) (p.seq + 1) high q ps h.1 inside).0 in
        or_from (p.seq == q.seq) (has (seqs_of (without_first t ps)) q.seq) (ne_eqb p.seq q.seq (λ e. omega (arith, e, above))) (r k)

has_own : (q : Pending) (ps : List Pending) → IsIn q ps → has (seqs_of ps) q.seq ≡ true
has_own q [] h = elim h [ ]
has_own q (p ∷ ps) here = or_left (q.seq == q.seq) (has (seqs_of ps) q.seq) (eq-eqb q.seq q.seq refl)
has_own q (p ∷ ps) (there h) = or_right (p.seq == q.seq) (has (seqs_of ps) q.seq) (has_own q ps h)

between_placed : (low high n : ℕ) (ns : List ℕ) → Between (λ n. n) low high ns → low ≤ n → n < high → has ns n ≡ false → Between (λ n. n) low high (placed ns n)
between_placed low high n [] h l g e = (l, omega (arith, g))
between_placed low high n (m ∷ ns) h l g e = go (nat_lt m n) refl (between_placed (m + 1) high n ns h.1)
  where
    parts : ((m == n) ≡ false) × (has ns n ≡ false)
    parts = or_parts (m == n) (has ns n) e

    go : (b : Bool) → nat_lt m n ≡ b → (m + 1 ≤ n → n < high → has ns n ≡ false → Between (λ n. n) (m + 1) high (placed ns n)) → Between (λ n. n) low high (cond b (m ∷ placed ns n) (n ∷ m ∷ ns))
    go true q f = (h.0, f (let w : m < n = ltb-true m n q in omega (arith, w)) g parts.1)
    go false q f = (l, (let w : n ≤ m = ltb-false m n q in let d : m ≡ n → ⊥ = eqb-false m n parts.0 in omega (arith, w, d), h.1))

placed_length : (ns : List ℕ) (n : ℕ) → length (placed ns n) ≡ length ns + 1
placed_length [] n = omega arith
placed_length (m ∷ ns) n = go (nat_lt m n) (placed_length ns n)
  where
    go : (b : Bool) → length (placed ns n) ≡ length ns + 1 → length (cond b (m ∷ placed ns n) (n ∷ m ∷ ns)) ≡ length (m ∷ ns) + 1
    go true h = omega (arith, h)
    go false h = omega arith

-- ---- one delivery is given up

module _ (t : Pending → Bool) (p : Progress) (k : IsProgress p) where
  -- the progress with one delivery given up
  abbrev one : Pending → Progress
  one q = record p { pending = without_first t p.pending; given_up = placed p.given_up q.seq }

  one_progress : (q : Pending) → find t p.pending ≡ Some q → IsProgress (one q)
  one_progress q f = record {
    picks = k.picks;
    pending = part_between (λ e. e.seq) 0 p.cursor (first_part t p.pending) k.pending;
    given_up = between_placed 0 p.cursor q.seq p.given_up k.given_up (omega arith) (in_bounds (λ e. e.seq) 0 p.cursor q p.pending k.pending inside).1 (k.pending_given_up.apart q.seq waits);
    picks_pending = apart-parts (all_part p.picks) seqs k.picks_pending;
    picks_given_up = record { apart = λ n e. false_from_ne_true _ (λ w. not_pick n e (has-placed p.given_up q.seq n w)) };
    pending_given_up = record { apart = λ n e. false_from_ne_true _ (λ w. not_pending n e (has-placed p.given_up q.seq n w)) };
    counts = all_others t (λ e. e.count ≤ p.dseq) p.pending k.counts;
    few_picks = k.few_picks;
    few_delivered = omega (arith, one_fewer t q p.pending f, placed_length p.given_up q.seq, k.few_delivered);
  }
    where
      inside : IsIn q p.pending
      inside = (found_in t q p.pending f).0

      waits : has (seqs_of p.pending) q.seq ≡ true
      waits = has_own q p.pending inside

      seqs : IsPart (seqs_of (without_first t p.pending)) (seqs_of p.pending)
      seqs = part_map (λ e. e.seq) (first_part t p.pending)

      not_pick : (n : ℕ) → has p.picks n ≡ true → (has p.given_up n ≡ true) ⊎ (q.seq ≡ n) → ⊥
      not_pick n e (inl w) = true≢false (sym w ∙ k.picks_given_up.apart n e)
      not_pick n e (inr w) = true≢false (sym waits ∙ subst (λ (m : ℕ). has (seqs_of p.pending) m ≡ false) (sym w) (k.picks_pending.apart n e))

      not_pending : (n : ℕ) → has (seqs_of (without_first t p.pending)) n ≡ true → (has p.given_up n ≡ true) ⊎ (q.seq ≡ n) → ⊥
      not_pending n e (inl w) = true≢false (sym w ∙ k.pending_given_up.apart n (has-part n seqs e))
      not_pending n e (inr w) = true≢false (sym (subst (λ (m : ℕ). has (seqs_of (without_first t p.pending)) m ≡ true) (sym w) e) ∙ gone t q 0 p.cursor p.pending k.pending f)

  -- the table of those that are given up, with the entry that was found
  module _ (given : List Pending) (is : p.given_up ≡ seqs_of given) where
    abbrev after : Option Pending → Progress
    after o = record p { pending = without_first t p.pending; given_up = seqs_of (with_found given o) }

    seqs_after : (q : Pending) → find t p.pending ≡ Some q → seqs_of (with_pending given q) ≡ placed p.given_up q.seq
    seqs_after q f =
        seqs_placed given q (subst (λ (ns : List ℕ). has ns q.seq ≡ false) is (k.pending_given_up.apart q.seq (has_own q p.pending (found_in t q p.pending f).0)))
        ∙ ap (λ ns. placed ns q.seq) (sym is)

    pub moved_progress : (o : Option Pending) → find t p.pending ≡ o → IsProgress (after o)
    moved_progress None f =
        subst (λ (ps : List Pending). IsProgress (record p { pending = ps; given_up = seqs_of given })) (sym (none_passed t p.pending (found_any t None p.pending f)).2)
        (subst (λ (ns : List ℕ). IsProgress (record p { given_up = ns })) is k)
    moved_progress (Some q) f = subst (λ (ns : List ℕ). IsProgress (record p { pending = without_first t p.pending; given_up = ns })) (sym (seqs_after q f)) (one_progress q f)

    pub moved_same : (o : Option Pending) → find t p.pending ≡ o → fold placed (seqs_of (with_found given o)) (seqs_of (filter t (without_first t p.pending))) ≡ fold placed p.given_up (seqs_of (filter t p.pending))
    moved_same None f = ap (λ ns. fold placed ns (seqs_of (filter t (without_first t p.pending)))) (sym is) ∙ ap (λ ps. fold placed p.given_up (seqs_of (filter t ps))) (none_passed t p.pending (found_any t None p.pending f)).2
    moved_same (Some q) f =
        ap (λ ns. fold placed ns (seqs_of (filter t (without_first t p.pending)))) (seqs_after q f) ∙ ap (λ ps. fold placed p.given_up (seqs_of ps)) (sym (first_passed t q p.pending f))

-- ---- all deliveries that are spent

pub same_given_up : (now : ℕ) (most : Option ℕ) (p : Progress) (k : IsProgress p) (given : List Pending) (is : p.given_up ≡ seqs_of given)
    → with_given_up now most (record p { pending = without_first (is_spent now most) p.pending; given_up = seqs_of (with_found given (find (is_spent now most) p.pending)) }) ≡ with_given_up now most p
same_given_up now most p k given is =
    ap (λ (ps : List Pending). record p { pending = ps; given_up = fold placed (seqs_of (with_found given (find (is_spent now most) p.pending))) (seqs_of (filter (is_spent now most) (without_first (is_spent now most) p.pending))) }) (first_kept (is_spent now most) p.pending)
    ∙ ap (λ (ns : List ℕ). record p { pending = filter (λ e. not (is_spent now most e)) p.pending; given_up = ns }) (moved_same (is_spent now most) p k given is (find (is_spent now most) p.pending) refl)

pub nothing_spent : (now : ℕ) (most : Option ℕ) (p : Progress) → list_any (is_spent now most) p.pending ≡ false → with_given_up now most p ≡ p
nothing_spent now most p h =
    let none = none_passed (is_spent now most) p.pending h in
    ap (λ (ps : List Pending). record p { pending = ps; given_up = fold placed p.given_up (seqs_of (filter (is_spent now most) p.pending)) }) none.1
    ∙ ap (λ (ps : List Pending). record p { given_up = fold placed p.given_up (seqs_of ps) }) none.0

-- without a limit none is
pub none_limited : (now : ℕ) (ps : List Pending) → list_any (is_spent now None) ps ≡ false
none_limited now [] = refl
none_limited now (p ∷ ps) = or_from (is_spent now None p) (list_any (is_spent now None) ps) (never (nat_le p.due now)) (none_limited now ps)
  where
    never : (b : Bool) → (b && false) ≡ false
    never true = refl
    never false = refl

-- and none is among those that are left
pub none_left : (now : ℕ) (most : Option ℕ) (ps : List Pending) → list_any (is_spent now most) ps ≡ false → list_any (is_spent now most) (without_first (is_spent now most) ps) ≡ false
none_left now most ps h = ap (λ (qs : List Pending). list_any (is_spent now most) qs) (none_passed (is_spent now most) ps h).2 ∙ h
