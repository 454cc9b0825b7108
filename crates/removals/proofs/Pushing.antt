-- The ranges of ascending sequences as one more of them leaves.
use Rattle.std.proofs.Common.{◌≡◌, ℕ, Bool, true, false, cond, List, [], ◌∷◌, ◌++◌, refl, sym, ap, ◌∙◌}
use Rattle.std.proofs.lemmas.Bool.{true≢false, false_from_ne_true}
use Rattle.js_base.specs.Bytes.{is_empty}
use Rattle.js_model.proofs.Members.{IsIn, here, there}
use Rattle.effects.specs.Ranges.{Range, first_leaves, widened, with_leaving, ranges}
use Rattle.effects.proofs.Agreeing.{append_assoc}
use Rattle.removals.specs.Removed.{noted}

-- the last of these sequences leaves
abbrev pub last_leaves : (ℕ → Bool) → List ℕ → Bool
last_leaves leaves [] = false
last_leaves leaves (n ∷ []) = leaves n
last_leaves leaves (n ∷ m ∷ ns) = last_leaves leaves (m ∷ ns)

-- ---- the same leave

first_agree : (p q : ℕ → Bool) (ns : List ℕ) → ((n : ℕ) → IsIn n ns → p n ≡ q n) → first_leaves p ns ≡ first_leaves q ns
first_agree p q [] h = refl
first_agree p q (n ∷ ns) h = h n here

pub ranges_agree : (p q : ℕ → Bool) (ns : List ℕ) → ((n : ℕ) → IsIn n ns → p n ≡ q n) → ranges p ns ≡ ranges q ns
ranges_agree p q [] h = refl
ranges_agree p q (n ∷ ns) h =
    ap (λ b. cond b (with_leaving n (first_leaves p ns) (ranges p ns)) (ranges p ns)) (h n here)
    ∙ ap (λ b. cond (q n) (with_leaving n b (ranges p ns)) (ranges p ns)) (first_agree p q ns (λ m i. h m (there i)))
    ∙ ap (λ rs. cond (q n) (with_leaving n (first_leaves q ns) rs) rs) (ranges_agree p q ns (λ m i. h m (there i)))

last_agree : (p q : ℕ → Bool) (ns : List ℕ) → ((n : ℕ) → IsIn n ns → p n ≡ q n) → last_leaves p ns ≡ last_leaves q ns
last_agree p q [] h = refl
last_agree p q (n ∷ []) h = h n here
last_agree p q (n ∷ m ∷ ns) h = last_agree p q (m ∷ ns) (λ k i. h k (there i))

-- ---- those at the end stay

pub ranges_none : (p : ℕ → Bool) (ns : List ℕ) → ((n : ℕ) → IsIn n ns → p n ≡ false) → ranges p ns ≡ []
ranges_none p [] h = refl
ranges_none p (n ∷ ns) h = ap (λ b. cond b (with_leaving n (first_leaves p ns) (ranges p ns)) (ranges p ns)) (h n here) ∙ ranges_none p ns (λ m i. h m (there i))

first_front : (p : ℕ → Bool) (ns ms : List ℕ) → ((n : ℕ) → IsIn n ms → p n ≡ false) → first_leaves p (ns ++ ms) ≡ first_leaves p ns
first_front p [] [] h = refl
first_front p [] (m ∷ ms) h = h m here
first_front p (n ∷ ns) ms h = refl

ranges_front : (p : ℕ → Bool) (ns ms : List ℕ) → ((n : ℕ) → IsIn n ms → p n ≡ false) → ranges p (ns ++ ms) ≡ ranges p ns
ranges_front p [] ms h = ranges_none p ms h
ranges_front p (n ∷ ns) ms h =
    ap (λ b. cond (p n) (with_leaving n b (ranges p (ns ++ ms))) (ranges p (ns ++ ms))) (first_front p ns ms h)
    ∙ ap (λ rs. cond (p n) (with_leaving n (first_leaves p ns) rs) rs) (ranges_front p ns ms h)

-- ---- there is a range where something leaves

widened_some : (n : ℕ) (rs : List Range) → is_empty rs ≡ false → is_empty (widened n rs) ≡ false
widened_some n [] e = e
widened_some n (r ∷ rs) e = refl

begins_some : (p : ℕ → Bool) (n : ℕ) (ns : List ℕ) → p n ≡ true → is_empty (ranges p (n ∷ ns)) ≡ false
begins_some p n [] e = ap (λ b. is_empty {X = Range} (cond b (record { low = n; high = n } ∷ []) [])) e
begins_some p n (m ∷ ms) e = ap (λ b. is_empty (cond b (with_leaving n (p m) (ranges p (m ∷ ms))) (ranges p (m ∷ ms)))) e ∙ own (p m) refl (begins_some p m ms)
  where
    own : (b : Bool) → p m ≡ b → (p m ≡ true → is_empty (ranges p (m ∷ ms)) ≡ false) → is_empty (with_leaving n b (ranges p (m ∷ ms))) ≡ false
    own true q k = widened_some n (ranges p (m ∷ ms)) (k q)
    own false q k = refl

more_some : (p : ℕ → Bool) (n : ℕ) (b : Bool) (rs : List Range) → is_empty rs ≡ false → is_empty (cond (p n) (with_leaving n b rs) rs) ≡ false
more_some p n b rs e = go (p n) b
  where
    go : (a b : Bool) → is_empty (cond a (with_leaving n b rs) rs) ≡ false
    go true true = widened_some n rs e
    go true false = refl
    go false b = e

pub last_some : (p : ℕ → Bool) (ns : List ℕ) → last_leaves p ns ≡ true → is_empty (ranges p ns) ≡ false
last_some p [] e = absurd (true≢false (sym e))
last_some p (n ∷ []) e = begins_some p n [] e
last_some p (n ∷ m ∷ ns) e = more_some p n (p m) (ranges p (m ∷ ns)) (last_some p (m ∷ ns) e)

pub some_in : (p : ℕ → Bool) (n : ℕ) (ns : List ℕ) → IsIn n ns → p n ≡ true → is_empty (ranges p ns) ≡ false
some_in p n [] i e = elim i [ ]
some_in p n (m ∷ ns) here e = begins_some p n ns e
some_in p n (m ∷ ns) (there i) e = more_some p m (first_leaves p ns) (ranges p ns) (some_in p n ns i e)

-- ---- one more leaves

noted_widened : (n m : ℕ) (b : Bool) (rs : List Range) → is_empty rs ≡ false → widened m (noted n b rs) ≡ noted n b (widened m rs)
noted_widened n m b [] e = absurd (true≢false e)
noted_widened n m true (r ∷ []) e = refl
noted_widened n m false (r ∷ []) e = refl
noted_widened n m b (r ∷ q ∷ rs) e = refl

pub noted_cons : (n : ℕ) (b : Bool) (r : Range) (rs : List Range) → (is_empty rs ≡ true → b ≡ false) → noted n b (r ∷ rs) ≡ r ∷ noted n b rs
noted_cons n b r [] h = ap (λ x. cond x (record { low = r.low; high = n } ∷ []) (r ∷ record { low = n; high = n } ∷ [])) (h refl)
noted_cons n b r (q ∷ rs) h = refl

ranges_push : (p : ℕ → Bool) (n : ℕ) (ns : List ℕ) → p n ≡ true → ranges p (ns ++ n ∷ []) ≡ noted n (last_leaves p ns) (ranges p ns)
ranges_push p n [] e = ap (λ b. cond b (record { low = n; high = n } ∷ []) []) e
ranges_push p n (a ∷ []) e =
    ap (λ b. cond (p a) (with_leaving a b (cond b (record { low = n; high = n } ∷ []) [])) (cond b (record { low = n; high = n } ∷ []) [])) e
    ∙ go (p a)
  where
    go : (b : Bool) → cond b (record { low = a; high = n } ∷ []) (record { low = n; high = n } ∷ []) ≡ noted n b (cond b (record { low = a; high = a } ∷ []) [])
    go true = refl
    go false = refl
ranges_push p n (a ∷ b ∷ cs) e = ap (λ rs. cond (p a) (with_leaving a (p b) rs) rs) (ranges_push p n (b ∷ cs) e) ∙ go (p a) (p b) refl
  where
    old : List Range
    old = ranges p (b ∷ cs)

    joins : Bool
    joins = last_leaves p (b ∷ cs)

    go : (x y : Bool) → p b ≡ y → cond x (with_leaving a y (noted n joins old)) (noted n joins old) ≡ noted n joins (cond x (with_leaving a y old) old)
    go false y q = refl
    go true true q = noted_widened n a joins old (begins_some p b cs q)
    go true false q = sym (noted_cons n joins (record { low = a; high = a }) old (λ k. false_from_ne_true joins (λ l. absurd (true≢false (sym k ∙ last_some p (b ∷ cs) l)))))

-- of these sequences one more leaves, which is behind all that left before
pub ranges_more : (p q : ℕ → Bool) (n : ℕ) (front back : List ℕ)
    → ((m : ℕ) → IsIn m front → q m ≡ p m) → q n ≡ true → p n ≡ false → ((m : ℕ) → IsIn m back → q m ≡ false) → ((m : ℕ) → IsIn m back → p m ≡ false)
    → ranges q (front ++ n ∷ back) ≡ noted n (last_leaves p front) (ranges p (front ++ n ∷ back))
ranges_more p q n front back same goes stayed stay stay_too =
    ap (ranges q) (sym (append_assoc front (n ∷ []) back))
    ∙ ranges_front q (front ++ n ∷ []) back stay
    ∙ ranges_push q n front goes
    ∙ ap (λ b. noted n b (ranges q front)) (last_agree q p front same)
    ∙ ap (noted n (last_leaves p front)) (ranges_agree q p front same ∙ sym (ranges_front p front (n ∷ back) before))
  where
    before : (m : ℕ) → IsIn m (n ∷ back) → p m ≡ false
    before m here = stayed
    before m (there i) = stay_too m i

-- and they are some, if the one before leaves
pub front_some : (p : ℕ → Bool) (n : ℕ) (front back : List ℕ) → p n ≡ false → ((m : ℕ) → IsIn m back → p m ≡ false) → last_leaves p front ≡ true → is_empty (ranges p (front ++ n ∷ back)) ≡ false
front_some p n front back stayed stay e = ap is_empty (ranges_front p front (n ∷ back) before) ∙ last_some p front e
  where
    before : (m : ℕ) → IsIn m (n ∷ back) → p m ≡ false
    before m here = stayed
    before m (there i) = stay m i
