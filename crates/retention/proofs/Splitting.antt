-- What stands before and after a message in an ascending list, and the list without it.
use Rattle.std.proofs.Common.{◌≡◌, ℕ, ◌+◌, ◌<◌, ◌≤◌, Bool, true, false, ◌||◌, cond, not, List, [], ◌∷◌, ◌++◌, Some, refl, ap, ◌∙◌, subst, arith}
use Rattle.std.specs.Prelude.{◌==◌, filter, find}
use Rattle.std.specs.List.{AllByRecursion}
use Rattle.std.proofs.lemmas.Bool.{ne_eqb, eq-eqb}
use Rattle.std.proofs.lemmas.List.Elements.{filter-append}
use Rattle.js_base.specs.Bytes.{has}
use Rattle.js_model.specs.declared.stream.Message.{Message}
use Rattle.js_model.specs.Lists.{Between}
use Rattle.js_model.specs.Streams.{seqs}
use Rattle.js_model.proofs.Members.{IsIn, here, there, in_bounds}
use Rattle.js_model.proofs.Named.{none_some, some_is}

-- ---- the first that passes

-- the first element that passes, with those before it, which do not, and those after it
pub record IsSplit {X : Type 0} (test : X → Bool) (xs front : List X) (x : X) (back : List X) : Type 0 where
  pub whole : xs ≡ front ++ x ∷ back
  pub before : AllByRecursion (λ y. test y ≡ false) front
  pub passes : test x ≡ true

abbrev pub Split : {X : Type 0} → (X → Bool) → List X → X → Type 0
Split {X} test xs x = (front : List X) × (back : List X) × IsSplit test xs front x back

pub split_at_found : {X : Type 0} (test : X → Bool) (x : X) (xs : List X) → find test xs ≡ Some x → Split test xs x
split_at_found test x [] e = absurd (none_some e)
split_at_found {X} test x (y ∷ ys) e = go (split_at_found test x ys) (test y) refl e
  where
    go : (find test ys ≡ Some x → Split test ys x) → (b : Bool) → test y ≡ b → cond b (Some y) (find test ys) ≡ Some x → Split test (y ∷ ys) x
    go more true t f = subst (λ (z : X). Split test (y ∷ ys) z) (some_is f) ([], ys, record { whole = refl; before = tt; passes = t })
    go more false t f = let w = more f in (y ∷ w.0, w.1, record { whole = ap (λ l. y ∷ l) w.2.whole; before = (t, w.2.before); passes = w.2.passes })

-- ---- in an ascending list

abbrev pub Ascending : ℕ → ℕ → List Message → Type 0
Ascending low high ms = Between (λ m. m.seq) low high ms

middle : (front back : List Message) (m : Message) → IsIn m (front ++ m ∷ back)
middle [] back m = here
middle (x ∷ front) back m = there (middle front back m)

before_it : (low high : ℕ) (front back : List Message) (m : Message) → Ascending low high (front ++ m ∷ back) → AllByRecursion (λ x. x.seq < m.seq) front
before_it low high [] back m h = tt
before_it low high (x ∷ front) back m h =
    let after = in_bounds (λ m. m.seq) (x.seq + 1) high m (front ++ m ∷ back) h.1 (middle front back m) in
    let below : x.seq + 1 ≤ m.seq = after.0 in
    (omega arith, before_it (x.seq + 1) high front back m h.1)

pub all_after : (low high n : ℕ) (back : List Message) → Ascending low high back → n < low → AllByRecursion (λ x. n < x.seq) back
all_after low high n [] h l = tt
all_after low high n (x ∷ back) h l = let q : low ≤ x.seq = h.0 in (omega arith, all_after (x.seq + 1) high n back h.1 (omega arith))

after_it : (low high : ℕ) (front back : List Message) (m : Message) → Ascending low high (front ++ m ∷ back) → AllByRecursion (λ x. m.seq < x.seq) back
after_it low high [] back m h = all_after (m.seq + 1) high m.seq back h.1 (omega arith)
after_it low high (x ∷ front) back m h = after_it (x.seq + 1) high front back m h.1

-- ---- without it

abbrev stays : Message → Message → Bool
stays m x = not (has (seqs (m ∷ [])) x.seq)

stays_other : (m x : Message) → (m.seq == x.seq) ≡ false → stays m x ≡ true
stays_other m x e = ap (λ b. not (b || false)) e

goes_itself : (m : Message) → stays m m ≡ false
goes_itself m = ap (λ b. not (b || false)) (eq-eqb m.seq m.seq refl)

all_stay : (m : Message) (xs : List Message) → AllByRecursion (λ x. (m.seq == x.seq) ≡ false) xs → filter (stays m) xs ≡ xs
all_stay m [] h = refl
all_stay m (x ∷ xs) h = ap (λ b. cond b (x ∷ filter (stays m) xs) (filter (stays m) xs)) (stays_other m x h.0) ∙ ap (λ l. x ∷ l) (all_stay m xs h.1)

below_apart : (m : Message) (xs : List Message) → AllByRecursion (λ x. x.seq < m.seq) xs → AllByRecursion (λ x. (m.seq == x.seq) ≡ false) xs
below_apart m [] h = tt
below_apart m (x ∷ xs) h = let l : x.seq < m.seq = h.0 in (ne_eqb m.seq x.seq (λ e. omega arith), below_apart m xs h.1)

above_apart : (m : Message) (xs : List Message) → AllByRecursion (λ x. m.seq < x.seq) xs → AllByRecursion (λ x. (m.seq == x.seq) ≡ false) xs
above_apart m [] h = tt
above_apart m (x ∷ xs) h = let l : m.seq < x.seq = h.0 in (ne_eqb m.seq x.seq (λ e. omega arith), above_apart m xs h.1)

-- what is left without the message
pub without_it : (low high : ℕ) (front back : List Message) (m : Message) → Ascending low high (front ++ m ∷ back) → filter (stays m) (front ++ m ∷ back) ≡ front ++ back
without_it low high front back m h =
    filter-append (stays m) front (m ∷ back)
    ∙ ap (λ l. l ++ filter (stays m) (m ∷ back)) (all_stay m front (below_apart m front (before_it low high front back m h)))
    ∙ ap (λ b. front ++ cond b (m ∷ filter (stays m) back) (filter (stays m) back)) (goes_itself m)
    ∙ ap (λ l. front ++ l) (all_stay m back (above_apart m back (after_it low high front back m h)))

-- it is found by its sequence
pub found_by_seq : (low high : ℕ) (front back : List Message) (m : Message) → Ascending low high (front ++ m ∷ back) → find (λ x. x.seq == m.seq) (front ++ m ∷ back) ≡ Some m
found_by_seq low high [] back m h = ap (λ b. cond b (Some m) (find (λ x. x.seq == m.seq) back)) (eq-eqb m.seq m.seq refl)
found_by_seq low high (x ∷ front) back m h =
    let below = before_it low high (x ∷ front) back m h in
    let l : x.seq < m.seq = below.0 in
    ap (λ b. cond b (Some x) (find (λ x. x.seq == m.seq) (front ++ m ∷ back))) (ne_eqb x.seq m.seq (λ e. omega arith)) ∙ found_by_seq (x.seq + 1) high front back m h.1
