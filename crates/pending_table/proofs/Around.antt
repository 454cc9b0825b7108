-- What stands on the sides of an entry in an ascending list, and what a call for one sequence finds and changes there.
use Rattle.std.proofs.Common.{◌≡◌, ℕ, ◌<◌, ◌==◌, Bool, true, false, cond, not, List, [], ◌∷◌, ◌++◌, Option, Some, None, map, refl, sym, ap, ◌∙◌, arith}
use Rattle.std.specs.Prelude.{filter, find, nat_lt}
use Rattle.std.specs.List.{AllByRecursion}
use Rattle.std.specs.Option.{option_or}
use Rattle.std.proofs.lemmas.Bool.{ne_eqb, eq-eqb, lt-ltb, le-ltb}
use Rattle.std.proofs.lemmas.List.{map-append}
use Rattle.std.proofs.lemmas.List.Elements.{filter-append}
use Rattle.std.proofs.lemmas.List.Folds.{find-append}
use Rattle.js_model.specs.declared.consumer.Pending.{Pending}
use Rattle.js_model.specs.Deliver.{with_pending}
use Rattle.pending_table.specs.declared.tree.Tree.{Tree, Empty, Fork'}
use Rattle.pending_table.specs.Trees.{entries, AreSides, IsAscending, IsOrdered, Lacks}

pub all_map : {X : Type 0} (P Q : X → Type 0) → ((x : X) → P x → Q x) → (xs : List X) → AllByRecursion P xs → AllByRecursion Q xs
all_map P Q f [] h = tt
all_map P Q f (x ∷ xs) h = (f x h.0, all_map P Q f xs h.1)

pub all_front : {X : Type 0} (P : X → Type 0) (xs ys : List X) → AllByRecursion P (xs ++ ys) → AllByRecursion P xs
all_front P [] ys h = tt
all_front P (x ∷ xs) ys h = (h.0, all_front P xs ys h.1)

pub all_back : {X : Type 0} (P : X → Type 0) (xs ys : List X) → AllByRecursion P (xs ++ ys) → AllByRecursion P ys
all_back P [] ys h = h
all_back P (x ∷ xs) ys h = all_back P xs ys h.1

pub all_both : {X : Type 0} (P : X → Type 0) (xs ys : List X) → AllByRecursion P xs → AllByRecursion P ys → AllByRecursion P (xs ++ ys)
all_both P [] ys h k = k
all_both P (x ∷ xs) ys h k = (h.0, all_both P xs ys h.1 k)

pub around : (left : List Pending) (e : Pending) (right : List Pending) → IsAscending (left ++ e ∷ right) → AreSides left e right
around [] e right h = record { below = tt; above = h.0 }
around (p ∷ left) e right h =
    let rest = around left e right h.1 in
    record { below = ((all_back (λ q. p.seq < q.seq) left (e ∷ right) h.0).0, rest.below); above = rest.above }

ascending_left : (left right : List Pending) → IsAscending (left ++ right) → IsAscending left
ascending_left [] right h = tt
ascending_left (p ∷ left) right h = (all_front (λ q. p.seq < q.seq) left right h.0, ascending_left left right h.1)

ascending_right : (left right : List Pending) → IsAscending (left ++ right) → IsAscending right
ascending_right [] right h = h
ascending_right (p ∷ left) right h = ascending_right left right h.1

pub ordered : (t : Tree) → IsAscending (entries t) → IsOrdered t
ordered Empty h = tt
ordered (Fork' p left e right bounds height) h = (
  around (entries left) e (entries right) h,
  ordered left (ascending_left (entries left) (e ∷ entries right) h),
  ordered right (right_of (ascending_right (entries left) (e ∷ entries right) h)),
)
  where
    right_of : IsAscending (e ∷ entries right) → IsAscending (entries right)
    right_of k = k.1

-- ---- what is found

pub find_none : {X : Type 0} (test : X → Bool) (xs : List X) → AllByRecursion (λ x. test x ≡ false) xs → find test xs ≡ None
find_none test [] h = refl
find_none test (x ∷ xs) h = ap (λ b. cond b (Some x) (find test xs)) h.0 ∙ find_none test xs h.1

or_none : {X : Type 0} (o : Option X) → option_or o None ≡ o
or_none None = refl
or_none (Some x) = refl

pub find_left : {X : Type 0} (test : X → Bool) (left right : List X) → AllByRecursion (λ x. test x ≡ false) right → find test (left ++ right) ≡ find test left
find_left test left right h = find-append test left right ∙ ap (λ o. option_or (find test left) o) (find_none test right h) ∙ or_none (find test left)

pub find_right : {X : Type 0} (test : X → Bool) (left right : List X) → AllByRecursion (λ x. test x ≡ false) left → find test (left ++ right) ≡ find test right
find_right test left right h = find-append test left right ∙ ap (λ o. option_or o (find test right)) (find_none test left h)

at_other : (seq n : ℕ) → n < seq → (n == seq) ≡ false
at_other seq n h = ne_eqb n seq (λ e. omega (arith, e, h))

at_other-2 : (seq n : ℕ) → seq < n → (n == seq) ≡ false
at_other-2 seq n h = ne_eqb n seq (λ e. omega (arith, e, h))

-- none of lesser, or of greater, sequences has this one
pub lesser_apart : (seq : ℕ) (ps : List Pending) → AllByRecursion (λ p. p.seq < seq) ps → AllByRecursion (λ p. (p.seq == seq) ≡ false) ps
lesser_apart seq ps h = all_map (λ p. p.seq < seq) (λ p. (p.seq == seq) ≡ false) (λ p k. at_other seq p.seq k) ps h

pub greater_apart : (seq : ℕ) (ps : List Pending) → AllByRecursion (λ p. seq < p.seq) ps → AllByRecursion (λ p. (p.seq == seq) ≡ false) ps
greater_apart seq ps h = all_map (λ p. seq < p.seq) (λ p. (p.seq == seq) ≡ false) (λ p k. at_other-2 seq p.seq k) ps h

module _ (left : List Pending) (e : Pending) (right : List Pending) (sides : AreSides left e right) (seq : ℕ) where
  -- an entry of this sequence would stand on the left
  pub apart_right : seq < e.seq → AllByRecursion (λ p. (p.seq == seq) ≡ false) (e ∷ right)
  apart_right h = (at_other-2 seq e.seq h, greater_apart seq right (all_map (λ p. e.seq < p.seq) (λ p. seq < p.seq) (λ p k. omega (arith, h, k)) right sides.above))

  -- on the right
  pub apart_left : e.seq < seq → AllByRecursion (λ p. (p.seq == seq) ≡ false) left
  apart_left h = lesser_apart seq left (all_map (λ p. p.seq < e.seq) (λ p. p.seq < seq) (λ p k. omega (arith, h, k)) left sides.below)

  pub apart_both : e.seq ≡ seq → AllByRecursion (λ p. (p.seq == seq) ≡ false) left × AllByRecursion (λ p. (p.seq == seq) ≡ false) right
  apart_both h = (
    lesser_apart seq left (all_map (λ p. p.seq < e.seq) (λ p. p.seq < seq) (λ p k. omega (arith, h, k)) left sides.below),
    greater_apart seq right (all_map (λ p. e.seq < p.seq) (λ p. seq < p.seq) (λ p k. omega (arith, h, k)) right sides.above),
  )

  pub get_left : seq < e.seq → find (λ p. p.seq == seq) (left ++ e ∷ right) ≡ find (λ p. p.seq == seq) left
  get_left h = find_left (λ p. p.seq == seq) left (e ∷ right) (apart_right h)

  pub get_right : e.seq < seq → find (λ p. p.seq == seq) (left ++ e ∷ right) ≡ find (λ p. p.seq == seq) right
  get_right h =
      find_right (λ p. p.seq == seq) left (e ∷ right) (apart_left h) ∙ ap (λ b. cond b (Some e) (find (λ p. p.seq == seq) right)) (at_other seq e.seq h)

  pub get_here : e.seq ≡ seq → find (λ p. p.seq == seq) (left ++ e ∷ right) ≡ Some e
  get_here h =
      find_right (λ p. p.seq == seq) left (e ∷ right) (apart_both h).0 ∙ ap (λ b. cond b (Some e) (find (λ p. p.seq == seq) right)) (eq-eqb e.seq seq h)

-- ---- an entry less

pub filter_same : {X : Type 0} (test : X → Bool) (xs : List X) → AllByRecursion (λ x. test x ≡ false) xs → filter (λ x. not (test x)) xs ≡ xs
filter_same test [] h = refl
filter_same test (x ∷ xs) h =
    ap (λ b. cond (not b) (x ∷ filter (λ x. not (test x)) xs) (filter (λ x. not (test x)) xs)) h.0 ∙ ap (λ ys. x ∷ ys) (filter_same test xs h.1)

module _ (left : List Pending) (e : Pending) (right : List Pending) (sides : AreSides left e right) (seq : ℕ) where
  pub removed_left : seq < e.seq → filter (λ p. not (p.seq == seq)) (left ++ e ∷ right) ≡ filter (λ p. not (p.seq == seq)) left ++ e ∷ right
  removed_left h =
      filter-append (λ (p : Pending). not (p.seq == seq)) left (e ∷ right)
      ∙ ap (λ ps. filter (λ p. not (p.seq == seq)) left ++ ps) (filter_same (λ p. p.seq == seq) (e ∷ right) (apart_right left e right sides seq h))

  pub removed_right : e.seq < seq → filter (λ p. not (p.seq == seq)) (left ++ e ∷ right) ≡ left ++ e ∷ filter (λ p. not (p.seq == seq)) right
  removed_right h =
      filter-append (λ (p : Pending). not (p.seq == seq)) left (e ∷ right)
      ∙ ap (λ ps. ps ++ filter (λ p. not (p.seq == seq)) (e ∷ right)) (filter_same (λ p. p.seq == seq) left (apart_left left e right sides seq h))
      ∙ ap (λ b. left ++ cond (not b) (e ∷ filter (λ p. not (p.seq == seq)) right) (filter (λ p. not (p.seq == seq)) right)) (at_other seq e.seq h)

  pub removed_here : e.seq ≡ seq → filter (λ p. not (p.seq == seq)) (left ++ e ∷ right) ≡ left ++ right
  removed_here h =
      let apart = apart_both left e right sides seq h in
      filter-append (λ (p : Pending). not (p.seq == seq)) left (e ∷ right)
      ∙ ap (λ ps. ps ++ filter (λ p. not (p.seq == seq)) (e ∷ right)) (filter_same (λ p. p.seq == seq) left apart.0)
      ∙ ap (λ b. left ++ cond (not b) (e ∷ filter (λ p. not (p.seq == seq)) right) (filter (λ p. not (p.seq == seq)) right)) (eq-eqb e.seq seq h)
      ∙ ap (λ ps. left ++ ps) (filter_same (λ p. p.seq == seq) right apart.1)

-- ---- another entry in the place of one

abbrev pub replaced : Pending → Pending → Pending
replaced new p = cond (p.seq == new.seq) new p

pub map_same : (new : Pending) (ps : List Pending) → AllByRecursion (λ p. (p.seq == new.seq) ≡ false) ps → map (replaced new) ps ≡ ps
map_same new [] h = refl
map_same new (p ∷ ps) h = ap (λ b. cond b new p ∷ map (replaced new) ps) h.0 ∙ ap (λ qs. p ∷ qs) (map_same new ps h.1)

module _ (left : List Pending) (e : Pending) (right : List Pending) (sides : AreSides left e right) (new : Pending) where
  pub replaced_left : new.seq < e.seq → map (replaced new) (left ++ e ∷ right) ≡ map (replaced new) left ++ e ∷ right
  replaced_left h =
      map-append (replaced new) left (e ∷ right)
      ∙ ap (λ ps. map (replaced new) left ++ ps) (map_same new (e ∷ right) (apart_right left e right sides new.seq h))

  pub replaced_right : e.seq < new.seq → map (replaced new) (left ++ e ∷ right) ≡ left ++ e ∷ map (replaced new) right
  replaced_right h =
      map-append (replaced new) left (e ∷ right)
      ∙ ap (λ ps. ps ++ map (replaced new) (e ∷ right)) (map_same new left (apart_left left e right sides new.seq h))
      ∙ ap (λ b. left ++ cond b new e ∷ map (replaced new) right) (at_other new.seq e.seq h)

  pub replaced_here : e.seq ≡ new.seq → map (replaced new) (left ++ e ∷ right) ≡ left ++ new ∷ right
  replaced_here h =
      let apart = apart_both left e right sides new.seq h in
      map-append (replaced new) left (e ∷ right)
      ∙ ap (λ ps. ps ++ map (replaced new) (e ∷ right)) (map_same new left apart.0)
      ∙ ap (λ b. left ++ cond b new e ∷ map (replaced new) right) (eq-eqb e.seq new.seq h)
      ∙ ap (λ ps. left ++ new ∷ ps) (map_same new right apart.1)

-- ---- an entry more

pub put_later : (p new : Pending) (ps : List Pending) → p.seq < new.seq → with_pending (p ∷ ps) new ≡ p ∷ with_pending ps new
put_later p new ps h = ap (λ b. cond b (p ∷ with_pending ps new) (cond (p.seq == new.seq) (new ∷ ps) (new ∷ p ∷ ps))) (lt-ltb p.seq new.seq h)

put_before : (p new : Pending) (ps : List Pending) → new.seq < p.seq → with_pending (p ∷ ps) new ≡ new ∷ p ∷ ps
put_before p new ps h =
    ap (λ b. cond b (p ∷ with_pending ps new) (cond (p.seq == new.seq) (new ∷ ps) (new ∷ p ∷ ps))) (le-ltb p.seq new.seq (omega (arith, h)))
    ∙ ap (λ b. cond b (new ∷ ps) (new ∷ p ∷ ps)) (at_other-2 new.seq p.seq h)

pub put_left : (left : List Pending) (e new : Pending) (right : List Pending) → new.seq < e.seq → with_pending (left ++ e ∷ right) new ≡ with_pending left new ++ e ∷ right
put_left [] e new right h = put_before e new right h
put_left (p ∷ left) e new right h = go (nat_lt p.seq new.seq) (p.seq == new.seq) (put_left left e new right h)
  where
    go : (a b : Bool) → with_pending (left ++ e ∷ right) new ≡ with_pending left new ++ e ∷ right
        → cond a (p ∷ with_pending (left ++ e ∷ right) new) (cond b (new ∷ left ++ e ∷ right) (new ∷ p ∷ left ++ e ∷ right)) ≡ cond a (p ∷ with_pending left new) (cond b (new ∷ left) (new ∷ p ∷ left)) ++ e ∷ right
    go true b k = ap (λ ps. p ∷ ps) k
    go false true k = refl
    go false false k = refl

pub put_right : (left : List Pending) (e new : Pending) (right : List Pending) → AllByRecursion (λ p. p.seq < e.seq) left → e.seq < new.seq → with_pending (left ++ e ∷ right) new ≡ left ++ e ∷ with_pending right new
put_right [] e new right below h = put_later e new right h
put_right (p ∷ left) e new right below h =
    let lesser : p.seq < e.seq = below.0 in
    put_later p new (left ++ e ∷ right) (omega (arith, lesser, h)) ∙ ap (λ ps. p ∷ ps) (put_right left e new right below.1 h)

-- ---- a sequence that is not there

pub record IsAbsent (test : Pending → Bool) (before : List Pending) (e : Pending) (after : List Pending) : Type 0 where
  pub left : find test before ≡ None
  pub here : test e ≡ false
  pub right : find test after ≡ None

pub absent : (test : Pending → Bool) (left : List Pending) (e : Pending) (right : List Pending) → find test (left ++ e ∷ right) ≡ None → IsAbsent test left e right
absent test left e right h = go (find test left) refl (test e) refl (sym (find-append test left (e ∷ right)) ∙ h)
  where
    go : (o : Option Pending) → find test left ≡ o → (b : Bool) → test e ≡ b → option_or (find test left) (cond (test e) (Some e) (find test right)) ≡ None → IsAbsent test left e right
    go (Some p) f b k none = absurd (cc (f, none))
    go None f true k none = absurd (cc (f, k, none))
    go None f false k none = record { left = f; here = k; right = cc (f, k, none) }

pub lacks : (seq : ℕ) (t : Tree) → find (λ p. p.seq == seq) (entries t) ≡ None → Lacks seq t
lacks seq Empty h = tt
lacks seq (Fork' p left e right bounds height) h =
    let apart = absent (λ p. p.seq == seq) (entries left) e (entries right) h in
    (apart.here, lacks seq left apart.left, lacks seq right apart.right)
