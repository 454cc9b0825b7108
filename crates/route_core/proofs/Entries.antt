-- Entries of a map under ascending numbers: what is found, added, removed and changed.
use Rattle.std.proofs.Common.{◌≡◌, ℕ, ◌+◌, ◌<◌, ◌==◌, Bool, true, false, cond, not, List, [], ◌∷◌, ◌++◌, Option, Some, None, length, map, refl, sym, ap, ◌∙◌, arith}
use Rattle.std.specs.Prelude.{filter}
use Rattle.std.specs.List.{AllByRecursion}
use Rattle.std.specs.List.Sorted.{IsStrictlySortedBy}
use Rattle.std.specs.Cmp.{nat_cmp_is, nat_cmp_total, eq_by_cmp_equiv}
use Rattle.std.specs.Ordering.{nat_cmp, match_ordering}
use Rattle.std.specs.declared.cmp.Ordering.TheVariants.{Greater}
use Rattle.std.specs.Map.{keys_of, values_of, lookup, remove_entry, set_value}
use Rattle.std.specs.BTreeMap.{is_at, insert_entry}
use Rattle.std.proofs.lemmas.Map.{NonePasses, lookup-none}
use Rattle.std.proofs.lemmas.Map.Entries.{none_past_head}
use Rattle.std.proofs.lemmas.Map.Keys.{sorted_tail, IsDistinct-from_sorted}
use Rattle.std.proofs.lemmas.Bool.{eqb-true}
use Rattle.js_model.proofs.Named.{some_is, none_some}
use Rattle.route_index.proofs.Numbers.{at_number, eq_flip}

abbrev pub at : ℕ → ℕ → Bool
at id = is_at (nat_cmp id)

pub at_is : (id n : ℕ) → at id n ≡ (n == id)
at_is id n = at_number id n ∙ eq_flip id n

pub at_self : (id : ℕ) → at id id ≡ true
at_self id = at_is id id ∙ grind arith

pub at_same : (id n : ℕ) → at id n ≡ true → n ≡ id
at_same id n h = eqb-true n id (sym (at_is id n) ∙ h)

module _ {X : Type 0} where
  -- behind the entry of a number there is no other of it
  pub alone : (id : ℕ) (e : ℕ × X) (es : List (ℕ × X)) → IsStrictlySortedBy nat_cmp (keys_of (e ∷ es)) → at id e.0 ≡ true → NonePasses (at id) es
  alone id e es rising h = none_past_head (eq_by_cmp_equiv nat_cmp_total) id e es (IsDistinct-from_sorted nat_cmp (keys_of (e ∷ es)) rising) h

  -- what holds of each value that is found holds of each entry
  pub each_entry : (P : ℕ → X → Type 0) (es : List (ℕ × X)) → IsStrictlySortedBy nat_cmp (keys_of es) → ((id : ℕ) (x : X) → lookup (at id) es ≡ Some x → P id x) → AllByRecursion (λ e. P e.0 e.1) es
  each_entry P [] rising h = tt
  each_entry P (e ∷ es) rising h =
      (h e.0 e.1 (ap (λ b. cond b (Some e.1) (lookup (at e.0) es)) (at_self e.0)), each_entry P es (sorted_tail nat_cmp e.0 (keys_of es) rising) (λ id x k. h id x (go id x (at id e.0) refl k)))
    where
      go : (id : ℕ) (x : X) (b : Bool) → at id e.0 ≡ b → lookup (at id) es ≡ Some x → cond (at id e.0) (Some e.1) (lookup (at id) es) ≡ Some x
      go id x true f k = absurd (none_some (sym (lookup-none (at id) es (alone id e es rising f)) ∙ k))
      go id x false f k = ap (λ b. cond b (Some e.1) (lookup (at id) es)) f ∙ k

  -- ---- adding

  -- all numbers are below this one
  abbrev pub AreBelow : ℕ → List (ℕ × X) → Type 0
  AreBelow id es = AllByRecursion (λ e. e.0 < id) es

  pub below_added : (id : ℕ) (x : X) (es : List (ℕ × X)) → AreBelow id es → AreBelow (id + 1) (es ++ (id, x) ∷ [])
  below_added id x [] h = (omega arith, tt)
  below_added id x (e ∷ es) h = (omega (arith, h.0), below_added id x es h.1)

  -- a greater number goes to the end
  pub insert_end : (id : ℕ) (x : X) (es : List (ℕ × X)) → AreBelow id es → insert_entry nat_cmp es id x ≡ es ++ (id, x) ∷ []
  insert_end id x [] h = refl
  insert_end id x (e ∷ es) h =
      ap (λ o. match_ordering o ((id, x) ∷ e ∷ es) ((e.0, x) ∷ es) (e ∷ insert_entry nat_cmp es id x)) (sym (nat_cmp_is id e.0 Greater h.0))
      ∙ ap (λ (more : List (ℕ × X)). e ∷ more) (insert_end id x es h.1)

  pub none_above : (id : ℕ) (es : List (ℕ × X)) → AreBelow id es → lookup (at id) es ≡ None
  none_above id [] h = refl
  none_above id (e ∷ es) h =
      let apart : (e.0 == id) ≡ false = grind arith in
      ap (λ b. cond b (Some e.1) (lookup (at id) es)) (at_is id e.0 ∙ apart) ∙ none_above id es h.1

  -- ---- removing

  pub below_removed : (id next : ℕ) (es : List (ℕ × X)) → AreBelow next es → AreBelow next (remove_entry (at id) es)
  below_removed id next [] h = tt
  below_removed id next (e ∷ es) h = go (at id e.0) (below_removed id next es h.1)
    where
      go : (b : Bool) → AreBelow next (remove_entry (at id) es) → AreBelow next (cond b es (e ∷ remove_entry (at id) es))
      go true k = h.1
      go false k = (h.0, k)

  module _ {Y : Type 0} (g : ℕ × X → Y) (q : Y → Bool) (id : ℕ) where
    -- the test picks the entry of the number
    abbrev pub Picks : List (ℕ × X) → Type 0
    Picks es = AllByRecursion (λ e. at id e.0 ≡ q (g e)) es

    none_goes : (es : List (ℕ × X)) → Picks es → NonePasses (at id) es → map g es ≡ filter (λ y. not (q y)) (map g es)
    none_goes [] picks h = refl
    none_goes (e ∷ es) picks h =
        ap (λ (ys : List Y). g e ∷ ys) (none_goes es picks.1 h.1) ∙ ap (λ b. cond (not b) (g e ∷ filter (λ y. not (q y)) (map g es)) (filter (λ y. not (q y)) (map g es))) (sym h.0 ∙ picks.0)

    pub removed : (es : List (ℕ × X)) → IsStrictlySortedBy nat_cmp (keys_of es) → Picks es → map g (remove_entry (at id) es) ≡ filter (λ y. not (q y)) (map g es)
    removed [] rising picks = refl
    removed (e ∷ es) rising picks = go (at id e.0) refl (removed es (sorted_tail nat_cmp e.0 (keys_of es) rising) picks.1)
      where
        rest : List Y
        rest = filter (λ y. not (q y)) (map g es)

        go : (b : Bool) → at id e.0 ≡ b → map g (remove_entry (at id) es) ≡ rest → map g (cond b es (e ∷ remove_entry (at id) es)) ≡ cond (not (q (g e))) (g e ∷ rest) rest
        go true f k = none_goes es picks.1 (alone id e es rising f) ∙ ap (λ b. cond (not b) (g e ∷ rest) rest) (sym f ∙ picks.0)
        go false f k = ap (λ (ys : List Y). g e ∷ ys) k ∙ ap (λ b. cond (not b) (g e ∷ rest) rest) (sym f ∙ picks.0)

  -- one value less passes, if the removed one did
  pub count_removed : (p : X → Bool) (id : ℕ) (x : X) (es : List (ℕ × X)) → lookup (at id) es ≡ Some x
      → length (filter p (values_of es)) ≡ length (filter p (values_of (remove_entry (at id) es))) + cond (p x) 1 0
  count_removed p id x [] h = absurd (none_some h)
  count_removed p id x (e ∷ es) h = go (at id e.0) (p e.1) (count_removed p id x es) h refl
    where
      left : List X
      left = filter p (values_of (remove_entry (at id) es))

      go : (b c : Bool) → (lookup (at id) es ≡ Some x → length (filter p (values_of es)) ≡ length left + cond (p x) 1 0) → cond b (Some e.1) (lookup (at id) es) ≡ Some x → p e.1 ≡ c
          → length (cond c (e.1 ∷ filter p (values_of es)) (filter p (values_of es))) ≡ length (filter p (values_of (cond b es (e ∷ remove_entry (at id) es)))) + cond (p x) 1 0
      go true true rest k f = let same : p x ≡ true = ap p (sym (some_is k)) ∙ f in rw same (omega arith)
      go true false rest k f = let same : p x ≡ false = ap p (sym (some_is k)) ∙ f in rw same (omega arith)
      go false true rest k f = rw f (omega (arith, rest k))
      go false false rest k f = rw f (rest k)

  -- ---- changing

  abbrev pub on_value : (X → X) → ℕ × X → ℕ × X
  on_value f e = (e.0, f e.1)

  abbrev pub changed : (X → X) → List (ℕ × X) → List (ℕ × X)
  changed f es = map (on_value f) es

  -- the change leaves all other entries as they are
  abbrev pub Leaves : (X → X) → ℕ → List (ℕ × X) → Type 0
  Leaves f id es = AllByRecursion (λ e. at id e.0 ≡ false → f e.1 ≡ e.1) es

  unchanged : (f : X → X) (id : ℕ) (es : List (ℕ × X)) → Leaves f id es → NonePasses (at id) es → es ≡ changed f es
  unchanged f id [] leaves h = refl
  unchanged f id (e ∷ es) leaves h =
      ap (λ (more : List (ℕ × X)). e ∷ more) (unchanged f id es leaves.1 h.1) ∙ ap (λ x. (e.0, x) ∷ changed f es) (sym (leaves.0 h.0))

  pub set_is_changed : (f : X → X) (id : ℕ) (x : X) (es : List (ℕ × X)) → IsStrictlySortedBy nat_cmp (keys_of es) → Leaves f id es → lookup (at id) es ≡ Some x → set_value (at id) es (f x) ≡ changed f es
  set_is_changed f id x [] rising leaves h = refl
  set_is_changed f id x (e ∷ es) rising leaves h = go (at id e.0) refl (set_is_changed f id x es (sorted_tail nat_cmp e.0 (keys_of es) rising) leaves.1) h
    where
      go : (b : Bool) → at id e.0 ≡ b → (lookup (at id) es ≡ Some x → set_value (at id) es (f x) ≡ changed f es) → cond b (Some e.1) (lookup (at id) es) ≡ Some x → cond b ((e.0, f x) ∷ es) (e ∷ set_value (at id) es (f x)) ≡ on_value f e ∷ changed f es
      go true k rest h = ap (λ (more : List (ℕ × X)). (e.0, f x) ∷ more) (unchanged f id es leaves.1 (alone id e es rising k)) ∙ ap (λ y. (e.0, f y) ∷ changed f es) (sym (some_is h))
      go false k rest h = ap (λ (more : List (ℕ × X)). e ∷ more) (rest h) ∙ ap (λ y. (e.0, y) ∷ changed f es) (sym (leaves.0 k))

  -- if it leaves every entry
  pub none_changed : (f : X → X) (es : List (ℕ × X)) → AllByRecursion (λ e. f e.1 ≡ e.1) es → es ≡ changed f es
  none_changed f [] h = refl
  none_changed f (e ∷ es) h = ap (λ (more : List (ℕ × X)). e ∷ more) (none_changed f es h.1) ∙ ap (λ x. (e.0, x) ∷ changed f es) (sym h.0)

  pub keys-changed : (f : X → X) (es : List (ℕ × X)) → keys_of (changed f es) ≡ keys_of es
  keys-changed f [] = refl
  keys-changed f (e ∷ es) = ap (λ (ks : List ℕ). e.0 ∷ ks) (keys-changed f es)

  pub values-changed : (f : X → X) (es : List (ℕ × X)) → values_of (changed f es) ≡ map f (values_of es)
  values-changed f [] = refl
  values-changed f (e ∷ es) = ap (λ (xs : List X). f e.1 ∷ xs) (values-changed f es)

  pub below_changed : (f : X → X) (id : ℕ) (es : List (ℕ × X)) → AreBelow id es → AreBelow id (changed f es)
  below_changed f id [] h = tt
  below_changed f id (e ∷ es) h = (h.0, below_changed f id es h.1)

  abbrev pub changed_option : (X → X) → Option X → Option X
  changed_option f None = None
  changed_option f (Some x) = Some (f x)

  pub lookup-changed : (f : X → X) (id : ℕ) (es : List (ℕ × X)) → lookup (at id) (changed f es) ≡ changed_option f (lookup (at id) es)
  lookup-changed f id [] = refl
  lookup-changed f id (e ∷ es) = go (at id e.0) (lookup-changed f id es)
    where
      go : (b : Bool) → lookup (at id) (changed f es) ≡ changed_option f (lookup (at id) es) → cond b (Some (f e.1)) (lookup (at id) (changed f es)) ≡ changed_option f (cond b (Some e.1) (lookup (at id) es))
      go true h = refl
      go false h = h

  pub map-changed : {Y : Type 0} (f : X → X) (g : ℕ × X → Y) → ((e : ℕ × X) → g (on_value f e) ≡ g e) → (es : List (ℕ × X)) → map g (changed f es) ≡ map g es
  map-changed f g same [] = refl
  map-changed {Y} f g same (e ∷ es) = ap (λ y. y ∷ map g (changed f es)) (same e) ∙ ap (λ (ys : List Y). g e ∷ ys) (map-changed f g same es)

  pub count-changed : (f : X → X) (p : X → Bool) → ((x : X) → p (f x) ≡ p x) → (es : List (ℕ × X)) → length (filter p (values_of (changed f es))) ≡ length (filter p (values_of es))
  count-changed f p same [] = refl
  count-changed f p same (e ∷ es) = go (p e.1) (same e.1) (count-changed f p same es)
    where
      go : (b : Bool) → p (f e.1) ≡ b → length (filter p (values_of (changed f es))) ≡ length (filter p (values_of es))
          → length (cond (p (f e.1)) (f e.1 ∷ filter p (values_of (changed f es))) (filter p (values_of (changed f es)))) ≡ length (cond b (e.1 ∷ filter p (values_of es)) (filter p (values_of es)))
      go true k h = rw k (omega (arith, h))
      go false k h = rw k h
