-- Tests that agree at each element of a list, and what is left of a list.
use Rattle.std.proofs.Common.{◌≡◌, Bool, true, false, ◌||◌, cond, List, [], ◌∷◌, ◌++◌, map, refl, sym, ap, ◌∙◌, subst}
use Rattle.std.specs.Prelude.{filter, All}
use Rattle.std.specs.List.{list_any, flat_map}
use Rattle.std.proofs.lemmas.List.Elements.{All-nil, All-cons, All-head, All-tail, All-append}
use Rattle.js_model.specs.Lists.{IsPart}
use Rattle.js_model.proofs.Members.{IsIn, here, there, in_filter, in_part, all_in}

-- ---- what holds of each element

module _ {X : Type 0} (P : X → Type 0) where
  pub all_left : (xs ys : List X) → All P (xs ++ ys) → All P xs
  all_left [] ys h = All-nil P
  all_left (x ∷ xs) ys h = All-cons P x xs (All-head P x (xs ++ ys) h) (all_left xs ys (All-tail P x (xs ++ ys) h))

  pub all_right : (xs ys : List X) → All P (xs ++ ys) → All P ys
  all_right [] ys h = h
  all_right (x ∷ xs) ys h = all_right xs ys (All-tail P x (xs ++ ys) h)

  pub all_members : (xs : List X) → ((x : X) → IsIn x xs → P x) → All P xs
  all_members [] h = All-nil P
  all_members (x ∷ xs) h = All-cons P x xs (h x here) (all_members xs (λ y i. h y (there i)))

  module _ {Y : Type 0} where
    pub all_mapped : (f : Y → X) (ys : List Y) → All P (map f ys) → All (λ y. P (f y)) ys
    all_mapped f [] h = All-nil (λ y. P (f y))
    all_mapped f (y ∷ ys) h = All-cons (λ y. P (f y)) y ys (All-head P (f y) (map f ys) h) (all_mapped f ys (All-tail P (f y) (map f ys) h))

    pub all_each : (f : Y → List X) (ys : List Y) → All P (flat_map f ys) → All (λ y. All P (f y)) ys
    all_each f [] h = All-nil (λ y. All P (f y))
    all_each f (y ∷ ys) h = All-cons (λ y. All P (f y)) y ys (all_left (f y) (flat_map f ys) h) (all_each f ys (all_right (f y) (flat_map f ys) h))

    pub each_all : (f : Y → List X) (ys : List Y) → All (λ y. All P (f y)) ys → All P (flat_map f ys)
    each_all f [] h = All-nil P
    each_all f (y ∷ ys) h = All-append P (f y) (flat_map f ys) (All-head (λ y. All P (f y)) y ys h) (each_all f ys (All-tail (λ y. All P (f y)) y ys h))

pub all_both : {X : Type 0} (P Q R : X → Type 0) → ((x : X) → P x → Q x → R x) → (xs : List X) → All P xs → All Q xs → All R xs
all_both P Q R f [] h k = All-nil R
all_both P Q R f (x ∷ xs) h k = All-cons R x xs (f x (All-head P x xs h) (All-head Q x xs k)) (all_both P Q R f xs (All-tail P x xs h) (All-tail Q x xs k))

-- ---- tests that agree, and functions

pub all_part : {X : Type 0} (P : X → Type 0) {ys xs : List X} → IsPart ys xs → All P xs → All P ys
all_part P {ys = ys} {xs = xs} p h = all_members P ys (λ x i. all_in P xs h (in_part p i))

pub map_same : {X Y : Type 0} (f g : X → Y) (xs : List X) → All (λ x. f x ≡ g x) xs → map f xs ≡ map g xs
map_same f g [] h = refl
map_same f g (x ∷ xs) h = ap (λ y. y ∷ map f xs) (All-head (λ x. f x ≡ g x) x xs h) ∙ ap (λ l. g x ∷ l) (map_same f g xs (All-tail (λ x. f x ≡ g x) x xs h))

pub flat_map_same : {X Y : Type 0} (f g : X → List Y) (xs : List X) → All (λ x. f x ≡ g x) xs → flat_map f xs ≡ flat_map g xs
flat_map_same f g [] h = refl
flat_map_same f g (x ∷ xs) h = ap (λ l. l ++ flat_map f xs) (All-head (λ x. f x ≡ g x) x xs h) ∙ ap (λ l. g x ++ l) (flat_map_same f g xs (All-tail (λ x. f x ≡ g x) x xs h))

module _ {X : Type 0} (t u : X → Bool) where
  pub filter_same : (xs : List X) → All (λ x. t x ≡ u x) xs → filter t xs ≡ filter u xs
  filter_same [] h = refl
  filter_same (x ∷ xs) h =
      ap (λ (b : Bool). cond b (x ∷ filter t xs) (filter t xs)) (All-head (λ x. t x ≡ u x) x xs h)
      ∙ ap (λ l. cond (u x) (x ∷ l) l) (filter_same xs (All-tail (λ x. t x ≡ u x) x xs h))

  pub any_same : (xs : List X) → All (λ x. t x ≡ u x) xs → list_any t xs ≡ list_any u xs
  any_same [] h = refl
  any_same (x ∷ xs) h =
      ap (λ (b : Bool). b || list_any t xs) (All-head (λ x. t x ≡ u x) x xs h) ∙ ap (λ (b : Bool). u x || b) (any_same xs (All-tail (λ x. t x ≡ u x) x xs h))

-- ---- what is left

module _ {X : Type 0} (t : X → Bool) where
  pub all_pass : (xs : List X) → filter t xs ≡ xs → All (λ x. t x ≡ true) xs
  all_pass xs e = all_members (λ x. t x ≡ true) xs (λ x i. (in_filter t x xs (subst (IsIn x) (sym e) i)).1)

  pub unfiltered : (xs : List X) → All (λ x. t x ≡ true) xs → filter t xs ≡ xs
  unfiltered [] h = refl
  unfiltered (x ∷ xs) h = ap (λ (b : Bool). cond b (x ∷ filter t xs) (filter t xs)) (All-head (λ x. t x ≡ true) x xs h) ∙ ap (λ l. x ∷ l) (unfiltered xs (All-tail (λ x. t x ≡ true) x xs h))

  pub all_filtered : (xs : List X) → All (λ x. t x ≡ true) (filter t xs)
  all_filtered xs = all_members (λ x. t x ≡ true) (filter t xs) (λ x i. (in_filter t x xs i).1)

  pub filtered_out : (xs : List X) → All (λ x. t x ≡ false) xs → filter t xs ≡ []
  filtered_out [] h = refl
  filtered_out (x ∷ xs) h = ap (λ (b : Bool). cond b (x ∷ filter t xs) (filter t xs)) (All-head (λ x. t x ≡ false) x xs h) ∙ filtered_out xs (All-tail (λ x. t x ≡ false) x xs h)

  pub none_pass : (xs : List X) → filter t xs ≡ [] → All (λ x. t x ≡ false) xs
  none_pass [] e = All-nil (λ x. t x ≡ false)
  none_pass (x ∷ xs) e = go (t x) refl e (none_pass xs)
    where
      go : (b : Bool) → t x ≡ b → cond b (x ∷ filter t xs) (filter t xs) ≡ [] → (filter t xs ≡ [] → All (λ y. t y ≡ false) xs) → All (λ y. t y ≡ false) (x ∷ xs)
      go true q w f = absurd (cons_nil w)
        where
          cons_nil : {y : X} {ys : List X} → y ∷ ys ≡ [] → ⊥
          cons_nil k = cc
      go false q w f = All-cons (λ y. t y ≡ false) x xs q (f w)

pub empty_parts : {X : Type 0} (xs ys : List X) → xs ++ ys ≡ [] → (xs ≡ []) × (ys ≡ [])
empty_parts [] ys e = (refl, e)
empty_parts (x ∷ xs) ys e = cc

pub empty_map : {X Y : Type 0} (f : X → Y) (xs : List X) → map f xs ≡ [] → xs ≡ []
empty_map f [] e = refl
empty_map f (x ∷ xs) e = cc

pub each_empty : {X Y : Type 0} (f : X → List Y) (xs : List X) → flat_map f xs ≡ [] → All (λ x. f x ≡ []) xs
each_empty f [] e = All-nil (λ x. f x ≡ [])
each_empty f (x ∷ xs) e = let w = empty_parts (f x) (flat_map f xs) e in All-cons (λ x. f x ≡ []) x xs w.0 (each_empty f xs w.1)

pub each_fixed : {X : Type 0} (f : X → X) (xs : List X) → map f xs ≡ xs → All (λ x. f x ≡ x) xs
each_fixed f [] e = All-nil (λ x. f x ≡ x)
each_fixed f (x ∷ xs) e = All-cons (λ x. f x ≡ x) x xs (let w : f x ≡ x = cc in w) (each_fixed f xs (let w : map f xs ≡ xs = cc in w))

pub map_fixed : {X : Type 0} (f : X → X) (xs : List X) → All (λ x. f x ≡ x) xs → map f xs ≡ xs
map_fixed f [] h = refl
map_fixed f (x ∷ xs) h = ap (λ y. y ∷ map f xs) (All-head (λ x. f x ≡ x) x xs h) ∙ ap (λ l. x ∷ l) (map_fixed f xs (All-tail (λ x. f x ≡ x) x xs h))

pub all_silent : {X Y : Type 0} (f : X → List Y) (xs : List X) → All (λ x. f x ≡ []) xs → flat_map f xs ≡ []
all_silent f [] h = refl
all_silent f (x ∷ xs) h = ap (λ l. l ++ flat_map f xs) (All-head (λ x. f x ≡ []) x xs h) ∙ all_silent f xs (All-tail (λ x. f x ≡ []) x xs h)
