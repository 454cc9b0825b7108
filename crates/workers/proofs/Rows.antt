-- Rows, element by element.
use Rattle.std.proofs.Common.{◌≡◌, ◌+◌, ◌<◌, ◌||◌, Bool, true, false, ℕ, zero, suc, List, [], ◌∷◌, ◌++◌, length, get_or, take, drop, reverse, refl, sym, subst, ap, ◌∙◌, arith, append-nil, append_assoc, length-append}
use Rattle.std.specs.List.{AllByRecursion, AllZip, list_any}
use Rattle.std.proofs.lemmas.Grind.{common_steps}
use Rattle.std.proofs.lemmas.List.Folds.{list_any-append}
use Rattle.std.proofs.lemmas.List.{reverse-append, reverse-reverse, length-reverse}

pub all_from_places : {X : Type 0} (P : X → Type 0) (xs : List X) → ((i : ℕ) (d : X) → i < length xs → P (get_or xs i d)) → AllByRecursion P xs
all_from_places P [] h = tt
all_from_places P (x ∷ xs) h = (h 0 x (omega arith), all_from_places P xs (λ i d l. h (suc i) d (omega (arith, l))))

pub zip_from_places : {X Y : Type 0} (R : X → Y → Type 0) (xs : List X) (ys : List Y) → length xs ≡ length ys
    → ((i : ℕ) (d : X) (e : Y) → i < length xs → R (get_or xs i d) (get_or ys i e)) → AllZip R xs ys
zip_from_places R [] [] l h = tt
zip_from_places R [] (y ∷ ys) l h = let no : ⊥ = omega (arith, l) in absurd no
zip_from_places R (x ∷ xs) [] l h = let no : ⊥ = omega (arith, l) in absurd no
zip_from_places R (x ∷ xs) (y ∷ ys) l h = (h 0 x y (omega arith), zip_from_places R xs ys (omega (arith, l)) (λ i d e n. h (suc i) d e (omega (arith, n))))

pub all_at : {X : Type 0} (P : X → Type 0) (xs : List X) (i : ℕ) (d : X) → AllByRecursion P xs → i < length xs → P (get_or xs i d)
all_at P [] i d h l = let no : ⊥ = omega (arith, l) in absurd no
all_at P (x ∷ xs) zero d h l = h.0
all_at P (x ∷ xs) (suc i) d h l = all_at P xs i d h.1 (omega (arith, l))

pub all_more : {X : Type 0} (P : X → Type 0) (xs ys : List X) → AllByRecursion P xs → AllByRecursion P ys → AllByRecursion P (xs ++ ys)
all_more P [] ys h k = k
all_more P (x ∷ xs) ys h k = (h.0, all_more P xs ys h.1 k)

-- all but the last, and the last
pub all_parts : {X : Type 0} (P : X → Type 0) (xs : List X) (x : X) → AllByRecursion P (xs ++ x ∷ []) → AllByRecursion P xs × P x
all_parts P [] x h = (tt, h.0)
all_parts P (y ∷ xs) x h = let k = all_parts P xs x h.1 in ((h.0, k.0), k.1)

pub all_mapped : {X : Type 0} (P Q : X → Type 0) (xs : List X) → ((x : X) → P x → Q x) → AllByRecursion P xs → AllByRecursion Q xs
all_mapped P Q [] f h = tt
all_mapped P Q (x ∷ xs) f h = (f x h.0, all_mapped P Q xs f h.1)

reverse_cons : {X : Type 0} (x : X) (xs : List X) → reverse (x ∷ xs) ≡ reverse xs ++ x ∷ []
reverse_cons x xs = reverse-append (x ∷ []) xs

pub all_reversed : {X : Type 0} (P : X → Type 0) (xs : List X) → AllByRecursion P xs → AllByRecursion P (reverse xs)
all_reversed P [] h = tt
all_reversed P (x ∷ xs) h = subst (AllByRecursion P) (sym (reverse_cons x xs)) (all_more P (reverse xs) (x ∷ []) (all_reversed P xs h.1) (h.0, tt))

pub zip_more : {X Y : Type 0} (R : X → Y → Type 0) (xs xs' : List X) (ys ys' : List Y) → AllZip R xs ys → AllZip R xs' ys' → AllZip R (xs ++ xs') (ys ++ ys')
zip_more R [] xs' [] ys' h k = k
zip_more R [] xs' (y ∷ ys) ys' h k = absurd h
zip_more R (x ∷ xs) xs' [] ys' h k = absurd h
zip_more R (x ∷ xs) xs' (y ∷ ys) ys' h k = (h.0, zip_more R xs xs' ys ys' h.1 k)

pub zip_reversed : {X Y : Type 0} (R : X → Y → Type 0) (xs : List X) (ys : List Y) → AllZip R xs ys → AllZip R (reverse xs) (reverse ys)
zip_reversed R [] [] h = tt
zip_reversed R [] (y ∷ ys) h = absurd h
zip_reversed R (x ∷ xs) [] h = absurd h
zip_reversed {X} {Y} R (x ∷ xs) (y ∷ ys) h =
    subst (λ (zs : List X). AllZip R zs (reverse (y ∷ ys))) (sym (reverse_cons x xs))
    (subst (AllZip R (reverse xs ++ x ∷ [])) (sym (reverse_cons y ys)) (zip_more R (reverse xs) (x ∷ []) (reverse ys) (y ∷ []) (zip_reversed R xs ys h.1) (h.0, tt)))

-- the reverse of one row beside another
pub zip_turned : {X Y : Type 0} (R : X → Y → Type 0) (xs : List X) (ys : List Y) → AllZip R (reverse xs) ys → AllZip R xs (reverse ys)
zip_turned {X} R xs ys h = subst (λ (zs : List X). AllZip R zs (reverse ys)) (reverse-reverse xs) (zip_reversed R (reverse xs) ys h)

-- one more before it, in the reverse one more behind it
pub zip_turned_more : {X Y : Type 0} (R : X → Y → Type 0) (x : X) (xs : List X) (y : Y) (ys : List Y) → AllZip R (reverse xs) ys → R x y → AllZip R (reverse (x ∷ xs)) (ys ++ y ∷ [])
zip_turned_more {X} R x xs y ys h r = subst (λ (zs : List X). AllZip R zs (ys ++ y ∷ [])) (sym (reverse_cons x xs)) (zip_more R (reverse xs) (x ∷ []) ys (y ∷ []) h (r, tt))

pub zip_length : {X Y : Type 0} (R : X → Y → Type 0) (xs : List X) (ys : List Y) → AllZip R xs ys → length xs ≡ length ys
zip_length R [] [] h = refl
zip_length R [] (y ∷ ys) h = absurd h
zip_length R (x ∷ xs) [] h = absurd h
zip_length R (x ∷ xs) (y ∷ ys) h = ap suc (zip_length R xs ys h.1)

pub length_reversed : {X : Type 0} (xs : List X) → length (reverse xs) ≡ length xs
length_reversed xs = length-reverse xs

-- two relations side by side
pub zip_through : {X Y Z : Type 0} (R : X → Y → Type 0) (S : Y → Z → Type 0) (T : X → Z → Type 0) → ((x : X) (y : Y) (z : Z) → R x y → S y z → T x z)
    → (xs : List X) (ys : List Y) (zs : List Z) → AllZip R xs ys → AllZip S ys zs → AllZip T xs zs
zip_through R S T f [] [] [] h k = tt
zip_through R S T f [] [] (z ∷ zs) h k = absurd k
zip_through R S T f [] (y ∷ ys) zs h k = absurd h
zip_through R S T f (x ∷ xs) [] zs h k = absurd h
zip_through R S T f (x ∷ xs) (y ∷ ys) [] h k = absurd k
zip_through R S T f (x ∷ xs) (y ∷ ys) (z ∷ zs) h k = (f x y z h.0 k.0, zip_through R S T f xs ys zs h.1 k.1)

-- with what holds of each of the second
pub zip_with : {X Y : Type 0} (R S : X → Y → Type 0) (P : Y → Type 0) → ((x : X) (y : Y) → R x y → P y → S x y) → (xs : List X) (ys : List Y)
    → AllZip R xs ys → AllByRecursion P ys → AllZip S xs ys
zip_with R S P f [] [] h k = tt
zip_with R S P f [] (y ∷ ys) h k = absurd h
zip_with R S P f (x ∷ xs) [] h k = absurd h
zip_with R S P f (x ∷ xs) (y ∷ ys) h k = (f x y h.0 k.0, zip_with R S P f xs ys h.1 k.1)

-- what each of the first makes of the second
pub all_second : {X Y : Type 0} (R : X → Y → Type 0) (Q : Y → Type 0) → ((x : X) (y : Y) → R x y → Q y) → (xs : List X) (ys : List Y) → AllZip R xs ys → AllByRecursion Q ys
all_second R Q f [] [] h = tt
all_second R Q f [] (y ∷ ys) h = absurd h
all_second R Q f (x ∷ xs) [] h = absurd h
all_second R Q f (x ∷ xs) (y ∷ ys) h = (f x y h.0, all_second R Q f xs ys h.1)

-- ---- a row that is moved, the last one first

-- of all these some are left, and the others were moved, each beside what was made of it
pub record Moves {X Y : Type 0} (R : X → Y → Type 0) (all left : List X) (moved : List Y) : Type 0 where
  pub gone : List X
  pub split : all ≡ left ++ gone
  pub beside : AllZip R (reverse gone) moved

unfoldable pub moves_none : {X Y : Type 0} (R : X → Y → Type 0) (all : List X) (moved : List Y) → moved ≡ [] → Moves R all all moved
moves_none R all moved none = record { gone = []; split = sym (append-nil all); beside = subst (AllZip R []) (sym none) tt }

unfoldable pub moves_one : {X Y : Type 0} (R : X → Y → Type 0) (all before left : List X) (x : X) (moved : List Y) (y : Y) (after : List Y) → Moves R all before moved → before ≡ left ++ x ∷ [] → after ≡ moved ++ y ∷ []
    → R x y → Moves R all left after
moves_one R all before left x moved y after m e f r = record {
  gone = x ∷ m.gone;
  split = m.split ∙ ap (λ xs. xs ++ m.gone) e ∙ append_assoc left (x ∷ []) m.gone;
  beside = subst (AllZip R (reverse (x ∷ m.gone))) (sym f) (zip_turned_more R x m.gone y moved m.beside r);
}

pub moves_all : {X Y : Type 0} (R : X → Y → Type 0) (all left : List X) (moved : List Y) → Moves R all left moved → left ≡ [] → AllZip R (reverse all) moved
moves_all R all left moved m none = subst (λ xs. AllZip R (reverse xs) moved) (sym (m.split ∙ ap (λ xs. xs ++ m.gone) none)) m.beside

pub moves_length : {X Y : Type 0} (R : X → Y → Type 0) (all left : List X) (moved : List Y) → Moves R all left moved → length all ≡ length left + length moved
moves_length R all left moved m =
    omega (arith, ap length m.split, length-append left m.gone, zip_length R (reverse m.gone) moved m.beside, length_reversed m.gone)

pub last_of : {X : Type 0} (P : X → Type 0) (before left : List X) (x : X) → before ≡ left ++ x ∷ [] → AllByRecursion P before → P x
last_of P before left x e h = (all_parts P left x (subst (AllByRecursion P) e h)).1

pub rest_of : {X : Type 0} (P : X → Type 0) (before left : List X) (x : X) → before ≡ left ++ x ∷ [] → AllByRecursion P before → AllByRecursion P left
rest_of P before left x e h = (all_parts P left x (subst (AllByRecursion P) e h)).0

or_one : (a b : Bool) → (a || b) ≡ (a || (b || false))
or_one true b = refl
or_one false true = refl
or_one false false = refl

pub any_turned_more : {X : Type 0} (p : X → Bool) (x : X) (gone : List X) (b c : Bool) → b ≡ list_any p (reverse gone) → c ≡ p x → (b || c) ≡ list_any p (reverse (x ∷ gone))
any_turned_more p x gone b c e f =
    ap (λ k. k || c) e ∙ ap (λ k. list_any p (reverse gone) || k) f ∙ or_one (list_any p (reverse gone)) (p x) ∙ sym (list_any-append p (reverse gone) (x ∷ [])) ∙ sym (ap (list_any p) (reverse_cons x gone))

pub or_both : (a b c d : Bool) → a ≡ b → c ≡ d → (a || c) ≡ (b || d)
or_both a b c d e f = ap (λ k. k || c) e ∙ ap (λ k. b || k) f

pub or_kept : (a b c : Bool) → a ≡ b → b ≡ true → (a || c) ≡ true
or_kept a b c e f = ap (λ k. k || c) (e ∙ f)

pub zip_at_places : {X : Type 0} (R : X → X → Type 0) (xs ys : List X) → length xs ≡ length ys → ((i : ℕ) (d : X) → i < length xs → R (get_or xs i d) (get_or ys i d)) → AllZip R xs ys
zip_at_places R [] [] l h = tt
zip_at_places R [] (y ∷ ys) l h = let no : ⊥ = omega (arith, l) in absurd no
zip_at_places R (x ∷ xs) [] l h = let no : ⊥ = omega (arith, l) in absurd no
zip_at_places R (x ∷ xs) (y ∷ ys) l h = (h 0 x (omega arith), zip_at_places R xs ys (omega (arith, l)) (λ i d n. h (suc i) d (omega (arith, n))))

-- a row that was written over whole
pub written_back : {X : Type 0} (n : ℕ) (ys xs : List X) → length ys ≡ n → take n (ys ++ drop (length ys) xs) ≡ ys
written_back n ys xs e = grind (arith, common_steps, e)
