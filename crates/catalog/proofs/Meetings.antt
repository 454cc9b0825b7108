-- Streams are apart both ways round.
use Rattle.std.proofs.Common.{◌≡◌, ◌||◌, ◌&&◌, Bool, true, false, List, [], ◌∷◌, ◌++◌, refl, sym, ap, ◌∙◌}
use Rattle.std.specs.List.{list_any}
use Rattle.std.proofs.lemmas.Bool.{true≢false}
use Rattle.std.proofs.lemmas.List.Folds.{list_any-append}
use Rattle.js_base.specs.Bytes.{Bytes, is_empty, same}
use Rattle.js_base.specs.Subjects.{tokens, meets, star, rest}
use Rattle.js_base.proofs.Meeting.{same_is, same_self}
use Rattle.js_model.specs.Catalog.{Used, all_subjects, meets_some}
use Rattle.catalog.specs.Apart.{AreApart}

-- ---- tests

both_ways : (a b : Bool) → (a ≡ true → b ≡ true) → (b ≡ true → a ≡ true) → a ≡ b
both_ways true b f g = sym (f refl)
both_ways false true f g = g refl
both_ways false false f g = refl

pub or_parts : (a b : Bool) → (a || b) ≡ false → (a ≡ false) × (b ≡ false)
or_parts true b h = absurd (true≢false h)
or_parts false b h = (refl, h)

pub or_from : (a b : Bool) → a ≡ false → b ≡ false → (a || b) ≡ false
or_from true b h k = absurd (true≢false h)
or_from false b h k = k

turned : (a b c d e m : Bool) → (a || (b || ((c || (d || e)) && m))) ≡ (b || (a || ((d || (c || e)) && m)))
turned true true c d e m = refl
turned true false c d e m = refl
turned false true c d e m = refl
turned false false true true e m = refl
turned false false true false e m = refl
turned false false false true e m = refl
turned false false false false e m = refl

crossed : (a b c d : Bool) → ((a || b) || (c || d)) ≡ ((a || c) || (b || d))
crossed true b c d = refl
crossed false true true d = refl
crossed false true false d = refl
crossed false false c d = refl

-- ---- texts and patterns

pub same_sym : (a b : Bytes) → same a b ≡ same b a
same_sym a b = both_ways (same a b) (same b a) (λ h. go a b (same_is a b h)) (λ h. go b a (same_is b a h))
  where
    go : (x y : Bytes) → x ≡ y → same y x ≡ true
    go x y e = ap (λ t. same y t) e ∙ same_self y

pub meets_sym : (p q : List Bytes) → meets p q ≡ meets q p
meets_sym [] [] = refl
meets_sym [] (u ∷ us) = refl
meets_sym (t ∷ ts) [] = refl
meets_sym (t ∷ ts) (u ∷ us) =
    turned (same t rest && is_empty ts) (same u rest && is_empty us) (same t star) (same u star) (same t u) (meets ts us)
    ∙ ap (λ s. (same u rest && is_empty us) || ((same t rest && is_empty ts) || ((same u star || (same t star || s)) && meets ts us))) (same_sym t u)
    ∙ ap (λ m. (same u rest && is_empty us) || ((same t rest && is_empty ts) || ((same u star || (same t star || same u t)) && m))) (meets_sym ts us)

-- ---- lists of subjects

-- a subject of the one list meets one of the other
abbrev pub meets_lists : List Bytes → List Bytes → Bool
meets_lists xs ys = list_any (meets_some ys) xs

none_right : (ys : List Bytes) → meets_lists ys [] ≡ false
none_right [] = refl
none_right (y ∷ ys) = none_right ys

one_more : (x : Bytes) (xs ys : List Bytes) → meets_lists ys (x ∷ xs) ≡ (meets_some ys x || meets_lists ys xs)
one_more x xs [] = refl
one_more x xs (y ∷ ys) =
    ap (λ b. (b || meets_some xs y) || meets_lists ys (x ∷ xs)) (meets_sym (tokens y) (tokens x)) ∙ ap (λ b. (meets (tokens x) (tokens y) || meets_some xs y) || b) (one_more x xs ys)
    ∙ crossed (meets (tokens x) (tokens y)) (meets_some xs y) (meets_some ys x) (meets_lists ys xs)

pub lists_sym : (xs ys : List Bytes) → meets_lists xs ys ≡ meets_lists ys xs
lists_sym [] ys = sym (none_right ys)
lists_sym (x ∷ xs) ys = ap (λ b. meets_some ys x || b) (lists_sym xs ys) ∙ sym (one_more x xs ys)

pub apart_sym : (a b : Used) → AreApart a b → AreApart b a
apart_sym a b h = record { names = same_sym b.name a.name ∙ h.names; subjects = lists_sym (all_subjects b) (all_subjects a) ∙ h.subjects }

-- two lists after each other meet a third where one of them does
pub lists_append : (xs ys zs : List Bytes) → meets_lists (xs ++ ys) zs ≡ (meets_lists xs zs || meets_lists ys zs)
lists_append xs ys zs = list_any-append (meets_some zs) xs ys

pub lists_none : (xs zs : List Bytes) → meets_lists xs zs ≡ false → meets_lists (xs ++ []) zs ≡ false
lists_none xs zs h = lists_append xs [] zs ∙ or_from (meets_lists xs zs) false h refl
