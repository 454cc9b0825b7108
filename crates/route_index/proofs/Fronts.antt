-- The texts with one prefix stand side by side.
use Rattle.std.proofs.Common.{◌≡◌, ℕ, ◌<◌, ◌&&◌, Bool, true, false, List, [], ◌∷◌, ◌++◌, length, take, Option, Some, None, refl, sym, ap, subst, ◌∙◌, arith, inl, inr}
use Rattle.std.specs.Prelude.{nat_eq, IsSome, IfSome, slice_get}
use Rattle.std.specs.Ordering.{nat_cmp, is_gt, ordering_then}
use Rattle.std.specs.declared.cmp.Ordering.{Ordering}
use Rattle.std.specs.declared.cmp.Ordering.TheVariants.{Equal, Greater}
use Rattle.std.specs.declared.ops.Bound.TheVariants.{Included, Unbounded}
use Rattle.std.specs.Cmp.{nat_cmp_is}
use Rattle.std.specs.Cmp.Lexicographic.{slice_cmp, pointwise}
use Rattle.std.specs.BTreeMap.{get}
use Rattle.std.specs.BTreeMap.Range.{IsInRange, IsLeBy, IsRangeOf, IsEntryInRange}
use Rattle.std.specs.BTreeSet.{BTreeSet}
use Rattle.std.specs.Bool.{OnFalse}
use Rattle.std.proofs.lemmas.Bool.Decides.{eqb_tells, leb_tells}
use Rattle.js_base.specs.Bytes.{Bytes}
use Rattle.route_index.specs.Ids.{Ids, is_in}
use Rattle.route_index.specs.Searching.{IsBare}

-- a text is not above what begins with it
pub front_first : (front text : Bytes) → is_gt (slice_cmp nat_cmp front (front ++ text)) ≡ false
front_first [] [] = refl
front_first [] (y ∷ text) = refl
front_first (x ∷ front) text =
    ap (λ o. is_gt (ordering_then o (slice_cmp nat_cmp front (front ++ text)))) (sym (nat_cmp_is x x Equal refl)) ∙ front_first front text

module _ (x y : ℕ) (rest : Ordering) where
  not_above : y < x → is_gt (ordering_then (nat_cmp x y) rest) ≡ false → ⊥
  not_above h k = let e = ap (λ o. is_gt (ordering_then o rest)) (nat_cmp_is x y Greater h) in cc (e, k)

  past_equal : x ≡ y → is_gt (ordering_then (nat_cmp x y) rest) ≡ false → is_gt rest ≡ false
  past_equal h k = ap (λ o. is_gt (ordering_then o rest)) (nat_cmp_is x y Equal h) ∙ k

-- what stands between a text and another that begins with it begins with it
pub front_between : (front first text : Bytes) → is_gt (slice_cmp nat_cmp front first) ≡ false → is_gt (slice_cmp nat_cmp first (front ++ text)) ≡ false
    → pointwise nat_eq front (take (length front) first) ≡ true
front_between [] first text h k = refl
front_between (x ∷ front) [] text h k = absurd (cc (h))
front_between (x ∷ front) (y ∷ first) text h k = elim (eqb_tells x y) [
  | inl e ↦ ap (λ b. b && pointwise nat_eq front (take (length front) first)) e.0
      ∙ front_between front first text (past_equal x y _ e.1 h) (past_equal y x _ (sym e.1) k)
  | inr e ↦ elim (leb_tells x y) [
    | inl f ↦ absurd (not_above y x _ (omega (arith, e.1, f.1)) k)
    | inr f ↦ absurd (not_above x y _ f.1 h)
  ]
]

module _ (ids : Ids) (front : Bytes) where
  -- no key comes from the prefix on
  pub bare_at_end : ((q : Bytes) → IsInRange (slice_cmp nat_cmp) (Included front) Unbounded q → get (slice_cmp nat_cmp) ids q ≡ None) → IsBare ids front
  bare_at_end h = record { at = λ text id. ap (λ o. is_in o id) (h (front ++ text) (front_first front text, tt)) }

  -- the first key from the prefix on does not begin with it
  pub bare_before : (first : Bytes) → pointwise nat_eq front (take (length front) first) ≡ false → IsLeBy (slice_cmp nat_cmp) front first
      → ((q : Bytes) → IsInRange (slice_cmp nat_cmp) (Included front) Unbounded q → IsSome (get (slice_cmp nat_cmp) ids q) → IsLeBy (slice_cmp nat_cmp) first q) → IsBare ids front
  bare_before first differs from least = record { at = λ text id. go text id (get (slice_cmp nat_cmp) ids (front ++ text)) refl }
    where
      go : (text : Bytes) (id : ℕ) (o : Option (BTreeSet ℕ)) → get (slice_cmp nat_cmp) ids (front ++ text) ≡ o → is_in o id ≡ false
      go text id None e = refl
      go text id (Some set) e =
          let there : IsSome (get (slice_cmp nat_cmp) ids (front ++ text)) = rw e refl in
          let begins = front_between front first text from (least (front ++ text) (front_first front text, tt) there) in
          absurd (cc (begins, differs))

-- what a range says of its first entry
pub first_in_range : (ids : Ids) (front : Bytes) (entries others : List (Bytes × BTreeSet ℕ)) (entry : Bytes × BTreeSet ℕ) → entries ≡ entry ∷ others → IsRangeOf (slice_cmp nat_cmp) (Included front) Unbounded ids entries
    → IsLeBy (slice_cmp nat_cmp) front entry.0
    × ((q : Bytes) → IsInRange (slice_cmp nat_cmp) (Included front) Unbounded q → IsSome (get (slice_cmp nat_cmp) ids q) → IsLeBy (slice_cmp nat_cmp) entry.0 q)
first_in_range ids front entries others entry e range =
    let Within : List (Bytes × BTreeSet ℕ) → Type 0 = λ es. IfSome (slice_get es 0) (IsEntryInRange (slice_cmp nat_cmp) (Included front) Unbounded ids) in
    let Least : List (Bytes × BTreeSet ℕ) → Type 0 =
    λ es. (q : Bytes) → IsInRange (slice_cmp nat_cmp) (Included front) Unbounded q → IsSome (get (slice_cmp nat_cmp) ids q) → IfSome (slice_get es 0) (λ first. IsLeBy (slice_cmp nat_cmp) first.0 q) in
    ((subst Within e range.1).0.0, subst Least e range.2)

pub on_false : {P : Type 0} (b : Bool) → (b ≡ false → P) → OnFalse b P
on_false true h = tt
on_false false h = h refl
