-- The follower of a name, by its place.
use Rattle.std.proofs.Common.{◌≡◌, ℕ, suc, ◌+◌, ◌<◌, ◌≤◌, Bool, true, false, cond, not, List, [], ◌∷◌, Option, Some, None, get_or, length, map, refl, sym, ap, subst, ◌∙◌, arith}
use Rattle.std.specs.Prelude.{nat_lt}
use Rattle.std.specs.List.{position, position_or_len}
use Rattle.std.proofs.lemmas.Bool.{ltb-true, ltb-false}
use Rattle.std.proofs.lemmas.List.{length-map}
use Rattle.js_base.specs.Bytes.{Bytes}
use Rattle.js_model.specs.Streams.{by_name}
use Rattle.js_model.proofs.Named.{none_some, some_is}
use Rattle.followed_stream.specs.Followers.{is_named, Following}
use Rattle.followed_stream.specs.Placing.{IsPlaceOf}
use Rattle.followed_stream.proofs.Changing.{consumers_of, there}

place_is : (name : Bytes) (fs : List Following) (i : ℕ) → Some i ≡ position (is_named name) fs → (position_or_len (is_named name) fs < length fs) × (i ≡ position_or_len (is_named name) fs)
place_is name fs i h = go (nat_lt (position_or_len (is_named name) fs) (length fs)) refl h
  where
    go : (b : Bool) → nat_lt (position_or_len (is_named name) fs) (length fs) ≡ b → Some i ≡ cond b (Some (position_or_len (is_named name) fs)) None
        → (position_or_len (is_named name) fs < length fs) × (i ≡ position_or_len (is_named name) fs)
    go true e k = (ltb-true (position_or_len (is_named name) fs) (length fs) e, some_is k)
    go false e k = absurd (none_some (sym k))

pub place_within : (name : Bytes) (fs : List Following) (i : ℕ) → Some i ≡ position (is_named name) fs → i < length fs
place_within name fs i h = let w = place_is name fs i h in subst (λ k. k < length fs) (sym w.1) w.0

one_more : (n : ℕ) → suc n ≡ 1 + n
one_more n = omega arith

-- there is none, or there is one
pub none_named : (name : Bytes) (fs : List Following) → None ≡ position (is_named name) fs → by_name (map (λ f. f.consumer) fs) name ≡ None
none_named name fs h = go fs (past fs (nat_lt (position_or_len (is_named name) fs) (length fs)) refl h)
  where
    past : (gs : List Following) (b : Bool) → nat_lt (position_or_len (is_named name) gs) (length gs) ≡ b → None ≡ cond b (Some (position_or_len (is_named name) gs)) None → length gs ≤ position_or_len (is_named name) gs
    past gs true e k = absurd (none_some k)
    past gs false e k = ltb-false (position_or_len (is_named name) gs) (length gs) e

    go : (gs : List Following) → length gs ≤ position_or_len (is_named name) gs → by_name (map (λ f. f.consumer) gs) name ≡ None
    go [] l = refl
    go (g ∷ gs) l = step (is_named name g) l (go gs)
      where
        step : (b : Bool) → suc (length gs) ≤ cond (not b) (1 + position_or_len (is_named name) gs) 0 → (length gs ≤ position_or_len (is_named name) gs → by_name (map (λ f. f.consumer) gs) name ≡ None)
            → cond b (Some g.consumer) (by_name (map (λ f. f.consumer) gs) name) ≡ None
        step true k r = absurd (omega (arith, k))
        step false k r = r (omega (arith, k))

pub found_named : (name : Bytes) (fs : List Following) (i : ℕ) (d : Following) → Some i ≡ position (is_named name) fs → by_name (map (λ f. f.consumer) fs) name ≡ Some (get_or fs i d).consumer
found_named name fs i d h = let w = place_is name fs i h in subst (λ k. by_name (map (λ f. f.consumer) fs) name ≡ Some (get_or fs k d).consumer) (sym w.1) (go fs w.0)
  where
    go : (gs : List Following) → position_or_len (is_named name) gs < length gs → by_name (map (λ f. f.consumer) gs) name ≡ Some (get_or gs (position_or_len (is_named name) gs) d).consumer
    go [] l = absurd (omega arith)
    go (g ∷ gs) l = step (is_named name g) l (go gs)
      where
        step : (b : Bool) → cond (not b) (1 + position_or_len (is_named name) gs) 0 < suc (length gs)
            → (position_or_len (is_named name) gs < length gs → by_name (map (λ f. f.consumer) gs) name ≡ Some (get_or gs (position_or_len (is_named name) gs) d).consumer)
            → cond b (Some g.consumer) (by_name (map (λ f. f.consumer) gs) name) ≡ Some (get_or (g ∷ gs) (cond (not b) (1 + position_or_len (is_named name) gs) 0) d).consumer
        step true k r = refl
        step false k r = r (omega (arith, k)) ∙ ap (λ (j : ℕ). Some (get_or (g ∷ gs) j d).consumer) (one_more (position_or_len (is_named name) gs))

-- the place that is found is that of the name
pub place_is_of : (name : Bytes) (fs : List Following) (o : Option ℕ) → o ≡ position (is_named name) fs → IsPlaceOf (consumers_of fs) name o
place_is_of name fs None h = none_named name fs h
place_is_of name [] (Some i) h = let l : i < 0 = place_within name [] i h in absurd (omega arith)
place_is_of name (f ∷ fs) (Some i) h =
    let l : i < length (f ∷ fs) = place_within name (f ∷ fs) i h in
    record {
      within = subst (λ n. i < n) (sym (length-map (f ∷ fs) (λ (g : Following). g.consumer))) l;
      found = there (f ∷ fs) i f l ∙ sym (found_named name (f ∷ fs) i f h);
    }
