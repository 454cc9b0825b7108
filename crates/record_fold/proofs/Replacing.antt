-- The one consumer of a name is changed at its place.
use Rattle.std.proofs.Common.{◌≡◌, ℕ, ◌+◌, ◌<◌, ◌≤◌, Bool, true, false, cond, not, List, [], ◌∷◌, length, get_or, set, map, Option, Some, None, nat_lt, refl, sym, ap, subst, ◌∙◌, arith}
use Rattle.std.specs.Prelude.{All, is_some}
use Rattle.std.specs.List.{position, position_or_len}
use Rattle.std.proofs.lemmas.Bool.Decides.{nat_tests}
use Rattle.std.proofs.lemmas.List.Elements.{All-head, All-tail}
use Rattle.js_base.specs.Bytes.{Bytes, same}
use Rattle.js_model.specs.declared.consumer.Consumer.{Consumer}
use Rattle.js_model.specs.Streams.{by_name, in_place_of}
use Rattle.js_model.specs.Consumers.{is_before}
use Rattle.js_model.proofs.Named.{same_is, placed_same, placed_other}
use Rattle.model_laws.specs.Sound.{AreOrdered}
use Rattle.effects.proofs.Passing.{differ_back}
use Rattle.record_fold.proofs.Placing.{one_more}

abbrev pub has_name : Bytes → Consumer → Bool
has_name name c = same c.name name

-- ---- the place of a name

abbrev pub place : Bytes → List Consumer → ℕ
place name cs = position_or_len (has_name name) cs

-- the consumer is found there, if it is anywhere
pub found_there : (name : Bytes) (cs : List Consumer) (d : Consumer) → place name cs < length cs → by_name cs name ≡ Some (get_or cs (place name cs) d)
found_there name [] d within = absurd (omega (arith, within))
found_there name (c ∷ cs) d within = go (same c.name name) (found_there name cs d) within
  where
    go : (b : Bool) → (place name cs < length cs → by_name cs name ≡ Some (get_or cs (place name cs) d)) → cond (not b) (1 + place name cs) 0 < length (c ∷ cs)
        → cond b (Some c) (by_name cs name) ≡ Some (get_or (c ∷ cs) (cond (not b) (1 + place name cs) 0) d)
    go true h w = refl
    go false h w = h (omega (arith, w)) ∙ ap (λ (n : ℕ). Some (get_or (c ∷ cs) n d)) (sym (one_more (place name cs)))

pub not_found : (name : Bytes) (cs : List Consumer) → length cs ≤ place name cs → by_name cs name ≡ None
not_found name [] h = refl
not_found name (c ∷ cs) h = go (same c.name name) (not_found name cs) h
  where
    go : (b : Bool) → (length cs ≤ place name cs → by_name cs name ≡ None) → length (c ∷ cs) ≤ cond (not b) (1 + place name cs) 0 → cond b (Some c) (by_name cs name) ≡ None
    go true f l = absurd (omega (arith, l))
    go false f l = f (omega (arith, l))

-- ---- as it is answered

place_is : (n len k : ℕ) → cond (nat_lt n len) (Some n) None ≡ Some k → (k ≡ n) × (n < len)
place_is n len k h = go (nat_lt n len) refl h
  where
    go : (b : Bool) → nat_lt n len ≡ b → cond b (Some n) None ≡ Some k → (k ≡ n) × (n < len)
    go true e i = (cc, grind (arith, nat_tests))
    go false e i = absurd (cc)

none_is : (n len : ℕ) → cond (nat_lt n len) (Some n) None ≡ None → len ≤ n
none_is n len h = go (nat_lt n len) refl h
  where
    go : (b : Bool) → nat_lt n len ≡ b → cond b (Some n) None ≡ None → len ≤ n
    go true e i = absurd (cc)
    go false e i = grind (arith, nat_tests)

pub record IsAt (name : Bytes) (cs : List Consumer) (k : ℕ) (d : Consumer) : Type 0 where
  pub within : k < length cs
  pub is_place : k ≡ place name cs
  pub found : by_name cs name ≡ Some (get_or cs k d)

pub at_place : (name : Bytes) (cs : List Consumer) (k : ℕ) (d : Consumer) → position (has_name name) cs ≡ Some k → IsAt name cs k d
at_place name cs k d h =
    let p = place_is (place name cs) (length cs) k h in
    record {
      within = subst (λ (n : ℕ). n < length cs) (sym p.0) p.1;
      is_place = p.0;
      found = found_there name cs d p.1 ∙ ap (λ (n : ℕ). Some (get_or cs n d)) (sym p.0);
    }

pub at_none : (name : Bytes) (cs : List Consumer) → position (has_name name) cs ≡ None → by_name cs name ≡ None
at_none name cs h = not_found name cs (none_is (place name cs) (length cs) h)

-- ---- the change

-- those behind a consumer have other names
others_stay : (new : Consumer) (cs : List Consumer) → All (λ d. is_before new.name d.name ≡ true) cs → map (in_place_of new) cs ≡ cs
others_stay new [] h = refl
others_stay new (c ∷ cs) h =
    ap (λ (d : Consumer). d ∷ map (in_place_of new) cs) (placed_other new c (differ_back new.name c.name (All-head (λ d. is_before new.name d.name ≡ true) c cs h)))
    ∙ ap (λ (l : List Consumer). c ∷ l) (others_stay new cs (All-tail (λ d. is_before new.name d.name ≡ true) c cs h))

pub replaced_at : (new : Consumer) (cs : List Consumer) → AreOrdered cs → place new.name cs < length cs → set cs (place new.name cs) new ≡ map (in_place_of new) cs
replaced_at new [] ordered within = absurd (omega (arith, within))
replaced_at new (c ∷ cs) ordered within = go (same c.name new.name) refl (replaced_at new cs ordered.1) within
  where
    go : (b : Bool) → same c.name new.name ≡ b → (place new.name cs < length cs → set cs (place new.name cs) new ≡ map (in_place_of new) cs) → cond (not b) (1 + place new.name cs) 0 < length (c ∷ cs)
        → set (c ∷ cs) (cond (not b) (1 + place new.name cs) 0) new ≡ map (in_place_of new) (c ∷ cs)
    go true e h w =
        let name : c.name ≡ new.name = same_is c.name new.name e in
        let behind : All (λ d. is_before new.name d.name ≡ true) cs = subst (λ (n : Bytes). All (λ d. is_before n d.name ≡ true) cs) name ordered.0 in
        ap (λ (l : List Consumer). new ∷ l) (sym (others_stay new cs behind)) ∙ ap (λ (d : Consumer). d ∷ map (in_place_of new) cs) (sym (placed_same new c name))
    go false e h w =
        ap (λ (n : ℕ). set (c ∷ cs) n new) (one_more (place new.name cs)) ∙ ap (λ (l : List Consumer). c ∷ l) (h (omega (arith, w)))
        ∙ ap (λ (d : Consumer). d ∷ map (in_place_of new) cs) (sym (placed_other new c e))

-- ---- whether there is one

pub some_found : (name : Bytes) (cs : List Consumer) (o : Option ℕ) → o ≡ position (has_name name) cs → is_some o ≡ true → (c : Consumer) × (by_name cs name ≡ Some c)
some_found name cs None e h = absurd (cc)
some_found name [] (Some k) e h = absurd (cc)
some_found name (c ∷ cs) (Some k) e h = (get_or (c ∷ cs) k c, (at_place name (c ∷ cs) k c (sym e)).found)

pub none_found : (name : Bytes) (cs : List Consumer) (o : Option ℕ) → o ≡ position (has_name name) cs → is_some o ≡ false → by_name cs name ≡ None
none_found name cs None e h = at_none name cs (sym e)
none_found name cs (Some k) e h = absurd (cc)
