-- The place of a name among consumers in the order of their names.
use Rattle.std.proofs.Common.{◌≡◌, ℕ, zero, suc, ◌+◌, ◌<◌, ◌≤◌, Bool, true, false, cond, not, List, [], ◌∷◌, Some, None, get_or, length, refl, sym, ap, subst, ◌∙◌, arith}
use Rattle.std.specs.Prelude.{All, nat_lt}
use Rattle.std.specs.List.{position, position_or_len, prefix_len}
use Rattle.std.specs.List.Sorted.{IsPartitionedBy, IsPartitionPoint}
use Rattle.std.proofs.lemmas.Bool.{le-ltb, lt-ltb, true≢false}
use Rattle.std.proofs.lemmas.List.Elements.{All-cons, All-head, All-tail, All-weaker}
use Rattle.std.proofs.lemmas.List.Sums.{prefix_len_is}
use Rattle.js_base.specs.Bytes.{Bytes}
use Rattle.js_model.specs.declared.consumer.Consumer.{Consumer}
use Rattle.js_model.specs.Consumers.{is_before}
use Rattle.model_laws.specs.Sound.{AreOrdered}
use Rattle.model_laws.proofs.NameOrder.{before_total, before_trans}
use Rattle.stored_stream.proofs.Lists.{same_flip}
use Rattle.followed_stream.specs.Followers.{is_named, Following}
use Rattle.followed_stream.proofs.Changing.{consumers_of}
use Rattle.followed_stream.proofs.Ordered.{before_apart}

next : (n : ℕ) → 1 + n ≡ suc n
next n = omega arith

-- all consumers of a list stand behind a name
abbrev AreBehind : Bytes → List Consumer → Type 0
AreBehind name cs = All (λ c. is_before name c.name ≡ true) cs

behind_at : (name : Bytes) (fs : List Following) (i : ℕ) (d : Following) → AreBehind name (consumers_of fs) → i < length fs → is_before name (get_or fs i d).consumer.name ≡ true
behind_at name [] i d h l = absurd (omega arith)
behind_at name (f ∷ fs) zero d h l = All-head (λ (c : Consumer). is_before name c.name ≡ true) f.consumer (consumers_of fs) h
behind_at name (f ∷ fs) (suc i) d h l = behind_at name fs i d (All-tail (λ (c : Consumer). is_before name c.name ≡ true) f.consumer (consumers_of fs) h) (omega arith)

module _ (name : Bytes) where
  abbrev pub before : Following → Bool
  before f = is_before f.consumer.name name

  pub before_parts : (fs : List Following) → AreOrdered (consumers_of fs) → IsPartitionedBy before fs
  before_parts [] h i j d le lt e = absurd (omega arith)
  before_parts (f ∷ fs) h zero zero d le lt e = e
  before_parts (f ∷ fs) h zero (suc j) d le lt e = before_trans f.consumer.name (get_or fs j d).consumer.name name (behind_at f.consumer.name fs j d h.0 (omega arith)) e
  before_parts (f ∷ fs) h (suc i) zero d le lt e = absurd (omega arith)
  before_parts (f ∷ fs) h (suc i) (suc j) d le lt e = before_parts fs h.1 i j d (omega arith) (omega arith) e

  pub point_is : (fs : List Following) (r : ℕ) → r ≤ length fs → IsPartitionPoint (λ f. before f ≡ true) (λ f. before f ≡ false) fs r → prefix_len before fs ≡ r
  point_is [] r bound point = omega arith
  point_is (f ∷ fs) r bound point = prefix_len_is before (f ∷ fs) r f bound (λ k l. point.0 k f (omega arith) l) (λ l. point.1 r f (omega arith) l)

  -- ---- of consumers behind a name none has it

  one_more : (b : Bool) (n : ℕ) (m : ℕ) → b ≡ false → n ≤ m → suc n ≤ cond (not b) (1 + m) 0
  one_more true n m e l = absurd (true≢false e)
  one_more false n m e l = omega arith

  none_behind : (fs : List Following) → AreBehind name (consumers_of fs) → length fs ≤ position_or_len (is_named name) fs
  none_behind [] h = omega arith
  none_behind (f ∷ fs) h =
      one_more (is_named name f) (length fs) (position_or_len (is_named name) fs)
      (before_apart name f.consumer.name (All-head (λ (c : Consumer). is_before name c.name ≡ true) f.consumer (consumers_of fs) h))
      (none_behind fs (All-tail (λ (c : Consumer). is_before name c.name ≡ true) f.consumer (consumers_of fs) h))

  -- ---- the first that is not before it has it, or none has

  unnamed : (f : Following) → before f ≡ true → is_named name f ≡ false
  unnamed f e = same_flip f.consumer.name name ∙ before_apart f.consumer.name name e

  found_there : (fs : List Following) → AreOrdered (consumers_of fs) → (d : Following) → prefix_len before fs < length fs → is_named name (get_or fs (prefix_len before fs) d) ≡ true
      → position_or_len (is_named name) fs ≡ prefix_len before fs
  found_there [] h d l e = absurd (omega arith)
  found_there (f ∷ fs) h d l e = go (before f) refl l e (found_there fs h.1 d)
    where
      go : (b : Bool) → before f ≡ b → cond b (1 + prefix_len before fs) 0 < suc (length fs) → is_named name (get_or (f ∷ fs) (cond b (1 + prefix_len before fs) 0) d) ≡ true
          → (prefix_len before fs < length fs → is_named name (get_or fs (prefix_len before fs) d) ≡ true → position_or_len (is_named name) fs ≡ prefix_len before fs)
          → position_or_len (is_named name) (f ∷ fs) ≡ cond b (1 + prefix_len before fs) 0
      go true w m k rest =
          ap (λ b. cond (not b) (1 + position_or_len (is_named name) fs) 0) (unnamed f w)
          ∙ ap (λ n. 1 + n) (rest (omega (arith, m)) (subst (λ (n : ℕ). is_named name (get_or (f ∷ fs) n d) ≡ true) (next (prefix_len before fs)) k))
      go false w m k rest = ap (λ b. cond (not b) (1 + position_or_len (is_named name) fs) 0) k

  none_there : (fs : List Following) → AreOrdered (consumers_of fs) → (d : Following) → (prefix_len before fs < length fs → is_named name (get_or fs (prefix_len before fs) d) ≡ false)
      → length fs ≤ position_or_len (is_named name) fs
  none_there [] h d e = omega arith
  none_there (f ∷ fs) h d e = go (before f) refl e (none_there fs h.1 d)
    where
      go : (b : Bool) → before f ≡ b → (cond b (1 + prefix_len before fs) 0 < suc (length fs) → is_named name (get_or (f ∷ fs) (cond b (1 + prefix_len before fs) 0) d) ≡ false)
          → ((prefix_len before fs < length fs → is_named name (get_or fs (prefix_len before fs) d) ≡ false) → length fs ≤ position_or_len (is_named name) fs)
          → suc (length fs) ≤ position_or_len (is_named name) (f ∷ fs)
      go true w k rest =
          one_more (is_named name f) (length fs) (position_or_len (is_named name) fs) (unnamed f w)
          (rest (λ l. subst (λ (n : ℕ). is_named name (get_or (f ∷ fs) n d) ≡ false) (next (prefix_len before fs)) (k (omega (arith, l)))))
      go false w k rest =
          let first : is_named name f ≡ false = k (omega arith) in
          let behind : is_before name f.consumer.name ≡ true = before_total f.consumer.name name first w in
          none_behind (f ∷ fs) (All-cons (λ (c : Consumer). is_before name c.name ≡ true) f.consumer (consumers_of fs) behind
          (All-weaker (λ (c : Consumer). is_before f.consumer.name c.name ≡ true) (λ c. is_before name c.name ≡ true) (λ c. before_trans name f.consumer.name c.name behind) (consumers_of fs) h.0))

  position_none : (fs : List Following) → AreOrdered (consumers_of fs) → (d : Following) → (prefix_len before fs < length fs → is_named name (get_or fs (prefix_len before fs) d) ≡ false)
      → None ≡ position (is_named name) fs
  position_none fs h d e = sym (ap (λ b. cond b (Some (position_or_len (is_named name) fs)) None) (le-ltb (position_or_len (is_named name) fs) (length fs) (none_there fs h d e)))

  module _ (fs : List Following) (h : AreOrdered (consumers_of fs)) (place : ℕ) (is : place ≡ prefix_len before fs) where
    pub stands_there : (f : Following) → place < length fs → f ≡ get_or fs place f → is_named name f ≡ true → Some place ≡ position (is_named name) fs
    stands_there f l at e =
        let first : position_or_len (is_named name) fs ≡ place = found_there fs h f (subst (λ n. n < length fs) is l) (ap (λ (n : ℕ). is_named name (get_or fs n f)) (sym is) ∙ ap (is_named name) (sym at) ∙ e) ∙ sym is in
        sym (ap (λ n. cond (nat_lt n (length fs)) (Some n) None) first ∙ ap (λ b. cond b (Some place) None) (lt-ltb place (length fs) l))

    pub stands_nowhere : (f : Following) → f ≡ get_or fs place f → is_named name f ≡ false → None ≡ position (is_named name) fs
    stands_nowhere f at e = position_none fs h f (λ l. ap (λ (n : ℕ). is_named name (get_or fs n f)) (sym is) ∙ ap (is_named name) (sym at) ∙ e)

  pub stands_past : (fs : List Following) → AreOrdered (consumers_of fs) → (place : ℕ) → place ≡ prefix_len before fs → length fs ≤ place → None ≡ position (is_named name) fs
  stands_past [] h place is l = refl
  stands_past (f ∷ fs) h place is l = position_none (f ∷ fs) h f (λ m. absurd (omega (arith, l, m, is)))
