-- The steps of a walk through messages against the order of their sequences, to the last that passes a test.
use Rattle.std.proofs.Common.{◌≡◌, ℕ, suc, ◌+◌, ◌-◌, ◌<◌, ◌≤◌, Bool, true, false, ◌&&◌, cond, List, [], ◌∷◌, Some, None, refl, sym, ap, ◌∙◌, subst, arith, ◌⊎◌, inl, inr, not}
use Rattle.std.specs.Prelude.{Option, nat_le, nat_lt, ◌==◌, filter, option_map}
use Rattle.std.specs.List.{last_or}
use Rattle.std.proofs.lemmas.Bool.{lt-ltb, le-ltb, ltb-true, true≢false, eq-eqb}
use Rattle.std.proofs.lemmas.Bool.Decides.{leb_tells}
use Rattle.js_model.specs.declared.stream.Message.{Message}
use Rattle.js_model.specs.declared.stream.Stream.{Stream}
use Rattle.js_model.proofs.Members.{IsIn, here, there, in_cons, in_filter, in_bounds, any_in, holds_of_one}
use Rattle.js_model.proofs.Named.{none_some, some_is}
use Rattle.stream_view.specs.Heads.{MessageHead, head_of}
use Rattle.stream_view.specs.Order.{IsInOrder}
use Rattle.consumer_start.proofs.Walks.{Ascending, IsSeen, seen, unseen}

-- below the sequence, and it passes
abbrev pub passes_below : (Message → Bool) → ℕ → Message → Bool
passes_below P n m = P m && nat_lt m.seq n

below_is : (a k : ℕ) → 0 < k → nat_le a (k - 1) ≡ nat_lt a k
below_is a k l = go (leb_tells a (k - 1))
  where
    go : ((nat_le a (k - 1) ≡ true) × (a ≤ k - 1)) ⊎ ((nat_le a (k - 1) ≡ false) × (k - 1 < a)) → nat_le a (k - 1) ≡ nat_lt a k
    go (inl w) = let q : a ≤ k - 1 = w.1 in w.0 ∙ sym (lt-ltb a k (omega arith))
    go (inr w) = let q : k - 1 < a = w.1 in w.0 ∙ sym (le-ltb a k (omega arith))

-- two tests that agree on all messages keep the same
same_kept : (t u : Message → Bool) (ms : List Message) → ((m : Message) → IsIn m ms → t m ≡ u m) → filter t ms ≡ filter u ms
same_kept t u [] f = refl
same_kept t u (m ∷ ms) f =
    ap (λ b. cond b (m ∷ filter t ms) (filter t ms)) (f m here) ∙ ap (λ l. cond (u m) (m ∷ l) l) (same_kept t u ms (λ x i. f x (there i)))

-- the last of a list is in it, or there is none
last_in : (o : Option Message) (ms : List Message) (m : Message) → last_or o ms ≡ Some m → (o ≡ Some m) ⊎ IsIn m ms
last_in o [] m e = inl e
last_in o (x ∷ xs) m e = go (last_in (Some x) xs m e)
  where
    go : (Some x ≡ Some m) ⊎ IsIn m xs → (o ≡ Some m) ⊎ IsIn m (x ∷ xs)
    go (inl k) = inr (subst (λ (z : Message). IsIn z (x ∷ xs)) (some_is k) here)
    go (inr i) = inr (there i)

-- in an ascending list it is the greatest
greatest : (t : Message → Bool) (o : Option Message) (low high : ℕ) (ms : List Message) (m : Message) → Ascending low high ms → last_or o (filter t ms) ≡ Some m → (x : Message) → IsIn x ms → t x ≡ true → x.seq ≤ m.seq
greatest t o low high [] m h e x i p = elim i [ ]
greatest t o low high (y ∷ ys) m h e x i p = go (λ d f j. greatest t d (y.seq + 1) high ys m h.1 f x j p) (t y) refl e
  where
    -- the last one comes from y on
    from_y : last_or (Some y) (filter t ys) ≡ Some m → y.seq ≤ m.seq
    from_y f = pick (last_in (Some y) (filter t ys) m f)
      where
        pick : (Some y ≡ Some m) ⊎ IsIn m (filter t ys) → y.seq ≤ m.seq
        pick (inl k) = let q : y.seq ≡ m.seq = ap (λ z. z.seq) (some_is k) in omega arith
        pick (inr k) =
            let b = in_bounds (λ z. z.seq) (y.seq + 1) high m ys h.1 (in_filter t m ys k).0 in
            let q : y.seq + 1 ≤ m.seq = b.0 in
            omega arith

    go : ((o : Option Message) → last_or o (filter t ys) ≡ Some m → IsIn x ys → x.seq ≤ m.seq) → (b : Bool) → t y ≡ b → last_or o (cond b (y ∷ filter t ys) (filter t ys)) ≡ Some m → x.seq ≤ m.seq
    go more true k f = at (in_cons i)
      where
        at : (y ≡ x) ⊎ IsIn x ys → x.seq ≤ m.seq
        at (inl q) = subst (λ (z : Message). z.seq ≤ m.seq) q (from_y f)
        at (inr j) = more (Some y) f j
    go more false k f = at (in_cons i)
      where
        at : (y ≡ x) ⊎ IsIn x ys → x.seq ≤ m.seq
        at (inl q) = absurd (true≢false (sym p ∙ sym (ap t q) ∙ k))
        at (inr j) = more o f j

some : (y : Message) (ys : List Message) → last_or (Some y) ys ≡ None → ⊥
some y [] f = none_some (sym f)
some y (z ∷ zs) f = some z zs f

module _ (P : Message → Bool) where
  and_true : (b : Bool) → (b && true) ≡ b
  and_true true = refl
  and_true false = refl

  and_false : (b : Bool) → (b && false) ≡ false
  and_false true = refl
  and_false false = refl

  abbrev both : (Message → Bool) → Message → Bool
  both t m = P m && t m

  -- what is the last so far of those that pass the one test, is the last of those that pass both, if it passes
  abbrev IsTail : Option Message → Option Message → Type 0
  IsTail None e = e ≡ None
  IsTail (Some x) e = P x ≡ true → e ≡ Some x

  last_passes : (t : Message → Bool) (d e : Option Message) (ms : List Message) (m : Message) → IsTail d e → last_or d (filter t ms) ≡ Some m → P m ≡ true → last_or e (filter (both t) ms) ≡ Some m
  last_passes t None e [] m r k p = absurd (none_some k)
  last_passes t (Some x) e [] m r k p = r (ap P (some_is k) ∙ p) ∙ k
  last_passes t d e (x ∷ xs) m r k p = go (λ d e r f. last_passes t d e xs m r f p) (t x) k
    where
      go : ((d e : Option Message) → IsTail d e → last_or d (filter t xs) ≡ Some m → last_or e (filter (both t) xs) ≡ Some m) → (b : Bool) → last_or d (cond b (x ∷ filter t xs) (filter t xs)) ≡ Some m
          → last_or e (cond (P x && b) (x ∷ filter (both t) xs) (filter (both t) xs)) ≡ Some m
      go more true f = next (P x) refl
        where
          next : (b : Bool) → P x ≡ b → last_or e (cond (b && true) (x ∷ filter (both t) xs) (filter (both t) xs)) ≡ Some m
          next true q = more (Some x) (Some x) (λ _. refl) f
          next false q = more (Some x) e (λ w. absurd (true≢false (sym w ∙ q))) f
      go more false f = ap (λ b. last_or e (cond b (x ∷ filter (both t) xs) (filter (both t) xs))) (and_false (P x)) ∙ more d e r f

  none_passes : (t : Message → Bool) (ms : List Message) → last_or None (filter t ms) ≡ None → last_or None (filter (both t) ms) ≡ None
  none_passes t [] k = refl
  none_passes t (x ∷ xs) k = go (none_passes t xs) (t x) k
    where
      go : (last_or None (filter t xs) ≡ None → last_or None (filter (both t) xs) ≡ None) → (b : Bool) → last_or None (cond b (x ∷ filter t xs) (filter t xs)) ≡ None
          → last_or None (cond (P x && b) (x ∷ filter (both t) xs) (filter (both t) xs)) ≡ None
      go more true f = absurd (some x (filter t xs) f)
      go more false f = ap (λ b. last_or None (cond b (x ∷ filter (both t) xs) (filter (both t) xs))) (and_false (P x)) ∙ more f

not_true : (b : Bool) → not b ≡ true → b ≡ false
not_true true e = absurd (true≢false (sym e))
not_true false e = refl

-- the walk looks for the last that passes
pub record IsBackWalk (P : Message → Bool) (s : Stream) (wanted : Option ℕ) (below : ℕ) : Type 0 where
  pub behind : wanted ≡ option_map (λ m. m.seq) (last_or None (filter (passes_below P below) s.messages))

pub walk_from_last : (P : Message → Bool) (s : Stream) → IsInOrder s → IsBackWalk P s (option_map (λ m. m.seq) (last_or None (filter P s.messages))) (s.last + 1)
walk_from_last P s order = record {
  behind =
      ap (λ ms. option_map (λ m. m.seq) (last_or None ms))
      (same_kept P (passes_below P (s.last + 1)) s.messages
      (λ m i. let b = in_bounds (λ z. z.seq) 1 (s.last + 1) m s.messages order.ascends i in sym (ap (λ t. P m && t) (lt-ltb m.seq (s.last + 1) b.1) ∙ and_true P (P m))));
}

module _ (P : Message → Bool) (s : Stream) (wanted : Option ℕ) (below : ℕ) (walk : IsBackWalk P s wanted below) where
  pub ends_at_first : below ≤ 0 → wanted ≡ None
  ends_at_first l = walk.behind ∙ ap (option_map (λ m. m.seq)) (ap (last_or None) (same_kept (passes_below P below) (λ m. false) s.messages (λ m i. ap (λ t. P m && t) (le-ltb m.seq below (omega arith)) ∙ and_false P (P m))) ∙ none s.messages)
    where
      none : (ms : List Message) → last_or None (filter (λ m. false) ms) ≡ None
      none [] = refl
      none (m ∷ ms) = none ms

  upto_is : 0 < below → filter (λ m. nat_le m.seq (below - 1)) s.messages ≡ filter (λ m. nat_lt m.seq below) s.messages
  upto_is l = same_kept (λ m. nat_le m.seq (below - 1)) (λ m. nat_lt m.seq below) s.messages (λ m i. below_is m.seq below l)

  pub back_unseen : 0 < below → None ≡ option_map head_of (last_or None (filter (λ m. nat_le m.seq (below - 1)) s.messages)) → wanted ≡ None
  back_unseen l e =
      walk.behind
      ∙ ap (option_map (λ m. m.seq))
      (none_passes P (λ m. nat_lt m.seq below) s.messages (ap (last_or None) (sym (upto_is l)) ∙ unseen (last_or None (filter (λ m. nat_le m.seq (below - 1)) s.messages)) e))

  module _ (l : 0 < below) (head : MessageHead) (found : Some head ≡ option_map head_of (last_or None (filter (λ m. nat_le m.seq (below - 1)) s.messages))) where
    look : IsSeen (last_or None (filter (λ m. nat_le m.seq (below - 1)) s.messages)) head
    look = seen (last_or None (filter (λ m. nat_le m.seq (below - 1)) s.messages)) head found

    last_is : last_or None (filter (λ m. nat_lt m.seq below) s.messages) ≡ Some look.message
    last_is = ap (last_or None) (sym (upto_is l)) ∙ look.is

    seq_is : look.message.seq ≡ head.seq
    seq_is = sym (ap (λ h. h.seq) look.head_is)

    is_below : look.message.seq < below
    is_below = at (last_in None (filter (λ m. nat_lt m.seq below) s.messages) look.message last_is)
      where
        at : (None ≡ Some look.message) ⊎ IsIn look.message (filter (λ m. nat_lt m.seq below) s.messages) → look.message.seq < below
        at (inl e) = absurd (none_some e)
        at (inr i) = ltb-true look.message.seq below (in_filter (λ m. nat_lt m.seq below) look.message s.messages i).1

    pub back_smaller : head.seq < below
    back_smaller = let b = is_below in let e = seq_is in omega arith

    pub back_stops : ((m : Message) → head ≡ head_of m → P m ≡ true) → wanted ≡ Some head.seq
    back_stops p =
        walk.behind
        ∙ ap (option_map (λ m. m.seq)) (last_passes P (λ m. nat_lt m.seq below) None None s.messages look.message refl last_is (p look.message look.head_is))
        ∙ ap Some seq_is

    pub back_goes_on : IsInOrder s → ((m : Message) → head ≡ head_of m → P m ≡ false) → IsBackWalk P s wanted head.seq
    back_goes_on order p = record {
      behind =
          walk.behind
          ∙ ap (λ ms. option_map (λ m. m.seq) (last_or None ms)) (same_kept (passes_below P below) (passes_below P look.message.seq) s.messages agree)
          ∙ ap (λ n. option_map (λ m. m.seq) (last_or None (filter (passes_below P n) s.messages))) seq_is;
    }
      where
        is_in : IsIn look.message s.messages
        is_in = at (last_in None (filter (λ m. nat_lt m.seq below) s.messages) look.message last_is)
          where
            at : (None ≡ Some look.message) ⊎ IsIn look.message (filter (λ m. nat_lt m.seq below) s.messages) → IsIn look.message s.messages
            at (inl e) = absurd (none_some e)
            at (inr i) = (in_filter (λ m. nat_lt m.seq below) look.message s.messages i).0

        -- the message of its sequence is itself
        fails : (x : Message) → IsIn x s.messages → look.message.seq ≡ x.seq → P x ≡ false
        fails x i e =
            not_true (P x)
            (holds_of_one (λ m. m.seq) (λ m. not (P m)) 1 (s.last + 1) x s.messages order.ascends i
            (any_in (λ m. (m.seq == x.seq) && not (P m)) look.message s.messages is_in (ap (λ b. b && not (P look.message)) (eq-eqb look.message.seq x.seq e) ∙ ap not (p look.message look.head_is))))

        agree : (x : Message) → IsIn x s.messages → (P x && nat_lt x.seq below) ≡ (P x && nat_lt x.seq look.message.seq)
        agree x i = go (leb_tells (suc x.seq) below) (leb_tells (suc x.seq) look.message.seq)
          where
            go : ((nat_lt x.seq below ≡ true) × (suc x.seq ≤ below)) ⊎ ((nat_lt x.seq below ≡ false) × (below < suc x.seq))
                → ((nat_lt x.seq look.message.seq ≡ true) × (suc x.seq ≤ look.message.seq)) ⊎ ((nat_lt x.seq look.message.seq ≡ false) × (look.message.seq < suc x.seq))
                → (P x && nat_lt x.seq below) ≡ (P x && nat_lt x.seq look.message.seq)
            go (inl a) (inl b) = ap (λ t. P x && t) (a.0 ∙ sym b.0)
            go (inl a) (inr b) =
                let q : x.seq ≤ look.message.seq = greatest (λ m. nat_lt m.seq below) None 1 (s.last + 1) s.messages look.message order.ascends last_is x i a.0 in
                let r : look.message.seq < suc x.seq = b.1 in
                let e : look.message.seq ≡ x.seq = omega arith in
                ap (λ t. t && nat_lt x.seq below) (fails x i e) ∙ sym (ap (λ t. t && nat_lt x.seq look.message.seq) (fails x i e))
            go (inr a) (inl b) = let q = is_below in let k : suc x.seq ≤ look.message.seq = b.1 in let r : below < suc x.seq = a.1 in absurd (omega arith)
            go (inr a) (inr b) = ap (λ t. P x && t) (a.0 ∙ sym b.0)
