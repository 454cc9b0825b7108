-- A binary search among sessions, whose numbers ascend.
use Rattle.std.proofs.Common.{◌≡◌, ◌≢◌, ℕ, ◌+◌, ◌<◌, ◌≤◌, ◌&&◌, ◌||◌, zero, suc, Bool, true, false, cond, not, List, [], ◌∷◌, Option, Some, None, Result, Ok, Err, length, get_or, refl, sym, ap, subst, ◌∙◌, arith, eq-eqb}
use Rattle.std.specs.Prelude.{nat_lt, is_some}
use Rattle.std.specs.Result.{result_ok}
use Rattle.std.specs.List.{list_any, position, prefix_len}
use Rattle.std.specs.List.Sorted.{IsSearchInRange, IsBinarySearchResult, IsNonDecreasingBy}
use Rattle.std.specs.Ordering.{nat_cmp, ordering_index}
use Rattle.std.proofs.lemmas.Cmp.{ranked}
use Rattle.std.proofs.lemmas.Bool.{ne_eqb, eqb-true, true≢false}
use Rattle.std.proofs.lemmas.Bool.Decides.{nat_tests}
use Rattle.js_model.specs.Router.{Session, is_session, new_session}
use Rattle.route_core.specs.Sessions.{AreNumbered, InOrder, with_first}
use Rattle.route_index.proofs.Numbers.{or_false}
use Rattle.route_core.proofs.Places.{first_at, any_at, none_passes, not_any}
use Rattle.route_core.proofs.Numbers.{AreBetween, KeepsNumber, numbered_first}

low_at : (low high : ℕ) (ss : List Session) (j : ℕ) (d : Session) → AreBetween low high ss → j < length ss → low ≤ (get_or ss j d).number
low_at low high [] j d h l = absurd (omega (arith, l))
low_at low high (s ∷ ss) zero d h l = h.0
low_at low high (s ∷ ss) (suc j) d h l = omega (arith, h.0, low_at (s.number + 1) high ss j d h.1 (omega (arith, l)))

rises : (low high : ℕ) (ss : List Session) (i j : ℕ) (d : Session) → AreBetween low high ss → i ≤ j → j < length ss → (get_or ss i d).number ≤ (get_or ss j d).number
rises low high [] i j d h k l = absurd (omega (arith, l))
rises low high (s ∷ ss) zero zero d h k l = omega arith
rises low high (s ∷ ss) zero (suc j) d h k l = omega (arith, low_at (s.number + 1) high ss j d h.1 (omega (arith, l)))
rises low high (s ∷ ss) (suc i) zero d h k l = absurd (omega (arith, k))
rises low high (s ∷ ss) (suc i) (suc j) d h k l = rises (s.number + 1) high ss i j d h.1 (omega (arith, k)) (omega (arith, l))

or_parts : (a b : Bool) → (a || b) ≡ false → (a ≡ false) × (b ≡ false)
or_parts true b h = absurd (true≢false h)
or_parts false b h = (refl, h)

module _ (n : ℕ) where
  -- the session is at its place, and no other has its number
  prefix_at : (low high : ℕ) (ss : List Session) (i : ℕ) (d : Session) → AreBetween low high ss → i < length ss → (get_or ss i d).number ≡ n → prefix_len (λ s. not (is_session n s)) ss ≡ i
  prefix_at low high [] i d h l e = absurd (omega (arith, l))
  prefix_at low high (s ∷ ss) zero d h l e = ap (λ b. cond (not b) (1 + prefix_len (λ t. not (is_session n t)) ss) 0) (eq-eqb s.number n e)
  prefix_at low high (s ∷ ss) (suc i) d h l e =
      let above = low_at (s.number + 1) high ss i d h.1 (omega (arith, l)) in
      let rest = prefix_at (s.number + 1) high ss i d h.1 (omega (arith, l)) e in
      ap (λ b. cond (not b) (1 + prefix_len (λ t. not (is_session n t)) ss) 0) (ne_eqb s.number n (λ same. omega (arith, above, e, same))) ∙ omega (arith, rest)

  prefix_all : (ss : List Session) (d : Session) → ((j : ℕ) → j < length ss → (get_or ss j d).number ≢ n) → prefix_len (λ s. not (is_session n s)) ss ≡ length ss
  prefix_all [] d h = refl
  prefix_all (s ∷ ss) d h =
      let rest = prefix_all ss d (λ j l. h (suc j) (omega (arith, l))) in
      ap (λ b. cond (not b) (1 + prefix_len (λ t. not (is_session n t)) ss) 0) (ne_eqb s.number n (h 0 (omega arith))) ∙ omega (arith, rest)

  placed : (ss : List Session) (k : ℕ) → prefix_len (λ s. not (is_session n s)) ss ≡ k → position (is_session n) ss ≡ cond (nat_lt k (length ss)) (Some k) None
  placed ss k e = ap (λ m. cond (nat_lt m (length ss)) (Some m) None) e

  module _ (latest : ℕ) (ss : List Session) (numbered : AreNumbered latest ss) where
    abbrev d : Session
    d = new_session 0

    comparisons_rise : IsNonDecreasingBy (λ s. ordering_index (nat_cmp s.number n)) ss
    comparisons_rise i j e le within = let k = rises 1 (latest + 1) ss i j e numbered.ascend le within in grind (arith, nat_tests)

    found : (r : Result ℕ ℕ) → IsSearchInRange r (length ss) → IsBinarySearchResult (λ s. nat_cmp s.number n) ss r → result_ok r ≡ position (is_session n) ss
    found (Ok at) within equal =
        let here : (get_or ss at d).number ≡ n = ranked _ n _ (sym (equal d)) in
        let less : nat_lt at (length ss) ≡ true = grind (arith, nat_tests, within) in
        sym (placed ss at (prefix_at 1 (latest + 1) ss at d numbered.ascend within here) ∙ ap (λ b. cond b (Some at) None) less)
    found (Err at) within parted =
        let none = prefix_all ss d (λ j l same. apart j l same) in
        let not_less : nat_lt (length ss) (length ss) ≡ false = grind (arith, nat_tests) in
        sym (placed ss (length ss) none ∙ ap (λ b. cond b (Some (length ss)) None) not_less)
      where
        apart : (j : ℕ) → j < length ss → (get_or ss j d).number ≡ n → ⊥
        apart j l same = go (nat_lt j at) refl
          where
            go : (b : Bool) → nat_lt j at ≡ b → ⊥
            go true e =
                let less : (get_or ss j d).number < n = ranked _ n _ (sym ((parted comparisons_rise).0 j d (omega arith) (grind (arith, nat_tests, e)))) in
                omega (arith, less, same)
            go false e =
                let more : n < (get_or ss j d).number = ranked _ n _ (sym ((parted comparisons_rise).1 j d (grind (arith, nat_tests, e)) l)) in
                omega (arith, more, same)

  -- a binary search finds the place
  pub searched : (ss : List Session) → InOrder ss → (r : Result ℕ ℕ) → IsSearchInRange r (length ss) → IsBinarySearchResult (λ s. nat_cmp s.number n) ss r → result_ok r ≡ position (is_session n) ss
  searched ss order r within h = found order.latest ss order.numbered r within h

  -- a place is found if a session has the number
  pub some_place : (ss : List Session) (o : Option ℕ) → o ≡ position (is_session n) ss → is_some o ≡ list_any (is_session n) ss
  some_place ss None e = sym (not_any (is_session n) ss (none_passes (is_session n) ss (sym e)))
  some_place ss (Some i) e = sym (any_at (is_session n) ss i (new_session 0) (first_at (is_session n) ss i (new_session 0) (sym e)))

  -- what is asked of the one session of the number
  none_asked : (q : Session → Bool) (low high : ℕ) (ss : List Session) → AreBetween low high ss → n < low → list_any (λ s. is_session n s && q s) ss ≡ false
  none_asked q low high [] h l = refl
  none_asked q low high (s ∷ ss) h l =
      ap (λ b. (b && q s) || list_any (λ t. is_session n t && q t) ss) (ne_eqb s.number n (λ e. omega (arith, h.0, e, l)))
      ∙ none_asked q (s.number + 1) high ss h.1 (omega (arith, h.0, l))

  asked_at : (q : Session → Bool) (low high : ℕ) (ss : List Session) (i : ℕ) (d : Session) → AreBetween low high ss → i < length ss → is_session n (get_or ss i d) ≡ true
      → list_any (λ s. is_session n s && q s) ss ≡ (is_session n (get_or ss i d) && q (get_or ss i d))
  asked_at q low high [] i d h l e = absurd (omega (arith, l))
  asked_at q low high (s ∷ ss) zero d h l e =
      let is : s.number ≡ n = eqb-true s.number n e in
      ap (λ b. (is_session n s && q s) || b) (none_asked q (s.number + 1) high ss h.1 (omega (arith, is))) ∙ or_false (is_session n s && q s)
  asked_at q low high (s ∷ ss) (suc i) d h l e =
      let above = low_at (s.number + 1) high ss i d h.1 (omega (arith, l)) in
      let is : (get_or ss i d).number ≡ n = eqb-true (get_or ss i d).number n e in
      ap (λ b. (b && q s) || list_any (λ t. is_session n t && q t) ss) (ne_eqb s.number n (λ same. omega (arith, above, is, same))) ∙ asked_at q (s.number + 1) high ss i d h.1 (omega (arith, l)) e

  pub asked : (q : Session → Bool) (ss : List Session) → InOrder ss → (o : Option ℕ) (i : ℕ) (s : Session) → o ≡ position (is_session n) ss → o ≡ Some i → s ≡ get_or ss i s
      → (is_session n s && q s) ≡ list_any (λ t. is_session n t && q t) ss
  asked q ss order o i s e f at =
      let first = first_at (is_session n) ss i s (sym e ∙ f) in
      ap (λ t. is_session n t && q t) at ∙ sym (asked_at q 1 (order.latest + 1) ss i s order.numbered.ascend first.within first.passes)

  pub asked_none : (q : Session → Bool) (ss : List Session) (o : Option ℕ) → o ≡ position (is_session n) ss → o ≡ None → false ≡ list_any (λ t. is_session n t && q t) ss
  asked_none q ss o e f = sym (never ss (not_any (is_session n) ss (none_passes (is_session n) ss (sym e ∙ f))))
    where
      never : (xs : List Session) → list_any (is_session n) xs ≡ false → list_any (λ t. is_session n t && q t) xs ≡ false
      never [] h = refl
      never (x ∷ xs) h =
          let parts = or_parts (is_session n x) (list_any (is_session n) xs) h in
          ap (λ b. (b && q x) || list_any (λ t. is_session n t && q t) xs) parts.0 ∙ never xs parts.1

-- a change of one session keeps the order
pub order_kept : (n : ℕ) (change : Session → Session) → KeepsNumber change → (ss ss' : List Session) → InOrder ss → ss' ≡ with_first (is_session n) change ss → InOrder ss'
order_kept n change keeps ss ss' order e =
    subst InOrder (sym e) (record { latest = order.latest; numbered = numbered_first order.latest n change keeps ss order.numbered })

-- the sessions as they are lent
pub in_order : (latest : ℕ) (ss lent : List Session) → AreNumbered latest ss → lent ≡ ss → InOrder lent
in_order latest ss lent h e = subst InOrder (sym e) (record { latest = latest; numbered = h })
