-- Until when no pull ends, no heartbeat comes and no delivery becomes due.
use Rattle.std.proofs.Common.{◌≡◌, ◌&&◌, ◌||◌, ℕ, ◌≤◌, Bool, true, false, cond, List, [], ◌∷◌, ◌++◌, Option, Some, None, refl, sym, ap, subst, ◌∙◌, arith}
use Rattle.std.specs.Prelude.{All, nat_le, nat_lt}
use Rattle.std.specs.List.{flat_map}
use Rattle.std.specs.Option.{option_to_list}
use Rattle.std.proofs.lemmas.Bool.{le-leb, leb-true, or_left, or_right}
use Rattle.std.proofs.lemmas.List.Concat.{flat_map-cons}
use Rattle.std.proofs.lemmas.List.Elements.{All-append, All-cons, All-head, All-nil, All-tail}
use Rattle.js_base.specs.Moments.{plus}
use Rattle.js_model.specs.declared.consumer.Pull.{Pull}
use Rattle.js_model.specs.Advance.{has_come, is_over, pull_comes}
use Rattle.pull_queue.specs.Quiet.{is_due, is_reached, IsQuietUntil}
use Rattle.timers.specs.Bounds.{IsTimerBound}
use Rattle.timers.specs.Timers.{beat_timers, later, pull_timers}
use Rattle.timer_bounds.proofs.Bounding.{IsFrom, bound_of, fewer_bound, later_append}

-- ---- the pulls

reached_from : (next : Option ℕ) (t : ℕ) → is_reached t next ≡ true → IsFrom next t
reached_from None t h = absurd cc
reached_from (Some n) t h = leb-true n t h

-- a moment at which something comes is reached
comes_from : (next : Option ℕ) (t : ℕ) (b : Bool) → (is_reached t next ≡ false → b ≡ false) → b ≡ true → IsFrom next t
comes_from next t b h is = go (is_reached t next) refl
  where
    go : (r : Bool) → is_reached t next ≡ r → IsFrom next t
    go true e = reached_from next t e
    go false e = let no : b ≡ false = h e in absurd (cc (no, is))

itself : (t : ℕ) → nat_le t t ≡ true
itself t = le-leb t t (omega arith)

over_at : (p : Pull) (t : ℕ) → p.end ≡ Some t → is_over t p ≡ true
over_at p t e = ap (λ (o : Option ℕ). is_over t (record p { end = o })) e ∙ itself t

module _ (next : Option ℕ) (p : Pull) (quiet : (t : ℕ) → is_reached t next ≡ false → is_due t p ≡ false) where
  ends_from : All (IsFrom next) (option_to_list p.end)
  ends_from = go p.end refl
    where
      go : (o : Option ℕ) → p.end ≡ o → All (IsFrom next) (option_to_list o)
      go None e = All-nil (IsFrom next)
      go (Some t) e = All-cons (IsFrom next) t [] (comes_from next t (is_due t p) (quiet t) (or_left (is_over t p) (pull_comes t p) (over_at p t e))) (All-nil (IsFrom next))

  beats_from : All (IsFrom next) (beat_timers p.mark p.heartbeat)
  beats_from = go (nat_lt 0 p.heartbeat) refl
    where
      t : ℕ
      t = plus p.mark p.heartbeat

      go : (b : Bool) → nat_lt 0 p.heartbeat ≡ b → All (IsFrom next) (cond b (t ∷ []) [])
      go false e = All-nil (IsFrom next)
      go true e =
          let comes : pull_comes t p ≡ true = ap (λ (b : Bool). b && nat_le t t) e ∙ itself t in
          All-cons (IsFrom next) t [] (comes_from next t (is_due t p) (quiet t) (or_right (is_over t p) (pull_comes t p) comes)) (All-nil (IsFrom next))

  pull_from : All (IsFrom next) (pull_timers p)
  pull_from = All-append (IsFrom next) (option_to_list p.end) (beat_timers p.mark p.heartbeat) ends_from beats_from

pulls_from : (next : Option ℕ) (ps : List Pull) → ((t : ℕ) → is_reached t next ≡ false → All (λ p. is_due t p ≡ false) ps) → All (IsFrom next) (flat_map pull_timers ps)
pulls_from next [] h = All-nil (IsFrom next)
pulls_from next (p ∷ ps) h =
    subst (All (IsFrom next)) (sym (flat_map-cons pull_timers p ps))
    (All-append (IsFrom next) (pull_timers p) (flat_map pull_timers ps) (pull_from next p (λ t e. All-head (λ q. is_due t q ≡ false) p ps (h t e)))
    (pulls_from next ps (λ t e. All-tail (λ q. is_due t q ≡ false) p ps (h t e))))

pub pulls_bound : (next : Option ℕ) (ps : List Pull) → IsQuietUntil next ps → IsTimerBound (flat_map pull_timers ps) next
pulls_bound next ps quiet = bound_of next (flat_map pull_timers ps) (pulls_from next ps quiet.none_due)

-- ---- all of them

-- what is later of three lists
pub later_three : (now : ℕ) (ts us vs : List ℕ) → later now ts ++ later now us ++ later now vs ≡ later now (ts ++ us ++ vs)
later_three now ts us vs = ap (λ l. l ++ later now vs) (later_append now ts us) ∙ later_append now (ts ++ us) vs

pub later_bound : (now : ℕ) (bound : Option ℕ) (ts : List ℕ) → IsTimerBound ts bound → IsTimerBound (later now ts) bound
later_bound now bound ts h = fewer_bound (nat_lt now) bound ts h
