-- What stands before and after the first byte of a kind.
use Rattle.std.proofs.Common.{ℕ, zero, suc, ◌≡◌, ◌+◌, ◌<◌, ◌==◌, true, false, List, [], ◌∷◌, ◌++◌, length, take, drop, get_or, refl, arith, Option, Some, None, option_map, cond, add-one, Bool}
use Rattle.std.proofs.lemmas.Bool.{eqb-true, eqb-false, eq-eqb, ne_eqb}
use Rattle.std.proofs.lemmas.Option.{some_pair_parts}
use Rattle.memchr.specs.Find.{IsFirstByte, is_byte}
use Rattle.nats_frames.specs.Grammar.{Lacks}
use Rattle.nats_frames.specs.Reading.{split_at}

-- there is no such byte
pub split_nowhere : (byte : ℕ) (bs : List ℕ) → ((k : ℕ) → k < length bs → (get_or bs k 0 == byte) ≡ false) → split_at byte bs ≡ None
split_nowhere byte [] h = refl
split_nowhere byte (b ∷ bs) h =
    rw (h 0 (omega arith), split_nowhere byte bs (λ k lt. h (suc k) (omega arith))) refl

-- the first one is at k
pub split_first : (byte : ℕ) (bs : List ℕ) (k : ℕ) → k < length bs → (get_or bs k 0 == byte) ≡ true →
    ((j : ℕ) → j < k → (get_or bs j 0 == byte) ≡ false) → split_at byte bs ≡ Some (take k bs, drop (suc k) bs)
split_first byte [] k lt is h = absurd (omega arith)
split_first byte (b ∷ bs) zero lt is h = rw is refl
split_first byte (b ∷ bs) (suc k) lt is h =
    rw (h 0 (omega arith), split_first byte bs k (omega arith) is (λ j below. h (suc j) (omega arith))) refl

fails : (b : Bool) → ¬ (b ≡ true) → b ≡ false
fails true h = absurd (h refl)
fails false h = refl

pub split_none : (byte : ℕ) (bs : List ℕ) → IsFirstByte (is_byte byte) bs None → split_at byte bs ≡ None
split_none byte bs h = split_nowhere byte bs (λ k lt. fails _ (h k (omega arith) lt))

pub split_some : (byte k : ℕ) (bs : List ℕ) → IsFirstByte (is_byte byte) bs (Some k) → split_at byte bs ≡ Some (take k bs, drop (k + 1) bs)
split_some byte k bs h = rw add-one (split_first byte bs k h.0.high h.1 (λ j lt. fails _ (h.0.before j (omega arith) lt)))

-- what a split says: no such byte is in the first part
pub record Split (byte : ℕ) (bytes front rest : List ℕ) : Type 0 where
  pub whole : bytes ≡ front ++ byte ∷ rest
  pub first : Lacks byte front

split_step : (byte b : ℕ) (bs : List ℕ) (t : Bool) → ((b == byte) ≡ t) → (s : Option (List ℕ × List ℕ)) → split_at byte bs ≡ s →
    (front rest : List ℕ) → ((f r : List ℕ) → s ≡ Some (f, r) → Split byte bs f r) →
    cond {A = Option (List ℕ × List ℕ)} t (Some ([], bs)) (option_map (λ p. (b ∷ p.0, p.1)) s) ≡ Some (front, rest) → Split byte (b ∷ bs) front rest
split_step byte b bs true e s is front rest h eq =
    let p = some_pair_parts [] front bs rest eq in
    record { whole = rw (← p.0, ← p.1, eqb-true b byte e) refl; first = rw (← p.0) tt }
split_step byte b bs false e None is front rest h eq = absurd (cc)
split_step byte b bs false e (Some s) is front rest h eq =
    let p = some_pair_parts (b ∷ s.0) front s.1 rest eq in
    let sub = h s.0 s.1 refl in
    record { whole = rw (← p.0, ← p.1, sub.whole) refl; first = rw (← p.0) (eqb-false b byte e, sub.first) }

pub split_found : (byte : ℕ) (bs front rest : List ℕ) → split_at byte bs ≡ Some (front, rest) → Split byte bs front rest
split_found byte [] front rest e = cc
split_found byte (b ∷ bs) front rest e = split_step byte b bs (b == byte) refl (split_at byte bs) refl front rest (λ f r h. split_found byte bs f r h) e

pub split_again : (byte : ℕ) (front rest : List ℕ) → Lacks byte front → split_at byte (front ++ byte ∷ rest) ≡ Some (front, rest)
split_again byte [] rest h = rw (eq-eqb byte byte refl) refl
split_again byte (b ∷ front) rest h = rw (ne_eqb b byte h.0, split_again byte front rest h.1) refl

pub split_lacking : (byte : ℕ) (bs : List ℕ) → Lacks byte bs → split_at byte bs ≡ None
split_lacking byte [] h = refl
split_lacking byte (b ∷ bs) h = rw (ne_eqb b byte h.0, split_lacking byte bs h.1) refl

lacking_step : (byte b : ℕ) (bs : List ℕ) (t : Bool) → ((b == byte) ≡ t) → (s : Option (List ℕ × List ℕ)) → (s ≡ None → Lacks byte bs) →
    cond {A = Option (List ℕ × List ℕ)} t (Some ([], bs)) (option_map (λ p. (b ∷ p.0, p.1)) s) ≡ None → Lacks byte (b ∷ bs)
lacking_step byte b bs true e s h eq = absurd (cc)
lacking_step byte b bs false e None h eq = (eqb-false b byte e, h refl)
lacking_step byte b bs false e (Some s) h eq = absurd (cc)

pub lacking_split : (byte : ℕ) (bs : List ℕ) → split_at byte bs ≡ None → Lacks byte bs
lacking_split byte [] e = tt
lacking_split byte (b ∷ bs) e = lacking_step byte b bs (b == byte) refl (split_at byte bs) (lacking_split byte bs) e

-- ---- a byte that is lacking, place by place

pub lacks_at : (byte : ℕ) (bs : List ℕ) → Lacks byte bs → (k : ℕ) → k < length bs → get_or bs k 0 ≡ byte → ⊥
lacks_at byte [] h k lt = absurd (omega arith)
lacks_at byte (b ∷ bs) h zero lt = h.0
lacks_at byte (b ∷ bs) h (suc k) lt = lacks_at byte bs h.1 k (omega arith)

pub lacks_from : (byte : ℕ) (bs : List ℕ) → ((k : ℕ) → k < length bs → get_or bs k 0 ≡ byte → ⊥) → Lacks byte bs
lacks_from byte [] h = tt
lacks_from byte (b ∷ bs) h = (h 0 (omega arith), lacks_from byte bs (λ k lt. h (suc k) (omega arith)))

pub lacks_append : (byte : ℕ) (xs ys : List ℕ) → Lacks byte xs → Lacks byte ys → Lacks byte (xs ++ ys)
lacks_append byte [] ys h k = k
lacks_append byte (x ∷ xs) ys h k = (h.0, lacks_append byte xs ys h.1 k)

pub lacks_front : (byte : ℕ) (xs ys : List ℕ) → Lacks byte (xs ++ ys) → Lacks byte xs
lacks_front byte [] ys h = tt
lacks_front byte (x ∷ xs) ys h = (h.0, lacks_front byte xs ys h.1)
