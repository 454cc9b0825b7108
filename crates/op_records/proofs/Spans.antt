-- Parts of bytes from one place to another.
use Rattle.std.proofs.Common.{◌≡◌, ℕ, ◌+◌, ◌≤◌, [], ◌++◌, length, take, drop, refl, sym, ap, ◌∙◌, append_assoc, arith, length-append, length-take, length-drop}
use Rattle.std.proofs.lemmas.List.{take-append-drop, drop-drop, drop_at, take_at}
use Rattle.js_base.specs.Bytes.{Bytes}

-- this text stands from the one place to the other
pub record Spans (bytes : Bytes) (at : ℕ) (text : Bytes) (behind : ℕ) : Type 0 where
  pub parts : drop at bytes ≡ text ++ drop behind bytes
  pub ends : behind ≡ at + length text
  pub within : behind ≤ length bytes

pub span_none : (bytes : Bytes) (at : ℕ) → at ≤ length bytes → Spans bytes at [] at
span_none bytes at h = record { parts = refl; ends = omega arith; within = h }

-- so many bytes
pub span_of : (bytes : Bytes) (at size : ℕ) → at + size ≤ length bytes → Spans bytes at (take size (drop at bytes)) (at + size)
span_of bytes at size h = record {
  parts = sym (take-append-drop size (drop at bytes)) ∙ ap (λ (l : Bytes). take size (drop at bytes) ++ l) (drop-drop size at bytes);
  ends = omega (arith, length-take size (drop at bytes), length-drop at bytes);
  within = h;
}

pub span_then : (bytes : Bytes) (at : ℕ) (first : Bytes) (mid : ℕ) (second : Bytes) (behind : ℕ) → Spans bytes at first mid → Spans bytes mid second behind → Spans bytes at (first ++ second) behind
span_then bytes at first mid second behind p q = record {
  parts = p.parts ∙ ap (λ (l : Bytes). first ++ l) q.parts ∙ sym (append_assoc first second (drop behind bytes));
  ends = omega (arith, p.ends, q.ends, length-append first second);
  within = q.within;
}

-- the parts of a text that stands there
pub span_front : (bytes : Bytes) (at : ℕ) (first second : Bytes) (behind : ℕ) → Spans bytes at (first ++ second) behind → Spans bytes at first (at + length first)
span_front bytes at first second behind p = record {
  parts = p.parts ∙ append_assoc first second (drop behind bytes) ∙ ap (λ (l : Bytes). first ++ l) (sym (back bytes at first second behind p));
  ends = refl;
  within = omega (arith, p.ends, p.within, length-append first second);
}
  where
    back : (bytes : Bytes) (at : ℕ) (first second : Bytes) (behind : ℕ) → Spans bytes at (first ++ second) behind → drop (at + length first) bytes ≡ second ++ drop behind bytes
    back bytes at first second behind p =
        sym (drop-drop (length first) at bytes) ∙ ap (λ (l : Bytes). drop (length first) l) (p.parts ∙ append_assoc first second (drop behind bytes)) ∙ drop_at first (second ++ drop behind bytes) (length first) refl

pub span_back : (bytes : Bytes) (at : ℕ) (first second : Bytes) (behind : ℕ) → Spans bytes at (first ++ second) behind → Spans bytes (at + length first) second behind
span_back bytes at first second behind p = record {
  parts = sym (drop-drop (length first) at bytes) ∙ ap (λ (l : Bytes). drop (length first) l) (p.parts ∙ append_assoc first second (drop behind bytes)) ∙ drop_at first (second ++ drop behind bytes) (length first) refl;
  ends = omega (arith, p.ends, length-append first second);
  within = p.within;
}

-- the bytes there are the text
pub span_is : (bytes : Bytes) (at : ℕ) (text : Bytes) (behind : ℕ) → Spans bytes at text behind → take (length text) (drop at bytes) ≡ text
span_is bytes at text behind p = ap (λ (l : Bytes). take (length text) l) p.parts ∙ take_at text (drop behind bytes) (length text) refl

-- and no other text goes to the same end
pub span_same : (bytes : Bytes) (at : ℕ) (text other : Bytes) (behind : ℕ) → Spans bytes at text behind → Spans bytes at other behind → text ≡ other
span_same bytes at text other behind p q =
    let long : length text ≡ length other = omega (arith, p.ends, q.ends) in
    sym (span_is bytes at text behind p) ∙ ap (λ (k : ℕ). take k (drop at bytes)) long ∙ span_is bytes at other behind q
