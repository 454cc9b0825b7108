-- The search for a line's end resumes at the place at which it stopped.
use Rattle.std.proofs.Common.{ℕ, ◌≡◌, ◌==◌, ◌+◌, ◌-◌, ◌<◌, ◌≤◌, true, length, take, drop, get_or, sym, ◌∙◌, ap, arith, Some, None, add-one, inl, inr}
use Rattle.std.proofs.lemmas.Bool.{eqb-true, eq-eqb, ne_eqb, cases_lt}
use Rattle.std.proofs.lemmas.List.{get_or-drop, get_or-take, length-take-le, length-drop}
use Rattle.memchr.specs.Find.{IsFirstByte, is_byte}
use Rattle.js_base.specs.Bytes.{Bytes}
use Rattle.nats_frames.specs.Reading.{split_at}
use Rattle.nats_frames.proofs.Splits.{split_first}

-- a byte of a part of the bytes
part_byte : (bytes : Bytes) (scanned n k : ℕ) → scanned + k < n → get_or (drop scanned (take n bytes)) k 0 ≡ get_or bytes (scanned + k) 0
part_byte bytes scanned n k lt = get_or-drop scanned (take n bytes) k 0 ∙ get_or-take n bytes (scanned + k) 0 lt

part_len : (bytes : Bytes) (scanned n : ℕ) → n ≤ length bytes → length (drop scanned (take n bytes)) ≡ n - scanned
part_len bytes scanned n le = length-drop scanned (take n bytes) ∙ ap (λ m. m - scanned) (length-take-le n bytes le)

-- no LF is among the first bytes
abbrev pub NoLf : Bytes → ℕ → Type 0
NoLf bytes end = (k : ℕ) → k < end → get_or bytes k 0 ≡ 10 → ⊥

no_lf_to : (bytes : Bytes) (scanned n m : ℕ) → NoLf bytes scanned → scanned + m ≤ n → ((k : ℕ) → k < m → (get_or (drop scanned (take n bytes)) k 0 == 10) ≡ true → ⊥) → NoLf bytes (scanned + m)
no_lf_to bytes scanned n m before fits none k lt at =
    elim (cases_lt k scanned) [
      | inl lt' ↦ before k lt' at
      | inr le ↦
          let place : scanned + (k - scanned) ≡ k = omega arith in
          none (k - scanned) (omega arith) (eq-eqb _ 10 (part_byte bytes scanned n (k - scanned) (omega arith) ∙ ap (λ i. get_or bytes i 0) place ∙ at))
    ]

-- if the search found one
pub end_scanned : (bytes : Bytes) (scanned n at : ℕ) → NoLf bytes scanned → n ≤ length bytes → IsFirstByte (is_byte 10) (drop scanned (take n bytes)) (Some at) → NoLf bytes (scanned + at)
end_scanned bytes scanned n at before le h =
    no_lf_to bytes scanned n at before (omega (arith, h.0.high, part_len bytes scanned n le)) (λ k lt. h.0.before k (omega arith) lt)

pub end_split : (bytes : Bytes) (scanned n at : ℕ) → NoLf bytes scanned → n ≤ length bytes → IsFirstByte (is_byte 10) (drop scanned (take n bytes)) (Some at) →
    split_at 10 bytes ≡ Some (take (scanned + at) bytes, drop (scanned + at + 1) bytes)
end_split bytes scanned n at before le h =
    let none = end_scanned bytes scanned n at before le h in
    let within : scanned + at < n = omega (arith, h.0.high, part_len bytes scanned n le) in
    rw add-one (split_first 10 bytes (scanned + at) (omega arith) (eq-eqb _ 10 (sym (part_byte bytes scanned n at within) ∙ eqb-true _ 10 h.1)) (λ k lt. ne_eqb _ 10 (none k lt)))

-- if it found none
pub none_scanned : (bytes : Bytes) (scanned n : ℕ) → NoLf bytes scanned → scanned ≤ n → n ≤ length bytes → IsFirstByte (is_byte 10) (drop scanned (take n bytes)) None → NoLf bytes n
none_scanned bytes scanned n before low le h k lt =
    no_lf_to bytes scanned n (n - scanned) before (omega arith) (λ j lt'. h j (omega arith) (omega (arith, part_len bytes scanned n le))) k (omega arith)
