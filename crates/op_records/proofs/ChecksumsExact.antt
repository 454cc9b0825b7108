-- Bytes behind their length and their checksum are found exactly where they are spelled.
use Rattle.std.proofs.Common.{◌≡◌, ℕ, ◌+◌, ◌<◌, ◌^◌, true, ◌++◌, length, Ok, refl, sym, ap, subst, ◌∙◌, arith}
use Rattle.std.specs.Int.{w32, to_be_bytes}
use Rattle.std.proofs.lemmas.Bool.{eq-eqb, eqb-true}
use Rattle.checksum.specs.Crc.{crc32c}
use Rattle.checksum.specs.Checked.{checked}
use Rattle.checksum.proofs.Registers.{crc32c_lt}
use Rattle.js_base.specs.Bytes.{Bytes}
use Rattle.op_records.specs.Fields.{only, word, part, has_checksum, end_of_checked, checked_end}
use Rattle.op_records.specs.Steps.{◌>>=◌, place, peek}
use Rattle.op_records.proofs.Exact.{Batch, wide32, word_took, word_again}
use Rattle.op_records.proofs.FieldsExact.{part_took, part_again}
use Rattle.op_records.proofs.Spans.{Spans, span_then, span_front, span_back}
use Rattle.op_records.proofs.Steps.{both, peeked_is, value_is, passed}

-- these bytes stand there behind their length and their checksum
pub record Checked (bytes : Bytes) (at end mid : ℕ) : Type 0 where
  pub text : Bytes
  pub whole : Spans bytes at (checked text) end
  pub there : Spans bytes mid text end

pub checked_took : (bytes : Bytes) (at end mid : ℕ) → Batch bytes → checked_end bytes at ≡ Ok (end, mid) → Checked bytes at end mid
unfolding checked_end
checked_took bytes at end mid b e =
    let p = both bytes (λ (size : ℕ). word w32 >>= λ sum. peek (end_of_checked at size sum)) (word w32 bytes at) end mid e in
    let q = both bytes (λ (sum : ℕ). peek (end_of_checked at p.value sum)) (word w32 bytes p.mid) end mid p.second in
    let size = word_took w32 (2 ^ 32) wide32 bytes at p.value p.mid b.are_bytes p.first in
    let sum = word_took w32 (2 ^ 32) wide32 bytes p.mid q.value q.mid b.are_bytes q.first in
    let seen = peeked_is q.mid (end_of_checked at p.value q.value bytes q.mid) end mid q.second in
    let r = both bytes (λ (text : Bytes). only (has_checksum q.value) at text >>= λ text. place) (part at p.value bytes q.mid) end seen.behind seen.first in
    let s = both bytes (λ (text : Bytes). place) (only (has_checksum q.value) at r.value bytes r.mid) end seen.behind r.second in
    let text = part_took at p.value bytes q.mid r.value r.mid r.first in
    let right = passed (has_checksum q.value) at r.value bytes r.mid s.value s.mid s.first in
    let is_end : r.mid ≡ end = right.place ∙ value_is s.mid s.mid end seen.behind s.second in
    let is_sum : q.value ≡ crc32c r.value = sym (eqb-true (crc32c s.value) q.value right.may_be) ∙ ap crc32c (sym right.value) in
    let spelled = span_then bytes at (to_be_bytes w32 p.value) p.mid (to_be_bytes w32 q.value ++ r.value) r.mid size.1 (span_then bytes p.mid (to_be_bytes w32 q.value) q.mid r.value r.mid sum.1 text.1) in
    let sized = subst (λ (k : ℕ). Spans bytes at (to_be_bytes w32 k ++ (to_be_bytes w32 q.value ++ r.value)) r.mid) (sym text.0) spelled in
    let summed = subst (λ (k : ℕ). Spans bytes at (to_be_bytes w32 (length r.value) ++ (to_be_bytes w32 k ++ r.value)) r.mid) is_sum sized in
    record {
      text = r.value;
      whole = subst (λ (k : ℕ). Spans bytes at (checked r.value) k) is_end summed;
      there = subst (λ (k : ℕ). Spans bytes mid r.value k) is_end (subst (λ (k : ℕ). Spans bytes k r.value r.mid) seen.place text.1);
    }

-- they are found in front of themselves
pub record Found (bytes : Bytes) (at : ℕ) (text : Bytes) (end : ℕ) : Type 0 where
  pub first : checked_end bytes at ≡ Ok (end, at + 8)
  pub there : Spans bytes (at + 8) text end

pub checked_again : (bytes : Bytes) (at : ℕ) (text : Bytes) (end : ℕ) → Batch bytes → Spans bytes at (checked text) end → Found bytes at text end
unfolding checked_end
checked_again bytes at text end b s =
    let rest : Bytes = to_be_bytes w32 (crc32c text) ++ text in
    let front = span_front bytes at (to_be_bytes w32 (length text)) rest end s in
    let back = span_back bytes at (to_be_bytes w32 (length text)) rest end s in
    let eight : at + 4 + 4 ≡ at + 8 = omega arith in
    let middle = subst (λ (k : ℕ). Spans bytes (at + 4) (to_be_bytes w32 (crc32c text)) k) eight (span_front bytes (at + 4) (to_be_bytes w32 (crc32c text)) text end back) in
    let there = subst (λ (k : ℕ). Spans bytes k text end) eight (span_back bytes (at + 4) (to_be_bytes w32 (crc32c text)) text end back) in
    let short : length text < 2 ^ 32 = omega (arith, b.short, there.ends, there.within) in
    let size = word_again w32 (2 ^ 32) wide32 bytes at (length text) (at + 4) short front in
    let sum = word_again w32 (2 ^ 32) wide32 bytes (at + 4) (crc32c text) (at + 8) (crc32c_lt text) middle in
    let held = part_again at bytes (at + 8) text end there in
    let is : has_checksum (crc32c text) text ≡ true = eq-eqb (crc32c text) (crc32c text) refl in
    record { first = rw (size, sum, held, is) refl; there = there }
