-- Configurations, and bytes behind a length that is a field of its own, are read exactly where they are spelled.
use Rattle.std.proofs.Common.{◌≡◌, ℕ, ◌+◌, ◌<◌, ◌^◌, Bool, true, ◌++◌, length, Ok, IsTrue, refl, sym, ap, subst, ◌∙◌, arith, length-append}
use Rattle.std.specs.Int.{w32, to_be_bytes}
use Rattle.js_base.specs.Bytes.{Bytes}
use Rattle.js_model.specs.Configs.{is_stream_config, is_consumer_config}
use Rattle.config_texts.specs.Reading.{stream_of, consumer_of}
use Rattle.config_texts.specs.Texts.{stream_text, consumer_text}
use Rattle.config_texts.proofs.StreamTexts.{law_stream_text}
use Rattle.config_texts.proofs.ConsumerTexts.{law_consumer_text}
use Rattle.op_records.specs.Steps.{◌>>=◌, done, place}
use Rattle.op_records.specs.Fields.{only, word, part, piece, some_or_bad, stream_field, consumer_field, sized_part}
use Rattle.op_records.specs.Spelling.{long}
use Rattle.op_records.proofs.Spans.{Spans, span_then, span_front, span_back}
use Rattle.op_records.proofs.Steps.{both, value_is, place_is, passed, given}
use Rattle.op_records.proofs.Exact.{Batch, Exact, wide32, word_took, word_again}
use Rattle.op_records.proofs.FieldsExact.{part_took, part_again, piece_took, piece_again}

-- a text that stands in a batch is short
short_text : (bytes : Bytes) (at : ℕ) (text : Bytes) (behind : ℕ) → Batch bytes → Spans bytes at (long text) behind → length text < 2 ^ 32
short_text bytes at text behind b s = omega (arith, b.short, s.ends, s.within, length-append (to_be_bytes w32 (length text)) text)

-- ---- configurations

pub stream_exact : Exact stream_field (λ config. long (stream_text config)) (λ config. IsTrue (is_stream_config config))
unfolding stream_field
stream_exact = record {
  took = λ bytes at config behind b e.
      let p = both bytes (λ (text : Bytes). some_or_bad at (stream_of text)) (piece w32 bytes at) config behind e in
      let q = given at (stream_of p.value) bytes p.mid config behind p.second in
      let t = piece_took w32 (2 ^ 32) wide32 bytes at p.value p.mid b p.first in
      let is = (law_stream_text p.value config).0 q.some in
      (is.valid, subst (λ (l : Bytes). Spans bytes at (long l) behind) is.spelled (subst (λ (k : ℕ). Spans bytes at (long p.value) k) q.place t.1));
  again = λ bytes at config behind b is s.
      let read = (law_stream_text (stream_text config) config).1 (record { valid = is; spelled = refl }) in
      rw (piece_again w32 (2 ^ 32) wide32 bytes at (stream_text config) behind (short_text bytes at (stream_text config) behind b s) s, read) refl;
}

pub consumer_exact : Exact consumer_field (λ config. long (consumer_text config)) (λ config. IsTrue (is_consumer_config config))
unfolding consumer_field
consumer_exact = record {
  took = λ bytes at config behind b e.
      let p = both bytes (λ (text : Bytes). some_or_bad at (consumer_of text)) (piece w32 bytes at) config behind e in
      let q = given at (consumer_of p.value) bytes p.mid config behind p.second in
      let t = piece_took w32 (2 ^ 32) wide32 bytes at p.value p.mid b p.first in
      let is = (law_consumer_text p.value config).0 q.some in
      (is.valid, subst (λ (l : Bytes). Spans bytes at (long l) behind) is.spelled (subst (λ (k : ℕ). Spans bytes at (long p.value) k) q.place t.1));
  again = λ bytes at config behind b is s.
      let read = (law_consumer_text (consumer_text config) config).1 (record { valid = is; spelled = refl }) in
      rw (piece_again w32 (2 ^ 32) wide32 bytes at (consumer_text config) behind (short_text bytes at (consumer_text config) behind b s) s, read) refl;
}

-- ---- bytes behind a length

pub record Sized (may : Bytes → Bool) (bytes : Bytes) (at : ℕ) (text : Bytes) (behind : ℕ) : Type 0 where
  pub may_be : may text ≡ true
  pub there : Spans bytes at (long text) behind

pub sized_took : (may : Bytes → Bool) (bytes : Bytes) (at : ℕ) (found : ℕ × Bytes) (behind : ℕ) → Batch bytes → sized_part may bytes at ≡ Ok (found, behind) → Sized may bytes at found.1 behind
sized_took may bytes at found behind b e =
    let p = both bytes (λ (size : ℕ). place >>= λ begin. part begin size >>= λ text. only may begin text >>= λ text. done (begin, text)) (word w32 bytes at) found behind e in
    let q = both bytes (λ (text : Bytes). only may p.mid text >>= λ text. done (p.mid, text)) (part p.mid p.value bytes p.mid) found behind p.second in
    let r = both bytes (λ (text : Bytes). done (p.mid, text)) (only may p.mid q.value bytes q.mid) found behind q.second in
    let t = passed may p.mid q.value bytes q.mid r.value r.mid r.first in
    let n = word_took w32 (2 ^ 32) wide32 bytes at p.value p.mid b.are_bytes p.first in
    let u = part_took p.mid p.value bytes p.mid q.value q.mid q.first in
    let text : q.value ≡ found.1 = t.value ∙ ap (λ (x : ℕ × Bytes). x.1) (value_is (p.mid, r.value) r.mid found behind r.second) in
    let behind_is : q.mid ≡ behind = t.place ∙ place_is (p.mid, r.value) r.mid found behind r.second in
    let size : to_be_bytes w32 p.value ≡ to_be_bytes w32 (length q.value) = ap (to_be_bytes w32) (sym u.0) in
    let there : Spans bytes at (long q.value) q.mid = subst (λ (l : Bytes). Spans bytes at (l ++ q.value) q.mid) size (span_then bytes at (to_be_bytes w32 p.value) p.mid q.value q.mid n.1 u.1) in
    record {
      may_be = ap may (sym text ∙ t.value) ∙ t.may_be;
      there = subst (λ (k : ℕ). Spans bytes at (long found.1) k) behind_is (subst (λ (l : Bytes). Spans bytes at (long l) q.mid) text there);
    }

pub sized_again : (may : Bytes → Bool) (bytes : Bytes) (at : ℕ) (text : Bytes) (behind : ℕ) → length text < 2 ^ 32 → may text ≡ true → Spans bytes at (long text) behind → sized_part may bytes at ≡ Ok ((at + length (to_be_bytes w32 (length text)), text), behind)
sized_again may bytes at text behind lt is s =
    let mid : ℕ = at + length (to_be_bytes w32 (length text)) in
    let size = word_again w32 (2 ^ 32) wide32 bytes at (length text) mid lt (span_front bytes at (to_be_bytes w32 (length text)) text behind s) in
    let rest = part_again mid bytes mid text behind (span_back bytes at (to_be_bytes w32 (length text)) text behind s) in
    rw (size, rest, is) refl
