-- Messages in a block are read exactly where they are spelled.
use Rattle.std.proofs.Common.{◌≡◌, ℕ, ◌+◌, ◌-◌, ◌≤◌, true, ◌++◌, length, take, drop, Ok, IsTrue, refl, sym, ap, subst, ◌∙◌, append_assoc, append-nil, arith, length-take}
use Rattle.std.proofs.lemmas.Bool.{and_parts, and_from}
use Rattle.std.proofs.lemmas.List.{take-append-drop, drop-append-le, drop-take, drop_all}
use Rattle.checksum.specs.Checked.{checked}
use Rattle.js_base.specs.Bytes.{Bytes}
use Rattle.js_model.specs.declared.stream.Message.{Message}
use Rattle.op_records.specs.Allowed.{is_header, fits_block}
use Rattle.op_records.specs.Blocks.{is_block_message, spelled_fields, spelled_message, up_to, content_field, message_with, message_fields, message_at}
use Rattle.op_records.specs.Fields.{only, number_field, part, subject_field, is_small_header, fit, sized_part, checked_end}
use Rattle.op_records.specs.Spelling.{number, text, long}
use Rattle.op_records.specs.Steps.{◌>>=◌, done, place}
use Rattle.op_records.proofs.ChecksumsExact.{checked_took, checked_again}
use Rattle.op_records.proofs.Exact.{Batch, bytes_of, le_is, is_le}
use Rattle.op_records.proofs.FieldsExact.{number_exact, subject_exact, part_took, part_again}
use Rattle.op_records.proofs.Spans.{Spans, span_then, span_front, span_back, span_is, span_same}
use Rattle.op_records.proofs.Steps.{both, value_is, place_is, passed}
use Rattle.op_records.proofs.TextsExact.{sized_took, sized_again}

-- ---- the first of the bytes

-- what stands in the first of the bytes stands in all of them
span_in : (bytes : Bytes) (held at : ℕ) (text : Bytes) (behind : ℕ) → Spans (take held bytes) at text behind → Spans bytes at text behind
span_in bytes held at text behind s = record {
  parts = ap (drop at) (sym whole)
      ∙ drop-append-le at (take held bytes) (drop held bytes) (omega (arith, s.ends, s.within))
      ∙ ap (λ (l : Bytes). l ++ drop held bytes) s.parts
      ∙ append_assoc text (drop behind (take held bytes)) (drop held bytes)
      ∙ ap (λ (l : Bytes). text ++ l) (sym (drop-append-le behind (take held bytes) (drop held bytes) s.within) ∙ ap (drop behind) whole);
  ends = s.ends;
  within = omega (arith, s.within, length-take held bytes);
}
  where
    whole : take held bytes ++ drop held bytes ≡ bytes
    whole = take-append-drop held bytes

-- and what stands in the bytes stands in those up to its end
span_within : (bytes : Bytes) (at : ℕ) (text : Bytes) (behind : ℕ) → Spans bytes at text behind → Spans (take behind bytes) at text behind
span_within bytes at text behind s = record {
  parts = ap (λ (k : ℕ). drop at (take k bytes)) s.ends
      ∙ drop-take at (length text) bytes
      ∙ span_is bytes at text behind s
      ∙ sym (append-nil text)
      ∙ ap (λ (l : Bytes). text ++ l) (sym (drop_all behind (take behind bytes) (omega (arith, length-take behind bytes))));
  ends = s.ends;
  within = omega (arith, s.within, length-take behind bytes);
}

batch_in : (bytes : Bytes) (held : ℕ) → Batch bytes → Batch (take held bytes)
batch_in bytes held b = record {
  are_bytes = bytes_of held 0 bytes b.are_bytes;
  short = omega (arith, b.short, length-take held bytes);
}

-- ---- a header block, and a payload that goes on to the end

record Content (bytes : Bytes) (end at : ℕ) (c : Bytes × Bytes) (behind : ℕ) : Type 0 where
  header : IsTrue (is_header c.0)
  fits : IsTrue (fits_block c.0 c.1)
  there : Spans bytes at (long c.0 ++ c.1) behind
  whole : behind ≡ end

content_took : (end : ℕ) (bytes : Bytes) (at : ℕ) (c : Bytes × Bytes) (behind : ℕ) → Batch bytes → length bytes ≤ end → content_field end bytes at ≡ Ok (c, behind) → Content bytes end at c behind
unfolding content_field
content_took end bytes at c behind b le e =
    let p = both bytes (λ (headers : ℕ × Bytes). place >>= λ begin. part begin (end - begin) >>= λ payload. only fit headers.0 (headers.1, payload)) (sized_part is_small_header bytes at) c behind e in
    let q = both bytes (λ (payload : Bytes). only fit p.value.0 (p.value.1, payload)) (part p.mid (end - p.mid) bytes p.mid) c behind p.second in
    let r = passed fit p.value.0 (p.value.1, q.value) bytes q.mid c behind q.second in
    let headers = sized_took is_small_header bytes at p.value p.mid b p.first in
    let payload = part_took p.mid (end - p.mid) bytes p.mid q.value q.mid q.first in
    let fits : IsTrue (fit (p.value.1, q.value)) = subst (λ (m : Bytes × Bytes). IsTrue (fit m)) (sym r.value) r.may_be in
    let whole : Content bytes end at (p.value.1, q.value) q.mid = record {
      header = (and_parts _ _ headers.may_be).0;
      fits = fits;
      there = span_then bytes at (long p.value.1) p.mid q.value q.mid headers.there payload.1;
      whole = omega (arith, headers.there.within, payload.0, payload.1.ends, le);
    } in
    subst (λ (k : ℕ). Content bytes end at c k) r.place (subst (λ (m : Bytes × Bytes). Content bytes end at m q.mid) r.value whole)

content_again : (bytes : Bytes) (at : ℕ) (c : Bytes × Bytes) (behind : ℕ) → IsTrue (is_header c.0) → IsTrue (fits_block c.0 c.1) → Spans bytes at (long c.0 ++ c.1) behind → content_field behind bytes at ≡ Ok (c, behind)
unfolding content_field
content_again bytes at c behind header fits s =
    let mid : ℕ = at + length (long c.0) in
    let front = span_front bytes at (long c.0) c.1 behind s in
    let back = span_back bytes at (long c.0) c.1 behind s in
    let together = le_is (length c.0 + length c.1) 1048576 fits in
    let small : is_small_header c.0 ≡ true = and_from _ _ header (is_le (length c.0) 1048576 (omega arith)) in
    let first = sized_again is_small_header bytes at c.0 mid (omega arith) small front in
    let size : behind - mid ≡ length c.1 = omega (arith, back.ends) in
    let second = part_again mid bytes mid c.1 behind back in
    rw (first, size, second, fits) refl

-- ---- the fields of a message

record Fields (bytes : Bytes) (end at : ℕ) (m : Message) (behind : ℕ) : Type 0 where
  allowed : IsTrue (is_block_message m)
  there : Spans bytes at (spelled_fields m) behind
  whole : behind ≡ end

fields_took : (end : ℕ) (bytes : Bytes) (at : ℕ) (m : Message) (behind : ℕ) → Batch bytes → length bytes ≤ end → message_fields end bytes at ≡ Ok (m, behind) → Fields bytes end at m behind
unfolding message_fields
fields_took end bytes at m behind b le e =
    let p0 = both bytes (λ (seq : ℕ). number_field >>= λ at. subject_field >>= λ subject. content_field end >>= λ content. done (message_with seq at subject content)) (number_field bytes at) m behind e in
    let q0 = number_exact.took bytes at p0.value p0.mid b p0.first in
    let p1 = both bytes (λ (at : ℕ). subject_field >>= λ subject. content_field end >>= λ content. done (message_with p0.value at subject content)) (number_field bytes p0.mid) m behind p0.second in
    let q1 = number_exact.took bytes p0.mid p1.value p1.mid b p1.first in
    let p2 = both bytes (λ (subject : Bytes). content_field end >>= λ content. done (message_with p0.value p1.value subject content)) (subject_field bytes p1.mid) m behind p1.second in
    let q2 = subject_exact.took bytes p1.mid p2.value p2.mid b p2.first in
    let p3 = both bytes (λ (content : Bytes × Bytes). done (message_with p0.value p1.value p2.value content)) (content_field end bytes p2.mid) m behind p2.second in
    let q3 = content_took end bytes p2.mid p3.value p3.mid b le p3.first in
    let content : Bytes = long p3.value.0 ++ p3.value.1 in
    let made : Fields bytes end at (message_with p0.value p1.value p2.value p3.value) p3.mid = record {
      allowed = and_from _ _ (and_from _ _ (and_from _ _ (and_from _ _ q0.0 q1.0) q2.0) q3.header) q3.fits;
      there = span_then bytes at (number p0.value) p0.mid (number p1.value ++ (text p2.value ++ content)) p3.mid q0.1 (span_then bytes p0.mid (number p1.value) p1.mid (text p2.value ++ content) p3.mid q1.1 (span_then bytes p1.mid (text p2.value) p2.mid content p3.mid q2.1 q3.there));
      whole = q3.whole;
    } in
    let same = value_is (message_with p0.value p1.value p2.value p3.value) p3.mid m behind p3.second in
    let place = place_is (message_with p0.value p1.value p2.value p3.value) p3.mid m behind p3.second in
    subst (λ (k : ℕ). Fields bytes end at m k) place (subst (λ (n : Message). Fields bytes end at n p3.mid) same made)

fields_again : (bytes : Bytes) (at : ℕ) (m : Message) (behind : ℕ) → Batch bytes → IsTrue (is_block_message m) → Spans bytes at (spelled_fields m) behind → message_fields behind bytes at ≡ Ok (m, behind)
unfolding message_fields
fields_again bytes at m behind b is s =
    let a4 = and_parts _ _ is in
    let a3 = and_parts _ _ a4.0 in
    let a2 = and_parts _ _ a3.0 in
    let a1 = and_parts _ _ a2.0 in
    let content : Bytes = long m.headers ++ m.payload in
    let at1 : ℕ = at + length (number m.seq) in
    let s0 = span_front bytes at (number m.seq) (number m.at ++ (text m.subject ++ content)) behind s in
    let r0 = span_back bytes at (number m.seq) (number m.at ++ (text m.subject ++ content)) behind s in
    let f0 = number_exact.again bytes at m.seq at1 b a1.0 s0 in
    let at2 : ℕ = at1 + length (number m.at) in
    let s1 = span_front bytes at1 (number m.at) (text m.subject ++ content) behind r0 in
    let r1 = span_back bytes at1 (number m.at) (text m.subject ++ content) behind r0 in
    let f1 = number_exact.again bytes at1 m.at at2 b a1.1 s1 in
    let at3 : ℕ = at2 + length (text m.subject) in
    let s2 = span_front bytes at2 (text m.subject) content behind r1 in
    let r2 = span_back bytes at2 (text m.subject) content behind r1 in
    let f2 = subject_exact.again bytes at2 m.subject at3 b a2.1 s2 in
    let f3 = content_again bytes at3 (m.headers, m.payload) behind a3.1 a4.1 r2 in
    rw (f0, f1, f2, f3) refl

-- ---- a message

-- a block may have it, and it is spelled there
pub record Stored (bytes : Bytes) (at : ℕ) (m : Message) (behind : ℕ) : Type 0 where
  pub allowed : IsTrue (is_block_message m)
  pub there : Spans bytes at (spelled_message m) behind

pub message_took : (bytes : Bytes) (at : ℕ) (m : Message) (behind : ℕ) → Batch bytes → message_at bytes at ≡ Ok (m, behind) → Stored bytes at m behind
unfolding message_at spelled_message
message_took bytes at m behind b e =
    let p = both bytes (λ (end : ℕ). up_to end (message_fields end)) (checked_end bytes at) m behind e in
    let c = checked_took bytes at p.value p.mid b p.first in
    let f = fields_took p.value (take p.value bytes) p.mid m behind (batch_in bytes p.value b) (omega (arith, length-take p.value bytes)) p.second in
    let there = span_in bytes p.value p.mid (spelled_fields m) behind f.there in
    let held = subst (λ (k : ℕ). Spans bytes p.mid c.text k) (sym f.whole) c.there in
    let whole = subst (λ (k : ℕ). Spans bytes at (checked c.text) k) (sym f.whole) c.whole in
    let same = span_same bytes p.mid c.text (spelled_fields m) behind held there in
    record { allowed = f.allowed; there = subst (λ (t : Bytes). Spans bytes at (checked t) behind) same whole }

pub message_again : (bytes : Bytes) (at : ℕ) (m : Message) (behind : ℕ) → Batch bytes → IsTrue (is_block_message m) → Spans bytes at (spelled_message m) behind → message_at bytes at ≡ Ok (m, behind)
unfolding message_at spelled_message
message_again bytes at m behind b is s =
    let c = checked_again bytes at (spelled_fields m) behind b s in
    let rest = fields_again (take behind bytes) (at + 8) m behind (batch_in bytes behind b) is (span_within bytes (at + 8) (spelled_fields m) behind c.there) in
    rw c.first rest
