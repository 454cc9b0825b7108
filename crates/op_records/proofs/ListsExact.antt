-- Lists behind their count are read exactly where they are spelled.
use Rattle.std.proofs.Common.{◌≡◌, ℕ, zero, suc, ◌+◌, ◌≤◌, ◌^◌, Bool, true, List, [], ◌∷◌, ◌++◌, length, Ok, IsTrue, refl, sym, ap, subst, arith}
use Rattle.std.specs.Int.{w32, to_be_bytes}
use Rattle.std.specs.List.{flat_map, list_all}
use Rattle.std.proofs.lemmas.Bool.{and_parts, and_from}
use Rattle.std.proofs.lemmas.List.Concat.{flat_map-cons}
use Rattle.js_base.specs.Bytes.{Bytes}
use Rattle.op_records.specs.Steps.{Reader, ◌>>=◌, done}
use Rattle.op_records.specs.Fields.{word, list_fields, list_field}
use Rattle.op_records.specs.Allowed.{is_list}
use Rattle.op_records.specs.Spelling.{spelled_list}
use Rattle.op_records.proofs.Spans.{Spans, span_none, span_then, span_front, span_back}
use Rattle.op_records.proofs.Steps.{both, value_is, place_is}
use Rattle.op_records.proofs.Exact.{Batch, Exact, wide32, word_took, word_again, lt_is, is_lt}

-- so many of them stand there, one behind the other, and each may
record Listed {A : Type 0} (text : A → Bytes) (may : A → Bool) (bytes : Bytes) (at count : ℕ) (xs : List A) (behind : ℕ) : Type 0 where
  many : length xs ≡ count
  each : list_all may xs ≡ true
  there : Spans bytes at (flat_map text xs) behind

module _ {A : Type 0} (field : Reader A) (text : A → Bytes) (may : A → Bool) (exact : Exact field text (λ a. IsTrue (may a))) where
  listed : (count : ℕ) (bytes : Bytes) (at : ℕ) (xs : List A) (behind : ℕ) → Batch bytes → at ≤ length bytes → list_fields field count bytes at ≡ Ok (xs, behind)
      → Listed text may bytes at count xs behind
  listed zero bytes at xs behind b within e = by xs behind (value_is {A = List A} [] at xs behind e) (place_is {A = List A} [] at xs behind e)
    where
      by : (xs : List A) (behind : ℕ) → [] ≡ xs → at ≡ behind → Listed text may bytes at 0 xs behind
      by xs behind none place = subst (λ (l : List A). Listed text may bytes at 0 l behind) none (subst (λ (k : ℕ). Listed text may bytes at 0 [] k) place (record { many = refl; each = refl; there = span_none bytes at within }))
  listed (suc count) bytes at xs behind b within e =
      let p = both bytes (λ (x : A). list_fields field count >>= λ more. done (x ∷ more)) (field bytes at) xs behind e in
      let q = both bytes (λ (more : List A). done (p.value ∷ more)) (list_fields field count bytes p.mid) xs behind p.second in
      let first = exact.took bytes at p.value p.mid b p.first in
      let more = listed count bytes p.mid q.value q.mid b first.1.within q.first in
      let there = span_then bytes at (text p.value) p.mid (flat_map text q.value) q.mid first.1 more.there in
      let whole : Listed text may bytes at (suc count) (p.value ∷ q.value) q.mid = record {
        many = ap suc more.many;
        each = and_from (may p.value) (list_all may q.value) first.0 more.each;
        there = subst (λ (l : Bytes). Spans bytes at l q.mid) (sym (flat_map-cons text p.value q.value)) there;
      } in
      let same = value_is (p.value ∷ q.value) q.mid xs behind q.second in
      let place = place_is (p.value ∷ q.value) q.mid xs behind q.second in
      subst (λ (k : ℕ). Listed text may bytes at (suc count) xs k) place (subst (λ (l : List A). Listed text may bytes at (suc count) l q.mid) same whole)

  listed_again : (xs : List A) (bytes : Bytes) (at behind : ℕ) → Batch bytes → list_all may xs ≡ true → Spans bytes at (flat_map text xs) behind → list_fields field (length xs) bytes at ≡ Ok (xs, behind)
  listed_again [] bytes at behind b each s = let place : at ≡ behind = omega (arith, s.ends) in rw place refl
  listed_again (x ∷ xs) bytes at behind b each s =
      let two : Spans bytes at (text x ++ flat_map text xs) behind = subst (λ (l : Bytes). Spans bytes at l behind) (flat_map-cons text x xs) s in
      let parts = and_parts (may x) (list_all may xs) each in
      let first = exact.again bytes at x (at + length (text x)) b parts.0 (span_front bytes at (text x) (flat_map text xs) behind two) in
      let more = listed_again xs bytes (at + length (text x)) behind b parts.1 (span_back bytes at (text x) (flat_map text xs) behind two) in
      rw (first, more) refl

  pub list_exact : Exact (list_field field) (spelled_list text) (λ xs. IsTrue (is_list may xs))
  unfolding list_field
  list_exact = record {
    took = λ bytes at xs behind b e.
        let p = both bytes (list_fields field) (word w32 bytes at) xs behind e in
        let w = word_took w32 (2 ^ 32) wide32 bytes at p.value p.mid b.are_bytes p.first in
        let all = listed p.value bytes p.mid xs behind b w.1.within p.second in
        let count : to_be_bytes w32 p.value ≡ to_be_bytes w32 (length xs) = ap (to_be_bytes w32) (sym all.many) in (
          and_from _ _ (is_lt (length xs) (2 ^ 32) (omega (arith, w.0, all.many))) all.each,
          subst (λ (l : Bytes). Spans bytes at (l ++ flat_map text xs) behind) count (span_then bytes at (to_be_bytes w32 p.value) p.mid (flat_map text xs) behind w.1 all.there),
        );
    again = λ bytes at xs behind b is s.
        let parts = and_parts _ _ is in
        let front = span_front bytes at (to_be_bytes w32 (length xs)) (flat_map text xs) behind s in
        let back = span_back bytes at (to_be_bytes w32 (length xs)) (flat_map text xs) behind s in
        let count = word_again w32 (2 ^ 32) wide32 bytes at (length xs) (at + length (to_be_bytes w32 (length xs))) (lt_is (length xs) (2 ^ 32) parts.0) front in
        rw (count, listed_again xs bytes (at + length (to_be_bytes w32 (length xs))) behind b parts.1 back) refl;
  }
