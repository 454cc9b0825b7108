-- The fields of records are read exactly where they are spelled.
use Rattle.std.proofs.Common.{◌≡◌, ℕ, ◌+◌, ◌≤◌, ◌<◌, ◌^◌, Bool, true, false, ◌&&◌, [], ◌∷◌, ◌++◌, length, take, drop, Option, Some, None, is_none, nat_lt, Result, Ok, Err, IsTrue, nat_le, refl, sym, ap, subst, ◌∙◌, if◌then◌else◌, arith, length-take, length-drop}
use Rattle.std.specs.Int.{Width, w8, w16, w32, w64, to_be_bytes}
use Rattle.std.proofs.lemmas.Bool.{and_parts, and_from}
use Rattle.std.proofs.lemmas.Bool.Decides.{nat_tests}
use Rattle.js_base.specs.Bytes.{Bytes}
use Rattle.js_base.specs.Names.{name_of, unless_bad, first_bad, is_name_byte}
use Rattle.js_base.specs.declared.name.NameFault.{NameFault}
use Rattle.js_base.specs.declared.name.NameFault.TheVariants.{TooLong}
use Rattle.js_base.specs.Subjects.{is_subject_text}
use Rattle.js_base.specs.declared.spot.Spot.{Spot}
use Rattle.js_base.proofs.Places.{none_fails}
use Rattle.js_model.specs.Configs.{is_name, is_number}
use Rattle.js_model.proofs.NameTexts.{name_parts}
use Rattle.config_texts.specs.Reading.{allowed}
use Rattle.config_texts.proofs.Entries.{allowed_back}
use Rattle.config_texts.proofs.Names.{name_back, same_name}
use Rattle.op_records.specs.Steps.{Reading, ◌>>=◌, continued, done}
use Rattle.op_records.specs.Fields.{only, word, part, piece, some_or_bad, number_field, cursor_field, numbers_field, name_field, text_field, subject_field, spot_field, in_order, range_field}
use Rattle.op_records.specs.Allowed.{is_text, is_cursor, are_picks, is_range, is_spot}
use Rattle.op_records.specs.Spelling.{number, short, text, numbers, spelled_spot}
use Rattle.op_records.specs.declared.fault.RecordFault.TheVariants.{Cut}
use Rattle.op_records.proofs.Spans.{Spans, span_of, span_then, span_front, span_back, span_is}
use Rattle.op_records.proofs.Steps.{both, value_is, place_is, passed, given}
use Rattle.op_records.proofs.Exact.{Batch, Exact, IsWide, wide8, wide16, wide32, wide64, word_took, word_again, le_is, is_le, lt_is, is_lt}
use Rattle.op_records.proofs.ListsExact.{list_exact}

-- ---- numbers

-- a number of eight bytes that passes a test
checked_took : (may : ℕ → Bool) (bytes : Bytes) (at n behind : ℕ) → Batch bytes → continued bytes (only may at) (word w64 bytes at) ≡ Ok (n, behind) → IsTrue (may n) × Spans bytes at (number n) behind
checked_took may bytes at n behind b e =
    let p = both bytes (only may at) (word w64 bytes at) n behind e in
    let q = passed may at p.value bytes p.mid n behind p.second in
    let w = word_took w64 (2 ^ 64) wide64 bytes at p.value p.mid b.are_bytes p.first in
    (q.may_be, subst (λ (k : ℕ). Spans bytes at (number k) behind) q.value (subst (λ (k : ℕ). Spans bytes at (number p.value) k) q.place w.1))

checked_again : (may : ℕ → Bool) (bytes : Bytes) (at n behind : ℕ) → n < 2 ^ 64 → IsTrue (may n) → Spans bytes at (number n) behind → continued bytes (only may at) (word w64 bytes at) ≡ Ok (n, behind)
checked_again may bytes at n behind small is s = rw (word_again w64 (2 ^ 64) wide64 bytes at n behind small s, is) refl

pub number_exact : Exact number_field number (λ n. IsTrue (is_number n))
unfolding number_field
number_exact = record {
  took = λ bytes at n behind b e. checked_took is_number bytes at n behind b e;
  again = λ bytes at n behind b is s. checked_again is_number bytes at n behind (omega (arith, lt_is n (2 ^ 62) is)) is s;
}

pub cursor_exact : Exact cursor_field number (λ n. IsTrue (is_cursor n))
unfolding cursor_field
cursor_exact = record {
  took = λ bytes at n behind b e. checked_took is_cursor bytes at n behind b e;
  again = λ bytes at n behind b is s. checked_again is_cursor bytes at n behind (omega (arith, le_is n (2 ^ 62) is)) is s;
}

pub numbers_exact : Exact numbers_field numbers (λ ns. IsTrue (are_picks ns))
unfolding numbers_field
numbers_exact = list_exact number_field number is_number number_exact

-- ---- bytes behind their length

pub part_took : (begin size : ℕ) (bytes : Bytes) (at : ℕ) (text : Bytes) (behind : ℕ) → part begin size bytes at ≡ Ok (text, behind) → (length text ≡ size) × Spans bytes at text behind
part_took begin size bytes at text behind e = by (nat_le (at + size) (length bytes)) refl e
  where
    told : at + size ≤ length bytes → take size (drop at bytes) ≡ text → at + size ≡ behind → (length text ≡ size) × Spans bytes at text behind
    told long same place = (
      ap length (sym same) ∙ omega (arith, length-take size (drop at bytes), length-drop at bytes),
      subst (λ (k : ℕ). Spans bytes at text k) place (subst (λ (l : Bytes). Spans bytes at l (at + size)) same (span_of bytes at size long)),
    )

    by : (is : Bool) → nat_le (at + size) (length bytes) ≡ is → if◌then◌else◌ {A = Reading Bytes} is (Ok (take size (drop at bytes), at + size)) (Err (Cut begin)) ≡ Ok (text, behind) → (length text ≡ size) × Spans bytes at text behind
    by true is e = told (le_is (at + size) (length bytes) is) (value_is (take size (drop at bytes)) (at + size) text behind e) (place_is (take size (drop at bytes)) (at + size) text behind e)
    by false is e = absurd (cc)

pub part_again : (begin : ℕ) (bytes : Bytes) (at : ℕ) (text : Bytes) (behind : ℕ) → Spans bytes at text behind → part begin (length text) bytes at ≡ Ok (text, behind)
part_again begin bytes at text behind s =
    let long : nat_le (at + length text) (length bytes) ≡ true = is_le (at + length text) (length bytes) (omega (arith, s.ends, s.within)) in
    rw (long, span_is bytes at text behind s, sym s.ends) refl

-- a length of this width, and so many bytes
abbrev pub sized : Width → Bytes → Bytes
sized w bytes = to_be_bytes w (length bytes) ++ bytes

pub piece_took : (w : Width) (limit : ℕ) (wide : IsWide w limit) (bytes : Bytes) (at : ℕ) (text : Bytes) (behind : ℕ) → Batch bytes → piece w bytes at ≡ Ok (text, behind) → (length text < limit) × Spans bytes at (sized w text) behind
piece_took w limit wide bytes at text behind b e =
    let p = both bytes (part at) (word w bytes at) text behind e in
    let n = word_took w limit wide bytes at p.value p.mid b.are_bytes p.first in
    let t = part_took at p.value bytes p.mid text behind p.second in
    let size : to_be_bytes w p.value ≡ to_be_bytes w (length text) = ap (to_be_bytes w) (sym t.0) in (
      omega (arith, n.0, t.0),
      subst (λ (l : Bytes). Spans bytes at (l ++ text) behind) size (span_then bytes at (to_be_bytes w p.value) p.mid text behind n.1 t.1),
    )

pub piece_again : (w : Width) (limit : ℕ) (wide : IsWide w limit) (bytes : Bytes) (at : ℕ) (text : Bytes) (behind : ℕ) → length text < limit → Spans bytes at (sized w text) behind → piece w bytes at ≡ Ok (text, behind)
piece_again w limit wide bytes at text behind lt s =
    let size = word_again w limit wide bytes at (length text) (at + length (to_be_bytes w (length text))) lt (span_front bytes at (to_be_bytes w (length text)) text behind s) in
    let rest = part_again at bytes (at + length (to_be_bytes w (length text))) text behind (span_back bytes at (to_be_bytes w (length text)) text behind s) in
    rw (size, rest) refl

-- a text that passes a test
pub tested_took : (w : Width) (limit : ℕ) (wide : IsWide w limit) (may : Bytes → Bool) (bytes : Bytes) (at : ℕ) (text : Bytes) (behind : ℕ) → Batch bytes → continued bytes (only may at) (piece w bytes at) ≡ Ok (text, behind) → IsTrue (may text) × Spans bytes at (sized w text) behind
tested_took w limit wide may bytes at text behind b e =
    let p = both bytes (only may at) (piece w bytes at) text behind e in
    let q = passed may at p.value bytes p.mid text behind p.second in
    let t = piece_took w limit wide bytes at p.value p.mid b p.first in
    (q.may_be, subst (λ (l : Bytes). Spans bytes at (sized w l) behind) q.value (subst (λ (k : ℕ). Spans bytes at (sized w p.value) k) q.place t.1))

pub tested_again : (w : Width) (limit : ℕ) (wide : IsWide w limit) (may : Bytes → Bool) (bytes : Bytes) (at : ℕ) (text : Bytes) (behind : ℕ) → length text < limit → IsTrue (may text) → Spans bytes at (sized w text) behind → continued bytes (only may at) (piece w bytes at) ≡ Ok (text, behind)
tested_again w limit wide may bytes at text behind lt is s = ap (continued bytes (only may at)) (piece_again w limit wide bytes at text behind lt s) ∙ rw is refl

name_short : (name : Bytes) → IsTrue (is_name name) → length name < 256
name_short name is = omega (arith, le_is (length name) 255 (name_parts name is).short)

pub subject_size : (subject : Bytes) → IsTrue (is_subject_text subject) → length subject ≤ 1024
subject_size subject is =
    let size : nat_le (length subject) 1024 ≡ true = (and_parts _ _ (and_parts _ _ (and_parts _ _ (and_parts _ _ (and_parts _ _ is).0).0).0).0).1 in
    le_is (length subject) 1024 size

subject_short : (subject : Bytes) → IsTrue (is_subject_text subject) → length subject < 2 ^ 16
subject_short subject is = omega (arith, subject_size subject is)

-- what is read as a name is one
read_is : (text name : Bytes) → name_of text ≡ Ok name → is_name text ≡ true
read_is [] name h = absurd (cc)
read_is (byte ∷ more) name h = by (nat_lt 255 (length (byte ∷ more))) refl (first_bad (byte ∷ more)) refl h
  where
    within : (n : ℕ) → nat_lt 255 n ≡ false → nat_le n 255 ≡ true
    within n h = grind (arith, nat_tests)

    by : (long : Bool) → nat_lt 255 (length (byte ∷ more)) ≡ long → (bad : Option ℕ) → first_bad (byte ∷ more) ≡ bad → if◌then◌else◌ {A = Result Bytes NameFault} long (Err TooLong) (unless_bad bad (byte ∷ more)) ≡ Ok name → is_name (byte ∷ more) ≡ true
    by true e bad b h = absurd (cc)
    by false e None b h = and_from _ _ (within (length (byte ∷ more)) e) (sym (none_fails is_name_byte (byte ∷ more)) ∙ ap (λ (o : Option ℕ). is_none o) b)
    by false e (Some at) b h = absurd (cc)

pub name_exact : Exact name_field short (λ name. IsTrue (is_name name))
unfolding name_field
name_exact = record {
  took = λ bytes at name behind b e.
      let p = both bytes (λ (text : Bytes). some_or_bad at (allowed (name_of text))) (piece w8 bytes at) name behind e in
      let q = given at (allowed (name_of p.value)) bytes p.mid name behind p.second in
      let t = piece_took w8 (2 ^ 8) wide8 bytes at p.value p.mid b p.first in
      let read = allowed_back (name_of p.value) name q.some in
      let same = same_name p.value name read in (
        subst (λ (l : Bytes). IsTrue (is_name l)) same (read_is p.value name read),
        subst (λ (l : Bytes). Spans bytes at (short l) behind) same (subst (λ (k : ℕ). Spans bytes at (short p.value) k) q.place t.1),
      );
  again = λ bytes at name behind b is s. rw (piece_again w8 (2 ^ 8) wide8 bytes at name behind (name_short name is) s, name_back name is) refl;
}

pub text_exact : Exact text_field text (λ bytes. IsTrue (is_text bytes))
unfolding text_field
text_exact = record {
  took = λ bytes at text behind b e. let t = piece_took w16 (2 ^ 16) wide16 bytes at text behind b e in (is_lt (length text) (2 ^ 16) t.0, t.1);
  again = λ bytes at text behind b is s. piece_again w16 (2 ^ 16) wide16 bytes at text behind (lt_is (length text) (2 ^ 16) is) s;
}

pub subject_exact : Exact subject_field text (λ subject. IsTrue (is_subject_text subject))
unfolding subject_field
subject_exact = record {
  took = λ bytes at subject behind b e. tested_took w16 (2 ^ 16) wide16 is_subject_text bytes at subject behind b e;
  again = λ bytes at subject behind b is s. tested_again w16 (2 ^ 16) wide16 is_subject_text bytes at subject behind (subject_short subject is) is s;
}

-- ---- ranges

abbrev pub range_text : ℕ × ℕ → Bytes
range_text r = number r.0 ++ number r.1

abbrev pub Ranges : ℕ × ℕ → Type 0
Ranges r = IsTrue (is_range r.0 r.1)

pub range_exact : Exact range_field range_text Ranges
unfolding range_field
range_exact = record {
  took = λ bytes at range behind b e.
      let p = both bytes (λ (low : ℕ). number_field >>= λ high. only in_order at (low, high)) (number_field bytes at) range behind e in
      let q = both bytes (λ (high : ℕ). only in_order at (p.value, high)) (number_field bytes p.mid) range behind p.second in
      let r = passed in_order at (p.value, q.value) bytes q.mid range behind q.second in
      let low = number_exact.took bytes at p.value p.mid b p.first in
      let high = number_exact.took bytes p.mid q.value q.mid b q.first in
      let ordered : IsTrue (in_order (p.value, q.value)) = subst (λ (r : ℕ × ℕ). IsTrue (in_order r)) (sym r.value) r.may_be in
      let whole : Ranges (p.value, q.value) × Spans bytes at (range_text (p.value, q.value)) q.mid = (
        and_from _ _ (and_from _ _ low.0 high.0) ordered,
        span_then bytes at (number p.value) p.mid (number q.value) q.mid low.1 high.1,
      ) in
      subst (λ (k : ℕ). Ranges range × Spans bytes at (range_text range) k) r.place (subst (λ (r : ℕ × ℕ). Ranges r × Spans bytes at (range_text r) q.mid) r.value whole);
  again = λ bytes at range behind b is s.
      let ends = and_parts (is_number range.0) (is_number range.1) (and_parts (is_number range.0 && is_number range.1) (nat_le range.0 range.1) is).0 in
      let low = number_exact.again bytes at range.0 (at + length (number range.0)) b ends.0 (span_front bytes at (number range.0) (number range.1) behind s) in
      let high = number_exact.again bytes (at + length (number range.0)) range.1 behind b ends.1 (span_back bytes at (number range.0) (number range.1) behind s) in
      let ordered : in_order (range.0, range.1) ≡ true = (and_parts (is_number range.0 && is_number range.1) (nat_le range.0 range.1) is).1 in
      rw (low, high, ordered) refl;
}

-- ---- where a message lies

abbrev spot_of : ℕ → ℕ → ℕ → Spot
spot_of file at len = record { file = file; at = at; len = len }

pub spot_exact : Exact spot_field spelled_spot (λ spot. IsTrue (is_spot spot))
unfolding spot_field
spot_exact = record {
  took = λ bytes at spot behind b e.
      let p = both bytes (λ (file : ℕ). word w32 >>= λ at. word w32 >>= λ len. done (spot_of file at len)) (word w16 bytes at) spot behind e in
      let q = both bytes (λ (at : ℕ). word w32 >>= λ len. done (spot_of p.value at len)) (word w32 bytes p.mid) spot behind p.second in
      let r = both bytes (λ (len : ℕ). done (spot_of p.value q.value len)) (word w32 bytes q.mid) spot behind q.second in
      let file = word_took w16 (2 ^ 16) wide16 bytes at p.value p.mid b.are_bytes p.first in
      let start = word_took w32 (2 ^ 32) wide32 bytes p.mid q.value q.mid b.are_bytes q.first in
      let len = word_took w32 (2 ^ 32) wide32 bytes q.mid r.value r.mid b.are_bytes r.first in
      let rest = span_then bytes p.mid (to_be_bytes w32 q.value) q.mid (to_be_bytes w32 r.value) r.mid start.1 len.1 in
      let whole : IsTrue (is_spot (spot_of p.value q.value r.value)) × Spans bytes at (spelled_spot (spot_of p.value q.value r.value)) r.mid = (
        and_from _ _ (and_from _ _ (is_lt p.value (2 ^ 16) file.0) (is_lt q.value (2 ^ 32) start.0)) (is_lt r.value (2 ^ 32) len.0),
        span_then bytes at (to_be_bytes w16 p.value) p.mid (to_be_bytes w32 q.value ++ to_be_bytes w32 r.value) r.mid file.1 rest,
      ) in
      let same = value_is (spot_of p.value q.value r.value) r.mid spot behind r.second in
      let place = place_is (spot_of p.value q.value r.value) r.mid spot behind r.second in
      subst (λ (k : ℕ). IsTrue (is_spot spot) × Spans bytes at (spelled_spot spot) k) place (subst (λ (x : Spot). IsTrue (is_spot x) × Spans bytes at (spelled_spot x) r.mid) same whole);
  again = λ bytes at spot behind b is s.
      let a = and_parts _ _ is in
      let c = and_parts _ _ a.0 in
      let mid : ℕ = at + length (to_be_bytes w16 spot.file) in
      let next : ℕ = mid + length (to_be_bytes w32 spot.at) in
      let front = span_front bytes at (to_be_bytes w16 spot.file) (to_be_bytes w32 spot.at ++ to_be_bytes w32 spot.len) behind s in
      let back = span_back bytes at (to_be_bytes w16 spot.file) (to_be_bytes w32 spot.at ++ to_be_bytes w32 spot.len) behind s in
      let file = word_again w16 (2 ^ 16) wide16 bytes at spot.file mid (lt_is spot.file (2 ^ 16) c.0) front in
      let start = word_again w32 (2 ^ 32) wide32 bytes mid spot.at next (lt_is spot.at (2 ^ 32) c.1) (span_front bytes mid (to_be_bytes w32 spot.at) (to_be_bytes w32 spot.len) behind back) in
      let len = word_again w32 (2 ^ 32) wide32 bytes next spot.len behind (lt_is spot.len (2 ^ 32) a.1) (span_back bytes mid (to_be_bytes w32 spot.at) (to_be_bytes w32 spot.len) behind back) in
      rw (file, start, len) refl;
}
