-- Records are read exactly where they are spelled.
use Rattle.std.proofs.Common.{◌≡◌, ◌⊎◌, inl, inr, ℕ, ◌+◌, ◌≤◌, ◌<◌, ◌^◌, Bool, true, false, ◌==◌, List, [], ◌∷◌, ◌++◌, All, length, get_or, Ok, Err, IsTrue, refl, sym, ap, subst, ◌∙◌, if◌then◌else◌, arith, append-nil}
use Rattle.std.specs.Int.{w8, to_be_bytes}
use Rattle.std.specs.List.{flat_map, list_all}
use Rattle.std.proofs.lemmas.Bool.{and_parts, and_from, cases_lt}
use Rattle.std.proofs.lemmas.List.{drop_all, get_or_past}
use Rattle.std.proofs.lemmas.Bool.Decides.{nat_tests}
use Rattle.std.proofs.lemmas.List.Concat.{flat_map-cons}
use Rattle.js_base.specs.Bytes.{Bytes}
use Rattle.config_texts.specs.Texts.{stream_text, consumer_text}
use Rattle.effects.specs.declared.effect.Effect.{Effect}
use Rattle.effects.specs.declared.effect.Effect.TheVariants as effects
use Rattle.op_records.specs.Steps.{Reading, Reader, done}
use Rattle.op_records.specs.Fields.{word}
use Rattle.op_records.specs.Allowed.{is_record, may_stand}
use Rattle.op_records.specs.Reading.{make_stream, change_stream, skip, remove, make_consumer, drop_consumer, deliver, acked, due, given_up, now, table, is_first_kind, of_no_kind, fields_in, record_at, Stand, at_end}
use Rattle.op_records.specs.Spelling.{number, short, text, long, numbers, spelled_spot, spelled, spelled_record}
use Rattle.op_records.proofs.Spans.{Spans, span_none, span_then, span_front, span_back}
use Rattle.op_records.specs.Laws.{IsBatch, LawRecords}
use Rattle.op_records.specs.declared.fault.RecordFault.TheVariants.{BadKind, BadField}
use Rattle.op_records.specs.declared.record.Record.{Record}
use Rattle.op_records.specs.declared.record.Record.TheVariants as records
use Rattle.op_records.proofs.Steps.{both, value_is, place_is}
use Rattle.op_records.proofs.Exact.{Batch, wide8, word_took, word_again}
use Rattle.op_records.proofs.KindsExact as kinds
use Rattle.op_records.proofs.KindsExact.{Taken, Takes, taken_at}

-- ---- one record

pub same_kind : (kind k : ℕ) → (kind == k) ≡ true → k ≡ kind
same_kind kind k h = grind (arith, nat_tests)

no_kind : (begin kind : ℕ) (bytes : Bytes) (at : ℕ) (r : Record) (behind : ℕ) → of_no_kind begin kind bytes at ≡ Ok (r, behind) → Taken bytes at kind r behind
no_kind begin kind bytes at r behind eq = by (is_first_kind kind) eq
  where
    by : (is : Bool) → if◌then◌else◌ {A = Reading Record} is (Err (BadField begin)) (Err (BadKind begin)) ≡ Ok (r, behind) → Taken bytes at kind r behind
    by true eq = absurd (cc)
    by false eq = absurd (cc)

-- each of these kinds is taken
abbrev Take : List (ℕ × Reader Record) → Type 0
Take [] = Unit {0}
Take ((k, fields) ∷ more) = Takes fields k × Take more

kind_took : (kinds : List (ℕ × Reader Record)) → Take kinds → (begin kind : ℕ) (bytes : Bytes) (at : ℕ) (r : Record) (behind : ℕ) → Batch bytes → at ≤ length bytes → fields_in kinds begin kind bytes at ≡ Ok (r, behind) → Taken bytes at kind r behind
kind_took [] take begin kind bytes at r behind b within eq = no_kind begin kind bytes at r behind eq
kind_took ((k, fields) ∷ more) take begin kind bytes at r behind b within eq = by (kind_took more take.1 begin kind bytes at r behind b within) (kind == k) refl eq
  where
    by : (fields_in more begin kind bytes at ≡ Ok (r, behind) → Taken bytes at kind r behind) → (is : Bool) → (kind == k) ≡ is → (if is then fields else fields_in more begin kind) bytes at ≡ Ok (r, behind) → Taken bytes at kind r behind
    by others true is eq = subst (λ (n : ℕ). Taken bytes at n r behind) (same_kind kind k is) (take.0 bytes at r behind b within eq)
    by others false is eq = others eq

drop_took : Takes (done (records.Change effects.DropStream)) 3
unfolding spelled spelled_record
drop_took bytes at r behind b within eq =
    taken_at bytes at 3 (records.Change effects.DropStream) at r behind (record { allowed = refl; fields = []; there = span_none bytes at within; spelled_is = refl }) eq

take_all : Take table
take_all = (kinds.change_took make_stream 1 kinds.make_stream_took, (kinds.change_took change_stream 2 kinds.change_stream_took, (drop_took, (kinds.change_took skip 5 kinds.skip_took, (kinds.change_took remove 6 kinds.remove_took, (kinds.change_took make_consumer 7 kinds.make_consumer_took, (kinds.change_took drop_consumer 8 kinds.drop_consumer_took, (kinds.change_took deliver 9 kinds.deliver_took, (kinds.change_took acked 10 kinds.acked_took, (kinds.change_took due 11 kinds.due_took, (kinds.change_took given_up 12 kinds.given_up_took, (kinds.change_took now 13 kinds.now_took, (kinds.put_took, tt)))))))))))))

-- it may stand in a log, and is spelled here
pub record Recorded (bytes : Bytes) (begin : ℕ) (r : Record) (behind : ℕ) : Type 0 where
  pub allowed : IsTrue (may_stand r)
  pub there : Spans bytes begin (spelled_record r) behind

pub byte_is : (n : ℕ) → n < 256 → to_be_bytes w8 n ≡ n ∷ []
byte_is n small = ap (λ (k : ℕ). k ∷ []) (omega arith)

pub kind_again : (bytes : Bytes) (begin kind : ℕ) (fields : Bytes) (behind : ℕ) → kind < 256 → Spans bytes begin (kind ∷ fields) behind → word w8 bytes begin ≡ Ok (kind, begin + 1)
kind_again bytes begin kind fields behind small s =
    word_again w8 (2 ^ 8) wide8 bytes begin kind (begin + 1) small (subst (λ (l : Bytes). Spans bytes begin l (begin + 1)) (sym (byte_is kind small)) (span_front bytes begin (kind ∷ []) fields behind s))

pub record_took : (bytes : Bytes) (begin : ℕ) (r : Record) (behind : ℕ) → Batch bytes → record_at bytes begin ≡ Ok (r, behind) → Recorded bytes begin r behind
unfolding record_at
record_took bytes begin r behind b eq =
    let p = both bytes (fields_in table begin) (word w8 bytes begin) r behind eq in
    let kind = word_took w8 (2 ^ 8) wide8 bytes begin p.value p.mid b.are_bytes p.first in
    let t = kind_took table take_all begin p.value bytes p.mid r behind b kind.1.within p.second in
    let byte : to_be_bytes w8 p.value ≡ p.value ∷ [] = byte_is p.value kind.0 in
    let first : Spans bytes begin (p.value ∷ []) p.mid = subst (λ (l : Bytes). Spans bytes begin l p.mid) byte kind.1 in
    let whole : Spans bytes begin (p.value ∷ t.fields) behind = span_then bytes begin (p.value ∷ []) p.mid t.fields behind first t.there in
    record { allowed = t.allowed; there = subst (λ (l : Bytes). Spans bytes begin l behind) (sym t.spelled_is) whole }

change_again : (e : Effect) (bytes : Bytes) (begin behind : ℕ) → Batch bytes → IsTrue (may_stand (records.Change e)) → Spans bytes begin (spelled e) behind → record_at bytes begin ≡ Ok (records.Change e, behind)
unfolding record_at spelled
change_again (effects.MakeStream incarnation made config) bytes begin behind b is s =
    let kind = kind_again bytes begin 1 (number incarnation ++ (number made ++ long (stream_text config))) behind (omega arith) s in
    let fields = kinds.make_stream_again bytes (begin + 1) incarnation made config behind b (and_parts _ _ is).0 (span_back bytes begin (1 ∷ []) (number incarnation ++ (number made ++ long (stream_text config))) behind s) in
    rw (kind, fields) refl
change_again (effects.ChangeStream config) bytes begin behind b is s =
    let kind = kind_again bytes begin 2 (long (stream_text config)) behind (omega arith) s in
    let fields = kinds.change_stream_again bytes (begin + 1) config behind b (and_parts _ _ is).0 (span_back bytes begin (2 ∷ []) (long (stream_text config)) behind s) in
    rw (kind, fields) refl
change_again effects.DropStream bytes begin behind b is s =
    let kind = kind_again bytes begin 3 ([]) behind (omega arith) s in
    let place : begin + 1 ≡ behind = omega (arith, s.ends) in
    rw (kind, place) refl
change_again (effects.PutHere seq at id subject headers payload) bytes begin behind b is s =
    let none : false ≡ true = (and_parts (is_record (effects.PutHere seq at id subject headers payload)) false is).1 in
    absurd (cc)
change_again (effects.Skip seq at id) bytes begin behind b is s =
    let kind = kind_again bytes begin 5 (number seq ++ (number at ++ text id)) behind (omega arith) s in
    let fields = kinds.skip_again bytes (begin + 1) seq at id behind b (and_parts _ _ is).0 (span_back bytes begin (5 ∷ []) (number seq ++ (number at ++ text id)) behind s) in
    rw (kind, fields) refl
change_again (effects.Remove low high) bytes begin behind b is s =
    let kind = kind_again bytes begin 6 (number low ++ number high) behind (omega arith) s in
    let fields = kinds.remove_again bytes (begin + 1) (low, high) behind b (and_parts _ _ is).0 (span_back bytes begin (6 ∷ []) (number low ++ number high) behind s) in
    rw (kind, fields) refl
change_again (effects.MakeConsumer name made config cursor picks) bytes begin behind b is s =
    let kind = kind_again bytes begin 7 (short name ++ (number made ++ (long (consumer_text config) ++ (number cursor ++ numbers picks)))) behind (omega arith) s in
    let fields = kinds.make_consumer_again bytes (begin + 1) name made config cursor picks behind b (and_parts _ _ is).0 (span_back bytes begin (7 ∷ []) (short name ++ (number made ++ (long (consumer_text config) ++ (number cursor ++ numbers picks)))) behind s) in
    rw (kind, fields) refl
change_again (effects.DropConsumer name) bytes begin behind b is s =
    let kind = kind_again bytes begin 8 (short name) behind (omega arith) s in
    let fields = kinds.drop_consumer_again bytes (begin + 1) name behind b (and_parts _ _ is).0 (span_back bytes begin (8 ∷ []) (short name) behind s) in
    rw (kind, fields) refl
change_again (effects.Deliver name seq count due dseq) bytes begin behind b is s =
    let kind = kind_again bytes begin 9 (short name ++ (number seq ++ (number count ++ (number due ++ number dseq)))) behind (omega arith) s in
    let fields = kinds.deliver_again bytes (begin + 1) name seq count due dseq behind b (and_parts _ _ is).0 (span_back bytes begin (9 ∷ []) (short name ++ (number seq ++ (number count ++ (number due ++ number dseq)))) behind s) in
    rw (kind, fields) refl
change_again (effects.Acked name low high) bytes begin behind b is s =
    let kind = kind_again bytes begin 10 (short name ++ (number low ++ number high)) behind (omega arith) s in
    let fields = kinds.acked_again bytes (begin + 1) name (low, high) behind b (and_parts _ _ is).0 (span_back bytes begin (10 ∷ []) (short name ++ (number low ++ number high)) behind s) in
    rw (kind, fields) refl
change_again (effects.Due name seq due) bytes begin behind b is s =
    let kind = kind_again bytes begin 11 (short name ++ (number seq ++ number due)) behind (omega arith) s in
    let fields = kinds.due_again bytes (begin + 1) name seq due behind b (and_parts _ _ is).0 (span_back bytes begin (11 ∷ []) (short name ++ (number seq ++ number due)) behind s) in
    rw (kind, fields) refl
change_again (effects.GivenUp name moment) bytes begin behind b is s =
    let kind = kind_again bytes begin 12 (short name ++ number moment) behind (omega arith) s in
    let fields = kinds.given_up_again bytes (begin + 1) name moment behind b (and_parts _ _ is).0 (span_back bytes begin (12 ∷ []) (short name ++ number moment) behind s) in
    rw (kind, fields) refl
change_again (effects.Now moment) bytes begin behind b is s =
    let kind = kind_again bytes begin 13 (number moment) behind (omega arith) s in
    let fields = kinds.now_again bytes (begin + 1) moment behind b (and_parts _ _ is).0 (span_back bytes begin (13 ∷ []) (number moment) behind s) in
    rw (kind, fields) refl

record_again : (r : Record) (bytes : Bytes) (begin behind : ℕ) → Batch bytes → IsTrue (may_stand r) → Spans bytes begin (spelled_record r) behind → record_at bytes begin ≡ Ok (r, behind)
unfolding record_at spelled_record
record_again (records.Put seq at id spot) bytes begin behind b is s =
    let kind = kind_again bytes begin 14 (number seq ++ (number at ++ (text id ++ spelled_spot spot))) behind (omega arith) s in
    let fields = kinds.put_again bytes (begin + 1) seq at id spot behind b is (span_back bytes begin (14 ∷ []) (number seq ++ (number at ++ (text id ++ spelled_spot spot))) behind s) in
    rw (kind, fields) refl
record_again (records.Change e) bytes begin behind b is s = change_again e bytes begin behind b is s

-- ---- records one behind the other

record Records (bytes : Bytes) (at : ℕ) (rs : List Record) (end : ℕ) : Type 0 where
  allowed : list_all may_stand rs ≡ true
  there : Spans bytes at (flat_map spelled_record rs) end

records_took : (rs : List Record) (bytes : Bytes) (at end : ℕ) → Batch bytes → at ≤ length bytes → Stand bytes at rs end → Records bytes at rs end
records_took [] bytes at end b within h = record { allowed = refl; there = subst (λ (k : ℕ). Spans bytes at [] k) h (span_none bytes at within) }
records_took (r ∷ rs) bytes at end b within h =
    let one = record_took bytes at r h.0 b h.1 in
    let more = records_took rs bytes h.0 end b one.there.within h.2 in
    record {
      allowed = and_from (may_stand r) (list_all may_stand rs) one.allowed more.allowed;
      there = subst (λ (l : Bytes). Spans bytes at l end) (sym (flat_map-cons spelled_record r rs)) (span_then bytes at (spelled_record r) h.0 (flat_map spelled_record rs) end one.there more.there);
    }

records_again : (rs : List Record) (bytes : Bytes) (at end : ℕ) → Batch bytes → list_all may_stand rs ≡ true → Spans bytes at (flat_map spelled_record rs) end → Stand bytes at rs end
records_again [] bytes at end b is s = omega (arith, s.ends)
records_again (r ∷ rs) bytes at end b is s =
    let two : Spans bytes at (spelled_record r ++ flat_map spelled_record rs) end = subst (λ (l : Bytes). Spans bytes at l end) (flat_map-cons spelled_record r rs) s in
    let parts = and_parts (may_stand r) (list_all may_stand rs) is in (
      at + length (spelled_record r),
      record_again r bytes at (at + length (spelled_record r)) b parts.0 (span_front bytes at (spelled_record r) (flat_map spelled_record rs) end two),
      records_again rs bytes (at + length (spelled_record r)) end b parts.1 (span_back bytes at (spelled_record r) (flat_map spelled_record rs) end two),
    )

-- ---- at the end of the bytes

pub record Ended {A : Type 0} (bytes : Bytes) (a : A) (at : ℕ) (b : A) : Type 0 where
  pub value : a ≡ b
  pub place : at ≡ length bytes

pub ended : {A : Type 0} (bytes : Bytes) (a : A) (at : ℕ) (b : A) → at_end a bytes at ≡ Ok (b, length bytes) → Ended bytes a at b
ended {A} bytes a at b e = by (at == length bytes) e
  where
    by : (is : Bool) → if◌then◌else◌ {A = Reading A} is (Ok (a, at)) (Err (BadField at)) ≡ Ok (b, length bytes) → Ended bytes a at b
    by true e = record { value = value_is a at b (length bytes) e; place = place_is a at b (length bytes) e }
    by false e = absurd (cc)

pub at_its_end : {A : Type 0} (bytes : Bytes) (a : A) → at_end a bytes (length bytes) ≡ Ok (a, length bytes)
at_its_end bytes a = let same : (length bytes == length bytes) ≡ true = grind (arith, nat_tests) in rw same refl

-- ---- the laws

pub batch_of : (bytes : Bytes) → IsBatch bytes → Batch bytes
batch_of bytes is = record { are_bytes = λ i. each bytes is.are_bytes i; short = is.short }
  where
    each : (bytes : Bytes) → All (λ byte. byte < 256) bytes → (i : ℕ) → get_or bytes i 0 < 256
    each bytes all i = by (cases_lt i (length bytes))
      where
        by : ((i < length bytes) ⊎ (length bytes ≤ i)) → get_or bytes i 0 < 256
        by (inl within) = all i 0 within
        by (inr past) = rw (get_or_past bytes i 0 past) (omega arith)

-- all of the bytes
pub whole_of : (bytes text : Bytes) → Spans bytes 0 text (length bytes) → bytes ≡ text
whole_of bytes text s = s.parts ∙ ap (λ (l : Bytes). text ++ l) (drop_all (length bytes) bytes (omega arith)) ∙ append-nil text

pub span_whole : (bytes text : Bytes) → bytes ≡ text → Spans bytes 0 text (length bytes)
span_whole bytes text e = record {
  parts = e ∙ sym (append-nil text) ∙ ap (λ (l : Bytes). text ++ l) (sym (drop_all (length bytes) bytes (omega arith)));
  ends = ap length e ∙ omega arith;
  within = omega arith;
}

pub law_records : LawRecords
law_records bytes rs is =
    let b = batch_of bytes is in (
      λ stand. (let r = records_took rs bytes 0 (length bytes) b (omega arith) stand in record { allowed = r.allowed; bytes_are = whole_of bytes (flat_map spelled_record rs) r.there }),
      λ spells. records_again rs bytes 0 (length bytes) b spells.allowed (span_whole bytes (flat_map spelled_record rs) spells.bytes_are),
    )
