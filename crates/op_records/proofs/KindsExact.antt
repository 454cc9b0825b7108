-- The fields of each kind of record are read exactly where they are spelled.
use Rattle.std.proofs.Common.{◌≡◌, ℕ, ◌+◌, ◌≤◌, true, List, ◌∷◌, ◌++◌, length, Ok, IsTrue, refl, subst}
use Rattle.std.proofs.lemmas.Bool.{and_parts, and_from}
use Rattle.js_base.specs.Bytes.{Bytes}
use Rattle.js_base.specs.declared.spot.Spot.{Spot}
use Rattle.js_model.specs.Configs.{is_consumer_config}
use Rattle.js_model.specs.declared.stream_config.StreamConfig.{StreamConfig}
use Rattle.js_model.specs.declared.consumer_config.ConsumerConfig.{ConsumerConfig}
use Rattle.config_texts.specs.Texts.{stream_text, consumer_text}
use Rattle.effects.specs.declared.effect.Effect.{Effect}
use Rattle.effects.specs.declared.effect.Effect.TheVariants as effects
use Rattle.op_records.specs.Steps.{Reader, ◌>>=◌, done}
use Rattle.op_records.specs.Fields.{only, number_field, cursor_field, numbers_field, name_field, text_field, stream_field, consumer_field, spot_field, range_field}
use Rattle.op_records.specs.Allowed.{is_record, may_stand}
use Rattle.op_records.specs.Reading.{make_stream, change_stream, skip, remove, is_named, make_consumer, drop_consumer, deliver, acked, due, given_up, now, put, change}
use Rattle.op_records.specs.Spelling.{number, short, text, long, numbers, spelled_spot, spelled, spelled_record}
use Rattle.op_records.specs.declared.record.Record.{Record}
use Rattle.op_records.specs.declared.record.Record.TheVariants as records
use Rattle.op_records.proofs.Spans.{Spans, span_then, span_front, span_back}
use Rattle.op_records.proofs.Steps.{both, value_is, place_is, Passed, passed}
use Rattle.op_records.proofs.Exact.{Batch}
use Rattle.op_records.proofs.FieldsExact.{number_exact, cursor_exact, numbers_exact, name_exact, text_exact, spot_exact, range_text, range_exact}
use Rattle.op_records.proofs.TextsExact.{stream_exact, consumer_exact}

-- the record was taken: it may stand in a log, and its fields are spelled there
pub record Taken (bytes : Bytes) (at kind : ℕ) (r : Record) (behind : ℕ) : Type 0 where
  pub allowed : IsTrue (may_stand r)
  pub fields : Bytes
  pub there : Spans bytes at fields behind
  pub spelled_is : spelled_record r ≡ kind ∷ fields

abbrev pub Takes : Reader Record → ℕ → Type 0
Takes read kind = (bytes : Bytes) (at : ℕ) (r : Record) (behind : ℕ) → Batch bytes → at ≤ length bytes → read bytes at ≡ Ok (r, behind) → Taken bytes at kind r behind

pub taken_at : (bytes : Bytes) (at kind : ℕ) (made : Record) (mid : ℕ) (r : Record) (behind : ℕ) → Taken bytes at kind made mid → done made bytes mid ≡ Ok (r, behind) → Taken bytes at kind r behind
taken_at bytes at kind made mid r behind t eq =
    let same = value_is made mid r behind eq in
    let place = place_is made mid r behind eq in
    subst (λ (x : Record). Taken bytes at kind x behind) same (subst (λ (k : ℕ). Taken bytes at kind made k) place t)

-- ---- changes

-- the record of a change was taken
abbrev TakenChange : Bytes → ℕ → ℕ → Effect → ℕ → Type 0
TakenChange bytes at kind e behind = Taken bytes at kind (records.Change e) behind

abbrev TakesChange : Reader Effect → ℕ → Type 0
TakesChange read kind = (bytes : Bytes) (at : ℕ) (e : Effect) (behind : ℕ) → Batch bytes → at ≤ length bytes → read bytes at ≡ Ok (e, behind) → TakenChange bytes at kind e behind

change_at : (bytes : Bytes) (at kind : ℕ) (made : Effect) (mid : ℕ) (e : Effect) (behind : ℕ) → TakenChange bytes at kind made mid → done made bytes mid ≡ Ok (e, behind) → TakenChange bytes at kind e behind
change_at bytes at kind made mid e behind t eq =
    let same = value_is made mid e behind eq in
    let place = place_is made mid e behind eq in
    subst (λ (x : Effect). TakenChange bytes at kind x behind) same (subst (λ (k : ℕ). TakenChange bytes at kind made k) place t)

pub change_took : (read : Reader Effect) (kind : ℕ) → TakesChange read kind → Takes (change read) kind
change_took read kind took bytes at r behind b within eq =
    let p = both bytes (λ (e : Effect). done (records.Change e)) (read bytes at) r behind eq in
    taken_at bytes at kind (records.Change p.value) p.mid r behind (took bytes at p.value p.mid b within p.first) p.second

pub make_stream_took : TakesChange make_stream 1
unfolding make_stream spelled spelled_record
make_stream_took bytes at e behind b within eq =
    let p0 = both bytes (λ (incarnation : ℕ). number_field >>= λ made. stream_field >>= λ config. done (effects.MakeStream incarnation made config)) (number_field bytes at) e behind eq in
    let q0 = number_exact.took bytes at p0.value p0.mid b p0.first in
    let p1 = both bytes (λ (made : ℕ). stream_field >>= λ config. done (effects.MakeStream p0.value made config)) (number_field bytes p0.mid) e behind p0.second in
    let q1 = number_exact.took bytes p0.mid p1.value p1.mid b p1.first in
    let p2 = both bytes (λ (config : StreamConfig). done (effects.MakeStream p0.value p1.value config)) (stream_field bytes p1.mid) e behind p1.second in
    let q2 = stream_exact.took bytes p1.mid p2.value p2.mid b p2.first in
    let made : TakenChange bytes at 1 (effects.MakeStream p0.value p1.value p2.value) p2.mid = record { allowed = and_from _ _ (and_from _ _ (and_from _ _ q0.0 q1.0) q2.0) refl; fields = number p0.value ++ (number p1.value ++ long (stream_text p2.value)); there = (span_then bytes at (number p0.value) p0.mid (number p1.value ++ long (stream_text p2.value)) p2.mid q0.1 (span_then bytes p0.mid (number p1.value) p1.mid (long (stream_text p2.value)) p2.mid q1.1 q2.1)); spelled_is = refl } in
    change_at bytes at 1 (effects.MakeStream p0.value p1.value p2.value) p2.mid e behind made p2.second

pub make_stream_again : (bytes : Bytes) (at : ℕ) (incarnation : ℕ) (made : ℕ) (config : StreamConfig) (behind : ℕ) → Batch bytes → IsTrue (is_record (effects.MakeStream incarnation made config)) → Spans bytes at (number incarnation ++ (number made ++ long (stream_text config))) behind → make_stream bytes at ≡ Ok (effects.MakeStream incarnation made config, behind)
unfolding make_stream
make_stream_again bytes at incarnation made config behind b is s =
    let a2 = and_parts _ _ is in
    let a1 = and_parts _ _ a2.0 in
    let at1 : ℕ = at + length (number incarnation) in
    let s0 = span_front bytes at (number incarnation) (number made ++ long (stream_text config)) behind s in
    let r0 = span_back bytes at (number incarnation) (number made ++ long (stream_text config)) behind s in
    let f0 = number_exact.again bytes at incarnation at1 b a1.0 s0 in
    let at2 : ℕ = at1 + length (number made) in
    let s1 = span_front bytes at1 (number made) (long (stream_text config)) behind r0 in
    let r1 = span_back bytes at1 (number made) (long (stream_text config)) behind r0 in
    let f1 = number_exact.again bytes at1 made at2 b a1.1 s1 in
    let f2 = stream_exact.again bytes at2 config behind b a2.1 r1 in
    rw (f0, f1, f2) refl

pub change_stream_took : TakesChange change_stream 2
unfolding change_stream spelled spelled_record
change_stream_took bytes at e behind b within eq =
    let p0 = both bytes (λ (config : StreamConfig). done (effects.ChangeStream config)) (stream_field bytes at) e behind eq in
    let q0 = stream_exact.took bytes at p0.value p0.mid b p0.first in
    let made : TakenChange bytes at 2 (effects.ChangeStream p0.value) p0.mid = record { allowed = and_from _ _ q0.0 refl; fields = long (stream_text p0.value); there = q0.1; spelled_is = refl } in
    change_at bytes at 2 (effects.ChangeStream p0.value) p0.mid e behind made p0.second

pub change_stream_again : (bytes : Bytes) (at : ℕ) (config : StreamConfig) (behind : ℕ) → Batch bytes → IsTrue (is_record (effects.ChangeStream config)) → Spans bytes at (long (stream_text config)) behind → change_stream bytes at ≡ Ok (effects.ChangeStream config, behind)
unfolding change_stream
change_stream_again bytes at config behind b is s =
    let f0 = stream_exact.again bytes at config behind b is s in
    rw f0 refl

pub skip_took : TakesChange skip 5
unfolding skip spelled spelled_record
skip_took bytes at e behind b within eq =
    let p0 = both bytes (λ (seq : ℕ). number_field >>= λ at. text_field >>= λ id. done (effects.Skip seq at id)) (number_field bytes at) e behind eq in
    let q0 = number_exact.took bytes at p0.value p0.mid b p0.first in
    let p1 = both bytes (λ (at : ℕ). text_field >>= λ id. done (effects.Skip p0.value at id)) (number_field bytes p0.mid) e behind p0.second in
    let q1 = number_exact.took bytes p0.mid p1.value p1.mid b p1.first in
    let p2 = both bytes (λ (id : Bytes). done (effects.Skip p0.value p1.value id)) (text_field bytes p1.mid) e behind p1.second in
    let q2 = text_exact.took bytes p1.mid p2.value p2.mid b p2.first in
    let made : TakenChange bytes at 5 (effects.Skip p0.value p1.value p2.value) p2.mid = record { allowed = and_from _ _ (and_from _ _ (and_from _ _ q0.0 q1.0) q2.0) refl; fields = number p0.value ++ (number p1.value ++ text p2.value); there = (span_then bytes at (number p0.value) p0.mid (number p1.value ++ text p2.value) p2.mid q0.1 (span_then bytes p0.mid (number p1.value) p1.mid (text p2.value) p2.mid q1.1 q2.1)); spelled_is = refl } in
    change_at bytes at 5 (effects.Skip p0.value p1.value p2.value) p2.mid e behind made p2.second

pub skip_again : (bytes : Bytes) (at : ℕ) (seq : ℕ) (moment : ℕ) (id : Bytes) (behind : ℕ) → Batch bytes → IsTrue (is_record (effects.Skip seq moment id)) → Spans bytes at (number seq ++ (number moment ++ text id)) behind → skip bytes at ≡ Ok (effects.Skip seq moment id, behind)
unfolding skip
skip_again bytes at seq moment id behind b is s =
    let a2 = and_parts _ _ is in
    let a1 = and_parts _ _ a2.0 in
    let at1 : ℕ = at + length (number seq) in
    let s0 = span_front bytes at (number seq) (number moment ++ text id) behind s in
    let r0 = span_back bytes at (number seq) (number moment ++ text id) behind s in
    let f0 = number_exact.again bytes at seq at1 b a1.0 s0 in
    let at2 : ℕ = at1 + length (number moment) in
    let s1 = span_front bytes at1 (number moment) (text id) behind r0 in
    let r1 = span_back bytes at1 (number moment) (text id) behind r0 in
    let f1 = number_exact.again bytes at1 moment at2 b a1.1 s1 in
    let f2 = text_exact.again bytes at2 id behind b a2.1 r1 in
    rw (f0, f1, f2) refl

pub remove_took : TakesChange remove 6
unfolding remove spelled spelled_record
remove_took bytes at e behind b within eq =
    let p0 = both bytes (λ (range : ℕ × ℕ). done (effects.Remove range.0 range.1)) (range_field bytes at) e behind eq in
    let q0 = range_exact.took bytes at p0.value p0.mid b p0.first in
    let made : TakenChange bytes at 6 (effects.Remove p0.value.0 p0.value.1) p0.mid = record { allowed = and_from _ _ q0.0 refl; fields = range_text p0.value; there = q0.1; spelled_is = refl } in
    change_at bytes at 6 (effects.Remove p0.value.0 p0.value.1) p0.mid e behind made p0.second

pub remove_again : (bytes : Bytes) (at : ℕ) (range : ℕ × ℕ) (behind : ℕ) → Batch bytes → IsTrue (is_record (effects.Remove range.0 range.1)) → Spans bytes at (range_text range) behind → remove bytes at ≡ Ok (effects.Remove range.0 range.1, behind)
unfolding remove
remove_again bytes at range behind b is s =
    let f0 = range_exact.again bytes at range behind b is s in
    rw f0 refl

pub drop_consumer_took : TakesChange drop_consumer 8
unfolding drop_consumer spelled spelled_record
drop_consumer_took bytes at e behind b within eq =
    let p0 = both bytes (λ (name : Bytes). done (effects.DropConsumer name)) (name_field bytes at) e behind eq in
    let q0 = name_exact.took bytes at p0.value p0.mid b p0.first in
    let made : TakenChange bytes at 8 (effects.DropConsumer p0.value) p0.mid = record { allowed = and_from _ _ q0.0 refl; fields = short p0.value; there = q0.1; spelled_is = refl } in
    change_at bytes at 8 (effects.DropConsumer p0.value) p0.mid e behind made p0.second

pub drop_consumer_again : (bytes : Bytes) (at : ℕ) (name : Bytes) (behind : ℕ) → Batch bytes → IsTrue (is_record (effects.DropConsumer name)) → Spans bytes at (short name) behind → drop_consumer bytes at ≡ Ok (effects.DropConsumer name, behind)
unfolding drop_consumer
drop_consumer_again bytes at name behind b is s =
    let f0 = name_exact.again bytes at name behind b is s in
    rw f0 refl

pub deliver_took : TakesChange deliver 9
unfolding deliver spelled spelled_record
deliver_took bytes at e behind b within eq =
    let p0 = both bytes (λ (name : Bytes). number_field >>= λ seq. number_field >>= λ count. number_field >>= λ due. number_field >>= λ dseq. done (effects.Deliver name seq count due dseq)) (name_field bytes at) e behind eq in
    let q0 = name_exact.took bytes at p0.value p0.mid b p0.first in
    let p1 = both bytes (λ (seq : ℕ). number_field >>= λ count. number_field >>= λ due. number_field >>= λ dseq. done (effects.Deliver p0.value seq count due dseq)) (number_field bytes p0.mid) e behind p0.second in
    let q1 = number_exact.took bytes p0.mid p1.value p1.mid b p1.first in
    let p2 = both bytes (λ (count : ℕ). number_field >>= λ due. number_field >>= λ dseq. done (effects.Deliver p0.value p1.value count due dseq)) (number_field bytes p1.mid) e behind p1.second in
    let q2 = number_exact.took bytes p1.mid p2.value p2.mid b p2.first in
    let p3 = both bytes (λ (due : ℕ). number_field >>= λ dseq. done (effects.Deliver p0.value p1.value p2.value due dseq)) (number_field bytes p2.mid) e behind p2.second in
    let q3 = number_exact.took bytes p2.mid p3.value p3.mid b p3.first in
    let p4 = both bytes (λ (dseq : ℕ). done (effects.Deliver p0.value p1.value p2.value p3.value dseq)) (number_field bytes p3.mid) e behind p3.second in
    let q4 = number_exact.took bytes p3.mid p4.value p4.mid b p4.first in
    let made : TakenChange bytes at 9 (effects.Deliver p0.value p1.value p2.value p3.value p4.value) p4.mid = record { allowed = and_from _ _ (and_from _ _ (and_from _ _ (and_from _ _ (and_from _ _ q0.0 q1.0) q2.0) q3.0) q4.0) refl; fields = short p0.value ++ (number p1.value ++ (number p2.value ++ (number p3.value ++ number p4.value))); there = (span_then bytes at (short p0.value) p0.mid (number p1.value ++ (number p2.value ++ (number p3.value ++ number p4.value))) p4.mid q0.1 (span_then bytes p0.mid (number p1.value) p1.mid (number p2.value ++ (number p3.value ++ number p4.value)) p4.mid q1.1 (span_then bytes p1.mid (number p2.value) p2.mid (number p3.value ++ number p4.value) p4.mid q2.1 (span_then bytes p2.mid (number p3.value) p3.mid (number p4.value) p4.mid q3.1 q4.1)))); spelled_is = refl } in
    change_at bytes at 9 (effects.Deliver p0.value p1.value p2.value p3.value p4.value) p4.mid e behind made p4.second

pub deliver_again : (bytes : Bytes) (at : ℕ) (name : Bytes) (seq : ℕ) (count : ℕ) (due : ℕ) (dseq : ℕ) (behind : ℕ) → Batch bytes → IsTrue (is_record (effects.Deliver name seq count due dseq)) → Spans bytes at (short name ++ (number seq ++ (number count ++ (number due ++ number dseq)))) behind → deliver bytes at ≡ Ok (effects.Deliver name seq count due dseq, behind)
unfolding deliver
deliver_again bytes at name seq count due dseq behind b is s =
    let a4 = and_parts _ _ is in
    let a3 = and_parts _ _ a4.0 in
    let a2 = and_parts _ _ a3.0 in
    let a1 = and_parts _ _ a2.0 in
    let at1 : ℕ = at + length (short name) in
    let s0 = span_front bytes at (short name) (number seq ++ (number count ++ (number due ++ number dseq))) behind s in
    let r0 = span_back bytes at (short name) (number seq ++ (number count ++ (number due ++ number dseq))) behind s in
    let f0 = name_exact.again bytes at name at1 b a1.0 s0 in
    let at2 : ℕ = at1 + length (number seq) in
    let s1 = span_front bytes at1 (number seq) (number count ++ (number due ++ number dseq)) behind r0 in
    let r1 = span_back bytes at1 (number seq) (number count ++ (number due ++ number dseq)) behind r0 in
    let f1 = number_exact.again bytes at1 seq at2 b a1.1 s1 in
    let at3 : ℕ = at2 + length (number count) in
    let s2 = span_front bytes at2 (number count) (number due ++ number dseq) behind r1 in
    let r2 = span_back bytes at2 (number count) (number due ++ number dseq) behind r1 in
    let f2 = number_exact.again bytes at2 count at3 b a2.1 s2 in
    let at4 : ℕ = at3 + length (number due) in
    let s3 = span_front bytes at3 (number due) (number dseq) behind r2 in
    let r3 = span_back bytes at3 (number due) (number dseq) behind r2 in
    let f3 = number_exact.again bytes at3 due at4 b a3.1 s3 in
    let f4 = number_exact.again bytes at4 dseq behind b a4.1 r3 in
    rw (f0, f1, f2, f3, f4) refl

pub acked_took : TakesChange acked 10
unfolding acked spelled spelled_record
acked_took bytes at e behind b within eq =
    let p0 = both bytes (λ (name : Bytes). range_field >>= λ range. done (effects.Acked name range.0 range.1)) (name_field bytes at) e behind eq in
    let q0 = name_exact.took bytes at p0.value p0.mid b p0.first in
    let p1 = both bytes (λ (range : ℕ × ℕ). done (effects.Acked p0.value range.0 range.1)) (range_field bytes p0.mid) e behind p0.second in
    let q1 = range_exact.took bytes p0.mid p1.value p1.mid b p1.first in
    let made : TakenChange bytes at 10 (effects.Acked p0.value p1.value.0 p1.value.1) p1.mid = record { allowed = and_from _ _ (and_from _ _ q0.0 q1.0) refl; fields = short p0.value ++ range_text p1.value; there = (span_then bytes at (short p0.value) p0.mid (range_text p1.value) p1.mid q0.1 q1.1); spelled_is = refl } in
    change_at bytes at 10 (effects.Acked p0.value p1.value.0 p1.value.1) p1.mid e behind made p1.second

pub acked_again : (bytes : Bytes) (at : ℕ) (name : Bytes) (range : ℕ × ℕ) (behind : ℕ) → Batch bytes → IsTrue (is_record (effects.Acked name range.0 range.1)) → Spans bytes at (short name ++ range_text range) behind → acked bytes at ≡ Ok (effects.Acked name range.0 range.1, behind)
unfolding acked
acked_again bytes at name range behind b is s =
    let a1 = and_parts _ _ is in
    let at1 : ℕ = at + length (short name) in
    let s0 = span_front bytes at (short name) (range_text range) behind s in
    let r0 = span_back bytes at (short name) (range_text range) behind s in
    let f0 = name_exact.again bytes at name at1 b a1.0 s0 in
    let f1 = range_exact.again bytes at1 range behind b a1.1 r0 in
    rw (f0, f1) refl

pub due_took : TakesChange due 11
unfolding due spelled spelled_record
due_took bytes at e behind b within eq =
    let p0 = both bytes (λ (name : Bytes). number_field >>= λ seq. number_field >>= λ moment. done (effects.Due name seq moment)) (name_field bytes at) e behind eq in
    let q0 = name_exact.took bytes at p0.value p0.mid b p0.first in
    let p1 = both bytes (λ (seq : ℕ). number_field >>= λ moment. done (effects.Due p0.value seq moment)) (number_field bytes p0.mid) e behind p0.second in
    let q1 = number_exact.took bytes p0.mid p1.value p1.mid b p1.first in
    let p2 = both bytes (λ (moment : ℕ). done (effects.Due p0.value p1.value moment)) (number_field bytes p1.mid) e behind p1.second in
    let q2 = number_exact.took bytes p1.mid p2.value p2.mid b p2.first in
    let made : TakenChange bytes at 11 (effects.Due p0.value p1.value p2.value) p2.mid = record { allowed = and_from _ _ (and_from _ _ (and_from _ _ q0.0 q1.0) q2.0) refl; fields = short p0.value ++ (number p1.value ++ number p2.value); there = (span_then bytes at (short p0.value) p0.mid (number p1.value ++ number p2.value) p2.mid q0.1 (span_then bytes p0.mid (number p1.value) p1.mid (number p2.value) p2.mid q1.1 q2.1)); spelled_is = refl } in
    change_at bytes at 11 (effects.Due p0.value p1.value p2.value) p2.mid e behind made p2.second

pub due_again : (bytes : Bytes) (at : ℕ) (name : Bytes) (seq : ℕ) (moment : ℕ) (behind : ℕ) → Batch bytes → IsTrue (is_record (effects.Due name seq moment)) → Spans bytes at (short name ++ (number seq ++ number moment)) behind → due bytes at ≡ Ok (effects.Due name seq moment, behind)
unfolding due
due_again bytes at name seq moment behind b is s =
    let a2 = and_parts _ _ is in
    let a1 = and_parts _ _ a2.0 in
    let at1 : ℕ = at + length (short name) in
    let s0 = span_front bytes at (short name) (number seq ++ number moment) behind s in
    let r0 = span_back bytes at (short name) (number seq ++ number moment) behind s in
    let f0 = name_exact.again bytes at name at1 b a1.0 s0 in
    let at2 : ℕ = at1 + length (number seq) in
    let s1 = span_front bytes at1 (number seq) (number moment) behind r0 in
    let r1 = span_back bytes at1 (number seq) (number moment) behind r0 in
    let f1 = number_exact.again bytes at1 seq at2 b a1.1 s1 in
    let f2 = number_exact.again bytes at2 moment behind b a2.1 r1 in
    rw (f0, f1, f2) refl

pub given_up_took : TakesChange given_up 12
unfolding given_up spelled spelled_record
given_up_took bytes at e behind b within eq =
    let p0 = both bytes (λ (name : Bytes). number_field >>= λ moment. done (effects.GivenUp name moment)) (name_field bytes at) e behind eq in
    let q0 = name_exact.took bytes at p0.value p0.mid b p0.first in
    let p1 = both bytes (λ (moment : ℕ). done (effects.GivenUp p0.value moment)) (number_field bytes p0.mid) e behind p0.second in
    let q1 = number_exact.took bytes p0.mid p1.value p1.mid b p1.first in
    let made : TakenChange bytes at 12 (effects.GivenUp p0.value p1.value) p1.mid = record { allowed = and_from _ _ (and_from _ _ q0.0 q1.0) refl; fields = short p0.value ++ number p1.value; there = (span_then bytes at (short p0.value) p0.mid (number p1.value) p1.mid q0.1 q1.1); spelled_is = refl } in
    change_at bytes at 12 (effects.GivenUp p0.value p1.value) p1.mid e behind made p1.second

pub given_up_again : (bytes : Bytes) (at : ℕ) (name : Bytes) (moment : ℕ) (behind : ℕ) → Batch bytes → IsTrue (is_record (effects.GivenUp name moment)) → Spans bytes at (short name ++ number moment) behind → given_up bytes at ≡ Ok (effects.GivenUp name moment, behind)
unfolding given_up
given_up_again bytes at name moment behind b is s =
    let a1 = and_parts _ _ is in
    let at1 : ℕ = at + length (short name) in
    let s0 = span_front bytes at (short name) (number moment) behind s in
    let r0 = span_back bytes at (short name) (number moment) behind s in
    let f0 = name_exact.again bytes at name at1 b a1.0 s0 in
    let f1 = number_exact.again bytes at1 moment behind b a1.1 r0 in
    rw (f0, f1) refl

pub now_took : TakesChange now 13
unfolding now spelled spelled_record
now_took bytes at e behind b within eq =
    let p0 = both bytes (λ (moment : ℕ). done (effects.Now moment)) (number_field bytes at) e behind eq in
    let q0 = number_exact.took bytes at p0.value p0.mid b p0.first in
    let made : TakenChange bytes at 13 (effects.Now p0.value) p0.mid = record { allowed = and_from _ _ q0.0 refl; fields = number p0.value; there = q0.1; spelled_is = refl } in
    change_at bytes at 13 (effects.Now p0.value) p0.mid e behind made p0.second

pub now_again : (bytes : Bytes) (at : ℕ) (moment : ℕ) (behind : ℕ) → Batch bytes → IsTrue (is_record (effects.Now moment)) → Spans bytes at (number moment) behind → now bytes at ≡ Ok (effects.Now moment, behind)
unfolding now
now_again bytes at moment behind b is s =
    let f0 = number_exact.again bytes at moment behind b is s in
    rw f0 refl

-- ---- a new consumer, whose name is that of its configuration

record Config (name bytes : Bytes) (at : ℕ) (config : ConsumerConfig) (behind : ℕ) : Type 0 where
  valid : IsTrue (is_consumer_config config)
  named : is_named name config ≡ true
  there : Spans bytes at (long (consumer_text config)) behind

config_took : (name bytes : Bytes) (begin at : ℕ) (read config : ConsumerConfig) (mid behind : ℕ) → IsTrue (is_consumer_config read) × Spans bytes at (long (consumer_text read)) mid → Passed (is_named name) read mid config behind → Config name bytes at config behind
config_took name bytes begin at read config mid behind q t = record {
  valid = subst (λ (c : ConsumerConfig). IsTrue (is_consumer_config c)) t.value q.0;
  named = t.may_be;
  there = subst (λ (k : ℕ). Spans bytes at (long (consumer_text config)) k) t.place (subst (λ (c : ConsumerConfig). Spans bytes at (long (consumer_text c)) mid) t.value q.1);
}

pub make_consumer_took : TakesChange make_consumer 7
unfolding make_consumer spelled spelled_record
make_consumer_took bytes at e behind b within eq =
    let p0 = both bytes (λ (name : Bytes). number_field >>= λ made. consumer_field >>= λ config. only (is_named name) at config >>= λ config. cursor_field >>= λ cursor. numbers_field >>= λ picks. done (effects.MakeConsumer name made config cursor picks)) (name_field bytes at) e behind eq in
    let q0 = name_exact.took bytes at p0.value p0.mid b p0.first in
    let p1 = both bytes (λ (made : ℕ). consumer_field >>= λ config. only (is_named p0.value) at config >>= λ config. cursor_field >>= λ cursor. numbers_field >>= λ picks. done (effects.MakeConsumer p0.value made config cursor picks)) (number_field bytes p0.mid) e behind p0.second in
    let q1 = number_exact.took bytes p0.mid p1.value p1.mid b p1.first in
    let p2 = both bytes (λ (config : ConsumerConfig). only (is_named p0.value) at config >>= λ config. cursor_field >>= λ cursor. numbers_field >>= λ picks. done (effects.MakeConsumer p0.value p1.value config cursor picks)) (consumer_field bytes p1.mid) e behind p1.second in
    let q2 = consumer_exact.took bytes p1.mid p2.value p2.mid b p2.first in
    let p3 = both bytes (λ (config : ConsumerConfig). cursor_field >>= λ cursor. numbers_field >>= λ picks. done (effects.MakeConsumer p0.value p1.value config cursor picks)) (only (is_named p0.value) at p2.value bytes p2.mid) e behind p2.second in
    let q3 = config_took p0.value bytes at p1.mid p2.value p3.value p2.mid p3.mid q2 (passed (is_named p0.value) at p2.value bytes p2.mid p3.value p3.mid p3.first) in
    let p4 = both bytes (λ (cursor : ℕ). numbers_field >>= λ picks. done (effects.MakeConsumer p0.value p1.value p3.value cursor picks)) (cursor_field bytes p3.mid) e behind p3.second in
    let q4 = cursor_exact.took bytes p3.mid p4.value p4.mid b p4.first in
    let p5 = both bytes (λ (picks : List ℕ). done (effects.MakeConsumer p0.value p1.value p3.value p4.value picks)) (numbers_field bytes p4.mid) e behind p4.second in
    let q5 = numbers_exact.took bytes p4.mid p5.value p5.mid b p5.first in
    let start = span_then bytes p3.mid (number p4.value) p4.mid (numbers p5.value) p5.mid q4.1 q5.1 in
    let back = span_then bytes p1.mid (long (consumer_text p3.value)) p3.mid (number p4.value ++ numbers p5.value) p5.mid q3.there start in
    let more = span_then bytes p0.mid (number p1.value) p1.mid (long (consumer_text p3.value) ++ (number p4.value ++ numbers p5.value)) p5.mid q1.1 back in
    let made : TakenChange bytes at 7 (effects.MakeConsumer p0.value p1.value p3.value p4.value p5.value) p5.mid = record {
      allowed = and_from _ _ (and_from _ _ (and_from _ _ (and_from _ _ (and_from _ _ (and_from _ _ q0.0 q1.0) q3.valid) q3.named) q4.0) q5.0) refl;
      fields = short p0.value ++ (number p1.value ++ (long (consumer_text p3.value) ++ (number p4.value ++ numbers p5.value)));
      there = span_then bytes at (short p0.value) p0.mid (number p1.value ++ (long (consumer_text p3.value) ++ (number p4.value ++ numbers p5.value))) p5.mid q0.1 more;
      spelled_is = refl;
    } in
    change_at bytes at 7 (effects.MakeConsumer p0.value p1.value p3.value p4.value p5.value) p5.mid e behind made p5.second

pub make_consumer_again : (bytes : Bytes) (at : ℕ) (name : Bytes) (made : ℕ) (config : ConsumerConfig) (cursor : ℕ) (picks : List ℕ) (behind : ℕ) → Batch bytes → IsTrue (is_record (effects.MakeConsumer name made config cursor picks)) → Spans bytes at (short name ++ (number made ++ (long (consumer_text config) ++ (number cursor ++ numbers picks)))) behind → make_consumer bytes at ≡ Ok (effects.MakeConsumer name made config cursor picks, behind)
unfolding make_consumer
make_consumer_again bytes at name made config cursor picks behind b is s =
    let a5 = and_parts _ _ is in
    let a4 = and_parts _ _ a5.0 in
    let a3 = and_parts _ _ a4.0 in
    let a2 = and_parts _ _ a3.0 in
    let a1 = and_parts _ _ a2.0 in
    let at1 : ℕ = at + length (short name) in
    let s0 = span_front bytes at (short name) (number made ++ (long (consumer_text config) ++ (number cursor ++ numbers picks))) behind s in
    let r0 = span_back bytes at (short name) (number made ++ (long (consumer_text config) ++ (number cursor ++ numbers picks))) behind s in
    let f0 = name_exact.again bytes at name at1 b a1.0 s0 in
    let at2 : ℕ = at1 + length (number made) in
    let s1 = span_front bytes at1 (number made) (long (consumer_text config) ++ (number cursor ++ numbers picks)) behind r0 in
    let r1 = span_back bytes at1 (number made) (long (consumer_text config) ++ (number cursor ++ numbers picks)) behind r0 in
    let f1 = number_exact.again bytes at1 made at2 b a1.1 s1 in
    let at3 : ℕ = at2 + length (long (consumer_text config)) in
    let s2 = span_front bytes at2 (long (consumer_text config)) (number cursor ++ numbers picks) behind r1 in
    let r2 = span_back bytes at2 (long (consumer_text config)) (number cursor ++ numbers picks) behind r1 in
    let f2 = consumer_exact.again bytes at2 config at3 b a2.1 s2 in
    let at4 : ℕ = at3 + length (number cursor) in
    let s3 = span_front bytes at3 (number cursor) (numbers picks) behind r2 in
    let r3 = span_back bytes at3 (number cursor) (numbers picks) behind r2 in
    let f3 = cursor_exact.again bytes at3 cursor at4 b a4.1 s3 in
    let f4 = numbers_exact.again bytes at4 picks behind b a5.1 r3 in
    rw (f0, f1, f2, a3.1, f3, f4) refl

-- ---- where a message was stored

pub put_took : Takes put 14
unfolding put spelled_record
put_took bytes at r behind b within eq =
    let p0 = both bytes (λ (seq : ℕ). number_field >>= λ at. text_field >>= λ id. spot_field >>= λ spot. done (records.Put seq at id spot)) (number_field bytes at) r behind eq in
    let q0 = number_exact.took bytes at p0.value p0.mid b p0.first in
    let p1 = both bytes (λ (at : ℕ). text_field >>= λ id. spot_field >>= λ spot. done (records.Put p0.value at id spot)) (number_field bytes p0.mid) r behind p0.second in
    let q1 = number_exact.took bytes p0.mid p1.value p1.mid b p1.first in
    let p2 = both bytes (λ (id : Bytes). spot_field >>= λ spot. done (records.Put p0.value p1.value id spot)) (text_field bytes p1.mid) r behind p1.second in
    let q2 = text_exact.took bytes p1.mid p2.value p2.mid b p2.first in
    let p3 = both bytes (λ (spot : Spot). done (records.Put p0.value p1.value p2.value spot)) (spot_field bytes p2.mid) r behind p2.second in
    let q3 = spot_exact.took bytes p2.mid p3.value p3.mid b p3.first in
    let back = span_then bytes p1.mid (text p2.value) p2.mid (spelled_spot p3.value) p3.mid q2.1 q3.1 in
    let more = span_then bytes p0.mid (number p1.value) p1.mid (text p2.value ++ spelled_spot p3.value) p3.mid q1.1 back in
    let made : Taken bytes at 14 (records.Put p0.value p1.value p2.value p3.value) p3.mid = record {
      allowed = and_from _ _ (and_from _ _ (and_from _ _ q0.0 q1.0) q2.0) q3.0;
      fields = number p0.value ++ (number p1.value ++ (text p2.value ++ spelled_spot p3.value));
      there = span_then bytes at (number p0.value) p0.mid (number p1.value ++ (text p2.value ++ spelled_spot p3.value)) p3.mid q0.1 more;
      spelled_is = refl;
    } in
    taken_at bytes at 14 (records.Put p0.value p1.value p2.value p3.value) p3.mid r behind made p3.second

pub put_again : (bytes : Bytes) (at : ℕ) (seq : ℕ) (moment : ℕ) (id : Bytes) (spot : Spot) (behind : ℕ) → Batch bytes → IsTrue (may_stand (records.Put seq moment id spot)) → Spans bytes at (number seq ++ (number moment ++ (text id ++ spelled_spot spot))) behind → put bytes at ≡ Ok (records.Put seq moment id spot, behind)
unfolding put
put_again bytes at seq moment id spot behind b is s =
    let a3 = and_parts _ _ is in
    let a2 = and_parts _ _ a3.0 in
    let a1 = and_parts _ _ a2.0 in
    let at1 : ℕ = at + length (number seq) in
    let s0 = span_front bytes at (number seq) (number moment ++ (text id ++ spelled_spot spot)) behind s in
    let r0 = span_back bytes at (number seq) (number moment ++ (text id ++ spelled_spot spot)) behind s in
    let f0 = number_exact.again bytes at seq at1 b a1.0 s0 in
    let at2 : ℕ = at1 + length (number moment) in
    let s1 = span_front bytes at1 (number moment) (text id ++ spelled_spot spot) behind r0 in
    let r1 = span_back bytes at1 (number moment) (text id ++ spelled_spot spot) behind r0 in
    let f1 = number_exact.again bytes at1 moment at2 b a1.1 s1 in
    let at3 : ℕ = at2 + length (text id) in
    let s2 = span_front bytes at2 (text id) (spelled_spot spot) behind r1 in
    let r2 = span_back bytes at2 (text id) (spelled_spot spot) behind r1 in
    let f2 = text_exact.again bytes at2 id at3 b a2.1 s2 in
    let f3 = spot_exact.again bytes at3 spot behind b a3.1 r2 in
    rw (f0, f1, f2, f3) refl
