-- A snapshot is read exactly where it is spelled.
use Rattle.std.proofs.Common.{◌≡◌, ℕ, ◌+◌, ◌<◌, ◌^◌, Bool, true, false, ◌==◌, List, [], ◌∷◌, ◌++◌, length, Option, Some, None, Ok, Err, IsTrue, refl, sym, ap, subst, ◌∙◌, append_assoc, if◌then◌else◌, arith}
use Rattle.std.specs.Int.{w8, to_be_bytes}
use Rattle.std.specs.Option.{option_to_list}
use Rattle.std.proofs.lemmas.Bool.{and_parts, and_from}
use Rattle.js_base.specs.Bytes.{Bytes}
use Rattle.js_model.specs.Configs.{is_stream_config}
use Rattle.js_model.specs.declared.consumer.Consumer.{Consumer}
use Rattle.js_model.specs.declared.stream.Id.{Id}
use Rattle.js_model.specs.declared.stream_config.StreamConfig.{StreamConfig}
use Rattle.config_texts.specs.Texts.{stream_text}
use Rattle.op_records.specs.Allowed.{is_list}
use Rattle.op_records.specs.Fields.{word, number_field, list_field, stream_field}
use Rattle.op_records.specs.Reading.{is_later_kind, misplaced, at_end}
use Rattle.op_records.specs.Spelling.{number, long, spelled_list, spelled_vacant}
use Rattle.op_records.specs.Steps.{Reading, continued}
use Rattle.op_records.specs.declared.fault.RecordFault.TheVariants.{BadKind, BadField}
use Rattle.op_records.proofs.Spans.{Spans, span_then, span_back}
use Rattle.op_records.proofs.Steps.{Both, both, value_is, place_is}
use Rattle.op_records.proofs.Exact.{Batch, Exact, wide8, word_took}
use Rattle.op_records.proofs.FieldsExact.{number_exact}
use Rattle.op_records.proofs.ListsExact.{list_exact}
use Rattle.op_records.proofs.TextsExact.{stream_exact}
use Rattle.op_records.proofs.RecordsExact.{same_kind, byte_is, kind_again, batch_of, whole_of, span_whole, ended, at_its_end}
use Rattle.block_table.specs.declared.block.Block.{Block}
use Rattle.state_snapshot.specs.Allowed.{is_message, is_block, is_id, is_consumer, is_body, is_snapshot}
use Rattle.state_snapshot.specs.Laws.{LawSnapshot}
use Rattle.state_snapshot.specs.Reading.{message_field, block_field, id_field, consumer_state_field, none_or_one, writing_field, body_field, vacant_snapshot, live_snapshot, snapshot_of_kind, snapshot_record, snapshot_field}
use Rattle.state_snapshot.specs.Spelling.{spelled_message, spelled_block, spelled_id, spelled_consumer, spelled_stored, spelled_body, spelled_snapshot}
use Rattle.state_snapshot.specs.declared.snapshot.Snapshot.{Snapshot}
use Rattle.state_snapshot.specs.declared.snapshot.SnapshotBody.{SnapshotBody}
use Rattle.state_snapshot.specs.declared.snapshot.StoredMessage.{StoredMessage}
use Rattle.state_snapshot.proofs.Tells.{Tells, Last, last_tells, Then, then_tells, joined, exact_of}
use Rattle.state_snapshot.proofs.EntriesExact.{IsNumber, in_a_row, message_exact, block_exact, id_exact, consumer_state_exact}

-- ---- the block being written

abbrev writing_text : Option Block → Bytes
writing_text o = spelled_list spelled_block (option_to_list o)

abbrev IsWriting : Option Block → Type 0
IsWriting o = IsTrue (is_list is_block (option_to_list o))

blocks_exact : Exact (list_field block_field) (spelled_list spelled_block) (λ ks. IsTrue (is_list is_block ks))
blocks_exact = list_exact block_field spelled_block is_block block_exact

record OneOf (ks : List Block) (at : ℕ) (o : Option Block) (behind : ℕ) : Type 0 where
  list : ks ≡ option_to_list o
  place : at ≡ behind

one_of : (ks : List Block) (begin : ℕ) (bytes : Bytes) (at : ℕ) (o : Option Block) (behind : ℕ) → none_or_one begin ks bytes at ≡ Ok (o, behind) → OneOf ks at o behind
one_of [] begin bytes at o behind e =
    let same : None ≡ o = value_is {A = Option Block} None at o behind e in
    record { list = ap (λ (x : Option Block). option_to_list x) same; place = place_is {A = Option Block} None at o behind e }
one_of (k ∷ []) begin bytes at o behind e =
    let same : Some k ≡ o = value_is {A = Option Block} (Some k) at o behind e in
    record { list = ap (λ (x : Option Block). option_to_list x) same; place = place_is {A = Option Block} (Some k) at o behind e }
one_of (k ∷ l ∷ more) begin bytes at o behind e = absurd (cc)

one_again : (o : Option Block) (begin : ℕ) (bytes : Bytes) (at : ℕ) → none_or_one begin (option_to_list o) bytes at ≡ Ok (o, at)
one_again None begin bytes at = refl
one_again (Some k) begin bytes at = refl

writing_exact : Exact writing_field writing_text IsWriting
unfolding writing_field
writing_exact = record {
  took = λ bytes at o behind b e.
      let p = both bytes (none_or_one at) (list_field block_field bytes at) o behind e in
      let q = blocks_exact.took bytes at p.value p.mid b p.first in
      let r = one_of p.value at bytes p.mid o behind p.second in (
        subst (λ (ks : List Block). IsTrue (is_list is_block ks)) r.list q.0,
        subst (λ (k : ℕ). Spans bytes at (writing_text o) k) r.place (subst (λ (ks : List Block). Spans bytes at (spelled_list spelled_block ks) p.mid) r.list q.1),
      );
  again = λ bytes at o behind b is s.
      let list = blocks_exact.again bytes at (option_to_list o) behind b is s in
      ap (continued bytes (none_or_one at)) list ∙ one_again o at bytes behind;
}

-- ---- a stream

abbrev IsConfig : StreamConfig → Type 0
IsConfig config = IsTrue (is_stream_config config)

abbrev config_text : StreamConfig → Bytes
config_text config = long (stream_text config)

abbrev AreMessages : List StoredMessage → Type 0
AreMessages ms = IsTrue (is_list is_message ms)

abbrev AreBlocks : List Block → Type 0
AreBlocks ks = IsTrue (is_list is_block ks)

abbrev AreIds : List Id → Type 0
AreIds ids = IsTrue (is_list is_id ids)

abbrev AreConsumers : List Consumer → Type 0
AreConsumers cs = IsTrue (is_list is_consumer cs)

abbrev body_of : ℕ → ℕ → ℕ → StreamConfig → List StoredMessage → List Block → Option Block → List Id → List Consumer → SnapshotBody
body_of made moment last config messages older writing ids consumers = record {
  made = made;
  moment = moment;
  last = last;
  config = config;
  messages = messages;
  older = older;
  writing = writing;
  ids = ids;
  consumers = consumers;
}

abbrev AreRest : ℕ → ℕ → ℕ → StreamConfig → SnapshotBody → Bytes → Type 0
AreRest made moment last config =
    Then (spelled_list spelled_message) AreMessages (λ messages.
    Then (spelled_list spelled_block) AreBlocks (λ older.
    Then writing_text IsWriting (λ writing.
    Then (spelled_list spelled_id) AreIds (λ ids.
    Last (spelled_list spelled_consumer) AreConsumers (body_of made moment last config messages older writing ids)))))

abbrev AreBody : SnapshotBody → Bytes → Type 0
AreBody =
    Then number IsNumber (λ made.
    Then number IsNumber (λ moment.
    Then number IsNumber (λ last.
    Then config_text IsConfig (AreRest made moment last))))

-- four parts and another, one behind the other
head_row : (a b c d e : Bytes) → (a ++ (b ++ (c ++ d))) ++ e ≡ a ++ (b ++ (c ++ (d ++ e)))
head_row a b c d e = append_assoc a (b ++ (c ++ d)) e ∙ ap (λ (l : Bytes). a ++ l) (in_a_row b c d e)

-- the text of a body as it is read
abbrev rest_text : SnapshotBody → Bytes
rest_text b = spelled_list spelled_message b.messages ++ (spelled_list spelled_block b.older ++ (writing_text b.writing ++ (spelled_list spelled_id b.ids ++ spelled_list spelled_consumer b.consumers)))

body_row : (b : SnapshotBody) → spelled_body b ≡ number b.made ++ (number b.moment ++ (number b.last ++ (config_text b.config ++ rest_text b)))
unfolding spelled_body
body_row b =
    head_row (number b.made) (number b.moment) (number b.last) (config_text b.config) (spelled_stored b ++ (spelled_list spelled_id b.ids ++ spelled_list spelled_consumer b.consumers))
    ∙ ap (λ (l : Bytes). number b.made ++ (number b.moment ++ (number b.last ++ (config_text b.config ++ l))))
    (in_a_row (spelled_list spelled_message b.messages) (spelled_list spelled_block b.older) (writing_text b.writing) (spelled_list spelled_id b.ids ++ spelled_list spelled_consumer b.consumers))

body_exact : Exact body_field spelled_body (λ b. IsTrue (is_body b))
unfolding body_field
body_exact = exact_of body_field AreBody spelled_body (λ b. IsTrue (is_body b)) tells one back
  where
    tells : Tells body_field AreBody
    tells =
        then_tells number_field number IsNumber _ _ number_exact (λ made.
        then_tells number_field number IsNumber _ _ number_exact (λ moment.
        then_tells number_field number IsNumber _ _ number_exact (λ last.
        then_tells stream_field config_text IsConfig _ _ stream_exact (λ config.
        then_tells (list_field message_field) (spelled_list spelled_message) AreMessages _ _ (list_exact message_field spelled_message is_message message_exact) (λ messages.
        then_tells (list_field block_field) (spelled_list spelled_block) AreBlocks _ _ blocks_exact (λ older.
        then_tells writing_field writing_text IsWriting _ _ writing_exact (λ writing.
        then_tells (list_field id_field) (spelled_list spelled_id) AreIds _ _ (list_exact id_field spelled_id is_id id_exact) (λ ids.
        last_tells (list_field consumer_state_field) (spelled_list spelled_consumer) AreConsumers (body_of made moment last config messages older writing ids)
        (list_exact consumer_state_field spelled_consumer is_consumer consumer_state_exact)))))))))

    one : (b : SnapshotBody) (all : Bytes) → AreBody b all → IsTrue (is_body b) × (all ≡ spelled_body b)
    one b all is =
        let h1 = is.more in
        let h2 = h1.more in
        let h3 = h2.more in
        let m = h3.more in
        let o = m.more in
        let w = o.more in
        let i = w.more in
        let c = i.more in
        let x : SnapshotBody = body_of is.value h1.value h2.value h3.value m.value o.value w.value i.value c.value in
        let head = and_from _ _ (and_from _ _ (and_from _ _ is.fits h1.fits) h2.fits) h3.fits in
        let stored = and_from _ _ (and_from _ _ m.fits o.fits) w.fits in
        let fits : IsTrue (is_body x) = and_from _ _ (and_from _ _ (and_from _ _ head stored) i.fits) c.fits in
        let ids : Bytes = spelled_list spelled_id i.value ++ spelled_list spelled_consumer c.value in
        let blocks : Bytes = spelled_list spelled_block o.value ++ (writing_text w.value ++ ids) in
        let row_i = joined w.rest (spelled_list spelled_id i.value) i.rest (spelled_list spelled_consumer c.value) i.all_is c.all_is in
        let row_w = joined o.rest (writing_text w.value) w.rest ids w.all_is row_i in
        let row_o = joined m.rest (spelled_list spelled_block o.value) o.rest (writing_text w.value ++ ids) o.all_is row_w in
        let row_m = joined h3.rest (spelled_list spelled_message m.value) m.rest blocks m.all_is row_o in
        let row_3 = joined h2.rest (config_text h3.value) h3.rest (rest_text x) h3.all_is row_m in
        let row_2 = joined h1.rest (number h2.value) h2.rest (config_text h3.value ++ rest_text x) h2.all_is row_3 in
        let row_1 = joined is.rest (number h1.value) h1.rest (number h2.value ++ (config_text h3.value ++ rest_text x)) h1.all_is row_2 in
        let row : all ≡ number x.made ++ (number x.moment ++ (number x.last ++ (config_text x.config ++ rest_text x))) =
        joined all (number is.value) is.rest (number h1.value ++ (number h2.value ++ (config_text h3.value ++ rest_text x))) is.all_is row_1 in
        subst (λ (y : SnapshotBody). IsTrue (is_body y) × (all ≡ spelled_body y)) c.made (fits, row ∙ sym (body_row x))

    back : (b : SnapshotBody) → IsTrue (is_body b) → AreBody b (spelled_body b)
    back b is =
        let c3 = and_parts _ _ is in
        let c2 = and_parts _ _ c3.0 in
        let c1 = and_parts _ _ c2.0 in
        let h3 = and_parts _ _ c1.0 in
        let h2 = and_parts _ _ h3.0 in
        let h1 = and_parts _ _ h2.0 in
        let s2 = and_parts _ _ c1.1 in
        let s1 = and_parts _ _ s2.0 in
        let rest : AreRest b.made b.moment b.last b.config b (rest_text b) = record {
          value = b.messages;
          fits = s1.0;
          rest = spelled_list spelled_block b.older ++ (writing_text b.writing ++ (spelled_list spelled_id b.ids ++ spelled_list spelled_consumer b.consumers));
          more = record {
            value = b.older;
            fits = s1.1;
            rest = writing_text b.writing ++ (spelled_list spelled_id b.ids ++ spelled_list spelled_consumer b.consumers);
            more = record {
              value = b.writing;
              fits = s2.1;
              rest = spelled_list spelled_id b.ids ++ spelled_list spelled_consumer b.consumers;
              more = record {
                value = b.ids;
                fits = c2.1;
                rest = spelled_list spelled_consumer b.consumers;
                more = record { value = b.consumers; fits = c3.1; made = refl; all_is = refl };
                all_is = refl;
              };
              all_is = refl;
            };
            all_is = refl;
          };
          all_is = refl;
        } in
        record {
          value = b.made;
          fits = h1.0;
          rest = number b.moment ++ (number b.last ++ (config_text b.config ++ rest_text b));
          more = record {
            value = b.moment;
            fits = h1.1;
            rest = number b.last ++ (config_text b.config ++ rest_text b);
            more = record {
              value = b.last;
              fits = h2.1;
              rest = config_text b.config ++ rest_text b;
              more = record { value = b.config; fits = h3.1; rest = rest_text b; more = rest; all_is = refl };
              all_is = refl;
            };
            all_is = refl;
          };
          all_is = body_row b;
        }

-- ---- a snapshot

abbrev vacant_of : ℕ → Snapshot
vacant_of i = record { incarnation = i; body = None }

abbrev live_of : ℕ → SnapshotBody → Snapshot
live_of i b = record { incarnation = i; body = Some b }

abbrev AreVacant : Snapshot → Bytes → Type 0
AreVacant = Last number IsNumber vacant_of

abbrev AreLive : Snapshot → Bytes → Type 0
AreLive = Then number IsNumber (λ i. Last spelled_body (λ b. IsTrue (is_body b)) (live_of i))

vacant_tells : Tells vacant_snapshot AreVacant
vacant_tells = last_tells number_field number IsNumber vacant_of number_exact

live_tells : Tells live_snapshot AreLive
live_tells = then_tells number_field number IsNumber _ _ number_exact (λ i. last_tells body_field spelled_body (λ b. IsTrue (is_body b)) (live_of i) body_exact)

record Standing (bytes : Bytes) (at : ℕ) (s : Snapshot) (behind : ℕ) : Type 0 where
  allowed : IsTrue (is_snapshot s)
  there : Spans bytes at (spelled_snapshot s) behind

vacant_stands : (bytes : Bytes) (at mid : ℕ) (s : Snapshot) (behind : ℕ) → Batch bytes → Spans bytes at (32 ∷ []) mid → vacant_snapshot bytes mid ≡ Ok (s, behind) → Standing bytes at s behind
unfolding spelled_snapshot spelled_vacant
vacant_stands bytes at mid s behind b kind e =
    let t = vacant_tells.took bytes mid s behind b e in
    let text : Spans bytes mid (number t.is.value) behind = subst (λ (l : Bytes). Spans bytes mid l behind) t.is.all_is t.there in
    let made : Standing bytes at (vacant_of t.is.value) behind = record { allowed = and_from _ _ t.is.fits refl; there = span_then bytes at (32 ∷ []) mid (number t.is.value) behind kind text } in
    subst (λ (x : Snapshot). Standing bytes at x behind) t.is.made made

live_stands : (bytes : Bytes) (at mid : ℕ) (s : Snapshot) (behind : ℕ) → Batch bytes → Spans bytes at (33 ∷ []) mid → live_snapshot bytes mid ≡ Ok (s, behind) → Standing bytes at s behind
unfolding spelled_snapshot
live_stands bytes at mid s behind b kind e =
    let t = live_tells.took bytes mid s behind b e in
    let i = t.is.value in
    let last = t.is.more in
    let fields = joined t.text (number i) t.is.rest (spelled_body last.value) t.is.all_is last.all_is in
    let text : Spans bytes mid (number i ++ spelled_body last.value) behind = subst (λ (l : Bytes). Spans bytes mid l behind) fields t.there in
    let made : Standing bytes at (live_of i last.value) behind = record { allowed = and_from _ _ t.is.fits last.fits; there = span_then bytes at (33 ∷ []) mid (number i ++ spelled_body last.value) behind kind text } in
    subst (λ (x : Snapshot). Standing bytes at x behind) last.made made

no_snapshot : (begin kind : ℕ) (bytes : Bytes) (at : ℕ) (s : Snapshot) (behind : ℕ) → misplaced begin kind bytes at ≡ Ok (s, behind) → Standing bytes begin s behind
no_snapshot begin kind bytes at s behind e = by (is_later_kind kind) e
  where
    by : (later : Bool) → if◌then◌else◌ {A = Reading Snapshot} later (Err (BadField begin)) (Err (BadKind begin)) ≡ Ok (s, behind) → Standing bytes begin s behind
    by true e = absurd (cc)
    by false e = absurd (cc)

snapshot_took : (bytes : Bytes) (at : ℕ) (s : Snapshot) (behind : ℕ) → Batch bytes → snapshot_record bytes at ≡ Ok (s, behind) → Standing bytes at s behind
unfolding snapshot_record
snapshot_took bytes at s behind b e = by (p.value == 32) refl p.second
  where
    p : Both bytes (snapshot_of_kind at) (word w8 bytes at) s behind
    p = both bytes (snapshot_of_kind at) (word w8 bytes at) s behind e

    kind : (p.value < 2 ^ 8) × Spans bytes at (to_be_bytes w8 p.value) p.mid
    kind = word_took w8 (2 ^ 8) wide8 bytes at p.value p.mid b.are_bytes p.first

    first : (k : ℕ) → k ≡ p.value → Spans bytes at (k ∷ []) p.mid
    first k is = subst (λ (n : ℕ). Spans bytes at (n ∷ []) p.mid) (sym is) (subst (λ (l : Bytes). Spans bytes at l p.mid) (byte_is p.value kind.0) kind.1)

    other : (is : Bool) → (p.value == 33) ≡ is → (if is then live_snapshot else misplaced at p.value) bytes p.mid ≡ Ok (s, behind) → Standing bytes at s behind
    other true is e = live_stands bytes at p.mid s behind b (first 33 (same_kind p.value 33 is)) e
    other false is e = no_snapshot at p.value bytes p.mid s behind e

    by : (is : Bool) → (p.value == 32) ≡ is → (if is then vacant_snapshot else (if p.value == 33 then live_snapshot else misplaced at p.value)) bytes p.mid ≡ Ok (s, behind) → Standing bytes at s behind
    by true is e = vacant_stands bytes at p.mid s behind b (first 32 (same_kind p.value 32 is)) e
    by false is e = other (p.value == 33) refl e

snapshot_again : (i : ℕ) (body : Option SnapshotBody) (bytes : Bytes) (at behind : ℕ) → Batch bytes → IsTrue (is_snapshot (record { incarnation = i; body = body }))
    → Spans bytes at (spelled_snapshot (record { incarnation = i; body = body })) behind → snapshot_record bytes at ≡ Ok (record { incarnation = i; body = body }, behind)
unfolding snapshot_record spelled_snapshot spelled_vacant
snapshot_again i None bytes at behind b is s =
    let kind = kind_again bytes at 32 (number i) behind (omega arith) s in
    let fields = vacant_tells.again bytes (at + 1) (vacant_of i) (number i) behind b (record { value = i; fits = (and_parts _ _ is).0; made = refl; all_is = refl }) (span_back bytes at (32 ∷ []) (number i) behind s) in
    ap (continued bytes (snapshot_of_kind at)) kind ∙ fields
snapshot_again i (Some body) bytes at behind b is s =
    let kind = kind_again bytes at 33 (number i ++ spelled_body body) behind (omega arith) s in
    let parts = and_parts _ _ is in
    let text : AreLive (live_of i body) (number i ++ spelled_body body) = record { value = i; fits = parts.0; rest = spelled_body body; more = record { value = body; fits = parts.1; made = refl; all_is = refl }; all_is = refl } in
    let fields = live_tells.again bytes (at + 1) (live_of i body) (number i ++ spelled_body body) behind b text (span_back bytes at (33 ∷ []) (number i ++ spelled_body body) behind s) in
    ap (continued bytes (snapshot_of_kind at)) kind ∙ fields

-- ---- the law

pub law_snapshot : LawSnapshot
unfolding snapshot_field
law_snapshot bytes s is = (
  λ read.
      let p = both bytes at_end (snapshot_record bytes 0) s (length bytes) read in
      let q = ended bytes p.value p.mid s p.second in
      let t = snapshot_took bytes 0 p.value p.mid (batch_of bytes is) p.first in
      let stands : Standing bytes 0 s (length bytes) = subst (λ (k : ℕ). Standing bytes 0 s k) q.place (subst (λ (x : Snapshot). Standing bytes 0 x p.mid) q.value t) in
      record { allowed = stands.allowed; bytes_are = whole_of bytes (spelled_snapshot s) stands.there },
  λ spells.
      let t = snapshot_again s.incarnation s.body bytes 0 (length bytes) (batch_of bytes is) spells.allowed (span_whole bytes (spelled_snapshot s) spells.bytes_are) in
      ap (continued bytes at_end) t ∙ at_its_end bytes s,
)
