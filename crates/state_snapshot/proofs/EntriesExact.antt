-- What stands in the lists of a snapshot is read exactly where it is spelled.
use Rattle.std.proofs.Common.{◌≡◌, ℕ, ◌^◌, true, List, [], ◌∷◌, ◌++◌, nat_lt, ◌==◌, IsTrue, refl, sym, ap, subst, ◌∙◌, append_assoc, arith}
use Rattle.std.specs.Int.{w16, w32, to_be_bytes}
use Rattle.std.proofs.lemmas.Bool.{and_parts, and_from}
use Rattle.std.proofs.lemmas.Bool.Decides.{nat_tests}
use Rattle.js_base.specs.Bytes.{Bytes, is_empty}
use Rattle.js_base.specs.declared.spot.Spot.{Spot}
use Rattle.js_model.specs.Configs.{is_name, is_number, is_consumer_config}
use Rattle.js_model.specs.declared.consumer.Consumer.{Consumer}
use Rattle.js_model.specs.declared.consumer.Pending.{Pending}
use Rattle.js_model.specs.declared.consumer.Pull.{Pull}
use Rattle.js_model.specs.declared.consumer_config.ConsumerConfig.{ConsumerConfig}
use Rattle.js_model.specs.declared.stream.Id.{Id}
use Rattle.config_texts.specs.Texts.{consumer_text}
use Rattle.op_records.specs.Allowed.{is_text, is_cursor, is_list, are_picks, is_spot}
use Rattle.op_records.specs.Fields.{word, number_field, cursor_field, list_field, numbers_field, name_field, text_field, consumer_field, spot_field}
use Rattle.op_records.specs.Reading.{is_named}
use Rattle.op_records.specs.Spelling.{number, short, text, long, spelled_list, numbers, spelled_spot}
use Rattle.op_records.proofs.Exact.{Exact, wide16, wide32, word_took, word_again, lt_is, is_lt}
use Rattle.op_records.proofs.FieldsExact.{number_exact, cursor_exact, numbers_exact, name_exact, text_exact, spot_exact}
use Rattle.op_records.proofs.ListsExact.{list_exact}
use Rattle.op_records.proofs.TextsExact.{consumer_exact}
use Rattle.block_table.specs.declared.block.Block.{Block}
use Rattle.state_snapshot.specs.Allowed.{is_message, is_block, is_id, is_pending, is_resting, is_consumer}
use Rattle.state_snapshot.specs.Reading.{message_field, block_field, id_field, pending_field, consumer_from, consumer_state_field}
use Rattle.state_snapshot.specs.Spelling.{spelled_message, spelled_block, spelled_id, spelled_pending, spelled_progress, spelled_consumer}
use Rattle.state_snapshot.specs.declared.snapshot.StoredMessage.{StoredMessage}
use Rattle.state_snapshot.proofs.Tells.{Tells, Last, last_tells, Then, then_tells, joined, place_tells, Tested, tested_tells, exact_of}

abbrev pub IsNumber : ℕ → Type 0
IsNumber n = IsTrue (is_number n)

-- ---- messages

abbrev message_of : ℕ → ℕ → Spot → StoredMessage
message_of seq at spot = record { seq = seq; at = at; spot = spot }

abbrev AreMessage : StoredMessage → Bytes → Type 0
AreMessage = Then number IsNumber (λ seq. Then number IsNumber (λ at. Last spelled_spot (λ s. IsTrue (is_spot s)) (message_of seq at)))

pub message_exact : Exact message_field spelled_message (λ m. IsTrue (is_message m))
unfolding message_field spelled_message
message_exact = exact_of message_field AreMessage spelled_message (λ m. IsTrue (is_message m)) tells one back
  where
    tells : Tells message_field AreMessage
    tells = then_tells number_field number IsNumber _ _ number_exact (λ seq.
        then_tells number_field number IsNumber _ _ number_exact (λ at.
        last_tells spot_field spelled_spot (λ s. IsTrue (is_spot s)) (message_of seq at) spot_exact))

    one : (m : StoredMessage) (all : Bytes) → AreMessage m all → IsTrue (is_message m) × (all ≡ spelled_message m)
    one m all is =
        let last = is.more.more in
        let fits = and_from _ _ (and_from _ _ is.fits is.more.fits) last.fits in
        let rest = joined is.rest (number is.more.value) is.more.rest (spelled_spot last.value) is.more.all_is last.all_is in
        let text : all ≡ spelled_message (message_of is.value is.more.value last.value) = joined all (number is.value) is.rest (number is.more.value ++ spelled_spot last.value) is.all_is rest in
        subst (λ (x : StoredMessage). IsTrue (is_message x) × (all ≡ spelled_message x)) last.made (fits, text)

    back : (m : StoredMessage) → IsTrue (is_message m) → AreMessage m (spelled_message m)
    back m is =
        let a = and_parts _ _ is in
        let b = and_parts _ _ a.0 in
        record {
          value = m.seq;
          fits = b.0;
          rest = number m.at ++ spelled_spot m.spot;
          more = record { value = m.at; fits = b.1; rest = spelled_spot m.spot; more = record { value = m.spot; fits = a.1; made = refl; all_is = refl }; all_is = refl };
          all_is = refl;
        }

-- ---- deliveries that wait

abbrev pending_of : ℕ → ℕ → ℕ → Pending
pending_of seq count due = record { seq = seq; count = count; due = due }

abbrev ArePending : Pending → Bytes → Type 0
ArePending = Then number IsNumber (λ seq. Then number IsNumber (λ count. Last number IsNumber (pending_of seq count)))

pub pending_exact : Exact pending_field spelled_pending (λ p. IsTrue (is_pending p))
unfolding pending_field spelled_pending
pending_exact = exact_of pending_field ArePending spelled_pending (λ p. IsTrue (is_pending p)) tells one back
  where
    tells : Tells pending_field ArePending
    tells = then_tells number_field number IsNumber _ _ number_exact (λ seq.
        then_tells number_field number IsNumber _ _ number_exact (λ count.
        last_tells number_field number IsNumber (pending_of seq count) number_exact))

    one : (p : Pending) (all : Bytes) → ArePending p all → IsTrue (is_pending p) × (all ≡ spelled_pending p)
    one p all is =
        let last = is.more.more in
        let fits = and_from _ _ (and_from _ _ is.fits is.more.fits) last.fits in
        let rest = joined is.rest (number is.more.value) is.more.rest (number last.value) is.more.all_is last.all_is in
        let text : all ≡ spelled_pending (pending_of is.value is.more.value last.value) = joined all (number is.value) is.rest (number is.more.value ++ number last.value) is.all_is rest in
        subst (λ (x : Pending). IsTrue (is_pending x) × (all ≡ spelled_pending x)) last.made (fits, text)

    back : (p : Pending) → IsTrue (is_pending p) → ArePending p (spelled_pending p)
    back p is =
        let a = and_parts _ _ is in
        let b = and_parts _ _ a.0 in
        record {
          value = p.seq;
          fits = b.0;
          rest = number p.count ++ number p.due;
          more = record { value = p.count; fits = b.1; rest = number p.due; more = record { value = p.due; fits = a.1; made = refl; all_is = refl }; all_is = refl };
          all_is = refl;
        }

-- ---- blocks

abbrev Fits16 : ℕ → Type 0
Fits16 n = IsTrue (nat_lt n (2 ^ 16))

abbrev Fits32 : ℕ → Type 0
Fits32 n = IsTrue (nat_lt n (2 ^ 32))

word16_exact : Exact (word w16) (to_be_bytes w16) Fits16
word16_exact = record {
  took = λ bytes at n behind b e. let p = word_took w16 (2 ^ 16) wide16 bytes at n behind b.are_bytes e in (is_lt n (2 ^ 16) p.0, p.1);
  again = λ bytes at n behind b is s. word_again w16 (2 ^ 16) wide16 bytes at n behind (lt_is n (2 ^ 16) is) s;
}

word32_exact : Exact (word w32) (to_be_bytes w32) Fits32
word32_exact = record {
  took = λ bytes at n behind b e. let p = word_took w32 (2 ^ 32) wide32 bytes at n behind b.are_bytes e in (is_lt n (2 ^ 32) p.0, p.1);
  again = λ bytes at n behind b is s. word_again w32 (2 ^ 32) wide32 bytes at n behind (lt_is n (2 ^ 32) is) s;
}

abbrev block_of : ℕ → ℕ → Block
block_of file end = record { file = file; end = end }

abbrev AreBlock : Block → Bytes → Type 0
AreBlock = Then (to_be_bytes w16) Fits16 (λ file. Last (to_be_bytes w32) Fits32 (block_of file))

pub block_exact : Exact block_field spelled_block (λ k. IsTrue (is_block k))
unfolding block_field spelled_block
block_exact = exact_of block_field AreBlock spelled_block (λ k. IsTrue (is_block k)) tells one back
  where
    tells : Tells block_field AreBlock
    tells = then_tells (word w16) (to_be_bytes w16) Fits16 _ _ word16_exact (λ file. last_tells (word w32) (to_be_bytes w32) Fits32 (block_of file) word32_exact)

    one : (k : Block) (all : Bytes) → AreBlock k all → IsTrue (is_block k) × (all ≡ spelled_block k)
    one k all is =
        let fits = and_from _ _ is.fits is.more.fits in
        let text : all ≡ spelled_block (block_of is.value is.more.value) = joined all (to_be_bytes w16 is.value) is.rest (to_be_bytes w32 is.more.value) is.all_is is.more.all_is in
        subst (λ (x : Block). IsTrue (is_block x) × (all ≡ spelled_block x)) is.more.made (fits, text)

    back : (k : Block) → IsTrue (is_block k) → AreBlock k (spelled_block k)
    back k is =
        let a = and_parts _ _ is in
        record { value = k.file; fits = a.0; rest = to_be_bytes w32 k.end; more = record { value = k.end; fits = a.1; made = refl; all_is = refl }; all_is = refl }

-- ---- ids

abbrev IsText : Bytes → Type 0
IsText bytes = IsTrue (is_text bytes)

abbrev id_of : Bytes → ℕ → ℕ → Id
id_of id seq at = record { id = id; seq = seq; at = at }

abbrev AreId : Id → Bytes → Type 0
AreId = Then text IsText (λ id. Then number IsNumber (λ seq. Last number IsNumber (id_of id seq)))

pub id_exact : Exact id_field spelled_id (λ i. IsTrue (is_id i))
unfolding id_field spelled_id
id_exact = exact_of id_field AreId spelled_id (λ i. IsTrue (is_id i)) tells one back
  where
    tells : Tells id_field AreId
    tells = then_tells text_field text IsText _ _ text_exact (λ id.
        then_tells number_field number IsNumber _ _ number_exact (λ seq.
        last_tells number_field number IsNumber (id_of id seq) number_exact))

    one : (i : Id) (all : Bytes) → AreId i all → IsTrue (is_id i) × (all ≡ spelled_id i)
    one i all is =
        let last = is.more.more in
        let fits = and_from _ _ (and_from _ _ is.fits is.more.fits) last.fits in
        let rest = joined is.rest (number is.more.value) is.more.rest (number last.value) is.more.all_is last.all_is in
        let spelled : all ≡ spelled_id (id_of is.value is.more.value last.value) = joined all (text is.value) is.rest (number is.more.value ++ number last.value) is.all_is rest in
        subst (λ (x : Id). IsTrue (is_id x) × (all ≡ spelled_id x)) last.made (fits, spelled)

    back : (i : Id) → IsTrue (is_id i) → AreId i (spelled_id i)
    back i is =
        let a = and_parts _ _ is in
        let b = and_parts _ _ a.0 in
        record {
          value = i.id;
          fits = b.0;
          rest = number i.seq ++ number i.at;
          more = record { value = i.seq; fits = b.1; rest = number i.at; more = record { value = i.at; fits = a.1; made = refl; all_is = refl }; all_is = refl };
          all_is = refl;
        }

-- ---- consumers

abbrev IsName : Bytes → Type 0
IsName name = IsTrue (is_name name)

abbrev IsConfig : ConsumerConfig → Type 0
IsConfig config = IsTrue (is_consumer_config config)

abbrev config_text : ConsumerConfig → Bytes
config_text config = long (consumer_text config)

abbrev IsCursor : ℕ → Type 0
IsCursor n = IsTrue (is_cursor n)

abbrev ArePicks : List ℕ → Type 0
ArePicks picks = IsTrue (are_picks picks)

abbrev AreWaiting : List Pending → Type 0
AreWaiting pending = IsTrue (is_list is_pending pending)

abbrev consumer_of : Bytes → ℕ → ConsumerConfig → ℕ → ℕ → List ℕ → List Pending → List ℕ → Consumer
consumer_of name made config cursor dseq picks pending given_up = record {
  name = name;
  made = made;
  config = config;
  picks = picks;
  cursor = cursor;
  dseq = dseq;
  pending = pending;
  given_up = given_up;
  waiting = [];
  mark = made;
}

abbrev AreProgress : Bytes → ℕ → ConsumerConfig → Consumer → Bytes → Type 0
AreProgress name made config =
    Then number IsCursor (λ cursor.
    Then number IsNumber (λ dseq.
    Then numbers ArePicks (λ picks.
    Then (spelled_list spelled_pending) AreWaiting (λ pending.
    Last numbers ArePicks (consumer_of name made config cursor dseq picks pending)))))

abbrev AreConsumer : Consumer → Bytes → Type 0
AreConsumer =
    Then short IsName (λ name.
    Then number IsNumber (λ made.
    Then config_text IsConfig (λ config.
    Tested (is_named name) config (AreProgress name made config))))

-- the fields of a consumer that rests are all that it has
resting : (c : Consumer) → IsTrue (is_resting c) → consumer_of c.name c.made c.config c.cursor c.dseq c.picks c.pending c.given_up ≡ c
resting c is =
    let parts = and_parts _ _ is in
    ap (rest_of []) (same_mark c.made c.mark parts.1) ∙ ap (λ (w : List Pull). rest_of w c.mark) (none_waits c.waiting parts.0)
  where
    rest_of : List Pull → ℕ → Consumer
    rest_of waiting mark = record c { waiting = waiting; mark = mark }

    same_mark : (a b : ℕ) → (b == a) ≡ true → a ≡ b
    same_mark a b h = grind (arith, nat_tests)

    none_waits : (w : List Pull) → is_empty w ≡ true → [] ≡ w
    none_waits [] h = refl
    none_waits (x ∷ xs) h = absurd (cc)

-- three parts and another, one behind the other
pub in_a_row : (a b c d : Bytes) → (a ++ (b ++ c)) ++ d ≡ a ++ (b ++ (c ++ d))
in_a_row a b c d = append_assoc a (b ++ c) d ∙ ap (λ (l : Bytes). a ++ l) (append_assoc b c d)

pub consumer_state_exact : Exact consumer_state_field spelled_consumer (λ c. IsTrue (is_consumer c))
unfolding consumer_state_field spelled_consumer
consumer_state_exact = exact_of consumer_state_field AreConsumer spelled_consumer (λ c. IsTrue (is_consumer c)) tells one back
  where
    tells : Tells consumer_state_field AreConsumer
    tells =
        place_tells consumer_from AreConsumer (λ begin.
        then_tells name_field short IsName _ _ name_exact (λ name.
        then_tells number_field number IsNumber _ _ number_exact (λ made.
        then_tells consumer_field config_text IsConfig _ _ consumer_exact (λ config.
        tested_tells (is_named name) begin config _ _ (
        then_tells cursor_field number IsCursor _ _ cursor_exact (λ cursor.
        then_tells number_field number IsNumber _ _ number_exact (λ dseq.
        then_tells numbers_field numbers ArePicks _ _ numbers_exact (λ picks.
        then_tells (list_field pending_field) (spelled_list spelled_pending) AreWaiting _ _ (list_exact pending_field spelled_pending is_pending pending_exact) (λ pending.
        last_tells numbers_field numbers ArePicks (consumer_of name made config cursor dseq picks pending) numbers_exact)))))))))

    rests : (made : ℕ) → (made == made) ≡ true
    rests made = grind (arith, nat_tests)

    one : (c : Consumer) (all : Bytes) → AreConsumer c all → IsTrue (is_consumer c) × (all ≡ spelled_consumer c)
    one c all is =
        let a = is.more in
        let b = a.more in
        let t = b.more in
        let p = t.more in
        let q = p.more in
        let r = q.more in
        let s = r.more in
        let last = s.more in
        let x : Consumer = consumer_of is.value a.value b.value p.value q.value r.value s.value last.value in
        let made = and_from _ _ (and_from _ _ (and_from _ _ is.fits a.fits) b.fits) t.may_be in
        let progress = and_from _ _ (and_from _ _ (and_from _ _ (and_from _ _ p.fits q.fits) r.fits) s.fits) last.fits in
        let fits : IsTrue (is_consumer x) = and_from _ _ (and_from _ _ made progress) (rests a.value) in
        let waits : Bytes = spelled_list spelled_pending s.value ++ numbers last.value in
        let row_s = joined r.rest (spelled_list spelled_pending s.value) s.rest (numbers last.value) s.all_is last.all_is in
        let row_r = joined q.rest (numbers r.value) r.rest waits r.all_is row_s in
        let row_q = joined p.rest (number q.value) q.rest (numbers r.value ++ waits) q.all_is row_r in
        let row_p = joined b.rest (number p.value) p.rest (number q.value ++ (numbers r.value ++ waits)) p.all_is row_q in
        let row_b = joined a.rest (config_text b.value) b.rest (spelled_progress x) b.all_is row_p in
        let row_a = joined is.rest (number a.value) a.rest (config_text b.value ++ spelled_progress x) a.all_is row_b in
        let row : all ≡ short x.name ++ (number x.made ++ (config_text x.config ++ spelled_progress x)) = joined all (short is.value) is.rest (number a.value ++ (config_text b.value ++ spelled_progress x)) is.all_is row_a in
        let text : all ≡ spelled_consumer x = row ∙ sym (in_a_row (short x.name) (number x.made) (config_text x.config) (spelled_progress x)) in
        subst (λ (y : Consumer). IsTrue (is_consumer y) × (all ≡ spelled_consumer y)) last.made (fits, text)

    back : (c : Consumer) → IsTrue (is_consumer c) → AreConsumer c (spelled_consumer c)
    back c is =
        let whole = and_parts _ _ is in
        let two = and_parts _ _ whole.0 in
        let m3 = and_parts _ _ two.0 in
        let m2 = and_parts _ _ m3.0 in
        let m1 = and_parts _ _ m2.0 in
        let p4 = and_parts _ _ two.1 in
        let p3 = and_parts _ _ p4.0 in
        let p2 = and_parts _ _ p3.0 in
        let p1 = and_parts _ _ p2.0 in
        let last : Last numbers ArePicks (consumer_of c.name c.made c.config c.cursor c.dseq c.picks c.pending) c (numbers c.given_up) =
        record { value = c.given_up; fits = p4.1; made = resting c whole.1; all_is = refl } in
        let progress : AreProgress c.name c.made c.config c (spelled_progress c) = record {
          value = c.cursor;
          fits = p1.0;
          rest = number c.dseq ++ (numbers c.picks ++ (spelled_list spelled_pending c.pending ++ numbers c.given_up));
          more = record {
            value = c.dseq;
            fits = p1.1;
            rest = numbers c.picks ++ (spelled_list spelled_pending c.pending ++ numbers c.given_up);
            more = record {
              value = c.picks;
              fits = p2.1;
              rest = spelled_list spelled_pending c.pending ++ numbers c.given_up;
              more = record { value = c.pending; fits = p3.1; rest = numbers c.given_up; more = last; all_is = refl };
              all_is = refl;
            };
            all_is = refl;
          };
          all_is = refl;
        } in
        record {
          value = c.name;
          fits = m1.0;
          rest = number c.made ++ (config_text c.config ++ spelled_progress c);
          more = record {
            value = c.made;
            fits = m1.1;
            rest = config_text c.config ++ spelled_progress c;
            more = record { value = c.config; fits = m2.1; rest = spelled_progress c; more = record { may_be = m3.1; more = progress }; all_is = refl };
            all_is = refl;
          };
          all_is = in_a_row (short c.name) (number c.made) (config_text c.config) (spelled_progress c);
        }
