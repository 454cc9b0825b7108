-- The records of a commit make of what a log told what its changes make of what the volume holds.
use Rattle.std.proofs.Common.{◌≡◌, ℕ, ◌+◌, ◌==◌, Bool, true, false, cond, not, List, [], ◌∷◌, ◌++◌, Option, Some, None, length, map, option_map, refl, sym, ap, subst, ◌∙◌, arith, length-append}
use Rattle.std.specs.Prelude.{filter, nat_le}
use Rattle.std.specs.List.{flat_map}
use Rattle.std.proofs.lemmas.Bool.{and_parts, eqb-true}
use Rattle.std.proofs.lemmas.List.{append-nil, append_assoc}
use Rattle.js_base.specs.Bytes.{Bytes}
use Rattle.js_base.specs.declared.spot.Spot.{Spot}
use Rattle.js_model.specs.declared.consumer.Consumer.{Consumer}
use Rattle.js_model.specs.declared.stream.Message.{Message}
use Rattle.js_model.specs.Streams.{by_name}
use Rattle.js_model.proofs.Named.{some_is, none_some}
use Rattle.effects.specs.declared.durable.Body.{Body}
use Rattle.effects.specs.declared.durable.Durable.{Durable}
use Rattle.effects.specs.declared.effect.Effect.{Effect}
use Rattle.effects.specs.declared.effect.Effect.TheVariants.{MakeStream, ChangeStream, DropStream, PutHere, Skip, Remove, MakeConsumer, DropConsumer, Deliver, Acked, Due, GivenUp, Now}
use Rattle.effects.specs.Folding.{live, live_if, fold, fold_in, fold_live, fold_vacant, vacant, empty_body, consumer_from, with_made, without_consumer, replaced, is_next, numbered, put as put_message, at_moment, delivered, acked, due_at, given_up_by}
use Rattle.effects.specs.Ranges.{is_within}
use Rattle.op_records.specs.Blocks.{spelled_message}
use Rattle.op_records.specs.Spelling.{spelled_record, spelled_spot}
use Rattle.op_records.specs.declared.record.Record.{Record}
use Rattle.op_records.specs.declared.record.Record.TheVariants.{Put, Change}
use Rattle.block_table.specs.declared.placing.Placing.{Placing}
use Rattle.block_table.specs.Blocks.{Blocks}
use Rattle.block_table.specs.Placings.{place, restarted}
use Rattle.block_writing.specs.Planning.{Planned, message_by, planned, planned_one, with_change, with_put}
use Rattle.block_writing.proofs.Runs.{planned_none}
use Rattle.log_records.specs.Unread.{stored_messages}
use Rattle.stream_store.specs.Committing.{batch_length, no_spot, recorded_at}
use Rattle.stream_store.specs.Holding.{last_of}

-- ---- what a change makes of messages

-- the messages behind it
abbrev pub messages_by : Effect → List Message → List Message
messages_by (MakeStream incarnation made config) ms = []
messages_by (ChangeStream config) ms = ms
messages_by DropStream ms = []
messages_by (PutHere seq at id subject headers payload) ms = ms ++ message_by seq at subject headers payload ∷ []
messages_by (Skip seq at id) ms = ms
messages_by (Remove low high) ms = filter (λ m. not (is_within low high m.seq)) ms
messages_by (MakeConsumer name made config cursor picks) ms = ms
messages_by (DropConsumer name) ms = ms
messages_by (Deliver name seq count due dseq) ms = ms
messages_by (Acked name low high) ms = ms
messages_by (Due name seq due) ms = ms
messages_by (GivenUp name moment) ms = ms
messages_by (Now moment) ms = ms

-- the last sequence before it and behind it
abbrev pub Lasts : Effect → ℕ → ℕ → Type 0
Lasts (MakeStream incarnation made config) old new = new ≡ 0
Lasts (ChangeStream config) old new = new ≡ old
Lasts DropStream old new = new ≡ 0
Lasts (PutHere seq at id subject headers payload) old new = (seq ≡ old + 1) × (new ≡ old + 1)
Lasts (Skip seq at id) old new = new ≡ old + 1
Lasts (Remove low high) old new = new ≡ old
Lasts (MakeConsumer name made config cursor picks) old new = new ≡ old
Lasts (DropConsumer name) old new = new ≡ old
Lasts (Deliver name seq count due dseq) old new = new ≡ old
Lasts (Acked name low high) old new = new ≡ old
Lasts (Due name seq due) old new = new ≡ old
Lasts (GivenUp name moment) old new = new ≡ old
Lasts (Now moment) old new = new ≡ old

-- it makes so of the messages and of the last sequence
pub record Makes (e : Effect) (old new : Durable) : Type 0 where
  pub messages : stored_messages new ≡ messages_by e (stored_messages old)
  pub lasts : Lasts e (last_of old) (last_of new)

tested : (e : Effect) (t : Bool) (old made new : Durable) → (t ≡ true → Makes e old made) → cond t (Some made) None ≡ Some new → Makes e old new
tested e true old made new h is = subst (Makes e old) (some_is is) (h refl)
tested e false old made new h is = absurd (none_some is)

seq_next : (seq at : ℕ) (b : Body) → is_next seq at b ≡ true → seq ≡ b.last + 1
seq_next seq at b is = eqb-true seq (b.last + 1) (and_parts (seq == b.last + 1) (at == b.moment) is).0

-- the consumers are others
others : (e : Effect) (i : ℕ) (b : Body) (o : Option Consumer) (new : Durable) → Makes e (live i b) (live i b) → live_if i (replaced b o) ≡ Some new → Makes e (live i b) new
others e i b None new h is = absurd (none_some is)
others e i b (Some c) new h is = subst (Makes e (live i b)) (some_is is) (record { messages = h.messages; lasts = h.lasts })

vacant_makes : (i : ℕ) (e : Effect) (new : Durable) → fold_vacant i e ≡ Some new → Makes e (vacant i) new
vacant_makes i (MakeStream incarnation made config) new h =
    tested (MakeStream incarnation made config) (incarnation == i + 1) (vacant i) (live incarnation (empty_body made config)) new (λ is. record { messages = refl; lasts = refl }) h
vacant_makes i (ChangeStream config) new h = absurd (none_some h)
vacant_makes i DropStream new h = absurd (none_some h)
vacant_makes i (PutHere seq at id subject headers payload) new h = absurd (none_some h)
vacant_makes i (Skip seq at id) new h = absurd (none_some h)
vacant_makes i (Remove low high) new h = absurd (none_some h)
vacant_makes i (MakeConsumer name made config cursor picks) new h = absurd (none_some h)
vacant_makes i (DropConsumer name) new h = absurd (none_some h)
vacant_makes i (Deliver name seq count due dseq) new h = absurd (none_some h)
vacant_makes i (Acked name low high) new h = absurd (none_some h)
vacant_makes i (Due name seq due) new h = absurd (none_some h)
vacant_makes i (GivenUp name moment) new h = absurd (none_some h)
vacant_makes i (Now moment) new h = absurd (none_some h)

live_makes : (i : ℕ) (b : Body) (e : Effect) (new : Durable) → fold_live i b e ≡ Some new → Makes e (live i b) new
live_makes i b (MakeStream incarnation made config) new h = absurd (none_some h)
live_makes i b (ChangeStream config) new h = subst (Makes (ChangeStream config) (live i b)) (some_is h) (record { messages = refl; lasts = refl })
live_makes i b DropStream new h = subst (Makes DropStream (live i b)) (some_is h) (record { messages = refl; lasts = refl })
live_makes i b (PutHere seq at id subject headers payload) new h =
    tested (PutHere seq at id subject headers payload) (is_next seq at b) (live i b) (live i (put_message (message_by seq at subject headers payload) id b)) new
    (λ is. record { messages = refl; lasts = (seq_next seq at b is, seq_next seq at b is) }) h
live_makes i b (Skip seq at id) new h =
    tested (Skip seq at id) (is_next seq at b) (live i b) (live i (numbered seq at id b)) new (λ is. record { messages = refl; lasts = seq_next seq at b is }) h
live_makes i b (Remove low high) new h = subst (Makes (Remove low high) (live i b)) (some_is h) (record { messages = refl; lasts = refl })
live_makes i b (MakeConsumer name made config cursor picks) new h = go (by_name b.consumers name) h
  where
    go : (o : Option Consumer) → live_if i (with_made b (consumer_from name made config cursor picks) o) ≡ Some new → Makes (MakeConsumer name made config cursor picks) (live i b) new
    go None e = subst (Makes (MakeConsumer name made config cursor picks) (live i b)) (some_is e) (record { messages = refl; lasts = refl })
    go (Some c) e = absurd (none_some e)
live_makes i b (DropConsumer name) new h = go (by_name b.consumers name) h
  where
    go : (o : Option Consumer) → live_if i (without_consumer b o) ≡ Some new → Makes (DropConsumer name) (live i b) new
    go None e = absurd (none_some e)
    go (Some c) e = subst (Makes (DropConsumer name) (live i b)) (some_is e) (record { messages = refl; lasts = refl })
live_makes i b (Deliver name seq count due dseq) new h =
    others (Deliver name seq count due dseq) i b (delivered (record { seq = seq; count = count; due = due }) dseq (by_name b.consumers name)) new (record { messages = refl; lasts = refl }) h
live_makes i b (Acked name low high) new h = others (Acked name low high) i b (acked low high (by_name b.consumers name)) new (record { messages = refl; lasts = refl }) h
live_makes i b (Due name seq due) new h = others (Due name seq due) i b (due_at seq due (by_name b.consumers name)) new (record { messages = refl; lasts = refl }) h
live_makes i b (GivenUp name moment) new h = others (GivenUp name moment) i b (given_up_by moment (by_name b.consumers name)) new (record { messages = refl; lasts = refl }) h
live_makes i b (Now moment) new h = tested (Now moment) (nat_le b.moment moment) (live i b) (live i (at_moment moment b)) new (λ is. record { messages = refl; lasts = refl }) h

pub makes : (d : Durable) (e : Effect) (new : Durable) → fold d e ≡ Some new → Makes e d new
makes d e new h = go d.body h
  where
    go : (o : Option Body) → fold_in d.incarnation o e ≡ Some new → Makes e (record { incarnation = d.incarnation; body = o }) new
    go None h = vacant_makes d.incarnation e new h
    go (Some b) h = live_makes d.incarnation b e new h

-- ---- what a plan has for a change

-- the next message goes to the spot, and behind a change it may go elsewhere
abbrev pub Moves : Blocks → Effect → Placing → Spot → Placing → Type 0
Moves b (MakeStream incarnation made config) p spot q = q ≡ restarted p
Moves b (ChangeStream config) p spot q = q ≡ p
Moves b DropStream p spot q = q ≡ restarted p
Moves b (PutHere seq at id subject headers payload) p spot q = place b (length (spelled_message (message_by seq at subject headers payload))) p ≡ Some (spot, q)
Moves b (Skip seq at id) p spot q = q ≡ p
Moves b (Remove low high) p spot q = q ≡ p
Moves b (MakeConsumer name made config cursor picks) p spot q = q ≡ p
Moves b (DropConsumer name) p spot q = q ≡ p
Moves b (Deliver name seq count due dseq) p spot q = q ≡ p
Moves b (Acked name low high) p spot q = q ≡ p
Moves b (Due name seq due) p spot q = q ≡ p
Moves b (GivenUp name moment) p spot q = q ≡ p
Moves b (Now moment) p spot q = q ≡ p

-- the plan with one change more has its record
pub record IsNext (b : Blocks) (so_far : Planned) (e : Effect) (next : Planned) : Type 0 where
  pub spot : Spot
  pub records : next.records ≡ so_far.records ++ recorded_at spot e ∷ []
  pub moves : Moves b e so_far.placing spot next.placing

changed : (b : Blocks) (so_far : Planned) (e : Effect) (q : Placing) (next : Planned) → recorded_at no_spot e ≡ Change e → Moves b e so_far.placing no_spot q → Some (with_change so_far e q) ≡ Some next → IsNext b so_far e next
changed b so_far e q next is moves h = subst (IsNext b so_far e) (some_is h) (record {
  spot = no_spot;
  records = ap (λ (r : Record). so_far.records ++ r ∷ []) (sym is);
  moves = moves;
})

pub next_of : (b : Blocks) (so_far : Planned) (e : Effect) (next : Planned) → planned_one b so_far e ≡ Some next → IsNext b so_far e next
next_of b so_far (MakeStream incarnation made config) next h = changed b so_far (MakeStream incarnation made config) (restarted so_far.placing) next refl refl h
next_of b so_far (ChangeStream config) next h = changed b so_far (ChangeStream config) so_far.placing next refl refl h
next_of b so_far DropStream next h = changed b so_far DropStream (restarted so_far.placing) next refl refl h
next_of b so_far (PutHere seq at id subject headers payload) next h = go (place b (length (spelled_message m)) so_far.placing) refl h
  where
    m : Message
    m = message_by seq at subject headers payload

    go : (o : Option (Spot × Placing)) → place b (length (spelled_message m)) so_far.placing ≡ o → option_map (with_put so_far id m) o ≡ Some next → IsNext b so_far (PutHere seq at id subject headers payload) next
    go None is e = absurd (none_some e)
    go (Some placed) is e = subst (IsNext b so_far (PutHere seq at id subject headers payload)) (some_is e) (record { spot = placed.0; records = refl; moves = is })
next_of b so_far (Skip seq at id) next h = changed b so_far (Skip seq at id) so_far.placing next refl refl h
next_of b so_far (Remove low high) next h = changed b so_far (Remove low high) so_far.placing next refl refl h
next_of b so_far (MakeConsumer name made config cursor picks) next h = changed b so_far (MakeConsumer name made config cursor picks) so_far.placing next refl refl h
next_of b so_far (DropConsumer name) next h = changed b so_far (DropConsumer name) so_far.placing next refl refl h
next_of b so_far (Deliver name seq count due dseq) next h = changed b so_far (Deliver name seq count due dseq) so_far.placing next refl refl h
next_of b so_far (Acked name low high) next h = changed b so_far (Acked name low high) so_far.placing next refl refl h
next_of b so_far (Due name seq due) next h = changed b so_far (Due name seq due) so_far.placing next refl refl h
next_of b so_far (GivenUp name moment) next h = changed b so_far (GivenUp name moment) so_far.placing next refl refl h
next_of b so_far (Now moment) next h = changed b so_far (Now moment) so_far.placing next refl refl h

-- these are the records of the changes, which are planned one after the other
abbrev pub AreNext : Blocks → List Effect → Placing → List Record → Placing → Type 0
AreNext b [] p rs q = (rs ≡ []) × (q ≡ p)
AreNext b (e ∷ es) p rs q = (spot : Spot) × (mid : Placing) × (more : List Record) × (rs ≡ recorded_at spot e ∷ more) × Moves b e p spot mid × AreNext b es mid more q

-- a plan that goes on has more records
pub record GoesOnBy (b : Blocks) (es : List Effect) (so_far made : Planned) : Type 0 where
  pub more : List Record
  pub records : made.records ≡ so_far.records ++ more
  pub next : AreNext b es so_far.placing more made.placing

pub goes_on_by : (b : Blocks) (es : List Effect) (so_far made : Planned) → planned b es (Some so_far) ≡ Some made → GoesOnBy b es so_far made
goes_on_by b [] so_far made h = record {
  more = [];
  records = sym (ap (λ (x : Planned). x.records) (some_is h)) ∙ sym (append-nil so_far.records);
  next = (refl, sym (ap (λ (x : Planned). x.placing) (some_is h)));
}
goes_on_by b (e ∷ es) so_far made h = go (planned_one b so_far e) refl h (λ next more. goes_on_by b es next made more)
  where
    go : (o : Option Planned) → planned_one b so_far e ≡ o → planned b es o ≡ Some made → ((next : Planned) → planned b es (Some next) ≡ Some made → GoesOnBy b es next made) → GoesOnBy b (e ∷ es) so_far made
    go None is more on = absurd (none_some (sym (planned_none b es) ∙ more))
    go (Some next) is more on =
        let one = next_of b so_far e next is in
        let rest = on next more in
        record {
          more = recorded_at one.spot e ∷ rest.more;
          records = rest.records ∙ ap (λ (l : List Record). l ++ rest.more) one.records ∙ append_assoc so_far.records (recorded_at one.spot e ∷ []) rest.more;
          next = (one.spot, next.placing, rest.more, refl, one.moves, rest.next);
        }

-- ---- how long the records are

put_length : (seq at : ℕ) (id : Bytes) (s t : Spot) → length (spelled_record (Put seq at id s)) ≡ length (spelled_record (Put seq at id t))
unfolding spelled_record
put_length seq at id s t = omega (arith, length-append id (spelled_spot s), length-append id (spelled_spot t))

record_length : (s t : Spot) (e : Effect) → length (spelled_record (recorded_at s e)) ≡ length (spelled_record (recorded_at t e))
record_length s t (MakeStream incarnation made config) = refl
record_length s t (ChangeStream config) = refl
record_length s t DropStream = refl
record_length s t (PutHere seq at id subject headers payload) = put_length seq at id s t
record_length s t (Skip seq at id) = refl
record_length s t (Remove low high) = refl
record_length s t (MakeConsumer name made config cursor picks) = refl
record_length s t (DropConsumer name) = refl
record_length s t (Deliver name seq count due dseq) = refl
record_length s t (Acked name low high) = refl
record_length s t (Due name seq due) = refl
record_length s t (GivenUp name moment) = refl
record_length s t (Now moment) = refl

pub all_length : (b : Blocks) (es : List Effect) (p : Placing) (rs : List Record) (q : Placing) → AreNext b es p rs q → length (flat_map spelled_record rs) ≡ batch_length es
all_length b [] p rs q h = ap (λ (l : List Record). length (flat_map spelled_record l)) h.0
all_length b (e ∷ es) p rs q (spot, mid, more, is, moves, next) =
    let rest = all_length b es mid more q next in
    let this = record_length spot no_spot e in
    ap (λ (l : List Record). length (flat_map spelled_record l)) is
    ∙ omega (arith, rest, this, length-append (spelled_record (recorded_at spot e)) (flat_map spelled_record more), length-append (spelled_record (recorded_at no_spot e)) (flat_map spelled_record (map (recorded_at no_spot) es)))
