-- What a volume holds keeps its form, whatever records are added.
use Rattle.std.proofs.Common.{◌≡◌, ℕ, ◌+◌, ◌^◌, Bool, true, false, cond, ◌&&◌, not, List, [], ◌∷◌, length, map, Option, Some, None, IsTrue, refl, sym, subst, ◌∙◌}
use Rattle.std.specs.Prelude.{All, filter, nat_le, ◌==◌}
use Rattle.std.specs.List.{list_any}
use Rattle.std.proofs.lemmas.Bool.{and_parts, ltb-true, leb-true}
use Rattle.std.proofs.lemmas.List.Elements.{All-nil, All-cons, All-head, All-tail, All-filter, All-push}
use Rattle.js_base.specs.Bytes.{Bytes, same}
use Rattle.js_model.specs.declared.stream_config.StreamConfig.{StreamConfig}
use Rattle.js_model.specs.declared.consumer_config.ConsumerConfig.{ConsumerConfig}
use Rattle.js_model.specs.declared.stream.Message.{Message}
use Rattle.js_model.specs.declared.consumer.Pending.{Pending}
use Rattle.js_model.specs.declared.consumer.Consumer.{Consumer}
use Rattle.js_model.specs.Configs.{is_name, is_number, is_stream_config, is_consumer_config}
use Rattle.js_model.specs.Streams.{by_name, in_place_of}
use Rattle.js_model.specs.Consumers.{with_new}
use Rattle.js_model.specs.Acknowledge.{without, with_due}
use Rattle.js_model.proofs.Named.{in_place_of-names, some_is, none_some}
use Rattle.js_model.proofs.Members.{found_in, all_in}
use Rattle.model_laws.specs.Sound.{AreOrdered}
use Rattle.model_laws.specs.Bounds.{IsNumber, IsWritableMessage}
use Rattle.log_replay.specs.Given as replay
use Rattle.log_replay.proofs.Small.{is_small}
use Rattle.model_laws.proofs.SoundParts.{ordered_map}
use Rattle.model_laws.proofs.NameOrder.{ordered_filter, ordered_with_new, All-with_new}
use Rattle.effects.specs.declared.durable.Body.{Body}
use Rattle.effects.specs.declared.durable.Durable.{Durable}
use Rattle.effects.specs.declared.effect.Effect.{Effect}
use Rattle.effects.specs.declared.effect.Effect.TheVariants.{MakeStream, ChangeStream, DropStream, PutHere, Skip, Remove, MakeConsumer, DropConsumer, Deliver, Acked, Due, GivenUp, Now}
use Rattle.effects.specs.Folding.{live, live_if, fold, fold_in, fold_live, fold_vacant, empty_body, holding, removed, consumer_from, with_made, without_consumer, replaced, is_next, numbered, put, at_moment, delivered, delivered_to, acked, due_at, with_given_up, given_up_by}
use Rattle.effects.specs.Ranges.{is_within}
use Rattle.op_records.specs.Allowed.{is_record, is_text, is_header, fits_block, is_cursor, are_picks}
use Rattle.js_base.specs.Subjects.{is_subject_text}
use Rattle.record_fold.specs.Entries.{IsGiven, AreOrderedOf, AreOrderedIn}
use Rattle.durable_checks.specs.Storable.{IsConfigured, IsFormedBody, IsFormedOf, IsFormed}

-- ---- records as they are allowed

pub given : (e : Effect) → IsTrue (is_record e) → IsGiven e
given (MakeStream incarnation made config) h = tt
given (ChangeStream config) h = tt
given DropStream h = tt
given (PutHere seq at id subject headers payload) h = tt
given (Skip seq at id) h = tt
given (Remove low high) h = tt
given (MakeConsumer name made config cursor picks) h = tt
given (DropConsumer name) h = tt
given (Deliver name seq count due dseq) h =
    let outer = and_parts (is_name name && is_number seq && is_number count && is_number due) (is_number dseq) h in
    let third = and_parts (is_name name && is_number seq && is_number count) (is_number due) outer.0 in
    let second = and_parts (is_name name && is_number seq) (is_number count) third.0 in
    let first = and_parts (is_name name) (is_number seq) second.0 in
    ltb-true seq (2 ^ 62) first.1
given (Acked name low high) h = tt
given (Due name seq due) h = tt
given (GivenUp name moment) h = tt
given (Now moment) h = tt

number_of : (n : ℕ) → is_number n ≡ true → IsNumber n
number_of n h = ltb-true n (2 ^ 62) h

record IsAllowedMessage (m : Message) : Type 0 where
  number : is_number m.seq ≡ true
  written : IsWritableMessage m

allowed_message : (m : Message) (id : Bytes) → IsTrue (is_record (PutHere m.seq m.at id m.subject m.headers m.payload)) → IsAllowedMessage m
allowed_message m id is =
    let last = and_parts (is_number m.seq && is_number m.at && is_text id && is_subject_text m.subject && is_header m.headers) (fits_block m.headers m.payload) is in
    let block = and_parts (is_number m.seq && is_number m.at && is_text id && is_subject_text m.subject) (is_header m.headers) last.0 in
    let addressed = and_parts (is_number m.seq && is_number m.at && is_text id) (is_subject_text m.subject) block.0 in
    let numbers = and_parts (is_number m.seq && is_number m.at) (is_text id) addressed.0 in
    record {
      number = (and_parts (is_number m.seq) (is_number m.at) numbers.0).0;
      written = record { subject = addressed.1; headers = block.1; bytes = leb-true (length m.headers + length m.payload) 1048576 last.1 };
    }

record IsAllowedConsumer (name : Bytes) (config : ConsumerConfig) : Type 0 where
  valid : IsTrue (is_consumer_config config)
  named : IsTrue (same config.name name)

allowed_consumer : (name : Bytes) (made : ℕ) (config : ConsumerConfig) (cursor : ℕ) (picks : List ℕ) → IsTrue (is_record (MakeConsumer name made config cursor picks)) → IsAllowedConsumer name config
allowed_consumer name made config cursor picks is =
    let fourth = and_parts (is_name name && is_number made && is_consumer_config config && same config.name name && is_cursor cursor) (are_picks picks) is in
    let third = and_parts (is_name name && is_number made && is_consumer_config config && same config.name name) (is_cursor cursor) fourth.0 in
    let second = and_parts (is_name name && is_number made && is_consumer_config config) (same config.name name) third.0 in
    let first = and_parts (is_name name && is_number made) (is_consumer_config config) second.0 in
    record { valid = first.1; named = second.1 }

pub replayed : (e : Effect) → IsTrue (is_record e) → replay.IsGiven e
replayed (MakeStream incarnation made config) h =
    let parts = and_parts (is_number incarnation && is_number made) (is_stream_config config) h in
    record { number = number_of incarnation (and_parts (is_number incarnation) (is_number made) parts.0).0; valid = parts.1 }
replayed (ChangeStream config) h = h
replayed DropStream h = tt
replayed (PutHere seq at id subject headers payload) h =
    let message : Message = record { seq = seq; at = at; subject = subject; headers = headers; payload = payload } in
    let a = allowed_message message id h in
    record { number = number_of seq a.number; small = is_small message a.written }
replayed (Skip seq at id) h = number_of seq (and_parts (is_number seq) (is_number at) (and_parts (is_number seq && is_number at) (is_text id) h).0).0
replayed (Remove low high) h = tt
replayed (MakeConsumer name made config cursor picks) h = let a = allowed_consumer name made config cursor picks h in record { valid = a.valid; named = a.named }
replayed (DropConsumer name) h = tt
replayed (Deliver name seq count due dseq) h = tt
replayed (Acked name low high) h = tt
replayed (Due name seq due) h = tt
replayed (GivenUp name moment) h = tt
replayed (Now moment) h = tt

-- ---- parts

record KeepsForm (old new : Body) : Type 0 where
  config : new.config ≡ old.config
  writable : All IsWritableMessage new.messages
  consumers : All IsConfigured new.consumers
  ordered : AreOrdered new.consumers

formed_by : (old new : Body) → IsFormedBody old → KeepsForm old new → IsFormedBody new
formed_by old new f k = record {
  config = subst (λ (c : StreamConfig). IsTrue (is_stream_config c)) (sym k.config) f.config;
  writable = k.writable;
  consumers = k.consumers;
  ordered = k.ordered;
}

configured_map : (f : Consumer → Consumer) → ((c : Consumer) → IsConfigured c → IsConfigured (f c)) → (cs : List Consumer) → All IsConfigured cs → All IsConfigured (map f cs)
configured_map f keeps [] h = All-nil IsConfigured
configured_map f keeps (c ∷ cs) h =
    All-cons IsConfigured (f c) (map f cs) (keeps c (All-head IsConfigured c cs h)) (configured_map f keeps cs (All-tail IsConfigured c cs h))

configured_replaced : (new : Consumer) → IsConfigured new → (cs : List Consumer) → All IsConfigured cs → All IsConfigured (map (in_place_of new) cs)
configured_replaced new h cs all = configured_map (in_place_of new) (λ c k. go (same c.name new.name) c k) cs all
  where
    go : (b : Bool) (c : Consumer) → IsConfigured c → IsConfigured (cond b new c)
    go true c k = h
    go false c k = k

ordered_replaced : (new : Consumer) (cs : List Consumer) → AreOrdered cs → AreOrdered (map (in_place_of new) cs)
ordered_replaced new cs h = ordered_map (in_place_of new) (λ c. (in_place_of-names new).name c) cs h

-- ---- a change of one consumer

-- its name, its configuration, its waiting pulls, its making and its mark stay
record IsLike (c new : Consumer) : Type 0 where
  name : new.name ≡ c.name
  config : new.config ≡ c.config
  waiting : new.waiting ≡ c.waiting
  made : new.made ≡ c.made
  mark : new.mark ≡ c.mark

configured_like : (c new : Consumer) → IsLike c new → IsConfigured c → IsConfigured new
configured_like c new l k = record {
  waiting = l.waiting ∙ k.waiting;
  mark = l.mark ∙ k.mark ∙ sym l.made;
  config = subst (λ (config : ConsumerConfig). IsTrue (is_consumer_config config)) (sym l.config) k.config;
  named = subst (λ (config : ConsumerConfig). IsTrue (same config.name new.name)) (sym l.config) (subst (λ (n : Bytes). IsTrue (same c.config.name n)) (sym l.name) k.named);
}

-- with another one in its place
replaced_forms : (i : ℕ) (b : Body) (name : Bytes) (c made : Consumer) → IsFormedBody b → by_name b.consumers name ≡ Some c → IsLike c made → (new : Durable) → live_if i (replaced b (Some made)) ≡ Some new → IsFormed new
replaced_forms i b name c made f at like new e =
    let was : IsConfigured c = all_in IsConfigured b.consumers f.consumers (found_in (λ d. same d.name name) c b.consumers at).0 in
    let now : IsConfigured made = configured_like c made like was in
    subst IsFormed (some_is e)
    (formed_by b (record b { consumers = map (in_place_of made) b.consumers }) f
    (record { config = refl; writable = f.writable; consumers = configured_replaced made now b.consumers f.consumers; ordered = ordered_replaced made b.consumers f.ordered }))

-- ---- each record

-- if the test passes, this is made
tested_forms : (t : Bool) (made new : Durable) → IsFormed made → cond t (Some made) None ≡ Some new → IsFormed new
tested_forms true made new f h = subst IsFormed (some_is h) f
tested_forms false made new f h = absurd (none_some h)

vacant_forms : (i : ℕ) (e : Effect) → IsTrue (is_record e) → (new : Durable) → fold_vacant i e ≡ Some new → IsFormed new
vacant_forms i (MakeStream incarnation made config) is new h =
    let config_is = (and_parts (is_number incarnation && is_number made) (is_stream_config config) is).1 in
    tested_forms (incarnation == i + 1) (live incarnation (empty_body made config)) new (record { config = config_is; writable = All-nil IsWritableMessage; consumers = All-nil IsConfigured; ordered = tt }) h
vacant_forms i (ChangeStream config) is new h = absurd (none_some h)
vacant_forms i DropStream is new h = absurd (none_some h)
vacant_forms i (PutHere seq at id subject headers payload) is new h = absurd (none_some h)
vacant_forms i (Skip seq at id) is new h = absurd (none_some h)
vacant_forms i (Remove low high) is new h = absurd (none_some h)
vacant_forms i (MakeConsumer name made config cursor picks) is new h = absurd (none_some h)
vacant_forms i (DropConsumer name) is new h = absurd (none_some h)
vacant_forms i (Deliver name seq count due dseq) is new h = absurd (none_some h)
vacant_forms i (Acked name low high) is new h = absurd (none_some h)
vacant_forms i (Due name seq due) is new h = absurd (none_some h)
vacant_forms i (GivenUp name moment) is new h = absurd (none_some h)
vacant_forms i (Now moment) is new h = absurd (none_some h)

kept_whole : (b new : Body) → IsFormedBody b → new.config ≡ b.config → All IsWritableMessage new.messages → new.consumers ≡ b.consumers → IsFormedBody new
kept_whole b new f config writable consumers =
    formed_by b new f (record { config = config; writable = writable; consumers = subst (All IsConfigured) (sym consumers) f.consumers; ordered = subst AreOrdered (sym consumers) f.ordered })

live_forms : (i : ℕ) (b : Body) (e : Effect) → IsFormedBody b → IsTrue (is_record e) → (new : Durable) → fold_live i b e ≡ Some new → IsFormed new
live_forms i b (MakeStream incarnation made config) f is new h = absurd (none_some h)
live_forms i b (ChangeStream config) f is new h =
    subst IsFormed (some_is h) (record { config = is; writable = f.writable; consumers = f.consumers; ordered = f.ordered })
live_forms i b DropStream f is new h = subst IsFormed (some_is h) tt
live_forms i b (PutHere seq at id subject headers payload) f is new h =
    let message : Message = record { seq = seq; at = at; subject = subject; headers = headers; payload = payload } in
    let written = (allowed_message message id is).written in
    tested_forms (is_next seq at b) (live i (put message id b)) new (kept_whole b (put message id b) f refl (All-push IsWritableMessage b.messages message f.writable written) refl) h
live_forms i b (Skip seq at id) f is new h = tested_forms (is_next seq at b) (live i (numbered seq at id b)) new (kept_whole b (numbered seq at id b) f refl f.writable refl) h
live_forms i b (Remove low high) f is new h =
    let passes = λ (n : ℕ). not (is_within low high n) in
    subst IsFormed (some_is h)
    (formed_by b (removed low high b) f (record {
      config = refl;
      writable = All-filter (λ m. passes m.seq) IsWritableMessage b.messages f.writable;
      consumers = configured_map (holding passes) (λ c k. record { config = k.config; named = k.named; waiting = k.waiting; mark = k.mark }) b.consumers f.consumers;
      ordered = ordered_map (holding passes) (λ c. refl) b.consumers f.ordered;
    }))
live_forms i b (MakeConsumer name made config cursor picks) f is new h = go (by_name b.consumers name) refl h
  where
    added : Consumer
    added = consumer_from name made config cursor picks

    configured : IsConfigured added
    configured = let a = allowed_consumer name made config cursor picks is in record { config = a.valid; named = a.named; waiting = refl; mark = refl }

    go : (o : Option Consumer) → by_name b.consumers name ≡ o → live_if i (with_made b added o) ≡ Some new → IsFormed new
    go None at e =
        subst IsFormed (some_is e)
        (formed_by b (record b { consumers = with_new b.consumers added }) f
        (record { config = refl; writable = f.writable; consumers = All-with_new IsConfigured b.consumers added configured f.consumers; ordered = ordered_with_new b.consumers added at f.ordered }))
    go (Some c) at e = absurd (none_some e)
live_forms i b (DropConsumer name) f is new h = go (by_name b.consumers name) h
  where
    go : (o : Option Consumer) → live_if i (without_consumer b o) ≡ Some new → IsFormed new
    go None e = absurd (none_some e)
    go (Some c) e =
        let passes = λ (d : Consumer). not (same d.name c.name) in
        subst IsFormed (some_is e)
        (formed_by b (record b { consumers = filter passes b.consumers }) f
        (record { config = refl; writable = f.writable; consumers = All-filter passes IsConfigured b.consumers f.consumers; ordered = ordered_filter passes b.consumers f.ordered }))
live_forms i b (Deliver name seq count due dseq) f is new h = go (by_name b.consumers name) refl h
  where
    entry : Pending
    entry = record { seq = seq; count = count; due = due }

    by : (c : Consumer) → by_name b.consumers name ≡ Some c → (t : Bool) → live_if i (replaced b (cond t (Some (delivered_to entry dseq c)) None)) ≡ Some new → IsFormed new
    by c at true e = replaced_forms i b name c (delivered_to entry dseq c) f at (record { name = refl; config = refl; waiting = refl; made = refl; mark = refl }) new e
    by c at false e = absurd (none_some e)

    go : (o : Option Consumer) → by_name b.consumers name ≡ o → live_if i (replaced b (delivered entry dseq o)) ≡ Some new → IsFormed new
    go None at e = absurd (none_some e)
    go (Some c) at e = by c at (dseq == c.dseq + 1) e
live_forms i b (Acked name low high) f is new h = go (by_name b.consumers name) refl h
  where
    go : (o : Option Consumer) → by_name b.consumers name ≡ o → live_if i (replaced b (acked low high o)) ≡ Some new → IsFormed new
    go None at e = absurd (none_some e)
    go (Some c) at e = replaced_forms i b name c (without (is_within low high) c) f at (record { name = refl; config = refl; waiting = refl; made = refl; mark = refl }) new e
live_forms i b (Due name seq due) f is new h = go (by_name b.consumers name) refl h
  where
    by : (c : Consumer) → by_name b.consumers name ≡ Some c → (t : Bool) → live_if i (replaced b (cond t (Some (with_due seq due c)) None)) ≡ Some new → IsFormed new
    by c at true e = replaced_forms i b name c (with_due seq due c) f at (record { name = refl; config = refl; waiting = refl; made = refl; mark = refl }) new e
    by c at false e = absurd (none_some e)

    go : (o : Option Consumer) → by_name b.consumers name ≡ o → live_if i (replaced b (due_at seq due o)) ≡ Some new → IsFormed new
    go None at e = absurd (none_some e)
    go (Some c) at e = by c at (list_any (λ p. p.seq == seq) c.pending) e
live_forms i b (GivenUp name moment) f is new h = go (by_name b.consumers name) refl h
  where
    go : (o : Option Consumer) → by_name b.consumers name ≡ o → live_if i (replaced b (given_up_by moment o)) ≡ Some new → IsFormed new
    go None at e = absurd (none_some e)
    go (Some c) at e = replaced_forms i b name c (with_given_up moment c) f at (record { name = refl; config = refl; waiting = refl; made = refl; mark = refl }) new e
live_forms i b (Now moment) f is new h = tested_forms (nat_le b.moment moment) (live i (at_moment moment b)) new (kept_whole b (at_moment moment b) f refl f.writable refl) h

pub stays_formed : (old : Durable) (e : Effect) (new : Durable) → IsFormed old → IsTrue (is_record e) → fold old e ≡ Some new → IsFormed new
stays_formed old e new f is h = go old.body f h
  where
    go : (o : Option Body) → IsFormedOf o → fold_in old.incarnation o e ≡ Some new → IsFormed new
    go None f h = vacant_forms old.incarnation e is new h
    go (Some b) f h = live_forms old.incarnation b e f is new h

-- what is formed is in order
pub in_order : (d : Durable) → IsFormed d → AreOrderedIn d
in_order d f = go d.body f
  where
    go : (o : Option Body) → IsFormedOf o → AreOrderedOf o
    go None f = tt
    go (Some b) f = f.ordered
