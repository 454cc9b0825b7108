-- No two moments stand one behind the other in what is committed.
use Rattle.std.proofs.Common.{◌≡◌, ℕ, ◌+◌, ◌^◌, ◌==◌, ◌&&◌, not, max, Bool, true, false, cond, List, [], ◌∷◌, ◌++◌, map, Option, None, Some, refl, sym, ap, ◌∙◌, append_assoc}
use Rattle.std.specs.Prelude.{filter}
use Rattle.std.specs.List.{flat_map, list_all, list_any}
use Rattle.std.proofs.lemmas.Bool.{and_from, and_parts, true≢false}
use Rattle.std.proofs.lemmas.List.Folds.{list_all-append}
use Rattle.js_base.specs.Bytes.{Bytes, has}
use Rattle.js_model.specs.declared.ack.AckKind.{AckKind}
use Rattle.js_model.specs.declared.ack.AckKind.TheVariants.{Ack as Acknowledge, Nak, Wpi, Next, Term}
use Rattle.js_model.specs.declared.consumer.Consumer.{Consumer}
use Rattle.js_model.specs.declared.consumer_config.ConsumerConfig.{ConsumerConfig}
use Rattle.js_model.specs.declared.entry.Delivered.{Delivered}
use Rattle.js_model.specs.declared.entry.Delivered.TheVariants.{Sent, TooSmall, Emptied}
use Rattle.js_model.specs.declared.entry.Delivery.{Delivery}
use Rattle.js_model.specs.declared.event.Publish.{Publish}
use Rattle.js_model.specs.declared.event.What.{What}
use Rattle.js_model.specs.declared.event.What.TheVariants.{Make, Change, Drop as DropStream, Publish as PublishIt, Purge, Delete, MakeConsumer, DropConsumer, Ack as AckIt, Pull as PullIt, Tick, StreamInfo as AskStream, MessageGet, ConsumerInfo as AskConsumer, ConsumerNames, ConsumerList}
use Rattle.js_model.specs.declared.reply.Verdict.{Verdict}
use Rattle.js_model.specs.declared.reply.Verdict.TheVariants.{Take, Duplicate as TakenBefore, Refused as RefusedBy}
use Rattle.js_base.specs.declared.out.ApiError.{ApiError}
use Rattle.js_model.specs.declared.stream.Message.{Message}
use Rattle.js_model.specs.declared.stream.State.{State}
use Rattle.js_model.specs.declared.stream.State.TheVariants.{Vacant, Live}
use Rattle.js_model.specs.declared.stream.Stream.{Stream}
use Rattle.js_model.specs.declared.stream_config.StreamConfig.{StreamConfig}
use Rattle.js_model.specs.Advance.{advance, aged, is_spent, young}
use Rattle.js_model.specs.Consumers.{making_checks}
use Rattle.js_model.specs.Events.{message_at, or_no_room, purge_list, stream_answer, without_messages}
use Rattle.js_model.specs.Refusals.{first_refusal}
use Rattle.js_model.specs.Retention.{kept}
use Rattle.js_model.specs.Runs.{messages_of}
use Rattle.js_model.specs.Streams.{by_name, seqs}
use Rattle.js_model.specs.Trim.{trim, trim_count, trim_subjects}
use Rattle.js_model.specs.Verdict.{verdict}
use Rattle.effects.specs.Effects.{ack_effects, acknowledged_effects, change_effects, changes_due, delete_effects, delivery_effects, drop_effects, due_effects, ended_effects, ends_some, event_effects, is_skipped, live_effects, made_effects, make_effects, own_effects, publish_effects, sent_effects, settle_effects, skipped, stream_effects, vacant_effects}
use Rattle.js_model.specs.Acknowledge.{is_no_delivery}
use Rattle.effects.specs.Ranges.{Range, ranges}
use Rattle.effects.specs.TimeEffects.{given_up_effects, has_spent_ids, now_effects, removals, remove_of, time_effects}
use Rattle.effects.specs.declared.effect.Effect.{Effect}
use Rattle.effects.specs.declared.effect.Effect.TheVariants as effects
use Rattle.place_engine.specs.Following.{begins_with_moment, followed, is_now, without_last_moment}
use Rattle.volume_place.specs.Moments.{LawApart, are_apart}
use Rattle.volume_place.specs.Tail.{ends_with_moment}

-- none of them tells a moment
abbrev Timeless : List Effect → Type 0
Timeless es = list_all (λ e. not (is_now e)) es ≡ true

both : (xs ys : List Effect) → Timeless xs → Timeless ys → Timeless (xs ++ ys)
both xs ys h k = list_all-append (λ e. not (is_now e)) xs ys ∙ and_from (list_all (λ e. not (is_now e)) xs) (list_all (λ e. not (is_now e)) ys) h k

each : {X : Type 0} (f : X → List Effect) (xs : List X) → ((x : X) → Timeless (f x)) → Timeless (flat_map f xs)
each f [] all = refl
each f (x ∷ xs) all = both (f x) (flat_map f xs) (all x) (each f xs all)

either : (b : Bool) (xs ys : List Effect) → Timeless xs → Timeless ys → Timeless (cond b xs ys)
either true xs ys h k = h
either false xs ys h k = k

-- ---- what leaves, and what is given up

of_ranges : (rs : List Range) → Timeless (map remove_of rs)
of_ranges [] = refl
of_ranges (r ∷ rs) = of_ranges rs

of_removals : (skipped : List ℕ) (before after : List Message) → Timeless (removals skipped before after)
of_removals skipped before after = of_ranges (ranges (λ n. not (has (seqs after) n)) (filter (λ n. not (has skipped n)) (seqs before)))

of_given_up : (moment : ℕ) (c : Consumer) → Timeless (given_up_effects moment c)
of_given_up moment c = either (list_any (is_spent moment c) c.pending) (effects.GivenUp c.name moment ∷ []) [] refl refl

of_settle : (missing : List ℕ) (state : State) → Timeless (settle_effects missing state)
of_settle missing (Vacant i) = refl
of_settle missing (Live s) =
    let one = trim_subjects s in
    let two = trim_count one in
    both (removals missing s.messages one.messages) _ (of_removals missing s.messages one.messages)
    (both (removals missing one.messages two.messages) _ (of_removals missing one.messages two.messages)
    (both (removals missing two.messages (trim s).messages) _ (of_removals missing two.messages (trim s).messages)
    (of_removals missing (trim s).messages (kept (trim s)).messages)))

-- ---- an event's own

of_publish : (s : Stream) (p : Publish) (v : Verdict) → Timeless (publish_effects s p v)
of_publish s p Take = go (is_skipped s p)
  where
    go : (b : Bool) → Timeless (cond b (effects.Skip (s.last + 1) s.moment p.wants.id) (effects.PutHere (s.last + 1) s.moment p.wants.id p.subject p.headers p.payload) ∷ [])
    go true = refl
    go false = refl
of_publish s p (TakenBefore n) = refl
of_publish s p (RefusedBy e) = refl

of_made : (s : Stream) (name : Bytes) (config : ConsumerConfig) (e : Option ApiError) → Timeless (made_effects s name config e)
of_made s name config None = refl
of_made s name config (Some e) = refl

of_change : (s : Stream) (config : StreamConfig) (room : Bool) → Timeless (change_effects s config room)
of_change s config true = either _ (effects.ChangeStream config ∷ []) [] refl refl
of_change s config false = refl

of_make : (s : Stream) (name : Bytes) (config : ConsumerConfig) (update room : Bool) (c : Option Consumer) → Timeless (make_effects s name config update room c)
of_make s name config true room None = refl
of_make s name config false room None = of_made s name config (or_no_room room (first_refusal (making_checks s name config)))
of_make s name config true room (Some c) = refl
of_make s name config false room (Some c) = refl

of_drop : (c : Option Consumer) → Timeless (drop_effects c)
of_drop None = refl
of_drop (Some c) = refl

of_delete : (s : Stream) (m : Option Message) → Timeless (delete_effects s m)
of_delete s None = refl
of_delete s (Some m) = of_removals [] s.messages (without_messages s (m ∷ [])).messages

of_ended : (ended : ℕ → Bool) (low high : ℕ) (c : Consumer) → Timeless (ended_effects ended low high c)
of_ended ended low high c = either (ends_some ended c) (effects.Acked c.name low high ∷ []) [] refl refl

of_due : (n due : ℕ) (c : Consumer) → Timeless (due_effects n due c)
of_due n due c = either (changes_due n due c) (effects.Due c.name n due ∷ []) [] refl refl

of_acknowledged : (now n : ℕ) (kind : AckKind) (c : Consumer) → Timeless (acknowledged_effects now n kind c)
of_acknowledged now n Acknowledge c = of_ended _ _ n c
of_acknowledged now n (Nak delay) c = of_due n _ c
of_acknowledged now n Wpi c = of_due n _ c
of_acknowledged now n (Next ask) c = of_ended _ _ n c
of_acknowledged now n Term c = of_ended _ n n c

of_ack : (s : Stream) (n : ℕ) (kind : AckKind) (c : Option Consumer) → Timeless (ack_effects s n kind c)
of_ack s n kind None = refl
of_ack s n kind (Some c) = either (is_no_delivery c n) [] (acknowledged_effects s.moment n kind c) refl (of_acknowledged s.moment n kind c)

of_own : (a : Stream) (what : What) (room : Bool) → Timeless (own_effects a what room)
of_own a (Make reply config) room = refl
of_own a (Change reply config) room = of_change a config room
of_own a (DropStream reply) room = refl
of_own a (PublishIt p) room = of_publish a p (verdict a p room)
of_own a (Purge reply pattern below keep) room = of_removals [] a.messages (without_messages a (purge_list a pattern below keep)).messages
of_own a (Delete reply n) room = of_delete a (message_at a n)
of_own a (MakeConsumer reply name config update) room = of_make a name config update room (by_name a.consumers name)
of_own a (DropConsumer reply name) room = of_drop (by_name a.consumers name)
of_own a (AckIt reply ack) room = of_ack a ack.seq ack.kind (by_name a.consumers ack.consumer)
of_own a (PullIt reply name ask) room = refl
of_own a Tick room = refl
of_own a (AskStream reply) room = refl
of_own a (MessageGet reply by) room = refl
of_own a (AskConsumer reply name) room = refl
of_own a (ConsumerNames reply offset) room = refl
of_own a (ConsumerList reply offset) room = refl

of_sent : (s : Stream) (d : Delivered) (c : Option Consumer) → Timeless (sent_effects s d c)
of_sent s d None = refl
of_sent s (Sent seq count dseq) (Some c) = refl
of_sent s TooSmall (Some c) = refl
of_sent s Emptied (Some c) = refl

-- ---- apart

alone : (e : Effect) (es : List Effect) → not (is_now e && begins_with_moment es) ≡ true → are_apart es ≡ true → are_apart (e ∷ es) ≡ true
alone e es h k = and_from (not (is_now e && begins_with_moment es)) (are_apart es) h k

not_first : (e : Effect) (b : Bool) → not (is_now e) ≡ true → not (is_now e && b) ≡ true
not_first e b h = go (is_now e) h
  where
    go : (x : Bool) → not x ≡ true → not (x && b) ≡ true
    go true k = absurd (true≢false (sym k))
    go false k = refl

timeless_apart : (es : List Effect) → Timeless es → are_apart es ≡ true
timeless_apart [] h = refl
timeless_apart (e ∷ es) h =
    let parts = and_parts (not (is_now e)) (list_all (λ e. not (is_now e)) es) h in
    alone e es (not_first e (begins_with_moment es) parts.0) (timeless_apart es parts.1)

begins_timeless : (es : List Effect) → Timeless es → begins_with_moment es ≡ false
begins_timeless [] h = refl
begins_timeless (e ∷ es) h = go (is_now e) (and_parts (not (is_now e)) (list_all (λ e. not (is_now e)) es) h).0
  where
    go : (x : Bool) → not x ≡ true → x ≡ false
    go true k = absurd (true≢false (sym k))
    go false k = refl

-- one moment stands before them at most
after_now : (s : Stream) (moment : ℕ) (es : List Effect) → Timeless es → are_apart (now_effects s moment ++ es) ≡ true
after_now s moment es h = go ((s.moment == moment) && not (has_spent_ids s moment))
  where
    go : (b : Bool) → are_apart (cond b [] (effects.Now moment ∷ []) ++ es) ≡ true
    go true = timeless_apart es h
    go false = alone (effects.Now moment) es (ap not (begins_timeless es h)) (timeless_apart es h)

timed : (s : Stream) (now : ℕ) (es : List Effect) → Timeless es → are_apart (time_effects s now ++ es) ≡ true
timed s now es h =
    let moment = max s.moment now in
    let passed = removals [] s.messages (young s moment) ++ flat_map (given_up_effects moment) (aged s moment).consumers in
    ap are_apart (append_assoc (now_effects s moment) passed es)
    ∙ after_now s moment (passed ++ es)
    (both passed es
    (both (removals [] s.messages (young s moment)) _ (of_removals [] s.messages (young s moment)) (each (given_up_effects moment) (aged s moment).consumers (of_given_up moment)))
    h)

of_stream : (i : ℕ) (config : StreamConfig) (now : ℕ) (room : Bool) → are_apart (stream_effects i config now room) ≡ true
of_stream i config now true = refl
of_stream i config now false = refl

vacant : (i : ℕ) (what : What) (now : ℕ) (room : Bool) → are_apart (vacant_effects i what now room) ≡ true
vacant i (Make reply config) now room = go (i + 1 == 2 ^ 62)
  where
    go : (b : Bool) → are_apart (cond b [] (stream_effects i config now room)) ≡ true
    go true = refl
    go false = of_stream i config now room
vacant i (Change reply config) now room = refl
vacant i (DropStream reply) now room = refl
vacant i (PublishIt p) now room = refl
vacant i (Purge reply pattern below keep) now room = refl
vacant i (Delete reply n) now room = refl
vacant i (MakeConsumer reply name config update) now room = refl
vacant i (DropConsumer reply name) now room = refl
vacant i (AckIt reply ack) now room = refl
vacant i (PullIt reply name ask) now room = refl
vacant i Tick now room = refl
vacant i (AskStream reply) now room = refl
vacant i (MessageGet reply by) now room = refl
vacant i (AskConsumer reply name) now room = refl
vacant i (ConsumerNames reply offset) now room = refl
vacant i (ConsumerList reply offset) now room = refl

events : (old : State) (what : What) (now : ℕ) (room : Bool) → are_apart (event_effects old what now room) ≡ true
events (Vacant i) what now room = vacant i what now room
events (Live s) what now room =
    let a = advance s now in
    timed s now (live_effects a what room) (both (own_effects a what room) _ (of_own a what room) (of_settle (skipped a what room) (stream_answer a what room).state))

deliveries : (old : State) (now : ℕ) (d : Delivery) (new : State) → are_apart (delivery_effects old now d new) ≡ true
deliveries (Vacant i) now d new = refl
deliveries (Live s) now d new =
    let a = advance s now in
    let sent = sent_effects a d.what (by_name a.consumers d.consumer) in
    timed s now (sent ++ removals [] a.messages (messages_of new)) (both sent _ (of_sent a d.what (by_name a.consumers d.consumer)) (of_removals [] a.messages (messages_of new)))

-- ---- a tail with more behind it

-- a tail stays apart before what begins with no moment, or without a moment at its end
joined : (left more : List Effect) → (ends_with_moment left && begins_with_moment more) ≡ false → are_apart left ≡ true → are_apart more ≡ true → are_apart (left ++ more) ≡ true
joined [] more seam h k = k
joined (e ∷ []) more seam h k = alone e more (ap not seam) k
joined (e ∷ f ∷ left) more seam h k =
    let parts = and_parts (not (is_now e && is_now f)) (are_apart (f ∷ left)) h in
    alone e (f ∷ left ++ more) parts.0 (joined (f ∷ left) more seam parts.1 k)

-- the record before a moment is none
cut_ends : (tail : List Effect) → are_apart tail ≡ true → (ends_with_moment (without_last_moment tail) ≡ false) × (are_apart (without_last_moment tail) ≡ true)
cut_ends [] h = (refl, refl)
cut_ends (e ∷ []) h = go (is_now e) refl
  where
    go : (b : Bool) → is_now e ≡ b → (ends_with_moment (cond b [] (e ∷ [])) ≡ false) × (are_apart (cond b [] (e ∷ [])) ≡ true)
    go true is = (refl, refl)
    go false is = (is, ap (λ (b : Bool). not (b && false) && true) is)
cut_ends (e ∷ f ∷ []) h = go (is_now f) refl (and_parts (not (is_now e && is_now f)) (are_apart (f ∷ [])) h).0
  where
    go : (b : Bool) → is_now f ≡ b → not (is_now e && is_now f) ≡ true → (ends_with_moment (e ∷ cond b [] (f ∷ [])) ≡ false) × (are_apart (e ∷ cond b [] (f ∷ [])) ≡ true)
    go true is apart = let no = none (is_now e) (ap (λ (b : Bool). not (is_now e && b)) (sym is) ∙ apart) in (no, ap (λ (b : Bool). not (b && false) && true) no)
      where
        none : (b : Bool) → not (b && true) ≡ true → b ≡ false
        none true k = absurd (true≢false (sym k))
        none false k = refl
    go false is apart = (is, h)
cut_ends (e ∷ f ∷ g ∷ tail) h =
    let parts = and_parts (not (is_now e && is_now f)) (are_apart (f ∷ g ∷ tail)) h in
    let rest = cut_ends (f ∷ g ∷ tail) parts.1 in
    (rest.0, alone e (without_last_moment (f ∷ g ∷ tail)) parts.0 rest.1)

tails : (tail more : List Effect) → are_apart tail ≡ true → are_apart more ≡ true → are_apart (followed tail more) ≡ true
tails tail more h k = go (begins_with_moment more) refl
  where
    none : (x b : Bool) → b ≡ false → (x && b) ≡ false
    none true b e = e
    none false b e = refl

    go : (b : Bool) → begins_with_moment more ≡ b → are_apart (cond b (without_last_moment tail) tail ++ more) ≡ true
    go true is =
        let cut = cut_ends tail h in
        joined (without_last_moment tail) more (ap (λ (b : Bool). b && begins_with_moment more) cut.0) cut.1 k
    go false is = joined tail more (none (ends_with_moment tail) (begins_with_moment more) is) h k

pub law_apart : LawApart
law_apart = record { events = events; deliveries = deliveries; tails = tails }
