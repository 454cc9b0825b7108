-- Which records store a message: one of a publish that is taken and kept, and no other.
use Rattle.std.proofs.Common.{◌≡◌, ◌⊎◌, inl, inr, ℕ, ◌+◌, ◌^◌, ◌==◌, ◌&&◌, not, max, Bool, true, false, cond, List, [], ◌∷◌, ◌++◌, map, Option, None, Some, refl, sym, ap, subst, ◌∙◌}
use Rattle.std.specs.Prelude.{filter}
use Rattle.std.specs.List.{flat_map, list_all, list_any}
use Rattle.std.proofs.lemmas.Bool.{and_from, and_parts, true≢false}
use Rattle.std.proofs.lemmas.List.Folds.{list_all-append}
use Rattle.js_base.specs.Bytes.{Bytes, has}
use Rattle.js_model.specs.declared.ack.AckKind.{AckKind}
use Rattle.js_model.specs.declared.ack.AckKind.TheVariants.{Ack as Acknowledge, Nak, Wpi, Next, Term}
use Rattle.js_model.specs.declared.consumer.Consumer.{Consumer}
use Rattle.js_model.specs.declared.consumer_config.ConsumerConfig.{ConsumerConfig}
use Rattle.js_model.specs.declared.entry.Delivered.{Delivered}
use Rattle.js_model.specs.declared.entry.Delivered.TheVariants.{Sent, TooSmall, Emptied}
use Rattle.js_model.specs.declared.entry.Delivery.{Delivery}
use Rattle.js_model.specs.declared.event.Publish.{Publish}
use Rattle.js_model.specs.declared.event.What.{What}
use Rattle.js_model.specs.declared.event.What.TheVariants.{Make, Change, Drop as DropStream, Publish as PublishIt, Purge, Delete, MakeConsumer, DropConsumer, Ack as AckIt, Pull as PullIt, Tick, StreamInfo as AskStream, MessageGet, ConsumerInfo as AskConsumer, ConsumerNames, ConsumerList}
use Rattle.js_model.specs.declared.reply.Verdict.{Verdict}
use Rattle.js_model.specs.declared.reply.Verdict.TheVariants.{Take, Duplicate as TakenBefore, Refused as RefusedBy}
use Rattle.js_base.specs.declared.out.ApiError.{ApiError}
use Rattle.js_model.specs.declared.stream.Message.{Message}
use Rattle.js_model.specs.declared.stream.State.{State}
use Rattle.js_model.specs.declared.stream.State.TheVariants.{Vacant, Live}
use Rattle.js_model.specs.declared.stream.Stream.{Stream}
use Rattle.js_model.specs.declared.stream_config.StreamConfig.{StreamConfig}
use Rattle.js_model.specs.Advance.{advance, aged, is_spent, young}
use Rattle.js_model.specs.Consumers.{making_checks}
use Rattle.js_model.specs.Events.{message_at, or_no_room, published, purge_list, stream_answer, with_message, without_messages}
use Rattle.js_model.specs.Refusals.{first_refusal}
use Rattle.js_model.specs.Retention.{kept}
use Rattle.js_model.specs.Runs.{messages_of}
use Rattle.js_model.specs.Streams.{by_name, seqs}
use Rattle.js_model.specs.Trim.{trim, trim_count, trim_subjects}
use Rattle.js_model.specs.Verdict.{verdict}
use Rattle.effects.specs.Effects.{ack_effects, acknowledged_effects, change_effects, changes_due, delete_effects, delivery_effects, drop_effects, due_effects, ended_effects, ends_some, event_effects, is_skipped, live_effects, made_effects, make_effects, own_effects, publish_effects, published_skipped, sent_effects, settle_effects, skipped, stream_effects, vacant_effects}
use Rattle.js_model.specs.Acknowledge.{is_no_delivery}
use Rattle.effects.specs.Ranges.{Range, ranges}
use Rattle.effects.specs.TimeEffects.{effects_at, given_up_effects, has_spent_ids, now_effects, removals, remove_of, time_effects}
use Rattle.effects.specs.declared.effect.Effect.{Effect}
use Rattle.effects.specs.declared.effect.Effect.TheVariants as effects
use Rattle.op_records.specs.Allowed.{is_put}
use Rattle.stream_store.specs.Laws.{keeps_placing}

-- they store no message
abbrev pub Plain : List Effect → Type 0
Plain es = list_all (λ e. not (is_put e)) es ≡ true

-- nor do they change where the next one goes
abbrev pub Still : List Effect → Type 0
Still es = list_all keeps_placing es ≡ true

-- ---- lists of them

still_both : (xs ys : List Effect) → Still xs → Still ys → Still (xs ++ ys)
still_both xs ys h k = list_all-append keeps_placing xs ys ∙ and_from (list_all keeps_placing xs) (list_all keeps_placing ys) h k

pub plain_both : (xs ys : List Effect) → Plain xs → Plain ys → Plain (xs ++ ys)
plain_both xs ys h k = list_all-append (λ e. not (is_put e)) xs ys ∙ and_from (list_all (λ e. not (is_put e)) xs) (list_all (λ e. not (is_put e)) ys) h k

still_each : {X : Type 0} (f : X → List Effect) (xs : List X) → ((x : X) → Still (f x)) → Still (flat_map f xs)
still_each f [] each = refl
still_each f (x ∷ xs) each = still_both (f x) (flat_map f xs) (each x) (still_each f xs each)

plain_one : (e : Effect) → keeps_placing e ≡ true → not (is_put e) ≡ true
plain_one (effects.MakeStream incarnation made config) still = refl
plain_one (effects.ChangeStream config) still = refl
plain_one effects.DropStream still = refl
plain_one (effects.PutHere seq at id subject headers payload) still = absurd (true≢false (sym still))
plain_one (effects.Skip seq at id) still = refl
plain_one (effects.Remove low high) still = refl
plain_one (effects.MakeConsumer name made config cursor picks) still = refl
plain_one (effects.DropConsumer name) still = refl
plain_one (effects.Deliver name seq count due dseq) still = refl
plain_one (effects.Acked name low high) still = refl
plain_one (effects.Due name seq due) still = refl
plain_one (effects.GivenUp name moment) still = refl
plain_one (effects.Now moment) still = refl

pub plain_of : (es : List Effect) → Still es → Plain es
plain_of [] still = refl
plain_of (e ∷ es) still =
    let parts = and_parts (keeps_placing e) (list_all keeps_placing es) still in
    and_from (not (is_put e)) _ (plain_one e parts.0) (plain_of es parts.1)

-- ---- what leaves, and passing time

pub still_ranges : (rs : List Range) → Still (map remove_of rs)
still_ranges [] = refl
still_ranges (r ∷ rs) = still_ranges rs

still_removals : (skipped : List ℕ) (before after : List Message) → Still (removals skipped before after)
still_removals skipped before after = still_ranges (ranges (λ n. not (has (seqs after) n)) (filter (λ n. not (has skipped n)) (seqs before)))

still_now : (s : Stream) (moment : ℕ) → Still (now_effects s moment)
still_now s moment = go ((s.moment == moment) && not (has_spent_ids s moment))
  where
    go : (b : Bool) → Still (cond b [] (effects.Now moment ∷ []))
    go true = refl
    go false = refl

still_given_up : (moment : ℕ) (c : Consumer) → Still (given_up_effects moment c)
still_given_up moment c = go (list_any (is_spent moment c) c.pending)
  where
    go : (b : Bool) → Still (cond b (effects.GivenUp c.name moment ∷ []) [])
    go true = refl
    go false = refl

still_at : (s : Stream) (moment : ℕ) → Still (effects_at s moment)
still_at s moment =
    still_both (now_effects s moment) _ (still_now s moment)
    (still_both (removals [] s.messages (young s moment)) _ (still_removals [] s.messages (young s moment))
    (still_each (given_up_effects moment) (aged s moment).consumers (still_given_up moment)))

pub still_time : (s : Stream) (now : ℕ) → Still (time_effects s now)
still_time s now = still_at s (max s.moment now)

pub still_settle : (missing : List ℕ) (state : State) → Still (settle_effects missing state)
still_settle missing (Vacant i) = refl
still_settle missing (Live s) =
    let one = trim_subjects s in
    let two = trim_count one in
    still_both (removals missing s.messages one.messages) _ (still_removals missing s.messages one.messages)
    (still_both (removals missing one.messages two.messages) _ (still_removals missing one.messages two.messages)
    (still_both (removals missing two.messages (trim s).messages) _ (still_removals missing two.messages (trim s).messages)
    (still_removals missing (trim s).messages (kept (trim s)).messages)))

pub plain_time : (s : Stream) (now : ℕ) → Plain (time_effects s now)
plain_time s now = plain_of (time_effects s now) (still_time s now)

pub plain_settle : (missing : List ℕ) (state : State) → Plain (settle_effects missing state)
plain_settle missing state = plain_of (settle_effects missing state) (still_settle missing state)

plain_removals : (before after : List Message) → Plain (removals [] before after)
plain_removals before after = plain_of (removals [] before after) (still_removals [] before after)

-- ---- an event's own

only_if : (b : Bool) (e : Effect) → not (is_put e) ≡ true → Plain (cond b (e ∷ []) [])
only_if true e plain = and_from (not (is_put e)) true plain refl
only_if false e plain = refl

plain_made : (s : Stream) (name : Bytes) (config : ConsumerConfig) (e : Option ApiError) → Plain (made_effects s name config e)
plain_made s name config None = refl
plain_made s name config (Some e) = refl

plain_change : (s : Stream) (config : StreamConfig) (room : Bool) → Plain (change_effects s config room)
plain_change s config true = only_if _ (effects.ChangeStream config) refl
plain_change s config false = refl

plain_make : (s : Stream) (name : Bytes) (config : ConsumerConfig) (update room : Bool) (c : Option Consumer) → Plain (make_effects s name config update room c)
plain_make s name config true room None = refl
plain_make s name config false room None = plain_made s name config (or_no_room room (first_refusal (making_checks s name config)))
plain_make s name config true room (Some c) = refl
plain_make s name config false room (Some c) = refl

plain_drop : (c : Option Consumer) → Plain (drop_effects c)
plain_drop None = refl
plain_drop (Some c) = refl

plain_delete : (s : Stream) (m : Option Message) → Plain (delete_effects s m)
plain_delete s None = refl
plain_delete s (Some m) = plain_removals s.messages (without_messages s (m ∷ [])).messages

plain_ended : (ended : ℕ → Bool) (low high : ℕ) (c : Consumer) → Plain (ended_effects ended low high c)
plain_ended ended low high c = only_if (ends_some ended c) (effects.Acked c.name low high) refl

plain_due : (n due : ℕ) (c : Consumer) → Plain (due_effects n due c)
plain_due n due c = only_if (changes_due n due c) (effects.Due c.name n due) refl

plain_acknowledged : (now n : ℕ) (kind : AckKind) (c : Consumer) → Plain (acknowledged_effects now n kind c)
plain_acknowledged now n Acknowledge c = plain_ended _ _ n c
plain_acknowledged now n (Nak delay) c = plain_due n _ c
plain_acknowledged now n Wpi c = plain_due n _ c
plain_acknowledged now n (Next ask) c = plain_ended _ _ n c
plain_acknowledged now n Term c = plain_ended _ n n c

plain_ack : (s : Stream) (n : ℕ) (kind : AckKind) (c : Option Consumer) → Plain (ack_effects s n kind c)
plain_ack s n kind None = refl
plain_ack s n kind (Some c) = go (is_no_delivery c n)
  where
    go : (b : Bool) → Plain (cond b [] (acknowledged_effects s.moment n kind c))
    go true = refl
    go false = plain_acknowledged s.moment n kind c

plain_stream : (i : ℕ) (config : StreamConfig) (now : ℕ) (room : Bool) → Plain (stream_effects i config now room)
plain_stream i config now true = refl
plain_stream i config now false = refl

plain_vacant : (i : ℕ) (what : What) (now : ℕ) (room : Bool) → Plain (vacant_effects i what now room)
plain_vacant i (Make reply config) now room = go (i + 1 == 2 ^ 62)
  where
    go : (b : Bool) → Plain (cond b [] (stream_effects i config now room))
    go true = refl
    go false = plain_stream i config now room
plain_vacant i (Change reply config) now room = refl
plain_vacant i (DropStream reply) now room = refl
plain_vacant i (PublishIt p) now room = refl
plain_vacant i (Purge reply pattern below keep) now room = refl
plain_vacant i (Delete reply n) now room = refl
plain_vacant i (MakeConsumer reply name config update) now room = refl
plain_vacant i (DropConsumer reply name) now room = refl
plain_vacant i (AckIt reply ack) now room = refl
plain_vacant i (PullIt reply name ask) now room = refl
plain_vacant i Tick now room = refl
plain_vacant i (AskStream reply) now room = refl
plain_vacant i (MessageGet reply by) now room = refl
plain_vacant i (AskConsumer reply name) now room = refl
plain_vacant i (ConsumerNames reply offset) now room = refl
plain_vacant i (ConsumerList reply offset) now room = refl

-- ---- a publish that is taken and kept

abbrev pub put_of : Stream → Publish → Effect
put_of a p = effects.PutHere (a.last + 1) a.moment p.wants.id p.subject p.headers p.payload

-- the records of a publish that is kept
abbrev pub storing : Stream → Publish → List Effect
storing a p = put_of a p ∷ settle_effects [] (Live (with_message a p))

pub record Stores (old : State) (what : What) (now : ℕ) (room : Bool) : Type 0 where
  pub s : Stream
  pub p : Publish
  pub old_is : old ≡ Live s
  pub what_is : what ≡ PublishIt p
  pub taken : verdict (advance s now) p room ≡ Take
  pub kept : is_skipped (advance s now) p ≡ false
  pub records : event_effects old what now room ≡ time_effects s now ++ storing (advance s now) p

abbrev published_effects : Stream → Publish → Verdict → List Effect
published_effects a p v = publish_effects a p v ++ settle_effects (published_skipped a p v) (published a p v).state

module _ (a : Stream) (p : Publish) where
  -- of a message that is dropped at once a log has no more than its sequence
  by_keeping : (b : Bool) → is_skipped a p ≡ b → Plain (published_effects a p Take) ⊎ ((is_skipped a p ≡ false) × (published_effects a p Take ≡ storing a p))
  by_keeping true e = inl (subst Plain (sym (ap (λ (b : Bool). (cond b (effects.Skip (a.last + 1) a.moment p.wants.id) (put_of a p) ∷ []) ++ settle_effects (cond b ((a.last + 1) ∷ []) []) (Live (with_message a p))) e))
      (plain_settle ((a.last + 1) ∷ []) (Live (with_message a p))))
  by_keeping false e = inr (e, ap (λ (b : Bool). (cond b (effects.Skip (a.last + 1) a.moment p.wants.id) (put_of a p) ∷ []) ++ settle_effects (cond b ((a.last + 1) ∷ []) []) (Live (with_message a p))) e)

  by_verdict : (v w : Verdict) → w ≡ v → Plain (published_effects a p w) ⊎ ((w ≡ Take) × (is_skipped a p ≡ false) × (published_effects a p w ≡ storing a p))
  by_verdict (TakenBefore n) w e = inl (subst (λ (u : Verdict). Plain (published_effects a p u)) (sym e) (plain_settle [] (Live a)))
  by_verdict (RefusedBy r) w e = inl (subst (λ (u : Verdict). Plain (published_effects a p u)) (sym e) (plain_settle [] (Live a)))
  by_verdict Take w e = go (by_keeping (is_skipped a p) refl)
    where
      go : Plain (published_effects a p Take) ⊎ ((is_skipped a p ≡ false) × (published_effects a p Take ≡ storing a p)) → Plain (published_effects a p w) ⊎ ((w ≡ Take) × (is_skipped a p ≡ false) × (published_effects a p w ≡ storing a p))
      go (inl plain) = inl (subst (λ (u : Verdict). Plain (published_effects a p u)) (sym e) plain)
      go (inr stored) = inr (e, stored.0, ap (published_effects a p) e ∙ stored.1)

-- ---- events and deliveries

plain_own : (a : Stream) (what : What) (room : Bool) → ((p : Publish) × (what ≡ PublishIt p)) ⊎ Plain (own_effects a what room)
plain_own a (Make reply config) room = inr refl
plain_own a (Change reply config) room = inr (plain_change a config room)
plain_own a (DropStream reply) room = inr refl
plain_own a (PublishIt p) room = inl (p, refl)
plain_own a (Purge reply pattern below keep) room = inr (plain_removals a.messages (without_messages a (purge_list a pattern below keep)).messages)
plain_own a (Delete reply n) room = inr (plain_delete a (message_at a n))
plain_own a (MakeConsumer reply name config update) room = inr (plain_make a name config update room (by_name a.consumers name))
plain_own a (DropConsumer reply name) room = inr (plain_drop (by_name a.consumers name))
plain_own a (AckIt reply ack) room = inr (plain_ack a ack.seq ack.kind (by_name a.consumers ack.consumer))
plain_own a (PullIt reply name ask) room = inr refl
plain_own a Tick room = inr refl
plain_own a (AskStream reply) room = inr refl
plain_own a (MessageGet reply by) room = inr refl
plain_own a (AskConsumer reply name) room = inr refl
plain_own a (ConsumerNames reply offset) room = inr refl
plain_own a (ConsumerList reply offset) room = inr refl

-- an event stores no message, or it is a publish that is taken and kept
pub plain_or_stores : (old : State) (what : What) (now : ℕ) (room : Bool) → Plain (event_effects old what now room) ⊎ Stores old what now room
plain_or_stores (Vacant i) what now room = inl (plain_vacant i what now room)
plain_or_stores (Live s) what now room = go (plain_own a what room)
  where
    a : Stream
    a = advance s now

    timed : (xs : List Effect) → Plain xs → Plain (time_effects s now ++ xs)
    timed xs plain = plain_both (time_effects s now) xs (plain_time s now) plain

    publish : (p : Publish) → Plain (published_effects a p (verdict a p room)) ⊎ ((verdict a p room ≡ Take) × (is_skipped a p ≡ false) × (published_effects a p (verdict a p room) ≡ storing a p))
        → Plain (event_effects (Live s) (PublishIt p) now room) ⊎ Stores (Live s) (PublishIt p) now room
    publish p (inl plain) = inl (timed (published_effects a p (verdict a p room)) plain)
    publish p (inr h) = inr (record { s = s; p = p; old_is = refl; what_is = refl; taken = h.0; kept = h.1; records = ap (λ (l : List Effect). time_effects s now ++ l) h.2 })

    go : ((p : Publish) × (what ≡ PublishIt p)) ⊎ Plain (own_effects a what room) → Plain (event_effects (Live s) what now room) ⊎ Stores (Live s) what now room
    go (inl is) =
        subst (λ (w : What). Plain (event_effects (Live s) w now room) ⊎ Stores (Live s) w now room) (sym is.1)
        (publish is.0 (by_verdict a is.0 (verdict a is.0 room) (verdict a is.0 room) refl))
    go (inr plain) = inl (timed (live_effects a what room) (plain_both (own_effects a what room) _ plain (plain_settle (skipped a what room) (stream_answer a what room).state)))

plain_sent : (s : Stream) (d : Delivered) (c : Option Consumer) → Plain (sent_effects s d c)
plain_sent s d None = refl
plain_sent s (Sent seq count dseq) (Some c) = refl
plain_sent s TooSmall (Some c) = refl
plain_sent s Emptied (Some c) = refl

pub plain_delivery : (old : State) (now : ℕ) (d : Delivery) (new : State) → Plain (delivery_effects old now d new)
plain_delivery (Vacant i) now d new = refl
plain_delivery (Live s) now d new =
    plain_both (time_effects s now) _ (plain_time s now)
    (plain_both (sent_effects (advance s now) d.what (by_name (advance s now).consumers d.consumer)) _ (plain_sent (advance s now) d.what (by_name (advance s now).consumers d.consumer))
    (plain_removals (advance s now).messages (messages_of new)))

pub plain_tick : (old : State) (now : ℕ) (room : Bool) → Plain (event_effects old Tick now room)
plain_tick (Vacant i) now room = refl
plain_tick (Live s) now room = plain_both (time_effects s now) _ (plain_time s now) (plain_settle [] (Live (advance s now)))
