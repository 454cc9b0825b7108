-- The records of an event or of a delivery at a place.
use Rattle.std.proofs.Common.{◌≡◌, ◌≢◌, ◌∙◌, ◌≤◌, ℕ, ◌+◌, ◌^◌, max, length, arith, Bool, true, cond, List, [], ◌∷◌, ◌++◌, append-nil, map, refl, sym, ap, subst}
use Rattle.std.specs.Prelude.{Option, Some, None, option_map, slice_get, unwrap_or}
use Rattle.std.specs.Option.{option_to_list}
use Rattle.std.proofs.lemmas.Bool.{eq-eqb, ne_eqb}
use Rattle.js_base.specs.Bytes.{Bytes}
use Rattle.std.proofs.lemmas.List.{append_assoc}
use Rattle.js_base.specs.Moments.{plus}
use Rattle.js_base.specs.declared.out.Out.{Out}
use Rattle.js_model.specs.declared.stream_config.StreamConfig.{StreamConfig}
use Rattle.js_model.specs.declared.consumer.Consumer.{Consumer}
use Rattle.js_model.specs.declared.entry.Delivered.{Delivered}
use Rattle.js_model.specs.declared.entry.Delivered.TheVariants.{Sent, TooSmall, Emptied}
use Rattle.js_model.specs.declared.entry.Delivery.{Delivery}
use Rattle.js_model.specs.declared.event.What.{What}
use Rattle.js_model.specs.declared.event.What.TheVariants.{Make, Change, Drop as DropStream, Publish as PublishIt, Purge, Delete, MakeConsumer, DropConsumer, Ack as AckIt, Pull as PullIt, Tick, StreamInfo as AskStream, MessageGet, ConsumerInfo as AskConsumer, ConsumerNames, ConsumerList}
use Rattle.js_model.specs.declared.stream.Message.{Message}
use Rattle.js_model.specs.declared.stream.Stream.{Stream}
use Rattle.js_model.specs.declared.stream.State.{State}
use Rattle.js_model.specs.declared.stream.State.TheVariants.{Vacant, Live}
use Rattle.js_model.specs.Advance.{advance, advance_outs}
use Rattle.js_model.specs.Consumers.{empty_stream}
use Rattle.js_model.specs.Events.{kept_incarnation, settled}
use Rattle.js_model.specs.Retention.{kept}
use Rattle.js_model.specs.StateMoments.{state_at}
use Rattle.js_model.specs.Streams.{by_name, only, with_consumer}
use Rattle.js_model.specs.Trim.{trim}
use Rattle.js_model.specs.Lists.{IsPart, none}
use Rattle.js_model.proofs.Parts.{filter_part, part-length, part_trans, trim_part, young_part}
use Rattle.effects.specs.declared.effect.Effect.{Effect}
use Rattle.effects.specs.declared.effect.Effect.TheVariants.{MakeStream, DropStream as StreamDropped}
use Rattle.effects.specs.Effects.{delivery_effects, event_effects, sent_effects, settle_effects, vacant_effects}
use Rattle.effects.specs.TimeEffects.{remove_of, removals, time_effects}
use Rattle.removals.specs.Leaving.{leaving}
use Rattle.stream_state.specs.Removing.{HasRoomForOne}
use Rattle.stream_state.specs.Serving.{Serves}
use Rattle.memory_place.specs.Answers.{DeliversSome}
use Rattle.js_model.proofs.Named.{found_named, some_is}
use Rattle.place_records.specs.declared.made.OwnRecords.{OwnRecords}
use Rattle.place_records.specs.Records.{own_in, IsFreshOwn}
use Rattle.removals.specs.Removed.{Removed}
use Rattle.place_engine.specs.InMemory.{left_of}
use Rattle.place_engine.specs.Places.{IsVacant}
use Rattle.memory_place.specs.Recording.{asking_effects, asking_effects_in, own_then, HasOwnRoom, passing_effects, sent_effect, TellsLeft}
use Rattle.memory_place.proofs.Recorded.{effect_in, none_in}

-- ---- events

-- time's, and what was asked once time had come
pub event_told : (room : Bool) (old mid : State) (what : What) (now : ℕ) (time own : List Effect) → mid ≡ state_at old now → time ≡ passing_effects old now → own ≡ asking_effects_in room mid what now → time ++ own ≡ event_effects old what now room
event_told room old mid what now time own passed of_time asked =
    ap (λ (es : List Effect). es ++ own) of_time ∙ ap (λ (es : List Effect). passing_effects old now ++ es) (asked ∙ ap (λ (m : State). asking_effects_in room m what now) passed) ∙ go old
  where
    go : (o : State) → passing_effects o now ++ asking_effects_in room (state_at o now) what now ≡ event_effects o what now room
    go (Vacant i) = refl
    go (Live s) = refl

-- those of a tick, if there is a stream
pub left_told : (old mid : State) (now : ℕ) (time own : List Effect) → mid ≡ state_at old now → time ≡ passing_effects old now → own ≡ settle_effects [] mid → TellsLeft (left_of mid) old now (time ++ own)
left_told old mid now time own passed of_time asked =
    subst (λ (es : List Effect). TellsLeft (left_of mid) old now es) (sym (ap (λ (es : List Effect). es ++ own) of_time ∙ ap (λ (es : List Effect). passing_effects old now ++ es) (asked ∙ ap (settle_effects []) passed)))
    (subst (λ (m : State). TellsLeft (left_of m) old now (passing_effects old now ++ settle_effects [] (state_at old now))) (sym passed) (go old))
  where
    go : (o : State) → TellsLeft (left_of (state_at o now)) o now (passing_effects o now ++ settle_effects [] (state_at o now))
    go (Vacant i) = refl
    go (Live s) = refl

-- ---- deliveries

pub sends : (s : Stream) (what : Delivered) (c : Consumer) → option_to_list (sent_effect c.name what (plus s.moment c.config.ack_wait)) ≡ sent_effects s what (Some c)
sends s (Sent seq count dseq) c = refl
sends s TooSmall c = refl
sends s Emptied c = refl

-- what was sent, and what the retention lets go of then
pub delivery_told : (s t u : Stream) (now : ℕ) (d : Delivery) (old own : OwnRecords) (after : Consumer) (time all : List Effect) → IsFreshOwn old → own.removed ≡ old.removed
    → option_to_list own.effect ≡ sent_effects (advance s now) d.what (by_name (advance s now).consumers d.consumer) → t ≡ with_consumer (advance s now) after → trim t ≡ t → u ≡ settled t
    → time ≡ time_effects s now → all ≡ own_then own t → time ++ all ≡ delivery_effects (Live s) now d (Live u)
delivery_told s t u now d old own after time all fresh same sent served within left of_time told =
    ap (λ (es : List Effect). es ++ all) of_time
    ∙ ap (λ (es : List Effect). time_effects s now ++ es)
    (told
    ∙ ap (λ (r : Removed). (option_to_list own.effect ++ map remove_of r.ranges) ++ map remove_of (leaving r.below t.messages (kept t).messages)) same
    ∙ ap (λ rs. (option_to_list own.effect ++ map remove_of rs) ++ map remove_of (leaving old.removed.below t.messages (kept t).messages)) fresh.none_removed
    ∙ ap (λ (below : Option ℕ). (option_to_list own.effect ++ []) ++ map remove_of (leaving below t.messages (kept t).messages)) fresh.noted
    ∙ ap (λ (es : List Effect). es ++ map remove_of (leaving None t.messages (kept t).messages)) (append-nil (option_to_list own.effect) ∙ sent)
    ∙ ap (λ (v : Stream). sent_effects (advance s now) d.what (by_name (advance s now).consumers d.consumer) ++ removals [] t.messages v.messages) (sym (left ∙ ap kept within))
    ∙ ap (λ (v : Stream). sent_effects (advance s now) d.what (by_name (advance s now).consumers d.consumer) ++ removals [] v.messages u.messages) served)

-- ---- no stream

none_asked : (i : ℕ) (what : What) (now : ℕ) → ((subject : Option Bytes) (config : StreamConfig) → what ≢ Make subject config) → vacant_effects i what now true ≡ []
none_asked i (Make subject config) now other = absurd (other subject config refl)
none_asked i (Change subject config) now other = refl
none_asked i (DropStream subject) now other = refl
none_asked i (PublishIt p) now other = refl
none_asked i (Purge subject pattern below keep) now other = refl
none_asked i (Delete subject seq) now other = refl
none_asked i (MakeConsumer subject name config update) now other = refl
none_asked i (DropConsumer subject name) now other = refl
none_asked i (AckIt subject ack) now other = refl
none_asked i (PullIt subject consumer ask) now other = refl
none_asked i Tick now other = refl
none_asked i (AskStream subject) now other = refl
none_asked i (MessageGet subject by) now other = refl
none_asked i (AskConsumer subject name) now other = refl
none_asked i (ConsumerNames subject offset) now other = refl
none_asked i (ConsumerList subject offset) now other = refl

-- all but the making of a stream
pub vacant_told : (old : State) (what : What) (now : ℕ) (own : OwnRecords) → IsVacant old → ((subject : Option Bytes) (config : StreamConfig) → what ≢ Make subject config) → IsFreshOwn own
    → own_in own ≡ asking_effects old what now
vacant_told (Vacant i) what now own vacant other fresh = none_in own fresh ∙ sym (none_asked i what now other)
vacant_told (Live s) what now own vacant other fresh = absurd vacant

-- the numbers are used up
pub used_told : (old : State) (subject : Option Bytes) (config : StreamConfig) (now : ℕ) (own : OwnRecords) → IsVacant old → kept_incarnation old ≡ 2 ^ 62 → IsFreshOwn own
    → own_in own ≡ asking_effects old (Make subject config) now
used_told (Vacant i) subject config now own vacant used fresh =
    none_in own fresh ∙ sym (ap (λ (b : Bool). cond b [] (MakeStream (i + 1) now config ∷ [])) (eq-eqb (i + 1) (2 ^ 62) used))
used_told (Live s) subject config now own vacant used fresh = absurd vacant

-- a stream is made
pub made_told : (old : State) (subject : Option Bytes) (config : StreamConfig) (now incarnation : ℕ) (own last : OwnRecords) → IsVacant old → incarnation ≡ kept_incarnation old → incarnation ≢ 2 ^ 62
    → IsFreshOwn own → last ≡ record own { effect = Some (MakeStream incarnation now config) } → own_in last ≡ asking_effects old (Make subject config) now
made_told (Vacant i) subject config now incarnation own last vacant next free fresh recorded =
    effect_in own last (Some (MakeStream incarnation now config)) fresh recorded
    ∙ ap (λ (n : ℕ). MakeStream n now config ∷ []) next
    ∙ sym (ap (λ (b : Bool). cond b [] (MakeStream (i + 1) now config ∷ [])) (ne_eqb (i + 1) (2 ^ 62) (λ used. free (next ∙ used))))
made_told (Live s) subject config now incarnation own last vacant next free fresh recorded = absurd vacant

-- it is empty, and nothing of it goes
pub settled_empty : (incarnation : ℕ) (config : StreamConfig) (now : ℕ) → settled (empty_stream incarnation config now) ≡ empty_stream incarnation config now
unfolding kept trim
settled_empty incarnation config now =
    ap (λ (messages : List Message). only (empty_stream incarnation config now) messages)
    (no_part_is (part_trans (filter_part _ (trim (empty_stream incarnation config now)).messages) (trim_part (empty_stream incarnation config now))))
  where
    no_part_is : {messages : List Message} → IsPart messages [] → messages ≡ []
    no_part_is none = refl

pub settled_made : (s : Stream) (incarnation : ℕ) (config : StreamConfig) (now : ℕ) → s ≡ empty_stream incarnation config now → s ≡ settled s
settled_made s incarnation config now made = made ∙ sym (ap settled made ∙ settled_empty incarnation config now)

-- it is dropped
pub dropped_told : (s : Stream) (subject : Option Bytes) (now : ℕ) (own last : OwnRecords) → IsFreshOwn own → last ≡ record own { effect = Some StreamDropped } → own_in last ≡ asking_effects (Live s) (DropStream subject) now
dropped_told s subject now own last fresh recorded = effect_in own last (Some StreamDropped) fresh recorded

-- ---- memory

-- passing time only removes messages
fewer_then : (s : Stream) (now : ℕ) → length (advance s now).messages ≤ length s.messages
unfolding advance
fewer_then s now = part-length (young_part s (max s.moment now))

pub room_left : (s : Stream) (now : ℕ) (own : OwnRecords) → HasRoomForOne s own.removed → HasRoomForOne (advance s now) own.removed
room_left s now own room =
    let fewer : length (advance s now).messages ≤ length s.messages = fewer_then s now in
    let h : length s.messages + 1 ≤ own.removed.spare = room in
    let k : length (advance s now).messages + 1 ≤ own.removed.spare = omega (arith, fewer, h) in k

pub room_then : (old mid : State) (now : ℕ) (own : OwnRecords) → mid ≡ state_at old now → HasOwnRoom old own → HasOwnRoom mid own
room_then old mid now own passed room = subst (λ (m : State). HasOwnRoom m own) (sym passed) (go old room)
  where
    go : (o : State) → HasOwnRoom o own → HasOwnRoom (state_at o now) own
    go (Vacant i) r = tt
    go (Live s) r = room_left s now own r

-- ---- a delivery

-- it is the one that was made to the consumer at a place
pub serves_told : (s : Stream) (place : ℕ) (listening : List Bytes) (made : Delivery) (outs_old outs_new : List Out) (new : Stream) (name : Bytes) (wait : ℕ) → Serves s place listening made outs_old outs_new new
    → option_map (λ c. c.name) (slice_get s.consumers place) ≡ Some name → wait ≡ unwrap_or (option_map (λ c. c.config.ack_wait) (by_name s.consumers name)) 0
    → option_to_list (sent_effect name made.what (plus s.moment wait)) ≡ sent_effects s made.what (by_name s.consumers made.consumer)
serves_told s place listening made outs_old outs_new new name wait h at waits =
    ap (λ (n : Bytes). option_to_list (sent_effect n made.what (plus s.moment wait))) (sym named)
    ∙ ap (λ (n : ℕ). option_to_list (sent_effect h.consumer.name made.what (plus s.moment n)))
    (waits ∙ ap (λ (o : Option Consumer). unwrap_or (option_map (λ (c : Consumer). c.config.ack_wait) o) 0) (ap (by_name s.consumers) (sym named ∙ found_named s.consumers made.consumer h.consumer h.found) ∙ h.found))
    ∙ sends s made.what h.consumer
    ∙ ap (sent_effects s made.what) (sym h.found)
  where
    named : h.consumer.name ≡ name
    named = some_is (ap (option_map (λ (c : Consumer). c.name)) (sym h.at) ∙ at)

pub serves_messages : (s : Stream) (place : ℕ) (listening : List Bytes) (made : Delivery) (outs_old outs_new : List Out) (new : Stream) → Serves s place listening made outs_old outs_new new → new.messages ≡ s.messages
serves_messages s place listening made outs_old outs_new new h = ap (λ (t : Stream). t.messages) h.new_is

-- and the machine's, once time has passed and the retention has let go
pub serves_delivered : (s a t u : Stream) (now place : ℕ) (listening : List Bytes) (made : Delivery) (outs_old outs_mid outs_new : List Out) → a ≡ advance s now → outs_mid ≡ outs_old ++ advance_outs s now
    → Serves a place listening made outs_mid outs_new t → trim t ≡ t → u ≡ settled t → DeliversSome (Live s) now listening made outs_old outs_new (Live u)
serves_delivered s a t u now place listening made outs_old outs_mid outs_new passed sent served within left = go (subst (λ (b : Stream). Serves b place listening made outs_mid outs_new t) passed served)
  where
    go : Serves (advance s now) place listening made outs_mid outs_new t → DeliversSome (Live s) now listening made outs_old outs_new (Live u)
    go h = record {
      sent = advance_outs s now ++ h.own;
      delivered = record {
        consumer = h.consumer;
        after = h.after;
        own = h.own;
        found = h.found;
        delivers = h.delivers;
        outs_are = refl;
        new_is = ap Live (left ∙ ap kept (within ∙ h.new_is));
      };
      outs_are = h.outs_are ∙ ap (λ (outs : List Out). outs ++ h.own) sent ∙ append_assoc outs_old (advance_outs s now) h.own;
    }

-- with its records
pub serves_recorded : (s a t u : Stream) (now place : ℕ) (listening : List Bytes) (made : Delivery) (outs_old outs_new : List Out) (old own : OwnRecords) (time all : List Effect) → a ≡ advance s now
    → Serves a place listening made outs_old outs_new t → IsFreshOwn old → own.removed ≡ old.removed → option_to_list own.effect ≡ sent_effects a made.what (by_name a.consumers made.consumer)
    → trim t ≡ t → u ≡ settled t → time ≡ time_effects s now → all ≡ own_then own t → time ++ all ≡ delivery_effects (Live s) now made (Live u)
serves_recorded s a t u now place listening made outs_old outs_new old own time all passed served fresh same sent within left of_time told =
    delivery_told s t u now made old own served.after time all fresh same
    (subst (λ (b : Stream). option_to_list own.effect ≡ sent_effects b made.what (by_name b.consumers made.consumer)) passed sent)
    (subst (λ (b : Stream). t ≡ with_consumer b served.after) passed served.new_is) within left of_time told
