-- What the records of an event make of what a place comes to: no more than the event asks for.
use Rattle.std.proofs.Common.{◌≡◌, ℕ, ◌+◌, ◌*◌, ◌^◌, ◌≤◌, ◌⊎◌, inl, inr, Bool, true, false, cond, not, ◌&&◌, List, [], ◌∷◌, ◌++◌, map, length, Option, Some, None, refl, sym, ap, ◌∙◌, subst, arith}
use Rattle.std.specs.Prelude.{⊤, max, filter, ◌==◌, is_some, option_map, sum_by}
use Rattle.std.proofs.lemmas.Bool.{true≢false, ltb-false}
use Rattle.std.proofs.lemmas.List.{length-map}
use Rattle.js_base.specs.Bytes.{Bytes}
use Rattle.js_base.specs.declared.out.ApiError.{ApiError}
use Rattle.config_texts.specs.Texts.{stream_text, consumer_text}
use Rattle.js_model.specs.declared.stream_config.StreamConfig.{StreamConfig}
use Rattle.js_model.specs.declared.consumer_config.ConsumerConfig.{ConsumerConfig}
use Rattle.js_model.specs.declared.consumer_config.DeliverPolicy.{DeliverPolicy}
use Rattle.js_model.specs.declared.consumer_config.DeliverPolicy.TheVariants.{All as FromAll, Last as FromLast, New as FromNew, ByStartSequence, ByStartTime, LastPerSubject}
use Rattle.js_model.specs.declared.consumer.Consumer.{Consumer}
use Rattle.js_model.specs.declared.event.Publish.{Publish}
use Rattle.js_model.specs.declared.event.What.{What}
use Rattle.js_model.specs.declared.event.What.TheVariants.{Make, Change, Drop as DropStream, Publish as PublishIt, Purge, Delete, MakeConsumer, DropConsumer, Ack as AckIt, Pull as PullIt, Tick, StreamInfo as AskStream, MessageGet, ConsumerInfo as AskConsumer, ConsumerNames, ConsumerList}
use Rattle.js_model.specs.declared.reply.Verdict.{Verdict}
use Rattle.js_model.specs.declared.reply.Verdict.TheVariants.{Take, Duplicate as TakenBefore, Refused as RefusedBy}
use Rattle.js_model.specs.declared.stream.Id.{Id}
use Rattle.js_model.specs.declared.stream.Message.{Message}
use Rattle.js_model.specs.declared.stream.Stream.{Stream}
use Rattle.js_model.specs.declared.stream.State.{State}
use Rattle.js_model.specs.declared.stream.State.TheVariants.{Vacant, Live}
use Rattle.js_model.specs.Advance.{advance, aged, consumer_at, young}
use Rattle.js_model.specs.Configs.{same_stream_config, same_retention}
use Rattle.js_model.specs.Consumers.{making_checks}
use Rattle.js_model.specs.Events.{asks_room, message_at, or_no_room, purge_list, stream_answer}
use Rattle.js_model.specs.Lasting.{lasting_consumer}
use Rattle.js_model.specs.Refusals.{Check, first_refusal}
use Rattle.js_model.specs.Start.{cursor_at, picks_at}
use Rattle.js_model.specs.Streams.{by_name, confined, passes_filter, seqs}
use Rattle.js_model.specs.Trim.{newest}
use Rattle.js_model.specs.Verdict.{early_checks, first_of_all, known, late_checks, verdict}
use Rattle.js_model.proofs.Named.{KeepsNames, by_name-map, none_some}
use Rattle.js_model.proofs.Parts.{filter_part, newest_part, part-length, young_part}
use Rattle.model_laws.specs.Sound.{IsSound}
use Rattle.model_laws.proofs.SoundParts.{ordered_map}
use Rattle.effects.specs.declared.durable.Durable.{Durable}
use Rattle.effects.specs.declared.effect.Effect.{Effect}
use Rattle.effects.specs.declared.effect.Effect.TheVariants.{MakeStream, ChangeStream, DropStream as StreamDropped, PutHere, Skip, MakeConsumer as ConsumerMade}
use Rattle.effects.specs.Durables.{durable_of}
use Rattle.effects.specs.Effects.{ack_effects, change_effects, delete_effects, drop_effects, event_effects, delivery_effects, is_skipped, made_effects, make_effects, own_effects, publish_effects, purge_effects, put_effect, settle_effects, skipped, stream_effects, vacant_effects}
use Rattle.effects.specs.Folding.{fold_all}
use Rattle.effects.specs.Laws.{Leads}
use Rattle.effects.specs.TimeEffects.{time_effects}
use Rattle.effects.proofs.Removing.{fold_append}
use Rattle.record_fold.specs.Entries.{AreOrderedIn}
use Rattle.snapshot_bound.specs.Asking.{event_counted, event_fixed, event_growth, most_picked}
use Rattle.snapshot_bound.specs.Bounds.{counted, counted_by, fixed, id_length, most_held, state_counted}
use Rattle.snapshot_bound.specs.Growth.{AreQuiet, consumers_in, messages_in, record_counted, record_fixed}
use Rattle.snapshot_bound.specs.Laws.{LawAsked, LawParts, StateRaises, StateRaisesNothing, if_room}
use Rattle.snapshot_bound.proofs.Growing.{Falls, Grows, all_fall, none_fold, one_grows}
use Rattle.snapshot_bound.proofs.Quiet.{quiet_acked, quiet_deleted, quiet_delivery, quiet_dropped, quiet_purged, quiet_settled, quiet_time}

-- ---- lists of records

-- where there are at most so many messages and consumers, the records raise it by no more than is said
abbrev GrowsBy : (messages consumers part rest : ℕ) → List Effect → Type 0
GrowsBy messages consumers part rest es =
    (old new : Durable) → AreOrderedIn old → messages_in old.body ≤ messages → consumers_in old.body ≤ consumers → fold_all es (Some old) ≡ Some new → Grows part rest old.body new.body

by_quiet : (messages consumers part rest : ℕ) (es : List Effect) → AreQuiet es → GrowsBy messages consumers part rest es
by_quiet messages consumers part rest es q old new o m c h =
    let f = all_fall es old new o q h in
    record { fixed_is = omega (arith, f.fixed_is); counted_is = omega (arith, f.counted_is); ordered = f.ordered }

by_one : (messages consumers part rest : ℕ) (e : Effect) → record_fixed e ≤ part → ((m c : ℕ) → m ≤ messages → c ≤ consumers → record_counted m c e ≤ rest)
    → GrowsBy messages consumers part rest (e ∷ [])
by_one messages consumers part rest e p r old new o m c h =
    let g = one_grows old e o new h in
    record { fixed_is = omega (arith, g.fixed_is, p); counted_is = omega (arith, g.counted_is, r (messages_in old.body) (consumers_in old.body) m c); ordered = g.ordered }

-- the first of them lead to the middle, and the others from there
record Splits (es fs : List Effect) (old new : Durable) : Type 0 where
  middle : Durable
  first : fold_all es (Some old) ≡ Some middle
  others : fold_all fs (Some middle) ≡ Some new

split : (es fs : List Effect) (old new : Durable) → fold_all (es ++ fs) (Some old) ≡ Some new → Splits es fs old new
split es fs old new h = go (fold_all es (Some old)) refl (sym (fold_append es fs (Some old)) ∙ h)
  where
    go : (mid : Option Durable) → fold_all es (Some old) ≡ mid → fold_all fs mid ≡ Some new → Splits es fs old new
    go None w k = absurd (none_fold fs new k)
    go (Some mid) w k = record { middle = mid; first = w; others = k }

then_quiet : (messages consumers part rest : ℕ) (es fs : List Effect) → GrowsBy messages consumers part rest es → AreQuiet fs → GrowsBy messages consumers part rest (es ++ fs)
then_quiet messages consumers part rest es fs g q old new o m c h =
    let at = split es fs old new h in
    let first = g old at.middle o m c at.first in
    let f = all_fall fs at.middle new first.ordered q at.others in
    record { fixed_is = omega (arith, first.fixed_is, f.fixed_is); counted_is = omega (arith, first.counted_is, f.counted_is); ordered = f.ordered }

quiet_then : (messages consumers part rest : ℕ) (es fs : List Effect) → AreQuiet es → GrowsBy messages consumers part rest fs → GrowsBy messages consumers part rest (es ++ fs)
quiet_then messages consumers part rest es fs q g old new o m c h =
    let at = split es fs old new h in
    let f = all_fall es old at.middle o q at.first in
    let next = g at.middle new f.ordered (omega (arith, f.messages_is, m)) (omega (arith, f.consumers_is, c)) at.others in
    record { fixed_is = omega (arith, next.fixed_is, f.fixed_is); counted_is = omega (arith, next.counted_is, f.counted_is); ordered = next.ordered }

-- ---- a stream a moment later

record IsLater (s a : Stream) : Type 0 where
  config : a.config ≡ s.config
  messages : length a.messages ≤ length s.messages
  named : (name : Bytes) → is_some (by_name a.consumers name) ≡ is_some (by_name s.consumers name)

some_map : {X Y : Type 0} (f : X → Y) (found : Option X) → is_some (option_map f found) ≡ is_some found
some_map f None = refl
some_map f (Some x) = refl

some_named : (f : Consumer → Consumer) → KeepsNames f → (cs : List Consumer) (name : Bytes) → is_some (by_name (map f cs) name) ≡ is_some (by_name cs name)
some_named f k cs name = ap is_some (by_name-map f k cs name) ∙ some_map f (by_name cs name)

later : (s : Stream) (now : ℕ) → IsLater s (advance s now)
unfolding advance
later s now = record {
  config = refl;
  messages = part-length (young_part s moment);
  named = λ name. some_named (consumer_at moment) (record { name = λ c. refl }) (aged s moment).consumers name ∙ some_named (confined (seqs (young s moment))) (record { name = λ c. refl }) s.consumers name;
}
  where
    moment : ℕ
    moment = max s.moment now

-- ---- another configuration

changed : (s : Stream) (reply : Option Bytes) (config : StreamConfig) (room : Bool)
    → GrowsBy (length s.messages) (length s.consumers) (if_room room (event_fixed (Live s) (Change reply config))) (if_room room (event_counted (Live s) (Change reply config))) (change_effects s config room)
changed s reply config false = by_quiet (length s.messages) (length s.consumers) 0 0 [] refl
changed s reply config true = go (same_retention config.retention s.config.retention) (same_stream_config config s.config)
  where
    text : ℕ
    text = length (stream_text config)

    go : (may stands : Bool) → GrowsBy (length s.messages) (length s.consumers) (cond stands 0 text) 0 (cond (may && not stands) (ChangeStream config ∷ []) [])
    go true true = by_quiet (length s.messages) (length s.consumers) 0 0 [] refl
    go true false = by_one (length s.messages) (length s.consumers) text 0 (ChangeStream config) (omega arith) (λ m c _ _. omega arith)
    go false true = by_quiet (length s.messages) (length s.consumers) 0 0 [] refl
    go false false = by_quiet (length s.messages) (length s.consumers) text 0 [] refl

changed_later : (s a : Stream) (reply : Option Bytes) (config : StreamConfig) (room : Bool) → IsLater s a
    → GrowsBy (length s.messages) (length s.consumers) (if_room room (event_fixed (Live s) (Change reply config))) (if_room room (event_counted (Live s) (Change reply config))) (change_effects a config room)
changed_later s a reply config room l = subst (λ (es : List Effect). GrowsBy (length s.messages) (length s.consumers) (if_room room (event_fixed (Live s) (Change reply config))) (if_room room (event_counted (Live s) (Change reply config))) es) (sym (same room)) (changed s reply config room)
  where
    by_config : StreamConfig → List Effect
    by_config was = cond (same_retention config.retention was.retention && not (same_stream_config config was)) (ChangeStream config ∷ []) []

    same : (room : Bool) → change_effects a config room ≡ change_effects s config room
    same true = ap by_config l.config
    same false = refl

-- ---- checks

abbrev ArePassed : List Check → Type 0
ArePassed [] = ⊤
ArePassed (check ∷ checks) = (check.0 ≡ false) × ArePassed checks

all_passed : (checks : List Check) → first_refusal checks ≡ None → ArePassed checks
all_passed [] h = tt
all_passed (check ∷ checks) h = go check.0 h (all_passed checks)
  where
    go : (b : Bool) → cond b (Some check.1) (first_refusal checks) ≡ None → (first_refusal checks ≡ None → ArePassed checks) → (b ≡ false) × ArePassed checks
    go true k f = absurd (none_some (sym k))
    go false k f = (refl, f k)

-- ---- a message

taken_late : (early : Option ApiError) (found : Option Id) (late : Option ApiError) → first_of_all early found late ≡ Take → late ≡ None
taken_late (Some e) found late h = absurd (let k : RefusedBy e ≡ Take = h in cc)
taken_late None (Some i) late h = absurd (let k : TakenBefore i.seq ≡ Take = h in cc)
taken_late None None (Some e) h = absurd (let k : RefusedBy e ≡ Take = h in cc)
taken_late None None None h = refl

not_taken : (a : Stream) (p : Publish) → verdict a p false ≡ Take → ⊥
unfolding verdict
not_taken a p h =
    let passed = all_passed (late_checks a p false) (taken_late (first_refusal (early_checks a p)) (known a p.wants.id) (first_refusal (late_checks a p false)) h) in
    true≢false passed.1.1.1.1.1.1.1.0

stored : (messages consumers : ℕ) (a : Stream) (p : Publish) → GrowsBy messages consumers 0 (50 + length p.wants.id + 32 * consumers) (put_effect a p ∷ [])
stored messages consumers a p = go (is_skipped a p)
  where
    go : (b : Bool) → GrowsBy messages consumers 0 (50 + length p.wants.id + 32 * consumers) (cond b (Skip (a.last + 1) a.moment p.wants.id) (PutHere (a.last + 1) a.moment p.wants.id p.subject p.headers p.payload) ∷ [])
    go true = by_one messages consumers 0 (50 + length p.wants.id + 32 * consumers) (Skip (a.last + 1) a.moment p.wants.id) (omega arith) (λ m c _ _. omega arith)
    go false = by_one messages consumers 0 (50 + length p.wants.id + 32 * consumers) (PutHere (a.last + 1) a.moment p.wants.id p.subject p.headers p.payload) (omega arith) (λ m c _ k. omega (arith, k))

published : (s a : Stream) (p : Publish) (room : Bool)
    → GrowsBy (length s.messages) (length s.consumers) (if_room room 0) (if_room room (50 + length p.wants.id + 32 * length s.consumers)) (publish_effects a p (verdict a p room))
published s a p true = go (verdict a p true)
  where
    go : (v : Verdict) → GrowsBy (length s.messages) (length s.consumers) 0 (50 + length p.wants.id + 32 * length s.consumers) (publish_effects a p v)
    go Take = stored (length s.messages) (length s.consumers) a p
    go (TakenBefore n) = by_quiet (length s.messages) (length s.consumers) 0 (50 + length p.wants.id + 32 * length s.consumers) [] refl
    go (RefusedBy e) = by_quiet (length s.messages) (length s.consumers) 0 (50 + length p.wants.id + 32 * length s.consumers) [] refl
published s a p false = go (verdict a p false) refl
  where
    go : (v : Verdict) → verdict a p false ≡ v → GrowsBy (length s.messages) (length s.consumers) 0 0 (publish_effects a p v)
    go Take h = absurd (not_taken a p h)
    go (TakenBefore n) h = by_quiet (length s.messages) (length s.consumers) 0 0 [] refl
    go (RefusedBy e) h = by_quiet (length s.messages) (length s.consumers) 0 0 [] refl

-- ---- a consumer

-- what is allowed has not too many picks
few_picks : (a : Stream) (name : Bytes) (config : ConsumerConfig) → first_refusal (making_checks a name config) ≡ None → length (picks_at config.deliver_policy config.filter_subject a) ≤ 65536
few_picks a name config h =
    let passed = all_passed (making_checks a name config) h in
    ltb-false 65536 (length (picks_at config.deliver_policy config.filter_subject a)) passed.1.1.1.0

picked : (policy : DeliverPolicy) (pattern : Bytes) (a : Stream) (messages : ℕ) → length a.messages ≤ messages → length (picks_at policy pattern a) ≤ 65536 → length (picks_at policy pattern a) ≤ most_picked policy messages
picked FromAll pattern a messages l f = omega arith
picked FromLast pattern a messages l f = omega arith
picked FromNew pattern a messages l f = omega arith
picked (ByStartSequence n) pattern a messages l f = omega arith
picked (ByStartTime at) pattern a messages l f = omega arith
picked LastPerSubject pattern a messages l f =
    let all = filter (λ (m : Message). passes_filter pattern m.subject) a.messages in
    let newest_ones : length (newest 1 all) ≤ length all = part-length (newest_part 1 all) in
    let matching_ones : length all ≤ length a.messages = part-length (filter_part (λ (m : Message). passes_filter pattern m.subject) a.messages) in
    let count : length (seqs (newest 1 all)) ≡ length (newest 1 all) = length-map (newest 1 all) (λ m. m.seq) in
    omega (arith, newest_ones, matching_ones, count, l, f)

module _ (s a : Stream) (l : IsLater s a) (name : Bytes) (config : ConsumerConfig) where
  abbrev part : ℕ
  part = 41 + length name + length (consumer_text config) + 8 * most_picked config.deliver_policy (length s.messages)

  abbrev rest : ℕ
  rest = 32 * most_held (length s.messages)

  made : (room : Bool) (refusal : Option ApiError) → first_refusal (making_checks a name config) ≡ refusal
      → GrowsBy (length s.messages) (length s.consumers) (if_room room part) (if_room room rest) (made_effects a name config (or_no_room room refusal))
  made true (Some e) h = by_quiet (length s.messages) (length s.consumers) part rest [] refl
  made true None h =
      by_one (length s.messages) (length s.consumers) part rest
      (ConsumerMade name a.moment config (cursor_at config.deliver_policy config.filter_subject a) (picks_at config.deliver_policy config.filter_subject a))
      (omega (arith, picked config.deliver_policy config.filter_subject a (length s.messages) l.messages (few_picks a name config h)))
      (λ m c k _. omega (arith, k))
  made false (Some e) h = by_quiet (length s.messages) (length s.consumers) 0 0 [] refl
  made false None h = by_quiet (length s.messages) (length s.consumers) 0 0 [] refl

  asked_for : (update room : Bool) (found : Option Consumer)
      → GrowsBy (length s.messages) (length s.consumers) (if_room room (cond (is_some found) 0 part)) (if_room room (cond (is_some found) 0 rest)) (make_effects a name config update room found)
  asked_for true room None = by_quiet (length s.messages) (length s.consumers) (if_room room part) (if_room room rest) [] refl
  asked_for false room None = made room (first_refusal (making_checks a name config)) refl
  asked_for true room (Some c) = by_quiet (length s.messages) (length s.consumers) (if_room room 0) (if_room room 0) [] refl
  asked_for false room (Some c) = by_quiet (length s.messages) (length s.consumers) (if_room room 0) (if_room room 0) [] refl

  made_later : (update room : Bool)
      → GrowsBy (length s.messages) (length s.consumers) (if_room room (cond (is_some (by_name s.consumers name)) 0 part)) (if_room room (cond (is_some (by_name s.consumers name)) 0 rest))
      (make_effects a name config update room (by_name a.consumers name))
  made_later update room =
      subst (λ (there : Bool). GrowsBy (length s.messages) (length s.consumers) (if_room room (cond there 0 part)) (if_room room (cond there 0 rest)) (make_effects a name config update room (by_name a.consumers name)))
      (l.named name) (asked_for update room (by_name a.consumers name))

-- ---- all events

own_by : (s a : Stream) (what : What) (room : Bool) → IsLater s a
    → GrowsBy (length s.messages) (length s.consumers) (if_room room (event_fixed (Live s) what)) (if_room room (event_counted (Live s) what)) (own_effects a what room)
own_by s a (Make reply config) room l = by_quiet (length s.messages) (length s.consumers) (if_room room 0) (if_room room 0) [] refl
own_by s a (Change reply config) room l = changed_later s a reply config room l
own_by s a (DropStream reply) room l = by_quiet (length s.messages) (length s.consumers) (if_room room 0) (if_room room 0) (StreamDropped ∷ []) refl
own_by s a (PublishIt p) room l = published s a p room
own_by s a (Purge reply pattern below keep) room l =
    by_quiet (length s.messages) (length s.consumers) (if_room room 0) (if_room room 0) (purge_effects a (purge_list a pattern below keep)) (quiet_purged a (purge_list a pattern below keep))
own_by s a (Delete reply n) room l = by_quiet (length s.messages) (length s.consumers) (if_room room 0) (if_room room 0) (delete_effects a (message_at a n)) (quiet_deleted a (message_at a n))
own_by s a (MakeConsumer reply name config update) room l = made_later s a l name config update room
own_by s a (DropConsumer reply name) room l = by_quiet (length s.messages) (length s.consumers) (if_room room 0) (if_room room 0) (drop_effects (by_name a.consumers name)) (quiet_dropped (by_name a.consumers name))
own_by s a (AckIt reply ack) room l =
    by_quiet (length s.messages) (length s.consumers) (if_room room 0) (if_room room 0) (ack_effects a ack.seq ack.kind (by_name a.consumers ack.consumer)) (quiet_acked a ack.seq ack.kind (by_name a.consumers ack.consumer))
own_by s a (PullIt reply name ask) room l = by_quiet (length s.messages) (length s.consumers) (if_room room 0) (if_room room 0) [] refl
own_by s a Tick room l = by_quiet (length s.messages) (length s.consumers) (if_room room 0) (if_room room 0) [] refl
own_by s a (AskStream reply) room l = by_quiet (length s.messages) (length s.consumers) (if_room room 0) (if_room room 0) [] refl
own_by s a (MessageGet reply by) room l = by_quiet (length s.messages) (length s.consumers) (if_room room 0) (if_room room 0) [] refl
own_by s a (AskConsumer reply name) room l = by_quiet (length s.messages) (length s.consumers) (if_room room 0) (if_room room 0) [] refl
own_by s a (ConsumerNames reply offset) room l = by_quiet (length s.messages) (length s.consumers) (if_room room 0) (if_room room 0) [] refl
own_by s a (ConsumerList reply offset) room l = by_quiet (length s.messages) (length s.consumers) (if_room room 0) (if_room room 0) [] refl

live_by : (s : Stream) (what : What) (now : ℕ) (room : Bool)
    → GrowsBy (length s.messages) (length s.consumers) (if_room room (event_fixed (Live s) what)) (if_room room (event_counted (Live s) what)) (event_effects (Live s) what now room)
live_by s what now room =
    let a = advance s now in
    let part = if_room room (event_fixed (Live s) what) in
    let rest = if_room room (event_counted (Live s) what) in
    let left = settle_effects (skipped a what room) (stream_answer a what room).state in
    quiet_then (length s.messages) (length s.consumers) part rest (time_effects s now) (own_effects a what room ++ left) (quiet_time s now)
    (then_quiet (length s.messages) (length s.consumers) part rest (own_effects a what room) left (own_by s a what room (later s now)) (quiet_settled (skipped a what room) (stream_answer a what room).state))

stream_by : (i : ℕ) (config : StreamConfig) (now : ℕ) (room : Bool) → GrowsBy 0 0 (if_room room (length (stream_text config))) (if_room room 54) (stream_effects i config now room)
stream_by i config now true = by_one 0 0 (length (stream_text config)) 54 (MakeStream (i + 1) now config) (omega arith) (λ m c _ _. omega arith)
stream_by i config now false = by_quiet 0 0 0 0 [] refl

vacant_by : (i : ℕ) (what : What) (now : ℕ) (room : Bool) → GrowsBy 0 0 (if_room room (event_fixed (Vacant i) what)) (if_room room (event_counted (Vacant i) what)) (vacant_effects i what now room)
vacant_by i (Make reply config) now room = go (i + 1 == 2 ^ 62)
  where
    go : (b : Bool) → GrowsBy 0 0 (if_room room (length (stream_text config))) (if_room room 54) (cond b [] (stream_effects i config now room))
    go true = by_quiet 0 0 (if_room room (length (stream_text config))) (if_room room 54) [] refl
    go false = stream_by i config now room
vacant_by i (Change reply config) now room = by_quiet 0 0 (if_room room 0) (if_room room 0) [] refl
vacant_by i (DropStream reply) now room = by_quiet 0 0 (if_room room 0) (if_room room 0) [] refl
vacant_by i (PublishIt p) now room = by_quiet 0 0 (if_room room 0) (if_room room 0) [] refl
vacant_by i (Purge reply pattern below keep) now room = by_quiet 0 0 (if_room room 0) (if_room room 0) [] refl
vacant_by i (Delete reply n) now room = by_quiet 0 0 (if_room room 0) (if_room room 0) [] refl
vacant_by i (MakeConsumer reply name config update) now room = by_quiet 0 0 (if_room room 0) (if_room room 0) [] refl
vacant_by i (DropConsumer reply name) now room = by_quiet 0 0 (if_room room 0) (if_room room 0) [] refl
vacant_by i (AckIt reply ack) now room = by_quiet 0 0 (if_room room 0) (if_room room 0) [] refl
vacant_by i (PullIt reply name ask) now room = by_quiet 0 0 (if_room room 0) (if_room room 0) [] refl
vacant_by i Tick now room = by_quiet 0 0 (if_room room 0) (if_room room 0) [] refl
vacant_by i (AskStream reply) now room = by_quiet 0 0 (if_room room 0) (if_room room 0) [] refl
vacant_by i (MessageGet reply by) now room = by_quiet 0 0 (if_room room 0) (if_room room 0) [] refl
vacant_by i (AskConsumer reply name) now room = by_quiet 0 0 (if_room room 0) (if_room room 0) [] refl
vacant_by i (ConsumerNames reply offset) now room = by_quiet 0 0 (if_room room 0) (if_room room 0) [] refl
vacant_by i (ConsumerList reply offset) now room = by_quiet 0 0 (if_room room 0) (if_room room 0) [] refl

-- ---- states

pub state_counts : (s : State) → counted (durable_of s) ≡ state_counted s
state_counts (Vacant i) = refl
state_counts (Live s) = ap (λ (n : ℕ). counted_by (sum_by id_length s.ids) (length s.messages) n) (length-map s.consumers lasting_consumer)

pub law_parts : (state : State) → LawParts state
law_parts state = record {
  whole = ap (λ (n : ℕ). fixed (durable_of state) + n) (state_counts state);
  least = λ known h. let counts : counted (durable_of state) ≡ state_counted state = state_counts state in omega (arith, h, counts);
}

in_order : (s : State) → IsSound s → AreOrderedIn (durable_of s)
in_order (Vacant i) h = tt
in_order (Live s) h = ordered_map lasting_consumer (λ c. refl) s.consumers h.stored.ordered

raised : (part rest : ℕ) (old new : State) → Grows part rest (durable_of old).body (durable_of new).body → StateRaises part rest old new
raised part rest old new g =
    let was : counted (durable_of old) ≡ state_counted old = state_counts old in
    let is : counted (durable_of new) ≡ state_counted new = state_counts new in
    record { fixed_is = g.fixed_is; counted_is = omega (arith, g.counted_is, was, is) }

fallen : (old new : State) → Falls (durable_of old).body (durable_of new).body → StateRaisesNothing old new
fallen old new f =
    let was : counted (durable_of old) ≡ state_counted old = state_counts old in
    let is : counted (durable_of new) ≡ state_counted new = state_counts new in
    record { fixed_is = f.fixed_is; counted_is = omega (arith, f.counted_is, was, is) }

by_event : (old new : State) (what : What) (now : ℕ) (room : Bool) → IsSound old → Leads old (event_effects old what now room) new
    → StateRaises (if_room room (event_fixed old what)) (if_room room (event_counted old what)) old new
by_event (Vacant i) new what now room h k =
    raised _ _ (Vacant i) new (vacant_by i what now room (durable_of (Vacant i)) (durable_of new) tt (omega arith) (omega arith) k)
by_event (Live s) new what now room h k =
    raised _ _ (Live s) new (live_by s what now room (durable_of (Live s)) (durable_of new) (in_order (Live s) h) (omega arith) (omega (arith, length-map s.consumers lasting_consumer)) k)

by_records : (old new : State) (es : List Effect) → IsSound old → Leads old es new → AreQuiet es → StateRaisesNothing old new
by_records old new es h k q = fallen old new (all_fall es (durable_of old) (durable_of new) (in_order old h) q k)

no_growth : (state : State) (what : What) → asks_room what ≡ false → event_growth state what ≡ 0
no_growth state (Make reply config) q = absurd (true≢false q)
no_growth state (Change reply config) q = absurd (true≢false q)
no_growth state (PublishIt p) q = absurd (true≢false q)
no_growth state (MakeConsumer reply name config update) q = absurd (true≢false q)
no_growth (Vacant i) (DropStream reply) q = refl
no_growth (Vacant i) (Purge reply pattern below keep) q = refl
no_growth (Vacant i) (Delete reply n) q = refl
no_growth (Vacant i) (DropConsumer reply name) q = refl
no_growth (Vacant i) (AckIt reply ack) q = refl
no_growth (Vacant i) (PullIt reply name ask) q = refl
no_growth (Vacant i) Tick q = refl
no_growth (Vacant i) (AskStream reply) q = refl
no_growth (Vacant i) (MessageGet reply by) q = refl
no_growth (Vacant i) (AskConsumer reply name) q = refl
no_growth (Vacant i) (ConsumerNames reply offset) q = refl
no_growth (Vacant i) (ConsumerList reply offset) q = refl
no_growth (Live s) (DropStream reply) q = refl
no_growth (Live s) (Purge reply pattern below keep) q = refl
no_growth (Live s) (Delete reply n) q = refl
no_growth (Live s) (DropConsumer reply name) q = refl
no_growth (Live s) (AckIt reply ack) q = refl
no_growth (Live s) (PullIt reply name ask) q = refl
no_growth (Live s) Tick q = refl
no_growth (Live s) (AskStream reply) q = refl
no_growth (Live s) (MessageGet reply by) q = refl
no_growth (Live s) (AskConsumer reply name) q = refl
no_growth (Live s) (ConsumerNames reply offset) q = refl
no_growth (Live s) (ConsumerList reply offset) q = refl

none_made : (i : ℕ) (config : StreamConfig) (now : ℕ) (b room : Bool) → (length (stream_text config) + 54 ≡ 0) ⊎ (room ≡ false) → cond b [] (stream_effects i config now room) ≡ []
none_made i config now true room h = refl
none_made i config now false false h = refl
none_made i config now false true (inl h) = absurd (omega (arith, h))
none_made i config now false true (inr h) = absurd (true≢false h)

no_records : (i : ℕ) (what : What) (now : ℕ) (room : Bool) → (event_growth (Vacant i) what ≡ 0) ⊎ (room ≡ false) → event_effects (Vacant i) what now room ≡ []
no_records i (Make reply config) now room h = none_made i config now (i + 1 == 2 ^ 62) room h
no_records i (Change reply config) now room h = refl
no_records i (DropStream reply) now room h = refl
no_records i (PublishIt p) now room h = refl
no_records i (Purge reply pattern below keep) now room h = refl
no_records i (Delete reply n) now room h = refl
no_records i (MakeConsumer reply name config update) now room h = refl
no_records i (DropConsumer reply name) now room h = refl
no_records i (AckIt reply ack) now room h = refl
no_records i (PullIt reply name ask) now room h = refl
no_records i Tick now room h = refl
no_records i (AskStream reply) now room h = refl
no_records i (MessageGet reply by) now room h = refl
no_records i (AskConsumer reply name) now room h = refl
no_records i (ConsumerNames reply offset) now room h = refl
no_records i (ConsumerList reply offset) now room h = refl

pub law_asked : LawAsked
law_asked = record {
  event = by_event;
  delivery = λ old new now d h k. by_records old new (delivery_effects old now d new) h k (quiet_delivery old now d new);
  time = quiet_time;
  settled = quiet_settled;
  quiet = by_records;
  unasked = no_growth;
  vacant = no_records;
}
