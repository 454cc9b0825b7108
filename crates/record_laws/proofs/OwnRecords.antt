-- An event's own changes may be recorded.
use Rattle.std.proofs.Common.{◌≡◌, ◌≢◌, ℕ, ◌+◌, ◌<◌, ◌≤◌, ◌^◌, Bool, true, false, cond, [], length, refl, arith}
use Rattle.std.specs.Prelude.{IsTrue, Option, Some, None, ◌==◌, ◌&&◌}
use Rattle.std.proofs.lemmas.Bool.{and_parts, and_from, or_parts, eqb-false, ltb-true, ltb-false, lt-ltb, le-leb}
use Rattle.js_base.specs.Bytes.{Bytes, same}
use Rattle.js_base.specs.Moments.{plus}
use Rattle.js_base.specs.declared.out.ApiError.{ApiError}
use Rattle.js_model.specs.declared.consumer_config.AckPolicy.{AckPolicy}
use Rattle.js_model.specs.declared.consumer_config.AckPolicy.TheVariants.{None as NoAck, All as AckAll, Explicit}
use Rattle.js_model.specs.declared.consumer_config.ConsumerConfig.{ConsumerConfig}
use Rattle.js_model.specs.declared.consumer_config.DeliverPolicy.{DeliverPolicy}
use Rattle.js_model.specs.declared.consumer_config.DeliverPolicy.TheVariants.{All as FromAll, Last as FromLast, New as FromNew, ByStartSequence, ByStartTime, LastPerSubject}
use Rattle.js_model.specs.declared.stream.Message.{Message}
use Rattle.js_model.specs.declared.stream.Stream.{Stream}
use Rattle.js_model.specs.declared.consumer.Consumer.{Consumer}
use Rattle.js_model.specs.declared.ack.AckKind.{AckKind}
use Rattle.js_model.specs.declared.ack.AckKind.TheVariants.{Ack as Acknowledge, Nak, Wpi, Next, Term}
use Rattle.js_model.specs.declared.event.Publish.{Publish}
use Rattle.js_model.specs.declared.event.What.{What}
use Rattle.js_model.specs.declared.event.What.TheVariants.{Make, Change, Drop as DropStream, Publish as PublishIt, Purge, Delete, MakeConsumer, DropConsumer, Ack as AckIt, Pull as PullIt, Tick, StreamInfo as AskStream, MessageGet, ConsumerInfo as AskConsumer, ConsumerNames, ConsumerList}
use Rattle.js_model.specs.declared.reply.Verdict.{Verdict}
use Rattle.js_model.specs.declared.reply.Verdict.TheVariants.{Take, Duplicate as TakenBefore, Refused as RefusedBy}
use Rattle.js_model.specs.Lists.{Between}
use Rattle.js_model.specs.Proper.{is_proper_publish}
use Rattle.js_model.specs.Streams.{by_name}
use Rattle.js_model.specs.Refusals.{first_refusal}
use Rattle.js_model.specs.Configs.{is_name, is_number, is_consumer_config}
use Rattle.js_model.specs.Verdict.{verdict, early_checks, late_checks}
use Rattle.js_model.specs.Acknowledge.{is_no_delivery, ends}
use Rattle.js_model.specs.Start.{picks_at, cursor_at, matching}
use Rattle.js_model.specs.Consumers.{making_checks}
use Rattle.js_model.specs.Events.{message_at, or_no_room}
use Rattle.js_model.proofs.Parts.{part_map, part_trans, part_between, newest_part, filter_part, between_map}
use Rattle.model_laws.proofs.Whole.{IsSoundConsumer}
use Rattle.model_laws.proofs.Bounded.{ArePassed, all_passed, taken_passed}
use Rattle.model_laws.proofs.Sounding.{IsProperWhat}
use Rattle.model_laws.proofs.SoundAcks.{All-by_name}
use Rattle.model_laws.proofs.SoundMade.{cursor_place}
use Rattle.effects.specs.declared.effect.Effect.TheVariants.{ChangeStream, PutHere, Skip, MakeConsumer as ConsumerMade, DropConsumer as ConsumerDropped, Acked, Due}
use Rattle.effects.specs.Effects.{is_skipped, put_effect, publish_effects, delete_effects, made_effects, make_effects, drop_effects, first_ended, ends_some, ended_effects, changes_due, due_effects, acknowledged_effects, ack_effects, own_effects}
use Rattle.op_records.specs.Allowed.{is_record, is_text, is_cursor, are_picks}
use Rattle.record_laws.proofs.Allowing.{Allowed, just, only_if, number, numbers, consumer_name}
use Rattle.record_laws.proofs.Removing.{allowed_removals}
use Rattle.record_laws.proofs.Passing.{IsNumbered}

module _ (s : Stream) (h : IsNumbered s) where
  -- the end of the sequences that are stored
  end : s.last + 1 ≤ 2 ^ 62
  end = let q : s.last < 2 ^ 62 = h.last in omega arith

  sound_consumer : (name : Bytes) (c : Consumer) → by_name s.consumers name ≡ Some c → IsSoundConsumer s.messages s.last c
  sound_consumer name c e = All-by_name (IsSoundConsumer s.messages s.last) s.consumers name c e h.sound.consumers

  named : (name : Bytes) (c : Consumer) → by_name s.consumers name ≡ Some c → is_name c.name ≡ true
  named name c e = consumer_name s.messages s.last c (sound_consumer name c e)

  -- ---- publishes

  allowed_publish : (p : Publish) (room : Bool) → IsTrue (is_proper_publish p) → (v : Verdict) → verdict s p room ≡ v → Allowed (publish_effects s p v)
  allowed_publish p room proper (TakenBefore n) e = refl
  allowed_publish p room proper (RefusedBy r) e = refl
  allowed_publish p room proper Take e = just (put_effect s p) (go (is_skipped s p))
    where
      early : ArePassed (early_checks s p)
      early = all_passed (early_checks s p) (taken_passed s p room e).0

      late : ArePassed (late_checks s p room)
      late = all_passed (late_checks s p room) (taken_passed s p room e).1

      -- its sequence and its moment
      placed : (is_number (s.last + 1) && is_number s.moment) ≡ true
      placed =
          let free : s.last + 1 ≢ 2 ^ 62 = eqb-false (s.last + 1) (2 ^ 62) late.1.1.1.1.1.1.0 in
          let q : s.last < 2 ^ 62 = h.last in
          and_from _ _ (number (s.last + 1) (omega arith)) (number s.moment h.moment)

      text : is_text p.wants.id ≡ true
      text = let q : length p.wants.id ≤ 256 = ltb-false 256 (length p.wants.id) early.1.1.0 in lt-ltb (length p.wants.id) (2 ^ 16) (omega arith)

      go : (b : Bool) → is_record (cond b (Skip (s.last + 1) s.moment p.wants.id) (PutHere (s.last + 1) s.moment p.wants.id p.subject p.headers p.payload)) ≡ true
      go true = and_from _ _ placed text
      go false =
          let bytes = and_parts _ _ (and_parts _ _ (and_parts _ _ proper).0).0 in
          let message = and_parts _ _ bytes.0 in
          and_from _ _ (and_from _ _ (and_from _ _ (and_from _ _ placed text) message.0) message.1) bytes.1

  -- ---- messages that are removed

  allowed_delete : (m : Option Message) → Allowed (delete_effects s m)
  allowed_delete None = refl
  allowed_delete (Some m) = allowed_removals (s.last + 1) [] s.messages _ h.sound.messages end

  -- ---- consumers

  picked : (policy : DeliverPolicy) (pattern : Bytes) → Between (λ n. n) 1 (s.last + 1) (picks_at policy pattern s)
  picked LastPerSubject pattern =
      part_between (λ n. n) 1 (s.last + 1) (part_map (λ m. m.seq) (part_trans (newest_part 1 (matching pattern s)) (filter_part _ s.messages)))
      (between_map (λ n. n) (λ m. m.seq) 1 (s.last + 1) s.messages h.sound.messages)
  picked FromAll pattern = omega arith
  picked FromLast pattern = omega arith
  picked FromNew pattern = omega arith
  picked (ByStartSequence n) pattern = omega arith
  picked (ByStartTime at) pattern = omega arith

  allowed_made : (reply : Option Bytes) (name : Bytes) (config : ConsumerConfig) → IsProperWhat (MakeConsumer reply name config false) → (e : Option ApiError) → first_refusal (making_checks s name config) ≡ e → Allowed (made_effects s name config e)
  allowed_made reply name config proper (Some r) e = refl
  allowed_made reply name config proper None e =
      let names = and_parts (is_name name && is_consumer_config config) (same config.name name) proper in
      let name_is = and_parts (is_name name) (is_consumer_config config) names.0 in
      just (ConsumerMade name s.moment config (cursor_at config.deliver_policy config.filter_subject s) (picks_at config.deliver_policy config.filter_subject s))
      (and_from _ _ (and_from _ _ (and_from _ _ (and_from _ _ (and_from _ _ name_is.0 (number s.moment h.moment)) name_is.1) names.1) cursor) picks)
    where
      passed : ArePassed (making_checks s name config)
      passed = all_passed (making_checks s name config) e

      cursor : is_cursor (cursor_at config.deliver_policy config.filter_subject s) ≡ true
      cursor =
          let q : cursor_at config.deliver_policy config.filter_subject s ≤ s.last + 1 = (cursor_place config.deliver_policy config.filter_subject s h.sound.messages).high in
          let r : s.last + 1 ≤ 2 ^ 62 = end in
          le-leb (cursor_at config.deliver_policy config.filter_subject s) (2 ^ 62) (omega arith)

      picks : are_picks (picks_at config.deliver_policy config.filter_subject s) ≡ true
      picks =
          let few : length (picks_at config.deliver_policy config.filter_subject s) ≤ 65536 = ltb-false 65536 (length (picks_at config.deliver_policy config.filter_subject s)) passed.1.1.1.0 in
          and_from _ _ (lt-ltb (length (picks_at config.deliver_policy config.filter_subject s)) (2 ^ 32) (omega arith))
          (numbers 1 (s.last + 1) (picks_at config.deliver_policy config.filter_subject s) (picked config.deliver_policy config.filter_subject) end)

  allowed_make : (reply : Option Bytes) (name : Bytes) (config : ConsumerConfig) (update room : Bool) → IsProperWhat (MakeConsumer reply name config update) → (c : Option Consumer) → Allowed (make_effects s name config update room c)
  allowed_make reply name config true room proper None = refl
  allowed_make reply name config false true proper None = allowed_made reply name config proper (first_refusal (making_checks s name config)) refl
  allowed_make reply name config false false proper None = none_made (first_refusal (making_checks s name config))
    where
      none_made : (e : Option ApiError) → Allowed (made_effects s name config (or_no_room false e))
      none_made None = refl
      none_made (Some e) = refl
  allowed_make reply name config true room proper (Some c) = refl
  allowed_make reply name config false room proper (Some c) = refl

  allowed_drop : (name : Bytes) (c : Option Consumer) → by_name s.consumers name ≡ c → Allowed (drop_effects c)
  allowed_drop name None e = refl
  allowed_drop name (Some c) e = just (ConsumerDropped c.name) (named name c e)

  -- ---- acknowledgements

  least : (policy : AckPolicy) (n : ℕ) → 1 ≤ n → first_ended policy n ≤ n
  least NoAck n l = omega arith
  least AckAll n l = l
  least Explicit n l = omega arith

  module _ (name : Bytes) (c : Consumer) (found : by_name s.consumers name ≡ Some c) (n : ℕ) (one : 1 ≤ n) (below : n < 2 ^ 62) where
    allowed_ended : (ended : ℕ → Bool) (low : ℕ) → low ≤ n → Allowed (ended_effects ended low n c)
    allowed_ended ended low l = only_if (ends_some ended c) (Acked c.name low n) (λ e. and_from _ _ (named name c found) (and_from _ _ (and_from _ _ (number low (omega arith)) (number n below)) (le-leb low n l)))

    allowed_due : (at later : ℕ) → Allowed (due_effects n (plus at later) c)
    allowed_due at later = only_if (changes_due n (plus at later) c) (Due c.name n (plus at later)) (λ e. and_from _ _ (and_from _ _ (named name c found) (number n below)) (number (plus at later) (omega arith)))

    allowed_acknowledged : (kind : AckKind) → Allowed (acknowledged_effects s.moment n kind c)
    allowed_acknowledged Acknowledge = allowed_ended (ends c.config.ack_policy n) (first_ended c.config.ack_policy n) (least c.config.ack_policy n one)
    allowed_acknowledged (Nak delay) = allowed_due s.moment delay
    allowed_acknowledged Wpi = allowed_due s.moment c.config.ack_wait
    allowed_acknowledged (Next ask) = allowed_ended (ends c.config.ack_policy n) (first_ended c.config.ack_policy n) (least c.config.ack_policy n one)
    allowed_acknowledged Term = allowed_ended (λ m. m == n) n (omega arith)

  allowed_ack : (name : Bytes) (n : ℕ) (kind : AckKind) → n < 2 ^ 62 → (c : Option Consumer) → by_name s.consumers name ≡ c → Allowed (ack_effects s n kind c)
  allowed_ack name n kind below None e = refl
  allowed_ack name n kind below (Some c) e = go (is_no_delivery c n) refl
    where
      go : (b : Bool) → is_no_delivery c n ≡ b → Allowed (cond b [] (acknowledged_effects s.moment n kind c))
      go true q = refl
      go false q = let some : n ≢ 0 = eqb-false n 0 (or_parts _ _ q).0 in allowed_acknowledged name c e n (omega arith) below kind

  -- ---- each event

  pub allowed_own : (what : What) (room : Bool) → IsProperWhat what → Allowed (own_effects s what room)
  allowed_own (Make reply config) room g = refl
  allowed_own (Change reply config) true g = only_if _ (ChangeStream config) (λ e. g)
  allowed_own (Change reply config) false g = refl
  allowed_own (DropStream reply) room g = refl
  allowed_own (PublishIt p) room g = allowed_publish p room g (verdict s p room) refl
  allowed_own (Purge reply pattern below keep) room g = allowed_removals (s.last + 1) [] s.messages _ h.sound.messages end
  allowed_own (Delete reply n) room g = allowed_delete (message_at s n)
  allowed_own (MakeConsumer reply name config update) room g = allowed_make reply name config update room g (by_name s.consumers name)
  allowed_own (DropConsumer reply name) room g = allowed_drop name (by_name s.consumers name) refl
  allowed_own (AckIt reply ack) room g = allowed_ack ack.consumer ack.seq ack.kind (ltb-true ack.seq (2 ^ 62) (and_parts _ _ (and_parts _ _ g).0).1) (by_name s.consumers ack.consumer) refl
  allowed_own (PullIt reply name ask) room g = refl
  allowed_own Tick room g = refl
  allowed_own (AskStream reply) room g = refl
  allowed_own (MessageGet reply by) room g = refl
  allowed_own (AskConsumer reply name) room g = refl
  allowed_own (ConsumerNames reply offset) room g = refl
  allowed_own (ConsumerList reply offset) room g = refl
