-- Where nothing of what outlives a crash changes, the limits and the retention drop nothing, and an event has no record of its own.
use Rattle.std.proofs.Common.{◌≡◌, ℕ, suc, ◌+◌, ◌≤◌, Bool, true, false, ◌&&◌, ◌||◌, not, cond, List, [], ◌∷◌, ◌++◌, map, length, refl, sym, ap, ◌∙◌, subst, arith}
use Rattle.std.specs.Prelude.{Option, Some, None, filter, ◌==◌, unwrap_or}
use Rattle.std.specs.List.{list_any}
use Rattle.std.proofs.lemmas.Bool.{true≢false, or_from, eq-eqb}
use Rattle.std.proofs.lemmas.List.{length-map, map-id}
use Rattle.js_base.specs.Bytes.{Bytes, same}
use Rattle.js_base.specs.Moments.{plus}
use Rattle.js_base.specs.declared.out.ApiError.{ApiError}
use Rattle.js_model.specs.declared.stream_config.StreamConfig.{StreamConfig}
use Rattle.js_model.specs.declared.consumer_config.ConsumerConfig.{ConsumerConfig}
use Rattle.js_model.specs.declared.stream.Message.{Message}
use Rattle.js_model.specs.declared.stream.Stream.{Stream}
use Rattle.js_model.specs.declared.stream.State.{State}
use Rattle.js_model.specs.declared.stream.State.TheVariants.{Vacant, Live}
use Rattle.js_model.specs.declared.consumer.Pending.{Pending}
use Rattle.js_model.specs.declared.consumer.Consumer.{Consumer}
use Rattle.js_model.specs.declared.ack.Ask.{Ask}
use Rattle.js_model.specs.declared.ack.Ack.{Ack}
use Rattle.js_model.specs.declared.ack.AckKind.{AckKind}
use Rattle.js_model.specs.declared.ack.AckKind.TheVariants.{Ack as Acknowledge, Nak, Wpi, Next, Term}
use Rattle.js_model.specs.declared.event.Publish.{Publish}
use Rattle.js_model.specs.declared.event.What.{What}
use Rattle.js_model.specs.declared.event.What.TheVariants.{Make, Change, Drop as DropStream, Publish as PublishIt, Purge, Delete, MakeConsumer, DropConsumer, Ack as AckIt, Pull as PullIt, Tick, StreamInfo as AskStream, MessageGet, ConsumerInfo as AskConsumer, ConsumerNames, ConsumerList}
use Rattle.js_model.specs.declared.reply.Reply.TheVariants.{Silent}
use Rattle.js_model.specs.declared.reply.Verdict.{Verdict}
use Rattle.js_model.specs.declared.reply.Verdict.TheVariants.{Take, Duplicate as TakenBefore, Refused as RefusedBy}
use Rattle.js_model.specs.Streams.{by_name, in_place_of, with_consumer, pending_seqs}
use Rattle.js_model.specs.Refusals.{first_refusal, other_config, retention_cannot_change, consumer_exists}
use Rattle.js_model.specs.Configs.{same_stream_config, same_retention, same_consumer_config}
use Rattle.js_model.specs.Consumers.{is_before, new_consumer, with_new, making_checks, queue_checks}
use Rattle.js_model.specs.Lasting.{lasting_consumer}
use Rattle.js_model.specs.Trim.{trim, trim_subjects, trim_count}
use Rattle.js_model.specs.Retention.{kept}
use Rattle.js_model.specs.Verdict.{verdict}
use Rattle.js_model.specs.Acknowledge.{acknowledged, ends, without, with_due, moved, is_no_delivery}
use Rattle.js_model.specs.Pulls.{pulled}
use Rattle.js_model.specs.Events.{settled, settled_state, stream_answer, stream_told, refused, quietly, published, with_message, with_id, without_messages, purge_list, deleted, message_at, message_by, consumer_told, consumer_made, or_no_room, consumer_asked, consumer_dropped, pull_answer, ack_answer, ack_done, after_ack}
use Rattle.js_model.proofs.Members.{IsIn, here, there, found_in}
use Rattle.js_model.proofs.Named.{none_some, some_is, same_self, placed_same}
use Rattle.js_model.proofs.Parts.{filter_part, drop_part, newest_at_part, fitting_at_part}
use Rattle.model_laws.proofs.Whole.{IsSoundStream}
use Rattle.model_laws.proofs.ConsumerFacts.{pulled-name, after_ack-name}
use Rattle.model_laws.proofs.Changed.{stream_config_decides}
use Rattle.effects.specs.declared.durable.Body.{Body}
use Rattle.effects.specs.declared.durable.Durable.{Durable}
use Rattle.effects.specs.declared.effect.Effect.TheVariants.{ChangeStream, Acked, Due}
use Rattle.effects.specs.Durables.{body_of, durable_of}
use Rattle.effects.specs.TimeEffects.{removals}
use Rattle.effects.specs.Effects.{first_ended, ended_effects, due_effects, acknowledged_effects, ack_effects, publish_effects, published_skipped, purge_effects, delete_effects, make_effects, made_effects, drop_effects, own_effects, skipped, settle_effects}
use Rattle.effects.proofs.Agreeing.{map_twice}
use Rattle.effects.proofs.Replacing.{same_state}
use Rattle.effects.proofs.OwnStreams.{config_kept, message_state, told_state}
use Rattle.effects.proofs.OwnConsumers.{lasting_pulled}
use Rattle.effects.proofs.Falling.{filter_full, none_fail, no_removals, weight, weight_parts, Falls, Even, falls_both, falls_none, even_first, even_second, falls_only, falls_with}

-- ---- limits and retention

module _ (s : Stream) where
  to_subjects : Falls s (trim_subjects s)
  to_subjects = falls_only s (trim_subjects s).messages (newest_at_part s.config.max_msgs_per_subject s.messages)

  to_count : Falls (trim_subjects s) (trim_count (trim_subjects s))
  to_count = falls_only (trim_subjects s) (trim_count (trim_subjects s)).messages (drop_part _ (trim_subjects s).messages)

  to_trim : Falls (trim_count (trim_subjects s)) (trim s)
  unfolding trim
  to_trim = falls_only (trim_count (trim_subjects s)) (trim s).messages (fitting_at_part s.config.max_bytes (trim_count (trim_subjects s)).messages)

  to_kept : Falls (trim s) (settled s)
  unfolding kept
  to_kept = falls_only (trim s) (kept (trim s)).messages (filter_part _ (trim s).messages)

  from_count : Falls (trim_count (trim_subjects s)) (settled s)
  from_count = falls_both (trim_count (trim_subjects s)) (trim s) (settled s) to_trim to_kept

  from_subjects : Falls (trim_subjects s) (settled s)
  from_subjects = falls_both (trim_subjects s) (trim_count (trim_subjects s)) (settled s) to_count from_count

  pub falls_settled : Falls s (settled s)
  falls_settled = falls_both s (trim_subjects s) (settled s) to_subjects from_subjects

  pub no_settle : Even s (settled s) → settle_effects [] (Live s) ≡ []
  unfolding trim kept
  no_settle e =
      let one = even_first s (trim_subjects s) (settled s) to_subjects from_subjects e in
      let rest = even_second s (trim_subjects s) (settled s) to_subjects from_subjects e in
      let two = even_first (trim_subjects s) (trim_count (trim_subjects s)) (settled s) to_count from_count rest in
      let last = even_second (trim_subjects s) (trim_count (trim_subjects s)) (settled s) to_count from_count rest in
      let three = even_first (trim_count (trim_subjects s)) (trim s) (settled s) to_trim to_kept last in
      let four = even_second (trim_count (trim_subjects s)) (trim s) (settled s) to_trim to_kept last in
      let third = removals [] (trim_count (trim_subjects s)).messages (trim s).messages in
      let fourth = removals [] (trim s).messages (kept (trim s)).messages in
      ap (λ l. l ++ (removals [] (trim_subjects s).messages (trim_count (trim_subjects s)).messages ++ (third ++ fourth))) (no_removals s.messages (trim_subjects s).messages (newest_at_part s.config.max_msgs_per_subject s.messages) one.messages)
      ∙ ap (λ l. l ++ (third ++ fourth)) (no_removals (trim_subjects s).messages (trim_count (trim_subjects s)).messages (drop_part _ (trim_subjects s).messages) two.messages)
      ∙ ap (λ l. l ++ fourth) (no_removals (trim_count (trim_subjects s)).messages (trim s).messages (fitting_at_part s.config.max_bytes (trim_count (trim_subjects s)).messages) three.messages)
      ∙ no_removals (trim s).messages (kept (trim s)).messages (filter_part _ (trim s).messages) four.messages

-- ---- what a volume holds of two streams

pub body_is : (s t : Stream) → durable_of (Live s) ≡ durable_of (Live t) → body_of s ≡ body_of t
body_is s t e = some_is (ap (λ (d : Durable). d.body) e)

pub live_vacant : (s : Stream) (i : ℕ) → durable_of (Live s) ≡ durable_of (Vacant i) → ⊥
live_vacant s i e = none_some (sym (ap (λ (d : Durable). d.body) e))

length_consumers : (s t : Stream) → body_of s ≡ body_of t → length s.consumers ≡ length t.consumers
length_consumers s t e = sym (length-map s.consumers lasting_consumer) ∙ ap (λ (b : Body). length b.consumers) e ∙ length-map t.consumers lasting_consumer

-- ---- an event's own records

-- An event that writes none of its own if what outlives a crash stays, and after which there is no more of it; or one that changes it in any case.
pub data OwnRests (a : Stream) (what : What) (room : Bool) : Type 0 where
  falling : (t : Stream) → (stream_answer a what room).state ≡ Live t → skipped a what room ≡ [] → Falls a t → (body_of a ≡ body_of t → own_effects a what room ≡ []) → OwnRests a what room
  other : ((s : Stream) → s.last ≡ a.last → length s.consumers ≡ length a.consumers → durable_of (Live s) ≡ durable_of (settled_state (stream_answer a what room).state) → ⊥) → OwnRests a what room

rests_change : (a : Stream) (reply : Option Bytes) (config : StreamConfig) (room : Bool) → OwnRests a (Change reply config) room
rests_change a reply config false = falling a (config_kept a config) refl (falls_none a) (λ q. refl)
rests_change a reply config true = go (same_retention config.retention a.config.retention) refl
  where
    new : Stream
    new = record a { config = config }

    go : (b : Bool) → same_retention config.retention a.config.retention ≡ b → OwnRests a (Change reply config) true
    go true e =
        falling new (ap (λ (b : Bool). (cond b (stream_told new) (refused retention_cannot_change a)).state) e) refl
        (record { moment = omega arith; messages = omega arith; ids = omega arith; held = omega arith })
        (λ q. ap (λ (b : Bool). cond (b && not (same_stream_config config a.config)) (ChangeStream config ∷ []) []) e
        ∙ ap (λ (b : Bool). cond (not b) (ChangeStream config ∷ []) []) ((stream_config_decides config a.config).1 (sym (ap (λ (b : Body). b.config) q))))
    go false e =
        falling a (ap (λ (b : Bool). (cond b (stream_told new) (refused retention_cannot_change a)).state) e) refl (falls_none a)
        (λ q. ap (λ (b : Bool). cond (b && not (same_stream_config config a.config)) (ChangeStream config ∷ []) []) e)

id_last : (s : Stream) (id : Bytes) → (with_id s id).last ≡ s.last
id_last s [] = refl
id_last s (byte ∷ more) = refl

settled_last : (s : Stream) → (settled s).last ≡ s.last
unfolding trim kept
settled_last s = refl

settled_consumers : (s : Stream) → length (settled s).consumers ≡ length s.consumers
unfolding trim kept
settled_consumers s =
    length-map _ _ ∙ length-map _ _ ∙ length-map _ _ ∙ length-map s.consumers _

rests_publish : (a : Stream) (p : Publish) (room : Bool) → OwnRests a (PublishIt p) room
rests_publish a p room = go (verdict a p room) refl
  where
    grown : (settled (with_message a p)).last ≡ a.last + 1
    grown = settled_last (with_message a p) ∙ id_last _ p.wants.id

    go : (v : Verdict) → verdict a p room ≡ v → OwnRests a (PublishIt p) room
    go Take e = other (λ s l n q.
        let r : s.last ≡ a.last + 1 = ap (λ (b : Body). b.last) (body_is s (settled (with_message a p)) (q ∙ ap (λ (v : Verdict). durable_of (settled_state (published a p v).state)) e)) ∙ grown in
        absurd (omega arith))
    go (TakenBefore n) e = falling a (ap (λ (v : Verdict). (published a p v).state) e) (ap (published_skipped a p) e) (falls_none a) (λ q. ap (publish_effects a p) e)
    go (RefusedBy r) e = falling a (ap (λ (v : Verdict). (published a p v).state) e) (ap (published_skipped a p) e) (falls_none a) (λ q. ap (publish_effects a p) e)

rests_without : (a : Stream) (gone : List Message) → body_of a ≡ body_of (without_messages a gone) → purge_effects a gone ≡ []
rests_without a gone q = no_removals a.messages (without_messages a gone).messages (filter_part _ a.messages) (sym (ap (λ (b : Body). length b.messages) q))

rests_delete : (a : Stream) (reply : Option Bytes) (n : ℕ) (room : Bool) → OwnRests a (Delete reply n) room
rests_delete a reply n room = go (message_at a n) refl
  where
    go : (m : Option Message) → message_at a n ≡ m → OwnRests a (Delete reply n) room
    go None e = falling a (ap (λ (m : Option Message). (deleted a m).state) e) refl (falls_none a) (λ q. ap (delete_effects a) e)
    go (Some m) e =
        falling (without_messages a (m ∷ [])) (ap (λ (m : Option Message). (deleted a m).state) e) refl (falls_only a (without_messages a (m ∷ [])).messages (filter_part _ a.messages))
        (λ q. ap (delete_effects a) e ∙ rests_without a (m ∷ []) q)

-- ---- consumers that come and go

length_with_new : (new : Consumer) (cs : List Consumer) → length (with_new cs new) ≡ suc (length cs)
length_with_new new [] = refl
length_with_new new (c ∷ cs) = go (is_before c.name new.name) (length_with_new new cs)
  where
    go : (b : Bool) → length (with_new cs new) ≡ suc (length cs) → length (cond b (c ∷ with_new cs new) (new ∷ c ∷ cs)) ≡ suc (suc (length cs))
    go true e = ap suc e
    go false e = refl

rests_make : (a : Stream) (reply : Option Bytes) (name : Bytes) (config : ConsumerConfig) (update room : Bool) → OwnRests a (MakeConsumer reply name config update) room
rests_make a reply name config update room = go update (by_name a.consumers name) refl
  where
    made : Stream
    made = record a { consumers = with_new a.consumers (new_consumer a name config) }

    present : (c : Consumer) → (cond (same_consumer_config config c.config) (consumer_told a name) (refused (unwrap_or (first_refusal (queue_checks a name config)) consumer_exists) a)).state ≡ Live a
    present c = same_state (Live a) (same_consumer_config config c.config) (consumer_told a name) (refused (unwrap_or (first_refusal (queue_checks a name config)) consumer_exists) a) (told_state a (by_name (settled a).consumers name)) refl

    state : Bool → Option Consumer → State
    state update c = (consumer_asked a name config update room c).state

    absent : by_name a.consumers name ≡ None → (e : Option ApiError) → or_no_room room (first_refusal (making_checks a name config)) ≡ e → OwnRests a (MakeConsumer reply name config false) room
    absent n None r = other (λ s l m q.
        let is : state false (by_name a.consumers name) ≡ Live made = ap (state false) n ∙ ap (λ (e : Option ApiError). (consumer_made a name config e).state) r ∙ told_state made (by_name (settled made).consumers name) in
        let more : length s.consumers ≡ suc (length a.consumers) = length_consumers s (settled made) (body_is s (settled made) (q ∙ ap (λ (st : State). durable_of (settled_state st)) is)) ∙ settled_consumers made ∙ length_with_new (new_consumer a name config) a.consumers in
        absurd (omega arith))
    absent n (Some e) r =
        falling a (ap (state false) n ∙ ap (λ (e : Option ApiError). (consumer_made a name config e).state) r) refl (falls_none a)
        (λ q. ap (make_effects a name config false room) n ∙ ap (made_effects a name config) r)

    go : (update : Bool) (c : Option Consumer) → by_name a.consumers name ≡ c → OwnRests a (MakeConsumer reply name config update) room
    go true None e = falling a (ap (state true) e) refl (falls_none a) (λ q. ap (make_effects a name config true room) e)
    go false None e = absent e (or_no_room room (first_refusal (making_checks a name config))) refl
    go true (Some c) e = falling a (ap (state true) e ∙ present c) refl (falls_none a) (λ q. ap (make_effects a name config true room) e)
    go false (Some c) e = falling a (ap (state false) e ∙ present c) refl (falls_none a) (λ q. ap (make_effects a name config false room) e)

rests_drop : (a : Stream) (reply : Option Bytes) (name : Bytes) (room : Bool) → OwnRests a (DropConsumer reply name) room
rests_drop a reply name room = go (by_name a.consumers name) refl
  where
    go : (c : Option Consumer) → by_name a.consumers name ≡ c → OwnRests a (DropConsumer reply name) room
    go None e = falling a (ap (λ (c : Option Consumer). (consumer_dropped a c).state) e) refl (falls_none a) (λ q. ap drop_effects e)
    go (Some c) e = other (λ s l n q. gone s n (q ∙ ap (λ (c : Option Consumer). durable_of (settled_state (consumer_dropped a c).state)) e))
      where
        left : Stream
        left = record a { consumers = filter (λ d. not (same d.name c.name)) a.consumers }

        gone : (s : Stream) → length s.consumers ≡ length a.consumers → durable_of (Live s) ≡ durable_of (Live (settled left)) → ⊥
        gone s n q =
            let all : length (filter (λ d. not (same d.name c.name)) a.consumers) ≡ length a.consumers = sym (settled_consumers left) ∙ sym (length_consumers s (settled left) (body_is s (settled left) q)) ∙ n in
            true≢false (sym (filter_full (λ d. not (same d.name c.name)) a.consumers all c (found_in (λ d. same d.name name) c a.consumers e).0) ∙ ap not (same_self c.name))

-- ---- consumers that are changed

-- two maps that agree on a list agree on each element
same_at : {X Y : Type 0} (f g : X → Y) (xs : List X) → map f xs ≡ map g xs → (x : X) → IsIn x xs → f x ≡ g x
same_at f g [] e x i = elim i [ ]
same_at {X} {Y} f g (y ∷ ys) e x i = go x i (head_is e) (tail_is e) (same_at f g ys)
  where
    head_is : {a b : Y} {more others : List Y} → a ∷ more ≡ b ∷ others → a ≡ b
    head_is q = cc

    tail_is : {a b : Y} {more others : List Y} → a ∷ more ≡ b ∷ others → more ≡ others
    tail_is q = cc

    go : (x : X) → IsIn x (y ∷ ys) → f y ≡ g y → map f ys ≡ map g ys → (map f ys ≡ map g ys → (x : X) → IsIn x ys → f x ≡ g x) → f x ≡ g x
    go x here h t r = h
    go x (there j) h t r = r t x j

module _ (a : Stream) (name : Bytes) (c : Consumer) (h : IsSoundStream a) (found : by_name a.consumers name ≡ Some c) where
  -- the consumer in its place outlives a crash as it did
  pub same_new : (new : Consumer) → new.name ≡ c.name → body_of a ≡ body_of (with_consumer a new) → lasting_consumer c ≡ lasting_consumer new
  same_new new n q =
      same_at lasting_consumer (λ d. lasting_consumer (in_place_of new d)) a.consumers (ap (λ (b : Body). b.consumers) q ∙ map_twice (in_place_of new) lasting_consumer a.consumers) c (found_in (λ d. same d.name name) c a.consumers found).0
      ∙ ap lasting_consumer (placed_same new c (sym n))

  no_ended : (ended : ℕ → Bool) (low high : ℕ) → lasting_consumer c ≡ lasting_consumer (without ended c) → ended_effects ended low high c ≡ []
  no_ended ended low high e = ap (λ (b : Bool). cond b (Acked c.name low high ∷ []) []) (or_from (list_any ended (pending_seqs c)) (list_any ended c.given_up) waits gave)
    where
      not_not : (t : ℕ → Bool) (xs : List ℕ) → list_any (λ x. not (not (t x))) xs ≡ list_any t xs
      not_not t [] = refl
      not_not t (x ∷ xs) = go (t x) (not_not t xs)
        where
          go : (b : Bool) → list_any (λ x. not (not (t x))) xs ≡ list_any t xs → (not (not b) || list_any (λ x. not (not (t x))) xs) ≡ (b || list_any t xs)
          go true k = refl
          go false k = k

      seqs_pass : (ps : List Pending) → ((p : Pending) → IsIn p ps → not (ended p.seq) ≡ true) → (n : ℕ) → IsIn n (map (λ p. p.seq) ps) → not (ended n) ≡ true
      seqs_pass [] k n i = elim i [ ]
      seqs_pass (p ∷ ps) k n here = k p here
      seqs_pass (p ∷ ps) k n (there i) = seqs_pass ps (λ x j. k x (there j)) n i

      waits : list_any ended (pending_seqs c) ≡ false
      waits =
          sym (not_not ended (pending_seqs c))
          ∙ none_fail (λ n. not (ended n)) (pending_seqs c) (seqs_pass c.pending (filter_full (λ p. not (ended p.seq)) c.pending (sym (ap (λ (d : Consumer). length d.pending) e))))

      gave : list_any ended c.given_up ≡ false
      gave = sym (not_not ended c.given_up) ∙ none_fail (λ n. not (ended n)) c.given_up (filter_full (λ n. not (ended n)) c.given_up (sym (ap (λ (d : Consumer). length d.given_up) e)))

  no_due : (n due : ℕ) → lasting_consumer c ≡ lasting_consumer (with_due n due c) → due_effects n due c ≡ []
  no_due n due e = ap (λ (b : Bool). cond b (Due c.name n due ∷ []) []) (none c.pending (λ p i. same_at (λ p. p) (moved n due) c.pending (map-id c.pending ∙ ap (λ (d : Consumer). d.pending) e) p i))
    where
      each : (p : Pending) → p ≡ moved n due p → ((p.seq == n) && not (p.due == due)) ≡ false
      each p q = go (p.seq == n) q
        where
          go : (b : Bool) → p ≡ cond b (record p { due = due }) p → (b && not (p.due == due)) ≡ false
          go true w = ap not (eq-eqb p.due due (ap (λ (x : Pending). x.due) w))
          go false w = refl

      none : (ps : List Pending) → ((p : Pending) → IsIn p ps → p ≡ moved n due p) → list_any (λ p. (p.seq == n) && not (p.due == due)) ps ≡ false
      none [] k = refl
      none (p ∷ ps) k = or_from ((p.seq == n) && not (p.due == due)) (list_any (λ p. (p.seq == n) && not (p.due == due)) ps) (each p (k p here)) (none ps (λ x i. k x (there i)))

  no_acknowledged : (reply : Option Bytes) (n : ℕ) (kind : AckKind) → lasting_consumer c ≡ lasting_consumer (after_ack a.moment reply n kind c) → acknowledged_effects a.moment n kind c ≡ []
  no_acknowledged reply n Acknowledge e = no_ended (ends c.config.ack_policy n) (first_ended c.config.ack_policy n) n e
  no_acknowledged reply n (Nak delay) e = no_due n (plus a.moment delay) e
  no_acknowledged reply n Wpi e = no_due n (plus a.moment c.config.ack_wait) e
  no_acknowledged reply n (Next ask) e = no_ended (ends c.config.ack_policy n) (first_ended c.config.ack_policy n) n (e ∙ lasting_pulled a.moment reply (Some ask) (acknowledged a.moment n (Next ask) c))
  no_acknowledged reply n Term e = no_ended (λ m. m == n) n n e

  lighter : (reply : Option Bytes) (n : ℕ) (kind : AckKind) → weight (after_ack a.moment reply n kind c) ≤ weight c
  lighter reply n Acknowledge = weight_parts c (without (ends c.config.ack_policy n) c) (filter_part _ c.pending) (filter_part _ c.given_up)
  lighter reply n (Nak delay) = let e : length (map (moved n (plus a.moment delay)) c.pending) ≡ length c.pending = length-map c.pending (moved n (plus a.moment delay)) in omega arith
  lighter reply n Wpi = let e : length (map (moved n (plus a.moment c.config.ack_wait)) c.pending) ≡ length c.pending = length-map c.pending (moved n (plus a.moment c.config.ack_wait)) in omega arith
  lighter reply n (Next ask) =
      subst (λ (w : ℕ). w ≤ weight c) (sym (ap weight (lasting_pulled a.moment reply (Some ask) (acknowledged a.moment n (Next ask) c))))
      (weight_parts c (without (ends c.config.ack_policy n) c) (filter_part _ c.pending) (filter_part _ c.given_up))
  lighter reply n Term = weight_parts c (without (λ m. m == n) c) (filter_part _ c.pending) (filter_part _ c.given_up)

rests_ack : (a : Stream) (reply : Option Bytes) (ack : Ack) (room : Bool) → IsSoundStream a → OwnRests a (AckIt reply ack) room
rests_ack a reply ack room h = go (by_name a.consumers ack.consumer) refl
  where
    state : Option Consumer → State
    state c = (ack_answer a reply ack.seq ack.kind c).state

    done : (c : Consumer) → by_name a.consumers ack.consumer ≡ Some c → (b : Bool) → is_no_delivery c ack.seq ≡ b → OwnRests a (AckIt reply ack) room
    done c e true q =
        falling a (ap state e ∙ ap (λ (b : Bool). (cond b (quietly Silent a) (ack_done a reply ack.seq ack.kind c)).state) q) refl (falls_none a)
        (λ r. ap (ack_effects a ack.seq ack.kind) e ∙ ap (λ (b : Bool). cond b [] (acknowledged_effects a.moment ack.seq ack.kind c)) q)
    done c e false q =
        falling (with_consumer a (after_ack a.moment reply ack.seq ack.kind c)) (ap state e ∙ ap (λ (b : Bool). (cond b (quietly Silent a) (ack_done a reply ack.seq ack.kind c)).state) q) refl
        (falls_with a ack.consumer c (after_ack a.moment reply ack.seq ack.kind c) h.ordered e (after_ack-name a.moment reply ack.seq ack.kind c) (lighter a ack.consumer c h e reply ack.seq ack.kind))
        (λ r. ap (ack_effects a ack.seq ack.kind) e ∙ ap (λ (b : Bool). cond b [] (acknowledged_effects a.moment ack.seq ack.kind c)) q
        ∙ no_acknowledged a ack.consumer c h e reply ack.seq ack.kind (same_new a ack.consumer c h e (after_ack a.moment reply ack.seq ack.kind c) (after_ack-name a.moment reply ack.seq ack.kind c) r))

    go : (c : Option Consumer) → by_name a.consumers ack.consumer ≡ c → OwnRests a (AckIt reply ack) room
    go None e = falling a (ap state e) refl (falls_none a) (λ q. ap (ack_effects a ack.seq ack.kind) e)
    go (Some c) e = done c e (is_no_delivery c ack.seq) refl

rests_pull : (a : Stream) (reply : Option Bytes) (name : Bytes) (ask : Option Ask) (room : Bool) → IsSoundStream a → OwnRests a (PullIt reply name ask) room
rests_pull a reply name ask room h = go (by_name a.consumers name) refl
  where
    go : (c : Option Consumer) → by_name a.consumers name ≡ c → OwnRests a (PullIt reply name ask) room
    go None e = falling a (ap (λ (c : Option Consumer). (pull_answer a reply ask c).state) e) refl (falls_none a) (λ q. refl)
    go (Some c) e =
        falling (with_consumer a (pulled a.moment reply ask c)) (ap (λ (c : Option Consumer). (pull_answer a reply ask c).state) e) refl
        (falls_with a name c (pulled a.moment reply ask c) h.ordered e (pulled-name a.moment reply ask c) (let w : weight (pulled a.moment reply ask c) ≡ weight c = ap weight (lasting_pulled a.moment reply ask c) in omega arith))
        (λ q. refl)

-- ---- each event

pub own_rests : (a : Stream) (what : What) (room : Bool) → IsSoundStream a → OwnRests a what room
own_rests a (Make reply config) room h = falling a (same_state (Live a) (same_stream_config config a.config) (stream_told a) (refused other_config a) refl refl) refl (falls_none a) (λ q. refl)
own_rests a (Change reply config) room h = rests_change a reply config room
own_rests a (DropStream reply) room h = other (λ s l n q. live_vacant s a.incarnation q)
own_rests a (PublishIt p) room h = rests_publish a p room
own_rests a (Purge reply pattern below keep) room h =
    falling (without_messages a (purge_list a pattern below keep)) refl refl (falls_only a (without_messages a (purge_list a pattern below keep)).messages (filter_part _ a.messages)) (rests_without a (purge_list a pattern below keep))
own_rests a (Delete reply n) room h = rests_delete a reply n room
own_rests a (MakeConsumer reply name config update) room h = rests_make a reply name config update room
own_rests a (DropConsumer reply name) room h = rests_drop a reply name room
own_rests a (AckIt reply ack) room h = rests_ack a reply ack room h
own_rests a (PullIt reply name ask) room h = rests_pull a reply name ask room h
own_rests a Tick room h = falling a refl refl (falls_none a) (λ q. refl)
own_rests a (AskStream reply) room h = falling a refl refl (falls_none a) (λ q. refl)
own_rests a (MessageGet reply by) room h = falling a (message_state a (message_by a by)) refl (falls_none a) (λ q. refl)
own_rests a (AskConsumer reply name) room h = falling a (told_state a (by_name (settled a).consumers name)) refl (falls_none a) (λ q. refl)
own_rests a (ConsumerNames reply offset) room h = falling a refl refl (falls_none a) (λ q. refl)
own_rests a (ConsumerList reply offset) room h = falling a refl refl (falls_none a) (λ q. refl)
