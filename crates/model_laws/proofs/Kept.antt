-- Why a stored message is gone after an event or a delivery.
use Rattle.std.proofs.Common.{◌≡◌, ℕ, ◌+◌, Bool, true, false, ◌||◌, not, cond, List, [], ◌∷◌, ◌++◌, refl, sym, ap, ◌∙◌, subst, ◌⊎◌, inl, inr}
use Rattle.std.specs.Prelude.{Option, Some, None, filter, ◌==◌, ⊤, IsTrue}
use Rattle.std.proofs.lemmas.Bool.{eqb-true, and_parts}
use Rattle.js_base.specs.Bytes.{Bytes, has}
use Rattle.js_base.specs.declared.out.Out.{Out}
use Rattle.js_base.specs.declared.out.ApiError.{ApiError}
use Rattle.js_model.specs.declared.stream_config.StreamConfig.{StreamConfig}
use Rattle.js_model.specs.declared.consumer_config.ConsumerConfig.{ConsumerConfig}
use Rattle.js_model.specs.declared.stream.Message.{Message}
use Rattle.js_model.specs.declared.stream.Stream.{Stream}
use Rattle.js_model.specs.declared.stream.State.{State}
use Rattle.js_model.specs.declared.stream.State.TheVariants.{Vacant, Live}
use Rattle.js_model.specs.declared.consumer.Consumer.{Consumer}
use Rattle.js_model.specs.declared.ack.Ask.{Ask}
use Rattle.js_model.specs.declared.ack.AckKind.{AckKind}
use Rattle.js_model.specs.declared.event.Event.{Event}
use Rattle.js_model.specs.declared.event.Publish.{Publish}
use Rattle.js_model.specs.declared.event.What.{What}
use Rattle.js_model.specs.declared.event.What.TheVariants.{Make, Change, Drop as DropStream, Publish as PublishIt, Purge, Delete, MakeConsumer, DropConsumer, Ack as AckIt, Pull as PullIt, Tick, StreamInfo as AskStream, MessageGet, ConsumerInfo as AskConsumer, ConsumerNames, ConsumerList}
use Rattle.js_model.specs.declared.reply.Reply.{Reply}
use Rattle.js_model.specs.declared.reply.Verdict.{Verdict}
use Rattle.js_model.specs.declared.reply.Verdict.TheVariants.{Take, Duplicate as TakenBefore, Refused as RefusedBy}
use Rattle.js_model.specs.declared.entry.Delivery.{Delivery}
use Rattle.js_model.specs.declared.entry.PlaceEntry.{PlaceEntry}
use Rattle.js_model.specs.declared.entry.PlaceEntry.TheVariants.{Step, Deliver, Broken}
use Rattle.js_model.specs.declared.entry.Call.TheVariants.{Step as StepOf, Deliver as DeliverOf}
use Rattle.js_model.specs.declared.reply.Answer.{Answer}
use Rattle.js_model.specs.Streams.{seqs, by_name, with_consumer}
use Rattle.js_model.specs.Refusals.{first_refusal}
use Rattle.js_model.specs.Configs.{same_stream_config, same_consumer_config, same_retention}
use Rattle.js_model.specs.Proper.{is_proper_what}
use Rattle.js_model.specs.Advance.{advance}
use Rattle.js_model.specs.Retention.{kept, is_kept}
use Rattle.js_model.specs.Trim.{trim}
use Rattle.js_model.specs.Verdict.{verdict, message_of}
use Rattle.js_model.specs.Acknowledge.{is_no_delivery}
use Rattle.js_model.specs.Consumers.{making_checks, with_new, new_consumer}
use Rattle.js_model.specs.Events.{stream_answer, with_config, answered, settled, settled_state, published, with_id, purge_list, deleted, message_at, message_told, message_by, told_of, consumer_made, or_no_room, consumer_asked, consumer_dropped, pull_answer, ack_answer, IsEvent}
use Rattle.js_model.specs.Deliver.{IsDelivery}
use Rattle.js_model.specs.Runs.{RunFrom, messages_of}
use Rattle.model_laws.proofs.Whole.{join, IsSoundStream, IsSoundState}
use Rattle.model_laws.specs.Leaving.{IsAged, IsTrimmed, IsUnneededWithinLimits, Leaves, LeavesOnEvent, aged, purged, deleted as deleted_it, dropped, trimmed, unneeded, LeavesOnDelivery, aged_by_then, not_needed}
use Rattle.model_laws.specs.Laws.{LawKept}
use Rattle.model_laws.proofs.Facts.{IfLive, at_answer}
use Rattle.js_model.proofs.Members.{IsIn, in_push, found_in, in_from_contains, contains_from_in}
use Rattle.js_model.proofs.Parts.{trim_part}
use Rattle.js_model.specs.Lists.{Between}
use Rattle.model_laws.proofs.PushedOut.{pushed_out, purge_takes}
use Rattle.model_laws.proofs.Leaving.{young_or_aged, in_part_by_seq, kept_or_unneeded, in_passing}
use Rattle.model_laws.proofs.SoundTime.{sound_time}
use Rattle.model_laws.proofs.Sounding.{IsProperWhat, sound_fact, sound_run}

-- what an event leaves before limits and retention holds the message
abbrev Holds : Message → State → Type 0
Holds m s = IfLive ⊥ (λ t. IsIn m t.messages) s

module _ (m : Message) where
  if_either : (b : Bool) (x y : Answer) → Holds m x.state → Holds m y.state → Holds m (cond b x y).state
  if_either true x y h k = h
  if_either false x y h k = k

  if_told : (a : Stream) (c : Option Consumer) → IsIn m a.messages → Holds m (told_of a c).state
  if_told a None h = h
  if_told a (Some c) h = h

  if_published : (a : Stream) (p : Publish) (v : Verdict) → IsIn m a.messages → Holds m (published a p v).state
  if_published a p Take h = go p.wants.id
    where
      go : (id : Bytes) → IsIn m (with_id (record a { messages = a.messages ++ message_of a p ∷ []; last = a.last + 1 }) id).messages
      go [] = in_push a.messages (message_of a p ∷ []) h
      go (byte ∷ more) = in_push a.messages (message_of a p ∷ []) h
  if_published a p (TakenBefore n) h = h
  if_published a p (RefusedBy e) h = h

  if_message : (a : Stream) (o : Option Message) → IsIn m a.messages → Holds m (message_told a o).state
  if_message a None h = h
  if_message a (Some x) h = h

  if_asked : (a : Stream) (name : Bytes) (config : ConsumerConfig) (update room : Bool) (c : Option Consumer) → IsIn m a.messages → Holds m (consumer_asked a name config update room c).state
  if_asked a name config true room None h = h
  if_asked a name config false room None h = go (or_no_room room (first_refusal (making_checks a name config)))
    where
      go : (e : Option ApiError) → Holds m (consumer_made a name config e).state
      go None = if_told (record a { consumers = with_new a.consumers (new_consumer a name config) }) _ h
      go (Some e) = h
  if_asked a name config true room (Some c) h = if_either (same_consumer_config config c.config) _ _ (if_told a _ h) h
  if_asked a name config false room (Some c) h = if_either (same_consumer_config config c.config) _ _ (if_told a _ h) h

  if_config : (a : Stream) (config : StreamConfig) (room : Bool) → IsIn m a.messages → Holds m (with_config a config room).state
  if_config a config true h = h
  if_config a config false h = if_either (same_stream_config config a.config) _ _ h h

  if_dropped : (a : Stream) (c : Option Consumer) → IsIn m a.messages → Holds m (consumer_dropped a c).state
  if_dropped a None h = h
  if_dropped a (Some c) h = h

  if_pulled : (a : Stream) (reply : Option Bytes) (ask : Option Ask) (c : Option Consumer) → IsIn m a.messages → Holds m (pull_answer a reply ask c).state
  if_pulled a reply ask None h = h
  if_pulled a reply ask (Some c) h = h

  if_acked : (a : Stream) (reply : Option Bytes) (n : ℕ) (kind : AckKind) (c : Option Consumer) → IsIn m a.messages → Holds m (ack_answer a reply n kind c).state
  if_acked a reply n kind None h = h
  if_acked a reply n kind (Some c) h = if_either (is_no_delivery c n) _ _ h h

  -- ---- the events that remove messages

  if_purged : (s : Stream) (now : ℕ) (new : State) (e : Event) (reply : Option Bytes) (pattern : Bytes) (below keep : Option ℕ) (room : Bool) → e.what ≡ Purge reply pattern below keep → Between (λ m. m.seq) 1 ((advance s now).last + 1) (advance s now).messages → IsIn m (advance s now).messages
      → LeavesOnEvent s e now new m ⊎ Holds m (stream_answer (advance s now) (Purge reply pattern below keep) room).state
  if_purged s now new e reply pattern below keep room is ascending h = go (has (seqs (purge_list (advance s now) pattern below keep)) m.seq) refl
    where
      go : (b : Bool) → has (seqs (purge_list (advance s now) pattern below keep)) m.seq ≡ b → LeavesOnEvent s e now new m ⊎ IsIn m (filter (λ x. not (has (seqs (purge_list (advance s now) pattern below keep)) x.seq)) (advance s now).messages)
      go true q = inl (purged reply pattern below keep is (purge_takes (advance s now) pattern below keep m ((advance s now).last + 1) ascending h q))
      go false q = inr (in_passing (λ x. not (has (seqs (purge_list (advance s now) pattern below keep)) x.seq)) m (advance s now).messages h (ap not q))

  if_deleted : (s : Stream) (now : ℕ) (new : State) (e : Event) (reply : Option Bytes) (n : ℕ) (room : Bool) → e.what ≡ Delete reply n → IsIn m (advance s now).messages
      → LeavesOnEvent s e now new m ⊎ Holds m (stream_answer (advance s now) (Delete reply n) room).state
  if_deleted s now new e reply n room is h = go (message_at (advance s now) n) refl
    where
      gone : (d : Message) → message_at (advance s now) n ≡ Some d → (b : Bool) → (d.seq == m.seq) ≡ b → LeavesOnEvent s e now new m ⊎ IsIn m (filter (λ x. not (has (d.seq ∷ []) x.seq)) (advance s now).messages)
      gone d f true q = inl (deleted_it reply (is ∙ ap (Delete reply) (sym (eqb-true d.seq n (found_in (λ x. x.seq == n) d (advance s now).messages f).1) ∙ eqb-true d.seq m.seq q)))
      gone d f false q = inr (in_passing (λ x. not (has (d.seq ∷ []) x.seq)) m (advance s now).messages h (ap (λ (b : Bool). not (b || false)) q))

      go : (o : Option Message) → message_at (advance s now) n ≡ o → LeavesOnEvent s e now new m ⊎ Holds m (deleted (advance s now) o).state
      go None f = inr h
      go (Some d) f = gone d f (d.seq == m.seq) refl

  -- the event removes the message, or what it leaves holds it
  removed_or_held : (s : Stream) (now : ℕ) (new : State) (e : Event) (what : What) (room : Bool) → e.what ≡ what → Between (λ m. m.seq) 1 ((advance s now).last + 1) (advance s now).messages → IsIn m (advance s now).messages → LeavesOnEvent s e now new m ⊎ Holds m (stream_answer (advance s now) what room).state
  removed_or_held s now new e (Make reply config) room is ascending h = inr (if_either (same_stream_config config (advance s now).config) _ _ h h)
  removed_or_held s now new e (Change reply config) room is ascending h = inr (if_either (same_retention config.retention (advance s now).config.retention) _ _ (if_config (advance s now) config room h) h)
  removed_or_held s now new e (DropStream reply) room is ascending h = inl (dropped reply is)
  removed_or_held s now new e (PublishIt p) room is ascending h = inr (if_published (advance s now) p (verdict (advance s now) p room) h)
  removed_or_held s now new e (Purge reply pattern below keep) room is ascending h = if_purged s now new e reply pattern below keep room is ascending h
  removed_or_held s now new e (Delete reply n) room is ascending h = if_deleted s now new e reply n room is h
  removed_or_held s now new e (MakeConsumer reply name config update) room is ascending h = inr (if_asked (advance s now) name config update room (by_name (advance s now).consumers name) h)
  removed_or_held s now new e (DropConsumer reply name) room is ascending h = inr (if_dropped (advance s now) (by_name (advance s now).consumers name) h)
  removed_or_held s now new e (AckIt reply ack) room is ascending h = inr (if_acked (advance s now) reply ack.seq ack.kind (by_name (advance s now).consumers ack.consumer) h)
  removed_or_held s now new e (PullIt reply name ask) room is ascending h = inr (if_pulled (advance s now) reply ask (by_name (advance s now).consumers name) h)
  removed_or_held s now new e Tick room is ascending h = inr h
  removed_or_held s now new e (AskStream reply) room is ascending h = inr h
  removed_or_held s now new e (MessageGet reply by) room is ascending h = inr (if_message (advance s now) (message_by (advance s now) by) h)
  removed_or_held s now new e (AskConsumer reply name) room is ascending h = inr (if_told (advance s now) (by_name (settled (advance s now)).consumers name) h)
  removed_or_held s now new e (ConsumerNames reply offset) room is ascending h = inr h
  removed_or_held s now new e (ConsumerList reply offset) room is ascending h = inr h

  -- ---- limits and retention

  settling : (s : Stream) (now : ℕ) (new : State) (e : Event) (room : Bool) (st : State) → (answered (Live s) e now room).state ≡ new → (stream_answer (advance s now) e.what room).state ≡ st → settled_state st ≡ new
      → Holds m st → IfLive ⊤ IsSoundStream st → (IsIn m (messages_of new) → ⊥) → LeavesOnEvent s e now new m
  settling s now new e room (Vacant i) own is left h k gone = absurd h
  settling s now new e room (Live t) own is left h k gone = go (has (seqs (trim t).messages) m.seq) refl
    where
      within : IsIn m (trim t).messages → IsIn m (kept (trim t)).messages ⊎ (is_kept (trim t).config.retention (trim t).consumers m ≡ false) → LeavesOnEvent s e now new m
      within i (inl w) = absurd (gone (subst (λ (z : State). IsIn m (messages_of z)) left w))
      within i (inr w) = unneeded room own (subst (λ (z : State). IsUnneededWithinLimits z m) (sym is) (contains_from_in (trim t).messages m i, w))

      go : (b : Bool) → has (seqs (trim t).messages) m.seq ≡ b → LeavesOnEvent s e now new m
      go true q = let i = in_part_by_seq 1 (t.last + 1) m (trim_part t) k.messages h q in within i (kept_or_unneeded (trim t) m i)
      go false q = trimmed room own (subst (λ (z : State). IsTrimmed z m) (sym is) (contains_from_in t.messages m h, pushed_out t m (t.last + 1) k.messages h q))

  after_event : (s : Stream) (new : State) (e : Event) (now : ℕ) (reply : Reply) (outs : List Out) → IsSoundStream s → IsEvent (Live s) e now reply outs new → IsTrue (is_proper_what e.what)
      → IsIn m s.messages → (IsIn m (messages_of new) → ⊥) → LeavesOnEvent s e now new m
  unfolding answered
  after_event s new e now reply outs k x proper h gone = either (young_or_aged s now m h)
    where
      own : (answered (Live s) e now x.room).state ≡ new
      own = ap (λ (a : Answer). a.state) x.answers

      young : LeavesOnEvent s e now new m ⊎ Holds m (stream_answer (advance s now) e.what x.room).state → LeavesOnEvent s e now new m
      young (inl w) = w
      young (inr w) = settling s now new e x.room _ own refl own w (at_answer IsProperWhat ⊤ IsSoundStream sound_fact (advance s now) e.what x.room proper (sound_time s now k)) gone

      either : IsIn m (advance s now).messages ⊎ IsAged s now m → LeavesOnEvent s e now new m
      either (inl w) = young (removed_or_held s now new e e.what x.room refl (sound_time s now k).messages w)
      either (inr w) = aged w

  after_delivery : (s : Stream) (new : State) (now : ℕ) (listening : List Bytes) (d : Delivery) (outs : List Out) → IsDelivery s now listening d outs new
      → IsIn m s.messages → (IsIn m (messages_of new) → ⊥) → LeavesOnDelivery s now listening d new m
  after_delivery s new now listening d outs x h gone = either (young_or_aged s now m h)
    where
      after : Stream
      after = with_consumer (advance s now) x.after

      young : IsIn m (advance s now).messages → IsIn m (kept after).messages ⊎ (is_kept after.config.retention after.consumers m ≡ false) → LeavesOnDelivery s now listening d new m
      young i (inl w) = absurd (gone (subst (λ (z : State). IsIn m (messages_of z)) (sym x.new_is) w))
      young i (inr w) = not_needed outs x (contains_from_in after.messages m i, w)

      either : IsIn m (advance s now).messages ⊎ IsAged s now m → LeavesOnDelivery s now listening d new m
      either (inl w) = young w (kept_or_unneeded after m w)
      either (inr w) = aged_by_then w

  leaving : (later : ℕ) (old new : State) (entry : PlaceEntry) → IsSoundState old → RunFrom later old (entry ∷ []) new → IsIn m (messages_of old) → (IsIn m (messages_of new) → ⊥) → Leaves old entry new m
  leaving later (Vacant i) new entry k r h gone = elim h [ ]
  leaving later (Live s) new (Step seat e now reply outs unsaid) k (mid, x, q) h gone =
      subst (λ (z : State). LeavesOnEvent s e now z m) q
      (after_event s mid e now reply outs k x.event (and_parts _ _ x.proper).1 h (λ i. gone (subst (λ (z : State). IsIn m (messages_of z)) q i)))
  leaving later (Live s) new (Deliver seat now listening d outs) k (mid, x, q) h gone =
      subst (λ (z : State). LeavesOnDelivery s now listening d z m) q
      (after_delivery s mid now listening d outs x.delivered h (λ i. gone (subst (λ (z : State). IsIn m (messages_of z)) q i)))
  leaving later (Live s) new (Broken seat now (StepOf e)) k (reply, outs, x) h gone = after_event s new e now reply outs k x.event (and_parts _ _ x.proper).1 h gone
  leaving later (Live s) new (Broken seat now (DeliverOf listening d)) k (outs, x) h gone = after_delivery s new now listening d outs x.delivered h gone

pub law_kept : LawKept
law_kept count later first old new entries entry m h r q there gone =
    leaving m later old new entry (sound_run count first old entries (join first h) r) q (in_from_contains (messages_of old) m there) (λ i. gone (contains_from_in (messages_of new) m i))
