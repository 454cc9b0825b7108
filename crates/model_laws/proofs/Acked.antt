-- A sequence whose entry an acknowledgement ended is not sent again.
use Rattle.std.proofs.Common.{◌≡◌, ℕ, ◌+◌, ◌<◌, Bool, true, false, List, [], ◌∷◌, length, refl, sym, ◌∙◌, subst, ◌⊎◌, inl, inr}
use Rattle.std.specs.Prelude.{Option, Some, None, ⊤, MatchBool, nat_le}
use Rattle.std.proofs.lemmas.Bool.{true≢false, or_cases, or_parts, and_left, and_right, leb-true, leb-false}
use Rattle.js_base.specs.Bytes.{Bytes, same, has}
use Rattle.js_base.specs.declared.out.Out.{Out}
use Rattle.js_model.specs.Lists.{Between}
use Rattle.js_model.specs.declared.stream.Message.{Message}
use Rattle.js_model.specs.declared.stream.Stream.{Stream}
use Rattle.js_model.specs.declared.stream.State.{State}
use Rattle.js_model.specs.declared.stream.State.TheVariants.{Vacant, Live}
use Rattle.js_model.specs.declared.consumer.Consumer.{Consumer}
use Rattle.js_model.specs.declared.event.Event.{Event}
use Rattle.js_model.specs.declared.event.What.{What}
use Rattle.js_model.specs.declared.event.What.TheVariants.{Make, Change, Drop as DropStream, Publish as PublishIt, Purge, Delete, MakeConsumer, DropConsumer, Ack as AckIt, Pull as PullIt, Tick, StreamInfo as AskStream, MessageGet, ConsumerInfo as AskConsumer, ConsumerNames, ConsumerList}
use Rattle.js_model.specs.declared.reply.Reply.{Reply}
use Rattle.js_model.specs.declared.entry.Delivery.{Delivery}
use Rattle.js_model.specs.declared.entry.PlaceEntry.{PlaceEntry}
use Rattle.js_model.specs.declared.entry.PlaceEntry.TheVariants.{Step, Deliver, Broken}
use Rattle.js_model.specs.declared.entry.Call.TheVariants.{Step as StepOf, Deliver as DeliverOf}
use Rattle.js_model.specs.Streams.{by_name, pending_seqs}
use Rattle.js_model.specs.Advance.{advance}
use Rattle.js_model.specs.Deliver.{IsDelivery, IsDelivered}
use Rattle.js_model.specs.Runs.{RunFrom, IsStep, new_messages}
use Rattle.model_laws.proofs.Whole.{join, IsSoundConsumer, IsSoundStream, IsSoundState}
use Rattle.model_laws.specs.OneConsumer.{drops, consumer_of}
use Rattle.model_laws.specs.Acked.{NeverSent, EndsEntry, acknowledges, sends, has_entry}
use Rattle.model_laws.specs.Laws.{LawAcked}
use Rattle.js_model.proofs.Named.{stands-at, same_is}
use Rattle.js_model.proofs.Lacking.{lacks-from_map, apart-swapped}
use Rattle.model_laws.proofs.SoundTime.{sound_time}
use Rattle.model_laws.proofs.SoundSent.{none_above, seqs_between}
use Rattle.model_laws.proofs.SoundAcks.{All-by_name}
use Rattle.model_laws.proofs.ConsumerFacts.{InStream, InState, in_event, in_at_time, in_delivery, its}
use Rattle.model_laws.proofs.Settled.{IsPassed, IsSettled, passed_kept, settled_kept, settled_after, not_sent}

-- ---- the induction

module _ (name : Bytes) (n : ℕ) where
  not_to_it : (s : Stream) (now : ℕ) (listening : List Bytes) (d : Delivery) (outs : List Out) (new : State) → IsDelivery s now listening d outs new → InStream name (IsSettled n) s → sends name n d ≡ false
  not_to_it s now listening d outs new x h = go (same d.consumer name) refl
    where
      go : (b : Bool) → same d.consumer name ≡ b → sends name n d ≡ false
      go true e = and_right _ _ (not_sent n (advance s now) listening x.consumer x.after d.what x.own x.delivers (its name (IsSettled n) (IsSettled n) (settled_kept n) (settled_kept n) s now listening d outs new x (same_is d.consumer name e) h))
      go false e = and_left _ _ e

  not_sent_by : (old new : State) (now : ℕ) (listening : List Bytes) (d : Delivery) (outs : List Out) → IsDelivered old now listening d outs new → InState name (IsSettled n) old → sends name n d ≡ false
  not_sent_by (Vacant i) new now listening d outs x h = absurd h
  not_sent_by (Live s) new now listening d outs x h = not_to_it s now listening d outs new x h

  delivery_keeps : (old new : State) (now : ℕ) (listening : List Bytes) (d : Delivery) (outs : List Out) → IsDelivered old now listening d outs new → InState name (IsSettled n) old → InState name (IsSettled n) new
  delivery_keeps (Vacant i) new now listening d outs x h = absurd h
  delivery_keeps (Live s) new now listening d outs x h =
      in_delivery name (IsSettled n) (IsSettled n) (settled_kept n) (settled_kept n) s now listening d outs new x
      (λ e p. settled_after n (advance s now) listening x.consumer x.after d.what x.own x.delivers p) (λ e c p. p) h

  pub never_sent : (count : ℕ) (old : State) (entries : List PlaceEntry) (new : State) → InState name (IsSettled n) old → RunFrom count old entries new → NeverSent name n entries
  never_sent count old [] new h r = tt
  never_sent count old (Step seat e now reply outs unsaid ∷ entries) new h (mid, x, rest) =
      unless_dropped (drops name e.what) refl
      (λ g. never_sent (count + length (new_messages old mid)) mid entries new (in_event name (IsSettled n) (settled_kept n) old mid e now reply outs x.event g h) rest)
    where
      unless_dropped : (b : Bool) → drops name e.what ≡ b → (drops name e.what ≡ false → NeverSent name n entries) → MatchBool b ⊤ (NeverSent name n entries)
      unless_dropped true q f = tt
      unless_dropped false q f = f q
  never_sent count old (Deliver seat now listening d outs ∷ entries) new h (mid, x, rest) =
      (not_sent_by old mid now listening d outs x.delivered h, never_sent (count + length (new_messages old mid)) mid entries new (delivery_keeps old mid now listening d outs x.delivered h) rest)
  never_sent count old (Broken seat now (StepOf e) ∷ entries) new h r = tt
  never_sent count old (Broken seat now (DeliverOf listening d) ∷ []) new h (outs, x) = not_sent_by old new now listening d outs x.delivered h
  never_sent count old (Broken seat now (DeliverOf listening d) ∷ entry ∷ entries) new h r = absurd r

-- ---- an entry that ends

-- an acknowledgement drops nothing
spares : (name : Bytes) (w : What) → acknowledges name w ≡ true → drops name w ≡ false
spares name (AckIt reply ack) e = refl
spares name (Make reply config) e = refl
spares name (Change reply config) e = refl
spares name (DropStream reply) e = absurd (true≢false (sym e))
spares name (PublishIt p) e = refl
spares name (Purge reply pattern below keep) e = refl
spares name (Delete reply k) e = refl
spares name (MakeConsumer reply other config update) e = refl
spares name (DropConsumer reply other) e = absurd (true≢false (sym e))
spares name (PullIt reply other ask) e = refl
spares name Tick e = refl
spares name (AskStream reply) e = refl
spares name (MessageGet reply by) e = refl
spares name (AskConsumer reply other) e = refl
spares name (ConsumerNames reply offset) e = refl
spares name (ConsumerList reply offset) e = refl

-- a sequence with an entry was delivered
pub entry_passed : (messages : List Message) (last n : ℕ) (c : Consumer) → IsSoundConsumer messages last c → has_entry n (Some c) ≡ true → IsPassed n c
entry_passed messages last n c k e = go (or_cases (has (pending_seqs c) n) (has c.given_up n) e)
  where
    below : (xs : List ℕ) → Between (λ n. n) 1 c.cursor xs → has xs n ≡ true → n < c.cursor
    below xs h there = either (nat_le c.cursor n) refl
      where
        either : (b : Bool) → nat_le c.cursor n ≡ b → n < c.cursor
        either true q = absurd (true≢false (sym there ∙ none_above n 1 c.cursor xs h (leb-true c.cursor n q)))
        either false q = leb-false c.cursor n q

    go : (has (pending_seqs c) n ≡ true) ⊎ (has c.given_up n ≡ true) → IsPassed n c
    go (inl q) = record { picks = record { none = (apart-swapped k.picks_pending).apart n q }; below = below (pending_seqs c) (seqs_between c k.pending) q }
    go (inr q) = record { picks = record { none = (apart-swapped k.picks_given_up).apart n q }; below = below c.given_up k.given_up q }

-- if the entry is gone, the sequence is settled
settled_from : (n : ℕ) (c : Consumer) → IsPassed n c → has_entry n (Some c) ≡ false → IsSettled n c
settled_from n c h e = record { passed = h; pending = lacks-from_map (λ p. p.seq) (record { none = (or_parts _ _ e).0 }) }

after_it : (name : Bytes) (n : ℕ) (new : State) → InState name (IsPassed n) new → has_entry n (consumer_of name new) ≡ false → InState name (IsSettled n) new
after_it name n (Vacant i) h e = absurd h
after_it name n (Live s) h e = stands-at h.consumer h.found (settled_from n h.consumer h.holds (subst (λ (o : Option Consumer). has_entry n o ≡ false) h.found e))

at_it : (name : Bytes) (n : ℕ) (a : Stream) → IsSoundStream a → has_entry n (by_name a.consumers name) ≡ true → InStream name (IsPassed n) a
at_it name n a h e = go (by_name a.consumers name) refl e
  where
    go : (o : Option Consumer) → by_name a.consumers name ≡ o → has_entry n o ≡ true → InStream name (IsPassed n) a
    go None q f = absurd (true≢false (sym f))
    go (Some c) q f = stands-at c q (entry_passed a.messages a.last n c (All-by_name (IsSoundConsumer a.messages a.last) a.consumers name c q h.consumers) f)

settled_by : (name : Bytes) (n count : ℕ) (old mid : State) (e : Event) (now : ℕ) (reply : Reply) (outs : List Out) → IsSoundState old → IsStep count old e now reply outs mid → EndsEntry old e now mid name n → InState name (IsSettled n) mid
settled_by name n count (Vacant i) mid e now reply outs h x w = absurd (true≢false (sym w.stood))
settled_by name n count (Live s) mid e now reply outs h x w =
    after_it name n mid (in_at_time name (IsPassed n) (passed_kept n) s mid e now reply outs x.event (spares name e.what w.event) (at_it name n (advance s now) (sound_time s now h) w.stood)) w.gone

pub law_acked : LawAcked
law_acked name n count later old mid new e now reply outs entries h x w r = never_sent name n later mid entries new (settled_by name n count old mid e now reply outs (join old h) x w) r
