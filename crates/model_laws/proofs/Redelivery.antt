-- A delivery is made again only when it is due.
use Rattle.std.proofs.Common.{◌≡◌, ℕ, ◌+◌, ◌≤◌, ◌<◌, Bool, true, false, ◌&&◌, not, cond, List, [], ◌∷◌, ◌++◌, map, max, length, refl, sym, ap, ◌∙◌, subst, arith, ◌⊎◌, inl, inr}
use Rattle.std.specs.Prelude.{Option, Some, None, option_map, find, filter, nat_lt, ◌==◌, ⊤, MatchBool}
use Rattle.std.proofs.lemmas.Bool.{true≢false, eqb-true, eqb-false, eq-eqb, ne_eqb, leb-true, and_parts, and_from, or_left, ltb-true, ltb-false}
use Rattle.js_base.specs.Bytes.{Bytes, same, has}
use Rattle.js_base.specs.Moments.{plus}
use Rattle.js_base.specs.declared.out.Out.{Out}
use Rattle.js_model.specs.declared.consumer_config.ConsumerConfig.{ConsumerConfig}
use Rattle.js_model.specs.declared.stream.Message.{Message}
use Rattle.js_model.specs.declared.stream.Stream.{Stream}
use Rattle.js_model.specs.declared.stream.State.{State}
use Rattle.js_model.specs.declared.stream.State.TheVariants.{Vacant, Live}
use Rattle.js_model.specs.declared.consumer.Pending.{Pending}
use Rattle.js_model.specs.declared.consumer.Consumer.{Consumer}
use Rattle.js_model.specs.declared.ack.Ask.{Ask}
use Rattle.js_model.specs.declared.ack.Ack.{Ack}
use Rattle.js_model.specs.declared.ack.AckKind.{AckKind}
use Rattle.js_model.specs.declared.ack.AckKind.TheVariants.{Ack as Acknowledge, Nak, Wpi, Next, Term}
use Rattle.js_model.specs.declared.event.Event.{Event}
use Rattle.js_model.specs.declared.event.Publish.{Publish}
use Rattle.js_model.specs.declared.event.What.{What}
use Rattle.js_model.specs.declared.event.What.TheVariants.{Make, Change, Drop as DropStream, Publish as PublishIt, Purge, Delete, MakeConsumer, DropConsumer, Ack as AckIt, Pull as PullIt, Tick, StreamInfo as AskStream, MessageGet, ConsumerInfo as AskConsumer, ConsumerNames, ConsumerList}
use Rattle.js_model.specs.declared.reply.Reply.{Reply}
use Rattle.js_model.specs.declared.reply.Reply.TheVariants.{Confirmed, Silent}
use Rattle.js_model.specs.declared.entry.Delivered.{Delivered}
use Rattle.js_model.specs.declared.entry.Delivered.TheVariants.{Sent, TooSmall, Emptied}
use Rattle.js_model.specs.declared.entry.Delivery.{Delivery}
use Rattle.js_model.specs.declared.entry.PlaceEntry.{PlaceEntry}
use Rattle.js_model.specs.declared.entry.PlaceEntry.TheVariants.{Step, Deliver, Broken}
use Rattle.js_model.specs.declared.entry.Call.TheVariants.{Step as StepOf, Deliver as DeliverOf}
use Rattle.js_model.specs.declared.reply.Answer.{Answer}
use Rattle.js_model.specs.Lists.{Between}
use Rattle.js_model.specs.Streams.{confined, only, seqs, by_name, with_consumer, pending_seqs, is_unacknowledged}
use Rattle.js_model.specs.Advance.{advance, consumer_at, is_spent, young}
use Rattle.js_model.specs.Retention.{kept}
use Rattle.js_model.specs.Verdict.{message_of}
use Rattle.js_model.specs.Consumers.{new_consumer}
use Rattle.js_model.specs.Acknowledge.{acknowledged, with_due, moved, is_no_delivery}
use Rattle.js_model.specs.Pulls.{pulled}
use Rattle.js_model.specs.Events.{answered, IsEvent, settled_state, stream_answer, ack_answer, ack_done, ack_reply, after_ack, pulled_next, next_ask, quietly, with_message, with_id}
use Rattle.js_model.specs.Deliver.{Delivers, IsDelivery, sent_to, with_pending, count_of, is_due}
use Rattle.js_model.specs.Runs.{RunFrom, new_messages}
use Rattle.js_model.specs.StateMoments.{moment_of}
use Rattle.model_laws.proofs.Whole.{join, IsSoundConsumer, IsSoundStream, IsSoundState}
use Rattle.model_laws.specs.OneConsumer.{drops, consumer_of}
use Rattle.model_laws.specs.Sendings.{sending_of, sending_to}
use Rattle.model_laws.specs.Redelivery.{Due, due_first, due_by, due_after_event, due_after_sent, due_after, IsAgain, IsDueSending, Redelivers}
use Rattle.model_laws.specs.Laws.{LawRedelivery}
use Rattle.js_model.proofs.Named.{stands-map, stands-found, stands-with_new, stands-without, found_named, same_is, same_self, none_some}
use Rattle.js_model.proofs.Members.{IsIn, here, there, in_cons, in_filter, in_bounds, find_one, found_in}
use Rattle.model_laws.proofs.Facts.{IsChangeFact, IsStreamFact, IfLive, change_time, change_kept, at_settled, at_kept, at_event}
use Rattle.js_model.proofs.Candidates.{IsReason, again, picked, onward, candidate_is}
use Rattle.model_laws.proofs.SoundAcks.{moved-seq, All-by_name}
use Rattle.model_laws.proofs.SoundSent.{count_waiting, count_absent, none_above, seqs_between}
use Rattle.model_laws.proofs.Sounding.{sound_step, sound_delivery, sound_found}
use Rattle.model_laws.proofs.Settled.{picks_pulled}
use Rattle.model_laws.proofs.StoredBefore.{HasConfig, config_kept, config_delivery}
use Rattle.model_laws.proofs.Ordering.{stands_of}
use Rattle.model_laws.proofs.ConsumerFacts.{InStream, InState, in_with, in_replaced, in_event, in_time, its, after_name, after_ack-name, pulled-name}

-- ---- an entry of the sequence is known

pub record IsTracked (n : ℕ) (due : Due) (c : Consumer) : Type 0 where
  pub tracked : (p : Pending) → IsIn p c.pending → p.seq ≡ n → due ≡ Some (p.count, p.due)

tracked_same : (n : ℕ) (due : Due) (c d : Consumer) → d.pending ≡ c.pending → IsTracked n due c → IsTracked n due d
tracked_same n due c d e h = record { tracked = λ p i q. h.tracked p (subst (IsIn p) e i) q }

tracked_filter : (n : ℕ) (due : Due) (t : Pending → Bool) (c d : Consumer) → d.pending ≡ filter t c.pending → IsTracked n due c → IsTracked n due d
tracked_filter n due t c d e h = record { tracked = λ p i q. h.tracked p (in_filter t p c.pending (subst (IsIn p) e i)).0 q }

pub in_map : {X Y : Type 0} (f : X → Y) (y : Y) (xs : List X) → IsIn y (map f xs) → (x : X) × IsIn x xs × (f x ≡ y)
in_map f y [] i = elim i [ ]
in_map {X} f y (x ∷ xs) i = go (in_map f y xs) (in_cons i)
  where
    go : (IsIn y (map f xs) → (z : X) × IsIn z xs × (f z ≡ y)) → (f x ≡ y) ⊎ IsIn y (map f xs) → (z : X) × IsIn z (x ∷ xs) × (f z ≡ y)
    go r (inl e) = (x, here, e)
    go r (inr e) = let w = r e in (w.0, there w.1, w.2)

-- moving another entry
tracked_other : (n : ℕ) (due : Due) (k to : ℕ) (c : Consumer) → (k == n) ≡ false → IsTracked n due c → IsTracked n due (with_due k to c)
tracked_other n due k to c e h = record { tracked = tracked }
  where
    tracked : (p : Pending) → IsIn p (map (moved k to) c.pending) → p.seq ≡ n → due ≡ Some (p.count, p.due)
    tracked p i q = subst (λ (z : Pending). due ≡ Some (z.count, z.due)) (sym stays ∙ w.2) (h.tracked w.0 w.1 seq_is)
      where
        w : (x : Pending) × IsIn x c.pending × (moved k to x ≡ p)
        w = in_map (moved k to) p c.pending i

        seq_is : w.0.seq ≡ n
        seq_is = sym (moved-seq k to w.0) ∙ ap (λ (z : Pending). z.seq) w.2 ∙ q

        stays : moved k to w.0 ≡ w.0
        stays = ap (λ (b : Bool). cond b (record w.0 { due = to }) w.0) (ne_eqb w.0.seq k (λ r. eqb-false k n e (sym r ∙ seq_is)))

-- moving this one
tracked_moved : (n : ℕ) (due : Due) (to : ℕ) (f : ℕ × ℕ → ℕ × ℕ) (c : Consumer) → ((x : ℕ × ℕ) → f x ≡ (x.0, to)) → IsTracked n due c → IsTracked n (option_map f due) (with_due n to c)
tracked_moved n due to f c g h = record { tracked = tracked }
  where
    tracked : (p : Pending) → IsIn p (map (moved n to) c.pending) → p.seq ≡ n → option_map f due ≡ Some (p.count, p.due)
    tracked p i q = ap (option_map f) (h.tracked w.0 w.1 seq_is) ∙ ap Some (g (w.0.count, w.0.due)) ∙ ap (λ (z : Pending). Some (z.count, z.due)) (sym moves ∙ w.2)
      where
        w : (x : Pending) × IsIn x c.pending × (moved n to x ≡ p)
        w = in_map (moved n to) p c.pending i

        seq_is : w.0.seq ≡ n
        seq_is = sym (moved-seq n to w.0) ∙ ap (λ (z : Pending). z.seq) w.2 ∙ q

        moves : moved n to w.0 ≡ record w.0 { due = to }
        moves = ap (λ (b : Bool). cond b (record w.0 { due = to }) w.0) (eq-eqb w.0.seq n seq_is)

-- ---- events that leave the moment of the sequence

is_reset : AckKind → Bool
is_reset (Nak delay) = true
is_reset Wpi = true
is_reset _ = false

resets : Bytes → ℕ → What → Bool
resets name n (AckIt reply ack) = same ack.consumer name && (ack.seq == n && is_reset ack.kind)
resets name n _ = false

tracked_acknowledged : (n : ℕ) (due : Due) (now k : ℕ) (kind : AckKind) (c : Consumer) → ((k == n) && is_reset kind) ≡ false → IsTracked n due c → IsTracked n due (acknowledged now k kind c)
unfolding is_reset
tracked_acknowledged n due now k Acknowledge c e h = tracked_filter n due _ c _ refl h
tracked_acknowledged n due now k (Nak delay) c e h = tracked_other n due k (plus now delay) c (off (k == n) e) h
  where
    off : (b : Bool) → (b && true) ≡ false → b ≡ false
    off true q = q
    off false q = refl
tracked_acknowledged n due now k Wpi c e h = tracked_other n due k (plus now c.config.ack_wait) c (off (k == n) e) h
  where
    off : (b : Bool) → (b && true) ≡ false → b ≡ false
    off true q = q
    off false q = refl
tracked_acknowledged n due now k (Next ask) c e h = tracked_filter n due _ c _ refl h
tracked_acknowledged n due now k Term c e h = tracked_filter n due _ c _ refl h

tracked_pulled : (n : ℕ) (due : Due) (now : ℕ) (reply : Option Bytes) (ask : Option Ask) (c : Consumer) → IsTracked n due c → IsTracked n due (pulled now reply ask c)
tracked_pulled n due now reply ask c h = tracked_same n due c (pulled now reply ask c) (picks_pulled now reply ask c).2 h

tracked_after_ack : (n : ℕ) (due : Due) (now : ℕ) (reply : Option Bytes) (k : ℕ) (kind : AckKind) (c : Consumer) → ((k == n) && is_reset kind) ≡ false → IsTracked n due c → IsTracked n due (after_ack now reply k kind c)
tracked_after_ack n due now reply k kind c e h = go (next_ask kind)
  where
    go : (ask : Option Ask) → IsTracked n due (pulled_next now reply ask (acknowledged now k kind c))
    go None = tracked_acknowledged n due now k kind c e h
    go (Some ask) = tracked_pulled n due now reply (Some ask) _ (tracked_acknowledged n due now k kind c e h)

module _ (name : Bytes) (n : ℕ) (due : Due) where
  abbrev Leaves : What → Type 0
  Leaves w = (drops name w ≡ false) × (resets name n w ≡ false)

  tracked_only : (s : Stream) (messages : List Message) → InStream name (IsTracked n due) s → InStream name (IsTracked n due) (only s messages)
  tracked_only s messages h = stands-map (confined (seqs messages)) (record { name = λ c. refl }) (λ c e p. tracked_filter n due (λ p. has (seqs messages) p.seq) c _ refl p) h

  pub tracked_time : (s : Stream) (now : ℕ) → InStream name (IsTracked n due) s → InStream name (IsTracked n due) (advance s now)
  unfolding advance
  tracked_time s now h = stands-map (consumer_at (max s.moment now)) (record { name = λ c. refl }) (λ c e p. tracked_filter n due (λ p. not (is_spent (max s.moment now) c p)) c _ refl p) (tracked_only s (young s (max s.moment now)) h)

  -- the consumer that is found, if it has the name
  found_tracked : (s : Stream) (other : Bytes) (c : Consumer) → by_name s.consumers other ≡ Some c → c.name ≡ name → InStream name (IsTracked n due) s → IsTracked n due c
  found_tracked s other c e q h = stands-found h (subst (λ (m : Bytes). by_name s.consumers m ≡ Some c) (sym (found_named s.consumers other c e) ∙ q) e)

  tracked_acked : (s : Stream) (reply : Option Bytes) (ack : Ack) (c : Consumer) → resets name n (AckIt reply ack) ≡ false → by_name s.consumers ack.consumer ≡ Some c → InStream name (IsTracked n due) s
      → InStream name (IsTracked n due) (with_consumer s (after_ack s.moment reply ack.seq ack.kind c))
  unfolding resets
  tracked_acked s reply ack c g e h = in_with name (IsTracked n due) (IsTracked n due) s _ own (λ d q p. p) h
    where
      new_name : (after_ack s.moment reply ack.seq ack.kind c).name ≡ c.name
      new_name = after_ack-name s.moment reply ack.seq ack.kind c

      own : (after_ack s.moment reply ack.seq ack.kind c).name ≡ name → IsTracked n due (after_ack s.moment reply ack.seq ack.kind c)
      own q = tracked_after_ack n due s.moment reply ack.seq ack.kind c (rest (same ack.consumer name) its_name g) (found_tracked s ack.consumer c e (sym new_name ∙ q) h)
        where
          its_name : same ack.consumer name ≡ true
          its_name = subst (λ (m : Bytes). same ack.consumer m ≡ true) (sym (found_named s.consumers ack.consumer c e) ∙ sym new_name ∙ q) (same_self ack.consumer)

          rest : (b : Bool) → b ≡ true → (b && ((ack.seq == n) && is_reset ack.kind)) ≡ false → ((ack.seq == n) && is_reset ack.kind) ≡ false
          rest true w f = f
          rest false w f = absurd (true≢false (sym w))

  tracked_pull : (s : Stream) (reply : Option Bytes) (other : Bytes) (ask : Option Ask) (c : Consumer) → by_name s.consumers other ≡ Some c → InStream name (IsTracked n due) s → InStream name (IsTracked n due) (with_consumer s (pulled s.moment reply ask c))
  tracked_pull s reply other ask c e h = in_with name (IsTracked n due) (IsTracked n due) s _ (λ q. tracked_pulled n due s.moment reply ask c (found_tracked s other c e (sym (pulled-name s.moment reply ask c) ∙ q) h)) (λ d q p. p) h

  tracked_fact : IsStreamFact Leaves ⊥ (InStream name (IsTracked n due))
  tracked_fact = record {
    change = record {
      gone = λ s reply g h. absurd (true≢false g.0);
      only = λ s messages part h. tracked_only s messages h;
      configured = λ s reply config g h. h;
      stored = λ s p room g e h. stored s p h;
      made = λ s reply other config g e r h. stands-with_new (new_consumer s other config) e h;
      removed = λ s reply other c g e h. stands-without c.name (rw (found_named s.consumers other c e) g.0) h;
      acked = λ s reply ack c g e q h. tracked_acked s reply ack c g.1 e h;
      pulled = λ s reply other ask c g e h. tracked_pull s reply other ask c e h;
    };
    empty = λ i now reply config g v. absurd v;
    time = tracked_time;
  }
    where
      stored : (s : Stream) (p : Publish) → InStream name (IsTracked n due) s → InStream name (IsTracked n due) (with_message s p)
      stored s p h = go p.wants.id
        where
          go : (id : Bytes) → InStream name (IsTracked n due) (with_id (record s { messages = s.messages ++ message_of s p ∷ []; last = s.last + 1 }) id)
          go [] = h
          go (byte ∷ more) = h

-- ---- an acknowledgement that sets the moment anew

tracked_reset : (n : ℕ) (due : Due) (now : ℕ) (kind : AckKind) (c : Consumer) → is_reset kind ≡ true → IsTracked n due c → IsTracked n (option_map (due_by c.config.ack_wait now kind) due) (acknowledged now n kind c)
unfolding is_reset
tracked_reset n due now (Nak delay) c e h = tracked_moved n due (plus now delay) (due_by c.config.ack_wait now (Nak delay)) c (λ x. refl) h
tracked_reset n due now Wpi c e h = tracked_moved n due (plus now c.config.ack_wait) (due_by c.config.ack_wait now Wpi) c (λ x. refl) h
tracked_reset n due now Acknowledge c e h = absurd (true≢false (sym e))
tracked_reset n due now (Next ask) c e h = absurd (true≢false (sym e))
tracked_reset n due now Term c e h = absurd (true≢false (sym e))

-- it asks for nothing and is confirmed
reset_is : (kind : AckKind) → is_reset kind ≡ true → (next_ask kind ≡ None) × (ack_reply kind ≡ Confirmed)
unfolding is_reset
reset_is (Nak delay) e = (refl, refl)
reset_is Wpi e = (refl, refl)
reset_is Acknowledge e = absurd (true≢false (sym e))
reset_is (Next ask) e = absurd (true≢false (sym e))
reset_is Term e = absurd (true≢false (sym e))

-- an event is an acknowledgement, or sets no moment
ack_or_not : (name : Bytes) (n wait : ℕ) (w : What) → ((asked : Option Bytes) × (ack : Ack) × (w ≡ AckIt asked ack)) ⊎ ((resets name n w ≡ false) × ((now : ℕ) (reply : Reply) (due : Due) → due_after_event name n wait now w reply due ≡ due))
unfolding resets
ack_or_not name n wait (AckIt asked ack) = inl (asked, ack, refl)
ack_or_not name n wait (Make reply config) = inr (refl, λ now r due. refl)
ack_or_not name n wait (Change reply config) = inr (refl, λ now r due. refl)
ack_or_not name n wait (DropStream reply) = inr (refl, λ now r due. refl)
ack_or_not name n wait (PublishIt p) = inr (refl, λ now r due. refl)
ack_or_not name n wait (Purge reply pattern below keep) = inr (refl, λ now r due. refl)
ack_or_not name n wait (Delete reply k) = inr (refl, λ now r due. refl)
ack_or_not name n wait (MakeConsumer reply other config update) = inr (refl, λ now r due. refl)
ack_or_not name n wait (DropConsumer reply other) = inr (refl, λ now r due. refl)
ack_or_not name n wait (PullIt reply other ask) = inr (refl, λ now r due. refl)
ack_or_not name n wait Tick = inr (refl, λ now r due. refl)
ack_or_not name n wait (AskStream reply) = inr (refl, λ now r due. refl)
ack_or_not name n wait (MessageGet reply by) = inr (refl, λ now r due. refl)
ack_or_not name n wait (AskConsumer reply other) = inr (refl, λ now r due. refl)
ack_or_not name n wait (ConsumerNames reply offset) = inr (refl, λ now r due. refl)
ack_or_not name n wait (ConsumerList reply offset) = inr (refl, λ now r due. refl)

option_same : (f : ℕ × ℕ → ℕ × ℕ) (due : Due) → ((x : ℕ × ℕ) → f x ≡ x) → option_map f due ≡ due
option_same f None g = refl
option_same f (Some x) g = ap Some (g x)

due_stays : (wait now : ℕ) (kind : AckKind) → is_reset kind ≡ false → (x : ℕ × ℕ) → due_by wait now kind x ≡ x
unfolding is_reset
due_stays wait now (Nak delay) e x = absurd (true≢false e)
due_stays wait now Wpi e x = absurd (true≢false e)
due_stays wait now Acknowledge e x = refl
due_stays wait now (Next ask) e x = refl
due_stays wait now Term e x = refl

-- an acknowledgement that sets no moment leaves what is known
ack_leaves : (name : Bytes) (n wait now : ℕ) (asked : Option Bytes) (ack : Ack) (reply : Reply) (due : Due) → resets name n (AckIt asked ack) ≡ false → due_after_event name n wait now (AckIt asked ack) reply due ≡ due
unfolding resets
ack_leaves name n wait now asked ack Confirmed due e = go (same ack.consumer name) (ack.seq == n) (is_reset ack.kind) refl e
  where
    go : (a b c : Bool) → is_reset ack.kind ≡ c → (a && (b && c)) ≡ false → cond (a && b) (option_map (due_by wait now ack.kind) due) due ≡ due
    go true true true q f = absurd (true≢false f)
    go true true false q f = option_same (due_by wait now ack.kind) due (due_stays wait now ack.kind q)
    go true false c q f = refl
    go false b c q f = refl
ack_leaves name n wait now asked ack _ due e = refl

due_unmoved : (name : Bytes) (n wait now : ℕ) (w : What) (reply : Reply) (due : Due) → resets name n w ≡ false → due_after_event name n wait now w reply due ≡ due
due_unmoved name n wait now w reply due e = go (ack_or_not name n wait w)
  where
    go : ((asked : Option Bytes) × (ack : Ack) × (w ≡ AckIt asked ack)) ⊎ ((resets name n w ≡ false) × ((now : ℕ) (reply : Reply) (due : Due) → due_after_event name n wait now w reply due ≡ due)) → due_after_event name n wait now w reply due ≡ due
    go (inl x) = subst (λ (v : What). due_after_event name n wait now v reply due ≡ due) (sym x.2) (ack_leaves name n wait now x.0 x.1 reply due (subst (λ (v : What). resets name n v ≡ false) x.2 e))
    go (inr x) = x.1 now reply due

module _ (name : Bytes) (n : ℕ) (due : Due) (config : ConsumerConfig) where
  -- what holds of an answer, with its reply
  abbrev Answered : (now : ℕ) → What → Answer → Type 0
  Answered now w a = IfLive ⊥ (InStream name (IsTracked n (due_after_event name n config.ack_wait now w a.reply due))) a.state

  reset_done : (a : Stream) (reply : Option Bytes) (ack : Ack) (c : Consumer) → same ack.consumer name ≡ true → (ack.seq == n) ≡ true → is_reset ack.kind ≡ true → by_name a.consumers ack.consumer ≡ Some c
      → InStream name (HasConfig config) a → InStream name (IsTracked n due) a → Answered a.moment (AckIt reply ack) (ack_done a reply ack.seq ack.kind c)
  reset_done a reply ack c named at reset found g h =
      subst (λ (d : Due). InStream name (IsTracked n d) (with_consumer a (after_ack a.moment reply ack.seq ack.kind c))) (sym due_is)
      (in_replaced name (IsTracked n due) (IsTracked n new_due) a (after_ack a.moment reply ack.seq ack.kind c) (after_ack-name a.moment reply ack.seq ack.kind c ∙ c_name) own h)
    where
      new_due : Due
      new_due = option_map (due_by config.ack_wait a.moment ack.kind) due

      c_name : c.name ≡ name
      c_name = found_named a.consumers ack.consumer c found ∙ same_is ack.consumer name named

      c_config : c.config ≡ config
      c_config = stands-found g (subst (λ (m : Bytes). by_name a.consumers m ≡ Some c) (same_is ack.consumer name named) found)

      own : IsTracked n new_due (after_ack a.moment reply ack.seq ack.kind c)
      own = subst (λ (o : Option Ask). IsTracked n new_due (pulled_next a.moment reply o (acknowledged a.moment ack.seq ack.kind c))) (sym (reset_is ack.kind reset).0)
          (subst (λ (k : ℕ). IsTracked n new_due (acknowledged a.moment k ack.kind c)) (sym (eqb-true ack.seq n at))
          (subst (λ (v : ConsumerConfig). IsTracked n (option_map (due_by v.ack_wait a.moment ack.kind) due) (acknowledged a.moment n ack.kind c)) c_config
          (tracked_reset n due a.moment ack.kind c reset (found_tracked name n due a ack.consumer c found c_name h))))

      due_is : due_after_event name n config.ack_wait a.moment (AckIt reply ack) (ack_reply ack.kind) due ≡ new_due
      due_is = ap (λ (r : Reply). due_after_event name n config.ack_wait a.moment (AckIt reply ack) r due) (reset_is ack.kind reset).1
          ∙ ap (λ (b : Bool). cond b new_due due) (and_from _ _ named at)

  reset_answer : (a : Stream) (reply : Option Bytes) (ack : Ack) → same ack.consumer name ≡ true → (ack.seq == n) ≡ true → is_reset ack.kind ≡ true
      → InStream name (HasConfig config) a → InStream name (IsTracked n due) a → Answered a.moment (AckIt reply ack) (ack_answer a reply ack.seq ack.kind (by_name a.consumers ack.consumer))
  reset_answer a reply ack named at reset g h = go (by_name a.consumers ack.consumer) refl
    where
      either : (c : Consumer) → by_name a.consumers ack.consumer ≡ Some c → (b : Bool) → Answered a.moment (AckIt reply ack) (cond b (quietly Silent a) (ack_done a reply ack.seq ack.kind c))
      either c e true = h
      either c e false = reset_done a reply ack c named at reset e g h

      go : (o : Option Consumer) → by_name a.consumers ack.consumer ≡ o → Answered a.moment (AckIt reply ack) (ack_answer a reply ack.seq ack.kind o)
      go None e = h
      go (Some c) e = either c e (is_no_delivery c ack.seq)

  -- an event that resets the moment of the sequence is such an acknowledgement
  reset_event : (s : Stream) (new : State) (e : Event) (now : ℕ) (reply : Reply) (outs : List Out) → IsEvent (Live s) e now reply outs new → resets name n e.what ≡ true
      → InStream name (HasConfig config) s → InStream name (IsTracked n due) s → InState name (IsTracked n (due_after_event name n config.ack_wait (advance s now).moment e.what reply due)) new
  unfolding answered resets
  reset_event s new e now reply outs x r g h = go (ack_or_not name n config.ack_wait e.what)
    where
      settled_tracked : (d : Due) (st : State) → InState name (IsTracked n d) st → InState name (IsTracked n d) (settled_state st)
      settled_tracked d st k = at_settled (Leaves name n d) ⊥ (InStream name (IsTracked n d)) (tracked_fact name n d) st k

      -- the answer is the event's own
      told : (w : What) → e.what ≡ w → Answered (advance s now).moment w (stream_answer (advance s now) w x.room) → InState name (IsTracked n (due_after_event name n config.ack_wait (advance s now).moment w reply due)) new
      told w q k =
          subst (InState name (IsTracked n (due_after_event name n config.ack_wait (advance s now).moment w reply due))) (subst (λ (v : What). settled_state (stream_answer (advance s now) v x.room).state ≡ new) q (ap (λ (a : Answer). a.state) x.answers))
          (settled_tracked (due_after_event name n config.ack_wait (advance s now).moment w reply due) (stream_answer (advance s now) w x.room).state
          (subst (λ (y : Reply). InState name (IsTracked n (due_after_event name n config.ack_wait (advance s now).moment w y due)) (stream_answer (advance s now) w x.room).state)
          (subst (λ (v : What). (stream_answer (advance s now) v x.room).reply ≡ reply) q (ap (λ (a : Answer). a.reply) x.answers)) k))

      by_ack : (asked : Option Bytes) (ack : Ack) → e.what ≡ AckIt asked ack → resets name n (AckIt asked ack) ≡ true → InState name (IsTracked n (due_after_event name n config.ack_wait (advance s now).moment e.what reply due)) new
      by_ack asked ack q f =
          let p = and_parts (same ack.consumer name) _ f in
          let t = and_parts (ack.seq == n) _ p.1 in
          subst (λ (v : What). InState name (IsTracked n (due_after_event name n config.ack_wait (advance s now).moment v reply due)) new) (sym q)
          (told (AckIt asked ack) q (reset_answer (advance s now) asked ack p.0 t.0 t.1 (in_time name (HasConfig config) (config_kept config) s now g) (tracked_time name n due s now h)))

      go : ((asked : Option Bytes) × (ack : Ack) × (e.what ≡ AckIt asked ack)) ⊎ ((resets name n e.what ≡ false) × ((now : ℕ) (reply : Reply) (due : Due) → due_after_event name n config.ack_wait now e.what reply due ≡ due))
          → InState name (IsTracked n (due_after_event name n config.ack_wait (advance s now).moment e.what reply due)) new
      go (inl w) = by_ack w.0 w.1 w.2 (subst (λ (v : What). resets name n v ≡ true) w.2 r)
      go (inr w) = absurd (true≢false (sym r ∙ w.0))

  event_tracked : (s : Stream) (new : State) (e : Event) (now : ℕ) (reply : Reply) (outs : List Out) → IsEvent (Live s) e now reply outs new → drops name e.what ≡ false
      → InStream name (HasConfig config) s → InStream name (IsTracked n due) s → InState name (IsTracked n (due_after_event name n config.ack_wait (advance s now).moment e.what reply due)) new
  event_tracked s new e now reply outs x g c h = go (resets name n e.what) refl
    where
      go : (b : Bool) → resets name n e.what ≡ b → InState name (IsTracked n (due_after_event name n config.ack_wait (advance s now).moment e.what reply due)) new
      go true q = reset_event s new e now reply outs x q c h
      go false q =
          subst (λ (d : Due). InState name (IsTracked n d) new) (sym (due_unmoved name n config.ack_wait (advance s now).moment e.what reply due q))
          (at_event (Leaves name n due) ⊥ (InStream name (IsTracked n due)) (tracked_fact name n due) (Live s) new e now reply outs x (g, q) h)

-- ---- moments

-- an event and a delivery leave the stream at its moment
moment_time : (s : Stream) (now : ℕ) → (advance s now).moment ≡ max s.moment now
unfolding advance
moment_time s now = refl

moment_fact : (k : ℕ) → IsChangeFact (λ w. ⊤) ⊤ (λ s. s.moment ≡ k)
moment_fact k = record {
  gone = λ s reply g h. tt;
  only = λ s messages part h. h;
  configured = λ s reply config g h. h;
  stored = λ s p room g e h. stored s p p.wants.id h;
  made = λ s reply name config g e r h. h;
  removed = λ s reply name c g e h. h;
  acked = λ s reply ack c g e q h. h;
  pulled = λ s reply name ask c g e h. h;
}
  where
    stored : (s : Stream) (p : Publish) (id : Bytes) → s.moment ≡ k → (with_id (record s { messages = s.messages ++ message_of s p ∷ []; last = s.last + 1 }) id).moment ≡ k
    stored s p [] h = h
    stored s p (byte ∷ more) h = h

-- if there is a consumer, there is a stream, and its moment is known
moment_event : (s : Stream) (new : State) (e : Event) (now : ℕ) (reply : Reply) (outs : List Out) → IsEvent (Live s) e now reply outs new → IfLive ⊤ (λ t. t.moment ≡ max s.moment now) new
moment_event s new e now reply outs x = change_time (λ w. ⊤) ⊤ (λ t. t.moment ≡ max s.moment now) (moment_fact (max s.moment now)) s new e now reply outs x tt (moment_time s now)

moment_delivery : (s : Stream) (new : State) (now : ℕ) (listening : List Bytes) (d : Delivery) (outs : List Out) → IsDelivery s now listening d outs new → IfLive ⊤ (λ t. t.moment ≡ max s.moment now) new
moment_delivery s new now listening d outs x = subst (IfLive ⊤ (λ t. t.moment ≡ max s.moment now)) (sym x.new_is) (change_kept (λ w. ⊤) ⊤ (λ t. t.moment ≡ max s.moment now) (moment_fact (max s.moment now)) (with_consumer (advance s now) x.after) (moment_time s now))

-- ---- a delivery

-- an entry is the new one, or an old one of another sequence
pub in_with_pending : (low high : ℕ) (new p : Pending) (ps : List Pending) → Between (λ p. p.seq) low high ps → IsIn p (with_pending ps new) → (p ≡ new) ⊎ (IsIn p ps × (p.seq ≡ new.seq → ⊥))
in_with_pending low high new p [] h i = go (in_cons i)
  where
    go : (new ≡ p) ⊎ IsIn p [] → (p ≡ new) ⊎ (IsIn p [] × (p.seq ≡ new.seq → ⊥))
    go (inl e) = inl (sym e)
    go (inr e) = elim e [ ]
in_with_pending low high new p (x ∷ ps) h i = go (nat_lt x.seq new.seq) refl (x.seq == new.seq) refl (in_with_pending (x.seq + 1) high new p ps h.1) i
  where
    -- an entry of the rest is above the first
    above : IsIn p ps → x.seq + 1 ≤ p.seq
    above w = (in_bounds (λ p. p.seq) (x.seq + 1) high p ps h.1 w).0

    go : (a : Bool) → nat_lt x.seq new.seq ≡ a → (b : Bool) → (x.seq == new.seq) ≡ b → (IsIn p (with_pending ps new) → (p ≡ new) ⊎ (IsIn p ps × (p.seq ≡ new.seq → ⊥)))
        → IsIn p (cond a (x ∷ with_pending ps new) (cond b (new ∷ ps) (new ∷ x ∷ ps))) → (p ≡ new) ⊎ (IsIn p (x ∷ ps) × (p.seq ≡ new.seq → ⊥))
    go true q b w f k = first (in_cons k)
      where
        later : (p ≡ new) ⊎ (IsIn p ps × (p.seq ≡ new.seq → ⊥)) → (p ≡ new) ⊎ (IsIn p (x ∷ ps) × (p.seq ≡ new.seq → ⊥))
        later (inl e) = inl e
        later (inr e) = inr (there e.0, e.1)

        first : (x ≡ p) ⊎ IsIn p (with_pending ps new) → (p ≡ new) ⊎ (IsIn p (x ∷ ps) × (p.seq ≡ new.seq → ⊥))
        first (inl e) = inr (subst (λ (z : Pending). IsIn z (x ∷ ps) × (z.seq ≡ new.seq → ⊥)) e (here, λ r. let l : x.seq < new.seq = ltb-true x.seq new.seq q in absurd (omega arith)))
        first (inr e) = later (f e)
    go false q true w f k = first (in_cons k)
      where
        first : (new ≡ p) ⊎ IsIn p ps → (p ≡ new) ⊎ (IsIn p (x ∷ ps) × (p.seq ≡ new.seq → ⊥))
        first (inl e) = inl (sym e)
        first (inr e) = inr (there e, λ r. let l : x.seq ≡ new.seq = eqb-true x.seq new.seq w in let m : x.seq + 1 ≤ p.seq = above e in absurd (omega arith))
    go false q false w f k = first (in_cons k)
      where
        apart : x.seq ≡ new.seq → ⊥
        apart = eqb-false x.seq new.seq w

        second : (x ≡ p) ⊎ IsIn p ps → (p ≡ new) ⊎ (IsIn p (x ∷ ps) × (p.seq ≡ new.seq → ⊥))
        second (inl e) = inr (subst (λ (z : Pending). IsIn z (x ∷ ps) × (z.seq ≡ new.seq → ⊥)) e (here, apart))
        second (inr e) = inr (there e, λ r. let l : new.seq ≤ x.seq = ltb-false x.seq new.seq q in let m : x.seq + 1 ≤ p.seq = above e in absurd (omega arith))

        first : (new ≡ p) ⊎ IsIn p (x ∷ ps) → (p ≡ new) ⊎ (IsIn p (x ∷ ps) × (p.seq ≡ new.seq → ⊥))
        first (inl e) = inl (sym e)
        first (inr e) = second (in_cons e)

tracked_sent : (n : ℕ) (due : Due) (messages : List Message) (last now : ℕ) (m : Message) (c : Consumer) → IsSoundConsumer messages last c → IsTracked n due c
    → IsTracked n (due_after_sent n c.config.ack_wait now (Sent m.seq (count_of c m.seq + 1) (c.dseq + 1)) due) (sent_to now m c)
tracked_sent n due messages last now m c k h = record { tracked = λ p i q. go p (is_unacknowledged c) refl i q }
  where
    new : Pending
    new = record { seq = m.seq; count = count_of c m.seq + 1; due = plus now c.config.ack_wait }

    due_now : Due
    due_now = due_after_sent n c.config.ack_wait now (Sent m.seq (count_of c m.seq + 1) (c.dseq + 1)) due

    known : (p : Pending) → p.seq ≡ n → (p ≡ new) ⊎ (IsIn p c.pending × (p.seq ≡ m.seq → ⊥)) → due_now ≡ Some (p.count, p.due)
    known p q (inl e) =
        ap (λ (b : Bool). cond b (Some (count_of c m.seq + 1, plus now c.config.ack_wait)) due) (eq-eqb m.seq n (sym (ap (λ (z : Pending). z.seq) e) ∙ q))
        ∙ ap (λ (z : Pending). Some (z.count, z.due)) (sym e)
    known p q (inr e) = ap (λ (b : Bool). cond b (Some (count_of c m.seq + 1, plus now c.config.ack_wait)) due) (ne_eqb m.seq n (λ r. e.1 (q ∙ sym r))) ∙ h.tracked p e.0 q

    go : (p : Pending) (b : Bool) → is_unacknowledged c ≡ b → IsIn p (cond b c.pending (with_pending c.pending new)) → p.seq ≡ n → due_now ≡ Some (p.count, p.due)
    go p true e i q = absurd (no_one (subst (IsIn p) (k.unacknowledged_pending e) i))
      where
        no_one : IsIn p [] → ⊥
        no_one w = elim w [ ]
    go p false e i q = known p q (in_with_pending 1 c.cursor new p c.pending k.pending i)

-- a sequence that does not wait is sent for the first time
first_time : (c : Consumer) (n count : ℕ) → has (pending_seqs c) n ≡ false → count ≡ count_of c n + 1 → 2 ≤ count → ⊥
first_time c n count e f g = let z : count_of c n ≡ 0 = count_absent c n e in absurd (omega arith)

sent_again : (n : ℕ) (due : Due) (a : Stream) (c : Consumer) (m : Message) (count : ℕ) → IsSoundConsumer a.messages a.last c → IsTracked n due c → IsReason a c m → count ≡ count_of c m.seq + 1 → m.seq ≡ n → 2 ≤ count → IsAgain a.moment count due
sent_again n due a c m count k h (again e) f q g =
    let x = find_one (λ p. p.seq) (is_due a.moment c) m.seq 1 c.cursor c.pending k.pending e in
    let i = (found_in (λ p. p.seq == m.seq) x.0 c.pending x.1).0 in
    let count_is : count_of c m.seq ≡ x.0.count = count_waiting c m.seq x.0 x.1 in
    subst (IsAgain a.moment count) (sym (h.tracked x.0 i (x.3 ∙ q))) (omega arith, leb-true x.0.due a.moment (and_parts _ _ x.2).0)
sent_again n due a c m count k h (picked p rest e w o) f q g =
    absurd (first_time c m.seq count (k.picks_pending.apart m.seq (subst (λ (l : List ℕ). has l m.seq ≡ true) (sym e) (or_left (p == m.seq) (has rest m.seq) (eq-eqb p m.seq (sym w))))) f g)
sent_again n due a c m count k h (onward e t l o) f q g = absurd (first_time c m.seq count (none_above m.seq 1 c.cursor (pending_seqs c) (seqs_between c k.pending) l) f g)

module _ (name : Bytes) (n : ℕ) (due : Due) (config : ConsumerConfig) where
  own_due : (a : Stream) (listening : List Bytes) (c after : Consumer) (d : Delivered) (outs : List Out) → Delivers a listening c d outs after → IsSoundConsumer a.messages a.last c → c.config ≡ config → IsTracked n due c
      → IsDueSending n a.moment due (sending_of d) × IsTracked n (due_after_sent n config.ack_wait a.moment d due) after
  own_due a listening c after (Sent seq count dseq) outs x k e h = (
    (λ q g. sent_again n due a c x.message count k h (candidate_is a c x.message x.candidate).reason x.count_is (sym x.seq_is ∙ q) g, tt),
    subst (IsTracked n (due_after_sent n config.ack_wait a.moment (Sent seq count dseq) due)) (sym x.after_is)
        (subst (λ (v : ConsumerConfig). IsTracked n (due_after_sent n v.ack_wait a.moment (Sent seq count dseq) due) (sent_to a.moment x.message c)) e
        (subst (λ (l : ℕ). IsTracked n (due_after_sent n c.config.ack_wait a.moment (Sent l count dseq) due) (sent_to a.moment x.message c)) (sym x.seq_is)
        (subst (λ (l : ℕ). IsTracked n (due_after_sent n c.config.ack_wait a.moment (Sent x.message.seq l dseq) due) (sent_to a.moment x.message c)) (sym x.count_is)
        (tracked_sent n due a.messages a.last a.moment x.message c k h)))),
  )
  own_due a listening c after TooSmall outs x k e h = (tt, subst (IsTracked n due) (sym x.after_is) (tracked_same n due c _ refl h))
  own_due a listening c after Emptied outs x k e h = (tt, subst (IsTracked n due) (sym x.after_is) (tracked_same n due c _ refl h))

  delivery_due : (s : Stream) (new : State) (now : ℕ) (listening : List Bytes) (d : Delivery) (outs : List Out) → IsDelivery s now listening d outs new → IsSoundStream s → InStream name (HasConfig config) s → InStream name (IsTracked n due) s
      → IsDueSending n (advance s now).moment due (sending_to name d) × InState name (IsTracked n (due_after name n config.ack_wait (advance s now).moment d due)) new
  delivery_due s new now listening d outs x sound g h = go (same d.consumer name) refl
    where
      a : Stream
      a = advance s now

      -- the consumer of the delivery, if it has the name
      itself : d.consumer ≡ name → IsDueSending n (advance s now).moment due (sending_of d.what) × IsTracked n (due_after_sent n config.ack_wait (advance s now).moment d.what due) x.after
      itself e =
          own_due (advance s now) listening x.consumer x.after d.what x.own x.delivers (sound_found s now listening d outs new x sound)
          (its name (HasConfig config) (HasConfig config) (config_kept config) (config_kept config) s now listening d outs new x e g)
          (stands-found (tracked_time name n due s now h) (subst (λ (m : Bytes). by_name (advance s now).consumers m ≡ Some x.consumer) e x.found))

      after_named : d.consumer ≡ name → x.after.name ≡ name
      after_named e = after_name (advance s now) listening x.consumer x.after d.what x.own x.delivers ∙ found_named (advance s now).consumers d.consumer x.consumer x.found ∙ e

      settle : (t : Due) (u : Stream) → InStream name (IsTracked n t) u → InStream name (IsTracked n t) (kept u)
      settle t u w = at_kept (Leaves name n t) ⊥ (InStream name (IsTracked n t)) (tracked_fact name n t) u w

      go : (b : Bool) → same d.consumer name ≡ b → IsDueSending n (advance s now).moment due (cond b (sending_of d.what) []) × InState name (IsTracked n (cond b (due_after_sent n config.ack_wait (advance s now).moment d.what due) due)) new
      go true e =
          let n_is = same_is d.consumer name e in (
            (itself n_is).0,
            subst (InState name (IsTracked n (due_after_sent n config.ack_wait (advance s now).moment d.what due))) (sym x.new_is)
                (settle (due_after_sent n config.ack_wait (advance s now).moment d.what due) (with_consumer (advance s now) x.after)
                (in_replaced name (IsTracked n due) (IsTracked n (due_after_sent n config.ack_wait (advance s now).moment d.what due)) (advance s now) x.after (after_named n_is) (itself n_is).1 (tracked_time name n due s now h))),
          )
      go false e = (
        tt,
        subst (InState name (IsTracked n due)) (sym x.new_is)
            (settle due (with_consumer (advance s now) x.after)
            (in_with name (IsTracked n due) (IsTracked n due) (advance s now) x.after (λ q. absurd (true≢false (sym (self q) ∙ e))) (λ c w p. p) (tracked_time name n due s now h))),
      )
        where
          self : x.after.name ≡ name → same d.consumer name ≡ true
          self q = subst (λ (m : Bytes). same d.consumer m ≡ true) (sym (found_named (advance s now).consumers d.consumer x.consumer x.found) ∙ sym (after_name (advance s now) listening x.consumer x.after d.what x.own x.delivers) ∙ q) (same_self d.consumer)

-- ---- the induction

at_clock : (P : ℕ → Type 0) (s : Stream) (now clock : ℕ) → s.moment ≡ clock → P (advance s now).moment → P (max clock now)
at_clock P s now clock e h = subst P (moment_time s now ∙ ap (λ k. max k now) e) h

-- the clock of a state in which the consumer stands
clock_of : (name : Bytes) (P : Consumer → Type 0) (s new : State) (now clock k : ℕ) → k ≡ clock → InState name P new → IfLive ⊤ (λ t. t.moment ≡ max k now) new → moment_of new ≡ max clock now
clock_of name P s (Vacant i) now clock k e h m = absurd h
clock_of name P s (Live t) now clock k e h m = m ∙ ap (λ k. max k now) e

redelivers : (name : Bytes) (n : ℕ) (config : ConsumerConfig) (clock : ℕ) (due : Due) (count : ℕ) (old : State) (entries : List PlaceEntry) (new : State) → IsSoundState old → InState name (HasConfig config) old → InState name (IsTracked n due) old → moment_of old ≡ clock
    → RunFrom count old entries new → Redelivers name n config.ack_wait clock due entries
redelivers name n config clock due count old [] new s g h m r = tt
redelivers name n config clock due count (Vacant i) (entry ∷ entries) new s g h m r = absurd h
redelivers name n config clock due count (Live t) (Step seat e now reply outs unsaid ∷ entries) new s g h m (mid, x, rest) =
    unless_dropped (drops name e.what) refl
    (λ q. let k = at_clock (λ (u : ℕ). InState name (IsTracked n (due_after_event name n config.ack_wait u e.what reply due)) mid) t now clock m (event_tracked name n due config t mid e now reply outs x.event q g h) in
    redelivers name n config (max clock now) (due_after_event name n config.ack_wait (max clock now) e.what reply due) (count + length (new_messages (Live t) mid)) mid entries new (sound_step count (Live t) mid e now reply outs x s)
    (in_event name (HasConfig config) (config_kept config) (Live t) mid e now reply outs x.event q g) k
    (clock_of name (IsTracked n (due_after_event name n config.ack_wait (max clock now) e.what reply due)) (Live t) mid now clock t.moment m k (moment_event t mid e now reply outs x.event)) rest)
  where
    unless_dropped : (b : Bool) → drops name e.what ≡ b → (drops name e.what ≡ false → Redelivers name n config.ack_wait (max clock now) (due_after_event name n config.ack_wait (max clock now) e.what reply due) entries)
        → MatchBool b ⊤ (Redelivers name n config.ack_wait (max clock now) (due_after_event name n config.ack_wait (max clock now) e.what reply due) entries)
    unless_dropped true q f = tt
    unless_dropped false q f = f q
redelivers name n config clock due count (Live t) (Deliver seat now listening d outs ∷ entries) new s g h m (mid, x, rest) =
    let k = at_clock (λ (u : ℕ). IsDueSending n u due (sending_to name d) × InState name (IsTracked n (due_after name n config.ack_wait u d due)) mid) t now clock m (delivery_due name n due config t mid now listening d outs x.delivered s g h) in (
      k.0,
      redelivers name n config (max clock now) (due_after name n config.ack_wait (max clock now) d due) (count + length (new_messages (Live t) mid)) mid entries new (sound_delivery (Live t) mid now listening d outs x.delivered s)
          (config_delivery name config t mid now listening d outs x.delivered g) k.1
          (clock_of name (IsTracked n (due_after name n config.ack_wait (max clock now) d due)) (Live t) mid now clock t.moment m k.1 (moment_delivery t mid now listening d outs x.delivered)) rest,
    )
redelivers name n config clock due count (Live t) (Broken seat now (StepOf e) ∷ entries) new s g h m r = tt
redelivers name n config clock due count (Live t) (Broken seat now (DeliverOf listening d) ∷ []) new s g h m (outs, x) =
    at_clock (λ (u : ℕ). IsDueSending n u due (sending_to name d)) t now clock m (delivery_due name n due config t new now listening d outs x.delivered s g h).0
redelivers name n config clock due count (Live t) (Broken seat now (DeliverOf listening d) ∷ entry ∷ entries) new s g h m r = absurd r

-- an entry is found by its sequence
pub pending_found : (low high n : ℕ) (ps : List Pending) → Between (λ p. p.seq) low high ps → (p : Pending) → IsIn p ps → p.seq ≡ n → find (λ p. p.seq == n) ps ≡ Some p
pending_found low high n [] h p i q = elim i [ ]
pending_found low high n (x ∷ ps) h p i q = go (pending_found (x.seq + 1) high n ps h.1 p) (in_cons i)
  where
    go : (IsIn p ps → p.seq ≡ n → find (λ p. p.seq == n) ps ≡ Some p) → (x ≡ p) ⊎ IsIn p ps → cond (x.seq == n) (Some x) (find (λ p. p.seq == n) ps) ≡ Some p
    go f (inl e) = ap (λ (b : Bool). cond b (Some x) (find (λ p. p.seq == n) ps)) (eq-eqb x.seq n (ap (λ (z : Pending). z.seq) e ∙ q)) ∙ ap Some e
    go f (inr e) = ap (λ (b : Bool). cond b (Some x) (find (λ p. p.seq == n) ps)) (ne_eqb x.seq n (λ r. let l : x.seq + 1 ≤ p.seq = (in_bounds (λ p. p.seq) (x.seq + 1) high p ps h.1 e).0 in absurd (omega arith))) ∙ f e q

-- the entry that stands at first is known
tracked_first : (n : ℕ) (messages : List Message) (last : ℕ) (c : Consumer) → IsSoundConsumer messages last c → IsTracked n (due_first n c) c
tracked_first n messages last c k = record { tracked = λ p i q. ap (option_map (λ (p : Pending). (p.count, p.due))) (pending_found 1 c.cursor n c.pending k.pending p i q) }

sound_of : (name : Bytes) (s : State) (c : Consumer) (n : ℕ) → IsSoundState s → consumer_of name s ≡ Some c → IsTracked n (due_first n c) c
sound_of name (Vacant i) c n s e = absurd (none_some e)
sound_of name (Live t) c n s e = tracked_first n t.messages t.last c (All-by_name (IsSoundConsumer t.messages t.last) t.consumers name c e s.consumers)

pub law_redelivery : LawRedelivery
law_redelivery name n count old new entries c s e r =
    redelivers name n c.config (moment_of old) (due_first n c) count old entries new (join old s) (stands_of name old c (λ d. d.config ≡ c.config) e refl)
    (stands_of name old c (IsTracked n (due_first n c)) e (sound_of name old c n (join old s) e)) refl r
