-- Each message to a pull consumer goes to the pull whose turn it is, and that gets at most what it asks for.
use Rattle.std.proofs.Common.{◌≡◌, ℕ, zero, suc, ◌+◌, ◌<◌, ◌≤◌, Bool, true, false, not, cond, List, [], ◌∷◌, ◌++◌, map, max, length, refl, sym, ap, ◌∙◌, subst, arith}
use Rattle.std.specs.Prelude.{Option, Some, None, nat_le, IfSome, filter, drop, ◌&&◌, ⊤, MatchBool}
use Rattle.std.specs.List.{last_or}
use Rattle.std.proofs.lemmas.Bool.{true≢false, leb-true, leb-false, le-leb, lt-leb}
use Rattle.js_base.specs.Bytes.{Bytes, same, is_empty}
use Rattle.js_base.specs.declared.out.Out.{Out}
use Rattle.js_model.specs.declared.consumer_config.ConsumerConfig.{ConsumerConfig}
use Rattle.js_model.specs.declared.stream.Message.{Message}
use Rattle.js_model.specs.declared.stream.Stream.{Stream}
use Rattle.js_model.specs.declared.stream.State.{State}
use Rattle.js_model.specs.declared.stream.State.TheVariants.{Vacant, Live}
use Rattle.js_model.specs.declared.consumer.Pull.{Pull}
use Rattle.js_model.specs.declared.consumer.Consumer.{Consumer}
use Rattle.js_model.specs.declared.ack.Ask.{Ask}
use Rattle.js_model.specs.declared.ack.Ack.{Ack}
use Rattle.js_model.specs.declared.ack.AckKind.{AckKind}
use Rattle.js_model.specs.declared.event.Event.{Event}
use Rattle.js_model.specs.declared.event.Publish.{Publish}
use Rattle.js_model.specs.declared.event.What.{What}
use Rattle.js_model.specs.declared.event.What.TheVariants.{Make, Change, Drop as DropStream, Publish as PublishIt, Purge, Delete, MakeConsumer, DropConsumer, Ack as AckIt, Pull as PullIt, Tick, StreamInfo as AskStream, MessageGet, ConsumerInfo as AskConsumer, ConsumerNames, ConsumerList}
use Rattle.js_model.specs.declared.reply.Reply.{Reply}
use Rattle.js_model.specs.declared.reply.Reply.TheVariants.{Silent}
use Rattle.js_model.specs.declared.entry.Delivered.{Delivered}
use Rattle.js_model.specs.declared.entry.Delivered.TheVariants.{Sent, TooSmall, Emptied}
use Rattle.js_model.specs.declared.entry.Delivery.{Delivery}
use Rattle.js_model.specs.declared.entry.PlaceEntry.{PlaceEntry}
use Rattle.js_model.specs.declared.entry.PlaceEntry.TheVariants.{Step, Deliver, Broken}
use Rattle.js_model.specs.declared.reply.Answer.{Answer}
use Rattle.js_model.specs.Streams.{confined, only, seqs, by_name, with_consumer, is_push, sent_size}
use Rattle.js_model.specs.Advance.{advance, advance_outs, consumer_at, running, beaten, pull_comes, is_over, young}
use Rattle.js_model.specs.Verdict.{message_of}
use Rattle.js_model.specs.Consumers.{new_consumer}
use Rattle.js_model.specs.Acknowledge.{acknowledged, is_no_delivery}
use Rattle.js_model.specs.Pulls.{pulled, pulled_unless, pull_of, pull_refusal}
use Rattle.js_model.specs.Events.{answered, IsEvent, settled_state, stream_answer, pull_answer, ack_answer, ack_done, after_ack, pulled_next, next_ask, quietly, with_message, with_id}
use Rattle.js_model.specs.Deliver.{Delivers, IsDelivery, sent_to, front_served, served, front_allows, fits, is_listened, address, without_first, delivery_out}
use Rattle.js_model.specs.Runs.{RunFrom, new_messages}
use Rattle.js_model.specs.StateMoments.{state_at}
use Rattle.model_laws.specs.OneConsumer.{drops, consumer_of}
use Rattle.model_laws.specs.Turns.{Turn, turn_of, turn_unless, turn_for, turn_by, turn_if_there, turns_at, turns_after_event, bytes_of, charged, turns_left, turns_after, IsWithinTurn, IsForFront, IsServing, Serves}
use Rattle.js_model.proofs.Named.{stands-map, stands-found, stands-with_new, stands-without, found_named, same_is, same_self}
use Rattle.model_laws.proofs.Facts.{IsChangeFact, change_time, change_settled, change_kept}
use Rattle.model_laws.proofs.Consecutive.{append_nil, last_push}
use Rattle.model_laws.proofs.StoredBefore.{HasConfig, config_kept, config_delivery}
use Rattle.model_laws.proofs.Ordering.{stands_of}
use Rattle.model_laws.proofs.ConsumerFacts.{InStream, InState, in_with, in_replaced, in_event, its, after_name, after_ack-name, pulled-name, acknowledged_entries}

-- ---- a turn and the pull that waits

-- what is left of a limit, if there is one
abbrev HasLeft : Option ℕ → ℕ → Option ℕ → Type 0
HasLeft None got None = ⊤
HasLeft None got (Some left) = ⊥
HasLeft (Some limit) got None = ⊥
HasLeft (Some limit) got (Some left) = left + got ≡ limit

-- the pull takes what its turn has not got yet
record IsTurnOf (t : Turn) (p : Pull) : Type 0 where
  reply : p.reply ≡ t.pull.reply
  ending : p.end ≡ t.pull.end
  no_wait : p.no_wait ≡ t.pull.no_wait
  batch : p.batch + t.got ≡ t.pull.batch
  some_left : 1 ≤ t.pull.batch → 1 ≤ p.batch
  bytes : HasLeft t.pull.bytes t.bytes p.bytes

abbrev AreTurns : List Turn → List Pull → Type 0
AreTurns [] [] = ⊤
AreTurns [] (p ∷ ps) = ⊥
AreTurns (t ∷ ts) [] = ⊥
AreTurns (t ∷ ts) (p ∷ ps) = IsTurnOf t p × AreTurns ts ps

-- the pulls of the consumer have these turns
record HasTurns (turns : List Turn) (c : Consumer) : Type 0 where
  each : AreTurns turns c.waiting

all_left : (bytes : Option ℕ) → HasLeft bytes 0 bytes
all_left None = tt
all_left (Some limit) = omega arith

its_turn : (p : Pull) → IsTurnOf (turn_of p) p
its_turn p = record { reply = refl; ending = refl; no_wait = refl; batch = omega arith; some_left = λ h. h; bytes = all_left p.bytes }

first_turns : (ps : List Pull) → AreTurns (map turn_of ps) ps
first_turns [] = tt
first_turns (p ∷ ps) = (its_turn p, first_turns ps)

turns_push : (ts : List Turn) (ps : List Pull) (t : Turn) (p : Pull) → AreTurns ts ps → IsTurnOf t p → AreTurns (ts ++ t ∷ []) (ps ++ p ∷ [])
turns_push [] [] t p h k = (k, tt)
turns_push [] (q ∷ ps) t p h k = absurd h
turns_push (u ∷ ts) [] t p h k = absurd h
turns_push (u ∷ ts) (q ∷ ps) t p h k = (h.0, turns_push ts ps t p h.1 k)

over_alike : (now : ℕ) (t : Turn) (p : Pull) → IsTurnOf t p → is_over now t.pull ≡ is_over now p
over_alike now t p h = ap (λ (e : Option ℕ). is_over now (record p { end = e })) (sym h.ending)

running_turns : (now : ℕ) (ts : List Turn) (ps : List Pull) → AreTurns ts ps → AreTurns (turns_at now ts) (filter (λ p. not (is_over now p)) ps)
running_turns now [] [] h = tt
running_turns now [] (p ∷ ps) h = absurd h
running_turns now (t ∷ ts) [] h = absurd h
running_turns now (t ∷ ts) (p ∷ ps) h =
    subst (λ (b : Bool). AreTurns (cond (not b) (t ∷ turns_at now ts) (turns_at now ts)) (filter (λ p. not (is_over now p)) (p ∷ ps))) (sym (over_alike now t p h.0)) (go (is_over now p) (running_turns now ts ps h.1))
  where
    go : (b : Bool) → AreTurns (turns_at now ts) (filter (λ p. not (is_over now p)) ps) → AreTurns (cond (not b) (t ∷ turns_at now ts) (turns_at now ts)) (cond (not b) (p ∷ filter (λ p. not (is_over now p)) ps) (filter (λ p. not (is_over now p)) ps))
    go true k = k
    go false k = (h.0, k)

beaten_turns : (now : ℕ) (ts : List Turn) (ps : List Pull) → AreTurns ts ps → AreTurns ts (map (beaten now) ps)
beaten_turns now [] [] h = tt
beaten_turns now [] (p ∷ ps) h = absurd h
beaten_turns now (t ∷ ts) [] h = absurd h
beaten_turns now (t ∷ ts) (p ∷ ps) h = (go (pull_comes now p), beaten_turns now ts ps h.1)
  where
    go : (b : Bool) → IsTurnOf t (cond b (record p { mark = now }) p)
    go true = record { reply = h.0.reply; ending = h.0.ending; no_wait = h.0.no_wait; batch = h.0.batch; some_left = h.0.some_left; bytes = h.0.bytes }
    go false = h.0

waiting_turns : (ts : List Turn) (ps : List Pull) → AreTurns ts ps → AreTurns (without_first (λ t. t.pull.no_wait) ts) (without_first (λ p. p.no_wait) ps)
waiting_turns [] [] h = tt
waiting_turns [] (p ∷ ps) h = absurd h
waiting_turns (t ∷ ts) [] h = absurd h
waiting_turns (t ∷ ts) (p ∷ ps) h =
    subst (λ (b : Bool). AreTurns (cond b ts (t ∷ without_first (λ t. t.pull.no_wait) ts)) (without_first (λ p. p.no_wait) (p ∷ ps))) h.0.no_wait (go p.no_wait (waiting_turns ts ps h.1))
  where
    go : (b : Bool) → AreTurns (without_first (λ t. t.pull.no_wait) ts) (without_first (λ p. p.no_wait) ps) → AreTurns (cond b ts (t ∷ without_first (λ t. t.pull.no_wait) ts)) (cond b ps (p ∷ without_first (λ p. p.no_wait) ps))
    go true k = h.1
    go false k = (h.0, k)

-- ---- one consumer

turns_same : (turns : List Turn) (c d : Consumer) → d.waiting ≡ c.waiting → HasTurns turns c → HasTurns turns d
turns_same turns c d e h = record { each = subst (AreTurns turns) (sym e) h.each }

no_more_turns : (turns : List Turn) (c : Consumer) → HasTurns turns c → HasTurns (turns ++ []) c
no_more_turns turns c h = subst (λ (l : List Turn). HasTurns l c) (sym (append_nil turns)) h

turns_time : (turns : List Turn) (now : ℕ) (c : Consumer) → HasTurns turns c → HasTurns (turns_at now turns) (consumer_at now c)
turns_time turns now c h = record { each = beaten_turns now (turns_at now turns) (running now c) (running_turns now turns c.waiting h.each) }

turns_pulled : (turns : List Turn) (now : ℕ) (reply : Option Bytes) (ask : Option Ask) (c : Consumer) → HasTurns turns c → HasTurns (turns ++ turn_for now reply ask c) (pulled now reply ask c)
turns_pulled turns now None ask c h = no_more_turns turns c h
turns_pulled turns now (Some reply) None c h = go (pull_refusal c None)
  where
    go : (block : Option Bytes) → HasTurns (turns ++ []) (pulled_unless block now reply None c)
    go None = no_more_turns turns c h
    go (Some block) = no_more_turns turns c h
turns_pulled turns now (Some reply) (Some ask) c h = go (pull_refusal c (Some ask))
  where
    go : (block : Option Bytes) → HasTurns (turns ++ turn_unless block now reply ask) (pulled_unless block now reply (Some ask) c)
    go None = record { each = turns_push turns c.waiting (turn_of (pull_of now reply ask)) (pull_of now reply ask) h.each (its_turn (pull_of now reply ask)) }
    go (Some block) = no_more_turns turns c h

-- an acknowledgement changes nothing by which a pull is refused
turn_acknowledged : (at n : ℕ) (kind : AckKind) (now : ℕ) (reply : Option Bytes) (ask : Option Ask) (c : Consumer) → turn_for now reply ask (acknowledged at n kind c) ≡ turn_for now reply ask c
turn_acknowledged at n kind now reply ask c = ap (turn_for now reply ask) (acknowledged_entries at n kind c).rest ∙ go reply ask
  where
    go : (reply : Option Bytes) (ask : Option Ask) → turn_for now reply ask (record c { pending = (acknowledged at n kind c).pending; given_up = (acknowledged at n kind c).given_up }) ≡ turn_for now reply ask c
    go None ask = refl
    go (Some reply) None = refl
    go (Some reply) (Some ask) = refl

turns_acked : (turns : List Turn) (now : ℕ) (reply : Option Bytes) (n : ℕ) (kind : AckKind) (c : Consumer) → HasTurns turns c → HasTurns (turns ++ turn_for now reply (next_ask kind) c) (after_ack now reply n kind c)
turns_acked turns now reply n kind c h = subst (λ (l : List Turn). HasTurns (turns ++ l) (after_ack now reply n kind c)) (turn_acknowledged now n kind now reply (next_ask kind) c) (go (next_ask kind))
  where
    acked : Consumer
    acked = acknowledged now n kind c

    before : HasTurns turns acked
    before = turns_same turns c acked (ap (λ (d : Consumer). d.waiting) (acknowledged_entries now n kind c).rest) h

    go : (ask : Option Ask) → HasTurns (turns ++ turn_for now reply ask acked) (pulled_next now reply ask acked)
    go None = none_for reply
      where
        none_for : (reply : Option Bytes) → HasTurns (turns ++ turn_for now reply None acked) acked
        none_for None = no_more_turns turns acked before
        none_for (Some reply) = no_more_turns turns acked before
    go (Some ask) = turns_pulled turns now reply (Some ask) acked before

-- ---- events

may_ask : What → Bool
may_ask (AckIt reply ack) = true
may_ask (PullIt reply other ask) = true
may_ask _ = false

-- an event is a pull, an acknowledgement, or adds no turn
data IsAsking (w : What) : Type 0 where
  by_pull : (reply : Option Bytes) (other : Bytes) (ask : Option Ask) → w ≡ PullIt reply other ask → IsAsking w
  by_ack : (reply : Option Bytes) (ack : Ack) → w ≡ AckIt reply ack → IsAsking w
  by_none : may_ask w ≡ false → ((name : Bytes) (now : ℕ) (c : Consumer) → turn_by name now c w ≡ []) → IsAsking w

asking : (w : What) → IsAsking w
unfolding may_ask
asking (PullIt reply other ask) = by_pull reply other ask refl
asking (AckIt reply ack) = by_ack reply ack refl
asking (Make reply config) = by_none refl (λ n now c. refl)
asking (Change reply config) = by_none refl (λ n now c. refl)
asking (DropStream reply) = by_none refl (λ n now c. refl)
asking (PublishIt p) = by_none refl (λ n now c. refl)
asking (Purge reply pattern below limit) = by_none refl (λ n now c. refl)
asking (Delete reply n) = by_none refl (λ n now c. refl)
asking (MakeConsumer reply other config update) = by_none refl (λ n now c. refl)
asking (DropConsumer reply other) = by_none refl (λ n now c. refl)
asking Tick = by_none refl (λ n now c. refl)
asking (AskStream reply) = by_none refl (λ n now c. refl)
asking (MessageGet reply by) = by_none refl (λ n now c. refl)
asking (AskConsumer reply other) = by_none refl (λ n now c. refl)
asking (ConsumerNames reply offset) = by_none refl (λ n now c. refl)
asking (ConsumerList reply offset) = by_none refl (λ n now c. refl)

module _ (name : Bytes) where
  turns_only : (turns : List Turn) (s : Stream) (messages : List Message) → InStream name (HasTurns turns) s → InStream name (HasTurns turns) (only s messages)
  turns_only turns s messages h = stands-map (confined (seqs messages)) (record { name = λ c. refl }) (λ c e p. turns_same turns c _ refl p) h

  turns_at_time : (turns : List Turn) (s : Stream) (now : ℕ) → InStream name (HasTurns turns) s → InStream name (HasTurns (turns_at (advance s now).moment turns)) (advance s now)
  unfolding advance
  turns_at_time turns s now h = stands-map (consumer_at (max s.moment now)) (record { name = λ c. refl }) (λ c e p. turns_time turns (max s.moment now) c p) (turns_only turns s (young s (max s.moment now)) h)

  turns_stored : (turns : List Turn) (s : Stream) (p : Publish) → InStream name (HasTurns turns) s → InStream name (HasTurns turns) (with_message s p)
  turns_stored turns s p h = go p.wants.id
    where
      go : (id : Bytes) → InStream name (HasTurns turns) (with_id (record s { messages = s.messages ++ message_of s p ∷ []; last = s.last + 1 }) id)
      go [] = h
      go (byte ∷ more) = h

  -- events that are no pull and no acknowledgement
  abbrev LeavesTurns : What → Type 0
  LeavesTurns w = (drops name w ≡ false) × (may_ask w ≡ false)

  turns_fact : (turns : List Turn) → IsChangeFact LeavesTurns ⊥ (InStream name (HasTurns turns))
  unfolding may_ask
  turns_fact turns = record {
    gone = λ s reply g h. absurd (true≢false g.0);
    only = λ s messages part h. turns_only turns s messages h;
    configured = λ s reply config g h. h;
    stored = λ s p room g e h. turns_stored turns s p h;
    made = λ s reply other config g e r h. stands-with_new (new_consumer s other config) e h;
    removed = λ s reply other c g e h. stands-without c.name (rw (found_named s.consumers other c e) g.0) h;
    acked = λ s reply ack c g e q h. absurd (true≢false g.1);
    pulled = λ s reply other ask c g e h. absurd (true≢false g.1);
  }

-- ---- pulls and acknowledgements

module _ (name : Bytes) (turns : List Turn) (a : Stream) (h : InStream name (HasTurns turns) a) where
  -- the state has the consumer with these turns more
  abbrev AddsTurns : List Turn → State → Type 0
  AddsTurns more st = InState name (HasTurns (turns ++ more)) st

  adds_none : AddsTurns [] (Live a)
  adds_none = record { consumer = h.consumer; found = h.found; holds = no_more_turns turns h.consumer h.holds }

  found_its : h.consumer.name ≡ name
  found_its = found_named a.consumers name h.consumer h.found

  -- another consumer changes
  adds_none_by_other : (other : Bytes) (d new : Consumer) → same other name ≡ false → by_name a.consumers other ≡ Some d → new.name ≡ d.name → AddsTurns [] (Live (with_consumer a new))
  adds_none_by_other other d new e f n = in_with name (HasTurns turns) (HasTurns (turns ++ [])) a new own (λ c q p. no_more_turns turns c p) h
    where
      own : new.name ≡ name → HasTurns (turns ++ []) new
      own q = absurd (true≢false (sym (subst (λ (m : Bytes). same other m ≡ true) (sym (found_named a.consumers other d f) ∙ sym n ∙ q) (same_self other)) ∙ e))

  pull_turns : (reply : Option Bytes) (other : Bytes) (ask : Option Ask) → AddsTurns (turn_by name a.moment h.consumer (PullIt reply other ask)) (pull_answer a reply ask (by_name a.consumers other)).state
  pull_turns reply other ask = go (same other name) refl
    where
      c : Consumer
      c = h.consumer

      others : same other name ≡ false → (o : Option Consumer) → by_name a.consumers other ≡ o → AddsTurns [] (pull_answer a reply ask o).state
      others e None f = adds_none
      others e (Some d) f = adds_none_by_other other d (pulled a.moment reply ask d) e f (pulled-name a.moment reply ask d)

      go : (b : Bool) → same other name ≡ b → AddsTurns (cond b (turn_for a.moment reply ask c) []) (pull_answer a reply ask (by_name a.consumers other)).state
      go true e =
          subst (λ (o : Option Consumer). AddsTurns (turn_for a.moment reply ask c) (pull_answer a reply ask o).state) (sym (ap (by_name a.consumers) (same_is other name e) ∙ h.found))
          (in_replaced name (HasTurns turns) (HasTurns (turns ++ turn_for a.moment reply ask c)) a (pulled a.moment reply ask c) (pulled-name a.moment reply ask c ∙ found_its) (turns_pulled turns a.moment reply ask c h.holds) h)
      go false e = others e (by_name a.consumers other) refl

  ack_turns : (reply : Option Bytes) (ack : Ack) → AddsTurns (turn_by name a.moment h.consumer (AckIt reply ack)) (ack_answer a reply ack.seq ack.kind (by_name a.consumers ack.consumer)).state
  ack_turns reply ack = go (same ack.consumer name) refl
    where
      c : Consumer
      c = h.consumer

      asked : List Turn
      asked = turn_for a.moment reply (next_ask ack.kind) c

      others : same ack.consumer name ≡ false → (o : Option Consumer) → by_name a.consumers ack.consumer ≡ o → AddsTurns [] (ack_answer a reply ack.seq ack.kind o).state
      others e None f = adds_none
      others e (Some d) f = unless (is_no_delivery d ack.seq)
        where
          unless : (b : Bool) → AddsTurns [] (cond b (quietly Silent a) (ack_done a reply ack.seq ack.kind d)).state
          unless true = adds_none
          unless false = adds_none_by_other ack.consumer d (after_ack a.moment reply ack.seq ack.kind d) e f (after_ack-name a.moment reply ack.seq ack.kind d)

      its_own : (b : Bool) → AddsTurns (cond (not b) asked []) (cond b (quietly Silent a) (ack_done a reply ack.seq ack.kind c)).state
      its_own true = adds_none
      its_own false =
          in_replaced name (HasTurns turns) (HasTurns (turns ++ asked)) a (after_ack a.moment reply ack.seq ack.kind c) (after_ack-name a.moment reply ack.seq ack.kind c ∙ found_its) (turns_acked turns a.moment reply ack.seq ack.kind c h.holds) h

      go : (b : Bool) → same ack.consumer name ≡ b → AddsTurns (cond (b && not (is_no_delivery c ack.seq)) asked []) (ack_answer a reply ack.seq ack.kind (by_name a.consumers ack.consumer)).state
      go true e =
          subst (λ (o : Option Consumer). AddsTurns (cond (not (is_no_delivery c ack.seq)) asked []) (ack_answer a reply ack.seq ack.kind o).state) (sym (ap (by_name a.consumers) (same_is ack.consumer name e) ∙ h.found))
          (its_own (is_no_delivery c ack.seq))
      go false e = others e (by_name a.consumers ack.consumer) refl

turns_event : (name : Bytes) (turns : List Turn) (s : Stream) (new : State) (e : Event) (now : ℕ) (reply : Reply) (outs : List Out) → IsEvent (Live s) e now reply outs new → drops name e.what ≡ false → InStream name (HasTurns turns) s
    → InState name (HasTurns (turns_after_event name (state_at (Live s) now) e.what turns)) new
unfolding answered
turns_event name turns s new e now reply outs x g h =
    subst (λ (o : Option Consumer). InState name (HasTurns (before ++ turn_if_there name a.moment o e.what)) new) (sym there.found) (go (asking e.what))
  where
    a : Stream
    a = advance s now

    before : List Turn
    before = turns_at a.moment turns

    there : InStream name (HasTurns before) a
    there = turns_at_time name turns s now h

    c : Consumer
    c = there.consumer

    -- the state is what the event leaves
    told : (w : What) → e.what ≡ w → InState name (HasTurns (before ++ turn_by name a.moment c w)) (stream_answer a w x.room).state → InState name (HasTurns (before ++ turn_by name a.moment c e.what)) new
    told w q k =
        subst (λ (v : What). InState name (HasTurns (before ++ turn_by name a.moment c v)) new) (sym q)
        (subst (InState name (HasTurns (before ++ turn_by name a.moment c w))) (subst (λ (v : What). settled_state (stream_answer a v x.room).state ≡ new) q (ap (λ (z : Answer). z.state) x.answers))
        (change_settled (LeavesTurns name) ⊥ (InStream name (HasTurns (before ++ turn_by name a.moment c w))) (turns_fact name (before ++ turn_by name a.moment c w)) (stream_answer a w x.room).state k))

    go : IsAsking e.what → InState name (HasTurns (before ++ turn_by name a.moment c e.what)) new
    go (by_pull asked other ask q) = told (PullIt asked other ask) q (pull_turns name before a there asked other ask)
    go (by_ack asked ack q) = told (AckIt asked ack) q (ack_turns name before a there asked ack)
    go (by_none q f) =
        subst (λ (l : List Turn). InState name (HasTurns (before ++ l)) new) (sym (f name a.moment c))
        (subst (λ (l : List Turn). InState name (HasTurns l) new) (sym (append_nil before))
        (change_time (LeavesTurns name) ⊥ (InStream name (HasTurns before)) (turns_fact name before) s new e now reply outs x (g, q) there))

-- ---- deliveries

-- a delivery to a pull consumer goes to its first pull
to_front : (c : Consumer) → is_push c ≡ false → (p : Pull) (ps : List Pull) → c.waiting ≡ p ∷ ps → address c ≡ p.reply
to_front c pull p ps e = ap (λ (b : Bool). cond b c.config.deliver_subject (front_reply c.waiting)) pull ∙ ap front_reply e
  where
    front_reply : List Pull → Bytes
    front_reply [] = []
    front_reply (p ∷ _) = p.reply

-- bytes that fit what is left are within the limit
fits_limit : (limit left : Option ℕ) (got size : ℕ) → HasLeft limit got left → fits size left ≡ true → IfSome limit (λ limit. got + size ≤ limit)
fits_limit None left got size h e = tt
fits_limit (Some limit) None got size h e = absurd h
fits_limit (Some limit) (Some left) got size h e = let q : size ≤ left = leb-true size left e in let r : left + got ≡ limit = h in omega arith

left_after : (now size : ℕ) (p : Pull) (limit left : Option ℕ) (got : ℕ) → HasLeft limit got left → fits size left ≡ true → HasLeft limit (got + size) (served now size (record p { bytes = left })).bytes
left_after now size p None None got h e = tt
left_after now size p None (Some left) got h e = absurd h
left_after now size p (Some limit) None got h e = absurd h
left_after now size p (Some limit) (Some left) got h e = let q : size ≤ left = leb-true size left e in let r : left + got ≡ limit = h in omega arith

within_turn : (t : Turn) (p : Pull) (o : Out) → IsTurnOf t p → o.to ≡ p.reply → fits (bytes_of o) p.bytes ≡ true → IsWithinTurn t o
within_turn t p o h to e = record {
  to = to ∙ h.reply;
  batch = go t.pull.batch h.batch h.some_left;
  bytes = fits_limit t.pull.bytes p.bytes t.bytes (bytes_of o) h.bytes e;
}
  where
    go : (batch : ℕ) → p.batch + t.got ≡ batch → (1 ≤ batch → 1 ≤ p.batch) → t.got + 1 ≤ max batch 1
    go zero q l = omega arith
    go (suc n) q l = let k : 1 ≤ p.batch = l (omega arith) in omega arith

still_turn : (now : ℕ) (t : Turn) (p : Pull) (size : ℕ) → IsTurnOf t p → fits size p.bytes ≡ true → nat_le p.batch 1 ≡ false → IsTurnOf (record t { got = t.got + 1; bytes = t.bytes + size }) (served now size p)
still_turn now t p size h e many = let l : 1 < p.batch = leb-false p.batch 1 many in let q : p.batch + t.got ≡ t.pull.batch = h.batch in record {
  reply = h.reply;
  ending = h.ending;
  no_wait = h.no_wait;
  batch = omega arith;
  some_left = λ k. omega arith;
  bytes = left_after now size p t.pull.bytes p.bytes t.bytes h.bytes e;
}

-- a turn is at its end if its pull is
at_end : (t : Turn) (p : Pull) → IsTurnOf t p → nat_le t.pull.batch (t.got + 1) ≡ nat_le p.batch 1
at_end t p h = go (nat_le p.batch 1) refl
  where
    sum_is : p.batch + t.got ≡ t.pull.batch
    sum_is = h.batch

    go : (b : Bool) → nat_le p.batch 1 ≡ b → nat_le t.pull.batch (t.got + 1) ≡ b
    go true e = le-leb t.pull.batch (t.got + 1) (let l : p.batch ≤ 1 = leb-true p.batch 1 e in omega arith)
    go false e = lt-leb t.pull.batch (t.got + 1) (let l : 1 < p.batch = leb-false p.batch 1 e in omega arith)

front_turns : (now : ℕ) (o : Out) (t : Turn) (ts : List Turn) (p : Pull) (ps : List Pull) → AreTurns (t ∷ ts) (p ∷ ps) → fits (bytes_of o) p.bytes ≡ true → AreTurns (charged (Some o) (t ∷ ts)) (front_served now (bytes_of o) (p ∷ ps))
front_turns now o t ts p ps h e =
    subst (λ (b : Bool). AreTurns (cond b ts (record t { got = t.got + 1; bytes = t.bytes + bytes_of o } ∷ ts)) (front_served now (bytes_of o) (p ∷ ps))) (sym (at_end t p h.0)) (go (nat_le p.batch 1) refl)
  where
    go : (b : Bool) → nat_le p.batch 1 ≡ b → AreTurns (cond b ts (record t { got = t.got + 1; bytes = t.bytes + bytes_of o } ∷ ts)) (cond b ps (served now (bytes_of o) p ∷ ps))
    go true q = h.1
    go false q = (still_turn now t p (bytes_of o) h.0 e q, h.1)

-- a delivery serves the turns, and leaves these to the pulls
record IsServed (turns : List Turn) (d : Delivered) (outs : List Out) (after : Consumer) : Type 0 where
  serving : IsServing d outs turns
  left : HasTurns (turns_left d outs turns) after

own_turns : (turns : List Turn) (a : Stream) (listening : List Bytes) (c after : Consumer) (d : Delivered) (before own : List Out) → Delivers a listening c d own after → is_push c ≡ false → HasTurns turns c → IsServed turns d (before ++ own) after
own_turns turns a listening c after (Sent seq count dseq) before own x pull h = record {
  serving = subst (λ (o : Option Out). IsForFront o turns) (sym last_is) both.0;
  left = record { each = subst (λ (o : Option Out). AreTurns (charged o turns) after.waiting) (sym last_is) (subst (AreTurns (charged (Some out) turns)) (sym (ap (λ (z : Consumer). z.waiting) x.after_is)) both.1) };
}
  where
    m : Message
    m = x.message

    out : Out
    out = delivery_out a c (sent_to a.moment m c) m count

    -- the last output is the delivery's
    last_is : last_or None (before ++ own) ≡ Some out
    last_is = ap (λ (l : List Out). last_or None (before ++ l)) x.outs_are ∙ last_push None before out

    wanted : front_allows c.waiting (sent_size m) ≡ true
    wanted = sym (ap (λ (b : Bool). cond b (is_listened listening c) (front_allows c.waiting (sent_size m))) pull) ∙ x.wanted

    go : (ts : List Turn) (ps : List Pull) → c.waiting ≡ ps → AreTurns ts ps → IsForFront (Some out) ts × AreTurns (charged (Some out) ts) (front_served a.moment (sent_size m) ps)
    go ts [] e k = absurd (true≢false (sym (sym (ap (λ (l : List Pull). front_allows l (sent_size m)) e) ∙ wanted)))
    go [] (p ∷ ps) e k = absurd k
    go (t ∷ ts) (p ∷ ps) e k =
        let fit : fits (sent_size m) p.bytes ≡ true = sym (ap (λ (l : List Pull). front_allows l (sent_size m)) e) ∙ wanted in
        (within_turn t p out k.0 (to_front c pull p ps e) fit, front_turns a.moment out t ts p ps k fit)

    both : IsForFront (Some out) turns × AreTurns (charged (Some out) turns) (front_served a.moment (sent_size m) c.waiting)
    both = go turns c.waiting refl h.each
own_turns turns a listening c after TooSmall before own x pull h = record {
  serving = tt;
  left = record { each = subst (AreTurns (drop 1 turns)) (sym (ap (λ (z : Consumer). z.waiting) x.after_is)) (without_front turns (subst (AreTurns turns) x.waiting_is h.each)) };
}
  where
    without_front : (ts : List Turn) → AreTurns ts (x.front ∷ x.rest) → AreTurns (drop 1 ts) x.rest
    without_front [] k = absurd k
    without_front (t ∷ ts) k = k.1
own_turns turns a listening c after Emptied before own x pull h = record {
  serving = tt;
  left = record { each = subst (AreTurns (without_first (λ t. t.pull.no_wait) turns)) (sym (ap (λ (z : Consumer). z.waiting) x.after_is)) (waiting_turns turns c.waiting h.each) };
}

-- ---- the induction

module _ (name : Bytes) (config : ConsumerConfig) (pull : not (is_empty config.deliver_subject) ≡ false) where
  -- what a delivery is to the consumer of the name
  record IsServedOr (turns : List Turn) (d : Delivery) (outs : List Out) (new : State) : Type 0 where
    serving : MatchBool (same d.consumer name) (IsServing d.what outs turns) ⊤
    left : InState name (HasTurns (turns_after name d outs turns)) new

  delivery_turns : (turns : List Turn) (s : Stream) (new : State) (now : ℕ) (listening : List Bytes) (d : Delivery) (outs : List Out) → IsDelivery s now listening d outs new → InStream name (HasConfig config) s → InStream name (HasTurns turns) s
      → IsServedOr (turns_at (advance s now).moment turns) d outs new
  delivery_turns turns s new now listening d outs x g h = go (same d.consumer name) refl
    where
      before : List Turn
      before = turns_at (advance s now).moment turns

      there : InStream name (HasTurns before) (advance s now)
      there = turns_at_time name turns s now h

      left : (more : List Turn) → InStream name (HasTurns more) (with_consumer (advance s now) x.after) → InState name (HasTurns more) new
      left more w = subst (InState name (HasTurns more)) (sym x.new_is) (change_kept (LeavesTurns name) ⊥ (InStream name (HasTurns more)) (turns_fact name more) (with_consumer (advance s now) x.after) w)

      delivered : x.after.name ≡ d.consumer
      delivered = after_name (advance s now) listening x.consumer x.after d.what x.own x.delivers ∙ found_named (advance s now).consumers d.consumer x.consumer x.found

      served_by : same d.consumer name ≡ true → IsServed before d.what outs x.after
      served_by e =
          let n = same_is d.consumer name e in
          subst (λ (l : List Out). IsServed before d.what l x.after) (sym x.outs_are)
          (own_turns before (advance s now) listening x.consumer x.after d.what (advance_outs s now) x.own x.delivers
          (ap (λ (v : ConsumerConfig). not (is_empty v.deliver_subject)) (its name (HasConfig config) (HasConfig config) (config_kept config) (config_kept config) s now listening d outs new x n g) ∙ pull)
          (stands-found there (subst (λ (m : Bytes). by_name (advance s now).consumers m ≡ Some x.consumer) n x.found)))

      self : x.after.name ≡ name → same d.consumer name ≡ true
      self q = subst (λ (m : Bytes). same d.consumer m ≡ true) (sym delivered ∙ q) (same_self d.consumer)

      go : (b : Bool) → same d.consumer name ≡ b → IsServedOr before d outs new
      go true e = let w = served_by e in record {
        serving = subst (λ (b : Bool). MatchBool b (IsServing d.what outs before) ⊤) (sym e) w.serving;
        left =
            subst (λ (b : Bool). InState name (HasTurns (cond b (turns_left d.what outs before) before)) new) (sym e)
            (left (turns_left d.what outs before) (in_replaced name (HasTurns before) (HasTurns (turns_left d.what outs before)) (advance s now) x.after (delivered ∙ same_is d.consumer name e) w.left there));
      }
      go false e = record {
        serving = subst (λ (b : Bool). MatchBool b (IsServing d.what outs before) ⊤) (sym e) tt;
        left =
            subst (λ (b : Bool). InState name (HasTurns (cond b (turns_left d.what outs before) before)) new) (sym e)
            (left before (in_with name (HasTurns before) (HasTurns before) (advance s now) x.after (λ q. absurd (true≢false (sym (self q) ∙ e))) (λ c w p. p) there));
      }

  serves : (turns : List Turn) (count : ℕ) (old : State) (entries : List PlaceEntry) (new : State) (r : RunFrom count old entries new) → InState name (HasConfig config) old → InState name (HasTurns turns) old → Serves name turns count old entries new r
  serves turns count old [] new r g h = tt
  serves turns count (Vacant i) (entry ∷ entries) new r g h = absurd h
  serves turns count (Live t) (Step seat e now reply outs unsaid ∷ entries) new (mid, x, rest) g h =
      unless_dropped (drops name e.what) refl
      (λ q. serves (turns_after_event name (state_at (Live t) now) e.what turns) (count + length (new_messages (Live t) mid)) mid entries new rest (in_event name (HasConfig config) (config_kept config) (Live t) mid e now reply outs x.event q g) (turns_event name turns t mid e now reply outs x.event q h))
    where
      after : Type 0
      after = Serves name (turns_after_event name (state_at (Live t) now) e.what turns) (count + length (new_messages (Live t) mid)) mid entries new rest

      unless_dropped : (b : Bool) → drops name e.what ≡ b → (drops name e.what ≡ false → after) → MatchBool b ⊤ after
      unless_dropped true q f = tt
      unless_dropped false q f = f q
  serves turns count (Live t) (Deliver seat now listening d outs ∷ entries) new (mid, x, rest) g h =
      let w = delivery_turns turns t mid now listening d outs x.delivered g h in
      (w.serving, serves (turns_after name d outs (turns_at (advance t now).moment turns)) (count + length (new_messages (Live t) mid)) mid entries new rest (config_delivery name config t mid now listening d outs x.delivered g) w.left)
  serves turns count (Live t) (Broken seat now call ∷ entries) new r g h = tt

pub pulls_served : (name : Bytes) (count : ℕ) (old : State) (entries : List PlaceEntry) (new : State) (c : Consumer) → consumer_of name old ≡ Some c → is_push c ≡ false → (r : RunFrom count old entries new)
    → Serves name (map turn_of c.waiting) count old entries new r
pulls_served name count old entries new c e pull r =
    serves name c.config pull (map turn_of c.waiting) count old entries new r (stands_of name old c (λ d. d.config ≡ c.config) e refl)
    (stands_of name old c (HasTurns (map turn_of c.waiting)) e (record { each = first_turns c.waiting }))
