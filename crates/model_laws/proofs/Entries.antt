-- An acknowledgement ends the entries that it names, and no other one.
use Rattle.std.proofs.Common.{◌≡◌, ℕ, Bool, true, false, ◌||◌, not, cond, List, map, refl, sym, ap, ◌∙◌, subst, ◌⊎◌, inl, inr}
use Rattle.std.specs.Prelude.{Option, Some, None, filter, ◌==◌, ⊤}
use Rattle.std.proofs.lemmas.Bool.{true≢false, or_parts, or_from, or_cases, or_left, or_right, false_from_ne_true}
use Rattle.js_base.specs.Bytes.{Bytes, same, has}
use Rattle.js_base.specs.declared.out.Out.{Out}
use Rattle.js_model.specs.Lists.{IsPart}
use Rattle.js_model.specs.declared.stream.Message.{Message}
use Rattle.js_model.specs.declared.stream.Stream.{Stream}
use Rattle.js_model.specs.declared.stream.State.{State}
use Rattle.js_model.specs.declared.stream.State.TheVariants.{Vacant, Live}
use Rattle.js_model.specs.declared.consumer.Pending.{Pending}
use Rattle.js_model.specs.declared.consumer.Consumer.{Consumer}
use Rattle.js_model.specs.declared.ack.Ask.{Ask}
use Rattle.js_model.specs.declared.ack.Ack.{Ack}
use Rattle.js_model.specs.declared.ack.AckKind.{AckKind}
use Rattle.js_model.specs.declared.ack.AckKind.TheVariants.{Ack as Acknowledge, Nak, Wpi, Next, Term}
use Rattle.js_model.specs.declared.event.Event.{Event}
use Rattle.js_model.specs.declared.event.What.{What}
use Rattle.js_model.specs.declared.event.What.TheVariants.{Ack as AckIt}
use Rattle.js_model.specs.declared.reply.Reply.{Reply}
use Rattle.js_model.specs.declared.reply.Reply.TheVariants.{Silent}
use Rattle.js_model.specs.declared.reply.Answer.{Answer}
use Rattle.js_model.specs.Streams.{seqs, only, confined, pending_seqs, by_name, with_consumer}
use Rattle.js_model.specs.Advance.{advance}
use Rattle.js_model.specs.Acknowledge.{acknowledged, ends, is_no_delivery, moved}
use Rattle.js_model.specs.Pulls.{pulled, pulled_unless, pull_refusal}
use Rattle.js_model.specs.Events.{answered, stream_answer, ack_answer, ack_done, quietly, after_ack, pulled_next, next_ask, IsEvent}
use Rattle.js_model.specs.Runs.{messages_of}
use Rattle.model_laws.specs.Acked.{has_entry, ended_by, acknowledges}
use Rattle.model_laws.specs.Laws.{LawEnds, LawStays}
use Rattle.model_laws.specs.OneConsumer.{consumer_of}
use Rattle.js_model.proofs.Named.{none_some, same_self, stands-at, stands-map, found_named}
use Rattle.js_model.proofs.Parts.{filter_part, part_map}
use Rattle.js_model.proofs.Lacking.{has-part, has-not}
use Rattle.model_laws.proofs.SoundParts.{has-filter, has-kept, map-filter, confined_pending}
use Rattle.model_laws.proofs.SoundAcks.{moved-seqs}
use Rattle.model_laws.proofs.Facts.{IsChangeFact, IfLive, change_settled}
use Rattle.model_laws.proofs.ConsumerFacts.{InStream, in_replaced, after_ack-name}

-- ---- entries

entry_pulled : (n now : ℕ) (reply : Option Bytes) (ask : Option Ask) (c : Consumer) → has_entry n (Some (pulled now reply ask c)) ≡ has_entry n (Some c)
entry_pulled n now None ask c = refl
entry_pulled n now (Some reply) ask c = go ask (pull_refusal c ask)
  where
    go : (ask : Option Ask) (block : Option Bytes) → has_entry n (Some (pulled_unless block now reply ask c)) ≡ has_entry n (Some c)
    go None None = refl
    go (Some ask) None = refl
    go ask (Some block) = refl

entry_after : (n now : ℕ) (reply : Option Bytes) (k : ℕ) (kind : AckKind) (c : Consumer) → has_entry n (Some (after_ack now reply k kind c)) ≡ has_entry n (Some (acknowledged now k kind c))
entry_after n now reply k kind c = go (next_ask kind)
  where
    go : (ask : Option Ask) → has_entry n (Some (pulled_next now reply ask (acknowledged now k kind c))) ≡ has_entry n (Some (acknowledged now k kind c))
    go None = refl
    go (Some ask) = entry_pulled n now reply (Some ask) (acknowledged now k kind c)

module _ (n : ℕ) (t : ℕ → Bool) where
  gone : (xs : List ℕ) → t n ≡ true → has (filter (λ m. not (t m)) xs) n ≡ false
  gone xs e = false_from_ne_true _ (λ w. true≢false (sym (has-filter (λ m. not (t m)) xs n w) ∙ ap not e))

  gone_pending : (ps : List Pending) → t n ≡ true → has (map (λ p. p.seq) (filter (λ p. not (t p.seq)) ps)) n ≡ false
  gone_pending ps e = ap (λ l. has l n) (map-filter (λ p. p.seq) (λ m. not (t m)) ps) ∙ gone (map (λ p. p.seq) ps) e

  stays : (xs : List ℕ) → t n ≡ false → has xs n ≡ true → has (filter (λ m. not (t m)) xs) n ≡ true
  stays xs e h = has-kept (λ m. not (t m)) xs n h (ap not e)

  stays_pending : (ps : List Pending) → t n ≡ false → has (map (λ p. p.seq) ps) n ≡ true → has (map (λ p. p.seq) (filter (λ p. not (t p.seq)) ps)) n ≡ true
  stays_pending ps e h = ap (λ l. has l n) (map-filter (λ p. p.seq) (λ m. not (t m)) ps) ∙ stays (map (λ p. p.seq) ps) e h

  without_gone : (c : Consumer) → t n ≡ true → (has (map (λ p. p.seq) (filter (λ p. not (t p.seq)) c.pending)) n || has (filter (λ m. not (t m)) c.given_up) n) ≡ false
  without_gone c e = or_from _ _ (gone_pending c.pending e) (gone c.given_up e)

  without_stays : (c : Consumer) → t n ≡ false → has_entry n (Some c) ≡ true → (has (map (λ p. p.seq) (filter (λ p. not (t p.seq)) c.pending)) n || has (filter (λ m. not (t m)) c.given_up) n) ≡ true
  without_stays c e h = go (or_cases (has (pending_seqs c) n) (has c.given_up n) h)
    where
      go : (has (pending_seqs c) n ≡ true) ⊎ (has c.given_up n ≡ true) → (has (map (λ p. p.seq) (filter (λ p. not (t p.seq)) c.pending)) n || has (filter (λ m. not (t m)) c.given_up) n) ≡ true
      go (inl q) = or_left _ _ (stays_pending c.pending e q)
      go (inr q) = or_right _ _ (stays c.given_up e q)

-- the entry that an acknowledgement names is gone
entry_ended : (n now k : ℕ) (kind : AckKind) (c : Consumer) → ended_by kind c.config.ack_policy k n ≡ true → has_entry n (Some (acknowledged now k kind c)) ≡ false
entry_ended n now k Acknowledge c e = without_gone n (ends c.config.ack_policy k) c e
entry_ended n now k (Nak delay) c e = absurd (true≢false (sym e))
entry_ended n now k Wpi c e = absurd (true≢false (sym e))
entry_ended n now k (Next ask) c e = without_gone n (ends c.config.ack_policy k) c e
entry_ended n now k Term c e = without_gone n (λ m. m == k) c e

entry_moved : (n k due : ℕ) (c : Consumer) → has_entry n (Some c) ≡ true → (has (map (λ p. p.seq) (map (moved k due) c.pending)) n || has c.given_up n) ≡ true
entry_moved n k due c h = ap (λ l. has l n || has c.given_up n) (moved-seqs k due c.pending) ∙ h

-- another one stays
entry_stays : (n now k : ℕ) (kind : AckKind) (c : Consumer) → ended_by kind c.config.ack_policy k n ≡ false → has_entry n (Some c) ≡ true → has_entry n (Some (acknowledged now k kind c)) ≡ true
entry_stays n now k Acknowledge c e h = without_stays n (ends c.config.ack_policy k) c e h
entry_stays n now k (Nak delay) c e h = entry_moved n k _ c h
entry_stays n now k Wpi c e h = entry_moved n k _ c h
entry_stays n now k (Next ask) c e h = without_stays n (ends c.config.ack_policy k) c e h
entry_stays n now k Term c e h = without_stays n (λ m. m == k) c e h

entry_confined : (n : ℕ) (keep : List ℕ) (c : Consumer) → has_entry n (Some c) ≡ false → has_entry n (Some (confined keep c)) ≡ false
entry_confined n keep c h = or_from _ _ (has-not n (part_map (λ p. p.seq) (filter_part (λ p. has keep p.seq) c.pending)) (or_parts _ _ h).0) (has-not n (filter_part (has keep) c.given_up) (or_parts _ _ h).1)

entry_kept : (n : ℕ) (keep : List ℕ) (c : Consumer) → has keep n ≡ true → has_entry n (Some c) ≡ true → has_entry n (Some (confined keep c)) ≡ true
entry_kept n keep c k h = go (or_cases (has (pending_seqs c) n) (has c.given_up n) h)
  where
    go : (has (pending_seqs c) n ≡ true) ⊎ (has c.given_up n ≡ true) → has_entry n (Some (confined keep c)) ≡ true
    go (inl q) = or_left _ _ (ap (λ l. has l n) (confined_pending keep c) ∙ has-kept (has keep) (pending_seqs c) n q k)
    go (inr q) = or_right _ _ (has-kept (has keep) c.given_up n q k)

-- ---- the event

-- what is kept with a part of the messages is kept by limits and retention
module _ (P : Stream → Type 0) (part : (s : Stream) (messages : List Message) → IsPart messages s.messages → P s → P (only s messages)) where
  part_fact : IsChangeFact (λ w. ⊥) ⊥ P
  part_fact = record {
    gone = λ s reply g h. g;
    only = part;
    configured = λ s reply config g h. absurd g;
    stored = λ s p room g e h. absurd g;
    made = λ s reply name config g e r h. absurd g;
    removed = λ s reply name c g e h. absurd g;
    acked = λ s reply ack c g e q h. absurd g;
    pulled = λ s reply name ask c g e h. absurd g;
  }

  -- what an acknowledgement leaves, by whether it is one of a delivery
  after_acked : (s : Stream) (new : State) (e : Event) (now : ℕ) (reply : Reply) (outs : List Out) (asked : Option Bytes) (ack : Ack) (c : Consumer) → IsEvent (Live s) e now reply outs new
      → e.what ≡ AckIt asked ack → by_name (advance s now).consumers ack.consumer ≡ Some c
      → (is_no_delivery c ack.seq ≡ true → P (advance s now)) → (is_no_delivery c ack.seq ≡ false → P (with_consumer (advance s now) (after_ack (advance s now).moment asked ack.seq ack.kind c)))
      → IfLive ⊥ P new
  unfolding answered
  after_acked s new e now reply outs asked ack c x what found f g =
      subst (IfLive ⊥ P) (ap (λ (a : Answer). a.state) x.answers)
      (change_settled (λ w. ⊥) ⊥ P part_fact (stream_answer (advance s now) e.what x.room).state
      (subst (λ (w : What). IfLive ⊥ P (stream_answer (advance s now) w x.room).state) (sym what)
      (subst (λ (o : Option Consumer). IfLive ⊥ P (ack_answer (advance s now) asked ack.seq ack.kind o).state) (sym found) (go (is_no_delivery c ack.seq) refl))))
    where
      go : (b : Bool) → is_no_delivery c ack.seq ≡ b → IfLive ⊥ P (cond b (quietly Silent (advance s now)) (ack_done (advance s now) asked ack.seq ack.kind c)).state
      go true q = f q
      go false q = g q

module _ (name : Bytes) (n : ℕ) where
  abbrev HasNone : Stream → Type 0
  HasNone s = InStream name (λ d. has_entry n (Some d) ≡ false) s

  none_part : (s : Stream) (messages : List Message) → IsPart messages s.messages → HasNone s → HasNone (only s messages)
  none_part s messages p h = stands-map (confined (seqs messages)) (record { name = λ c. refl }) (λ c e k. entry_confined n (seqs messages) c k) h

  -- as long as the message is stored
  abbrev HasIt : Stream → Type 0
  HasIt s = InStream name (λ d. has (seqs s.messages) n ≡ true → has_entry n (Some d) ≡ true) s

  it_part : (s : Stream) (messages : List Message) → IsPart messages s.messages → HasIt s → HasIt (only s messages)
  it_part s messages p h = stands-map (confined (seqs messages)) (record { name = λ c. refl }) (λ c e k q. entry_kept n (seqs messages) c q (k (has-part n (part_map (λ m. m.seq) p) q))) h

  -- the acknowledged consumer in its place
  in_its_place : (P : Consumer → Type 0) (a : Stream) (reply : Option Bytes) (k : ℕ) (kind : AckKind) (c : Consumer) → by_name a.consumers name ≡ Some c → P (after_ack a.moment reply k kind c)
      → InStream name P (with_consumer a (after_ack a.moment reply k kind c))
  in_its_place P a reply k kind c found h =
      in_replaced name (λ d. ⊤) P a (after_ack a.moment reply k kind c) (after_ack-name a.moment reply k kind c ∙ found_named a.consumers name c found) h (stands-at c found tt)

  none_in : (new : State) → IfLive ⊥ HasNone new → has_entry n (consumer_of name new) ≡ false
  none_in (Vacant i) h = absurd h
  none_in (Live t) h = subst (λ (o : Option Consumer). has_entry n o ≡ false) (sym h.found) h.holds

  it_in : (new : State) → IfLive ⊥ HasIt new → has (seqs (messages_of new)) n ≡ true → has_entry n (consumer_of name new) ≡ true
  it_in (Vacant i) h k = absurd h
  it_in (Live t) h k = subst (λ (o : Option Consumer). has_entry n o ≡ true) (sym h.found) (h.holds k)

pub law_ends : LawEnds
law_ends name n count (Vacant i) mid e now reply outs h x stood w = absurd (none_some w.found)
law_ends name n count (Live s) mid e now reply outs h x stood w = record {
  event = ap (acknowledges name) w.event ∙ subst (λ (m : Bytes). same w.ack.consumer m ≡ true) w.name_is (same_self w.ack.consumer);
  stood = stood;
  gone =
      none_in name n mid
      (after_acked (HasNone name n) (none_part name n) s mid e now reply outs w.asked w.ack c x.event w.event (subst (λ (m : Bytes). by_name a.consumers m ≡ Some c) (sym w.name_is) w.found)
      (λ q. absurd (true≢false (sym q ∙ w.delivered)))
      (λ q. in_its_place name n (λ d. has_entry n (Some d) ≡ false) a w.asked w.ack.seq w.ack.kind c w.found (entry_after n a.moment w.asked w.ack.seq w.ack.kind c ∙ entry_ended n a.moment w.ack.seq w.ack.kind c w.ended)));
}
  where
    a : Stream
    a = advance s now

    c : Consumer
    c = w.consumer

pub law_stays : LawStays
law_stays name n count (Vacant i) mid e now reply outs h x stood w k = absurd (none_some w.found)
law_stays name n count (Live s) mid e now reply outs h x stood w k =
    it_in name n mid
    (after_acked (HasIt name n) (it_part name n) s mid e now reply outs w.asked w.ack c x.event w.event (subst (λ (m : Bytes). by_name a.consumers m ≡ Some c) (sym w.name_is) w.found)
    (λ q. stands-at c w.found (λ u. its))
    (λ q. in_its_place name n (λ d. has (seqs a.messages) n ≡ true → has_entry n (Some d) ≡ true) a w.asked w.ack.seq w.ack.kind c w.found (λ u. entry_after n a.moment w.asked w.ack.seq w.ack.kind c ∙ entry_stays n a.moment w.ack.seq w.ack.kind c w.spared its))) k
  where
    a : Stream
    a = advance s now

    c : Consumer
    c = w.consumer

    its : has_entry n (Some c) ≡ true
    its = subst (λ (o : Option Consumer). has_entry n o ≡ true) w.found stood
