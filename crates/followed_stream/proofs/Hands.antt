-- What a delivery leaves of a consumer and of what it needs.
use Rattle.std.proofs.Common.{◌≡◌, ℕ, ◌+◌, ◌==◌, ◌&&◌, ◌||◌, Bool, true, false, cond, not, List, [], ◌∷◌, Option, Some, None, map, refl, sym, ap, subst, ◌∙◌}
use Rattle.std.specs.Prelude.{All, Contains, is_some, nat_le, nat_lt}
use Rattle.std.proofs.lemmas.Bool.{eqb-true}
use Rattle.std.proofs.lemmas.List.Elements.{All-cons, All-filter, All-head, All-tail}
use Rattle.js_base.specs.Bytes.{Bytes, has}
use Rattle.js_base.specs.Moments.{plus}
use Rattle.js_base.specs.declared.out.Out.{Out}
use Rattle.js_model.specs.declared.stream.Message.{Message}
use Rattle.js_model.specs.declared.stream.Stream.{Stream}
use Rattle.js_model.specs.declared.consumer.Pending.{Pending}
use Rattle.js_model.specs.declared.consumer.Pull.{Pull}
use Rattle.js_model.specs.declared.consumer.Consumer.{Consumer}
use Rattle.js_model.specs.declared.entry.Delivered.{Delivered}
use Rattle.js_model.specs.declared.entry.Delivered.TheVariants.{Sent, TooSmall, Emptied}
use Rattle.js_model.specs.Deliver.{candidates, count_of, sent_to, with_pending, Delivers}
use Rattle.js_model.specs.Retention.{needs}
use Rattle.js_model.specs.Streams.{is_unacknowledged, pending_seqs, seqs, takes}
use Rattle.js_model.proofs.Candidates.{candidate_is}
use Rattle.js_model.proofs.Members.{IsIn}
use Rattle.js_model.proofs.Named.{same_self}
use Rattle.stream_view.specs.Order.{IsInOrder}
use Rattle.consumer_need.specs.Stored.{HoldsStored}
use Rattle.consumer_progress.specs.Progresses.{progress_of, IsProgress}
use Rattle.consumer_state.specs.Delivering.{left_of, IsHeard, IsReady, MayDeliver}
use Rattle.consumer_state.specs.Offering.{IsCurrent}
use Rattle.consumer_state.proofs.Lefts.{agrees, placed_is}
use Rattle.stored_stream.proofs.Lists.{and_true, eq_flip}
use Rattle.followed_stream.specs.Counting.{left_if_sent, left_then}
use Rattle.followed_stream.specs.Followers.{Following}
use Rattle.followed_stream.specs.Handing.{is_of, DeliversFor}
use Rattle.followed_stream.proofs.Needing.{seq_in}
use Rattle.followed_stream.proofs.Holding.{all_from_in}

-- ---- who listens

-- some names that somebody listens to, or nobody does
listeners : (c : Consumer) (listened : Bool) → (listening : List Bytes) × IsHeard listening c listened
listeners c true = (c.name ∷ [], ap (λ (b : Bool). b || false) (same_self c.name))
listeners c false = ([], refl)

-- ---- a delivery that waits

-- one more waits
has_with_pending : (ps : List Pending) (new : Pending) (n : ℕ) → has (map (λ p. p.seq) (with_pending ps new)) n ≡ (new.seq == n || has (map (λ p. p.seq) ps) n)
has_with_pending [] new n = refl
has_with_pending (p ∷ ps) new n = go (nat_lt p.seq new.seq) (p.seq == new.seq) refl (has_with_pending ps new n)
  where
    rest : Bool
    rest = has (map (λ p. p.seq) ps) n

    swap : (a b c : Bool) → (a || (b || c)) ≡ (b || (a || c))
    swap true true c = refl
    swap true false c = refl
    swap false b c = refl

    twice : (b c : Bool) → (b || c) ≡ (b || (b || c))
    twice true c = refl
    twice false c = refl

    go : (a b : Bool) → (p.seq == new.seq) ≡ b → has (map (λ p. p.seq) (with_pending ps new)) n ≡ (new.seq == n || rest)
        → has (map (λ p. p.seq) (cond a (p ∷ with_pending ps new) (cond b (new ∷ ps) (new ∷ p ∷ ps)))) n ≡ (new.seq == n || (p.seq == n || rest))
    go true b e h = ap (λ (c : Bool). p.seq == n || c) h ∙ swap (p.seq == n) (new.seq == n) rest
    go false true e h = let is : p.seq ≡ new.seq = eqb-true p.seq new.seq e in twice (new.seq == n) rest ∙ ap (λ k. new.seq == n || (k == n || rest)) (sym is)
    go false false e h = refl

all_with_pending : (P : ℕ → Type 0) (ps : List Pending) (new : Pending) → All (λ p. P p.seq) ps → P new.seq → All (λ p. P p.seq) (with_pending ps new)
all_with_pending P [] new h k = All-cons (λ (p : Pending). P p.seq) new [] k h
all_with_pending P (p ∷ ps) new h k = go (nat_lt p.seq new.seq) (p.seq == new.seq) (all_with_pending P ps new (All-tail (λ (p : Pending). P p.seq) p ps h) k)
  where
    go : (a b : Bool) → All (λ p. P p.seq) (with_pending ps new) → All (λ p. P p.seq) (cond a (p ∷ with_pending ps new) (cond b (new ∷ ps) (new ∷ p ∷ ps)))
    go true b r = All-cons (λ (p : Pending). P p.seq) p (with_pending ps new) (All-head (λ (p : Pending). P p.seq) p ps h) r
    go false true r = All-cons (λ (p : Pending). P p.seq) new ps k (All-tail (λ (p : Pending). P p.seq) p ps h)
    go false false r = All-cons (λ (p : Pending). P p.seq) new (p ∷ ps) k h

-- ---- a message that is sent

-- the consumer awaits the message
abbrev waits : Consumer → Message → Bool
waits c x = takes c x && (has c.picks x.seq || nat_le c.cursor x.seq)

module _ (a : Stream) (c : Consumer) (m : Message) (progress : IsProgress (progress_of c)) (order : IsInOrder a) (candidate : Contains (candidates a c) m) where
  abbrev pub after : Consumer
  after = sent_to a.moment m c

  waits_same : (x : Message) → (m.seq == x.seq) ≡ false → has (pending_seqs after) x.seq ≡ has (pending_seqs c) x.seq
  waits_same x e = go (is_unacknowledged c)
    where
      new : Pending
      new = record { seq = m.seq; count = count_of c m.seq + 1; due = plus a.moment c.config.ack_wait }

      go : (b : Bool) → has (map (λ p. p.seq) (cond b c.pending (with_pending c.pending new))) x.seq ≡ has (pending_seqs c) x.seq
      go true = refl
      go false = has_with_pending c.pending new x.seq ∙ ap (λ (b : Bool). b || has (pending_seqs c) x.seq) e

  -- whether it is still to be delivered, and then whether it was delivered
  by_parts : (t p q r s : Bool) → (t && (p || (q || (r || s)))) ≡ ((t && (p || q)) || (t && (r || s)))
  by_parts true true q r s = refl
  by_parts true false true r s = refl
  by_parts true false false r s = refl
  by_parts false p q r s = refl

  abbrev held_part : Consumer → Message → Bool
  held_part d x = takes d x && (has (pending_seqs d) x.seq || has d.given_up x.seq)

  pub sent_needs : (x : Message) → IsIn x a.messages → (m.seq == x.seq) ≡ false → needs after x ≡ needs c x
  sent_needs x i e =
      by_parts (takes after x) (has after.picks x.seq) (nat_le after.cursor x.seq) (has (pending_seqs after) x.seq) (has after.given_up x.seq)
      ∙ ap (λ (b : Bool). b || held_part after x) (agrees a.moment a c m order (placed_is a c m progress candidate) x i ∙ ap (λ (b : Bool). waits c x && not b) (eq_flip x.seq m.seq ∙ e) ∙ sym (and_true (waits c x)))
      ∙ ap (λ (b : Bool). waits c x || (takes c x && (b || has c.given_up x.seq))) (waits_same x e)
      ∙ sym (by_parts (takes c x) (has c.picks x.seq) (nat_le c.cursor x.seq) (has (pending_seqs c) x.seq) (has c.given_up x.seq))

  pub sent_held : HoldsStored a c → HoldsStored a after
  sent_held h = record {
    picks = All-filter (λ n. not (n == m.seq)) (λ n. has (seqs a.messages) n ≡ true) c.picks h.picks;
    pending = go (is_unacknowledged c);
    given_up = h.given_up;
  }
    where
      new : Pending
      new = record { seq = m.seq; count = count_of c m.seq + 1; due = plus a.moment c.config.ack_wait }

      go : (b : Bool) → All (λ p. has (seqs a.messages) p.seq ≡ true) (cond b c.pending (with_pending c.pending new))
      go true = h.pending
      go false = all_with_pending (λ n. has (seqs a.messages) n ≡ true) c.pending new h.pending (seq_in m a.messages (candidate_is a c m candidate).stored)

-- ---- each case

-- what is left of the consumer: its name and configuration, what it holds, and what it needs of the other messages
record IsLeft (a : Stream) (old : Consumer) (what : Delivered) (new : Consumer) : Type 0 where
  name : new.name ≡ old.name
  config : new.config ≡ old.config
  held : HoldsStored a new
  needed : All (λ m. is_of what m.seq ≡ false → needs new m ≡ needs old m) a.messages

module _ (a : Stream) (old : Consumer) (listening : List Bytes) (own : List Out) (new : Consumer) (progress : IsProgress (progress_of old)) (order : IsInOrder a) (held : HoldsStored a old) where
  -- but for its pulls it is as it was
  waits_less : (what : Delivered) (waiting : List Pull) → new ≡ record old { waiting = waiting } → IsLeft a old what new
  waits_less what waiting is = subst (IsLeft a old what) (sym is) (record {
    name = refl;
    config = refl;
    held = record { picks = held.picks; pending = held.pending; given_up = held.given_up };
    needed = all_from_in (λ m. is_of what m.seq ≡ false → needs (record old { waiting = waiting }) m ≡ needs old m) a.messages (λ m i e. refl);
  })

  is_left : (what : Delivered) → Delivers a listening old what own new → IsLeft a old what new
  is_left (Sent seq count dseq) d = subst (IsLeft a old (Sent seq count dseq)) (sym d.after_is) (record {
    name = refl;
    config = refl;
    held = sent_held a old d.message progress order d.candidate held;
    needed = all_from_in (λ m. (seq == m.seq) ≡ false → needs (sent_to a.moment d.message old) m ≡ needs old m) a.messages
        (λ m i e. sent_needs a old d.message progress order d.candidate m i (ap (λ n. n == m.seq) (sym d.seq_is) ∙ e));
  })
  is_left TooSmall d = waits_less TooSmall d.rest d.after_is
  is_left Emptied d = waits_less Emptied _ d.after_is

-- ---- the whole call

module _ (a : Stream) (listened : Bool) (old : Following) (progress : IsProgress (progress_of old.consumer)) (current : IsCurrent a old.consumer old.undelivered) where
  left_is : (what : Delivered) (message : Option Message) → left_of what message old.consumer old.undelivered ≡ left_then (Some what) (left_if_sent old message) old.undelivered
  left_is (Sent seq count dseq) None = refl
  left_is (Sent seq count dseq) (Some m) = refl
  left_is TooSmall message = refl
  left_is Emptied message = refl

  pub delivers_for : (o : Option Delivered) (message : Option Message) (outs_old outs_new : List Out) (new : Consumer) → MayDeliver a listened message old.undelivered old.consumer o outs_old outs_new new
      → IsReady a listened old.consumer (is_some o) → DeliversFor a listened old o outs_old outs_new (record { consumer = new; undelivered = left_then o (left_if_sent old message) old.undelivered })
  delivers_for None message outs_old outs_new new made ready = record {
    unready = ready;
    outs_same = made.outs_same;
    same = ap (λ (c : Consumer). record { consumer = c; undelivered = old.undelivered }) made.same;
  }
  delivers_for (Some what) message outs_old outs_new new made ready =
      let heard = listeners old.consumer listened in
      let left = is_left a old.consumer heard.0 made.own new progress current.order current.stored what (made.delivers heard.0 heard.1) in
      record {
        own = made.own;
        outs_are = made.outs_are;
        delivers = made.delivers;
        counted = sym (made.left ∙ left_is what message);
        name = left.name;
        filter_same = left.config;
        held = left.held;
        needed = left.needed;
      }
