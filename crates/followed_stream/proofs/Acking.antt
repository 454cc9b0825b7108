-- What an acknowledgement and a pull leave of a consumer.
use Rattle.std.proofs.Common.{◌≡◌, ℕ, ◌==◌, Bool, true, false, ◌&&◌, ◌||◌, cond, not, List, [], ◌∷◌, ◌++◌, Option, Some, None, map, refl, sym, ap, subst, ◌∙◌}
use Rattle.std.specs.Prelude.{All, nat_le}
use Rattle.std.specs.List.{list_any}
use Rattle.std.proofs.lemmas.List.Elements.{All-filter, All-map, All-weaker, filter_agree}
use Rattle.js_base.specs.Bytes.{Bytes, has}
use Rattle.js_base.specs.declared.out.Out.{Out}
use Rattle.js_model.specs.declared.ack.Ask.{Ask}
use Rattle.js_model.specs.declared.ack.AckKind.{AckKind}
use Rattle.js_model.specs.declared.ack.AckKind.TheVariants.{Ack as Acknowledge, Nak, Wpi, Next, Term}
use Rattle.js_model.specs.declared.stream.Message.{Message}
use Rattle.js_model.specs.declared.stream.Stream.{Stream}
use Rattle.js_model.specs.declared.consumer.Pending.{Pending}
use Rattle.js_model.specs.declared.consumer.Consumer.{Consumer}
use Rattle.js_model.specs.Acknowledge.{acknowledged, ends, is_no_delivery, moved, with_due, without}
use Rattle.js_model.specs.Events.{after_ack, next_ask, next_outs}
use Rattle.js_model.specs.Pulls.{pull_refusal, pulled, pulled_unless}
use Rattle.js_model.specs.Retention.{needs}
use Rattle.js_model.specs.Streams.{pending_seqs, seqs, takes}
use Rattle.consumer_state.specs.DueAgain.{changed_due}
use Rattle.consumer_state.specs.Ending.{ack_ends, before_ending, begun, kind_ends, outs_to, reply_to, LawAcknowledged, LawBeforeEnding}
use Rattle.consumer_state.proofs.Endings.{without_none}
use Rattle.followed_stream.specs.Asked.{acked, acked_outs, ends_some, IsAcked}
use Rattle.followed_stream.specs.declared.answering.Acked.{Acked}
use Rattle.followed_stream.specs.Followers.{Following, IsCounted}
use Rattle.followed_stream.specs.Spans.{spans}
use Rattle.followed_stream.proofs.Changing.{Turns}

-- ---- a consumer of which other deliveries and other pulls wait

-- what waits and is given up may be less, and other pulls wait
pub record Lessens (s : Stream) (old new : Consumer) : Type 0 where
  pub same : new ≡ record old { pending = new.pending; given_up = new.given_up; waiting = new.waiting }
  pub pending : All (λ p. has (seqs s.messages) p.seq ≡ true) old.pending → All (λ p. has (seqs s.messages) p.seq ≡ true) new.pending
  pub given_up : All (λ n. has (seqs s.messages) n ≡ true) old.given_up → All (λ n. has (seqs s.messages) n ≡ true) new.given_up

-- it turns into one that its stream may keep
pub turned : (s : Stream) (f : Following) (new : Consumer) → Lessens s f.consumer new → Turns s f (record f { consumer = new })
turned s f new h = record {
  name = ap (λ (c : Consumer). c.name) h.same;
  held = λ k. record {
    picks = subst (λ (c : Consumer). All (λ n. has (seqs s.messages) n ≡ true) c.picks) (sym h.same) k.picks;
    pending = h.pending k.pending;
    given_up = h.given_up k.given_up;
  };
  counted = λ k. subst (λ (c : Consumer). IsCounted s.messages (record f { consumer = c })) (sym h.same) k;
}

pub takes_same : (s : Stream) (old new : Consumer) (m : Message) → Lessens s old new → takes new m ≡ takes old m
takes_same s old new m h = ap (λ (c : Consumer). takes c m) h.same

-- ---- pulls

module _ (now : ℕ) (reply : Option Bytes) (ask : Option Ask) (c : Consumer) where
  waits_else : (o : Option Bytes) (r : Bytes) (a : Option Ask) → pulled_unless o now r a c ≡ record c { waiting = (pulled_unless o now r a c).waiting }
  waits_else None r None = refl
  waits_else None r (Some a) = refl
  waits_else (Some block) r a = refl

  pub pulled_is : pulled now reply ask c ≡ record c { waiting = (pulled now reply ask c).waiting }
  pulled_is = go reply
    where
      go : (r : Option Bytes) → pulled now r ask c ≡ record c { waiting = (pulled now r ask c).waiting }
      go None = refl
      go (Some r) = waits_else (pull_refusal c ask) r ask

  pub pulled_needs : (m : Message) → needs (pulled now reply ask c) m ≡ needs c m
  pulled_needs m = ap (λ (x : Consumer). needs x m) pulled_is

  pub pulled_lessens : (s : Stream) → Lessens s c (pulled now reply ask c)
  pulled_lessens s = record {
    same = pulled_is ∙ ap (λ (x : Consumer). record c { pending = x.pending; given_up = x.given_up; waiting = (pulled now reply ask c).waiting }) (sym pulled_is);
    pending = λ k. subst (λ (x : Consumer). All (λ p. has (seqs s.messages) p.seq ≡ true) x.pending) (sym pulled_is) k;
    given_up = λ k. subst (λ (x : Consumer). All (λ n. has (seqs s.messages) n ≡ true) x.given_up) (sym pulled_is) k;
  }

-- ---- acknowledgements

moved_seq : (n due : ℕ) (p : Pending) → (moved n due p).seq ≡ p.seq
moved_seq n due p = go (p.seq == n)
  where
    go : (b : Bool) → (cond b (record p { due = due }) p).seq ≡ p.seq
    go true = refl
    go false = refl

moved_seqs : (n due : ℕ) (ps : List Pending) → map (λ p. p.seq) (map (moved n due) ps) ≡ map (λ p. p.seq) ps
moved_seqs n due [] = refl
moved_seqs n due (p ∷ ps) = rw (moved_seq n due p, moved_seqs n due ps) refl

all_moved : (P : ℕ → Type 0) (n due : ℕ) (ps : List Pending) → All (λ p. P p.seq) ps → All (λ p. P p.seq) (map (moved n due) ps)
all_moved P n due ps h = All-map (λ (p : Pending). P p.seq) (moved n due) ps (All-weaker (λ (p : Pending). P p.seq) (λ p. P (moved n due p).seq) (λ p k. subst P (sym (moved_seq n due p)) k) ps h)

module _ (s : Stream) (c : Consumer) where
  abbrev is_stored : ℕ → Type 0
  is_stored n = has (seqs s.messages) n ≡ true

  stays : Lessens s c c
  stays = record { same = refl; pending = λ k. k; given_up = λ k. k }

  without_lessens : (t : ℕ → Bool) → Lessens s c (without t c)
  without_lessens t = record {
    same = refl;
    pending = λ k. All-filter (λ (p : Pending). not (t p.seq)) (λ p. is_stored p.seq) c.pending k;
    given_up = λ k. All-filter (λ n. not (t n)) is_stored c.given_up k;
  }

  due_lessens : (n due : ℕ) → Lessens s c (with_due n due c)
  due_lessens n due = record { same = refl; pending = λ k. all_moved is_stored n due c.pending k; given_up = λ k. k }

lessens_twice : (s : Stream) (a b c : Consumer) → Lessens s a b → Lessens s b c → Lessens s a c
lessens_twice s a b c h k = record {
  same = k.same ∙ ap (λ (x : Consumer). record x { pending = c.pending; given_up = c.given_up; waiting = c.waiting }) h.same;
  pending = λ w. k.pending (h.pending w);
  given_up = λ w. k.given_up (h.given_up w);
}

pub acked_lessens : (s : Stream) (now : ℕ) (reply : Option Bytes) (n : ℕ) (kind : AckKind) (c : Consumer) → Lessens s c (acked now reply n kind c)
acked_lessens s now reply n kind c = go (is_no_delivery c n)
  where
    of : (k : AckKind) → Lessens s c (after_ack now reply n k c)
    of Acknowledge = without_lessens s c (ends c.config.ack_policy n)
    of (Nak delay) = due_lessens s c n _
    of Wpi = due_lessens s c n _
    of (Next ask) = lessens_twice s c (without (ends c.config.ack_policy n) c) _ (without_lessens s c (ends c.config.ack_policy n)) (pulled_lessens now reply (Some ask) (without (ends c.config.ack_policy n) c) s)
    of Term = without_lessens s c (λ m. m == n)

    go : (b : Bool) → Lessens s c (cond b c (after_ack now reply n kind c))
    go true = stays s c
    go false = of kind

-- ---- in two steps

without_agree : (t u : ℕ → Bool) → ((m : ℕ) → t m ≡ u m) → (c : Consumer) → without t c ≡ without u c
without_agree t u h c =
    rw (
      filter_agree (λ (p : Pending). not (t p.seq)) (λ p. not (u p.seq)) (λ p. ap not (h p.seq)) c.pending,
      filter_agree (λ n. not (t n)) (λ n. not (u n)) (λ n. ap not (h n)) c.given_up,
    ) refl

module _ (now : ℕ) (reply : Option Bytes) (n : ℕ) (kind : AckKind) (c : Consumer) where
  -- both steps together
  pub acked_is : LawAcknowledged → LawBeforeEnding → without (ack_ends (before_ending now reply n kind c) n kind) (before_ending now reply n kind c) ≡ acked now reply n kind c
  acked_is whole first =
      without_agree (ack_ends (before_ending now reply n kind c) n kind) (ack_ends c n kind) (first now reply n kind c) (before_ending now reply n kind c)
      ∙ go (is_no_delivery c n) refl
    where
      go : (b : Bool) → is_no_delivery c n ≡ b → without (ack_ends c n kind) (before_ending now reply n kind c) ≡ cond b c (after_ack now reply n kind c)
      go true e =
          ap (λ b. without (ack_ends c n kind) (cond b c (begun now reply n kind c))) e
          ∙ without_agree (ack_ends c n kind) (λ m. false) (λ m. ap (λ b. not b && kind_ends_now m) e) c
          ∙ without_none c
        where
          kind_ends_now : ℕ → Bool
          kind_ends_now m = kind_ends c.config.ack_policy n kind m
      go false e = whole now reply n kind c e

  -- what is sent does not go by what ended
  pub outs_same : outs_to reply n kind c ≡ acked_outs now reply n kind c
  outs_same = go (is_no_delivery c n)
    where
      of : (k : AckKind) → next_outs reply (next_ask k) c ≡ next_outs reply (next_ask k) (acknowledged now n k c)
      of Acknowledge = refl
      of (Nak delay) = refl
      of Wpi = refl
      of (Next ask) = asked reply
        where
          asked : (r : Option Bytes) → next_outs r (Some ask) c ≡ next_outs r (Some ask) (acknowledged now n (Next ask) c)
          asked None = refl
          asked (Some r) = refl
      of Term = refl

      go : (b : Bool) → cond b [] (next_outs reply (next_ask kind) c) ≡ cond b [] (next_outs reply (next_ask kind) (acknowledged now n kind c))
      go true = refl
      go false = of kind

  -- the first step leaves what is needed
  pub first_needs : (m : Message) → needs (before_ending now reply n kind c) m ≡ needs c m
  first_needs m = go (is_no_delivery c n)
    where
      due_needs : (due : ℕ) → needs (with_due n due c) m ≡ needs c m
      due_needs due = ap (λ (ns : List ℕ). takes c m && (has c.picks m.seq || (nat_le c.cursor m.seq || (has ns m.seq || has c.given_up m.seq)))) (moved_seqs n due c.pending)

      of : (k : AckKind) → needs (begun now reply n k c) m ≡ needs c m
      of Acknowledge = refl
      of (Nak delay) = due_needs _
      of Wpi = due_needs _
      of (Next ask) = pulled_needs now reply (Some ask) c m
      of Term = refl

      go : (b : Bool) → needs (cond b c (begun now reply n kind c)) m ≡ needs c m
      go true = refl
      go false = of kind

-- whether some delivery ends is known before the first step
any_agree : {X : Type 0} (t u : X → Bool) → ((x : X) → t x ≡ u x) → (xs : List X) → list_any t xs ≡ list_any u xs
any_agree t u h [] = refl
any_agree t u h (x ∷ xs) = rw (h x, any_agree t u h xs) refl

module _ (now : ℕ) (reply : Option Bytes) (n : ℕ) (kind : AckKind) (c : Consumer) where
  ends_begun : (t : ℕ → Bool) → ends_some t (before_ending now reply n kind c) ≡ ends_some t c
  ends_begun t = go (is_no_delivery c n)
    where
      of_due : (due : ℕ) → ends_some t (with_due n due c) ≡ ends_some t c
      of_due due = ap (λ (ns : List ℕ). list_any t ns || list_any t c.given_up) (moved_seqs n due c.pending)

      of : (k : AckKind) → ends_some t (begun now reply n k c) ≡ ends_some t c
      of Acknowledge = refl
      of (Nak delay) = of_due _
      of Wpi = of_due _
      of (Next ask) = ap (ends_some t) (pulled_is now reply (Some ask) c)
      of Term = refl

      go : (b : Bool) → ends_some t (cond b c (begun now reply n kind c)) ≡ ends_some t c
      go true = refl
      go false = of kind

  ends_first : LawBeforeEnding → ends_some (ack_ends (before_ending now reply n kind c) n kind) (before_ending now reply n kind c) ≡ ends_some (ack_ends c n kind) c
  ends_first first =
      ends_begun (ack_ends (before_ending now reply n kind c) n kind)
      ∙ rw (any_agree (ack_ends (before_ending now reply n kind c) n kind) (ack_ends c n kind) (first now reply n kind c) (pending_seqs c), any_agree (ack_ends (before_ending now reply n kind c) n kind) (ack_ends c n kind) (first now reply n kind c) c.given_up) refl

pub acks : LawAcknowledged → LawBeforeEnding → (now : ℕ) (reply : Option Bytes) (n : ℕ) (kind : AckKind) (old : Following) (mid new : Consumer) (told : Acked) (outs_old outs_new : List Out)
    → told.reply ≡ reply_to old.consumer n kind → told.ended ≡ ends_some (ack_ends mid n kind) mid → told.due ≡ changed_due now n kind old.consumer → outs_new ≡ outs_old ++ outs_to reply n kind old.consumer → mid ≡ before_ending now reply n kind old.consumer → new ≡ without (ack_ends mid n kind) mid
    → ((m : Message) → spans told.loose m.seq ≡ false → needs new m ≡ needs mid m) → IsAcked now reply n kind old told outs_old outs_new (record old { consumer = new })
acks whole first now reply n kind old mid new told outs_old outs_new replied some due sent begins ends loose = record {
  reply_is = replied;
  ended = some ∙ ap (λ (c : Consumer). ends_some (ack_ends c n kind) c) begins ∙ ends_first now reply n kind old.consumer first;
  due = due;
  outs = sent ∙ ap (λ (outs : List Out). outs_old ++ outs) (outs_same now reply n kind old.consumer);
  left = ap (λ (c : Consumer). record old { consumer = c }) (ends ∙ ap (λ (c : Consumer). without (ack_ends c n kind) c) begins ∙ acked_is now reply n kind old.consumer whole first);
  loose = λ m e. loose m e ∙ ap (λ (c : Consumer). needs c m) begins ∙ first_needs now reply n kind old.consumer m;
}
