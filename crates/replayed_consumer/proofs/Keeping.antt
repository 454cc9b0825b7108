-- A consumer that holds less, or whose deliveries are due at other moments, may be held where it was.
use Rattle.std.proofs.Common.{◌≡◌, ℕ, ◌≤◌, ◌==◌, Bool, true, false, cond, not, List, [], map, Option, refl, sym, ap, subst, ◌∙◌, arith}
use Rattle.std.specs.Prelude.{All, filter}
use Rattle.std.proofs.lemmas.List.{length-map}
use Rattle.std.proofs.lemmas.List.Elements.{All-map, All-nil, All-weaker}
use Rattle.js_base.specs.Bytes.{Bytes}
use Rattle.js_model.specs.declared.stream.Message.{Message}
use Rattle.js_model.specs.declared.consumer_config.ConsumerConfig.{ConsumerConfig}
use Rattle.js_model.specs.declared.consumer.Pending.{Pending}
use Rattle.js_model.specs.declared.consumer.Consumer.{Consumer}
use Rattle.js_model.specs.Acknowledge.{moved, with_due, without}
use Rattle.js_model.specs.Lists.{Apart, Between, IsPart, keep, none, skip}
use Rattle.js_model.specs.Streams.{pending_seqs, seqs}
use Rattle.js_model.proofs.Lacking.{apart-parts, has-part}
use Rattle.js_model.proofs.Parts.{all_part, between_bounds, between_from_map, between_map, filter_part, part_between, part_map, part-length}
use Rattle.model_laws.specs.Sound.{AreStored, IsCounted, IsWellStoredConsumer}
use Rattle.model_laws.specs.Bounds.{IsBoundedConsumer, IsBoundedEntry, IsNumber}
use Rattle.model_laws.proofs.Bounded.{All-part}
use Rattle.model_laws.proofs.SoundAcks.{moved-seqs}
use Rattle.model_laws.proofs.SoundParts.{has-filter, has-kept, map-filter}
use Rattle.effects.specs.Folding.{consumer_from, holding}
use Rattle.effects.specs.Ranges.{is_within}
use Rattle.replayed_consumer.specs.Storable.{Keeps, KeepsOutside, KeepsStart}

-- ---- less is held

no_part : {X : Type 0} {ys xs : List X} → IsPart ys xs → xs ≡ [] → ys ≡ []
no_part none e = refl
no_part (keep p) e = absurd cc
no_part (skip p) e = absurd cc

-- it holds less, and all else is the same
record IsLess (c d : Consumer) : Type 0 where
  made : d.made ≡ c.made
  name : d.name ≡ c.name
  config : d.config ≡ c.config
  cursor : d.cursor ≡ c.cursor
  dseq : d.dseq ≡ c.dseq
  waiting : d.waiting ≡ c.waiting
  picks : IsPart d.picks c.picks
  pending : IsPart d.pending c.pending
  given_up : IsPart d.given_up c.given_up

-- what it holds is stored
record AreThere (messages : List Message) (c : Consumer) : Type 0 where
  picks : AreStored messages c.picks
  pending : AreStored messages (pending_seqs c)
  given_up : AreStored messages c.given_up

less_sound : (before after : List Message) (last : ℕ) (c d : Consumer) → IsLess c d → AreThere after d → IsWellStoredConsumer before last c → IsWellStoredConsumer after last d
less_sound before after last c d l t k = record {
  config = rw l.config k.config;
  named = rw (l.config, l.name) k.named;
  cursor = rw l.cursor k.cursor;
  picks = rw l.cursor (part_between (λ n. n) 1 c.cursor l.picks k.picks);
  pending = rw l.cursor (part_between (λ p. p.seq) 1 c.cursor l.pending k.pending);
  given_up = rw l.cursor (part_between (λ n. n) 1 c.cursor l.given_up k.given_up);
  picks_stored = t.picks;
  pending_stored = t.pending;
  given_up_stored = t.given_up;
  picks_pending = apart-parts l.picks (part_map (λ p. p.seq) l.pending) k.picks_pending;
  picks_given_up = apart-parts l.picks l.given_up k.picks_given_up;
  pending_given_up = apart-parts (part_map (λ p. p.seq) l.pending) l.given_up k.pending_given_up;
  counts = rw (l.dseq, l.config) (All-part (IsCounted c.dseq c.config.max_deliver) l.pending k.counts);
  unacknowledged_pending = λ e. no_part l.pending (k.unacknowledged_pending (rw (← l.config) e));
  unacknowledged_given_up = λ e. no_part l.given_up (k.unacknowledged_given_up (rw (← l.config) e));
  push = λ e. l.waiting ∙ k.push (rw (← l.config) e);
}

less_bounded : (c d : Consumer) → IsLess c d → IsBoundedConsumer c → IsBoundedConsumer d
less_bounded c d l k = record {
  made = rw l.made k.made;
  cursor = rw l.cursor k.cursor;
  dseq = rw l.dseq k.dseq;
  picks = let a = part-length l.picks in let b = k.picks in omega (arith, a, b);
  pending = let a = part-length l.pending in let b = k.pending in omega (arith, a, b);
  entries = All-part IsBoundedEntry l.pending k.entries;
  given_up = let a = part-length l.given_up in let b = k.given_up in omega (arith, a, b);
}

module _ (t : ℕ → Bool) where
  still_stored : (ms : List Message) (ns : List ℕ) → AreStored ms ns → AreStored (filter (λ m. t m.seq) ms) (filter t ns)
  still_stored ms ns h = record {
    stored = λ n k.
        let passes = has-filter t ns n k in
        let there = h.stored n (has-part n (filter_part t ns) k) in
        rw (map-filter (λ m. m.seq) t ms) (has-kept t (seqs ms) n there passes);
  }

  holding_there : (ms : List Message) (last : ℕ) (c : Consumer) → IsWellStoredConsumer ms last c → AreThere (filter (λ m. t m.seq) ms) (holding t c)
  holding_there ms last c k = record {
    picks = still_stored ms c.picks k.picks_stored;
    pending = rw (map-filter (λ p. p.seq) t c.pending) (still_stored ms (pending_seqs c) k.pending_stored);
    given_up = still_stored ms c.given_up k.given_up_stored;
  }

  holding_less : (c : Consumer) → IsLess c (holding t c)
  holding_less c = record {
    made = refl;
    name = refl;
    config = refl;
    cursor = refl;
    dseq = refl;
    waiting = refl;
    picks = filter_part t c.picks;
    pending = filter_part (λ p. t p.seq) c.pending;
    given_up = filter_part t c.given_up;
  }

  without_less : (c : Consumer) → IsLess c (without t c)
  without_less c = record {
    made = refl;
    name = refl;
    config = refl;
    cursor = refl;
    dseq = refl;
    waiting = refl;
    picks = all_part c.picks;
    pending = filter_part (λ p. not (t p.seq)) c.pending;
    given_up = filter_part (λ n. not (t n)) c.given_up;
  }

  without_there : (ms : List Message) (last : ℕ) (c : Consumer) → IsWellStoredConsumer ms last c → AreThere ms (without t c)
  without_there ms last c k = record {
    picks = k.picks_stored;
    pending = record { stored = λ n h. k.pending_stored.stored n (has-part n (part_map (λ p. p.seq) (filter_part (λ p. not (t p.seq)) c.pending)) h) };
    given_up = record { stored = λ n h. k.given_up_stored.stored n (has-part n (filter_part (λ n. not (t n)) c.given_up) h) };
  }

  pub ended_keeps : (c : Consumer) → Keeps c (without t c)
  ended_keeps c = record {
    kept = λ messages last h. record {
      stored = less_sound messages messages last c (without t c) (without_less c) (without_there messages last c h.stored) h.stored;
      bounded = less_bounded c (without t c) (without_less c) h.bounded;
    };
  }

pub holding_keeps : (low high : ℕ) (c : Consumer) → KeepsOutside low high c (holding (λ n. not (is_within low high n)) c)
holding_keeps low high c = record {
  kept = λ messages last h. record {
    stored = less_sound messages (filter (λ m. not (is_within low high m.seq)) messages) last c (holding passes c) (holding_less passes c) (holding_there passes messages last c h.stored) h.stored;
    bounded = less_bounded c (holding passes c) (holding_less passes c) h.bounded;
  };
}
  where
    passes : ℕ → Bool
    passes n = not (is_within low high n)

-- ---- another due moment

due_counted : (n due dseq : ℕ) (limit : Option ℕ) (p : Pending) → IsCounted dseq limit p → IsCounted dseq limit (moved n due p)
due_counted n due dseq limit p h = go (p.seq == n)
  where
    go : (b : Bool) → IsCounted dseq limit (cond b (record p { due = due }) p)
    go true = record { least = h.least; most = h.most; within = h.within }
    go false = h

due_bounded : (n due : ℕ) (p : Pending) → IsNumber due → IsBoundedEntry p → IsBoundedEntry (moved n due p)
due_bounded n due p number h = go (p.seq == n)
  where
    go : (b : Bool) → IsBoundedEntry (cond b (record p { due = due }) p)
    go true = record { count = h.count; due = number }
    go false = h

all_moved : (P : Pending → Type 0) (n due : ℕ) → ((p : Pending) → P p → P (moved n due p)) → (ps : List Pending) → All P ps → All P (map (moved n due) ps)
all_moved P n due f ps h = All-map P (moved n due) ps (All-weaker P (λ p. P (moved n due p)) f ps h)

due_between : (n due high : ℕ) (ps : List Pending) → Between (λ p. p.seq) 1 high ps → Between (λ p. p.seq) 1 high (map (moved n due) ps)
due_between n due high ps h =
    between_from_map (λ m. m) (λ p. p.seq) 1 high (map (moved n due) ps)
    (subst (λ (l : List ℕ). Between (λ m. m) 1 high l) (sym (moved-seqs n due ps)) (between_map (λ m. m) (λ p. p.seq) 1 high ps h))

due_sound : (ms : List Message) (last n due : ℕ) (c : Consumer) → IsWellStoredConsumer ms last c → IsWellStoredConsumer ms last (with_due n due c)
due_sound ms last n due c k = record {
  config = k.config;
  named = k.named;
  cursor = k.cursor;
  picks = k.picks;
  pending = due_between n due c.cursor c.pending k.pending;
  given_up = k.given_up;
  picks_stored = k.picks_stored;
  pending_stored = rw (moved-seqs n due c.pending) k.pending_stored;
  given_up_stored = k.given_up_stored;
  picks_pending = rw (moved-seqs n due c.pending) k.picks_pending;
  picks_given_up = k.picks_given_up;
  pending_given_up = rw (moved-seqs n due c.pending) k.pending_given_up;
  counts = all_moved (IsCounted c.dseq c.config.max_deliver) n due (due_counted n due c.dseq c.config.max_deliver) c.pending k.counts;
  unacknowledged_pending = λ e. ap (map (moved n due)) (k.unacknowledged_pending e);
  unacknowledged_given_up = k.unacknowledged_given_up;
  push = k.push;
}

due_within : (n due : ℕ) (c : Consumer) → IsNumber due → IsBoundedConsumer c → IsBoundedConsumer (with_due n due c)
due_within n due c number k = record {
  made = k.made;
  cursor = k.cursor;
  dseq = k.dseq;
  picks = k.picks;
  pending = let a = length-map c.pending (moved n due) in let b = k.pending in omega (arith, a, b);
  entries = all_moved IsBoundedEntry n due (λ p h. due_bounded n due p number h) c.pending k.entries;
  given_up = k.given_up;
}

pub due_keeps : (n due : ℕ) (c : Consumer) → IsNumber due → Keeps c (with_due n due c)
due_keeps n due c number = record { kept = λ messages last h. record { stored = due_sound messages last n due c h.stored; bounded = due_within n due c number h.bounded } }

-- ---- at its start

no_sequence : (ns : List ℕ) → Apart ns []
no_sequence ns = record { apart = λ n e. refl }

none_stored : (messages : List Message) → AreStored messages []
none_stored messages = record { stored = λ n e. absurd cc }

pub start_keeps : (name : Bytes) (made : ℕ) (config : ConsumerConfig) (cursor : ℕ) (picks : List ℕ) → KeepsStart name made config cursor picks (consumer_from name made config cursor picks)
start_keeps name made config cursor picks = record {
  kept = λ messages last s. record {
    stored = record {
      config = s.valid;
      named = s.named;
      cursor = s.reach;
      picks = s.ascend;
      pending = from_one s.ascend;
      given_up = from_one s.ascend;
      picks_stored = s.stored;
      pending_stored = none_stored messages;
      given_up_stored = none_stored messages;
      picks_pending = no_sequence picks;
      picks_given_up = no_sequence picks;
      pending_given_up = no_sequence [];
      counts = All-nil (IsCounted 0 config.max_deliver);
      unacknowledged_pending = λ e. refl;
      unacknowledged_given_up = λ e. refl;
      push = λ e. refl;
    };
    bounded = record {
      made = s.moment;
      cursor = let a = s.reach in let b = s.end in omega (arith, a, b);
      dseq = omega arith;
      picks = s.few;
      pending = omega arith;
      entries = All-nil IsBoundedEntry;
      given_up = omega arith;
    };
  };
}
  where
    from_one : Between (λ n. n) 1 cursor picks → 1 ≤ cursor
    from_one h = between_bounds (λ n. n) 1 cursor picks h
