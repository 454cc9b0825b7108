-- A sound state in one piece, as the proofs carry it through the changes of the machine: what is stored, with what filters match.
use Rattle.std.proofs.Common.{◌≡◌, ℕ, ◌+◌, ◌≤◌, Bool, true, false, ◌&&◌, ◌||◌, List, [], ◌∷◌, refl, sym, subst}
use Rattle.std.specs.Prelude.{IsTrue, ◌==◌, ⊤, All}
use Rattle.std.specs.List.{list_any}
use Rattle.std.proofs.lemmas.Bool.{and_parts, and_from, eqb-true, eq-eqb, or_left, or_right}
use Rattle.std.proofs.lemmas.List.Elements.{All-nil, All-cons}
use Rattle.js_base.specs.Bytes.{Bytes, same, has}
use Rattle.js_model.specs.declared.stream.Message.{Message}
use Rattle.js_model.specs.declared.stream.Stream.{Stream}
use Rattle.js_model.specs.declared.stream.State.{State}
use Rattle.js_model.specs.declared.stream.State.TheVariants.{Vacant, Live}
use Rattle.js_model.specs.declared.consumer.Consumer.{Consumer}
use Rattle.js_model.specs.Lists.{Between, Apart}
use Rattle.js_model.specs.Streams.{seqs, passes_filter, pending_seqs, is_unacknowledged, is_push}
use Rattle.js_model.specs.Configs.{is_stream_config, is_consumer_config}
use Rattle.model_laws.specs.Sound as two
pub use Rattle.model_laws.specs.Sound.{IsCounted, AreDifferent, AreOrdered}
use Rattle.js_model.proofs.Members.{IsIn, here, there, in_any, any_in, all_in, holds_of_one}

-- a stored message of this sequence matches the filter
abbrev pub IsStored : List Message → Bytes → ℕ → Type 0
IsStored messages pattern n = list_any (λ m. m.seq == n && passes_filter pattern m.subject) messages ≡ true

-- a message of each sequence is stored and matches the filter
pub record AreStored (messages : List Message) (pattern : Bytes) (ns : List ℕ) : Type 0 where
  pub stored : (n : ℕ) → has ns n ≡ true → IsStored messages pattern n

-- the sequences of a consumer ascend below its cursor, are stored, and stand once in picks, pending or given up
pub record IsSoundConsumer (messages : List Message) (last : ℕ) (c : Consumer) : Type 0 where
  pub config : IsTrue (is_consumer_config c.config)
  pub named : IsTrue (same c.config.name c.name)
  pub cursor : c.cursor ≤ last + 1
  pub picks : Between (λ n. n) 1 c.cursor c.picks
  pub pending : Between (λ p. p.seq) 1 c.cursor c.pending
  pub given_up : Between (λ n. n) 1 c.cursor c.given_up
  pub picks_stored : AreStored messages c.config.filter_subject c.picks
  pub pending_stored : AreStored messages c.config.filter_subject (pending_seqs c)
  pub given_up_stored : AreStored messages c.config.filter_subject c.given_up
  pub picks_pending : Apart c.picks (pending_seqs c)
  pub picks_given_up : Apart c.picks c.given_up
  pub pending_given_up : Apart (pending_seqs c) c.given_up
  pub counts : All (IsCounted c.dseq c.config.max_deliver) c.pending
  pub unacknowledged_pending : is_unacknowledged c ≡ true → c.pending ≡ []
  pub unacknowledged_given_up : is_unacknowledged c ≡ true → c.given_up ≡ []
  pub push : is_push c ≡ true → c.waiting ≡ []

pub record IsSoundStream (s : Stream) : Type 0 where
  pub config : IsTrue (is_stream_config s.config)
  pub messages : Between (λ m. m.seq) 1 (s.last + 1) s.messages
  pub consumers : All (IsSoundConsumer s.messages s.last) s.consumers
  pub ordered : AreOrdered s.consumers
  pub ids : AreDifferent s.ids

abbrev pub IsSoundState : State → Type 0
IsSoundState (Vacant i) = ⊤
IsSoundState (Live s) = IsSoundStream s

-- ---- members

has_message : (n : ℕ) (ms : List Message) → has (seqs ms) n ≡ true → list_any (λ m. m.seq == n) ms ≡ true
has_message n [] h = h
has_message n (m ∷ ms) h = go (m.seq == n) (has_message n ms) h
  where
    go : (b : Bool) → (has (seqs ms) n ≡ true → list_any (λ m. m.seq == n) ms ≡ true) → (b || has (seqs ms) n) ≡ true → (b || list_any (λ m. m.seq == n) ms) ≡ true
    go true f k = refl
    go false f k = f k

pub has_member : (m : Message) (ms : List Message) → IsIn m ms → has (seqs ms) m.seq ≡ true
has_member m [] i = elim i [ ]
has_member m (x ∷ ms) here = or_left (m.seq == m.seq) (has (seqs ms) m.seq) (eq-eqb m.seq m.seq refl)
has_member m (x ∷ ms) (there i) = or_right (x.seq == m.seq) (has (seqs ms) m.seq) (has_member m ms i)

-- what holds of each member holds of all
pub all_from_in : {X : Type 0} (P : X → Type 0) (xs : List X) → ((x : X) → IsIn x xs → P x) → All P xs
all_from_in P [] f = All-nil P
all_from_in P (x ∷ xs) f = All-cons P x xs (f x here) (all_from_in P xs (λ y i. f y (there i)))

-- ---- both ways

module _ (high : ℕ) (messages : List Message) (pattern : Bytes) (ns : List ℕ) where
  join_stored : two.AreStored messages ns → two.AreMatched messages pattern ns → AreStored messages pattern ns
  join_stored h k = record { stored = λ n e. found n e (in_any (λ m. m.seq == n) messages (has_message n messages (h.stored n e))) }
    where
      found : (n : ℕ) → has ns n ≡ true → (m : Message) × IsIn m messages × ((m.seq == n) ≡ true) → IsStored messages pattern n
      found n e (m, i, q) =
          any_in (λ m. m.seq == n && passes_filter pattern m.subject) m messages i
          (and_from _ _ q (all_in (λ m. has ns m.seq ≡ true → passes_filter pattern m.subject ≡ true) messages k.matched i (subst (λ (l : ℕ). has ns l ≡ true) (sym (eqb-true m.seq n q)) e)))

  split_stored : AreStored messages pattern ns → two.AreStored messages ns
  split_stored h = record { stored = λ n e. found n (in_any (λ m. m.seq == n && passes_filter pattern m.subject) messages (h.stored n e)) }
    where
      found : (n : ℕ) → (m : Message) × IsIn m messages × ((m.seq == n && passes_filter pattern m.subject) ≡ true) → has (seqs messages) n ≡ true
      found n (m, i, q) = subst (λ (l : ℕ). has (seqs messages) l ≡ true) (eqb-true m.seq n (and_parts _ _ q).0) (has_member m messages i)

  split_matched : Between (λ m. m.seq) 1 high messages → AreStored messages pattern ns → two.AreMatched messages pattern ns
  split_matched b h = record {
    matched =
        all_from_in (λ m. has ns m.seq ≡ true → passes_filter pattern m.subject ≡ true) messages
        (λ m i e. holds_of_one (λ m. m.seq) (λ m. passes_filter pattern m.subject) 1 high m messages b i (h.stored m.seq e));
  }

join_consumer : (messages : List Message) (last : ℕ) (c : Consumer) → two.IsWellStoredConsumer messages last c → two.IsMatchedConsumer messages c → IsSoundConsumer messages last c
join_consumer messages last c h k = record {
  config = h.config;
  named = h.named;
  cursor = h.cursor;
  picks = h.picks;
  pending = h.pending;
  given_up = h.given_up;
  picks_stored = join_stored (last + 1) messages c.config.filter_subject c.picks h.picks_stored k.picks;
  pending_stored = join_stored (last + 1) messages c.config.filter_subject (pending_seqs c) h.pending_stored k.pending;
  given_up_stored = join_stored (last + 1) messages c.config.filter_subject c.given_up h.given_up_stored k.given_up;
  picks_pending = h.picks_pending;
  picks_given_up = h.picks_given_up;
  pending_given_up = h.pending_given_up;
  counts = h.counts;
  unacknowledged_pending = h.unacknowledged_pending;
  unacknowledged_given_up = h.unacknowledged_given_up;
  push = h.push;
}

split_consumer : (messages : List Message) (last : ℕ) (c : Consumer) → IsSoundConsumer messages last c → two.IsWellStoredConsumer messages last c
split_consumer messages last c h = record {
  config = h.config;
  named = h.named;
  cursor = h.cursor;
  picks = h.picks;
  pending = h.pending;
  given_up = h.given_up;
  picks_stored = split_stored (last + 1) messages c.config.filter_subject c.picks h.picks_stored;
  pending_stored = split_stored (last + 1) messages c.config.filter_subject (pending_seqs c) h.pending_stored;
  given_up_stored = split_stored (last + 1) messages c.config.filter_subject c.given_up h.given_up_stored;
  picks_pending = h.picks_pending;
  picks_given_up = h.picks_given_up;
  pending_given_up = h.pending_given_up;
  counts = h.counts;
  unacknowledged_pending = h.unacknowledged_pending;
  unacknowledged_given_up = h.unacknowledged_given_up;
  push = h.push;
}

split_filters : (messages : List Message) (last : ℕ) (c : Consumer) → Between (λ m. m.seq) 1 (last + 1) messages → IsSoundConsumer messages last c → two.IsMatchedConsumer messages c
split_filters messages last c b h = record {
  picks = split_matched (last + 1) messages c.config.filter_subject c.picks b h.picks_stored;
  pending = split_matched (last + 1) messages c.config.filter_subject (pending_seqs c) b h.pending_stored;
  given_up = split_matched (last + 1) messages c.config.filter_subject c.given_up b h.given_up_stored;
}

pub join : (s : State) → two.IsSound s → IsSoundState s
join (Vacant i) h = tt
join (Live s) h = record {
  config = h.stored.config;
  messages = h.stored.messages;
  consumers = all_from_in (IsSoundConsumer s.messages s.last) s.consumers (λ c i. join_consumer s.messages s.last c (all_in (two.IsWellStoredConsumer s.messages s.last) s.consumers h.stored.consumers i) (all_in (two.IsMatchedConsumer s.messages) s.consumers h.matched i));
  ordered = h.stored.ordered;
  ids = h.stored.ids;
}

pub split : (s : State) → IsSoundState s → two.IsSound s
split (Vacant i) h = record { stored = tt; matched = tt }
split (Live s) h = record {
  stored = record {
    config = h.config;
    messages = h.messages;
    consumers = all_from_in (two.IsWellStoredConsumer s.messages s.last) s.consumers (λ c i. split_consumer s.messages s.last c (all_in (IsSoundConsumer s.messages s.last) s.consumers h.consumers i));
    ordered = h.ordered;
    ids = h.ids;
  };
  matched = all_from_in (two.IsMatchedConsumer s.messages) s.consumers (λ c i. split_filters s.messages s.last c h.messages (all_in (IsSoundConsumer s.messages s.last) s.consumers h.consumers i));
}
