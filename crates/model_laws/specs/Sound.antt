-- What holds of each state that a run reaches, an invariant of this server's own: of what is stored, and of what filters match.
use Rattle.std.specs.Prelude.{◌≡◌, ℕ, ◌+◌, ◌≤◌, true, IsTrue, List, [], ◌∷◌, Option, ⊤, IfSome, All}
use Rattle.js_base.specs.Bytes.{Bytes, same, has}
use Rattle.js_model.specs.declared.stream.Message.{Message}
use Rattle.js_model.specs.declared.stream.Id.{Id}
use Rattle.js_model.specs.declared.stream.Stream.{Stream}
use Rattle.js_model.specs.declared.stream.State.{State}
use Rattle.js_model.specs.declared.stream.State.TheVariants.{Vacant, Live}
use Rattle.js_model.specs.declared.consumer.Pending.{Pending}
use Rattle.js_model.specs.declared.consumer.Consumer.{Consumer}
use Rattle.js_model.specs.Lists.{Lacks, Between, Apart}
use Rattle.js_model.specs.Streams.{seqs, passes_filter, pending_seqs, is_unacknowledged, is_push}
use Rattle.js_model.specs.Configs.{is_stream_config, is_consumer_config}
use Rattle.js_model.specs.Consumers.{is_before}

-- ---- what is stored

-- each sequence is one of a stored message
pub record AreStored (messages : List Message) (ns : List ℕ) : Type 0 where
  pub stored : (n : ℕ) → has ns n ≡ true → has (seqs messages) n ≡ true

-- an entry was delivered no more often than its consumer delivered, and than it may
pub record IsCounted (dseq : ℕ) (limit : Option ℕ) (p : Pending) : Type 0 where
  pub least : 1 ≤ p.count
  pub most : p.count ≤ dseq
  pub within : IfSome limit (λ limit. p.count ≤ limit)

-- the sequences of a consumer ascend below its cursor, are stored, and stand once in picks, pending or given up
pub record IsWellStoredConsumer (messages : List Message) (last : ℕ) (c : Consumer) : Type 0 where
  pub config : IsTrue (is_consumer_config c.config)
  pub named : IsTrue (same c.config.name c.name)
  pub cursor : c.cursor ≤ last + 1
  pub picks : Between (λ n. n) 1 c.cursor c.picks
  pub pending : Between (λ p. p.seq) 1 c.cursor c.pending
  pub given_up : Between (λ n. n) 1 c.cursor c.given_up
  pub picks_stored : AreStored messages c.picks
  pub pending_stored : AreStored messages (pending_seqs c)
  pub given_up_stored : AreStored messages c.given_up
  pub picks_pending : Apart c.picks (pending_seqs c)
  pub picks_given_up : Apart c.picks c.given_up
  pub pending_given_up : Apart (pending_seqs c) c.given_up
  pub counts : All (IsCounted c.dseq c.config.max_deliver) c.pending
  pub unacknowledged_pending : is_unacknowledged c ≡ true → c.pending ≡ []
  pub unacknowledged_given_up : is_unacknowledged c ≡ true → c.given_up ≡ []
  pub push : is_push c ≡ true → c.waiting ≡ []

-- no id comes twice
abbrev pub AreDifferent : List Id → Type 0
AreDifferent [] = ⊤
AreDifferent (i ∷ is) = Lacks (λ j. same j.id i.id) is × AreDifferent is

-- each name comes before those after it
abbrev pub AreOrdered : List Consumer → Type 0
AreOrdered [] = ⊤
AreOrdered (c ∷ cs) = All (λ d. is_before c.name d.name ≡ true) cs × AreOrdered cs

pub record IsWellStoredStream (s : Stream) : Type 0 where
  pub config : IsTrue (is_stream_config s.config)
  pub messages : Between (λ m. m.seq) 1 (s.last + 1) s.messages
  pub consumers : All (IsWellStoredConsumer s.messages s.last) s.consumers
  pub ordered : AreOrdered s.consumers
  pub ids : AreDifferent s.ids

-- it speaks of sequences and of no subject, so that it can be asked of a state whose messages cannot be read
abbrev pub IsWellStored : State → Type 0
IsWellStored (Vacant i) = ⊤
IsWellStored (Live s) = IsWellStoredStream s

-- ---- what filters match

-- the filter matches each stored message of these sequences
pub record AreMatched (messages : List Message) (pattern : Bytes) (ns : List ℕ) : Type 0 where
  pub matched : All (λ m. has ns m.seq ≡ true → passes_filter pattern m.subject ≡ true) messages

-- what is picked out, waits or was given up matches the consumer's filter
pub record IsMatchedConsumer (messages : List Message) (c : Consumer) : Type 0 where
  pub picks : AreMatched messages c.config.filter_subject c.picks
  pub pending : AreMatched messages c.config.filter_subject (pending_seqs c)
  pub given_up : AreMatched messages c.config.filter_subject c.given_up

abbrev pub IsMatched : State → Type 0
IsMatched (Vacant i) = ⊤
IsMatched (Live s) = All (IsMatchedConsumer s.messages) s.consumers

-- ---- both

pub record IsSound (s : State) : Type 0 where
  pub stored : IsWellStored s
  pub matched : IsMatched s
