-- Which records can be made of what is storable without asking anew whether what they make is, by a rule of this server's own: those that it writes at its
-- everyday work.
use Rattle.std.specs.Prelude.{◌≡◌, ◌⊎◌, ℕ, ◌+◌, ◌^◌, ◌<◌, ◌≤◌, ◌==◌, true, length, List, [], ◌∷◌, Option, Some, None, ⊤}
use Rattle.std.specs.List.{list_any}
use Rattle.js_base.specs.Bytes.{Bytes, has}
use Rattle.js_model.specs.declared.stream.Id.{Id}
use Rattle.js_model.specs.declared.consumer.Pending.{Pending}
use Rattle.js_model.specs.declared.consumer.Consumer.{Consumer}
use Rattle.js_model.specs.Lists.{Between}
use Rattle.js_model.specs.Streams.{by_name, seqs}
use Rattle.model_laws.specs.Sound.{AreStored}
use Rattle.dedup_window.specs.Window.{id_of}
use Rattle.effects.specs.declared.durable.Body.{Body}
use Rattle.effects.specs.declared.durable.Durable.{Durable}
use Rattle.effects.specs.declared.effect.Effect.{Effect}
use Rattle.effects.specs.declared.effect.Effect.TheVariants.{MakeStream, ChangeStream, DropStream, PutHere, Skip, Remove, MakeConsumer, DropConsumer, Deliver, Acked, Due, GivenUp, Now}
use Rattle.effects.specs.Folding.{is_next}
use Rattle.replayed_consumer.specs.Delivering.{CanDeliver}

-- ---- messages and ids

-- no id has this text, and there is room for it
pub record IsFresh (ids : List Id) (id : Bytes) : Type 0 where
  pub absent : id_of ids id ≡ None
  pub short : length id ≤ 256
  pub room : length ids < 2 ^ 20

-- an empty text is no id
abbrev pub IsNewId : List Id → Bytes → Type 0
IsNewId ids [] = ⊤
IsNewId ids (byte ∷ more) = IsFresh ids (byte ∷ more)

pub record IsNextNumber (b : Body) (seq at : ℕ) (id : Bytes) : Type 0 where
  pub next : is_next seq at b ≡ true
  pub new : IsNewId b.ids id

pub record IsNextMessage (b : Body) (seq at : ℕ) (id : Bytes) : Type 0 where
  pub number : IsNextNumber b seq at id
  pub room : length b.messages < 2 ^ 24

-- ---- consumers

-- there is a consumer of the name, and this is true of it
pub record IsThere (consumers : List Consumer) (name : Bytes) (P : Consumer → Type 0) : Type 0 where
  pub consumer : Consumer
  pub found : by_name consumers name ≡ Some consumer
  pub fits : P consumer

-- there is none, and it begins at sequences that are stored
pub record IsStart (b : Body) (name : Bytes) (cursor : ℕ) (picks : List ℕ) : Type 0 where
  pub absent : by_name b.consumers name ≡ None
  pub room : length b.consumers < 256
  pub reached : cursor ≤ b.last + 1
  pub ascend : Between (λ n. n) 1 cursor picks
  pub few : length picks ≤ 65536
  pub stored : AreStored b.messages picks

-- the message is stored, and the consumer can be sent it
pub record CanSend (b : Body) (name : Bytes) (entry : Pending) (dseq : ℕ) : Type 0 where
  pub stored : has (seqs b.messages) entry.seq ≡ true
  pub there : IsThere b.consumers name (λ c. CanDeliver c entry dseq)

abbrev pub HasPending : ℕ → Consumer → Type 0
HasPending seq c = list_any (λ p. p.seq == seq) c.pending ≡ true

-- ---- records

-- of a stream that stays
abbrev pub IsChange : Body → Effect → Type 0
IsChange b (MakeStream incarnation made config) = ⊥
IsChange b (ChangeStream config) = ⊤
IsChange b DropStream = ⊥
IsChange b (PutHere seq at id subject headers payload) = IsNextMessage b seq at id
IsChange b (Skip seq at id) = IsNextNumber b seq at id
IsChange b (Remove low high) = ⊤
IsChange b (MakeConsumer name made config cursor picks) = IsStart b name cursor picks
IsChange b (DropConsumer name) = IsThere b.consumers name (λ c. ⊤)
IsChange b (Deliver name seq count due dseq) = CanSend b name (record { seq = seq; count = count; due = due }) dseq
IsChange b (Acked name low high) = IsThere b.consumers name (λ c. ⊤)
IsChange b (Due name seq due) = IsThere b.consumers name (HasPending seq)
IsChange b (GivenUp name moment) = IsThere b.consumers name (λ c. ⊤)
IsChange b (Now moment) = b.moment ≤ moment

-- a stream where there is none
abbrev pub IsBegin : ℕ → Effect → Type 0
IsBegin i (MakeStream incarnation made config) = incarnation ≡ i + 1
IsBegin i (ChangeStream config) = ⊥
IsBegin i DropStream = ⊥
IsBegin i (PutHere seq at id subject headers payload) = ⊥
IsBegin i (Skip seq at id) = ⊥
IsBegin i (Remove low high) = ⊥
IsBegin i (MakeConsumer name made config cursor picks) = ⊥
IsBegin i (DropConsumer name) = ⊥
IsBegin i (Deliver name seq count due dseq) = ⊥
IsBegin i (Acked name low high) = ⊥
IsBegin i (Due name seq due) = ⊥
IsBegin i (GivenUp name moment) = ⊥
IsBegin i (Now moment) = ⊥

abbrev pub IsTakenIn : ℕ → Option Body → Effect → Type 0
IsTakenIn i None e = IsBegin i e
IsTakenIn i (Some b) e = (e ≡ DropStream) ⊎ IsChange b e

abbrev pub IsTaken : Durable → Effect → Type 0
IsTaken d e = IsTakenIn d.incarnation d.body e
