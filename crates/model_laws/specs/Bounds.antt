-- How much a state holds at most, by this server's limits, which numbers its volume can write, and which messages.
use Rattle.std.specs.Prelude.{◌≡◌, ℕ, ◌+◌, ◌^◌, ◌<◌, ◌≤◌, ◌||◌, false, length, All, IsTrue, ⊤}
use Rattle.js_base.specs.Bytes.{is_empty}
use Rattle.js_base.specs.Headers.{is_block}
use Rattle.js_base.specs.Subjects.{is_subject_text}
use Rattle.js_model.specs.declared.stream.Message.{Message}
use Rattle.js_model.specs.declared.stream.Id.{Id}
use Rattle.js_model.specs.declared.stream.Stream.{Stream}
use Rattle.js_model.specs.declared.stream.State.{State}
use Rattle.js_model.specs.declared.stream.State.TheVariants.{Vacant, Live}
use Rattle.js_model.specs.declared.consumer.Pending.{Pending}
use Rattle.js_model.specs.declared.consumer.Consumer.{Consumer}

-- ---- how much it holds

-- a moment, a sequence or a count
abbrev pub IsNumber : ℕ → Type 0
IsNumber n = n < 2 ^ 62

pub record IsBoundedMessage (m : Message) : Type 0 where
  pub seq : IsNumber m.seq
  pub at : IsNumber m.at

pub record IsBoundedId (i : Id) : Type 0 where
  pub given : is_empty i.id ≡ false
  pub bytes : length i.id ≤ 256
  pub seq : IsNumber i.seq
  pub at : IsNumber i.at

pub record IsBoundedEntry (p : Pending) : Type 0 where
  pub count : IsNumber p.count
  pub due : IsNumber p.due

-- a cursor may be one more than the last number
pub record IsBoundedConsumer (c : Consumer) : Type 0 where
  pub made : IsNumber c.made
  pub cursor : c.cursor ≤ 2 ^ 62
  pub dseq : IsNumber c.dseq
  pub picks : length c.picks ≤ 65536
  pub pending : length c.pending ≤ 65536
  pub entries : All IsBoundedEntry c.pending
  pub given_up : length c.given_up ≤ 65536

pub record IsBoundedStream (s : Stream) : Type 0 where
  pub incarnation : IsNumber s.incarnation
  pub made : IsNumber s.made
  pub last : IsNumber s.last
  pub moment : IsNumber s.moment
  pub messages : length s.messages ≤ 2 ^ 24
  pub each_message : All IsBoundedMessage s.messages
  pub ids : length s.ids ≤ 2 ^ 20
  pub each_id : All IsBoundedId s.ids
  pub consumers : length s.consumers ≤ 256
  pub each_consumer : All IsBoundedConsumer s.consumers

-- it speaks of a message's sequence and moment alone, so that it can be asked of a state whose messages cannot be read
abbrev pub IsBounded : State → Type 0
IsBounded (Vacant i) = IsNumber i
IsBounded (Live s) = IsBoundedStream s

-- ---- which messages can be written

-- a block file can hold it
pub record IsWritableMessage (m : Message) : Type 0 where
  pub subject : IsTrue (is_subject_text m.subject)
  pub headers : IsTrue (is_empty m.headers || is_block m.headers)
  pub bytes : length m.headers + length m.payload ≤ 1048576

abbrev pub IsWritable : State → Type 0
IsWritable (Vacant i) = ⊤
IsWritable (Live s) = All IsWritableMessage s.messages
