-- What a piece of the input made of the desk and the link.
use Rattle.std.specs.Prelude.{◌≡◌, ◌⊎◌, ℕ, ◌+◌, Bool, true, false, List, [], ◌∷◌, ◌++◌, length, Option, Result, Ok, Err}
use Rattle.js_base.specs.Bytes.{Bytes}
use Rattle.link_edge.specs.Told.{grown}
use Rattle.nats_frames.specs.declared.op.Op.{Op}
use Rattle.nats_frames.specs.declared.op.FrameFault.{FrameFault}
use Rattle.nats_frames.specs.Decoding.{Held, total, IsFront, IsRefused}
use Rattle.nats_frames.specs.Grammar.{Fronts}
use Rattle.nats_frames.specs.Reading.{op_at, Partial}
use Rattle.js_api.specs.Entries.{DeskEntry}
use Rattle.session.specs.Calling.{Called, entries_of_calls}
use Rattle.session.specs.Peer.{Act, Hears as Hearing, Ticks, Peer, peer_after}
use Rattle.session.specs.Talk.{Spoken, AreSpoken, AreActs, EndsBy, acts_of, hearings, last_line, heard_bytes, peer_at_end, entries_of_all}
use Rattle.session.specs.Carrying.{IsCarried}
use Rattle.session.specs.Ticking.{Stops}
use Rattle.session.specs.Leading.{IsAdded}
use Rattle.session.specs.Stopping.{cause_of}
use Rattle.session.specs.declared.ending.Ended.{Ended}
use Rattle.session.specs.declared.ending.Ended.TheVariants as ends
use Rattle.session.specs.declared.ending.Refusal.TheVariants as refusals
use Rattle.session.specs.declared.stop.Stop.{Stop}

-- behind the operations stands a fault: so many bytes of the input stood before the rest
pub record IsFaulty (cause : Ended) (begun : List Act) (calls : List Called) (before : ℕ) (rest said : Bytes) : Type 0 where
  pub fault : FrameFault
  pub cause_is : cause ≡ ends.Refused (refusals.Frame fault)
  pub refused : IsRefused fault before rest
  pub none_begun : begun ≡ []
  pub no_calls : calls ≡ []
  pub unsaid : said ≡ []

-- why no more is carried out: the turn stops, or a fault stands there
abbrev pub StopsAt : Ended → Peer → ℕ → List Act → List Called → ℕ → Bytes → Bytes → Type 0
StopsAt cause peer now begun calls before rest said = Stops cause peer now begun calls said ⊎ IsFaulty cause begun calls before rest said

-- ---- one operation

-- the next operation was carried out, and its bytes were added
pub record IsNext {D : Type 0} (made : D → List DeskEntry → D → Type 0) (now : ℕ) (peer_old peer_new : Peer) (old new : D) (held_old held_new : Held) (out_old out_new : Bytes) : Type 0 where
  pub op : Op
  pub front : IsFront op held_old.bytes held_new.bytes
  pub carried : IsCarried made peer_old now (Hearing op) old new out_old out_new
  pub peer : peer_new ≡ peer_after peer_old (Hearing op)

-- the bytes begin with no whole operation, and nothing was done
pub record IsIdle {D : Type 0} (peer_old peer_new : Peer) (old new : D) (held_old held_new : Held) (out_old out_new : Bytes) : Type 0 where
  pub partial : op_at held_old.bytes ≡ Partial
  pub held : held_new ≡ held_old
  pub peer : peer_new ≡ peer_old
  pub desk : new ≡ old
  pub out : out_new ≡ out_old

-- no operation was carried out whole, one may have been begun, and what it said was added
pub record IsHalted {D : Type 0} (stop : Stop) (made : D → List DeskEntry → D → Type 0) (now : ℕ) (peer : Peer) (old new : D) (held : Held) (out_old out_new : Bytes) : Type 0 where
  pub begun : List Op
  pub calls : List Called
  pub before : ℕ
  pub rest : Bytes
  pub said : Bytes
  pub split : Fronts held.bytes begun rest
  pub place : before + length rest ≡ total held
  pub stops : StopsAt (cause_of stop) peer now (hearings begun) calls before rest said
  pub led : made old (entries_of_calls calls) new
  pub added : IsAdded (cause_of stop) out_new (out_old ++ said)

abbrev pub CarriesNext : {D : Type 0} → Result Bool Stop → (D → List DeskEntry → D → Type 0) → ℕ → Peer → Peer → D → D → Held → Held → Bytes → Bytes → Type 0
CarriesNext (Ok true) made now peer_old peer_new old new held_old held_new out_old out_new =
    IsNext made now peer_old peer_new old new held_old held_new out_old out_new
CarriesNext (Ok false) made now peer_old peer_new old new held_old held_new out_old out_new =
    IsIdle peer_old peer_new old new held_old held_new out_old out_new
CarriesNext (Err stop) made now peer_old peer_new old new held_old held_new out_old out_new =
    IsHalted stop made now peer_old old new held_old out_old out_new

-- ---- a piece

-- all operations that are whole were carried out, and then the tick, and their bytes were given
pub record IsHeard {D : Type 0} (made : D → List DeskEntry → D → Type 0) (now : ℕ) (peer_old peer_new : Peer) (old new : D) (bytes rest : Bytes) (given_old given_new : Option Bytes) : Type 0 where
  pub ops : List Op
  pub spoken : List Spoken
  pub are_spoken : AreSpoken peer_old now spoken
  pub acts : acts_of spoken ≡ hearings ops ++ Ticks ∷ []
  pub split : Fronts bytes ops rest
  pub idle : op_at rest ≡ Partial
  pub peer : peer_new ≡ peer_at_end peer_old spoken
  pub led : made old (entries_of_all spoken) new
  pub given : given_new ≡ grown given_old (heard_bytes peer_old now spoken)

-- some operations were carried out, and maybe the tick, and then the session ended: all was given, or a prefix of it if the giving failed or memory
-- ran out
pub record IsCut {D : Type 0} (ended : Ended) (made : D → List DeskEntry → D → Type 0) (now : ℕ) (peer : Peer) (old new : D) (bytes : Bytes) (total : ℕ) (given_old given_new : Option Bytes) : Type 0 where
  pub spoken : List Spoken
  pub begun : List Act
  pub calls : List Called
  pub before : ℕ
  pub rest : Bytes
  pub cause : Ended
  pub said : Bytes
  pub out : Bytes
  pub are_spoken : AreSpoken peer now spoken
  pub acts : AreActs bytes (acts_of spoken ++ begun) rest
  pub place : before + length rest ≡ total
  pub stops : StopsAt cause (peer_at_end peer spoken) now begun calls before rest said
  pub led : made old (entries_of_all spoken ++ entries_of_calls calls) new
  pub ends_by : EndsBy cause ended out (heard_bytes peer now spoken ++ (said ++ last_line cause))
  pub given : given_new ≡ grown given_old out

-- what was made of the bytes that were held and the piece, if so many bytes of the input were fed in all
abbrev pub Hears : {D T : Type 0} → Result T Ended → (D → List DeskEntry → D → Type 0) → ℕ → Peer → Peer → D → D → Bytes → Bytes → ℕ → Option Bytes → Option Bytes → Type 0
Hears (Ok _) made now peer_old peer_new old new bytes rest total given_old given_new =
    IsHeard made now peer_old peer_new old new bytes rest given_old given_new
Hears (Err ended) made now peer_old peer_new old new bytes rest total given_old given_new =
    IsCut ended made now peer_old old new bytes total given_old given_new
