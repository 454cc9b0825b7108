-- What the end of a turn made of the desk and the link: the tick was carried out, and all that waits was given.
use Rattle.std.specs.Prelude.{◌≡◌, ℕ, List, [], ◌∷◌, ◌++◌, Option, Result, Ok, Err}
use Rattle.js_base.specs.Bytes.{Bytes}
use Rattle.link_edge.specs.Told.{grown}
use Rattle.js_api.specs.Entries.{DeskEntry}
use Rattle.session.specs.Calling.{Called, entries_of_calls}
use Rattle.session.specs.Peer.{Act, Ticks, Peer}
use Rattle.session.specs.Talk.{Spoken, IsSpoken, AreSpoken, IsStopped, IsUnwritten, EndsBy, acts_of, heard_bytes, last_line, peer_at_end, spoken_bytes, entries_of_all, entries_of_spoken}
use Rattle.session.specs.declared.ending.Ended.{Ended}

-- Why a turn stops behind what was carried out: within the operation or the tick that was begun, with its calls and what it said; or behind all,
-- because a writing failed or memory ran out.
pub data Stops (cause : Ended) (peer : Peer) (now : ℕ) (begun : List Act) (calls : List Called) (said : Bytes) : Type 0 where
  Within : (act : Act) → begun ≡ act ∷ [] → IsStopped peer now act cause calls said → Stops cause peer now begun calls said
  Between : begun ≡ [] → calls ≡ [] → said ≡ [] → IsUnwritten cause → Stops cause peer now begun calls said

-- the tick was carried out; what waited was given, and then the tick's bytes
pub record IsTicked {D : Type 0} (made : D → List DeskEntry → D → Type 0) (peer : Peer) (now : ℕ) (old new : D) (waiting : Bytes) (given_old given_new : Option Bytes) : Type 0 where
  pub spoken : Spoken
  pub act_is : spoken.act ≡ Ticks
  pub is_spoken : IsSpoken peer now spoken
  pub led : made old (entries_of_spoken spoken) new
  pub given : given_new ≡ grown given_old (waiting ++ spoken_bytes peer now spoken)

-- the session ended within the tick, or behind it: all was given, or a prefix of it if the giving failed or memory ran out
pub record IsTickCut {D : Type 0} (ended : Ended) (made : D → List DeskEntry → D → Type 0) (peer : Peer) (now : ℕ) (old new : D) (waiting : Bytes) (given_old given_new : Option Bytes) : Type 0 where
  pub spoken : List Spoken
  pub begun : List Act
  pub calls : List Called
  pub cause : Ended
  pub said : Bytes
  pub out : Bytes
  pub acts : acts_of spoken ++ begun ≡ Ticks ∷ []
  pub are_spoken : AreSpoken peer now spoken
  pub stops : Stops cause (peer_at_end peer spoken) now begun calls said
  pub led : made old (entries_of_all spoken ++ entries_of_calls calls) new
  pub ends_by : EndsBy cause ended out (waiting ++ (heard_bytes peer now spoken ++ (said ++ last_line cause)))
  pub given : given_new ≡ grown given_old out

abbrev pub EndsTurn : {D T : Type 0} → Result T Ended → (D → List DeskEntry → D → Type 0) → Peer → ℕ → D → D → Bytes → Option Bytes → Option Bytes → Type 0
EndsTurn (Ok _) made peer now old new waiting given_old given_new = IsTicked made peer now old new waiting given_old given_new
EndsTurn (Err ended) made peer now old new waiting given_old given_new = IsTickCut ended made peer now old new waiting given_old given_new
