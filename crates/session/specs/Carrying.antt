-- What an operation or a tick made of the desk, and which bytes it added.
use Rattle.std.specs.Prelude.{◌≡◌, ℕ, List, ◌++◌, Result, Ok, Err}
use Rattle.js_base.specs.Bytes.{Bytes}
use Rattle.nats_frames.specs.declared.op.Op.{Op}
use Rattle.nats_frames.specs.Grammar.{Spells}
use Rattle.js_api.specs.Entries.{DeskEntry}
use Rattle.session.specs.Leading.{Cuts}
use Rattle.session.specs.Peer.{Act, Peer}
use Rattle.session.specs.Stopping.{cause_of}
use Rattle.session.specs.Talk.{Spoken, IsSpoken, IsStopped, spoken_bytes, entries_of_spoken}
use Rattle.session.specs.declared.stop.Stop.{Stop}

-- some bytes spell the operation
pub record IsSpelled (op : Op) : Type 0 where
  pub bytes : Bytes
  pub spells : Spells op bytes

-- it was carried out, and its bytes were added
pub record IsCarried {D : Type 0} (made : D → List DeskEntry → D → Type 0) (peer : Peer) (now : ℕ) (act : Act) (old new : D) (out_old out_new : Bytes) : Type 0 where
  pub spoken : Spoken
  pub act_is : spoken.act ≡ act
  pub is_spoken : IsSpoken peer now spoken
  pub led : made old (entries_of_spoken spoken) new
  pub written : out_new ≡ out_old ++ spoken_bytes peer now spoken

abbrev pub Carries : {D : Type 0} → (D → List DeskEntry → D → Type 0) → Peer → ℕ → Act → D → D → Bytes → Bytes → Result (Unit {0}) Stop → Type 0
Carries made peer now act old new out_old out_new (Ok _) = IsCarried made peer now act old new out_old out_new
Carries made peer now act old new out_old out_new (Err stop) = Cuts made (cause_of stop) old new out_old out_new (IsStopped peer now act (cause_of stop))
