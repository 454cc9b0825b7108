-- What collects made of the desk, and which bytes were added for them.
use Rattle.std.specs.Prelude.{◌≡◌, ◌<◌, ℕ, Bool, true, false, List, [], ◌++◌, Result, Ok, Err}
use Rattle.js_base.specs.Bytes.{Bytes}
use Rattle.js_api.specs.Entries.{DeskEntry}
use Rattle.js_api.specs.Clients.{Client}
use Rattle.js_api.specs.Answering.{DeskCall}
use Rattle.session.specs.Calling.{Called}
use Rattle.session.specs.Gathering.{IsCollect, IsCollectCall, AreCollecting, AreCollects, given_by}
use Rattle.session.specs.Leading.{Adds, Cuts}
use Rattle.session.specs.Stopping.{IsCutBy, cause_of}
use Rattle.session.specs.declared.stop.Stop.{Stop}

-- ---- one collect

-- it was answered by frames, and their bytes were added
pub record GivesFrames {D : Type 0} (made : D → List DeskEntry → D → Type 0) (client : Client) (more : Bool) (old new : D) (out_old out_new : Bytes) : Type 0 where
  pub called : Called
  pub collect : IsCollect client more called
  pub led : made old called.entries new
  pub written : out_new ≡ out_old ++ given_by called.answer

-- a collect, with no call before it
abbrev pub IsFirstCollect : List Called → DeskCall → Type 0
IsFirstCollect before call = (before ≡ []) × IsCollectCall call

abbrev pub CollectsOnce : {D : Type 0} → (D → List DeskEntry → D → Type 0) → Client → D → D → Bytes → Bytes → Result Bool Stop → Type 0
CollectsOnce made client old new out_old out_new (Ok more) = GivesFrames made client more old new out_old out_new
CollectsOnce made client old new out_old out_new (Err stop) = Cuts made (cause_of stop) old new out_old out_new (IsCutBy IsFirstCollect client (cause_of stop))

-- if more was left, fewer collects may follow
abbrev pub LeavesFewer : Result Bool Stop → ℕ → ℕ → Type 0
LeavesFewer (Ok true) before after = after < before
LeavesFewer (Ok false) before after = Unit {0}
LeavesFewer (Err stop) before after = Unit {0}

-- ---- until nothing is left

-- a collect behind collects that each left more
abbrev pub IsNextCollect : Client → List Called → DeskCall → Type 0
IsNextCollect client before call = AreCollecting client before × IsCollectCall call

abbrev pub Collects : {D : Type 0} → (D → List DeskEntry → D → Type 0) → Client → D → D → Bytes → Bytes → Result (Unit {0}) Stop → Type 0
Collects made client old new out_old out_new (Ok _) = Adds made old new out_old out_new (AreCollects client)
Collects made client old new out_old out_new (Err stop) =
    Cuts made (cause_of stop) old new out_old out_new (IsCutBy (IsNextCollect client) client (cause_of stop))
