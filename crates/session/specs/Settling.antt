-- What a settle with its collects made of the desk, and what a whole gathering did; and which bytes were added for them.
use Rattle.std.specs.Prelude.{◌≡◌, ◌⊎◌, ℕ, Bool, List, [], ◌∷◌, Result, Ok, Err}
use Rattle.js_base.specs.Bytes.{Bytes}
use Rattle.js_api.specs.Entries.{DeskEntry}
use Rattle.js_api.specs.Clients.{Client}
use Rattle.js_api.specs.Answering.{DeskCall, Settle}
use Rattle.session.specs.Calling.{Called}
use Rattle.session.specs.Gathering.{AreCollecting, AreCollects, AreGathered, IsCollectCall, IsGathering, IsSettle}
use Rattle.session.specs.Leading.{Adds, Cuts}
use Rattle.session.specs.Stopping.{IsCutBy, cause_of}
use Rattle.session.specs.declared.stop.Stop.{Stop}

-- ---- one settle

-- a settle that was answered so, and then collects of which P holds
abbrev pub AreSettled : Client → ℕ → Bool → (List Called → Type 0) → List Called → Type 0
AreSettled client now ready P calls =
    (settle : Called) × (collects : List Called) × (calls ≡ settle ∷ collects) × IsSettle client now ready settle × P collects

-- the settle, or a collect behind it and behind collects that each left more
abbrev pub IsInRound : Client → ℕ → List Called → DeskCall → Type 0
IsInRound client now before call =
    ((before ≡ []) × (call ≡ Settle now)) ⊎ ((ready : Bool) × AreSettled client now ready (AreCollecting client) before × IsCollectCall call)

abbrev pub SettlesOnce : {D : Type 0} → (D → List DeskEntry → D → Type 0) → Client → ℕ → D → D → Bytes → Bytes → Result Bool Stop → Type 0
SettlesOnce made client now old new out_old out_new (Ok ready) = Adds made old new out_old out_new (AreSettled client now ready (AreCollects client))
SettlesOnce made client now old new out_old out_new (Err stop) =
    Cuts made (cause_of stop) old new out_old out_new (IsCutBy (IsInRound client now) client (cause_of stop))

-- ---- a gathering

abbrev pub Gathers : {D : Type 0} → (D → List DeskEntry → D → Type 0) → Client → ℕ → D → D → Bytes → Bytes → Result (Unit {0}) Stop → Type 0
Gathers made client now old new out_old out_new (Ok _) = Adds made old new out_old out_new (AreGathered client now)
Gathers made client now old new out_old out_new (Err stop) =
    Cuts made (cause_of stop) old new out_old out_new (IsCutBy (IsGathering client now) client (cause_of stop))
