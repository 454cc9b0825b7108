-- What waits for a session is gathered after each operation and each tick: it is collected until nothing is left; then time passes at the place
-- of the last hold, and what waits by then is collected, again and again while a consumer is ready there, at most 65,536 times.
use Rattle.std.specs.Prelude.{◌≡◌, ◌<◌, ◌⊎◌, ℕ, ◌+◌, Bool, true, false, List, [], ◌∷◌, ◌++◌, length, MatchBool, Result, Ok, Err}
use Rattle.std.specs.List.{flat_map}
use Rattle.js_base.specs.Bytes.{Bytes}
use Rattle.js_base.specs.Framing.{frame}
use Rattle.js_base.specs.declared.frame.Frame.{Frame}
use Rattle.js_api.specs.declared.fault.DeskFault.{DeskFault}
use Rattle.js_api.specs.Clients.{Client}
use Rattle.js_api.specs.Answering.{DeskCall, Settle, Collect, DeskAnswer, Opened, Done, Took, Settled, Gave, Slow}
use Rattle.session.specs.Calling.{Called, IsMade}

-- ---- the bytes

abbrev pub frames : List Frame → Bytes
frames list = flat_map frame list

-- the bytes of the frames that a call gave
abbrev pub given_by : Result DeskAnswer DeskFault → Bytes
given_by (Ok (Opened session)) = []
given_by (Ok Done) = []
given_by (Ok (Took taken)) = []
given_by (Ok (Settled ready)) = []
given_by (Ok (Gave list more)) = frames list
given_by (Ok (Slow length)) = []
given_by (Err fault) = []

abbrev pub collected : List Called → Bytes
collected calls = flat_map (λ called. given_by called.answer) calls

-- ---- one call

abbrev pub IsCollectCall : DeskCall → Type 0
IsCollectCall call = (max : ℕ) × (call ≡ Collect max)

-- a collect that was answered by frames
pub record IsCollect (client : Client) (more : Bool) (called : Called) : Type 0 where
  pub max : ℕ
  pub list : List Frame
  pub call_is : called.call ≡ Collect max
  pub answer_is : called.answer ≡ Ok (Gave list more)
  pub made : IsMade client called

-- a settle that was answered so
pub record IsSettle (client : Client) (now : ℕ) (ready : Bool) (called : Called) : Type 0 where
  pub call_is : called.call ≡ Settle now
  pub answer_is : called.answer ≡ Ok (Settled ready)
  pub made : IsMade client called

-- ---- collecting

-- collects that each left more
abbrev pub AreCollecting : Client → List Called → Type 0
AreCollecting client [] = Unit {0}
AreCollecting client (called ∷ more) = IsCollect client true called × AreCollecting client more

-- collects until nothing was left
abbrev pub AreCollects : Client → List Called → Type 0
AreCollects client calls = (before : List Called) × (called : Called) × (calls ≡ before ++ called ∷ []) × AreCollecting client before × IsCollect client false called

-- ---- settling

-- a settle, and the collects after it
pub record Round : Type 0 where
  pub settle : Called
  pub collects : List Called

abbrev pub round_calls : Round → List Called
round_calls round = round.settle ∷ round.collects

abbrev pub all_round_calls : List Round → List Called
all_round_calls rounds = flat_map round_calls rounds

pub record IsRound (client : Client) (now : ℕ) (ready : Bool) (round : Round) : Type 0 where
  pub settle : IsSettle client now ready round.settle
  pub collects : AreCollects client round.collects

-- rounds after each of which a consumer was ready
abbrev pub AreReady : Client → ℕ → List Round → Type 0
AreReady client now [] = Unit {0}
AreReady client now (round ∷ more) = IsRound client now true round × AreReady client now more

-- how many rounds there are at most
abbrev pub most_rounds : ℕ
most_rounds = 65536

-- after the last round no consumer was ready, or there may be no more rounds
pub record IsLastRound (client : Client) (now before : ℕ) (round : Round) : Type 0 where
  pub ready : Bool
  pub is_round : IsRound client now ready round
  pub within : before < most_rounds
  pub ends : MatchBool ready (before + 1 ≡ most_rounds) (Unit {0})

-- ---- gathering

-- all that waits was gathered
pub record AreGathered (client : Client) (now : ℕ) (calls : List Called) : Type 0 where
  pub collects : List Called
  pub rounds : List Round
  pub last : Round
  pub calls_are : calls ≡ collects ++ (all_round_calls rounds ++ round_calls last)
  pub are_collects : AreCollects client collects
  pub are_ready : AreReady client now rounds
  pub is_last : IsLastRound client now (length rounds) last

-- the calls of a gathering up to a settle
pub record IsBeforeSettle (client : Client) (now : ℕ) (calls : List Called) : Type 0 where
  pub collects : List Called
  pub rounds : List Round
  pub calls_are : calls ≡ collects ++ all_round_calls rounds
  pub are_collects : AreCollects client collects
  pub are_ready : AreReady client now rounds
  pub within : length rounds < most_rounds

-- the calls up to a settle, that settle, and collects behind it that each left more
pub record IsBehindSettle (client : Client) (now : ℕ) (calls : List Called) : Type 0 where
  pub before : List Called
  pub ready : Bool
  pub settle : Called
  pub collecting : List Called
  pub calls_are : calls ≡ before ++ settle ∷ collecting
  pub is_before : IsBeforeSettle client now before
  pub is_settle : IsSettle client now ready settle
  pub are_collecting : AreCollecting client collecting

-- the calls of a gathering up to a collect
abbrev pub IsBeforeCollect : Client → ℕ → List Called → Type 0
IsBeforeCollect client now calls = AreCollecting client calls ⊎ IsBehindSettle client now calls

-- behind these calls of a gathering comes this one: a collect or a settle
abbrev pub IsGathering : Client → ℕ → List Called → DeskCall → Type 0
IsGathering client now before call =
    (IsBeforeCollect client now before × IsCollectCall call) ⊎ (IsBeforeSettle client now before × (call ≡ Settle now))
