-- Where the last of all records of a log stands, by a rule of this server's own: it is told if what all of them give cannot be opened.
use Rattle.std.specs.Prelude.{◌≡◌, ◌⊎◌, ℕ, List, [], ◌∷◌, ◌++◌, All}
use Rattle.js_base.specs.Bytes.{Bytes}
use Rattle.gate_log.specs.Batches.{end_of}
use Rattle.log_records.specs.Logged.{Logged, beginning}
use Rattle.log_records.specs.Batches.{AddAll, Begins}
use Rattle.log_records.specs.Damage.{IsLast, offset}

-- behind the first batch, one of these has the last record; it begins at this offset of the file
pub record IsLastAt (first : Bytes) (begun : Logged) (later : List Bytes) (at : ℕ) : Type 0 where
  pub before : List Bytes
  pub bytes : Bytes
  pub empty : List Bytes
  pub later_is : later ≡ before ++ bytes ∷ empty
  pub are_empty : All (λ batch. batch ≡ []) empty
  pub old : Logged
  pub so_far : AddAll begun before old
  pub place : ℕ
  pub made : Logged
  pub last : IsLast old bytes place made
  pub here : at ≡ offset (first ∷ before) place

-- none of them has a record, and the last one is the snapshot with which the log begins
pub record IsLastOfNone (later : List Bytes) (at : ℕ) : Type 0 where
  pub are_empty : All (λ batch. batch ≡ []) later
  pub here : at ≡ offset [] 0

abbrev pub IsLastBehind : Bytes → Logged → List Bytes → ℕ → Type 0
IsLastBehind first begun later at = IsLastOfNone later at ⊎ IsLastAt first begun later at

-- The batches give it, and their last record stands there. Where no batch is open, the first gate stands for it: the place is vacant, which can always be opened.
abbrev pub IsLastIn : List Bytes → Logged → ℕ → Type 0
IsLastIn [] given at = (given ≡ beginning 0) × (at ≡ end_of [])
IsLastIn (first ∷ later) given at = (begun : Logged) × Begins first begun × AddAll begun later given × IsLastBehind first begun later at
