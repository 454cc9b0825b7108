-- When a place leaves its log for the next one, by a rule of this server's own: as soon as what it commits would make the log long or finds no room in it, and
-- never before.
use Rattle.std.specs.Prelude.{◌≡◌, ◌⊎◌, ◌-◌, ◌^◌, ℕ, List, Some}
use Rattle.effects.specs.declared.durable.Durable.{Durable}
use Rattle.effects.specs.declared.effect.Effect.{Effect}
use Rattle.effects.specs.Durables.{durable_of}
use Rattle.gate_log.specs.LogState.{LogState, with_batch}
use Rattle.stream_store.specs.Alternating.{IsLong, next_log}
use Rattle.stream_store.specs.Committing.{batch_length}
use Rattle.stream_store.specs.Rooms.{HasLogRoom}
use Rattle.stream_store.specs.StoreState.{StoreState}
use Rattle.stream_store.specs.declared.fault.CommitFault.{CommitFault}
use Rattle.stream_store.specs.declared.fault.CommitFault.TheVariants as commit
use Rattle.place_engine.specs.declared.faults.PlaceFault.{PlaceFault}
use Rattle.place_engine.specs.declared.faults.PlaceFault.TheVariants.{NoMemory, StoreFault, Stopped, Gone, Worn}
use Rattle.volume_place.specs.Contents.{Contents}
use Rattle.snapshot_bound.specs.Bounds.{bound_with}

-- with a batch of so many bytes the log of a place that comes to so much at most would be long, or it has no room for that
abbrev pub IsLeftBy : StoreState → (count bound : ℕ) → Type 0
IsLeftBy store count bound = IsLong store.log count bound ⊎ ¬ HasLogRoom store.log store.rooms count

-- so it is with a batch of these records
abbrev pub IsLeft : StoreState → List Effect → (bound : ℕ) → Type 0
IsLeft store effects bound = IsLeftBy store (batch_length effects) bound

-- and its generation is the last that a log can have
pub record IsLastLog (store : StoreState) (effects : List Effect) (bound : ℕ) : Type 0 where
  pub left : IsLeft store effects bound
  pub last : store.log.head ≡ Some (2 ^ 62 - 1)

-- The log behind a commit of these records, by which this lasts: the next one, which begins with all of that, or the same with one batch more.
pub record GoesTo (store : StoreState) (effects : List Effect) (bound : ℕ) (next : Durable) (log : LogState) : Type 0 where
  pub left : IsLeft store effects bound → log ≡ next_log store effects next
  pub stays : ¬ IsLeft store effects bound → log ≡ with_batch store.log (batch_length effects)

-- ---- what becomes of the log of a place

-- what it comes to at most
abbrev pub bound_of : {V : Type 0} → Contents V → ℕ
bound_of place = bound_with place.fixed place.state

-- these records were committed, or none
abbrev pub LogGoes : {V : Type 0} → List Effect → Contents V → Contents V → Type 0
LogGoes effects old new = (new.store ≡ old.store) ⊎ GoesTo old.store effects (bound_of new) (durable_of new.state) new.store.log

-- a commit for which there is no number has to leave the log with what waits
abbrev pub IsLeftIfWorn : {V : Type 0} → CommitFault → Contents V → Type 0
IsLeftIfWorn commit.Fault place = Unit {0}
IsLeftIfWorn commit.Worn place = IsLeft place.store place.waiting (bound_of place)
IsLeftIfWorn commit.NoMemory place = Unit {0}

-- and so it is told of the place
abbrev pub IsLeftIfToldWorn : {V : Type 0} → PlaceFault → Contents V → Type 0
IsLeftIfToldWorn (NoMemory left) place = Unit {0}
IsLeftIfToldWorn StoreFault place = Unit {0}
IsLeftIfToldWorn (Stopped count) place = Unit {0}
IsLeftIfToldWorn (Gone kept) place = Unit {0}
IsLeftIfToldWorn (Worn refused) place = IsLeft place.store place.waiting (bound_of place)
