-- What a place knows of the length of the records that wait.
use Rattle.std.specs.Prelude.{◌≡◌, ◌≤◌, ◌+◌, ℕ, List, length, take}
use Rattle.std.specs.List.{flat_map}
use Rattle.effects.specs.declared.effect.Effect.{Effect}
use Rattle.op_records.specs.Spelling.{spelled, spelled_record}
use Rattle.stream_store.specs.Committing.{batch_length, no_spot, recorded_at}
use Rattle.volume_place.specs.declared.lengths.Lengths.{Lengths}

-- those of one record
pub record HasLengths (effect : Effect) (lengths : Lengths) : Type 0 where
  pub waiting : lengths.waiting ≡ length (spelled effect)
  pub logged : lengths.logged ≡ length (spelled_record (recorded_at no_spot effect))

-- how long they are with the messages that they store, and how long a log has them, in which no message stands
pub record HaveLengths (records : List Effect) (lengths : Lengths) : Type 0 where
  pub waiting : lengths.waiting ≡ length (flat_map spelled records)
  pub logged : lengths.logged ≡ batch_length records

-- those of some records, and of those behind them, give these
pub record AddUp (first more sum : Lengths) : Type 0 where
  pub waiting : sum.waiting ≡ first.waiting + more.waiting
  pub logged : sum.logged ≡ first.logged + more.logged

-- the first so many of them have these lengths
pub record IsMeasured (records : List Effect) (measured : ℕ) (lengths : Lengths) : Type 0 where
  pub within : measured ≤ length records
  pub first : HaveLengths (take measured records) lengths
