-- A file between two syncs.
use Rattle.std.specs.Prelude.{ℕ, ◌≤◌, List, [], length}
use Rattle.vol_disk.specs.declared.span.Span.{Span}

pub record FileState : Type 0 where
  -- what a read gives
  pub bytes : List ℕ
  -- what a read gave at the last sync
  pub synced : List ℕ
  -- the least and the greatest length that it had since the last sync
  pub least : ℕ
  pub greatest : ℕ
  -- the ranges that were written since then
  pub written : List Span

-- a file just after a sync
abbrev pub at_rest : List ℕ → FileState
at_rest bytes = record { bytes = bytes; synced = bytes; least = length bytes; greatest = length bytes; written = [] }

-- the length is one of those that it had
pub record IsSound (state : FileState) : Type 0 where
  pub no_shorter : state.least ≤ length state.bytes
  pub no_longer : length state.bytes ≤ state.greatest
