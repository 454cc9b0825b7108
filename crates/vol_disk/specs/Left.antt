-- What a crash may leave of a file: each range written since the last sync and everything past the least
-- length may hold any bytes, the length is any from the least to the greatest, and the other bytes stay.
use Rattle.std.specs.Prelude.{◌≡◌, ℕ, ◌<◌, ◌≤◌, Bool, false, nat_le, nat_lt, ◌&&◌, List, length, slice_index}
use Rattle.std.specs.List.{list_any}
use Rattle.vol_disk.specs.declared.span.Span.{Span}
use Rattle.vol_disk.specs.FileState.{FileState, IsSound}

-- whether a place is in a range
abbrev pub is_in : ℕ → Span → Bool
is_in place span = nat_le span.from place && nat_lt place span.to

-- whether a place is in one of the ranges
abbrev pub is_written : List Span → ℕ → Bool
is_written spans place = list_any (is_in place) spans

pub record IsLeft (state : FileState) (image : List ℕ) : Type 0 where
  pub no_shorter : state.least ≤ length image
  pub no_longer : length image ≤ state.greatest
  pub stays : (k : ℕ) → k < state.least → is_written state.written k ≡ false → slice_index image k ≡ slice_index state.bytes k

-- the state of a file as it came to be: a crash may leave what a read gives, and what one gave at the last sync
pub record IsReached (state : FileState) : Type 0 where
  pub sound : IsSound state
  pub synced : IsLeft state state.synced
