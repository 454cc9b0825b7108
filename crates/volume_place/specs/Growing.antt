-- What a place comes to at most with what is asked, by a number that its texts take no more than, and by how much that raises it.
use Rattle.std.specs.Prelude.{◌≡◌, ◌+◌, ℕ}
use Rattle.js_model.specs.declared.event.What.{What}
use Rattle.js_model.specs.declared.stream.State.{State}
use Rattle.snapshot_bound.specs.Asking.{event_counted, event_fixed, event_growth}
use Rattle.snapshot_bound.specs.Bounds.{bound_with, capped}
use Rattle.volume_place.specs.declared.asking.Growth.{Growth}

abbrev pub bound_after : (known : ℕ) → State → What → ℕ
bound_after known state what = bound_with known state + event_growth state what

-- what is asked raises it by so much; the part of the texts is told by eight bytes
pub record IsGrowth (state : State) (what : What) (growth : Growth) : Type 0 where
  pub fixed : growth.fixed ≡ capped (event_fixed state what)
  pub counted : growth.counted ≡ event_counted state what
