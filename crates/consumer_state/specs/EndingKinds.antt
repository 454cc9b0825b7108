-- Which entries an acknowledgement ends, this server's own: all up to its sequence, its own, or none.
use Rattle.std.specs.Prelude.{ℕ, nat_le, Bool, false, ◌==◌}
use Rattle.consumer_state.specs.declared.acking.Ending.{Ending}
use Rattle.consumer_state.specs.declared.acking.Ending.TheVariants.{UpTo, Own, Nothing}

abbrev pub ends_by : Ending → ℕ → ℕ → Bool
ends_by UpTo n m = nat_le m n
ends_by Own n m = m == n
ends_by Nothing n m = false
