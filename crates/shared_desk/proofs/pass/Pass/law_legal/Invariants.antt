use Rattle.std.proofs.Common.{ℕ, ◌<◌}
use Rattle.histories.specs.Lawful.{IsPlaceHistory}
use Rattle.shared_desk.specs.Passes.{IsLegalAt}
use Rattle.shared_desk.proofs.Seats.{HoldsIn}
use Rattle.shared_desk.proofs.pass.Pass.law_legal.Given as goal

abbrev pub invariant-loop-place : goal.invariant-loop-place
invariant-loop-place g l = (n : ℕ) → n < l.place-index → HoldsIn (IsLegalAt IsPlaceHistory) l.place-items n
