use Rattle.seat_laws.proofs.Kept.{opening, run_keeps}
use Rattle.seat_laws.proofs.Runs.{opened_by}
use Rattle.seat_laws.proofs.laws.law_openers.Goals as goal

pub returns : goal.returns
returns c = record { opening = opening; law = run_keeps; opened = opened_by }
