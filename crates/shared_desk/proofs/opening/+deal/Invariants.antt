use Rattle.std.proofs.Common.{vec_len}
use Rattle.shared_desk.proofs.opening.+deal.Given as goal

abbrev pub decreases-deal : goal.decreases-deal
decreases-deal g l = vec_len l.rows.now
