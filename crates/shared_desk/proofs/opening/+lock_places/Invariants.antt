use Rattle.std.proofs.Common.{vec_len}
use Rattle.shared_desk.proofs.opening.+lock_places.Given as goal

abbrev pub decreases-lock_places : goal.decreases-lock_places
decreases-lock_places g l = vec_len l.places.now
