use Rattle.std.proofs.Common.{◌≡◌, vec_len}
use Rattle.std.specs.List.{AllByRecursion}
use Rattle.turn_lock.specs.Seats.{SeatView}
use Rattle.shared_desk.proofs.Unseen.{AreJoined}
use Rattle.shared_desk.proofs.dealt.Dealt.undo.Given as goal

-- the seats behind the others became one, and all are of the lock
abbrev pub invariant-loop-lock : goal.invariant-loop-lock
invariant-loop-lock g l = record {
  joined : AreJoined l.fn.self.seats.items l.seats.items l.all;
  are_of : AllByRecursion (λ (seat : SeatView). seat.lock ≡ l.fn.self.lock.lock) l.seats.items;
  own : l.all.lock ≡ l.fn.self.lock.lock;
}

abbrev pub decreases-loop-lock : goal.decreases-loop-lock
decreases-loop-lock g l = vec_len l.seats
