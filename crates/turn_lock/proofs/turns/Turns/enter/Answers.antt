use Rattle.std.proofs.Common.{ap, ◌∙◌}
use Rattle.turn_lock.proofs.Seats.{idle_at}
use Rattle.turn_lock.proofs.turns.Turns.enter.Goals as goal

pub draw-requires : goal.draw-requires
draw-requires g c = let a = c.into_seat-seat.ensures in let h = idle_at _ _ c.into_seat-seat.result.me.0 a.2 c.seat.invariant in
    record { own = a.0 ∙ (ap (λ z. z.lock) c.seat.view_is ∙ c.requires.own); idle = h.idle; numbered = h.numbered }
