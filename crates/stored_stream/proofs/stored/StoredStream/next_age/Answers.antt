use Rattle.std.proofs.Common.{◌≡◌, Some, ap, sym, ◌∙◌}
use Rattle.js_model.specs.declared.stream.Stream.{Stream}
use Rattle.js_model.specs.Counts.{first_message}
use Rattle.timers.specs.Bounds.{IsTimerBound}
use Rattle.timers.specs.Timers.{age_timers}
use Rattle.stored_stream.specs.Stored.{alone}
use Rattle.stored_stream.proofs.Ages.{first_ages}
use Rattle.stored_stream.proofs.stored.StoredStream.next_age.Goals as goal

pub returns : goal.returns
returns c =
    let i = c.self.inside in
    let s : Stream = alone i.incarnation i.made i.config i.messages i.last i.moment i.ids.ids in
    let first = c.in_ok-first.first.now in
    let is : first_message s.messages ≡ Some first = ap (λ (x : Stream). first_message x.messages) c.self.view_is ∙ sym c.in_ok-first.ensures.value in
    let ages : IsTimerBound (age_timers s) (Some c.plus.result) = rw c.plus.ensures (first_ages s first is c.self.invariant.sound) in
    record { bound = rw (← c.self.view_is) ages }
