use Rattle.std.proofs.Common.{◌≡◌, false, ap, ◌∙◌}
use Rattle.shared_desk.proofs.desk.HubDeskDesk.open.Goals as goal

pub invariant_of-self : goal.invariant_of-self
invariant_of-self g c =
    let closed : c.self.inside.caller.is_open ≡ false = ap (λ d. d.client.is_open) c.self.view_is ∙ c.requires.closed in
    record { outside = c.open.ensures.phase ∙ c.self.invariant.outside; opened = λ yes. absurd (cc (yes, closed)) }

pub invariant_of-self-2 : goal.invariant_of-self-2
invariant_of-self-2 g c = record { outside = c.open.ensures.phase ∙ c.self.invariant.outside; opened = λ yes. c.in_ok-session.ensures.opens }
