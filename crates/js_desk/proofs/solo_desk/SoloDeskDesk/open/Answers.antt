use Rattle.std.proofs.Common.{◌≡◌, false, ap, ◌∙◌}
use Rattle.js_desk.proofs.Solos.{ended_consistent}
use Rattle.js_desk.proofs.solo_desk.SoloDeskDesk.open.Goals as goal

pub invariant_of-self : goal.invariant_of-self
invariant_of-self g c =
    let closed : c.self.inside.caller.is_open ≡ false = ap (λ s. s.client.is_open) c.self.view_is ∙ c.requires.closed in
    ended_consistent _ c.self.inside.ground c.open.new.self c.self.inside.caller c.self.inside.caller _ _ c.self.invariant (c.open.ensures.phase ∙ c.self.invariant.outside) c.open.ensures.made.led.1 (λ yes. absurd (cc (yes, closed)))

pub invariant_of-self-2 : goal.invariant_of-self-2
invariant_of-self-2 g c = ended_consistent _ c.self.inside.ground c.open.new.self c.self.inside.caller _ _ _ c.self.invariant (c.open.ensures.phase ∙ c.self.invariant.outside) c.open.ensures.made.led.1 (λ yes. c.in_ok-session.ensures.opens)
