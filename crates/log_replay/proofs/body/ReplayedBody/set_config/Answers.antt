use Rattle.std.proofs.Common.{refl}
use Rattle.log_replay.proofs.Streams.{configured_keeps}
use Rattle.log_replay.proofs.body.ReplayedBody.set_config.Goals as goal

pub invariant_of-self : goal.invariant_of-self
invariant_of-self c = rw c.set_window.ensures.value (record { counts = refl; latest = c.self.invariant.latest })

pub returns-clause-keeps : goal.returns-clause-keeps
returns-clause-keeps c = rw (c.set_window.ensures.value, ← c.self.view_is) (configured_keeps _ c.args.config c.requires.valid)
