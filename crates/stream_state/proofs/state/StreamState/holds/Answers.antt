use Rattle.followed_stream.proofs.Ordered.{ordered_apart}
use Rattle.stream_state.proofs.Settling.{trimmed}
use Rattle.stream_state.proofs.state.StreamState.holds.Goals as goal

pub returns-clause-settled : goal.returns-clause-settled
returns-clause-settled c = rw (← c.self.view_is) (trimmed c.self.inside.stream c.self.invariant.attended c.self.invariant.within)

pub returns-clause-proper : goal.returns-clause-proper
returns-clause-proper c = rw (← c.self.view_is) c.self.invariant.proper

pub returns-clause-named : goal.returns-clause-named
returns-clause-named c = rw (← c.self.view_is) (ordered_apart c.self.inside.stream.consumers c.self.invariant.attended.ordered)

pub returns-clause-config : goal.returns-clause-config
returns-clause-config c = rw (← c.self.view_is) c.self.invariant.attended.sound.config

pub returns-clause-order : goal.returns-clause-order
returns-clause-order c = rw (← c.self.view_is) (record { ascends = c.self.invariant.attended.sound.ascends; bound = c.self.invariant.attended.sound.last })
