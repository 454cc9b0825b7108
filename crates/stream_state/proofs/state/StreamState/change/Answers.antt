use Rattle.std.proofs.Common.{ap, ◌∙◌}
use Rattle.js_model.specs.Trim.{trim}
use Rattle.stream_state.proofs.Proper.{proper_trim}
use Rattle.stream_state.proofs.Settling.{outside_all, trimmed}
use Rattle.stream_state.proofs.state.StreamState.change.Goals as goal

pub invariant_of-self : goal.invariant_of-self
invariant_of-self c = record {
  attended = c.trim.ensures.sound;
  proper = rw (c.trim.ensures.left, c.set_config.ensures.value) (proper_trim (record c.self.inside.stream { config = c.args.config }) c.self.invariant.proper);
  within = c.trim.ensures.within;
  kept = rw (c.up_to-self-inside.ensures.value, c.last.ensures.value) (outside_all c.trim.new.stream c.trim.ensures.sound);
}

pub returns-clause-value : goal.returns-clause-value
returns-clause-value c = rw (← c.self.view_is) (c.trim.ensures.left ∙ ap trim c.set_config.ensures.value)

pub returns-clause-settled : goal.returns-clause-settled
returns-clause-settled c = trimmed c.trim.new.stream c.trim.ensures.sound c.trim.ensures.within

pub trim-requires : goal.trim-requires
trim-requires c = record { sound = c.set_config.ensures.sound; room = rw c.set_config.ensures.value (rw (← c.self.view_is) at c.requires.room) }

pub returns-clause-gone : goal.returns-clause-gone
returns-clause-gone c = rw (← c.self.view_is) (rw c.set_config.ensures.value at c.trim.ensures.gone)

pub returns-clause-room : goal.returns-clause-room
returns-clause-room c = c.trim.ensures.room
