use Rattle.std.proofs.Common.{ap, ◌∙◌}
use Rattle.js_model.specs.Streams.{is_push}
use Rattle.consumer_state.proofs.KeptSent.{kept_asked}
use Rattle.consumer_state.proofs.consumer.Consumer.put_pull.Goals as goal

pub invariant_of-self : goal.invariant_of-self
invariant_of-self c = kept_asked c.self.inside.name c.self.inside.made c.self.inside.config c.self.inside.progress c.self.inside.pulls c.self.inside.mark c.self.invariant c.ask.result c.args.pull c.ask.new.self c.ask.ensures.ok c.ask.ensures.err (ap is_push c.self.view_is ∙ c.requires.pulled)
