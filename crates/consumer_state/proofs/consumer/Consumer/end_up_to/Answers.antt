use Rattle.consumer_state.proofs.Keeping.{kept_up_to}
use Rattle.consumer_state.proofs.Steps.{up_to_ends}
use Rattle.consumer_state.specs.Keeping.{kept_of}
use Rattle.consumer_state.proofs.consumer.Consumer.end_up_to.Goals as goal

pub invariant_of-self : goal.invariant_of-self
invariant_of-self c = kept_up_to c.self.inside.name c.self.inside.made c.self.inside.config c.self.inside.progress c.self.inside.pulls c.self.inside.mark c.self.invariant c.args.seq c.end_one_up_to.result c.end_one_up_to.new.self c.end_one_up_to.ensures.value

pub returns : goal.returns
returns c = record { value = up_to_ends (kept_of c.self.inside.name c.self.inside.made c.self.inside.config c.self.inside.progress c.self.inside.pulls c.self.inside.mark) c.args.self.now c.self.view_is c.args.seq c.end_one_up_to.result c.end_one_up_to.new.self c.end_one_up_to.ensures.value }
