use Rattle.stream_state.proofs.Handed.{settled_handed}
use Rattle.stream_state.proofs.Settling.{trimmed}
use Rattle.stream_state.proofs.state.StreamState.hand.Goals as goal

pub invariant_of-self-2 : goal.invariant_of-self-2
invariant_of-self-2 c =
    rw c.join-self-inside.ensures.value
    (settled_handed c.self.inside.loose c.span_of.result c.self.inside.stream c.deliver.new.self c.args.place c.args.listened c.in_ok-what.what c.args.outs.now c.deliver.new.outs c.in_ok-what.ensures.sound c.in_ok-what.ensures.delivered
    c.span_of.ensures.outside c.self.invariant)

pub returns-clause-settled : goal.returns-clause-settled
returns-clause-settled c =
    let settled =
    settled_handed c.self.inside.loose c.span_of.result c.self.inside.stream c.deliver.new.self c.args.place c.args.listened c.in_ok-what.what c.args.outs.now c.deliver.new.outs c.in_ok-what.ensures.sound c.in_ok-what.ensures.delivered
    c.span_of.ensures.outside c.self.invariant in
    trimmed c.deliver.new.self settled.attended settled.within

pub returns-in_err-what-clause-settled : goal.returns-in_err-what-clause-settled
returns-in_err-what-clause-settled c = rw c.in_err-what.ensures.err (trimmed c.self.inside.stream c.self.invariant.attended c.self.invariant.within)
