use Rattle.std.proofs.Common.{◌≡◌, None, ap, ◌∙◌}
use Rattle.js_model.specs.declared.stream.Stream.{Stream}
use Rattle.retention.specs.Over.{next_over}
use Rattle.stream_state.proofs.Calling.{nobody_pulls, outside_asked, pull_told}
use Rattle.stream_state.proofs.Proper.{proper_with, pulled_kin}
use Rattle.stream_state.proofs.Settling.{trimmed}
use Rattle.stream_state.proofs.state.StreamState.pull.Goals as goal

pub returns-in_default-clause-answers : goal.returns-in_default-clause-answers
returns-in_default-clause-answers c = rw (← c.self.view_is) (nobody_pulls c.self.inside.stream c.args.name.now _ c.args.ask c.args.outs.now c.in_default.ensures.value)

pub returns-in_default-clause-settled : goal.returns-in_default-clause-settled
returns-in_default-clause-settled c = rw (← c.self.view_is) (trimmed c.self.inside.stream c.self.invariant.attended c.self.invariant.within)

pub pull-requires : goal.pull-requires
pull-requires c = record { within = c.in-Some.ensures.value.within }

pub invariant_of-self-2 : goal.invariant_of-self-2
invariant_of-self-2 c =
    let s = c.self.inside.stream in
    let p = c.in_ok-pull.ensures.pulled in
    record {
      attended = c.in_ok-pull.ensures.sound;
      proper = rw p.left (proper_with s.consumers _ _ p.consumer p.found (pulled_kin s.moment _ c.args.ask p.consumer) c.self.invariant.proper);
      within = ap (λ (x : Stream). next_over x) p.left ∙ c.self.invariant.within;
      kept = outside_asked c.self.inside.loose s c.pull.new.self (ap (λ (x : Stream). x.messages) p.left) (ap (λ (x : Stream). x.config.retention) p.left) c.self.invariant.kept p.needed;
    }

pub returns-clause-answers : goal.returns-clause-answers
returns-clause-answers c = rw (← c.self.view_is) (pull_told c.self.inside.stream c.args.name.now c.in-Some.place _ c.args.ask c.args.outs.now _ c.pull.new.self c.in-Some.ensures.value c.in_ok-pull.ensures.pulled)

pub returns-clause-settled : goal.returns-clause-settled
returns-clause-settled c =
    let within : next_over c.pull.new.self ≡ None = ap (λ (x : Stream). next_over x) c.in_ok-pull.ensures.pulled.left ∙ c.self.invariant.within in
    trimmed c.pull.new.self c.in_ok-pull.ensures.sound within

pub returns-in_err-pull-clause-settled : goal.returns-in_err-pull-clause-settled
returns-in_err-pull-clause-settled c = rw c.in_err-pull.ensures.err (trimmed c.self.inside.stream c.self.invariant.attended c.self.invariant.within)
