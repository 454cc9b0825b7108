use Rattle.std.proofs.Common.{◌≡◌, None, ap, ◌∙◌}
use Rattle.js_model.specs.declared.stream.Stream.{Stream}
use Rattle.retention.specs.Over.{next_over}
use Rattle.stream_state.proofs.Calling.{drop_told, nobody_drops}
use Rattle.stream_state.proofs.Proper.{proper_without}
use Rattle.stream_state.proofs.Settling.{outside_all, trimmed}
use Rattle.stream_state.proofs.state.StreamState.drop_consumer.Goals as goal

pub returns-in_default-clause-answers : goal.returns-in_default-clause-answers
returns-in_default-clause-answers c = rw (← c.self.view_is) (nobody_drops c.self.inside.stream c.args.name.now c.in_ok-no_consumer.field-0 c.args.outs.now c.in_default.ensures.value c.in_ok-no_consumer.ensures.value)

pub returns-in_default-clause-settled : goal.returns-in_default-clause-settled
returns-in_default-clause-settled c = rw (← c.self.view_is) (trimmed c.self.inside.stream c.self.invariant.attended c.self.invariant.within)

pub drop_consumer-requires : goal.drop_consumer-requires
drop_consumer-requires c = record { within = c.in-Some.ensures.value.within }

pub invariant_of-self-2 : goal.invariant_of-self-2
invariant_of-self-2 c =
    let s = c.self.inside.stream in
    let p = c.in_ok-drop_consumer.ensures.dropped in
    record {
      attended = c.in_ok-drop_consumer.ensures.sound;
      proper = rw p.left (proper_without s.consumers _ c.self.invariant.proper);
      within = ap (λ (x : Stream). next_over x) p.left ∙ c.self.invariant.within;
      kept = rw (c.up_to-self-inside.ensures.value, c.last-last.ensures.value, ← ap (λ (x : Stream). x.last) p.left) (outside_all c.drop_consumer.new.self c.in_ok-drop_consumer.ensures.sound);
    }

pub returns-clause-answers : goal.returns-clause-answers
returns-clause-answers c = rw (← c.self.view_is) (drop_told c.self.inside.stream c.args.name.now c.in-Some.place c.args.outs.now _ c.drop_consumer.new.self c.in-Some.ensures.value c.in_ok-drop_consumer.ensures.dropped)

pub returns-clause-settled : goal.returns-clause-settled
returns-clause-settled c =
    let within : next_over c.drop_consumer.new.self ≡ None = ap (λ (x : Stream). next_over x) c.in_ok-drop_consumer.ensures.dropped.left ∙ c.self.invariant.within in
    trimmed c.drop_consumer.new.self c.in_ok-drop_consumer.ensures.sound within

pub returns-in_err-no_consumer-clause-settled : goal.returns-in_err-no_consumer-clause-settled
returns-in_err-no_consumer-clause-settled c = rw (← c.self.view_is) (trimmed c.self.inside.stream c.self.invariant.attended c.self.invariant.within)

pub returns-in_err-drop_consumer-clause-settled : goal.returns-in_err-drop_consumer-clause-settled
returns-in_err-drop_consumer-clause-settled c = rw c.in_err-drop_consumer.ensures.err (trimmed c.self.inside.stream c.self.invariant.attended c.self.invariant.within)
