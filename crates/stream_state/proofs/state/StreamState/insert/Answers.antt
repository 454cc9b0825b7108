use Rattle.std.proofs.Common.{◌≡◌, ◌<◌, None, ap, length, subst, sym, ◌∙◌}
use Rattle.js_model.specs.declared.stream.Stream.{Stream}
use Rattle.retention.specs.Over.{next_over}
use Rattle.stream_state.proofs.Proper.{proper_new}
use Rattle.stream_state.proofs.Settling.{outside_all, trimmed}
use Rattle.stream_state.proofs.state.StreamState.insert.Goals as goal

pub invariant_of-self-2 : goal.invariant_of-self-2
invariant_of-self-2 c =
    let s = c.self.inside.stream in
    let left = c.in_ok-insert.ensures.ok in
    let room : length s.consumers < 256 = subst (λ (x : Stream). length x.consumers < 256) (sym c.self.view_is) c.requires.room in
    record {
      attended = c.in_ok-insert.ensures.sound;
      proper = rw left (proper_new s.consumers c.args.consumer room c.requires.proper c.self.invariant.proper);
      within = ap (λ (x : Stream). next_over x) left ∙ c.self.invariant.within;
      kept = rw (c.up_to-self-inside.ensures.value, c.last.ensures.value) (outside_all c.insert.new.self c.in_ok-insert.ensures.sound);
    }

pub returns-clause-settled : goal.returns-clause-settled
returns-clause-settled c =
    let within : next_over c.insert.new.self ≡ None = ap (λ (x : Stream). next_over x) c.in_ok-insert.ensures.ok ∙ c.self.invariant.within in
    trimmed c.insert.new.self c.in_ok-insert.ensures.sound within
