use Rattle.std.proofs.Common.{ap, ◌∙◌, ◌++◌, List, map}
use Rattle.std.specs.Prelude.{filter}
use Rattle.js_base.specs.declared.out.Out.{Out}
use Rattle.js_model.specs.Advance.{timeout, is_over}
use Rattle.pull_queue.proofs.Passes.{outs_are}
use Rattle.pull_queue.proofs.queue.PullQueue.told.Goals as goal

pub returns : goal.returns
returns c =
    let now = c.args.now in
    let front = c.as_slices.result.0.now in
    let back = c.as_slices.result.1.now in
    let first = c.in_ok-put_timeouts.ensures.ok ∙ ap (λ (o : List Out). o ++ map timeout (filter (is_over now) front)) c.new-outs.ensures.items in
    record { value = rw (← c.self.view_is) (outs_are now front back c.self.inside.pulls.items _ _ _ _ c.as_slices.ensures.items first c.in_ok-put_timeouts-2.ensures.ok c.in_ok-put_beats.ensures.ok c.in_ok-put_beats-2.ensures.ok) }
