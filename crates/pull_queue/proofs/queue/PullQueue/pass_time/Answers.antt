use Rattle.std.proofs.Common.{◌≡◌, rules, tests, not, List, map, length, ap, sym, ◌∙◌}
use Rattle.std.proofs.lemmas.Fn.{filter_same}
use Rattle.std.proofs.lemmas.List.{length-map}
use Rattle.js_model.specs.declared.consumer.Pull.{Pull}
use Rattle.js_model.specs.Advance.{is_over, beaten}
use Rattle.pull_queue.specs.Passing.{passed}
use Rattle.pull_queue.proofs.Passes.{with_pulls, quiet_passed}
use Rattle.pull_queue.proofs.queue.PullQueue.pass_time.Goals as goal

pub returns-then-not-is_reached : goal.returns-then-not-is_reached
returns-then-not-is_reached c =
    let i = c.self.inside in
    let quiet = c.self.invariant.quiet.none_due c.args.now (sym c.is_reached.ensures.value ∙ c.if-not-is_reached.true) in
    record { left = rw (← c.self.view_is) (ap (with_pulls i.max_waiting) (quiet_passed c.args.now i.pulls.items quiet)) }

pub returns : goal.returns
returns c =
    let i = c.self.inside in
    let beats = beaten c.args.now in
    let running = filter_same _ (λ (p : Pull). not (is_over c.args.now p)) _ (λ x b f' k. search (rules, tests)) _ _ c.retain.ensures.filtered in
    let marked : c.beat_all.new.pulls ≡ passed c.args.now i.pulls.items = c.beat_all.ensures.value ∙ ap (map beats) (c.make_contiguous-pulls.ensures.value ∙ running) in
    let long = ap (λ (ps : List Pull). length ps) c.beat_all.ensures.value ∙ length-map c.make_contiguous-pulls.result.now beats ∙ c.make_contiguous-pulls.ensures.len in
    let written = c.make_contiguous-pulls.ensures.writes_back c.beat_all.new.pulls long in
    record { left = rw (← c.self.view_is) (ap (with_pulls i.max_waiting) (written ∙ marked)) }
