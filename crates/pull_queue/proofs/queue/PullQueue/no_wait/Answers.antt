use Rattle.std.proofs.Common.{ap, sym, ◌∙◌}
use Rattle.std.specs.Option.{option_copied}
use Rattle.js_model.specs.declared.consumer.Pull.{Pull}
use Rattle.pull_queue.proofs.Places.{none_found, some_found}
use Rattle.pull_queue.proofs.queue.PullQueue.no_wait.Goals as goal

pub returns-in_err-place : goal.returns-in_err-place
returns-in_err-place c =
    let found = sym c.in_err-place.was ∙ c.no_wait_place.ensures.value in
    record { value = ap option_copied c.from_residual.ensures ∙ none_found (λ (p : Pull). p.no_wait) c.args.self.now.pulls found }

pub returns : goal.returns
returns c =
    let found = sym c.in_ok-place.was ∙ c.no_wait_place.ensures.value in
    record { value = c.at.ensures.value ∙ some_found (λ (p : Pull). p.no_wait) c.args.self.now.pulls c.in_ok-place.place found }
