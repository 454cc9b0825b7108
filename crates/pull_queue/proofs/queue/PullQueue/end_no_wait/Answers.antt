use Rattle.std.proofs.Common.{◌≡◌, List, length, ap, sym, ◌∙◌, arith}
use Rattle.std.specs.List.{position, remove}
use Rattle.js_model.specs.declared.consumer.Pull.{Pull}
use Rattle.js_model.specs.Deliver.{without_first}
use Rattle.pull_queue.specs.Queue.{Queue}
use Rattle.pull_queue.proofs.Places.{on_some, none_any, none_stays, some_any, some_goes, some_within}
use Rattle.pull_queue.proofs.Passes.{with_pulls}
use Rattle.pull_queue.proofs.Tallies.{kept_without}
use Rattle.pull_queue.proofs.queue.PullQueue.end_no_wait.Goals as goal

pub invariant_of-self : goal.invariant_of-self
invariant_of-self c =
    let test = λ (p : Pull). p.no_wait in
    let i = c.self.inside in
    let place = c.in-Some.place in
    let same : i.pulls.items ≡ c.args.self.now.pulls = ap (λ (q : Queue). q.pulls) c.self.view_is in
    let found = sym c.in-Some.is ∙ c.no_wait_place.ensures.value ∙ ap (position test) (sym same) in
    let within = some_within test i.pulls.items place found in
    let left = on_some c.remove.result c.remove.ensures.items c.remove.ensures.variant (omega (arith, within, i.pulls.ok.0)) in
    rw c.saturating_sub-self-inside.ensures (kept_without i.next i.no_waits i.pulls.items c.remove.new.self.items place c.self.invariant found left)

pub returns-in-Some-clause-value : goal.returns-in-Some-clause-value
returns-in-Some-clause-value c =
    let found = sym c.in-Some.is ∙ c.no_wait_place.ensures.value in
    sym (some_any (λ (p : Pull). p.no_wait) c.args.self.now.pulls c.in-Some.place found)

pub returns-in-Some-clause-left : goal.returns-in-Some-clause-left
returns-in-Some-clause-left c =
    let test = λ (p : Pull). p.no_wait in
    let i = c.self.inside in
    let place = c.in-Some.place in
    let found = sym c.in-Some.is ∙ c.no_wait_place.ensures.value in
    let same : i.pulls.items ≡ c.args.self.now.pulls = ap (λ (q : Queue). q.pulls) c.self.view_is in
    let max : i.max_waiting ≡ c.args.self.now.max_waiting = ap (λ (q : Queue). q.max_waiting) c.self.view_is in
    let within = some_within test c.args.self.now.pulls place found in
    let left = on_some c.remove.result c.remove.ensures.items c.remove.ensures.variant (omega (arith, within, ap (λ (ps : List Pull). length ps) same, i.pulls.ok.0)) in
    let all = left ∙ ap (λ (ps : List Pull). remove ps place) same ∙ some_goes test c.args.self.now.pulls place found in
    ap (with_pulls i.max_waiting) all ∙ ap (λ m. with_pulls m (without_first test c.args.self.now.pulls)) max

pub returns-in-None-clause-value : goal.returns-in-None-clause-value
returns-in-None-clause-value c =
    let found = sym c.in-None.is ∙ c.no_wait_place.ensures.value in
    sym (none_any (λ (p : Pull). p.no_wait) c.args.self.now.pulls found)

pub returns-in-None-clause-left : goal.returns-in-None-clause-left
returns-in-None-clause-left c =
    let found = sym c.in-None.is ∙ c.no_wait_place.ensures.value in
    ap (with_pulls c.args.self.now.max_waiting) (none_stays (λ (p : Pull). p.no_wait) c.args.self.now.pulls found)
