use Rattle.std.proofs.Common.{◌++◌, take, ap, ◌∙◌}
use Rattle.route_core.specs.Queues.{gathered}
use Rattle.route_core.proofs.Lengths.{collects_within, gathers, left_within, takes_less}
use Rattle.route_core.proofs.waiting.Waiting.collect.Goals as goal

pub take_front-requires-clause-within : goal.take_front-requires-clause-within
take_front-requires-clause-within c = collects_within c.args.max c.self.inside.frames c.reach-count.result c.reach-count.ensures.value

pub overflow_sub-self : goal.overflow_sub-self
overflow_sub-self c =
    takes_less c.args.max c.self.inside.frames c.reach-count.result c.reach-count.ensures.value c.self.inside.length c.take_front.result c.self.invariant c.take_front.ensures.length

pub invariant_of-self : goal.invariant_of-self
invariant_of-self c =
    left_within c.args.max c.self.inside.frames c.reach-count.result c.reach-count.ensures.value c.self.inside.length c.take_front.result c.take_front.new.frames
    c.self.invariant c.take_front.ensures.length c.take_front.ensures.left

pub returns-clause-told : goal.returns-clause-told
returns-clause-told c =
    let front = take c.reach-count.result c.self.inside.frames in
    gathers c.args.max c.self.inside.frames c.reach-count.result c.reach-count.ensures.value c.self.inside.mark c.from_vec.result c.take_front.new.frames c.is_empty.result
    c.in_default.is (c.from_vec.ensures ∙ c.take_front.ensures.taken ∙ ap (λ xs. xs ++ front) c.in_ok-list.ensures.items) c.take_front.ensures.left c.is_empty.ensures
    ∙ ap (gathered c.args.max) c.self.view_is
