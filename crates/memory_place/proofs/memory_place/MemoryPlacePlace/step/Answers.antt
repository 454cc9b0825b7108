use Rattle.std.proofs.Common.{◌∙◌}
use Rattle.std.proofs.lemmas.Bool.{and_parts}
use Rattle.memory_place.proofs.Steps.{tells, starves}
use Rattle.memory_place.proofs.memory_place.MemoryPlacePlace.step.Goals.{in-Ok, in-Err}
use Rattle.memory_place.proofs.memory_place.MemoryPlacePlace.step.Goals as goal

pub answer-requires-clause-proper : goal.answer-requires-clause-proper
answer-requires-clause-proper g c = (and_parts _ _ c.requires.proper).1

pub returns-clause-steps : goal.returns-clause-steps
returns-clause-steps g c =
    let old = c.self.inside.slot in
    let kept = c.if-event-kept.false ∙ c.incarnation-kept.ensures.value in
    elim c.match-answer.branch [
      | in-Ok w ↦
          rw (w.result-is, ← c.self.view_is)
          (tells old c.args.event.now c.args.now w.in-Ok.reply c.answer.new.self c.args.outs.now c.answer.new.outs kept w.in-Ok.ensures.answers)
      | in-Err w ↦
          rw (w.result-is, ← c.self.view_is)
          (starves old c.args.event.now c.args.now w.in-Err.left c.answer.new.self c.args.outs.now c.answer.new.outs kept w.in-Err.ensures.err)
    ]
