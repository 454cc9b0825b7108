use Rattle.memory_place.proofs.slot.Slot.answer_other.Goals as goal

pub returns-in-Nothing-clause-answers : goal.returns-in-Nothing-clause-answers
returns-in-Nothing-clause-answers c = rw (← c.self.view_is) (c.answer_vacant.ensures.answers c.args.outs.now)
