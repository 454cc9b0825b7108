use Rattle.memory_place.proofs.Places.{makes, makes_none}
use Rattle.memory_place.proofs.RecordedPlaces.{settled_made}
use Rattle.memory_place.proofs.Shown.{numbers_used_up_utf8}
use Rattle.memory_place.proofs.slot.Slot.make.Goals as goal

pub returns-then-incarnation-eq-NUMBERS_END-clause-answers :
    goal.returns-then-incarnation-eq-NUMBERS_END-clause-answers
returns-then-incarnation-eq-NUMBERS_END-clause-answers c = λ subject. λ outs.
    rw c.in_ok-numbers_used_up.ensures.value
    (makes_none c.args.self.now subject c.args.config.now c.args.now outs c.requires.vacant (rw c.incarnation-incarnation.ensures.value at c.if-incarnation-eq-NUMBERS_END.true))

pub returns-clause-answers : goal.returns-clause-answers
returns-clause-answers c = λ subject. λ outs.
    makes c.args.self.now subject c.args.config.now c.args.now _ _ _ _ outs c.requires.vacant c.incarnation-incarnation.ensures.value c.if-incarnation-eq-NUMBERS_END.false c.in_ok-stream.ensures.made
    (settled_made _ _ _ _ c.in_ok-stream.ensures.made) c.in_ok-info.ensures.value

pub returns-then-incarnation-eq-NUMBERS_END-clause-shown : goal.returns-then-incarnation-eq-NUMBERS_END-clause-shown
returns-then-incarnation-eq-NUMBERS_END-clause-shown c = numbers_used_up_utf8 _ c.in_ok-numbers_used_up.ensures.value
