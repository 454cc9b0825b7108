use Rattle.memory_place.proofs.Places.{drops_nothing}
use Rattle.memory_place.proofs.Shown.{no_stream_utf8}
use Rattle.memory_place.proofs.slot.Slot.drop_stream.Goals as goal

pub returns-in_ok-no_stream-in-Nothing-clause-answers :
    goal.returns-in_ok-no_stream-in-Nothing-clause-answers
returns-in_ok-no_stream-in-Nothing-clause-answers c = λ subject. λ now.
    rw (← c.self.view_is, c.in-Nothing.is, c.in_ok-no_stream-in-Nothing.ensures.value) (drops_nothing c.in-Nothing.field-0 subject now c.args.outs.now)

pub returns-in_ok-no_stream-in-Nothing-clause-shown :
    goal.returns-in_ok-no_stream-in-Nothing-clause-shown
returns-in_ok-no_stream-in-Nothing-clause-shown c = no_stream_utf8 _ c.in_ok-no_stream-in-Nothing.ensures.value
