use Rattle.memory_place.proofs.Answering.{reads, reads_none}
use Rattle.memory_place.proofs.Shown.{no_message_utf8}
use Rattle.memory_place.proofs.live_stream.LiveStream.read.Goals as goal

pub returns-in_ok-copy_message-in-Some-clause-acts :
    goal.returns-in_ok-copy_message-in-Some-clause-acts
returns-in_ok-copy_message-in-Some-clause-acts c = rw c.in_ok-copy_message-in-Some.ensures.copy (reads c.args.self.now c.args.by.now c.in-Some.message.now c.in-Some.ensures.value)

pub returns-in_ok-no_message-in-None-clause-acts :
    goal.returns-in_ok-no_message-in-None-clause-acts
returns-in_ok-no_message-in-None-clause-acts c = rw c.in_ok-no_message-in-None.ensures.value (reads_none c.args.self.now c.args.by.now c.in-None.ensures.value)

pub returns-in_ok-no_message-in-None-clause-shown :
    goal.returns-in_ok-no_message-in-None-clause-shown
returns-in_ok-no_message-in-None-clause-shown c = no_message_utf8 _ c.in_ok-no_message-in-None.ensures.value
