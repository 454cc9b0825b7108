use Rattle.desk_answers.proofs.Ordered.{texts_of}
use Rattle.desk_answers.proofs.answering.informed.Goals as goal

pub answer-requires : goal.answer-requires
answer-requires c = record { texts = rw c.in_ok-copy_info-in-Info.ensures.copy (texts_of c.in-Info.info (rw c.in-Info.is at c.requires.shown)) }
