use Rattle.desk_answers.proofs.ConsumerTexts.{consumer_texts}
use Rattle.desk_answers.proofs.consumer_answers.consumer_informed.Goals as goal

pub answer-requires : goal.answer-requires
answer-requires c = record {
  texts = rw c.in_ok-copy_consumer_info-in-ConsumerInfo.ensures.copy (consumer_texts c.in-ConsumerInfo.info (rw c.in-ConsumerInfo.is at c.requires.shown));
}
