use Rattle.desk_answers.proofs.ConsumerTexts.{all_texts}
use Rattle.desk_answers.proofs.consumer_answers.consumers_listed.Goals as goal

pub returns-in_ok-copy_consumer_infos-in-Infos-clause-texts : goal.returns-in_ok-copy_consumer_infos-in-Infos-clause-texts
returns-in_ok-copy_consumer_infos-in-Infos-clause-texts c =
    rw (c.in_ok-copy_consumer_infos-in-Infos.ensures.copy, c.as_slice.ensures) (all_texts c.in-Infos.list (rw c.in-Infos.is at c.requires.shown))
