use Rattle.desk_answers.proofs.consumer_answers.consumers_named.Goals as goal

pub returns-in_ok-copy_texts-in-Names-clause-texts : goal.returns-in_ok-copy_texts-in-Names-clause-texts
returns-in_ok-copy_texts-in-Names-clause-texts c = rw (c.in_ok-copy_texts-in-Names.ensures.copy, c.as_slice.ensures) (rw c.in-Names.is at c.requires.shown)
