use Rattle.desk_streams.proofs.Refused.{making_so}
use Rattle.desk_streams.proofs.making.making_told.Goals as goal

pub returns-in-None : goal.returns-in-None
returns-in-None c = record { told = rw (c.in-None.is, c.refused_by-refused.ensures.value) (making_so c.args.outcome.became (rw c.in-None.is at c.requires.explained) c.requires.there) }
