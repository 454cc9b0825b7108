use Rattle.std.proofs.Common.{refl}
use Rattle.log_records.proofs.Making.{beginning_sound}
use Rattle.log_records.proofs.made.Made.beginning.Goals as goal

pub returns-clause-value : goal.returns-clause-value
returns-clause-value c = rw (c.vacant.ensures.value, c.new.ensures.empty) refl

pub returns-clause-sound : goal.returns-clause-sound
returns-clause-sound c = rw (c.vacant.ensures.value, c.new.ensures.empty) (beginning_sound c.args.incarnation c.in_ok-subject.subject c.requires.number c.in_ok-subject.ensures)
