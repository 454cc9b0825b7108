use Rattle.desk_streams.proofs.Defaults.{may_make_default}
use Rattle.desk_streams.proofs.making.prepare.Goals as goal

pub returns-clause-asked : goal.returns-clause-asked
returns-clause-asked c = may_make_default _ c.args.name.now c.args.subject.now c.in_ok-default_config.ensures.config c.in_ok-default_config.ensures.name c.requires.subject
