use Rattle.std.proofs.Common.{ap, ◌∙◌, is_none}
use Rattle.subject_match.proofs.Checks.{pattern_ok}
use Rattle.subject_match.proofs.check.check_pattern.Goals as goal

pub returns-in-None-clause-ok : goal.returns-in-None-clause-ok
returns-in-None-clause-ok c = ap is_none c.in-None.ensures.value ∙ pattern_ok c.args.bytes.now

pub returns-in-Some-clause-ok : goal.returns-in-Some-clause-ok
returns-in-Some-clause-ok c = ap is_none c.in-Some.ensures.value ∙ pattern_ok c.args.bytes.now
