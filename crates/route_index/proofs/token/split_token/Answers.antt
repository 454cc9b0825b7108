use Rattle.subject_match.proofs.Dots.{tokens_by_dot, tokens_without_dot}
use Rattle.route_index.proofs.token.split_token.Goals as goal

pub returns-in-Some-clause-tokens : goal.returns-in-Some-clause-tokens
returns-in-Some-clause-tokens c = tokens_by_dot c.args.text.now c.in-Some.at c.in-Some.ensures.value

pub returns-in-None-clause-tokens : goal.returns-in-None-clause-tokens
returns-in-None-clause-tokens c = tokens_without_dot c.args.text.now c.in-None.ensures.value
