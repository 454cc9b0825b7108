use Rattle.subject_match.proofs.Dots.{tokens_by_dot, tokens_without_dot}
use Rattle.route_index.proofs.Pieces.{by_dot, token_ends}
use Rattle.std.proofs.Common.{[]}
use Rattle.route_index.proofs.beneath.cut_token.Goals as goal

pub returns-in-Some-clause-piece : goal.returns-in-Some-clause-piece
returns-in-Some-clause-piece c = (_, tokens_by_dot c.args.text.now c.in-Some.at c.in-Some.ensures.value)

pub returns-in-Some-clause-ends : goal.returns-in-Some-clause-ends
returns-in-Some-clause-ends c = by_dot c.args.text.now c.in-Some.at c.in-Some.ensures.value

pub returns-in-None-clause-piece : goal.returns-in-None-clause-piece
returns-in-None-clause-piece c = ([], tokens_without_dot c.args.text.now c.in-None.ensures.value)

pub returns-in-None-clause-ends : goal.returns-in-None-clause-ends
returns-in-None-clause-ends c = token_ends c.args.text.now (tokens_without_dot c.args.text.now c.in-None.ensures.value)
