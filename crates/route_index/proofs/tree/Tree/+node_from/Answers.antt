use Rattle.std.proofs.Common.{◌∙◌, ap, sym}
use Rattle.std.specs.Option.{option_copied}
use Rattle.subject_match.specs.Tokens.{tokens_left}
use Rattle.route_index.specs.Tree.{goes}
use Rattle.route_index.proofs.Ways.{goes_split}
use Rattle.route_index.proofs.tree.Tree.+node_from.Goals as goal

pub returns-in_default : goal.returns-in_default
returns-in_default t c = record { node = ap (λ l. goes c.args.self.now.branches c.args.node (tokens_left l)) (sym (ap option_copied c.in_default.is)) }

pub returns : goal.returns
returns t c = record {
  node = c.node_from.ensures.node
      ∙ goes_split c.args.self.now.branches c.args.node (option_copied c.args.left) c.in-Some.text.now c.split_token.result.0.now (tokens_left (option_copied c.split_token.result.1)) c.step.result
      (ap option_copied c.in-Some.is) c.split_token.ensures.tokens c.step.ensures.node;
}
