use Rattle.std.proofs.Common.{◌∙◌, ap}
use Rattle.std.specs.List.{list_any}
use Rattle.std.specs.Option.{option_copied}
use Rattle.subject_match.specs.Tokens.{tokens_left}
use Rattle.route_index.proofs.Finds.{any_nowhere, found_here, any_by_rest, any_by_star, any_by_token}
use Rattle.route_index.proofs.tree.Tree.+any.Goals as goal

pub returns-in_default : goal.returns-in_default
returns-in_default g t c = record { value = any_nowhere c.args.self.now c.args.node (tokens_left (option_copied c.args.left)) (g.T.Test.passes c.args.test.now) c.in_default.is }

pub returns-in_default-left : goal.returns-in_default-left
returns-in_default-left g t c = record {
  value = c.any_at.ensures.value
      ∙ ap (list_any (g.T.Test.passes c.args.test.now)) (found_here c.args.self.now c.args.node (option_copied c.args.left) c.in-Some.node c.in-Some.is (ap option_copied c.in_default-left.is));
}

pub returns-then-any : goal.returns-then-any
returns-then-any g t c = record {
  value = any_by_rest c.args.self.now c.args.node (option_copied c.args.left) c.in-Some.node c.in-Some-left.text.now c.split_token.result.0.now (tokens_left (option_copied c.split_token.result.1)) c.in-Some.is
      (ap option_copied c.in-Some-left.is) c.split_token.ensures.tokens (g.T.Test.passes c.args.test.now) c.step.result c.step.ensures.node c.if-any.ensures.value;
}

pub returns-then-any-2 : goal.returns-then-any-2
returns-then-any-2 g t c = record {
  value = any_by_star c.args.self.now c.args.node (option_copied c.args.left) c.in-Some.node c.in-Some-left.text.now c.split_token.result.0.now (tokens_left (option_copied c.split_token.result.1)) c.in-Some.is
      (ap option_copied c.in-Some-left.is) c.split_token.ensures.tokens (g.T.Test.passes c.args.test.now) c.step.result c.step-2.result c.step.ensures.node c.step-2.ensures.node c.if-any.ensures.value
      c.if-any-2.ensures.value;
}

pub returns : goal.returns
returns g t c = record {
  value = any_by_token c.args.self.now c.args.node (option_copied c.args.left) c.in-Some.node c.in-Some-left.text.now c.split_token.result.0.now (tokens_left (option_copied c.split_token.result.1)) c.in-Some.is
      (ap option_copied c.in-Some-left.is) c.split_token.ensures.tokens (g.T.Test.passes c.args.test.now) c.step.result c.step-2.result c.step.ensures.node c.step-2.ensures.node c.if-any.ensures.value
      c.step-3.result c.any-3.result c.step-3.ensures.node c.if-any-2.ensures.value c.any-3.ensures.value;
}
