use Rattle.std.proofs.Common.{◌∙◌, ◌++◌, ap}
use Rattle.std.specs.Option.{option_copied}
use Rattle.subject_match.specs.Tokens.{tokens_left}
use Rattle.route_index.proofs.Finds.{found_nowhere, found_here, found_by_all}
use Rattle.route_index.proofs.Under.{on_ok}
use Rattle.route_index.proofs.tree.Tree.+search.Goals as goal

pub returns-in_default : goal.returns-in_default
returns-in_default t c = record { found = found_nowhere c.args.self.now c.args.node (tokens_left (option_copied c.args.left)) c.args.found.now.items c.in_default.is }

pub returns-in_default-left : goal.returns-in_default-left
returns-in_default-left t c = record {
  found = on_ok c.push_at.result
      (λ found. found ∙ ap (λ ids. c.args.found.now.items ++ ids) (found_here c.args.self.now c.args.node (option_copied c.args.left) c.in-Some.node c.in-Some.is (ap option_copied c.in_default-left.is)))
      c.push_at.ensures.ok;
}

pub returns : goal.returns
returns t c = record {
  found = on_ok c.search-3.result
      (λ found. found_by_all c.args.self.now c.args.node (option_copied c.args.left) c.in-Some.node c.in-Some-left.text.now c.split_token.result.0.now (tokens_left (option_copied c.split_token.result.1)) c.in-Some.is
      (ap option_copied c.in-Some-left.is) c.split_token.ensures.tokens c.step.result c.step-2.result c.step-3.result c.step.ensures.node c.step-2.ensures.node c.step-3.ensures.node
      c.args.found.now.items c.search.new.found.items c.search-2.new.found.items c.search-3.new.found.items c.in_ok-search.ensures.found c.in_ok-search-2.ensures.found found)
      c.search-3.ensures.found;
}
