use Rattle.std.proofs.Common.{◌∙◌, ap, Some}
use Rattle.std.specs.List.{list_any}
use Rattle.js_base.specs.Subjects.{tokens}
use Rattle.route_index.specs.Ids.{subs_of}
use Rattle.route_index.specs.Subs.{matching_ids}
use Rattle.route_index.specs.Tree.{found_at}
use Rattle.route_index.proofs.Finds.{found_matching, passes_alike}
use Rattle.route_index.proofs.route_tree.RouteTree.any_matching.Goals as goal

pub returns : goal.returns
returns g c =
    let patterns = c.self.inside.patterns in
    let tree = c.self.inside.tree in
    let subject = c.args.subject.now in
    let test = g.T.Test.passes c.args.test.now in
    record {
      value = c.any.ensures.value ∙ passes_alike test (found_at tree (Some 0) (tokens subject)) (matching_ids subject (subs_of patterns)) (found_matching patterns tree c.self.invariant subject)
          ∙ ap (λ subs. list_any test (matching_ids subject subs)) c.self.view_is;
    }
