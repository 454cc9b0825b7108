use Rattle.std.proofs.Common.{◌∙◌, ◌++◌, ap, Some}
use Rattle.js_base.specs.Bytes.{has}
use Rattle.js_base.specs.Subjects.{tokens}
use Rattle.route_index.specs.declared.seek.Seek.TheVariants.{Matching}
use Rattle.route_index.specs.Subs.{matching_ids}
use Rattle.route_index.specs.Tree.{found_at}
use Rattle.route_index.proofs.Finds.{found_matching}
use Rattle.route_index.proofs.Listing.{sought_rise}
use Rattle.route_index.proofs.route_tree.RouteTree.unordered.Goals as goal

pub returns : goal.returns
returns c =
    let found = c.in_ok-search.ensures.found ∙ ap (λ ids. ids ++ found_at c.self.inside.tree (Some 0) (tokens c.args.subject.now)) c.new-found.ensures.items in
    record {
      ids = λ id. ap (λ ids. has ids id) found ∙ found_matching c.self.inside.patterns c.self.inside.tree c.self.invariant c.args.subject.now id
          ∙ ap (λ subs. has (matching_ids c.args.subject.now subs) id) c.self.view_is;
      rise = rw (← c.self.view_is) (sought_rise Matching c.args.subject.now c.self.inside.patterns.entries c.self.invariant.ordered);
    }
