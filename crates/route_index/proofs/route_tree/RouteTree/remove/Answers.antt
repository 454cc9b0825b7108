use Rattle.std.proofs.Common.{◌≡◌, ◌∙◌, ℕ, ap, map, subst}
use Rattle.std.specs.Option.{is_some}
use Rattle.js_base.specs.Bytes.{Bytes}
use Rattle.js_base.specs.Subjects.{tokens}
use Rattle.route_index.specs.declared.tree.Tree.{Tree}
use Rattle.route_index.specs.Subs.{is_there, without}
use Rattle.route_index.specs.Ids.{sub_of}
use Rattle.route_index.specs.Tree.{DropsFromTree}
use Rattle.route_index.proofs.Listing.{there_is, remove_is}
use Rattle.route_index.proofs.Showing.{shows_removed}
use Rattle.route_index.proofs.route_tree.RouteTree.remove.Goals as goal

drops_here : (old new : Tree) (text pattern : Bytes) (id : ℕ) → text ≡ pattern → DropsFromTree old new (tokens text) id → DropsFromTree old new (tokens pattern) id
drops_here old new text pattern id e h = let P : Bytes → Type 0 = λ t. DropsFromTree old new (tokens t) id in subst P e h

pub remove_id-requires : goal.remove_id-requires
remove_id-requires c = record { tree = c.self.invariant.is_tree }

pub invariant_of-self : goal.invariant_of-self
invariant_of-self c =
    shows_removed c.self.inside.patterns c.remove.new.self c.self.inside.tree c.remove_id.new.self c.args.id c.in-Some.text c.self.invariant c.in-Some.ensures.value c.remove.ensures.ordered c.remove.ensures.updates.0
    (drops_here c.self.inside.tree c.remove_id.new.self c.as_slice.result.now c.in-Some.text c.args.id c.as_slice.ensures.value c.remove_id.ensures.dropped)

pub returns-in-Some-clause-there : goal.returns-in-Some-clause-there
returns-in-Some-clause-there c = ap is_some c.in-Some.ensures.value ∙ there_is c.args.id c.self.inside.patterns.entries ∙ ap (is_there c.args.id) c.self.view_is

pub returns-in-Some-clause-left : goal.returns-in-Some-clause-left
returns-in-Some-clause-left c =
    ap (map sub_of) c.remove.ensures.entries ∙ remove_is c.args.id c.self.inside.patterns.entries c.self.invariant.ordered ∙ ap (without c.args.id) c.self.view_is

pub returns-in-None-clause-there : goal.returns-in-None-clause-there
returns-in-None-clause-there c = ap is_some c.in-None.ensures.value ∙ there_is c.args.id c.self.inside.patterns.entries ∙ ap (is_there c.args.id) c.self.view_is

pub returns-in-None-clause-left : goal.returns-in-None-clause-left
returns-in-None-clause-left c =
    ap (map sub_of) c.remove.ensures.entries ∙ remove_is c.args.id c.self.inside.patterns.entries c.self.invariant.ordered ∙ ap (without c.args.id) c.self.view_is
