use Rattle.std.proofs.Common.{◌∙◌, ap, map}
use Rattle.std.specs.Option.{is_some}
use Rattle.route_index.specs.Subs.{is_there, without}
use Rattle.route_index.specs.Ids.{sub_of}
use Rattle.route_index.proofs.Listing.{there_is, remove_is, mirrors_removed}
use Rattle.route_index.proofs.index.RouteIndex.remove.Goals as goal

pub invariant_of-self : goal.invariant_of-self
invariant_of-self c =
    mirrors_removed c.self.inside.patterns c.remove.new.self c.self.inside.ids c.remove_id.new.ids c.args.id c.in-Some.text c.self.invariant c.in-Some.ensures.value c.remove.ensures.ordered c.remove.ensures.updates.0
    c.remove_id.ensures.dropped

pub returns-in-Some-clause-there : goal.returns-in-Some-clause-there
returns-in-Some-clause-there c = ap is_some c.in-Some.ensures.value ∙ there_is c.args.id c.self.inside.patterns.entries ∙ ap (is_there c.args.id) c.self.view_is

pub returns-in-Some-clause-left : goal.returns-in-Some-clause-left
returns-in-Some-clause-left c =
    ap (map sub_of) c.remove.ensures.entries ∙ remove_is c.args.id c.self.inside.patterns.entries c.self.invariant.ordered ∙ ap (without c.args.id) c.self.view_is

pub returns-in-None-clause-there : goal.returns-in-None-clause-there
returns-in-None-clause-there c = ap is_some c.in-None.ensures.value ∙ there_is c.args.id c.self.inside.patterns.entries ∙ ap (is_there c.args.id) c.self.view_is

pub returns-in-None-clause-left : goal.returns-in-None-clause-left
returns-in-None-clause-left c =
    ap (map sub_of) c.remove.ensures.entries ∙ remove_is c.args.id c.self.inside.patterns.entries c.self.invariant.ordered ∙ ap (without c.args.id) c.self.view_is
