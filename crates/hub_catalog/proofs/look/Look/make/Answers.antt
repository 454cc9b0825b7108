use Rattle.hub_catalog.proofs.Found.{find_within, named_within, next_within}
use Rattle.hub_catalog.proofs.look.Look.make.Goals as goal

pub returns-in-Find-clause-within : goal.returns-in-Find-clause-within
returns-in-Find-clause-within c = find_within c.args.catalog.now c.in-Find.subject.now c.find.result c.find.ensures.found

pub returns-in-ByName-clause-within : goal.returns-in-ByName-clause-within
returns-in-ByName-clause-within c = named_within c.args.catalog.now c.in-ByName.name.now c.by_name.result c.by_name.ensures.found

pub returns-in-NextUsed-clause-within : goal.returns-in-NextUsed-clause-within
returns-in-NextUsed-clause-within c = next_within c.args.catalog.now c.in-NextUsed.after c.next_used.result c.next_used.ensures.found
