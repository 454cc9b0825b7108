use Rattle.std.proofs.Common.{refl, inr}
use Rattle.catalog.proofs.Catalogs.{free_unused, checked_apart, refused_add, made_add}
use Rattle.catalog.proofs.catalog.Catalog.add.Goals as goal

pub put-requires-clause-within : goal.put-requires-clause-within
put-requires-clause-within c = c.in-Ok.ensures.within

pub put-requires-clause-free : goal.put-requires-clause-free
put-requires-clause-free c = free_unused c.args.self.now c.in-Ok.free c.in-Ok.ensures.checked.1

pub put-requires-clause-apart : goal.put-requires-clause-apart
put-requires-clause-apart c = checked_apart c.args.self.now c.args.name c.args.subjects.now c.in-Ok.free c.apart.ensures.apart c.in-Ok.ensures.checked c.in-Ok.ensures.within

pub returns-in-Ok-put-clause-added : goal.returns-in-Ok-put-clause-added
returns-in-Ok-put-clause-added c = made_add c.args.self.now c.put.new.self c.args.name c.args.subjects.now c.in-Ok.free c.in-Ok.ensures.checked c.in-Ok-put.ensures.ok

pub returns-in-Err-put-clause-added : goal.returns-in-Err-put-clause-added
returns-in-Err-put-clause-added c = inr (refl, c.in-Err-put.ensures.err, refl)

pub returns-in-Err-clause-added : goal.returns-in-Err-clause-added
returns-in-Err-clause-added c = refused_add c.args.self.now c.args.name c.args.subjects.now c.in-Err.fault c.in-Err.ensures.checked
