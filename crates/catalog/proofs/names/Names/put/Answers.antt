use Rattle.std.proofs.Common.{◌∙◌, Some, subst}
use Rattle.js_base.specs.Bytes.{Bytes}
use Rattle.catalog.specs.declared.names.Names.{Names}
use Rattle.catalog.specs.Names.{Sets}
use Rattle.catalog.proofs.Keys.{sets_here}
use Rattle.catalog.proofs.names.Names.put.Goals as goal

pub returns-clause-ok : goal.returns-clause-ok
returns-clause-ok c =
    let new : Names = record { alloc = c.args.self.now.alloc; places = c.insert.new.self } in
    let P : Bytes → Type 0 = λ here. Sets c.args.self.now new here (Some c.args.place) in
    subst P (c.in_ok-key.ensures.items ∙ c.as_slice.ensures.text) (sets_here c.args.self.now new c.in_ok-key.key.items (Some c.args.place) c.in_ok-insert.ensures.updates)
