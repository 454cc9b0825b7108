use Rattle.std.proofs.Common.{None, subst}
use Rattle.js_base.specs.Bytes.{Bytes}
use Rattle.catalog.specs.declared.names.Names.{Names}
use Rattle.catalog.specs.Names.{Sets}
use Rattle.catalog.proofs.Keys.{sets_here}
use Rattle.catalog.proofs.names.Names.remove.Goals as goal

pub returns : goal.returns
returns c =
    let new : Names = record { alloc = c.args.self.now.alloc; places = c.remove.new.self } in
    let P : Bytes → Type 0 = λ here. Sets c.args.self.now new here None in
    record { gone = subst P c.as_slice.ensures.text (sets_here c.args.self.now new c.as_slice.result.now None c.remove.ensures.updates) }
