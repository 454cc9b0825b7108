use Rattle.std.proofs.Common.{None}
use Rattle.dedup_window.specs.declared.known.KnownIds.{KnownIds}
use Rattle.dedup_window.proofs.Keys.{sets_here}
use Rattle.dedup_window.proofs.known.KnownIds.remove.Goals as goal

pub returns : goal.returns
returns c =
    let new : KnownIds = record { alloc = c.args.self.now.alloc; ids = c.remove.new.self } in
    record { gone = sets_here c.args.self.now new c.args.id.now None c.remove.ensures.updates }
