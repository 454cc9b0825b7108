use Rattle.std.proofs.Common.{Some, subst}
use Rattle.js_base.specs.Bytes.{Bytes}
use Rattle.dedup_window.specs.declared.known.KnownIds.{KnownIds}
use Rattle.dedup_window.specs.Known.{Sets}
use Rattle.dedup_window.proofs.Keys.{sets_here}
use Rattle.dedup_window.proofs.known.KnownIds.put.Goals as goal

pub returns-clause-ok : goal.returns-clause-ok
returns-clause-ok c =
    let new : KnownIds = record { alloc = c.args.self.now.alloc; ids = c.insert.new.self } in
    let P : Bytes → Type 0 = λ here. Sets c.args.self.now new here (Some c.args.added) in
    subst P c.in_ok-key.ensures.items (sets_here c.args.self.now new c.in_ok-key.key.items (Some c.args.added) c.in_ok-insert.ensures.updates)
