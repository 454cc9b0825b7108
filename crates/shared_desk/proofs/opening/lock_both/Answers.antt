use Rattle.std.proofs.Common.{◌+◌, arith}
use Rattle.histories.specs.Entries.{OfRouter}
use Rattle.shared_desk.proofs.Dealing.{dealt_all}
use Rattle.shared_desk.proofs.opening.lock_both.Goals as goal

pub undo-requires : goal.undo-requires
undo-requires c = record { all = dealt_all OfRouter (c.args.callers + c.args.places) c.in-Ok.router.lock c.in-Ok.router.seats.items (omega (arith, c.requires.callers)) c.in-Ok.ensures.dealt }
