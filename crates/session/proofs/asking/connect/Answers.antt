use Rattle.std.proofs.Common.{ap, refl}
use Rattle.session.specs.Peer.{connecting}
use Rattle.session.proofs.Asked.{asked_as, stopped_as, stopped_by, unread, unsaid}
use Rattle.session.proofs.asking.connect.Goals as goal

pub returns-in-Err-clause-asks : goal.returns-in-Err-clause-asks
returns-in-Err-clause-asks g c = unread _ _ c.in-Err.stop _ _ _ c.in-Err.ensures.reads (g.met.D.Desk.made_nothing c.args.desk.now)

pub returns-in_err-options-clause-asks : goal.returns-in_err-options-clause-asks
returns-in_err-options-clause-asks g c =
    stopped_by _ _ _ _ _ _ _ _ c.from_residual.result _ _ c.from_residual.ensures.1 (ap connecting c.in-Ok.ensures.reads)
    c.in_err-options.ensures.made refl

pub returns-in_err-write_fine-clause-asks : goal.returns-in_err-write_fine-clause-asks
returns-in_err-write_fine-clause-asks g c =
    stopped_as _ _ _ _ _ _ _ _ c.from_residual-in_err-write_fine.result _ c.from_residual-in_err-write_fine.ensures.1
    (unsaid _ _ _ _ _ _ _ _ _ (ap connecting c.in-Ok.ensures.reads) c.in_ok-options.ensures.made refl)

pub returns-clause-asks : goal.returns-clause-asks
returns-clause-asks g c =
    asked_as _ _ _ _ _ _ _ c.in-Ok.options.verbose _ _ (ap connecting c.in-Ok.ensures.reads) tt c.in_ok-options.ensures.made c.in_ok-write_fine.ensures.ok
