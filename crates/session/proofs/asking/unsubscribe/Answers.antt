use Rattle.std.proofs.Common.{refl}
use Rattle.session.proofs.Asked.{asked_call, stopped_as, stopped_by, unsaid}
use Rattle.session.proofs.asking.unsubscribe.Goals as goal

pub returns-in_err-unsub-clause-asks : goal.returns-in_err-unsub-clause-asks
returns-in_err-unsub-clause-asks g c =
    stopped_by _ _ _ _ _ _ _ _ c.from_residual.result _ _ c.from_residual.ensures.1 refl c.in_err-unsub.ensures.made refl

pub returns-in_err-write_fine-clause-asks : goal.returns-in_err-write_fine-clause-asks
returns-in_err-write_fine-clause-asks g c =
    stopped_as _ _ _ _ _ _ _ _ c.from_residual-in_err-write_fine.result _ c.from_residual-in_err-write_fine.ensures.1
    (unsaid _ _ _ _ _ _ _ _ _ refl c.in_ok-unsub.ensures.made refl)

pub returns-clause-asks : goal.returns-clause-asks
returns-clause-asks g c = asked_call _ _ _ _ _ _ c.args.verbose _ _ tt c.in_ok-unsub.ensures.made c.in_ok-write_fine.ensures.ok
