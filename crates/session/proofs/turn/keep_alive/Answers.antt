use Rattle.std.proofs.Common.{refl}
use Rattle.session.proofs.Failed.{giving_fails}
use Rattle.session.proofs.turn.keep_alive.Goals as goal

pub returns-in-Err-clause-failings : goal.returns-in-Err-clause-failings
returns-in-Err-clause-failings g c = giving_fails c.in-Err.fault _ _ _ _ (λ none. refl) c.from.ensures c.in-Err.ensures.failings
