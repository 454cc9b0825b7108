use Rattle.desk_hold.proofs.holding.hold_on.Goals as goal

pub returns-clause-holds : goal.returns-clause-holds
returns-clause-holds g c = c.hold_event.ensures.holds

pub returns-clause-number : goal.returns-clause-number
returns-clause-number g c = c.hold_event.ensures.number
