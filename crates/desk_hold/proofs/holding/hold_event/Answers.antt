use Rattle.std.proofs.Common.{refl}
use Rattle.desk_hold.proofs.Asked.{none_keeps}
use Rattle.desk_hold.proofs.Beginnings.{outlasts_nothing}
use Rattle.desk_hold.proofs.Held.{as_told, held_nothing, held_absent}
use Rattle.desk_hold.proofs.holding.hold_event.Goals as goal

pub returns-in-Err-clause-holds : goal.returns-in-Err-clause-holds
returns-in-Err-clause-holds g c = λ seat.
    let P = g.P.Place in let R = g.R.Port in let old = P.seen c.args.place.now in
    as_told R.routes R.worn P.holds P.room_causes.outgrows_log c.args.at seat c.args.event.now.what c.args.now _ _ _ _ _ _ c.shortly.ensures.value
    (held_nothing R.routes R.worn P.holds P.room_causes.outgrows_log c.args.at seat c.args.event.now.what c.args.now old old c.args.port.now c.args.port.now refl refl
    (outlasts_nothing P.holds old c.law_kept.ensures.kept))

pub returns-then-at-gt-INCARNATIONS_END-clause-holds :
    goal.returns-then-at-gt-INCARNATIONS_END-clause-holds
returns-then-at-gt-INCARNATIONS_END-clause-holds g c = λ seat.
    let P = g.P.Place in let R = g.R.Port in let old = P.seen c.args.place.now in
    as_told R.routes R.worn P.holds P.room_causes.outgrows_log c.args.at seat c.args.event.now.what c.args.now _ _ _ _ _ _ c.absent.ensures.value
    (held_absent R.routes R.worn P.holds P.room_causes.outgrows_log c.args.at seat c.args.event.now.what c.args.now old old c.args.port.now c.args.port.now refl refl
    (outlasts_nothing P.holds old c.law_kept.ensures.kept) _ c.in-Ok.ensures.name
    (none_keeps _ _ c.absent.ensures.kept c.if-at-gt-INCARNATIONS_END.true))
