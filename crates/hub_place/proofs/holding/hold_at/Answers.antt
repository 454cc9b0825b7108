use Rattle.std.proofs.Common.{ap, refl, ◌∙◌}
use Rattle.desk_hold.proofs.Asked.{number_undone}
use Rattle.hub_fronts.proofs.Names.{run_sends}
use Rattle.hub_place.specs.Holds.{unmade}
use Rattle.hub_place.proofs.Made.{by_seat, made_in_turn, port_of, stands_behind, unmade_so}
use Rattle.hub_place.proofs.holding.hold_at.Goals as goal

pub enter-requires : goal.enter-requires
enter-requires g c = record { own = c.requires.own }

pub hold_by-outcome-requires-clause-own : goal.hold_by-outcome-requires-clause-own
hold_by-outcome-requires-clause-own g c =
    let P = g.P.Place in let hub = c.in-Ok.field-0.value in let comes = c.in-Ok.ensures.comes in
    port_of P.holds P.left P.clock P.base P.keeps_vol c.args.seat c.in-Ok.field-0.seat hub.port (P.seen hub.place).place (P.vol hub.place) c.args.router.now.lock comes.opening c.requires.port comes.stands_for

pub hold_by-outcome-requires-clause-asked : goal.hold_by-outcome-requires-clause-asked
hold_by-outcome-requires-clause-asked g c = c.requires.asked

pub leave-requires-clause-own : goal.leave-requires-clause-own
leave-requires-clause-own g c = c.in-Ok.ensures.comes.lock ∙ c.requires.own

pub leave-requires-clause-by : goal.leave-requires-clause-by
leave-requires-clause-by g c =
    let P = g.P.Place in let met = g.met.P.Place in let hub = c.in-Ok.field-0.value in let after = c.hold_by-outcome.result.1 in let h = c.hold_by-outcome.ensures in
    by_seat P.seen P.vol P.holds P.reads P.left P.clock P.faults P.room_causes P.base P.keeps_vol met.bases met.leaves met.stands met.keeps_more hub.place after.place h.kept c.args.at c.in-Ok.field-0.seat hub.port after.port
    c.args.what c.args.now c.hold_by-outcome.result.0 c.hold_by-outcome.result.2.value c.number-number.result.value c.in-Ok.ensures.comes.stands_for c.number-number.ensures.own c.number-number.ensures.value h.made h.vol run_sends

pub leave-requires-clause-stands : goal.leave-requires-clause-stands
leave-requires-clause-stands g c =
    let P = g.P.Place in let met = g.met.P.Place in let hub = c.in-Ok.field-0.value in let after = c.hold_by-outcome.result.1 in let h = c.hold_by-outcome.ensures in
    stands_behind P.seen P.vol P.holds P.reads P.left P.clock P.faults P.room_causes P.base P.keeps_vol met.bases met.leaves met.stands met.keeps_more hub.place after.place h.kept c.args.at c.in-Ok.field-0.seat hub.port after.port
    c.args.what c.args.now c.hold_by-outcome.result.0 c.hold_by-outcome.result.2.value c.number-number.result.value c.in-Ok.ensures.comes.stands_for c.number-number.ensures.own c.number-number.ensures.value h.made h.vol run_sends

pub returns-in-Ok-clause-made : goal.returns-in-Ok-clause-made
returns-in-Ok-clause-made g c =
    let P = g.P.Place in let met = g.met.P.Place in let hub = c.in-Ok.field-0.value in let after = c.hold_by-outcome.result.1 in let h = c.hold_by-outcome.ensures in
    made_in_turn P.seen P.vol P.holds P.reads P.left P.clock P.faults P.room_causes P.base P.keeps_vol met.bases met.leaves met.stands met.keeps_more hub.place after.place h.kept c.args.at c.in-Ok.field-0.seat hub.port after.port
    c.args.what c.args.now c.hold_by-outcome.result.0 c.hold_by-outcome.result.2.value c.number-number.result.value c.in-Ok.ensures.comes.stands_for c.number-number.ensures.own c.number-number.ensures.value h.made h.vol run_sends
    _ hub c.args.seat c.leave.result c.in-Ok.ensures.comes c.leave.ensures.added

pub returns-in-Ok-clause-shown : goal.returns-in-Ok-clause-shown
returns-in-Ok-clause-shown g c = c.hold_by-outcome.ensures.shown

pub returns-in-Ok-clause-explained : goal.returns-in-Ok-clause-explained
returns-in-Ok-clause-explained g c = c.hold_by-outcome.ensures.explained

pub returns-in-Ok-clause-number : goal.returns-in-Ok-clause-number
returns-in-Ok-clause-number g c = c.hold_by-outcome.ensures.number

pub returns-in-Err-clause-made : goal.returns-in-Err-clause-made
returns-in-Err-clause-made g c = unmade_so c.args.at c.args.what c.args.now c.unmade.result c.args.seat _ (c.unmade.ensures.value ∙ ap unmade c.ticket_of.ensures.value) c.in-Err.ensures.worn.1

pub returns-in-Err-clause-shown : goal.returns-in-Err-clause-shown
returns-in-Err-clause-shown g c = rw c.unmade.ensures.value tt

pub returns-in-Err-clause-explained : goal.returns-in-Err-clause-explained
returns-in-Err-clause-explained g c = rw c.unmade.ensures.value tt

pub returns-in-Err-clause-number : goal.returns-in-Err-clause-number
returns-in-Err-clause-number g c = rw c.unmade.ensures.value (number_undone c.args.what (unmade c.ticket_of.result).became c.args.at refl)
