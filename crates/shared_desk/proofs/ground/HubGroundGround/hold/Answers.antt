use Rattle.std.proofs.Common.{◌<◌, length, sym, subst}
use Rattle.hub_place.specs.Holds.{SendsTo}
use Rattle.turn_lock.specs.Seats.{LockView}
use Rattle.shared_desk.specs.Seats.{seats_in}
use Rattle.shared_desk.proofs.Grounded.{at_rest, at_row, is_ready, rest_is, with_held}
use Rattle.shared_desk.proofs.Held.{IsNext, beside_so, held_seat, held_so, phase_so}
use Rattle.shared_desk.proofs.ground.HubGroundGround.hold.Goals as goal

pub take_at-seat-requires-clause-within : goal.take_at-seat-requires-clause-within
take_at-seat-requires-clause-within g c =
    let i = c.self.inside in
    let within : c.args.at.place < length i.hub.now.places = rw (← c.self.view_is) at c.requires.within in
    at_row i.hub.now i.router i.catalog i.places.items i.last i.turn c.self.invariant c.args.at.place within

pub hold_at-outcome-requires-clause-own : goal.hold_at-outcome-requires-clause-own
hold_at-outcome-requires-clause-own g c =
    let i = c.self.inside in
    let ready = is_ready i.hub.now c.args.at.place c.place.result.now (seats_in i.places.items) c.take_at-seat.result c.self.invariant.is_hub c.self.invariant.places c.place.ensures.lock c.take_at-seat.ensures.seat in
    ready.own.lock

pub hold_at-outcome-requires-clause-port : goal.hold_at-outcome-requires-clause-port
hold_at-outcome-requires-clause-port g c =
    let i = c.self.inside in
    let ready = is_ready i.hub.now c.args.at.place c.place.result.now (seats_in i.places.items) c.take_at-seat.result c.self.invariant.is_hub c.self.invariant.places c.place.ensures.lock c.take_at-seat.ensures.seat in
    subst (λ (l : LockView). SendsTo c.take_at-seat.result.opening l.lock) (sym c.router.ensures.lock) ready.port

pub put_at-requires : goal.put_at-requires
put_at-requires g c =
    let i = c.self.inside in
    let within : c.args.at.place < length i.hub.now.places = rw (← c.self.view_is) at c.requires.within in
    record { within = at_rest i.hub.now i.router i.catalog i.places.items i.last i.turn c.self.invariant c.args.at.place c.take_at-seat.new.row.items c.take_at-seat.ensures.away within }

pub invariant_of-self : goal.invariant_of-self
invariant_of-self g c =
    let i = c.self.inside in
    let within : c.args.at.place < length i.hub.now.places = rw (← c.self.view_is) at c.requires.within in
    let ready = is_ready i.hub.now c.args.at.place c.place.result.now (seats_in i.places.items) c.take_at-seat.result c.self.invariant.is_hub c.self.invariant.places c.place.ensures.lock c.take_at-seat.ensures.seat in
    let row = c.put_at.ensures.back (seats_in i.places.items) (rest_is i.hub.now i.router i.catalog i.places.items i.last i.turn c.self.invariant c.args.at.place c.take_at-seat.new.row.items c.take_at-seat.ensures.away) in
    let next : IsNext c.args.what c.hold_at-outcome.result.0.became c.args.at.place i.turn c.after_hold-self-inside.result c.is_drop-asked.result c.is_dropped-dropped.result =
    record { asked_is = c.is_drop-asked.ensures.value; dropped_is = c.is_dropped-dropped.ensures.value; next_is = c.after_hold-self-inside.ensures.value }
    in
    let own = held_seat c.place.result.now c.args.at c.take_at-seat.result c.hold_at-outcome.ensures.made.entries c.hold_at-outcome.result.1 c.hold_at-outcome.ensures.made.led ready.own in
    rw c.last_of-self-inside.ensures.value
    (with_held i.hub.now i.router i.catalog i.places.items i.last i.turn c.self.invariant c.args.at c.hold_at-outcome.result.0.became c.place.result.now c.hold_at-outcome.result.1 c.put_at.new.row.items c.after_hold-self-inside.result within c.place.ensures.lock own row
    (beside_so c.args.what c.hold_at-outcome.result.0.became c.args.at i.turn c.after_hold-self-inside.result c.is_drop-asked.result c.is_dropped-dropped.result next i.hub.now.catalog i.catalog (rw (← c.self.view_is) at c.requires.turn) c.self.invariant.catalog))

pub returns-clause-made : goal.returns-clause-made
returns-clause-made g c =
    let i = c.self.inside in
    let row = c.put_at.ensures.back (seats_in i.places.items) (rest_is i.hub.now i.router i.catalog i.places.items i.last i.turn c.self.invariant c.args.at.place c.take_at-seat.new.row.items c.take_at-seat.ensures.away) in
    rw (← c.self.view_is)
    (held_so i.hub.now i.router i.catalog i.places.items c.put_at.new.row.items i.ticked i.last c.last_of-self-inside.result i.turn c.after_hold-self-inside.result c.args.at c.args.what c.args.now c.hold_at-outcome.result.0
    c.take_at-seat.result c.hold_at-outcome.result.1 c.take_at-seat.ensures.seat c.hold_at-outcome.ensures.made row c.last_of-self-inside.ensures.value)

pub returns-clause-phase : goal.returns-clause-phase
returns-clause-phase g c =
    let i = c.self.inside in
    let next : IsNext c.args.what c.hold_at-outcome.result.0.became c.args.at.place i.turn c.after_hold-self-inside.result c.is_drop-asked.result c.is_dropped-dropped.result =
    record { asked_is = c.is_drop-asked.ensures.value; dropped_is = c.is_dropped-dropped.ensures.value; next_is = c.after_hold-self-inside.ensures.value }
    in
    rw (← c.self.view_is) (phase_so c.args.what c.hold_at-outcome.result.0.became c.args.at i.turn c.after_hold-self-inside.result c.is_drop-asked.result c.is_dropped-dropped.result next)
