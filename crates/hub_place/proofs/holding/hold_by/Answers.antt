use Rattle.hub_place.proofs.Made.{noted}
use Rattle.hub_place.proofs.holding.hold_by.Goals as goal

pub of-port-requires : goal.of-port-requires
of-port-requires g c = record { own = c.requires.own }

pub hold_on-outcome-requires : goal.hold_on-outcome-requires
hold_on-outcome-requires g c = record { asked = c.requires.asked }

pub some-entries-requires : goal.some-entries-requires
some-entries-requires g c =
    let P = g.P.Place in
    let number = c.args.number.now.value in
    record {
      some = rw (c.of-asked.ensures, c.of-before.ensures)
          (noted P.holds P.room_causes.outgrows_log c.args.at number c.args.what c.args.now c.hold_on-outcome.result (P.seen c.args.hub.place) (P.seen c.hold_on-outcome.new.place) c.args.hub.port c.of-port.result c.hold_on-outcome.new.port c.into_seat.result
          c.of-port.ensures.seat c.into_seat.ensures.seat (c.hold_on-outcome.ensures.holds number));
    }

pub returns-clause-made : goal.returns-clause-made
returns-clause-made g c = rw (c.of-asked.ensures, c.of-before.ensures) at c.some-entries.ensures.fits

pub returns-clause-kept : goal.returns-clause-kept
returns-clause-kept g c = c.law_kept.ensures.kept

pub returns-clause-vol : goal.returns-clause-vol
returns-clause-vol g c = c.hold_on-outcome.ensures.vol

pub returns-clause-shown : goal.returns-clause-shown
returns-clause-shown g c = c.hold_on-outcome.ensures.shown

pub returns-clause-explained : goal.returns-clause-explained
returns-clause-explained g c = c.hold_on-outcome.ensures.explained

pub returns-clause-number : goal.returns-clause-number
returns-clause-number g c = c.hold_on-outcome.ensures.number
