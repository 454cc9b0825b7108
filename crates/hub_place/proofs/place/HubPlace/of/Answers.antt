use Rattle.hub_place.proofs.Made.{new_stands}
use Rattle.hub_place.proofs.place.HubPlace.of.Goals as goal

pub returns-clause-stands : goal.returns-clause-stands
returns-clause-stands g c =
    let P = g.P.Place in
    new_stands P.holds P.left P.clock P.base P.keeps_vol g.met.P.Place.earlier g.met.P.Place.keeps_none (P.seen c.args.place).place (P.vol c.args.place) c.args.port c.requires.opened c.requires.new
