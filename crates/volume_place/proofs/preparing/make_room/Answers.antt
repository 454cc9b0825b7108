use Rattle.std.proofs.Common.{subst}
use Rattle.stream_store.specs.Base.{LeavesBase}
use Rattle.stream_store.specs.StoreState.{StoreState}
use Rattle.volume_place.proofs.Prepared.{leaves_more}
use Rattle.volume_place.proofs.preparing.make_room.Goals as goal

pub returns-in_err-reach-clause-any_moment : goal.returns-in_err-reach-clause-any_moment
returns-in_err-reach-clause-any_moment g c = λ told.
    let old = g.V.Vol.disk c.args.vol.now in
    let half = g.V.Vol.disk c.reserve.new.vol in
    let new = g.V.Vol.disk c.reach.new.vol in
    leaves_more c.args.store.now c.reserve.new.self old half new (c.requires.base told).0 (c.requires.base told).1 (c.in_ok-reserve.ensures.room told) (c.reserve.ensures.any_moment told)
    (subst (λ (s : StoreState). LeavesBase s half new) c.spot_of.ensures.same (c.reach.ensures.any_moment told))

pub returns-clause-any_moment : goal.returns-clause-any_moment
returns-clause-any_moment g c = λ told.
    let old = g.V.Vol.disk c.args.vol.now in
    let half = g.V.Vol.disk c.reserve.new.vol in
    let new = g.V.Vol.disk c.reach.new.vol in
    leaves_more c.args.store.now c.reserve.new.self old half new (c.requires.base told).0 (c.requires.base told).1 (c.in_ok-reserve.ensures.room told) (c.reserve.ensures.any_moment told)
    (subst (λ (s : StoreState). LeavesBase s half new) c.spot_of.ensures.same (c.reach.ensures.any_moment told))
