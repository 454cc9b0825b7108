use Rattle.std.proofs.Common.{◌≡◌, subst}
use Rattle.vol_disk.specs.Disk.{Disk}
use Rattle.volume_place.specs.Contents.{Contents}
use Rattle.volume_place.specs.Sound.{IsSoundPlace}
use Rattle.volume_place.proofs.Kept.{kept_of, reads_of}
use Rattle.volume_place.proofs.volume_place.VolumePlacePlace.law_kept.Goals as goal

-- what holds of a place holds of it as it is seen
sound_as : {V : Type 0} (told : Type 0) (disk : V → Disk) (inside place : Contents V) → inside ≡ place
    → IsSoundPlace told (disk inside.vol) inside.store inside.waiting inside.stopped inside.state → IsSoundPlace told (disk place.vol) place.store place.waiting place.stopped place.state
sound_as {V} told disk inside place is = subst (λ (p : Contents V). IsSoundPlace told (disk p.vol) p.store p.waiting p.stopped p.state) is

pub returns-clause-kept : goal.returns-clause-kept
returns-clause-kept g c =
    kept_of g.V.Vol.told g.V.Vol.disk g.V.Vol.faults g.V.Vol.refusals c.args.self.now (g.met.V.Vol.clocked c.args.self.now.vol) (sound_as g.V.Vol.told g.V.Vol.disk _ _ c.self.view_is c.self.invariant.0)

pub returns-clause-reads : goal.returns-clause-reads
returns-clause-reads g c = reads_of g.V.Vol.told g.V.Vol.disk g.V.Vol.faults g.V.Vol.refusals c.args.self.now (sound_as g.V.Vol.told g.V.Vol.disk _ _ c.self.view_is c.self.invariant.0)
