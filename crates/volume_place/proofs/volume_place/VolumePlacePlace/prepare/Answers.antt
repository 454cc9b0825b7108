use Rattle.std.proofs.Common.{◌≡◌, ◌≢◌, Result, Ok, Err, sym, subst}
use Rattle.js_model.specs.declared.event.What.{What}
use Rattle.snapshot_bound.specs.Asking.{event_growth}
use Rattle.stream_store.specs.declared.fault.RoomFault.{RoomFault}
use Rattle.place_engine.specs.Preparing.{Prepares}
use Rattle.place_engine.specs.declared.faults.Left.TheVariants.{Nothing}
use Rattle.place_engine.specs.declared.faults.PlaceFault.{PlaceFault}
use Rattle.place_engine.specs.declared.faults.PlaceFault.TheVariants.{NoMemory as OutOfMemory, StoreFault}
use Rattle.volume_place.specs.Contents.{Contents}
use Rattle.volume_place.specs.Growing.{IsGrowth}
use Rattle.volume_place.specs.Images.{holds}
use Rattle.volume_place.specs.Preparing.{MakesRoom}
use Rattle.volume_place.specs.Seeing.{outgrows_log, seen_of}
use Rattle.volume_place.specs.declared.asking.Growth.{Growth}
use Rattle.volume_place.proofs.Prepared.{prepares_failed, prepares_made, prepares_unmade, raised_some, whole_is}
use Rattle.volume_place.proofs.volume_place.VolumePlacePlace.prepare.Goals as goal
use Rattle.volume_place.proofs.volume_place.VolumePlacePlace.prepare.Goals.{in-Ok-make_room, in-Err-NoMemory, in-Err-Fault}

growth_as : {V : Type 0} (inside place : Contents V) → inside ≡ place → (what : What) (growth : Growth) → IsGrowth inside.state what growth → IsGrowth place.state what growth
growth_as {V} inside place is what growth = subst (λ (p : Contents V). IsGrowth p.state what growth) is

pub returns-clause-prepares : goal.returns-clause-prepares
returns-clause-prepares g c =
    let V = g.V.Vol in
    let a = c.args.self.now in
    let mid = c.bound_after.new.self in
    let n = c.make_room.new.self in
    let what = c.args.what.now in
    let growth = growth_as _ _ c.self.view_is what c.in-Ok.growth c.in-Ok.ensures.value in
    let whole = whole_is a.state what c.in-Ok.growth c.whole.result growth c.whole.ensures.value in
    let some : event_growth a.state what ≢ 0 = raised_some a.state what c.whole.result whole c.if-whole-eq0.false in
    elim c.match-make_room.branch [
      | in-Ok-make_room w ↦
          let result_is = w.result-is in
          let told : c.match-make_room.result ≡ Ok tt = cc in
          subst (λ (r : Result (Unit {0}) PlaceFault). Prepares holds outgrows_log r what (seen_of V.told V.disk V.faults V.refusals a) (seen_of V.told V.disk V.faults V.refusals n)) (sym told)
          (prepares_made V.told V.disk V.faults V.refusals a mid n c.bound_after.ensures.same what some c.make_room.ensures.time c.make_room.ensures.images w.in-Ok-make_room.ensures.makes)
      | in-Err-NoMemory w ↦
          let result_is = w.result-is in
          let told : c.match-make_room.result ≡ Err (OutOfMemory Nothing) = cc in
          let makes = subst (λ (f : RoomFault). MakesRoom (Err f) what (seen_of V.told V.disk V.faults V.refusals mid) (seen_of V.told V.disk V.faults V.refusals n)) w.in-Err-NoMemory.field-0-is
          w.in-Err-NoMemory.ensures.makes in
          subst (λ (r : Result (Unit {0}) PlaceFault). Prepares holds outgrows_log r what (seen_of V.told V.disk V.faults V.refusals a) (seen_of V.told V.disk V.faults V.refusals n)) (sym told)
          (prepares_unmade V.told V.disk V.faults V.refusals a mid n c.bound_after.ensures.same what some c.make_room.ensures.time c.make_room.ensures.images makes)
      | in-Err-Fault w ↦
          let result_is = w.result-is in
          let told : c.match-make_room.result ≡ Err StoreFault = cc in
          let makes = subst (λ (f : RoomFault). MakesRoom (Err f) what (seen_of V.told V.disk V.faults V.refusals mid) (seen_of V.told V.disk V.faults V.refusals n)) w.in-Err-Fault.field-0-is
          w.in-Err-Fault.ensures.makes in
          subst (λ (r : Result (Unit {0}) PlaceFault). Prepares holds outgrows_log r what (seen_of V.told V.disk V.faults V.refusals a) (seen_of V.told V.disk V.faults V.refusals n)) (sym told)
          (prepares_failed V.told V.disk V.faults V.refusals a mid n c.bound_after.ensures.same what some c.make_room.ensures.time c.make_room.ensures.images makes)
    ]
