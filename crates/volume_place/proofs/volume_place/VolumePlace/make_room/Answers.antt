use Rattle.std.specs.Prelude.{◌≤◌, unwrap_or}
use Rattle.std.proofs.Common.{List, Some, Err, ap, refl, subst, sym, ◌∙◌}
use Rattle.std.proofs.Math.Nat.{le_refl}
use Rattle.effects.specs.declared.effect.Effect.{Effect}
use Rattle.block_table.specs.Blocks.{Blocks}
use Rattle.stream_store.specs.declared.fault.RoomFault.{RoomFault}
use Rattle.place_engine.specs.Following.{followed}
use Rattle.place_records.specs.Records.{effects_in}
use Rattle.volume_place.specs.Preparing.{KeepsUnlessFailed, LacksRoomFor}
use Rattle.volume_place.specs.Rooms.{HasBlocks}
use Rattle.volume_place.specs.declared.volume_place.VolumePlace.TheView.{view}
use Rattle.volume_place.proofs.Brought.{records_of}
use Rattle.volume_place.proofs.Dated.{dated_as}
use Rattle.volume_place.proofs.Moved.{joined}
use Rattle.volume_place.proofs.Prepared.{failed, failed_sound, has_base, kept_blocks, kept_but_room, lacks, made_sound, prepared, prepared_images, prepared_time, unprepared}
use Rattle.volume_place.proofs.Reserving.{failed_reserve, made_reserve}
use Rattle.volume_place.proofs.Storing.{has_blocks}
use Rattle.volume_place.proofs.volume_place.VolumePlace.make_room.Goals as goal

pub make_room-requires : goal.make_room-requires
make_room-requires g c =
    let V = g.V.Vol in
    let x = view _ V c.self.inside in
    let going = rw (← c.self.view_is) at c.requires.going in
    let same = joined c.take.new.self c.take.new.made x.waiting c.in_ok-take.ensures.ok c.in_ok-take.ensures.none in
    let behind = followed c.take.new.self (effects_in c.take.new.made) in
    let are = c.records-waiting.ensures.value ∙ c.in_ok-take.ensures.ok in
    record {
      records = records_of V.told V.disk V.faults V.refusals g.met.V.Vol.clocked x going c.self.invariant.0 c.records-waiting.result.now are;
      proper = c.requires.proper;
      base = has_base V.told V.disk V.faults V.refusals g.met.V.Vol.clocked x going c.self.invariant.0;
    }

pub invariant_of-self-in-Ok : goal.invariant_of-self-in-Ok
invariant_of-self-in-Ok g c =
    let V = g.V.Vol in
    let x = view _ V c.self.inside in
    let going = rw (← c.self.view_is) at c.requires.going in
    let same = joined c.take.new.self c.take.new.made x.waiting c.in_ok-take.ensures.ok c.in_ok-take.ensures.none in
    let behind = followed c.take.new.self (effects_in c.take.new.made) in (
      made_sound V.told V.disk V.faults V.refusals g.met.V.Vol.clocked x going c.self.invariant.0 c.make_room.new.vol c.make_room.ensures.later c.make_room.ensures.any_moment c.make_room.new.store c.in-Ok.ensures.keeps behind same,
      kept_blocks x.store.blocks c.make_room.new.store.blocks x.waiting behind x.stored x.stopped c.make_room.ensures.same.blocks same c.self.invariant.1,
      dated_as behind x.waiting x.since same c.self.invariant.2,
      made_reserve V.told V.disk x.vol x.store x.waiting x.stopped x.fixed x.state c.self.invariant.3 going c.make_room.new.vol c.make_room.new.store behind x.fixed same
          c.self.invariant.3.fixed_is (le_refl x.fixed) c.make_room.ensures.same.blocks c.make_room.ensures.more (λ told. (c.in-Ok.ensures.keeps told).longer),
    )

pub returns-in-Ok-clause-makes : goal.returns-in-Ok-clause-makes
returns-in-Ok-clause-makes g c =
    let V = g.V.Vol in
    let x = view _ V c.self.inside in
    let going = rw (← c.self.view_is) at c.requires.going in
    let same = joined c.take.new.self c.take.new.made x.waiting c.in_ok-take.ensures.ok c.in_ok-take.ensures.none in
    let behind = followed c.take.new.self (effects_in c.take.new.made) in
    let count = rw (← c.self.view_is) at c.requires.count in
    let exact = rw (← c.self.view_is) at c.requires.exact in
    let what = c.args.what.now in
    let are = c.records-waiting.ensures.value ∙ c.in_ok-take.ensures.ok in
    let blocks = subst (λ (b : Blocks). HasBlocks b x.waiting x.stored) (sym c.make_room.ensures.same.blocks) (has_blocks x.store.blocks x.waiting x.stored x.stopped going c.self.invariant.1) in
    let told_lack = subst (λ (l : List Effect). LacksRoomFor V.refusals c.make_room.new.store l what c.args.count x.vol c.make_room.new.vol) are c.in-Ok.ensures.lacks in
    rw (← c.self.view_is)
    (prepared V.told V.disk V.faults V.refusals g.met.V.Vol.clocked x going c.self.invariant.0 c.make_room.new.vol c.make_room.ensures.later c.make_room.ensures.any_moment c.make_room.new.store c.in-Ok.ensures.keeps behind x.fixed what same
    (lacks V.refusals c.make_room.new.store x.waiting x.stored x.fixed x.state what x.vol c.make_room.new.vol blocks c.args.count count exact told_lack))

pub invariant_of-self-in-Err-NoMemory : goal.invariant_of-self-in-Err-NoMemory
invariant_of-self-in-Err-NoMemory g c =
    let V = g.V.Vol in
    let x = view _ V c.self.inside in
    let going = rw (← c.self.view_is) at c.requires.going in
    let same = joined c.take.new.self c.take.new.made x.waiting c.in_ok-take.ensures.ok c.in_ok-take.ensures.none in
    let behind = followed c.take.new.self (effects_in c.take.new.made) in (
      made_sound V.told V.disk V.faults V.refusals g.met.V.Vol.clocked x going c.self.invariant.0 c.make_room.new.vol c.make_room.ensures.later c.make_room.ensures.any_moment c.make_room.new.store (λ told. subst (λ (f : RoomFault). KeepsUnlessFailed (Err f) x.store c.make_room.new.store (V.disk x.vol) (V.disk c.make_room.new.vol)) c.in-Err-NoMemory.field-0-is (c.in-Err-NoMemory.ensures.keeps told)) behind same,
      kept_blocks x.store.blocks c.make_room.new.store.blocks x.waiting behind x.stored x.stopped c.make_room.ensures.same.blocks same c.self.invariant.1,
      dated_as behind x.waiting x.since same c.self.invariant.2,
      made_reserve V.told V.disk x.vol x.store x.waiting x.stopped x.fixed x.state c.self.invariant.3 going c.make_room.new.vol c.make_room.new.store behind x.fixed same
          c.self.invariant.3.fixed_is (le_refl x.fixed) c.make_room.ensures.same.blocks c.make_room.ensures.more (λ told. (subst (λ (f : RoomFault). KeepsUnlessFailed (Err f) x.store c.make_room.new.store (V.disk x.vol) (V.disk c.make_room.new.vol)) c.in-Err-NoMemory.field-0-is (c.in-Err-NoMemory.ensures.keeps told)).longer),
    )

pub returns-in-Err-NoMemory-clause-makes : goal.returns-in-Err-NoMemory-clause-makes
returns-in-Err-NoMemory-clause-makes g c =
    let V = g.V.Vol in
    let x = view _ V c.self.inside in
    let going = rw (← c.self.view_is) at c.requires.going in
    let same = joined c.take.new.self c.take.new.made x.waiting c.in_ok-take.ensures.ok c.in_ok-take.ensures.none in
    let behind = followed c.take.new.self (effects_in c.take.new.made) in
    rw (← c.self.view_is)
    (unprepared V.told V.disk V.faults V.refusals g.met.V.Vol.clocked x going c.self.invariant.0 c.make_room.new.vol c.make_room.ensures.later c.make_room.ensures.any_moment c.make_room.new.store
    (λ told. subst (λ (f : RoomFault). KeepsUnlessFailed (Err f) x.store c.make_room.new.store (V.disk x.vol) (V.disk c.make_room.new.vol)) c.in-Err-NoMemory.field-0-is (c.in-Err-NoMemory.ensures.keeps told)) behind x.fixed same)

pub invariant_of-self-in-Err-Fault : goal.invariant_of-self-in-Err-Fault
invariant_of-self-in-Err-Fault g c =
    let V = g.V.Vol in
    let x = view _ V c.self.inside in
    let going = rw (← c.self.view_is) at c.requires.going in
    let same = joined c.take.new.self c.take.new.made x.waiting c.in_ok-take.ensures.ok c.in_ok-take.ensures.none in
    let behind = followed c.take.new.self (effects_in c.take.new.made) in (
      failed_sound V.told V.disk V.faults V.refusals g.met.V.Vol.clocked x going c.self.invariant.0 c.make_room.new.vol c.make_room.ensures.later c.make_room.ensures.any_moment c.make_room.new.store behind c.faults.result same,
      tt,
      dated_as behind x.waiting x.since same c.self.invariant.2,
      failed_reserve V.told V.disk x.vol x.store x.waiting x.stopped x.fixed x.state c.self.invariant.3 c.make_room.new.vol c.make_room.new.store behind c.faults.result x.fixed
          c.self.invariant.3.fixed_is (le_refl x.fixed),
    )

pub returns-in-Err-Fault-clause-makes : goal.returns-in-Err-Fault-clause-makes
returns-in-Err-Fault-clause-makes g c =
    let V = g.V.Vol in
    let x = view _ V c.self.inside in
    let going = rw (← c.self.view_is) at c.requires.going in
    let same = joined c.take.new.self c.take.new.made x.waiting c.in_ok-take.ensures.ok c.in_ok-take.ensures.none in
    let behind = followed c.take.new.self (effects_in c.take.new.made) in
    rw (← c.self.view_is)
    (failed V.told V.disk V.faults V.refusals g.met.V.Vol.clocked x going c.self.invariant.0 c.make_room.new.vol c.make_room.ensures.later c.make_room.ensures.any_moment c.make_room.new.store behind c.faults.result x.fixed same c.faults.ensures.value
    (c.in-Err-Fault.ensures.cause.failed (ap (λ (f : RoomFault). Err f) c.in-Err-Fault.field-0-is)))

pub returns-in-Ok-clause-same : goal.returns-in-Ok-clause-same
returns-in-Ok-clause-same g c =
    let V = g.V.Vol in
    let x = view _ V c.self.inside in
    let going = rw (← c.self.view_is) at c.requires.going in
    let same = joined c.take.new.self c.take.new.made x.waiting c.in_ok-take.ensures.ok c.in_ok-take.ensures.none in
    let behind = followed c.take.new.self (effects_in c.take.new.made) in
    rw (← c.self.view_is) (kept_but_room x c.make_room.new.store c.make_room.new.vol behind x.stopped x.fixed same c.make_room.ensures.same)

pub returns-in-Ok-clause-time : goal.returns-in-Ok-clause-time
returns-in-Ok-clause-time g c =
    let V = g.V.Vol in
    let x = view _ V c.self.inside in
    let going = rw (← c.self.view_is) at c.requires.going in
    let same = joined c.take.new.self c.take.new.made x.waiting c.in_ok-take.ensures.ok c.in_ok-take.ensures.none in
    let behind = followed c.take.new.self (effects_in c.take.new.made) in
    let generations : unwrap_or x.store.log.head 0 ≤ unwrap_or c.make_room.new.store.log.head 0 = rw c.make_room.ensures.same.log (le_refl (unwrap_or x.store.log.head 0)) in
    rw (← c.self.view_is)
    (prepared_time V.told V.disk V.faults V.refusals g.met.V.Vol.clocked x going c.self.invariant.0 c.make_room.new.vol c.make_room.ensures.later c.make_room.ensures.any_moment
    (view _ V (record c.self.inside { store = c.make_room.new.store; vol = c.make_room.new.vol; tail = c.take.new.self; made = c.take.new.made })) refl generations
    c.make_room.ensures.cause.later c.make_room.ensures.refusals)

pub returns-in-Err-NoMemory-clause-same : goal.returns-in-Err-NoMemory-clause-same
returns-in-Err-NoMemory-clause-same g c =
    let V = g.V.Vol in
    let x = view _ V c.self.inside in
    let going = rw (← c.self.view_is) at c.requires.going in
    let same = joined c.take.new.self c.take.new.made x.waiting c.in_ok-take.ensures.ok c.in_ok-take.ensures.none in
    let behind = followed c.take.new.self (effects_in c.take.new.made) in
    rw (← c.self.view_is) (kept_but_room x c.make_room.new.store c.make_room.new.vol behind x.stopped x.fixed same c.make_room.ensures.same)

pub returns-in-Err-NoMemory-clause-time : goal.returns-in-Err-NoMemory-clause-time
returns-in-Err-NoMemory-clause-time g c =
    let V = g.V.Vol in
    let x = view _ V c.self.inside in
    let going = rw (← c.self.view_is) at c.requires.going in
    let same = joined c.take.new.self c.take.new.made x.waiting c.in_ok-take.ensures.ok c.in_ok-take.ensures.none in
    let behind = followed c.take.new.self (effects_in c.take.new.made) in
    let generations : unwrap_or x.store.log.head 0 ≤ unwrap_or c.make_room.new.store.log.head 0 = rw c.make_room.ensures.same.log (le_refl (unwrap_or x.store.log.head 0)) in
    rw (← c.self.view_is)
    (prepared_time V.told V.disk V.faults V.refusals g.met.V.Vol.clocked x going c.self.invariant.0 c.make_room.new.vol c.make_room.ensures.later c.make_room.ensures.any_moment
    (view _ V (record c.self.inside { store = c.make_room.new.store; vol = c.make_room.new.vol; tail = c.take.new.self; made = c.take.new.made })) refl generations
    c.make_room.ensures.cause.later c.make_room.ensures.refusals)

pub returns-in-Err-Fault-clause-same : goal.returns-in-Err-Fault-clause-same
returns-in-Err-Fault-clause-same g c =
    let V = g.V.Vol in
    let x = view _ V c.self.inside in
    let going = rw (← c.self.view_is) at c.requires.going in
    let same = joined c.take.new.self c.take.new.made x.waiting c.in_ok-take.ensures.ok c.in_ok-take.ensures.none in
    let behind = followed c.take.new.self (effects_in c.take.new.made) in
    rw (← c.self.view_is) (kept_but_room x c.make_room.new.store c.make_room.new.vol behind (Some c.faults.result) x.fixed same c.make_room.ensures.same)

pub returns-in-Err-Fault-clause-time : goal.returns-in-Err-Fault-clause-time
returns-in-Err-Fault-clause-time g c =
    let V = g.V.Vol in
    let x = view _ V c.self.inside in
    let going = rw (← c.self.view_is) at c.requires.going in
    let same = joined c.take.new.self c.take.new.made x.waiting c.in_ok-take.ensures.ok c.in_ok-take.ensures.none in
    let behind = followed c.take.new.self (effects_in c.take.new.made) in
    let generations : unwrap_or x.store.log.head 0 ≤ unwrap_or c.make_room.new.store.log.head 0 = rw c.make_room.ensures.same.log (le_refl (unwrap_or x.store.log.head 0)) in
    rw (← c.self.view_is)
    (prepared_time V.told V.disk V.faults V.refusals g.met.V.Vol.clocked x going c.self.invariant.0 c.make_room.new.vol c.make_room.ensures.later c.make_room.ensures.any_moment
    (view _ V (record c.self.inside { store = c.make_room.new.store; vol = c.make_room.new.vol; tail = c.take.new.self; made = c.take.new.made; stopped = Some c.faults.result })) refl generations
    c.make_room.ensures.cause.later c.make_room.ensures.refusals)

pub returns-in-Ok-clause-images : goal.returns-in-Ok-clause-images
returns-in-Ok-clause-images g c =
    let V = g.V.Vol in
    let x = view _ V c.self.inside in
    let going = rw (← c.self.view_is) at c.requires.going in
    rw (← c.self.view_is)
    (prepared_images V.told V.disk V.faults V.refusals g.met.V.Vol.clocked x going c.self.invariant.0 c.make_room.new.vol c.make_room.ensures.later c.make_room.ensures.any_moment
    (view _ V (record c.self.inside { store = c.make_room.new.store; vol = c.make_room.new.vol; tail = c.take.new.self; made = c.take.new.made })) refl)

pub returns-in-Err-NoMemory-clause-images : goal.returns-in-Err-NoMemory-clause-images
returns-in-Err-NoMemory-clause-images g c =
    let V = g.V.Vol in
    let x = view _ V c.self.inside in
    let going = rw (← c.self.view_is) at c.requires.going in
    rw (← c.self.view_is)
    (prepared_images V.told V.disk V.faults V.refusals g.met.V.Vol.clocked x going c.self.invariant.0 c.make_room.new.vol c.make_room.ensures.later c.make_room.ensures.any_moment
    (view _ V (record c.self.inside { store = c.make_room.new.store; vol = c.make_room.new.vol; tail = c.take.new.self; made = c.take.new.made })) refl)

pub returns-in-Err-Fault-clause-images : goal.returns-in-Err-Fault-clause-images
returns-in-Err-Fault-clause-images g c =
    let V = g.V.Vol in
    let x = view _ V c.self.inside in
    let going = rw (← c.self.view_is) at c.requires.going in
    rw (← c.self.view_is)
    (prepared_images V.told V.disk V.faults V.refusals g.met.V.Vol.clocked x going c.self.invariant.0 c.make_room.new.vol c.make_room.ensures.later c.make_room.ensures.any_moment
    (view _ V (record c.self.inside { store = c.make_room.new.store; vol = c.make_room.new.vol; tail = c.take.new.self; made = c.take.new.made; stopped = Some c.faults.result })) refl)
