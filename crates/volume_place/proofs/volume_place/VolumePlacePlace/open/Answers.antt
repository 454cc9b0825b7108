use Rattle.std.proofs.Common.{◌≡◌, ◌≤◌, ◌+◌, inl, List, [], None, Err, length, refl, ap, subst, sym, ◌∙◌, arith}
use Rattle.effects.specs.declared.effect.Effect.{Effect}
use Rattle.block_table.specs.Blocks.{Blocks, blocks}
use Rattle.gate_log.specs.LogState.{LogState}
use Rattle.log_records.specs.Unread.{stored_messages}
use Rattle.stream_store.specs.Clearing.{AreCleared, IsOtherClosed}
use Rattle.stream_store.specs.StoreState.{StoreState}
use Rattle.stream_store.specs.declared.fault.OpenFault.{OpenFault as StoreFault}
use Rattle.place_engine.specs.declared.faults.OpenFault.{OpenFault}
use Rattle.place_engine.specs.declared.faults.OpenFault.TheVariants.{Fault, NoMemory, NoRoom}
use Rattle.stream_store.proofs.Cleared.{cleared_opening}
use Rattle.place_engine.specs.Following.{followed}
use Rattle.volume_place.proofs.Dated.{dated_as}
use Rattle.volume_place.proofs.Keeping.{rose_then}
use Rattle.volume_place.proofs.Opened.{cleared_rests, held_here, images_on, opened_blocks, opened_of, opened_sound, lacks_room, outside_refused, outside_room, reserve_refused, restored_of, same_fault, unopened}
use Rattle.volume_place.proofs.Reserving.{opened_reserve}
use Rattle.volume_place.proofs.volume_place.VolumePlacePlace.open.Goals as goal

none_waits : (waiting made : List Effect) → waiting ≡ [] → made ≡ [] → followed waiting made ≡ []
none_waits waiting made none_before none_made = ap (λ (before : List Effect). followed before made) none_before ∙ ap (followed []) none_made

pub returns-in-Err-clause-unopened : goal.returns-in-Err-clause-unopened
returns-in-Err-clause-unopened g c = unopened g.V.Vol.told g.V.Vol.disk g.V.Vol.faults g.V.Vol.refusals g.met.V.Vol.clocked c.args.volume c.open.new.vol c.open.ensures.any_moment

pub clear-requires : goal.clear-requires
clear-requires g c = record { base = λ told. (c.in-Ok.opened.1, c.in-Ok.ensures.base told) }

pub returns-in-Err-clear-clause-unopened : goal.returns-in-Err-clear-clause-unopened
returns-in-Err-clear-clause-unopened g c =
    let V = g.V.Vol in
    unopened V.told V.disk V.faults V.refusals g.met.V.Vol.clocked c.args.volume c.clear.new.vol
    (images_on V.told V.disk c.args.volume c.open.new.vol c.clear.new.vol c.in-Ok.opened.0 c.in-Ok.opened.1 c.in-Ok.ensures.found c.in-Ok.ensures.base c.clear.ensures.any_moment c.open.ensures.any_moment)

pub returns-in-Err-clear-clause-refused : goal.returns-in-Err-clear-clause-refused
returns-in-Err-clear-clause-refused g c = λ told. outside_refused (g.V.Vol.disk c.args.volume).seen c.in-Err-clear.fault _ c.fault_of-in-Err-clear.ensures.value c.in-Err-clear.ensures.only

pub keep_reserve-requires : goal.keep_reserve-requires
keep_reserve-requires g c = record { formed = c.in-Ok.ensures.formed; base = λ told. c.in-Ok-clear.ensures.keeps told c.in-Ok.opened.1 (c.in-Ok.ensures.base told) }

pub returns-in-Err-keep_reserve-clause-refused : goal.returns-in-Err-keep_reserve-clause-refused
returns-in-Err-keep_reserve-clause-refused g c = λ told. reserve_refused (g.V.Vol.disk c.args.volume).seen c.in-Err-keep_reserve.fault c.in-Err-keep_reserve.ensures.only

pub returns-in-Err-keep_reserve-clause-unopened : goal.returns-in-Err-keep_reserve-clause-unopened
returns-in-Err-keep_reserve-clause-unopened g c =
    let V = g.V.Vol in
    let d = c.in-Ok.opened.1 in
    let any = images_on V.told V.disk c.args.volume c.open.new.vol c.clear.new.vol c.in-Ok.opened.0 d c.in-Ok.ensures.found c.in-Ok.ensures.base c.clear.ensures.any_moment c.open.ensures.any_moment in
    unopened V.told V.disk V.faults V.refusals g.met.V.Vol.clocked c.args.volume c.keep_reserve.new.vol
    (images_on V.told V.disk c.args.volume c.clear.new.vol c.keep_reserve.new.vol c.clear.new.self d c.in-Ok.ensures.found (λ told. c.in-Ok-clear.ensures.keeps told d (c.in-Ok.ensures.base told))
    c.keep_reserve.ensures.any_moment any)

pub restore-requires : goal.restore-requires
restore-requires g c =
    let V = g.V.Vol in
    record {
      restored = restored_of V.told V.disk V.faults V.refusals g.met.V.Vol.clocked c.args.volume c.open.new.vol c.open.ensures.any_moment c.in-Ok.opened.1 c.in-Ok.ensures.formed
          c.in-Ok.ensures.storable c.in-Ok.ensures.openable;
    }

pub returns-in_default-clause-unopened : goal.returns-in_default-clause-unopened
returns-in_default-clause-unopened g c =
    let V = g.V.Vol in
    let d = c.in-Ok.opened.1 in
    let any = images_on V.told V.disk c.args.volume c.open.new.vol c.clear.new.vol c.in-Ok.opened.0 d c.in-Ok.ensures.found c.in-Ok.ensures.base c.clear.ensures.any_moment c.open.ensures.any_moment in
    unopened V.told V.disk V.faults V.refusals g.met.V.Vol.clocked c.args.volume c.keep_reserve.new.vol
    (images_on V.told V.disk c.args.volume c.clear.new.vol c.keep_reserve.new.vol c.clear.new.self d c.in-Ok.ensures.found (λ told. c.in-Ok-clear.ensures.keeps told d (c.in-Ok.ensures.base told))
    c.keep_reserve.ensures.any_moment any)

pub invariant_of-result : goal.invariant_of-result
invariant_of-result g c =
    let V = g.V.Vol in
    let d = c.in-Ok.opened.1 in
    let any = images_on V.told V.disk c.args.volume c.open.new.vol c.clear.new.vol c.in-Ok.opened.0 d c.in-Ok.ensures.found c.in-Ok.ensures.base c.clear.ensures.any_moment c.open.ensures.any_moment in
    let after = images_on V.told V.disk c.args.volume c.clear.new.vol c.keep_reserve.new.vol c.clear.new.self d c.in-Ok.ensures.found
    (λ told. c.in-Ok-clear.ensures.keeps told d (c.in-Ok.ensures.base told)) c.keep_reserve.ensures.any_moment any in
    let none = none_waits c.new.result _ c.new.ensures.none c.new-2.ensures.none in
    let same_blocks : c.keep_reserve.new.store.blocks ≡ c.in-Ok.opened.0.blocks = c.keep_reserve.ensures.same.blocks ∙ ap (λ (s : StoreState). s.blocks) c.clear.ensures.same in (
      opened_sound V.told V.disk V.faults V.refusals g.met.V.Vol.clocked c.args.volume c.keep_reserve.new.vol after d c.in-Ok.ensures.formed c.in-Ok.ensures.storable c.in-Ok.ensures.openable
          c.keep_reserve.new.store c.in-Ok-restore.slot c.in-Ok-restore.ensures.value _ none c.in-Ok.ensures.found c.in-Ok-keep_reserve.ensures.keeps,
      opened_blocks V.told V.disk V.faults V.refusals g.met.V.Vol.clocked c.args.volume c.keep_reserve.new.vol after d c.in-Ok.ensures.formed c.in-Ok.ensures.storable c.in-Ok.ensures.openable
          c.keep_reserve.new.store.blocks (subst (λ (b : Blocks). length (blocks b) ≤ length (stored_messages d) + 1) (sym same_blocks) c.in-Ok.ensures.held) c.in-Ok-restore.slot
          c.in-Ok-restore.ensures.value _ none c.messages-stored.result c.messages-stored.ensures.value,
      dated_as _ [] None none refl,
      opened_reserve V.told (V.disk c.keep_reserve.new.vol) c.keep_reserve.new.store _ c.in-Ok-keep_reserve.fixed c.in-Ok-restore.slot d
          (held_here d c.in-Ok.ensures.formed c.in-Ok-restore.slot c.in-Ok-restore.ensures.value) none c.in-Ok-keep_reserve.ensures.fixed.0 c.in-Ok-keep_reserve.ensures.fixed.1
          c.in-Ok-keep_reserve.ensures.reserved,
    )

pub returns-clause-opened : goal.returns-clause-opened
returns-clause-opened g c =
    let V = g.V.Vol in
    let d = c.in-Ok.opened.1 in
    let any = images_on V.told V.disk c.args.volume c.open.new.vol c.clear.new.vol c.in-Ok.opened.0 d c.in-Ok.ensures.found c.in-Ok.ensures.base c.clear.ensures.any_moment c.open.ensures.any_moment in
    let after = images_on V.told V.disk c.args.volume c.clear.new.vol c.keep_reserve.new.vol c.clear.new.self d c.in-Ok.ensures.found
    (λ told. c.in-Ok-clear.ensures.keeps told d (c.in-Ok.ensures.base told)) c.keep_reserve.ensures.any_moment any in
    opened_of V.told V.disk V.faults V.refusals g.met.V.Vol.clocked c.args.volume c.keep_reserve.new.vol after d c.in-Ok.ensures.formed c.in-Ok.ensures.storable c.in-Ok.ensures.openable
    c.keep_reserve.new.store c.in-Ok-restore.slot c.in-Ok-restore.ensures.value _ (none_waits c.new.result _ c.new.ensures.none c.new-2.ensures.none) c.in-Ok.ensures.found
    c.in-Ok-keep_reserve.ensures.keeps c.messages-stored.result c.in-Ok-keep_reserve.fixed c.messages-stored.ensures.value

pub returns-clause-cleared : goal.returns-clause-cleared
returns-clause-cleared g c = λ told.
    let old = g.V.Vol.disk c.args.volume in
    let mid = g.V.Vol.disk c.open.new.vol in
    let late = g.V.Vol.disk c.clear.new.vol in
    let new = g.V.Vol.disk c.keep_reserve.new.vol in
    let same : c.keep_reserve.new.store.blocks ≡ c.in-Ok.opened.0.blocks = c.keep_reserve.ensures.same.blocks ∙ ap (λ (s : StoreState). s.blocks) c.clear.ensures.same in
    subst (λ (b : Blocks). AreCleared b old new) (sym same)
    (cleared_rests c.in-Ok.opened.0.blocks old late new (cleared_opening c.in-Ok.opened.0.blocks old mid late (c.open.ensures.elsewhere told) (c.in-Ok-clear.ensures.cleared told))
    (c.keep_reserve.ensures.elsewhere told))

pub returns-clause-closed : goal.returns-clause-closed
returns-clause-closed g c = λ told.
    let new = g.V.Vol.disk c.keep_reserve.new.vol in
    let same : c.keep_reserve.new.store.log ≡ c.in-Ok.opened.0.log = c.keep_reserve.ensures.same.log ∙ ap (λ (s : StoreState). s.log) c.clear.ensures.same in
    subst (λ (l : LogState). IsOtherClosed l new) (sym same) (c.in-Ok-keep_reserve.ensures.closed told c.in-Ok.opened.0.log (c.in-Ok-clear.ensures.closed told))

-- ---- why it is not opened

pub returns-in-Err-clause-cause : goal.returns-in-Err-clause-cause
returns-in-Err-clause-cause g c = λ is. c.in-Err.ensures.cause.failed (ap (λ (f : StoreFault). Err f) (same_fault c.in-Err.fault _ Fault c.fault_of.ensures.value is))

pub returns-in-Err-clause-no_room : goal.returns-in-Err-clause-no_room
returns-in-Err-clause-no_room g c = λ is. inl (c.in-Err.ensures.refused.failed (ap (λ (f : StoreFault). Err f) (same_fault c.in-Err.fault _ NoRoom c.fault_of.ensures.value is)))

pub returns-in-Err-clear-clause-cause : goal.returns-in-Err-clear-clause-cause
returns-in-Err-clear-clause-cause g c = λ is.
    let count = g.V.Vol.faults in
    rose_then (count c.args.volume) (count c.open.new.vol) (count c.clear.new.vol) c.open.ensures.cause.later
    (c.in-Err-clear.ensures.cause.failed (ap (λ (f : StoreFault). Err f) (same_fault c.in-Err-clear.fault _ Fault c.fault_of-in-Err-clear.ensures.value is)))

pub returns-in-Err-clear-clause-no_room : goal.returns-in-Err-clear-clause-no_room
returns-in-Err-clear-clause-no_room g c = λ is. absurd (outside_room c.in-Err-clear.fault _ c.fault_of-in-Err-clear.ensures.value c.in-Err-clear.ensures.only is)

pub returns-in-Err-keep_reserve-clause-cause : goal.returns-in-Err-keep_reserve-clause-cause
returns-in-Err-keep_reserve-clause-cause g c = λ is.
    let count = g.V.Vol.faults in
    let first = c.open.ensures.cause.later in
    let second = c.clear.ensures.cause.later in
    rose_then (count c.args.volume) (count c.clear.new.vol) (count c.keep_reserve.new.vol) (omega (arith, first, second))
    (c.in-Err-keep_reserve.ensures.cause.failed (ap (λ (f : OpenFault). Err f) is))

pub returns-in-Err-keep_reserve-clause-no_room : goal.returns-in-Err-keep_reserve-clause-no_room
returns-in-Err-keep_reserve-clause-no_room g c = λ is.
    let V = g.V.Vol in
    let d = c.in-Ok.opened.1 in
    let any = images_on V.told V.disk c.args.volume c.open.new.vol c.clear.new.vol c.in-Ok.opened.0 d c.in-Ok.ensures.found c.in-Ok.ensures.base c.clear.ensures.any_moment c.open.ensures.any_moment in
    let after = images_on V.told V.disk c.args.volume c.clear.new.vol c.keep_reserve.new.vol c.clear.new.self d c.in-Ok.ensures.found
    (λ told. c.in-Ok-clear.ensures.keeps told d (c.in-Ok.ensures.base told)) c.keep_reserve.ensures.any_moment any in
    let first = c.open.ensures.refused.later in
    let second = c.clear.ensures.refusals in
    lacks_room V.told V.disk V.faults V.refusals g.met.V.Vol.clocked c.args.volume c.keep_reserve.new.vol after d c.in-Ok.ensures.formed c.in-Ok.ensures.storable c.in-Ok.ensures.openable
    (V.refusals c.clear.new.vol) (omega (arith, first, second)) c.in-Ok.ensures.found (c.in-Err-keep_reserve.ensures.lacks (ap (λ (f : OpenFault). Err f) is))

-- want of memory is another reason
none_for : (other : OpenFault) (T : Type 0) → (NoMemory ≡ other → ⊥) → NoMemory ≡ other → T
none_for other T unlike is = absurd (unlike is)

pub returns-in_default-clause-cause : goal.returns-in_default-clause-cause
returns-in_default-clause-cause g c = none_for Fault _ unlike
  where
    unlike : NoMemory ≡ Fault → ⊥
    unlike is = cc

pub returns-in_default-clause-no_room : goal.returns-in_default-clause-no_room
returns-in_default-clause-no_room g c = none_for NoRoom _ unlike
  where
    unlike : NoMemory ≡ NoRoom → ⊥
    unlike is = cc
