use Rattle.std.proofs.Common.{◌≤◌, ◌+◌, ◌∙◌, ℕ, Err, ap, length, refl, sym, subst}
use Rattle.std.proofs.lemmas.Bool.{true≢false}
use Rattle.std.proofs.lemmas.Result.{err_from_is_err_and}
use Rattle.vol_disk.proofs.Moments.{quiet_then}
use Rattle.block_table.specs.Blocks.{blocks}
use Rattle.block_table.proofs.Rooms.{law_room}
use Rattle.log_records.specs.Logged.{IsLogged}
use Rattle.log_records.specs.declared.fault.ReadFault.{ReadFault}
use Rattle.stream_store.specs.Finding.{IsRecordsFault}
use Rattle.stream_store.specs.declared.fault.OpenFault.{OpenFault}
use Rattle.stream_store.specs.declared.fault.OpenFault.TheVariants.{Fault, NoRoom}
use Rattle.stream_store.proofs.Finding.{bad_blocks, blocks_back, read_cause, read_fault_of, stored_back, told_as}
use Rattle.stream_store.proofs.Messages.{found_last, logged_found, not_openable}
use Rattle.stream_store.proofs.Faults.{memory_roomy, never_told, records_roomy}
use Rattle.stream_store.proofs.reading.read_current.Goals as goal

pub returns-in-Err-clause-fault : goal.returns-in-Err-clause-fault
returns-in-Err-clause-fault g c = λ told.
    let found = c.args.current.now in
    let old = g.V.Vol.disk c.args.vol.now in
    subst (λ (fault : OpenFault). IsRecordsFault found.file found.log old fault) (sym c.of_records.ensures.value) (read_fault_of found.file found.log old c.in-Err.fault (c.in-Err.ensures.fault told))

pub returns-in-Err-clause-cause : goal.returns-in-Err-clause-cause
returns-in-Err-clause-cause g c = record {
  later = c.read_log.ensures.cause.later;
  failed = λ is. c.in-Err.ensures.cause.failed (ap (λ (fault : ReadFault). Err fault) (read_cause c.args.current.now.file c.in-Err.fault c.of_records.result c.of_records.ensures.value (told_as _ c.of_records.result Fault refl is)));
}

pub returns-in_err-found-clause-fault : goal.returns-in_err-found-clause-fault
returns-in_err-found-clause-fault g c = λ told.
    let current = c.args.current.now in
    let old = g.V.Vol.disk c.args.vol.now in
    let mid = g.V.Vol.disk c.read_log.new.vol in
    let p = err_from_is_err_and c.from_residual.result c.from_residual.ensures.1 in
    let fault = c.in_err-found.field-0.0 in
    rw (p.1, p.2) (bad_blocks current.file current.log old c.in-Ok.read fault (c.in-Ok.ensures.gives told) (blocks_back c.in-Ok.read old mid fault (c.read_log.ensures.quiet told) (c.in_err-found.ensures.fault told)))

pub returns-in_err-found-clause-quiet : goal.returns-in_err-found-clause-quiet
returns-in_err-found-clause-quiet g c = λ told.
    quiet_then (g.V.Vol.disk c.args.vol.now) (g.V.Vol.disk c.read_log.new.vol) (g.V.Vol.disk c.read_blocks.new.vol) (c.read_log.ensures.quiet told) (c.read_blocks.ensures.quiet told)

pub returns-in_err-is_openable-clause-quiet : goal.returns-in_err-is_openable-clause-quiet
returns-in_err-is_openable-clause-quiet g c = λ told.
    quiet_then (g.V.Vol.disk c.args.vol.now) (g.V.Vol.disk c.read_log.new.vol) (g.V.Vol.disk c.read_blocks.new.vol) (c.read_log.ensures.quiet told) (c.read_blocks.ensures.quiet told)

pub returns-then-branch-clause-quiet : goal.returns-then-branch-clause-quiet
returns-then-branch-clause-quiet g c = λ told.
    quiet_then (g.V.Vol.disk c.args.vol.now) (g.V.Vol.disk c.read_log.new.vol) (g.V.Vol.disk c.read_blocks.new.vol) (c.read_log.ensures.quiet told) (c.read_blocks.ensures.quiet told)

pub returns-else-branch-clause-quiet : goal.returns-else-branch-clause-quiet
returns-else-branch-clause-quiet g c = λ told.
    quiet_then (g.V.Vol.disk c.args.vol.now) (g.V.Vol.disk c.read_log.new.vol) (g.V.Vol.disk c.read_blocks.new.vol) (c.read_log.ensures.quiet told) (c.read_blocks.ensures.quiet told)

pub returns-then-branch-clause-found : goal.returns-then-branch-clause-found
returns-then-branch-clause-found g c = λ told.
    let old = g.V.Vol.disk c.args.vol.now in
    let mid = g.V.Vol.disk c.read_log.new.vol in
    let f = c.in_ok-found.found in
    record {
      last = found_last c.args.current.now.log old c.in-Ok.read f c.in-Ok.ensures.logged c.in_ok-found.ensures.read (c.in-Ok.ensures.gives told);
      stored = stored_back old mid f (c.read_log.ensures.quiet told) (c.in_ok-found.ensures.stored told);
      openable = c.in_ok-is_openable.ensures.value.0 c.if-branch.true;
    }

pub returns-then-branch-clause-given : goal.returns-then-branch-clause-given
returns-then-branch-clause-given g c = subst IsLogged (sym (logged_found c.in-Ok.read c.in_ok-found.found c.in-Ok.ensures.logged c.in_ok-found.ensures.read)) c.in-Ok.ensures.logged

pub returns-then-branch-clause-held : goal.returns-then-branch-clause-held
returns-then-branch-clause-held g c =
    let f = c.in_ok-found.found in
    subst (λ (n : ℕ). length (blocks f.table) ≤ n + 1) c.in_ok-found.ensures.placed (law_room.held f.table c.in_ok-found.ensures.table)

pub returns-else-branch-clause-fault : goal.returns-else-branch-clause-fault
returns-else-branch-clause-fault g c = λ told.
    let old = g.V.Vol.disk c.args.vol.now in
    let mid = g.V.Vol.disk c.read_log.new.vol in
    let f = c.in_ok-found.found in
    not_openable c.args.current.now.file c.args.current.now.log old c.in-Ok.read f c.in-Ok.ensures.logged c.in_ok-found.ensures.read (c.in-Ok.ensures.gives told)
    (stored_back old mid f (c.read_log.ensures.quiet told) (c.in_ok-found.ensures.stored told)) (λ can. true≢false (sym (c.in_ok-is_openable.ensures.value.1 can) ∙ c.if-branch.false))

-- ---- no fault is told for want of room

pub returns-in-Err-clause-no_room : goal.returns-in-Err-clause-no_room
returns-in-Err-clause-no_room g c = λ is.
    records_roomy c.args.current.now.file c.in-Err.fault c.of_records.result c.of_records.ensures.value (told_as _ c.of_records.result NoRoom refl is)

pub returns-in_err-found-clause-no_room : goal.returns-in_err-found-clause-no_room
returns-in_err-found-clause-no_room g c =
    never_told c.from_residual.result (Err c.in_err-found.field-0.0) c.in_err-found.field-0.0 NoRoom c.from_residual.ensures.1 refl c.in_err-found.ensures.no_room

pub returns-in_err-is_openable-clause-no_room : goal.returns-in_err-is_openable-clause-no_room
returns-in_err-is_openable-clause-no_room g c = memory_roomy c.from_residual-in_err-is_openable.result c.from_residual-in_err-is_openable.ensures.1
