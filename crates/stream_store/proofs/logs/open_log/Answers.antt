use Rattle.std.proofs.Common.{Err, ap, refl}
use Rattle.stream_store.specs.declared.fault.OpenFault.TheVariants.{Fault, NoRoom}
use Rattle.gate_log.specs.declared.fault.LogFault.{LogFault}
use Rattle.stream_store.proofs.Finding.{open_cause, told_as}
use Rattle.stream_store.proofs.Faults.{open_roomy}
use Rattle.stream_store.proofs.logs.open_log.Goals as goal

pub returns-in-Err-clause-fault : goal.returns-in-Err-clause-fault
returns-in-Err-clause-fault g c = λ told. (c.in-Err.fault, c.in-Err.ensures.fault told, c.of_log.ensures.value)

pub returns-in-Err-clause-cause : goal.returns-in-Err-clause-cause
returns-in-Err-clause-cause g c = record {
  later = c.open.ensures.cause.later;
  failed = λ is. c.in-Err.ensures.cause.failed (ap (λ (fault : LogFault). Err fault) (open_cause c.args.file c.in-Err.fault c.of_log.result c.of_log.ensures.value (told_as _ c.of_log.result Fault refl is)));
}

pub returns-in-Err-clause-no_room : goal.returns-in-Err-clause-no_room
returns-in-Err-clause-no_room g c = λ is.
    open_roomy c.args.file c.in-Err.fault c.of_log.result c.of_log.ensures.value (told_as _ c.of_log.result NoRoom refl is)
