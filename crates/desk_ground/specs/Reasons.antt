-- Why the server itself refuses what a stream was asked.
use Rattle.js_base.specs.declared.out.ApiError.{ApiError}
use Rattle.js_model.specs.Refusals.{no_stream, store_fault, stream_stopped}
use Rattle.desk_ground.specs.declared.reason.Reason.{Reason}
use Rattle.desk_ground.specs.declared.reason.Reason.TheVariants as reasons

abbrev pub error_of : Reason → ApiError
error_of reasons.NoStream = no_stream
error_of reasons.StoreFault = store_fault
error_of reasons.StreamStopped = stream_stopped
