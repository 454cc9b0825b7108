use Rattle.desk_ground.specs.declared.reason.Reason.TheVariants as reasons
use Rattle.desk_ground.proofs.Texts.{refusal_utf8}
use Rattle.desk_ground.proofs.reason.Reason.refusal.Goals as goal

pub returns-in-NoStream-clause-text : goal.returns-in-NoStream-clause-text
returns-in-NoStream-clause-text c = refusal_utf8 reasons.NoStream _ c.no_stream.ensures.value

pub returns-in-StoreFault-clause-text : goal.returns-in-StoreFault-clause-text
returns-in-StoreFault-clause-text c = refusal_utf8 reasons.StoreFault _ c.store_fault.ensures.value

pub returns-in-StreamStopped-clause-text : goal.returns-in-StreamStopped-clause-text
returns-in-StreamStopped-clause-text c = refusal_utf8 reasons.StreamStopped _ c.stream_stopped.ensures.value
