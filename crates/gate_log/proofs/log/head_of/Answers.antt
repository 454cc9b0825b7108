use Rattle.std.proofs.lemmas.Result.{IfErr-weaker, IfOk-weaker}
use Rattle.gate_log.specs.Opening.{IsHeadFault, IsHeadFaultOf, IsHeadRead}
use Rattle.gate_log.proofs.Openings.{head_fault, head_read}
use Rattle.gate_log.proofs.log.head_of.Goals as goal

pub returns-clause-ok : goal.returns-clause-ok
returns-clause-ok g c = λ told.
    let bytes = (g.V.Vol.disk c.args.vol.now).seen c.args.file in
    IfOk-weaker c.read_head.result (IsHeadRead c.read.new.into) (IsHeadRead bytes) (λ found h. head_read bytes c.read.new.into found (c.requires.long told) (c.in_ok-read.ensures.value told) h) c.read_head.ensures.ok

pub returns-clause-err : goal.returns-clause-err
returns-clause-err g c = λ told.
    let bytes = (g.V.Vol.disk c.args.vol.now).seen c.args.file in
    IfErr-weaker c.read_head.result (IsHeadFault c.read.new.into) (IsHeadFaultOf bytes) (λ cause h. head_fault bytes c.read.new.into cause (c.requires.long told) (c.in_ok-read.ensures.value told) h) c.read_head.ensures.err
