use Rattle.std.proofs.Common.{◌∙◌, sym}
use Rattle.nats_headers.proofs.Faults.{version_here, no_version_here}
use Rattle.nats_headers.proofs.headers.block_fault.Goals as goal

pub returns-in-Some : goal.returns-in-Some
returns-in-Some c = record { value = c.fields_fault.ensures.value ∙ version_here c.args.block.now c.in-Some.line.now c.in-Some.rest.now c.in-Some.ensures.cut (sym c.if-is_version_line.ensures.value) }

pub returns-in_default : goal.returns-in_default
returns-in_default c = record { value = no_version_here c.args.block.now c.in-Some.line.now c.in-Some.rest.now c.in-Some.ensures.cut (sym c.if-is_version_line.ensures.value) }
