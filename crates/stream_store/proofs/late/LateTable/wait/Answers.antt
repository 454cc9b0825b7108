use Rattle.std.proofs.Common.{ap, sym}
use Rattle.stream_store.specs.Steps.{with_steps}
use Rattle.stream_store.proofs.Taken.{taken_all}
use Rattle.stream_store.proofs.late.LateTable.wait.Goals as goal

pub returns : goal.returns
returns c = record { value = ap (with_steps c.args.steps.items) (sym (taken_all c.args.self.now.steps.items c.args.self.now.taken c.args.self.now.table c.requires.none)) }
