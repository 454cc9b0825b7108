use Rattle.std.proofs.Common.{refl}
use Rattle.bench_program.proofs.Subjects.{orders}
use Rattle.bench_program.proofs.serving.desk.Goals as goal

pub make_stream-requires : goal.make_stream-requires
make_stream-requires c = record { subject = orders _ refl }
