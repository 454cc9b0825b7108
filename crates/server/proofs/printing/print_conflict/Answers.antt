use Rattle.std.proofs.Common.{sym}
use Rattle.server.proofs.printing.print_conflict.Goals as goal

pub returns : goal.returns
returns g c = record { printed = rw (sym c.place_zeros.ensures.value, sym c.place_zeros-2.ensures.value, sym c.from.ensures, sym c.from-2.ensures) c.print_line.ensures.printed }
