use Rattle.std.proofs.Common.{sym}
use Rattle.server.proofs.printing.print_damaged.Goals as goal

pub returns : goal.returns
returns g c = record { printed = rw (sym c.place_zeros.ensures.value, sym c.file_zeros.ensures.value, sym c.from.ensures, sym c.from-2.ensures) c.print_line.ensures.printed }
