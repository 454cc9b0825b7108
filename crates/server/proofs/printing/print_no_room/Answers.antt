use Rattle.std.proofs.Common.{sym}
use Rattle.server.proofs.printing.print_no_room.Goals as goal

pub returns : goal.returns
returns g c = record { printed = rw (sym c.place_zeros.ensures.value, sym c.from.ensures) c.print_line.ensures.printed }
