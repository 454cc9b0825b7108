use Rattle.server.proofs.Memory.{may_open, welcoming, untroubled, placeless, unchanged}
use Rattle.server.proofs.laws.law_memory.Goals as goal

pub returns : goal.returns
returns g c = record { may_open = may_open; welcoming = welcoming; untroubled = untroubled; placeless = placeless; unchanged = unchanged }
