-- One reading after the other.
use Rattle.std.specs.Prelude.{Result, Ok, Err}
use Rattle.ack_parse.specs.declared.fault.AckFault.{AckFault}

-- the first fault counts
infixl 10 ◌>>=◌
abbrev pub ◌>>=◌ : {A B : Type 0} → Result A AckFault → (A → Result B AckFault) → Result B AckFault
(Ok a) >>= next = next a
(Err fault) >>= next = Err fault
