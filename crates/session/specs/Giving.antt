-- What a link was given of some bytes.
use Rattle.std.specs.Prelude.{◌≡◌, ℕ, [], ◌++◌, take, Result, Ok, Err, Option}
use Rattle.js_base.specs.Bytes.{Bytes}
use Rattle.link_edge.specs.Told.{grown}
use Rattle.session.specs.Talk.{IsCutOff}
use Rattle.session.specs.declared.ending.Ended.{Ended}
use Rattle.session.specs.declared.ending.Ended.TheVariants as ends
use Rattle.session.specs.declared.giving.GiveFault.{GiveFault}
use Rattle.session.specs.declared.giving.GiveFault.TheVariants.{LinkFault, NoMemory}

-- a prefix of the bytes was given that lacks one of them or more
abbrev pub GivesPart : Option Bytes → Option Bytes → Bytes → Type 0
GivesPart old new bytes = (out : Bytes) × IsCutOff out bytes × (new ≡ grown old out)

-- so many of the first bytes were given, or none
abbrev pub some_given : Result ℕ GiveFault → Bytes → Bytes
some_given (Ok n) bytes = take n bytes
some_given (Err fault) bytes = []

-- all of the bytes were given, or not all of them
abbrev pub Gives : {T : Type 0} → Result T GiveFault → Option Bytes → Option Bytes → Bytes → Type 0
Gives (Ok x) old new bytes = new ≡ grown old bytes
Gives (Err fault) old new bytes = GivesPart old new bytes

-- a prefix of the bytes was given, and the others wait
pub record IsFlushed (given_old given_new : Option Bytes) (old new : Bytes) : Type 0 where
  pub out : Bytes
  pub given : given_new ≡ grown given_old out
  pub kept : old ≡ out ++ new

abbrev pub Flushes : {T : Type 0} → Result T GiveFault → Option Bytes → Option Bytes → Bytes → Bytes → Type 0
Flushes (Ok x) given_old given_new old new = IsFlushed given_old given_new old new
Flushes (Err fault) given_old given_new old new = GivesPart given_old given_new old

abbrev pub IsLinkFault : {T : Type 0} → Result T GiveFault → Type 0
IsLinkFault result = result ≡ Err LinkFault

-- how a session ends that could not give its bytes
abbrev pub end_of : GiveFault → Ended
end_of LinkFault = ends.LinkFault
end_of NoMemory = ends.NoMemory
