use Rattle.std.proofs.Common.{ℕ, ◌≡◌, Bool, true, false, not, is_some, List, Option, Some, None, refl, sym}
use Rattle.js_base.specs.Headers.{is_block}
use Rattle.nats_headers.specs.declared.fault.HeaderFault.{HeaderFault}
use Rattle.nats_headers.specs.Reading.{block_fault}
use Rattle.nats_headers.proofs.Faults.{tested, untested}
use Rattle.nats_headers.proofs.headers.is_block.Goals as goal

-- bytes with a fault are no block
faulty : (block : List ℕ) (fault : HeaderFault) (b : Bool) → Some fault ≡ block_fault block → is_block block ≡ b → false ≡ b
faulty block fault false h e = refl
faulty block fault true h e = let none = untested block e in absurd (cc)

tells : (block : List ℕ) (fault : Option HeaderFault) (r : Bool) → fault ≡ block_fault block → is_some fault ≡ not r → r ≡ is_block block
tells block None true h e = sym (tested block (sym h))
tells block None false h e = absurd (cc)
tells block (Some fault) true h e = absurd (cc)
tells block (Some fault) false h e = faulty block fault (is_block block) h refl

pub returns : goal.returns
returns c = record { value = tells c.args.block.now c.block_fault.result c.is_none.result c.block_fault.ensures.value c.is_none.ensures }
