use Rattle.std.proofs.Common.{subst}
use Rattle.std.specs.Prelude.{Option}
use Rattle.effects.specs.Durables.{state_in, stream_of}
use Rattle.effects.specs.declared.durable.Body.{Body}
use Rattle.restore_laws.specs.Restored.{IsRestored}
use Rattle.restore_tests.proofs.restore.Goals as goal

pub restore_each-requires : goal.restore_each-requires
restore_each-requires c =
    let d = c.args.durable.now in
    let restored = subst (λ (b : Option Body). IsRestored (state_in d.incarnation b)) c.in-Some.is (c.law_restored.ensures.law d c.requires.formed c.requires.storable c.requires.openable) in
    record { kept = rw c.as_slice.ensures (c.law_restored.ensures.consumers (stream_of d.incarnation c.in-Some.body) restored) }
