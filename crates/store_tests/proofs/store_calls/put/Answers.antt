use Rattle.std.proofs.Common.{refl}
use Rattle.store_tests.proofs.store_calls.put.Goals as goal

pub returns : goal.returns
returns c = record { value = rw (c.in_ok-at.ensures.value, c.empty-id.ensures, c.empty-headers.ensures, c.in_ok-subject.ensures, c.in_ok-payload.ensures) refl }
