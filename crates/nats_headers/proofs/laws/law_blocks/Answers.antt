use Rattle.nats_headers.proofs.Told.{blocks, tests}
use Rattle.nats_headers.proofs.laws.law_blocks.Goals as goal

pub returns-clause-block : goal.returns-clause-block
returns-clause-block c = blocks

pub returns-clause-test : goal.returns-clause-test
returns-clause-test c = tests
