use Rattle.std.proofs.Common.{ap, arith}
use Rattle.stream_store.specs.StoreState.{StoreState}
use Rattle.store_tests.proofs.Changes.{is_some_of, put_allowed, put_placed}
use Rattle.store_tests.proofs.store_calls.placed.Goals as goal

pub returns-clause-allowed : goal.returns-clause-allowed
returns-clause-allowed c =
    put_allowed c.in_ok-change.change c.args.seq c.args.payload.now c.in_ok-change.ensures.value
    (omega (arith, c.if-seq.false)) (omega (arith, c.if-payload-gt-MAX_PAYLOAD.false))

pub returns-clause-placed : goal.returns-clause-placed
returns-clause-placed c =
    put_placed c.law_placing.ensures c.args.store.now.blocks c.spot_behind.new.self.blocks c.in_ok-change.change c.args.seq c.args.payload.now c.len_of-len.result c.in_ok-spot.spot
    (ap (λ (s : StoreState). s.blocks) c.spot_behind.ensures.same) c.in_ok-change.ensures.value c.len_of-len.ensures.value c.in_ok-spot.ensures.value (is_some_of c.in_ok-spot.spot c.is_none.result c.is_none.ensures c.if-is_none.false)

pub returns-clause-fits : goal.returns-clause-fits
returns-clause-fits c = omega (arith, c.if-payload-gt-MAX_PAYLOAD.false)
