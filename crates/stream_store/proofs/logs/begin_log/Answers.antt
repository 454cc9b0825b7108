use Rattle.std.proofs.Common.{◌≤◌, ◌+◌, [], ◌∷◌, IsSome, ap, sym, subst, arith, length, refl}
use Rattle.js_base.specs.Bytes.{Bytes}
use Rattle.gate_log.specs.LogState.{LogState}
use Rattle.gate_log.specs.Settled.{IsSettled}
use Rattle.stream_store.specs.Beginning.{IsUnbegun}
use Rattle.stream_store.proofs.Beginning.{appending, begun, begun_rests, making_room, nothing_then, rests_with_room, starting, unbegun_stays, unbegun_with_room, vacant_length}
use Rattle.stream_store.proofs.logs.begin_log.Goals as goal

pub returns-in_err-batch-clause-any_moment : goal.returns-in_err-batch-clause-any_moment
returns-in_err-batch-clause-any_moment g c = λ told.
    unbegun_stays (g.V.Vol.disk c.args.vol.now) (c.requires.unbegun told) (g.met.V.Vol.clocked c.args.vol.now)

pub make_room-requires : goal.make_room-requires
make_room-requires g c =
    record { head = omega arith; durable = λ told. (c.requires.unbegun told).durable_zero }

pub returns-in_err-len-clause-any_moment : goal.returns-in_err-len-clause-any_moment
returns-in_err-len-clause-any_moment g c = λ told.
    making_room (g.V.Vol.disk c.args.vol.now) (c.requires.unbegun told) (g.V.Vol.disk c.make_room.new.vol) (c.make_room.ensures.any_moment told) (c.make_room.ensures.lengths told)

pub returns-in_err-len-clause-elsewhere : goal.returns-in_err-len-clause-elsewhere
returns-in_err-len-clause-elsewhere g c = λ told.
    (c.make_room.ensures.any_moment told).elsewhere

pub returns-then-len-lt-BEGUN_LENGTH-clause-any_moment : goal.returns-then-len-lt-BEGUN_LENGTH-clause-any_moment
returns-then-len-lt-BEGUN_LENGTH-clause-any_moment g c = λ told.
    making_room (g.V.Vol.disk c.args.vol.now) (c.requires.unbegun told) (g.V.Vol.disk c.make_room.new.vol) (c.make_room.ensures.any_moment told) (c.make_room.ensures.lengths told)

pub returns-then-len-lt-BEGUN_LENGTH-clause-elsewhere : goal.returns-then-len-lt-BEGUN_LENGTH-clause-elsewhere
returns-then-len-lt-BEGUN_LENGTH-clause-elsewhere g c = λ told.
    (c.make_room.ensures.any_moment told).elsewhere

pub start-requires : goal.start-requires
start-requires g c =
    record {
      long = λ told. let has = c.in_ok-len.ensures.room told in omega (arith, has, c.if-len-lt-BEGUN_LENGTH.false);
      whole = λ told.
          let old = g.V.Vol.disk c.args.vol.now in
          let roomy = g.V.Vol.disk c.make_room.new.vol in
          let u : IsUnbegun roomy = unbegun_with_room old (c.requires.unbegun told) roomy (c.make_room.ensures.any_moment told) (c.in_ok-len.ensures.keeps told) (c.in_ok-len.ensures.durable told) (c.in_ok-len.ensures.size told) in
          let room = making_room old (c.requires.unbegun told) roomy (c.make_room.ensures.any_moment told) (c.make_room.ensures.lengths told) in
          (u.none.zero.generation, u.none.zero.batches, u.none.logs.in_zero);
      durable = λ told. c.in_ok-len.ensures.durable told;
      below = omega arith;
    }

pub returns-in_err-log-clause-any_moment : goal.returns-in_err-log-clause-any_moment
returns-in_err-log-clause-any_moment g c = λ told.
    let old = g.V.Vol.disk c.args.vol.now in
    let roomy = g.V.Vol.disk c.make_room.new.vol in
    let u : IsUnbegun roomy = unbegun_with_room old (c.requires.unbegun told) roomy (c.make_room.ensures.any_moment told) (c.in_ok-len.ensures.keeps told) (c.in_ok-len.ensures.durable told) (c.in_ok-len.ensures.size told) in
    let room = making_room old (c.requires.unbegun told) roomy (c.make_room.ensures.any_moment told) (c.make_room.ensures.lengths told) in
    nothing_then old roomy (g.V.Vol.disk c.start.new.vol) room (starting roomy u (g.V.Vol.disk c.start.new.vol) (c.start.ensures.any_moment told) (c.start.ensures.lengths told))

pub returns-in_err-log-clause-elsewhere : goal.returns-in_err-log-clause-elsewhere
returns-in_err-log-clause-elsewhere g c = λ told.
    rests_with_room (g.V.Vol.disk c.args.vol.now) (g.V.Vol.disk c.make_room.new.vol) (g.V.Vol.disk c.start.new.vol) (c.make_room.ensures.any_moment told).elsewhere (c.start.ensures.any_moment told).elsewhere

pub append_batch-requires : goal.append_batch-requires
append_batch-requires g c =
    record {
      settled = λ told. ([], c.in_ok-log.ensures.settled told);
      head = subst (λ (log : LogState). IsSome log.head) (sym c.in_ok-log.ensures.log) refl;
      room = λ told.
          let has = c.in_ok-len.ensures.room told in
          let same = c.in_ok-log.ensures.as_long told in
          let nine = vacant_length c.in_ok-batch.batch c.in_ok-batch.ensures.value in
          let file = ap (λ (log : LogState). log.file) c.in_ok-log.ensures.log in
          let end = ap (λ (log : LogState). log.end) c.in_ok-log.ensures.log in
          subst (λ n. c.in_ok-log.log.end + 10 + length c.in_ok-batch.batch ≤ length ((g.V.Vol.disk c.start.new.vol).seen n)) (sym file) (omega (arith, has, same, nine, end, c.if-len-lt-BEGUN_LENGTH.false));
      end = let nine = vacant_length c.in_ok-batch.batch c.in_ok-batch.ensures.value in let end = ap (λ (log : LogState). log.end) c.in_ok-log.ensures.log in omega (arith, nine, end);
    }

pub returns-in_err-append_batch-clause-any_moment : goal.returns-in_err-append_batch-clause-any_moment
returns-in_err-append_batch-clause-any_moment g c = λ told.
    let old = g.V.Vol.disk c.args.vol.now in
    let roomy = g.V.Vol.disk c.make_room.new.vol in
    let u : IsUnbegun roomy = unbegun_with_room old (c.requires.unbegun told) roomy (c.make_room.ensures.any_moment told) (c.in_ok-len.ensures.keeps told) (c.in_ok-len.ensures.durable told) (c.in_ok-len.ensures.size told) in
    let room = making_room old (c.requires.unbegun told) roomy (c.make_room.ensures.any_moment told) (c.make_room.ensures.lengths told) in
    nothing_then old roomy (g.V.Vol.disk c.append_batch.new.vol) room
    (appending roomy u (g.V.Vol.disk c.start.new.vol) (c.start.ensures.any_moment told) (c.start.ensures.lengths told) (c.in_ok-log.ensures.as_long told) c.in_ok-log.log c.in_ok-log.ensures.log (c.in_ok-log.ensures.settled told) c.in_ok-batch.batch c.in_ok-batch.ensures.value c.in_ok-batch.ensures.bytes
    (g.V.Vol.disk c.append_batch.new.vol) (c.append_batch.ensures.any_moment told) (c.append_batch.ensures.lengths told))

pub returns-in_err-append_batch-clause-elsewhere : goal.returns-in_err-append_batch-clause-elsewhere
returns-in_err-append_batch-clause-elsewhere g c = λ told.
    rests_with_room (g.V.Vol.disk c.args.vol.now) (g.V.Vol.disk c.make_room.new.vol) (g.V.Vol.disk c.append_batch.new.vol) (c.make_room.ensures.any_moment told).elsewhere
    (begun_rests (g.V.Vol.disk c.make_room.new.vol) (g.V.Vol.disk c.start.new.vol) (g.V.Vol.disk c.append_batch.new.vol) c.in_ok-log.log c.in_ok-batch.batch (c.start.ensures.any_moment told) (ap (λ (log : LogState). log.file) c.in_ok-log.ensures.log) (c.in_ok-log.ensures.settled told)
    (c.append_batch.ensures.any_moment told))

pub returns-clause-any_moment : goal.returns-clause-any_moment
returns-clause-any_moment g c = λ told.
    let old = g.V.Vol.disk c.args.vol.now in
    let roomy = g.V.Vol.disk c.make_room.new.vol in
    let u : IsUnbegun roomy = unbegun_with_room old (c.requires.unbegun told) roomy (c.make_room.ensures.any_moment told) (c.in_ok-len.ensures.keeps told) (c.in_ok-len.ensures.durable told) (c.in_ok-len.ensures.size told) in
    let room = making_room old (c.requires.unbegun told) roomy (c.make_room.ensures.any_moment told) (c.make_room.ensures.lengths told) in
    nothing_then old roomy (g.V.Vol.disk c.append_batch.new.vol) room
    (appending roomy u (g.V.Vol.disk c.start.new.vol) (c.start.ensures.any_moment told) (c.start.ensures.lengths told) (c.in_ok-log.ensures.as_long told) c.in_ok-log.log c.in_ok-log.ensures.log (c.in_ok-log.ensures.settled told) c.in_ok-batch.batch c.in_ok-batch.ensures.value c.in_ok-batch.ensures.bytes
    (g.V.Vol.disk c.append_batch.new.vol) (c.append_batch.ensures.any_moment told) (c.append_batch.ensures.lengths told))

pub returns-clause-elsewhere : goal.returns-clause-elsewhere
returns-clause-elsewhere g c = λ told.
    rests_with_room (g.V.Vol.disk c.args.vol.now) (g.V.Vol.disk c.make_room.new.vol) (g.V.Vol.disk c.append_batch.new.vol) (c.make_room.ensures.any_moment told).elsewhere
    (begun_rests (g.V.Vol.disk c.make_room.new.vol) (g.V.Vol.disk c.start.new.vol) (g.V.Vol.disk c.append_batch.new.vol) c.in_ok-log.log c.in_ok-batch.batch (c.start.ensures.any_moment told) (ap (λ (log : LogState). log.file) c.in_ok-log.ensures.log) (c.in_ok-log.ensures.settled told)
    (c.append_batch.ensures.any_moment told))

pub returns-clause-settled : goal.returns-clause-settled
returns-clause-settled g c = λ told.
    subst (λ (records : Bytes). IsSettled c.append_batch.new.self (records ∷ []) (g.V.Vol.disk c.append_batch.new.vol)) c.in_ok-batch.ensures.value (c.in_ok-append_batch.ensures.appended told [] (c.in_ok-log.ensures.settled told))

pub returns-clause-base : goal.returns-clause-base
returns-clause-base g c = λ told.
    let old = g.V.Vol.disk c.args.vol.now in
    let roomy = g.V.Vol.disk c.make_room.new.vol in
    let u : IsUnbegun roomy = unbegun_with_room old (c.requires.unbegun told) roomy (c.make_room.ensures.any_moment told) (c.in_ok-len.ensures.keeps told) (c.in_ok-len.ensures.durable told) (c.in_ok-len.ensures.size told) in
    let room = making_room old (c.requires.unbegun told) roomy (c.make_room.ensures.any_moment told) (c.make_room.ensures.lengths told) in
    begun roomy u (g.V.Vol.disk c.start.new.vol) (c.start.ensures.any_moment told) (c.start.ensures.lengths told) (c.in_ok-log.ensures.as_long told) c.in_ok-log.log c.in_ok-log.ensures.log (c.in_ok-log.ensures.settled told) c.in_ok-batch.batch c.in_ok-batch.ensures.value c.in_ok-batch.ensures.bytes
    c.append_batch.new.self (g.V.Vol.disk c.append_batch.new.vol) (c.append_batch.ensures.any_moment told) (c.in_ok-append_batch.ensures.appended told) c.in_ok-append_batch.ensures.log
