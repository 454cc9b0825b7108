use Rattle.std.proofs.Common.{ap, arith, refl}
use Rattle.std.proofs.lemmas.Bool.{true≢false}
use Rattle.stream_store.proofs.Committing.{durable_by}
use Rattle.stream_store.proofs.Known.{bases_then, keeps_then, longer_then, made_of, more_same, more_then, still_leaves}
use Rattle.stream_store.proofs.Unused.{rests_after}
use Rattle.stream_store.proofs.reserving.reserve_logs.Goals as goal

pub returns-then-is_reserved-clause-more : goal.returns-then-is_reserved-clause-more
returns-then-is_reserved-clause-more g c =
    more_same c.args.rooms.now

pub returns-then-is_reserved-clause-known : goal.returns-then-is_reserved-clause-known
returns-then-is_reserved-clause-known g c = λ told are.
    are

pub returns-then-is_reserved-clause-keeps : goal.returns-then-is_reserved-clause-keeps
returns-then-is_reserved-clause-keeps g c = λ told log b base is.
    is

pub returns-then-is_reserved-clause-closed : goal.returns-then-is_reserved-clause-closed
returns-then-is_reserved-clause-closed g c = λ told log closed.
    closed

pub returns-then-is_reserved-clause-elsewhere : goal.returns-then-is_reserved-clause-elsewhere
returns-then-is_reserved-clause-elsewhere g c = λ told file high.
    record { seen = refl; leaves = λ bytes left. left }

pub returns-then-is_reserved-clause-longer : goal.returns-then-is_reserved-clause-longer
returns-then-is_reserved-clause-longer g c = λ told file.
    omega arith

pub returns-then-is_reserved-clause-any_moment : goal.returns-then-is_reserved-clause-any_moment
returns-then-is_reserved-clause-any_moment g c = λ told.
    still_leaves (g.V.Vol.disk c.args.vol.now) (g.met.V.Vol.clocked c.args.vol.now)

pub returns-in_default-clause-more : goal.returns-in_default-clause-more
returns-in_default-clause-more g c =
    more_same c.args.rooms.now

pub returns-in_default-clause-known : goal.returns-in_default-clause-known
returns-in_default-clause-known g c = λ told are.
    are

pub returns-in_default-clause-keeps : goal.returns-in_default-clause-keeps
returns-in_default-clause-keeps g c = λ told log b base is.
    is

pub returns-in_default-clause-closed : goal.returns-in_default-clause-closed
returns-in_default-clause-closed g c = λ told log closed.
    closed

pub returns-in_default-clause-elsewhere : goal.returns-in_default-clause-elsewhere
returns-in_default-clause-elsewhere g c = λ told file high.
    record { seen = refl; leaves = λ bytes left. left }

pub returns-in_default-clause-longer : goal.returns-in_default-clause-longer
returns-in_default-clause-longer g c = λ told file.
    omega arith

pub returns-in_default-clause-any_moment : goal.returns-in_default-clause-any_moment
returns-in_default-clause-any_moment g c = λ told.
    still_leaves (g.V.Vol.disk c.args.vol.now) (g.met.V.Vol.clocked c.args.vol.now)

pub returns-in_default-clause-refused : goal.returns-in_default-clause-refused
returns-in_default-clause-refused g c = λ fits.
    absurd (fits c.in_default.ensures.value)

pub returns-then-is_reserved-clause-refused : goal.returns-then-is_reserved-clause-refused
returns-then-is_reserved-clause-refused g c = λ fits.
    record { later = omega arith; failed = λ is. absurd (true≢false (ap made_of is)) }

-- ---- the first log

pub lengthen-requires : goal.lengthen-requires
lengthen-requires g c = record {
  low = λ told. omega arith;
  head = omega (arith, c.in-Some.ensures.value.0);
  short = c.in-Some.ensures.value.1;
  logs = c.requires.logs;
  durable = λ told. (c.requires.durable told).0;
}

pub lengthen-requires-2 : goal.lengthen-requires-2
lengthen-requires-2 g c = record {
  low = λ told. omega arith;
  head = omega (arith, c.in-Some.ensures.value.0);
  short = c.in-Some.ensures.value.1;
  logs = c.lengthen.ensures.logs;
  durable = λ told. durable_by 1 (g.V.Vol.disk c.args.vol.now) (g.V.Vol.disk c.lengthen.new.vol) (c.lengthen.ensures.elsewhere told 1 (λ is. omega (arith, is))) (c.requires.durable told).1;
}

-- ---- and the other

pub returns-in_err-zero-clause-elsewhere : goal.returns-in_err-zero-clause-elsewhere
returns-in_err-zero-clause-elsewhere g c = λ told file high.
    c.lengthen.ensures.elsewhere told file (λ is. omega (arith, is, high))

pub returns-then-not-zero-clause-elsewhere : goal.returns-then-not-zero-clause-elsewhere
returns-then-not-zero-clause-elsewhere g c = λ told file high.
    c.lengthen.ensures.elsewhere told file (λ is. omega (arith, is, high))

pub returns-in_err-one-clause-any_moment : goal.returns-in_err-one-clause-any_moment
returns-in_err-one-clause-any_moment g c = λ told.
    bases_then (g.V.Vol.disk c.args.vol.now) (g.V.Vol.disk c.lengthen.new.vol) (g.V.Vol.disk c.lengthen-2.new.vol) (c.lengthen.ensures.any_moment told) (c.in_ok-zero.ensures.keeps told) (c.lengthen-2.ensures.any_moment told)

pub returns-in_err-one-clause-elsewhere : goal.returns-in_err-one-clause-elsewhere
returns-in_err-one-clause-elsewhere g c = λ told file high.
    rests_after file (g.V.Vol.disk c.args.vol.now) (g.V.Vol.disk c.lengthen.new.vol) (g.V.Vol.disk c.lengthen-2.new.vol) (c.lengthen.ensures.elsewhere told file (λ is. omega (arith, is, high))) (c.lengthen-2.ensures.elsewhere told file (λ is. omega (arith, is, high)))

pub returns-clause-any_moment : goal.returns-clause-any_moment
returns-clause-any_moment g c = λ told.
    bases_then (g.V.Vol.disk c.args.vol.now) (g.V.Vol.disk c.lengthen.new.vol) (g.V.Vol.disk c.lengthen-2.new.vol) (c.lengthen.ensures.any_moment told) (c.in_ok-zero.ensures.keeps told) (c.lengthen-2.ensures.any_moment told)

pub returns-clause-elsewhere : goal.returns-clause-elsewhere
returns-clause-elsewhere g c = λ told file high.
    rests_after file (g.V.Vol.disk c.args.vol.now) (g.V.Vol.disk c.lengthen.new.vol) (g.V.Vol.disk c.lengthen-2.new.vol) (c.lengthen.ensures.elsewhere told file (λ is. omega (arith, is, high))) (c.lengthen-2.ensures.elsewhere told file (λ is. omega (arith, is, high)))

pub returns-clause-keeps : goal.returns-clause-keeps
returns-clause-keeps g c = λ told.
    keeps_then (g.V.Vol.disk c.args.vol.now) (g.V.Vol.disk c.lengthen.new.vol) (g.V.Vol.disk c.lengthen-2.new.vol) (c.in_ok-zero.ensures.keeps told) (c.in_ok-one.ensures.keeps told)

pub returns-clause-longer : goal.returns-clause-longer
returns-clause-longer g c = λ told.
    longer_then (g.V.Vol.disk c.args.vol.now) (g.V.Vol.disk c.lengthen.new.vol) (g.V.Vol.disk c.lengthen-2.new.vol) (c.in_ok-zero.ensures.longer told) (c.in_ok-one.ensures.longer told)

pub returns-clause-closed : goal.returns-clause-closed
returns-clause-closed g c = λ told log closed.
    c.in_ok-one.ensures.closed told log (c.in_ok-zero.ensures.closed told log closed)

pub returns-clause-more : goal.returns-clause-more
returns-clause-more g c =
    more_then c.args.rooms.now c.lengthen.new.rooms c.lengthen-2.new.rooms c.lengthen.ensures.more c.lengthen-2.ensures.more

pub returns-clause-known : goal.returns-clause-known
returns-clause-known g c = λ told are.
    c.in_ok-one.ensures.known told (c.in_ok-zero.ensures.known told are)
