use Rattle.std.proofs.Common.{arith, inr}
use Rattle.stream_store.specs.Steps.{with_steps}
use Rattle.stream_store.proofs.Alternated.{other_low}
use Rattle.stream_store.proofs.Alternations.{into_low}
use Rattle.stream_store.proofs.Closed.{closed_written, next_closing}
use Rattle.stream_store.proofs.Known.{same_then}
use Rattle.stream_store.proofs.Unused.{rests_after}
use Rattle.stream_store.proofs.alternating.write_first.Goals as goal

pub write_staged-requires : goal.write_staged-requires
write_staged-requires g c = record { ready = c.requires.ready; room = c.requires.room; staged = λ told. inr (c.requires.staged told) }

pub returns-in_err-write_staged-clause-elsewhere : goal.returns-in_err-write_staged-clause-elsewhere
returns-in_err-write_staged-clause-elsewhere g c = λ told file high none.
    let low = into_low c.args.log.now c.args.staged.now (g.V.Vol.disk c.args.vol.now) (c.requires.staged told) in
    c.write_staged.ensures.elsewhere told file (λ is. omega (arith, is, high, low)) none

pub close_other-requires : goal.close_other-requires
close_other-requires g c = record {
  base = λ told.
      let t = c.requires.staged told in
      (with_steps c.args.staged.now.steps.items t.1, t.3, c.in_ok-write_staged.ensures.next_written told t.0 t.1 t.2 t.3 t.4);
}

pub returns-in_err-close_other-clause-any_moment : goal.returns-in_err-close_other-clause-any_moment
returns-in_err-close_other-clause-any_moment g c = λ told log b base next t.
    next_closing c.write_staged.new.log (with_steps c.args.staged.now.steps.items b) base next (g.V.Vol.disk c.args.vol.now) (g.V.Vol.disk c.write_staged.new.vol) (g.V.Vol.disk c.close_other.new.vol)
    (c.write_staged.ensures.next_any_moment told log b base next t) (c.in_ok-write_staged.ensures.next_written told log b base next t) (c.close_other.ensures.any_moment told)

pub returns-in_err-close_other-clause-elsewhere : goal.returns-in_err-close_other-clause-elsewhere
returns-in_err-close_other-clause-elsewhere g c = λ told file high none.
    let low = into_low c.args.log.now c.args.staged.now (g.V.Vol.disk c.args.vol.now) (c.requires.staged told) in
    let below = other_low c.write_staged.new.log.file in
    rests_after file (g.V.Vol.disk c.args.vol.now) (g.V.Vol.disk c.write_staged.new.vol) (g.V.Vol.disk c.close_other.new.vol)
    (c.write_staged.ensures.elsewhere told file (λ is. omega (arith, is, high, low)) none) ((c.close_other.ensures.any_moment told).elsewhere file (λ is. omega (arith, is, high, below)))

pub returns-clause-any_moment : goal.returns-clause-any_moment
returns-clause-any_moment g c = λ told log b base next t.
    next_closing c.write_staged.new.log (with_steps c.args.staged.now.steps.items b) base next (g.V.Vol.disk c.args.vol.now) (g.V.Vol.disk c.write_staged.new.vol) (g.V.Vol.disk c.close_other.new.vol)
    (c.write_staged.ensures.next_any_moment told log b base next t) (c.in_ok-write_staged.ensures.next_written told log b base next t) (c.close_other.ensures.any_moment told)

pub returns-clause-written : goal.returns-clause-written
returns-clause-written g c = λ told.
    closed_written c.args.log.now c.write_staged.new.log c.args.staged.now (g.V.Vol.disk c.args.vol.now) (g.V.Vol.disk c.write_staged.new.vol) (g.V.Vol.disk c.close_other.new.vol)
    (c.in_ok-write_staged.ensures.next_written told) (c.close_other.ensures.any_moment told) (g.met.V.Vol.honest told c.close_other.new.vol) (c.in_ok-close_other.ensures.closed told) (c.in_ok-close_other.ensures.durable told)

pub returns-clause-elsewhere : goal.returns-clause-elsewhere
returns-clause-elsewhere g c = λ told file high none.
    let low = into_low c.args.log.now c.args.staged.now (g.V.Vol.disk c.args.vol.now) (c.requires.staged told) in
    let below = other_low c.write_staged.new.log.file in
    rests_after file (g.V.Vol.disk c.args.vol.now) (g.V.Vol.disk c.write_staged.new.vol) (g.V.Vol.disk c.close_other.new.vol)
    (c.write_staged.ensures.elsewhere told file (λ is. omega (arith, is, high, low)) none) ((c.close_other.ensures.any_moment told).elsewhere file (λ is. omega (arith, is, high, below)))

pub returns-clause-as_long : goal.returns-clause-as_long
returns-clause-as_long g c = λ told.
    same_then (g.V.Vol.disk c.args.vol.now) (g.V.Vol.disk c.write_staged.new.vol) (g.V.Vol.disk c.close_other.new.vol) (c.in_ok-write_staged.ensures.as_long told) (c.in_ok-close_other.ensures.as_long told)
