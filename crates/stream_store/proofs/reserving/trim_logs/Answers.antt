use Rattle.std.proofs.Common.{ℕ, List, arith, subst, sym}
use Rattle.gate_log.specs.Growing.{EndsBefore}
use Rattle.stream_store.proofs.Committing.{durable_by}
use Rattle.stream_store.proofs.Known.{bases_then, keeps_then}
use Rattle.stream_store.proofs.Unused.{rests_after}
use Rattle.stream_store.proofs.reserving.trim_logs.Goals as goal

pub trim_log-requires : goal.trim_log-requires
trim_log-requires g c =
    record { low = λ told. omega arith; ends = λ told. (c.requires.ends told).0; durable = λ told. (c.requires.durable told).0 }

pub trim_log-requires-2 : goal.trim_log-requires-2
trim_log-requires-2 g c =
    record {
      low = λ told. omega arith;
      ends = λ told.
          let rests = c.trim_log.ensures.elsewhere told 1 (λ is. omega (arith, is)) in
          subst (λ (l : List ℕ). EndsBefore c.args.limit l) (sym rests.seen) (c.requires.ends told).1;
      durable = λ told. durable_by 1 (g.V.Vol.disk c.args.vol.now) (g.V.Vol.disk c.trim_log.new.vol) (c.trim_log.ensures.elsewhere told 1 (λ is. omega (arith, is))) (c.requires.durable told).1;
    }

pub returns-in_err-trim_log-clause-elsewhere : goal.returns-in_err-trim_log-clause-elsewhere
returns-in_err-trim_log-clause-elsewhere g c = λ told file high.
    c.trim_log.ensures.elsewhere told file (λ is. omega (arith, is, high))

pub returns-in_err-trim_log-2-clause-any_moment : goal.returns-in_err-trim_log-2-clause-any_moment
returns-in_err-trim_log-2-clause-any_moment g c = λ told.
    bases_then (g.V.Vol.disk c.args.vol.now) (g.V.Vol.disk c.trim_log.new.vol) (g.V.Vol.disk c.trim_log-2.new.vol) (c.trim_log.ensures.any_moment told) (c.in_ok-trim_log.ensures.keeps told) (c.trim_log-2.ensures.any_moment told)

pub returns-in_err-trim_log-2-clause-elsewhere : goal.returns-in_err-trim_log-2-clause-elsewhere
returns-in_err-trim_log-2-clause-elsewhere g c = λ told file high.
    rests_after file (g.V.Vol.disk c.args.vol.now) (g.V.Vol.disk c.trim_log.new.vol) (g.V.Vol.disk c.trim_log-2.new.vol) (c.trim_log.ensures.elsewhere told file (λ is. omega (arith, is, high))) (c.trim_log-2.ensures.elsewhere told file (λ is. omega (arith, is, high)))

pub returns-in_err-trim_log-2-clause-reserved : goal.returns-in_err-trim_log-2-clause-reserved
returns-in_err-trim_log-2-clause-reserved g c = λ count within is.
    c.trim_log-2.ensures.reserved count within (c.trim_log.ensures.reserved count within is)

pub returns-in_err-trim_log-2-clause-logs : goal.returns-in_err-trim_log-2-clause-logs
returns-in_err-trim_log-2-clause-logs g c = λ short.
    c.trim_log-2.ensures.logs (c.trim_log.ensures.logs short)

pub returns-clause-any_moment : goal.returns-clause-any_moment
returns-clause-any_moment g c = λ told.
    bases_then (g.V.Vol.disk c.args.vol.now) (g.V.Vol.disk c.trim_log.new.vol) (g.V.Vol.disk c.trim_log-2.new.vol) (c.trim_log.ensures.any_moment told) (c.in_ok-trim_log.ensures.keeps told) (c.trim_log-2.ensures.any_moment told)

pub returns-clause-elsewhere : goal.returns-clause-elsewhere
returns-clause-elsewhere g c = λ told file high.
    rests_after file (g.V.Vol.disk c.args.vol.now) (g.V.Vol.disk c.trim_log.new.vol) (g.V.Vol.disk c.trim_log-2.new.vol) (c.trim_log.ensures.elsewhere told file (λ is. omega (arith, is, high))) (c.trim_log-2.ensures.elsewhere told file (λ is. omega (arith, is, high)))

pub returns-clause-reserved : goal.returns-clause-reserved
returns-clause-reserved g c = λ count within is.
    c.trim_log-2.ensures.reserved count within (c.trim_log.ensures.reserved count within is)

pub returns-clause-logs : goal.returns-clause-logs
returns-clause-logs g c = λ short.
    c.trim_log-2.ensures.logs (c.trim_log.ensures.logs short)

pub returns-clause-known : goal.returns-clause-known
returns-clause-known g c = λ told are.
    c.in_ok-trim_log-2.ensures.known told (c.in_ok-trim_log.ensures.known told are)

pub returns-clause-keeps : goal.returns-clause-keeps
returns-clause-keeps g c = λ told.
    keeps_then (g.V.Vol.disk c.args.vol.now) (g.V.Vol.disk c.trim_log.new.vol) (g.V.Vol.disk c.trim_log-2.new.vol) (c.in_ok-trim_log.ensures.keeps told) (c.in_ok-trim_log-2.ensures.keeps told)

pub returns-clause-closed : goal.returns-clause-closed
returns-clause-closed g c = λ told log closed.
    c.in_ok-trim_log-2.ensures.closed told log (c.in_ok-trim_log.ensures.closed told log closed)
