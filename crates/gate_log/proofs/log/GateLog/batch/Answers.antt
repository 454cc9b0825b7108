use Rattle.std.proofs.Common.{◌≡◌, ◌∙◌, ◌+◌, ◌≤◌, length, take, drop, sym, ap, subst, arith}
use Rattle.std.proofs.Common.{◌++◌}
use Rattle.std.specs.Int.{w32, to_be_bytes}
use Rattle.gate_log.specs.LogState.{LogState}
use Rattle.js_base.specs.Bytes.{Bytes}
use Rattle.gate_log.proofs.GateReads.{at_end, at_gate, count_there, records_there, first_found}
use Rattle.gate_log.proofs.log.GateLog.batch.Goals as goal

pub returns-then-at-self-clause-found : goal.returns-then-at-self-clause-found
returns-then-at-self-clause-found g c = λ told front rest gate.
    at_end c.args.self.now front rest c.args.at (g.V.Vol.disk c.args.vol.now) gate (c.if-at-self.true ∙ ap (λ (l : LogState). l.end) c.self.view_is)

pub number_at-requires : goal.number_at-requires
number_at-requires g c = record {
  within = λ told.
      let some = c.requires.gate told in
      let end_is : c.self.inside.ends.last ≡ c.args.self.now.end = ap (λ (l : LogState). l.end) c.self.view_is in
      let here = at_gate c.args.self.now some.0 some.1 c.args.at (g.V.Vol.disk c.args.vol.now) some.2 (λ is. c.if-at-self.false (is ∙ sym end_is)) in
      let at_is : c.saturating_add.result ≡ c.args.at + 1 = omega (arith, end_is, here.before_end, c.saturating_add.ensures) in
      subst (λ (l : LogState). c.saturating_add.result + 4 ≤ length ((g.V.Vol.disk c.args.vol.now).seen l.file)) (sym c.self.view_is) (omega (arith, at_is, here.there.more));
}

pub bytes_at-requires : goal.bytes_at-requires
bytes_at-requires g c = record {
  within = λ told.
      let some = c.requires.gate told in
      let old = g.V.Vol.disk c.args.vol.now in
      let mid = g.V.Vol.disk c.number_at.new.vol in
      let end_is : c.self.inside.ends.last ≡ c.args.self.now.end = ap (λ (l : LogState). l.end) c.self.view_is in
      let here = at_gate c.args.self.now some.0 some.1 c.args.at old some.2 (λ is. c.if-at-self.false (is ∙ sym end_is)) in
      let at_is : c.saturating_add.result ≡ c.args.at + 1 = omega (arith, end_is, here.before_end, c.saturating_add.ensures) in
      let from_is : c.saturating_add-from.result ≡ c.args.at + 9 = omega (arith, end_is, here.before_end, c.saturating_add-from.ensures) in
      let read = subst (λ (l : LogState). drop c.saturating_add.result (old.seen l.file) ≡ to_be_bytes w32 c.in_ok-count.count ++ drop (c.saturating_add.result + 4) (old.seen l.file)) c.self.view_is (c.in_ok-count.ensures.value told) in
      let count_is = count_there (old.seen c.args.self.now.file) c.args.at here.records c.in_ok-count.count c.saturating_add.result here.there at_is (omega arith) read in
      subst (λ (l : LogState). c.saturating_add-from.result + c.in_ok-count.count ≤ length (mid.seen l.file)) (sym c.self.view_is)
      (omega (arith, from_is, count_is, here.there.more, ap length ((c.number_at.ensures.quiet told).seen c.args.self.now.file)));
}

pub returns-clause-found : goal.returns-clause-found
returns-clause-found g c = λ told front rest gate.
    let old = g.V.Vol.disk c.args.vol.now in
    let mid = g.V.Vol.disk c.number_at.new.vol in
    let end_is : c.self.inside.ends.last ≡ c.args.self.now.end = ap (λ (l : LogState). l.end) c.self.view_is in
    let here = at_gate c.args.self.now front rest c.args.at old gate (λ is. c.if-at-self.false (is ∙ sym end_is)) in
    let at_is : c.saturating_add.result ≡ c.args.at + 1 = omega (arith, end_is, here.before_end, c.saturating_add.ensures) in
    let from_is : c.saturating_add-from.result ≡ c.args.at + 9 = omega (arith, end_is, here.before_end, c.saturating_add-from.ensures) in
    let read = subst (λ (l : LogState). drop c.saturating_add.result (old.seen l.file) ≡ to_be_bytes w32 c.in_ok-count.count ++ drop (c.saturating_add.result + 4) (old.seen l.file)) c.self.view_is (c.in_ok-count.ensures.value told) in
    let count_is = count_there (old.seen c.args.self.now.file) c.args.at here.records c.in_ok-count.count c.saturating_add.result here.there at_is (omega arith) read in
    let bytes = subst (λ (l : LogState). c.in_ok-records.records ≡ take c.in_ok-count.count (drop c.saturating_add-from.result (mid.seen l.file))) c.self.view_is (c.in_ok-records.ensures.value told) in
    let is = records_there (old.seen c.args.self.now.file) c.args.at here.records c.in_ok-records.records c.in_ok-count.count c.saturating_add-from.result here.there from_is count_is (bytes ∙ ap (λ (b : Bytes). take c.in_ok-count.count (drop c.saturating_add-from.result b)) ((c.number_at.ensures.quiet told).seen c.args.self.now.file)) in
    let next_is : c.saturating_add-2.result ≡ c.args.at + 9 + length here.records = omega (arith, end_is, from_is, count_is, here.before_end, c.saturating_add-2.ensures) in
    first_found c.args.self.now front rest c.args.at old c.in_ok-records.records c.saturating_add-2.result gate here is next_is
