use Rattle.place_records.specs.declared.made.OwnRecords.{OwnRecords}
use Rattle.memory_place.proofs.Recorded.{done, released, rests}
use Rattle.std.proofs.Common.{ap, refl, sym, ◌∙◌}
use Rattle.js_model.specs.Retention.{kept}
use Rattle.memory_place.proofs.live_stream.LiveStream.release.Goals as goal

pub returns-clause-value : goal.returns-clause-value
returns-clause-value c = rw (← c.self.view_is) (c.release.ensures.value ∙ ap kept (sym c.holds.ensures.settled))

pub returns-clause-again : goal.returns-clause-again
returns-clause-again c = ap kept c.release.ensures.settled ∙ c.release.ensures.again

pub returns-clause-then : goal.returns-clause-then
returns-clause-then c =
    let own : OwnRecords = record { effect = c.args.own.now.effect; removed = c.release.new.gone } in
    done own c.release.new.self c.release.ensures.again
    ∙ rw (← c.self.view_is) (released c.args.own.now own c.self.inside.state c.release.new.self c.release.ensures.value refl c.release.ensures.gone)

pub returns-clause-fresh : goal.returns-clause-fresh
returns-clause-fresh c = λ fresh.
    let own : OwnRecords = record { effect = c.args.own.now.effect; removed = c.release.new.gone } in
    rw (← c.self.view_is)
    (released c.args.own.now own c.self.inside.state c.release.new.self c.release.ensures.value refl c.release.ensures.gone
    ∙ rests c.args.own.now c.self.inside.state fresh c.holds.ensures.settled)

pub returns-clause-fresh_then : goal.returns-clause-fresh_then
returns-clause-fresh_then c = λ fresh.
    let own : OwnRecords = record { effect = c.args.own.now.effect; removed = c.release.new.gone } in
    rw (← c.self.view_is)
    (done own c.release.new.self c.release.ensures.again
    ∙ released c.args.own.now own c.self.inside.state c.release.new.self c.release.ensures.value refl c.release.ensures.gone
    ∙ rests c.args.own.now c.self.inside.state fresh c.holds.ensures.settled)
