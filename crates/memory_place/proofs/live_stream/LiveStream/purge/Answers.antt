use Rattle.std.proofs.Common.{refl}
use Rattle.place_records.specs.declared.made.OwnRecords.{OwnRecords}
use Rattle.memory_place.proofs.Recorded.{at_err, rests_as}
use Rattle.memory_place.proofs.RecordedStreams.{purges_all}
use Rattle.memory_place.proofs.Answering.{purges}
use Rattle.memory_place.proofs.live_stream.LiveStream.purge.Goals as goal

pub returns-clause-acts : goal.returns-clause-acts
returns-clause-acts c =
    rw (← c.self.view_is)
    (purges c.self.inside.state c.purge.new.self _ _ c.in_ok-purge.ensures.count c.in_ok-purge.ensures.ok)

pub returns-clause-recorded : goal.returns-clause-recorded
returns-clause-recorded c = λ to.
    let own : OwnRecords = record { effect = c.args.own.now.effect; removed = c.purge.new.gone } in
    rw (← c.self.view_is)
    (purges_all c.args.own.now own c.self.inside.state c.purge.new.self to c.args.pattern.now c.args.below c.args.keep c.requires.fresh refl c.in_ok-purge.ensures.gone c.in_ok-purge.ensures.ok c.purge.ensures.settled)

pub returns-in_err-purge-clause-err_recorded : goal.returns-in_err-purge-clause-err_recorded
returns-in_err-purge-clause-err_recorded c =
    let own : OwnRecords = record { effect = c.args.own.now.effect; removed = c.purge.new.gone } in
    at_err c.from_residual.result (rw (← c.self.view_is) (rests_as c.args.own.now own c.self.inside.state c.purge.new.self refl c.in_err-purge.ensures.err_gone c.in_err-purge.ensures.err c.requires.fresh c.holds.ensures.settled))
