use Rattle.std.proofs.Common.{◌∙◌, refl, sym}
use Rattle.place_records.specs.declared.made.OwnRecords.{OwnRecords}
use Rattle.memory_place.proofs.Recorded.{at_err, rests, still_fresh}
use Rattle.memory_place.proofs.RecordedStreams.{deletes_none, deletes_one}
use Rattle.memory_place.proofs.Shown.{no_message_utf8}
use Rattle.memory_place.proofs.live_stream.LiveStream.delete.Goals as goal

pub returns-then-delete-clause-recorded : goal.returns-then-delete-clause-recorded
returns-then-delete-clause-recorded c = λ to.
    let own : OwnRecords = record { effect = c.args.own.now.effect; removed = c.delete.new.gone } in
    rw (← c.self.view_is)
    (deletes_one c.args.own.now own c.self.inside.state c.delete.new.self to c.args.seq (sym c.delete.ensures.there ∙ c.if-delete.true) c.requires.fresh refl c.delete.ensures.gone c.delete.ensures.left c.delete.ensures.settled)

pub returns-clause-recorded : goal.returns-clause-recorded
returns-clause-recorded c = λ to.
    let own : OwnRecords = record { effect = c.args.own.now.effect; removed = c.delete.new.gone } in
    let left = c.delete.ensures.none c.if-delete.false in
    rw (left, ← c.self.view_is)
    (deletes_none own c.self.inside.state to c.args.seq (sym c.delete.ensures.there ∙ c.if-delete.false)
    (still_fresh c.args.own.now own c.self.inside.state c.delete.new.self c.requires.fresh refl left c.delete.ensures.gone) c.holds.ensures.settled)

pub returns-in_err-no_message-clause-err_recorded : goal.returns-in_err-no_message-clause-err_recorded
returns-in_err-no_message-clause-err_recorded c =
    let own : OwnRecords = record { effect = c.args.own.now.effect; removed = c.delete.new.gone } in
    let left = c.delete.ensures.none c.if-delete.false in
    at_err c.from_residual.result
    (rw (left, ← c.self.view_is)
    (rests own c.self.inside.state (still_fresh c.args.own.now own c.self.inside.state c.delete.new.self c.requires.fresh refl left c.delete.ensures.gone) c.holds.ensures.settled))

pub returns-clause-shown : goal.returns-clause-shown
returns-clause-shown c = no_message_utf8 _ c.in_ok-no_message.ensures.value
