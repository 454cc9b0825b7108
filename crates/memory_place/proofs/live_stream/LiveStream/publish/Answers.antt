use Rattle.js_model.specs.declared.reply.Verdict.TheVariants.{Duplicate as TakenBefore, Refused as RefusedBy}
use Rattle.memory_place.proofs.Recorded.{at_err, rests}
use Rattle.memory_place.proofs.RecordedStreams.{publishes_not}
use Rattle.std.proofs.Common.{◌∙◌, refl, sym}
use Rattle.memory_place.proofs.Answering.{publish_refused, publish_repeated, publish_stored}
use Rattle.memory_place.proofs.live_stream.LiveStream.publish.Goals as goal

pub returns-in-Duplicate-clause-acts : goal.returns-in-Duplicate-clause-acts
returns-in-Duplicate-clause-acts c =
    rw (← c.self.view_is) (publish_repeated c.self.inside.state c.args.publish.now c.in-Duplicate.seq (sym c.in_ok-verdict.ensures.value ∙ c.in-Duplicate.is))

pub returns-in-Refused-clause-acts : goal.returns-in-Refused-clause-acts
returns-in-Refused-clause-acts c =
    rw (← c.self.view_is) (publish_refused c.self.inside.state c.args.publish.now c.in-Refused.refusal (sym c.in_ok-verdict.ensures.value ∙ c.in-Refused.is))

pub returns-in_ok-store-in-Take-clause-acts : goal.returns-in_ok-store-in-Take-clause-acts
returns-in_ok-store-in-Take-clause-acts c =
    publish_stored c.args.self.now c.store.new.self c.args.publish.now _ _ (rw c.self.view_is at (sym c.in_ok-verdict.ensures.value)) c.in-Take.is c.in_ok-store-in-Take.ensures.seq c.in_ok-store-in-Take.ensures.stored c.in_ok-store-in-Take.ensures.again

pub returns-in-Duplicate-clause-recorded : goal.returns-in-Duplicate-clause-recorded
returns-in-Duplicate-clause-recorded c =
    rw (← c.self.view_is)
    (publishes_not c.args.own.now c.self.inside.state c.args.publish.now (TakenBefore c.in-Duplicate.seq) (sym c.in_ok-verdict.ensures.value ∙ c.in-Duplicate.is) refl refl refl c.requires.fresh c.holds.ensures.settled)

pub returns-in-Refused-clause-recorded : goal.returns-in-Refused-clause-recorded
returns-in-Refused-clause-recorded c =
    rw (← c.self.view_is)
    (publishes_not c.args.own.now c.self.inside.state c.args.publish.now (RefusedBy c.in-Refused.refusal) (sym c.in_ok-verdict.ensures.value ∙ c.in-Refused.is) refl refl refl c.requires.fresh c.holds.ensures.settled)

pub returns-in_err-verdict-clause-err_recorded : goal.returns-in_err-verdict-clause-err_recorded
returns-in_err-verdict-clause-err_recorded c = at_err c.from_residual.result (rw (← c.self.view_is) (rests c.args.own.now c.self.inside.state c.requires.fresh c.holds.ensures.settled))

pub returns-in_err-store-in-Take-clause-err_recorded : goal.returns-in_err-store-in-Take-clause-err_recorded
returns-in_err-store-in-Take-clause-err_recorded c =
    at_err c.from_residual-in_err-store-in-Take.result
    (rw (c.in_err-store-in-Take.ensures.err_own, c.in_err-store-in-Take.ensures.err, ← c.self.view_is) (rests c.args.own.now c.self.inside.state c.requires.fresh c.holds.ensures.settled))
