use Rattle.std.proofs.lemmas.Result.{IfOk-weaker}
use Rattle.memory_place.proofs.VerdictTexts.{verdict_text}
use Rattle.memory_place.proofs.messages.verdict.Goals as goal

pub returns-clause-shown : goal.returns-clause-shown
returns-clause-shown c =
    IfOk-weaker c.verdict.result _ _ (λ said is. rw is (verdict_text c.args.state.now c.args.publish.now c.last.ensures.order c.requires.told)) c.verdict.ensures.value
