use Rattle.std.proofs.Common.{◌∙◌}
use Rattle.std.proofs.lemmas.Result.{IfOk-weaker, on_err_weaker, on_ok_weaker}
use Rattle.memory_place.proofs.Answering.{answered_by}
use Rattle.memory_place.proofs.live_stream.LiveStream.answer.Goals as goal

pub returns-clause-answers : goal.returns-clause-answers
returns-clause-answers c = IfOk-weaker c.act-said.result _ _ (λ reply h. answered_by _ reply c.args.outs.now _ _ _ h c.release.ensures.value) c.act-said.ensures.acts

pub returns-clause-recorded : goal.returns-clause-recorded
returns-clause-recorded c = on_ok_weaker c.act-said.result (λ told. c.release.ensures.recorded ∙ told) c.act-said.ensures.recorded

pub returns-clause-err : goal.returns-clause-err
returns-clause-err c = on_err_weaker c.act-said.result (λ same. c.release.ensures.value ∙ same) c.act-said.ensures.err

pub returns-clause-err_recorded : goal.returns-clause-err_recorded
returns-clause-err_recorded c = on_err_weaker c.act-said.result (λ told. c.release.ensures.recorded ∙ told) c.act-said.ensures.err_recorded
