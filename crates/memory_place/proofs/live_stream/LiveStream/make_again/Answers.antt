use Rattle.memory_place.proofs.Recorded.{rests}
use Rattle.std.proofs.Common.{◌∙◌, sym}
use Rattle.std.proofs.lemmas.Result.{IfOk-weaker}
use Rattle.memory_place.proofs.Answering.{acts_as, made_other, made_same, quiet}
use Rattle.memory_place.proofs.Shown.{other_config_utf8}
use Rattle.memory_place.proofs.live_stream.LiveStream.make_again.Goals as goal

pub returns-then-same_stream_config-clause-acts :
    goal.returns-then-same_stream_config-clause-acts
returns-then-same_stream_config-clause-acts c =
    let same = rw c.config.ensures.value at (sym c.same_stream_config.ensures.value ∙ c.if-same_stream_config.true) in
    rw (← c.self.view_is)
    (IfOk-weaker c.show.result _ _ (λ reply h. acts_as _ _ reply c.show.new.self (made_same c.self.inside.state c.args.config.now same) h) (rw (← c.self.view_is) at c.show.ensures.acts))

pub returns-in_ok-other_config-clause-acts : goal.returns-in_ok-other_config-clause-acts
returns-in_ok-other_config-clause-acts c =
    rw (c.in_ok-other_config.ensures.value, ← c.self.view_is)
    (quiet c.self.inside.state _ _ (made_other c.self.inside.state c.args.config.now (rw c.config.ensures.value at (sym c.same_stream_config.ensures.value ∙ c.if-same_stream_config.false))))

pub returns-in_ok-other_config-clause-shown : goal.returns-in_ok-other_config-clause-shown
returns-in_ok-other_config-clause-shown c = other_config_utf8 _ c.in_ok-other_config.ensures.value

pub returns-in_err-other_config-clause-recorded : goal.returns-in_err-other_config-clause-recorded
returns-in_err-other_config-clause-recorded c = rw (← c.self.view_is) (rests c.args.own.now c.self.inside.state c.requires.fresh c.holds.ensures.settled)

pub returns-in_ok-other_config-clause-recorded : goal.returns-in_ok-other_config-clause-recorded
returns-in_ok-other_config-clause-recorded c = rw (← c.self.view_is) (rests c.args.own.now c.self.inside.state c.requires.fresh c.holds.ensures.settled)
