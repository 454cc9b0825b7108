use Rattle.memory_place.proofs.Recorded.{at_err, rests}
use Rattle.memory_place.proofs.live_stream.LiveStream.make_consumer.Goals as goal

pub returns-in_err-kept_name-clause-err_recorded : goal.returns-in_err-kept_name-clause-err_recorded
returns-in_err-kept_name-clause-err_recorded c = at_err c.from_residual.result (rw (← c.self.view_is) (rests c.args.own.now c.self.inside.state c.requires.fresh c.holds.ensures.settled))

pub returns-in_err-kept_config-clause-err_recorded : goal.returns-in_err-kept_config-clause-err_recorded
returns-in_err-kept_config-clause-err_recorded c = at_err c.from_residual-in_err-kept_config.result (rw (← c.self.view_is) (rests c.args.own.now c.self.inside.state c.requires.fresh c.holds.ensures.settled))
