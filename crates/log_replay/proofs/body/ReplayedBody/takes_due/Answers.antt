use Rattle.std.proofs.Common.{List, subst}
use Rattle.std.specs.Bool.{OnTrue}
use Rattle.js_model.specs.declared.consumer.Consumer.{Consumer}
use Rattle.log_replay.specs.Taken.{HasPending, IsThere}
use Rattle.log_replay.proofs.body.ReplayedBody.takes_due.Goals as goal

pub returns : goal.returns
returns c = record { there = rw (← c.self.view_is) (subst (λ (cs : List Consumer). OnTrue c.one_takes_due.result (IsThere cs c.args.name.now (HasPending c.args.seq))) c.as_slice.ensures.value c.one_takes_due.ensures.there) }
