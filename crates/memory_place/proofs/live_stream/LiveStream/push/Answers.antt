use Rattle.memory_place.proofs.Shown.{few_pushes}
use Rattle.memory_place.proofs.live_stream.LiveStream.push.Goals as goal

pub returns-in_err-follower-clause-few : goal.returns-in_err-follower-clause-few
returns-in_err-follower-clause-few c = rw (← c.self.view_is) (few_pushes c.self.inside.state c.holds.ensures.proper)

pub returns-clause-few : goal.returns-clause-few
returns-clause-few c = rw (← c.self.view_is) (few_pushes c.self.inside.state c.holds.ensures.proper)
