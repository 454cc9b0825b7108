use Rattle.followed_stream.proofs.follower.Follower.tell_advance.Goals as goal

pub returns-clause-ok : goal.returns-clause-ok
returns-clause-ok c = rw (← c.self.view_is) c.tell_advance.ensures.ok
