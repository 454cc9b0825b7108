use Rattle.followed_stream.proofs.followed.FollowedStreamView.at_or_before.Goals as goal

pub returns : goal.returns
returns c = record { value = rw (← c.self.view_is) c.at_or_before.ensures.value }
