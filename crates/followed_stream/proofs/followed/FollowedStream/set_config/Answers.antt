use Rattle.std.proofs.Common.{refl}
use Rattle.followed_stream.proofs.Followings.{followed_config}
use Rattle.followed_stream.proofs.followed.FollowedStream.set_config.Goals as goal

pub invariant_of-self : goal.invariant_of-self
invariant_of-self c = rw c.set_config.ensures.value (followed_config c.self.inside.stored c.self.inside.followers.items c.self.invariant c.args.config c.requires.valid)

pub returns-clause-value : goal.returns-clause-value
returns-clause-value c = rw (← c.self.view_is) (rw c.set_config.ensures.value refl)

pub returns-clause-sound : goal.returns-clause-sound
returns-clause-sound c = rw c.set_config.ensures.value (followed_config c.self.inside.stored c.self.inside.followers.items c.self.invariant c.args.config c.requires.valid).attended
