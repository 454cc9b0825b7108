use Rattle.std.proofs.Common.{refl}
use Rattle.followed_stream.proofs.Followings.{attended_alone, followed_alone}
use Rattle.followed_stream.proofs.followed.FollowedStream.make.Goals as goal

pub invariant_of-result : goal.invariant_of-result
invariant_of-result c = rw c.new.ensures.items (followed_alone c.make.result c.make.ensures.sound)

pub returns-clause-value : goal.returns-clause-value
returns-clause-value c = rw (c.make.ensures.value, c.new.ensures.items) refl

pub returns-clause-sound : goal.returns-clause-sound
returns-clause-sound c = rw c.new.ensures.items (attended_alone c.make.result c.make.ensures.sound)
