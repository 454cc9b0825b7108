use Rattle.std.proofs.Common.{◌≤◌, refl}
use Rattle.followed_stream.proofs.Followings.{followed_later}
use Rattle.followed_stream.proofs.followed.FollowedStream.pass_time.Goals as goal

pub invariant_of-self : goal.invariant_of-self
invariant_of-self c =
    let i = c.self.inside in
    let later : i.stored.moment ≤ c.args.now = rw (← c.self.view_is) at c.requires.later in
    rw c.pass_time.ensures.left (followed_later i.stored i.followers.items c.self.invariant c.args.now later)

pub returns-clause-left : goal.returns-clause-left
returns-clause-left c = rw (← c.self.view_is) (rw c.pass_time.ensures.left refl)

pub returns-clause-sound : goal.returns-clause-sound
returns-clause-sound c =
    let i = c.self.inside in
    let later : i.stored.moment ≤ c.args.now = rw (← c.self.view_is) at c.requires.later in
    rw c.pass_time.ensures.left (followed_later i.stored i.followers.items c.self.invariant c.args.now later).attended
