use Rattle.std.proofs.Common.{arith}
use Rattle.followed_stream.proofs.AtPlaces.{drops, followed_without}
use Rattle.followed_stream.proofs.Changing.{place_there}
use Rattle.followed_stream.proofs.followed.FollowedStream.drop_consumer.Goals as goal

pub index-requires : goal.index-requires
index-requires c =
    let i = c.self.inside in
    let l = place_there i.stored c.args.self.now i.followers.items c.args.place c.self.view_is c.requires.within in
    omega (arith, l, i.followers.ok.0)

pub remove-requires : goal.remove-requires
remove-requires c =
    let i = c.self.inside in
    let l = place_there i.stored c.args.self.now i.followers.items c.args.place c.self.view_is c.requires.within in
    omega (arith, l, i.followers.ok.0)

pub invariant_of-self : goal.invariant_of-self
invariant_of-self c =
    let i = c.self.inside in
    let l = place_there i.stored c.args.self.now i.followers.items c.args.place c.self.view_is c.requires.within in
    rw c.remove.ensures.items (followed_without i.stored i.followers.items c.self.invariant c.args.place c.index.result.now l c.index.ensures)

pub returns-clause-dropped : goal.returns-clause-dropped
returns-clause-dropped c =
    let i = c.self.inside in
    let l = place_there i.stored c.args.self.now i.followers.items c.args.place c.self.view_is c.requires.within in
    rw (← c.self.view_is)
    (rw c.remove.ensures.items (drops i.stored i.followers.items c.self.invariant c.args.place c.index.result.now l c.index.ensures _ _ c.in_ok-tell_dropped.ensures.ok))

pub returns-clause-sound : goal.returns-clause-sound
returns-clause-sound c = (invariant_of-self c).attended
