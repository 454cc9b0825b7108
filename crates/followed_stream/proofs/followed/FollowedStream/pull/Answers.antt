use Rattle.std.proofs.Common.{arith}
use Rattle.followed_stream.proofs.AtPlaces.{pulls}
use Rattle.followed_stream.proofs.Changing.{place_there}
use Rattle.followed_stream.proofs.followed.FollowedStream.pull.Goals as goal

pub index_mut-follower-requires : goal.index_mut-follower-requires
index_mut-follower-requires c =
    let i = c.self.inside in
    let l = place_there i.stored c.args.self.now i.followers.items c.args.place c.self.view_is c.requires.within in
    omega (arith, l, i.followers.ok.0)

pub invariant_of-self : goal.invariant_of-self
invariant_of-self c =
    let i = c.self.inside in
    let l = place_there i.stored c.args.self.now i.followers.items c.args.place c.self.view_is c.requires.within in
    (pulls i.stored i.followers.items c.self.invariant c.args.place c.index_mut-follower.result.now l c.index_mut-follower.ensures.value c.pull.result c.moment-now.result _ c.args.ask _ _ c.pull.new.self c.moment-now.ensures.value
    c.pull.ensures.ok c.pull.ensures.outs c.pull.ensures.err).followed

pub returns : goal.returns
returns c =
    let i = c.self.inside in
    let l = place_there i.stored c.args.self.now i.followers.items c.args.place c.self.view_is c.requires.within in
    let w = pulls i.stored i.followers.items c.self.invariant c.args.place c.index_mut-follower.result.now l c.index_mut-follower.ensures.value c.pull.result c.moment-now.result _ c.args.ask _ _ c.pull.new.self c.moment-now.ensures.value
    c.pull.ensures.ok c.pull.ensures.outs c.pull.ensures.err in
    record { pulled = rw (← c.self.view_is) w.ok; sound = w.sound; err = rw (← c.self.view_is) w.err; err_outs = c.pull.ensures.err_outs }
