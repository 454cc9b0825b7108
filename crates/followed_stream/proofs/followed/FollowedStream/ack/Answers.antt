use Rattle.std.proofs.Common.{arith}
use Rattle.followed_stream.proofs.AtPlaces.{acks_at}
use Rattle.followed_stream.proofs.Changing.{place_there}
use Rattle.followed_stream.proofs.followed.FollowedStream.ack.Goals as goal

pub index_mut-follower-requires : goal.index_mut-follower-requires
index_mut-follower-requires c =
    let i = c.self.inside in
    let l = place_there i.stored c.args.self.now i.followers.items c.args.place c.self.view_is c.requires.within in
    omega (arith, l, i.followers.ok.0)

pub invariant_of-self : goal.invariant_of-self
invariant_of-self c =
    let i = c.self.inside in
    let l = place_there i.stored c.args.self.now i.followers.items c.args.place c.self.view_is c.requires.within in
    (acks_at i.stored i.followers.items c.self.invariant c.args.place c.index_mut-follower.result.now l c.index_mut-follower.ensures.value c.ack.result c.moment-now.result _ c.args.ack.now.seq c.args.ack.now.kind _ _ c.ack.new.self
    c.moment-now.ensures.value c.ack.ensures.acked c.ack.ensures.err).followed

pub returns : goal.returns
returns c =
    let i = c.self.inside in
    let l = place_there i.stored c.args.self.now i.followers.items c.args.place c.self.view_is c.requires.within in
    let w = acks_at i.stored i.followers.items c.self.invariant c.args.place c.index_mut-follower.result.now l c.index_mut-follower.ensures.value c.ack.result c.moment-now.result _ c.args.ack.now.seq c.args.ack.now.kind _ _ c.ack.new.self
    c.moment-now.ensures.value c.ack.ensures.acked c.ack.ensures.err in
    record { acked = rw (← c.self.view_is) w.ok; sound = w.sound; err = rw (← c.self.view_is) w.err; err_outs = c.ack.ensures.err_outs }
