use Rattle.std.proofs.Common.{sym, subst, arith}
use Rattle.followed_stream.specs.Delivering.{AreCurrent}
use Rattle.followed_stream.specs.Followers.{attended}
use Rattle.followed_stream.proofs.Attending.{sound_with}
use Rattle.followed_stream.proofs.AtPlaces.{current_there, hands_at}
use Rattle.followed_stream.proofs.Changing.{place_there}
use Rattle.followed_stream.proofs.followed.FollowedStream.deliver.Goals as goal

pub index_mut-follower-requires : goal.index_mut-follower-requires
index_mut-follower-requires c =
    let i = c.self.inside in
    let l = place_there i.stored c.args.self.now i.followers.items c.args.place c.self.view_is c.requires.within in
    omega (arith, l, i.followers.ok.0)

pub deliver-requires : goal.deliver-requires
deliver-requires c =
    let i = c.self.inside in
    let l = place_there i.stored c.args.self.now i.followers.items c.args.place c.self.view_is c.requires.within in
    record {
      sound = sound_with (attended i.stored i.followers.items) i.stored.consumers c.self.invariant.attended.sound;
      current = current_there i.stored i.followers.items c.self.invariant c.args.place c.index_mut-follower.result.now l c.index_mut-follower.ensures.value (subst AreCurrent (sym c.self.view_is) c.requires.current);
    }

pub invariant_of-self : goal.invariant_of-self
invariant_of-self c =
    let i = c.self.inside in
    let l = place_there i.stored c.args.self.now i.followers.items c.args.place c.self.view_is c.requires.within in
    (hands_at i.stored i.followers.items c.self.invariant c.args.place c.index_mut-follower.result.now l c.index_mut-follower.ensures.value c.deliver.result c.args.listened _ _ c.deliver.new.self c.deliver.ensures.delivered c.deliver.ensures.err).followed

pub returns : goal.returns
returns c =
    let i = c.self.inside in
    let l = place_there i.stored c.args.self.now i.followers.items c.args.place c.self.view_is c.requires.within in
    let w = hands_at i.stored i.followers.items c.self.invariant c.args.place c.index_mut-follower.result.now l c.index_mut-follower.ensures.value c.deliver.result c.args.listened _ _ c.deliver.new.self c.deliver.ensures.delivered c.deliver.ensures.err in
    record { delivered = rw (← c.self.view_is) w.ok; sound = w.sound; err = rw (← c.self.view_is) w.err; err_outs = c.deliver.ensures.err_outs }
