use Rattle.std.proofs.Common.{◌≡◌, ◌<◌, ◌≤◌, get_or, length, sym, ap, subst}
use Rattle.js_model.specs.declared.stream.Stream.{Stream}
use Rattle.consumer_state.specs.Before.{current_of}
use Rattle.consumer_state.specs.Delivering.{IsReady}
use Rattle.stored_stream.specs.Later.{later}
use Rattle.followed_stream.specs.Followers.{attended}
use Rattle.followed_stream.specs.Seen.{IsHeldIn}
use Rattle.followed_stream.proofs.AtPlaces.{counted_there, held_there, ready_by_there}
use Rattle.followed_stream.proofs.Attending.{sound_with}
use Rattle.followed_stream.proofs.Getting.{unready_by_there}
use Rattle.followed_stream.proofs.Readying.{held_later, on_true}
use Rattle.followed_stream.proofs.later.LaterFollowedStream.is_ready.Goals as goal

pub is_ready_in-requires : goal.is_ready_in-requires
is_ready_in-requires c =
    let i = c.self.inside in
    let s = i.stored.now in
    let fs = i.followers.now in
    let f = c.in-Some.follower.now in
    let within : c.args.place < length fs = c.in-Some.ensures.lookup.3.0 in
    let at : f ≡ get_or fs c.args.place f = c.in-Some.ensures.lookup.1 in
    let followed = c.self.invariant.followed in
    record {
      now = ap (λ (a : Stream). a.moment) c.self.invariant.later;
      whole = on_true i.whole (IsHeldIn i.seen f) (λ e. subst (λ (a : Stream). IsHeldIn a f) (sym c.self.invariant.later)
          (held_later s i.now f (sound_with (attended s fs) s.consumers followed.attended.sound) (held_there s fs followed c.args.place f within at) (counted_there s fs followed c.args.place f within at) (c.self.invariant.whole e)));
    }

pub returns-in-Some : goal.returns-in-Some
returns-in-Some c =
    let i = c.self.inside in
    let s = i.stored.now in
    let fs = i.followers.now in
    let f = c.in-Some.follower.now in
    let within : c.args.place < length fs = c.in-Some.ensures.lookup.3.0 in
    let at : f ≡ get_or fs c.args.place f = c.in-Some.ensures.lookup.1 in
    let ready : IsReady (later s i.now) c.args.listened (current_of (later s i.now) f.consumer) c.is_ready_in.result =
    subst (λ (a : Stream). IsReady a c.args.listened (current_of a f.consumer) c.is_ready_in.result) c.self.invariant.later c.is_ready_in.ensures.value in
    record { value = rw (← c.self.view_is) (ready_by_there s fs c.self.invariant.followed c.args.place f within at i.now c.args.listened c.is_ready_in.result ready) }

pub returns-in-None : goal.returns-in-None
returns-in-None c =
    let i = c.self.inside in
    let past : length i.followers.now ≤ c.args.place = c.in-None.ensures.lookup.3 in
    record { value = rw (← c.self.view_is) (unready_by_there i.stored.now i.followers.now c.args.place past i.now c.args.listened) }
