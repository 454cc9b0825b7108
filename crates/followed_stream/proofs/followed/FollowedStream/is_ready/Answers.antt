use Rattle.std.proofs.Common.{◌≡◌, ◌<◌, ◌≤◌, List, Option, false, get_or, length, refl, sym, subst}
use Rattle.js_model.specs.declared.consumer.Consumer.{Consumer}
use Rattle.followed_stream.specs.Delivering.{AreCurrent, IsReadyIf}
use Rattle.followed_stream.specs.Followers.{attended, Following}
use Rattle.followed_stream.proofs.AtPlaces.{current_there, ready_there}
use Rattle.followed_stream.proofs.Getting.{nothing_got}
use Rattle.followed_stream.proofs.followed.FollowedStream.is_ready.Goals as goal

pub is_ready-requires : goal.is_ready-requires
is_ready-requires c =
    let i = c.self.inside in
    let f = c.in-Some.follower.now in
    let within : c.args.place < length i.followers.items = subst (λ (fs : List Following). c.args.place < length fs) c.deref.ensures.value c.in-Some.ensures.lookup.3.0 in
    let at : f ≡ get_or i.followers.items c.args.place f = subst (λ (fs : List Following). f ≡ get_or fs c.args.place f) c.deref.ensures.value c.in-Some.ensures.lookup.1 in
    record { current = current_there i.stored i.followers.items c.self.invariant c.args.place f within at (subst AreCurrent (sym c.self.view_is) c.requires.current) }

pub returns-in-Some : goal.returns-in-Some
returns-in-Some c =
    let i = c.self.inside in
    let f = c.in-Some.follower.now in
    let within : c.args.place < length i.followers.items = subst (λ (fs : List Following). c.args.place < length fs) c.deref.ensures.value c.in-Some.ensures.lookup.3.0 in
    let at : f ≡ get_or i.followers.items c.args.place f = subst (λ (fs : List Following). f ≡ get_or fs c.args.place f) c.deref.ensures.value c.in-Some.ensures.lookup.1 in
    record { value = rw (← c.self.view_is) (ready_there i.stored i.followers.items c.self.invariant c.args.place f within at c.args.listened c.is_ready.result c.is_ready.ensures.value) }

pub returns-in-None : goal.returns-in-None
returns-in-None c =
    let i = c.self.inside in
    let past : length i.followers.items ≤ c.args.place = subst (λ (fs : List Following). length fs ≤ c.args.place) c.deref.ensures.value c.in-None.ensures.lookup.3 in
    let none = nothing_got i.followers.items c.args.place past in
    record { value = rw (← c.self.view_is) (subst (λ (o : Option Consumer). IsReadyIf (attended i.stored i.followers.items) o c.args.listened false) (sym none) refl) }
