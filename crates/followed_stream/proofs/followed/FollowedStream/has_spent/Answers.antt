use Rattle.std.proofs.Common.{◌≡◌, ◌<◌, ◌≤◌, List, get_or, length, sym, ap, subst, ◌∙◌}
use Rattle.followed_stream.specs.Asked.{gives_up}
use Rattle.followed_stream.specs.Followers.{Following}
use Rattle.followed_stream.proofs.Getting.{got, nothing_got}
use Rattle.followed_stream.proofs.followed.FollowedStream.has_spent.Goals as goal

pub returns-in-Some : goal.returns-in-Some
returns-in-Some c =
    let i = c.self.inside in
    let f = c.in-Some.follower.now in
    let within : c.args.place < length i.followers.items = subst (λ (fs : List Following). c.args.place < length fs) c.deref.ensures.value c.in-Some.ensures.lookup.3.0 in
    let at : f ≡ get_or i.followers.items c.args.place f = subst (λ (fs : List Following). f ≡ get_or fs c.args.place f) c.deref.ensures.value c.in-Some.ensures.lookup.1 in
    record { value = rw (← c.self.view_is) (c.has_spent.ensures.value ∙ sym (ap (gives_up c.args.now) (got i.followers.items c.args.place f within at))) }

pub returns-in-None : goal.returns-in-None
returns-in-None c =
    let i = c.self.inside in
    let past : length i.followers.items ≤ c.args.place = subst (λ (fs : List Following). length fs ≤ c.args.place) c.deref.ensures.value c.in-None.ensures.lookup.3 in
    record { value = rw (← c.self.view_is) (sym (ap (gives_up c.args.now) (nothing_got i.followers.items c.args.place past))) }
