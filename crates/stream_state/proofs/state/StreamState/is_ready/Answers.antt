use Rattle.std.proofs.Common.{◌≡◌, ℕ, List, Some, None, max, ap, sym, subst, ◌∙◌}
use Rattle.std.specs.Prelude.{slice_get}
use Rattle.js_model.specs.declared.consumer.Consumer.{Consumer}
use Rattle.js_model.specs.Advance.{stream_at}
use Rattle.followed_stream.specs.Delivering.{IsReadyAt}
use Rattle.followed_stream.proofs.Getting.{got, nothing_got}
use Rattle.stream_state.proofs.Handed.{none_by, ready_by}
use Rattle.stream_state.proofs.state.StreamState.is_ready.Goals as goal

pub returns-in_default : goal.returns-in_default
returns-in_default c =
    let s = c.self.inside.stream in
    let place = c.args.place in
    let none : slice_get s.consumers place ≡ None =
    ap (λ (cs : List Consumer). slice_get cs place) (sym c.followers.ensures.value) ∙ nothing_got c.followers.result.now place c.in_default.ensures.lookup.3 in
    record { value = rw (← c.self.view_is) (sym (none_by s c.args.now c.args.listening.now place none)) }

pub returns : goal.returns
returns c =
    let s = c.self.inside.stream in
    let place = c.args.place in
    let f = c.in-Some.follower.now in
    let there : slice_get s.consumers place ≡ Some f.consumer =
    ap (λ (cs : List Consumer). slice_get cs place) (sym c.followers.ensures.value) ∙ got c.followers.result.now place f c.in-Some.ensures.lookup.3.0 c.in-Some.ensures.lookup.1 in
    let at : c.later-now.result ≡ max s.moment c.args.now = c.later-now.ensures.value ∙ ap (λ k. max k c.args.now) c.moment.ensures.value in
    let ready = subst (λ (now : ℕ). IsReadyAt (stream_at s now) place c.is_heard-heard.result c.is_ready_by.result) at c.is_ready_by.ensures.value in
    record { value = rw (← c.self.view_is) (ready_by s c.args.now c.args.listening.now place f.consumer c.is_heard-heard.result c.is_ready_by.result there c.is_heard-heard.ensures.value ready) }
