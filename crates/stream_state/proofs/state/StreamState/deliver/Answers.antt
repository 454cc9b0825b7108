use Rattle.std.proofs.Common.{◌≡◌, ◌&&◌, List, Option, Some, None, ap, sym, subst, ◌∙◌}
use Rattle.std.specs.Prelude.{slice_get}
use Rattle.js_base.specs.Bytes.{Bytes}
use Rattle.js_model.specs.declared.stream.Stream.{Stream}
use Rattle.js_model.specs.declared.consumer.Consumer.{Consumer}
use Rattle.js_model.specs.declared.entry.Delivered.{Delivered}
use Rattle.js_model.specs.Deliver.{is_listened}
use Rattle.js_model.specs.Streams.{is_push}
use Rattle.followed_stream.specs.Attended.{AreNamedApart}
use Rattle.followed_stream.specs.Handing.{MayHandAt}
use Rattle.followed_stream.proofs.Getting.{got, nothing_got}
use Rattle.followed_stream.proofs.Ordered.{ordered_apart}
use Rattle.stream_state.proofs.Handed.{serves, serves_idle, serves_none, within_at}
use Rattle.stream_state.proofs.Settling.{trimmed}
use Rattle.stream_state.proofs.state.StreamState.deliver.Goals as goal

pub returns-in_default-clause-served : goal.returns-in_default-clause-served
returns-in_default-clause-served c =
    let s = c.self.inside.stream in
    let place = c.args.place in
    let none : slice_get s.consumers place ≡ None =
    ap (λ (cs : List Consumer). slice_get cs place) (sym c.followers.ensures.value) ∙ nothing_got c.followers.result.now place c.in_default.ensures.lookup.3 in
    rw (← c.self.view_is) (serves_none s place c.args.listening.now c.args.outs.now none)

pub returns-in_default-clause-settled : goal.returns-in_default-clause-settled
returns-in_default-clause-settled c = rw (← c.self.view_is) (trimmed c.self.inside.stream c.self.invariant.attended c.self.invariant.within)

pub returns-in_err-consumer-clause-settled : goal.returns-in_err-consumer-clause-settled
returns-in_err-consumer-clause-settled c = rw (← c.self.view_is) (trimmed c.self.inside.stream c.self.invariant.attended c.self.invariant.within)

pub hand-requires-clause-within : goal.hand-requires-clause-within
hand-requires-clause-within c =
    let place = c.args.place in
    let f = c.in-Some.follower.now in
    let there : slice_get c.args.self.now.consumers place ≡ Some f.consumer =
    ap (λ (x : Stream). slice_get x.consumers place) (sym c.self.view_is)
    ∙ ap (λ (cs : List Consumer). slice_get cs place) (sym c.followers.ensures.value)
    ∙ got c.followers.result.now place f c.in-Some.ensures.lookup.3.0 c.in-Some.ensures.lookup.1 in
    within_at c.args.self.now place f.consumer there

pub returns-in-Some-2-clause-served : goal.returns-in-Some-2-clause-served
returns-in-Some-2-clause-served c =
    let s = c.args.self.now in
    let place = c.args.place in
    let f = c.in-Some.follower.now in
    let there : slice_get s.consumers place ≡ Some f.consumer =
    ap (λ (x : Stream). slice_get x.consumers place) (sym c.self.view_is)
    ∙ ap (λ (cs : List Consumer). slice_get cs place) (sym c.followers.ensures.value)
    ∙ got c.followers.result.now place f c.in-Some.ensures.lookup.3.0 c.in-Some.ensures.lookup.1 in
    let apart : AreNamedApart s.consumers = subst (λ (x : Stream). AreNamedApart x.consumers) c.self.view_is (ordered_apart c.self.inside.stream.consumers c.self.invariant.attended.ordered) in
    let heard = c.is_heard-heard.ensures.value ∙ ap (λ (names : List Bytes). is_push f.consumer && is_listened names f.consumer) c.as_slice.ensures in
    serves s c.hand.new.self place c.is_heard-heard.result c.args.listening.now _ f.consumer c.in-Some-2.what c.args.outs.now c.hand.new.outs apart there (c.in_ok-consumer.ensures.cases ∙ c.name.ensures.value) heard (subst (λ (o : Option Delivered). MayHandAt s place c.is_heard-heard.result o c.args.outs.now c.hand.new.outs c.hand.new.self) c.in-Some-2.is c.in_ok-what.ensures.handed)

pub returns-in-None-clause-served : goal.returns-in-None-clause-served
returns-in-None-clause-served c =
    let s = c.args.self.now in
    let place = c.args.place in
    let f = c.in-Some.follower.now in
    let there : slice_get s.consumers place ≡ Some f.consumer =
    ap (λ (x : Stream). slice_get x.consumers place) (sym c.self.view_is)
    ∙ ap (λ (cs : List Consumer). slice_get cs place) (sym c.followers.ensures.value)
    ∙ got c.followers.result.now place f c.in-Some.ensures.lookup.3.0 c.in-Some.ensures.lookup.1 in
    let heard = c.is_heard-heard.ensures.value ∙ ap (λ (names : List Bytes). is_push f.consumer && is_listened names f.consumer) c.as_slice.ensures in
    serves_idle s c.hand.new.self place c.is_heard-heard.result c.args.listening.now f.consumer c.args.outs.now c.hand.new.outs there heard (subst (λ (o : Option Delivered). MayHandAt s place c.is_heard-heard.result o c.args.outs.now c.hand.new.outs c.hand.new.self) c.in-None.is c.in_ok-what.ensures.handed)
