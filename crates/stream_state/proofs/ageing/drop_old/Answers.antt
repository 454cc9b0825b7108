use Rattle.std.proofs.Common.{◌≡◌, Some, sym, subst, ◌∙◌}
use Rattle.std.specs.Prelude.{option_map, IsSome}
use Rattle.js_model.specs.Advance.{young}
use Rattle.js_model.specs.Counts.{first_message}
use Rattle.js_model.specs.Events.{message_at}
use Rattle.js_model.specs.declared.stream.Message.{Message}
use Rattle.js_model.specs.declared.stream.Stream.{Stream}
use Rattle.stored_stream.specs.Stored.{without}
use Rattle.followed_stream.proofs.Followings.{sound_as}
use Rattle.stream_state.proofs.Drops.{above_none, drops_more, drops_none, drops_noted, first_place, pops, AllAbove}
use Rattle.stream_state.proofs.Loops.{ages_none, ages_more, ages_all}
use Rattle.stream_state.proofs.ageing.drop_old.Goals as goal

pub first_old-requires : goal.first_old-requires
first_old-requires c = record { sound = sound_as c.loop-seq.stream c.stored.result.now c.stored.ensures.value c.loop-seq.invariant.0.leaves.attended }

pub loop-seq-init : goal.loop-seq-init
loop-seq-init c = (drops_none c.args.gone.now c.args.stream.now c.requires.sound, ages_none c.args.now c.args.stream.now c.requires.sound, above_none c.args.stream.now.messages, c.requires.room)

pub take_out-requires-clause-room : goal.take_out-requires-clause-room
take_out-requires-clause-room c =
    let i = c.loop-seq.invariant in
    let first = subst (λ (x : Stream). option_map (λ (m : Message). m.seq) (first_message x.messages) ≡ Some c.in-Some.seq) c.stored.ensures.value c.in-Some.ensures.first in
    first_place _ c.loop-seq.last c.in-Some.seq _ c.loop-seq.stream c.loop-seq.gone i.0 i.2 first i.3

pub loop-seq-preserved : goal.loop-seq-preserved
loop-seq-preserved c =
    let i = c.loop-seq.invariant in
    let mid = c.loop-seq.stream in
    let n = c.in-Some.seq in
    let first = subst (λ (x : Stream). option_map (λ (m : Message). m.seq) (first_message x.messages) ≡ Some n) c.stored.ensures.value c.in-Some.ensures.first in
    let p = pops c.loop-seq.last n mid i.0.leaves.attended i.2 first in
    let old = subst (λ (x : Stream). young (without n x) c.args.now ≡ young x c.args.now) c.stored.ensures.value c.in-Some.ensures.old in (
      drops_more _ c.loop-seq.last _ mid c.take_out.new.stream c.loop-seq.gone c.take_out.new.gone n c.requires.sound i.0 p.there p.above c.take_out.ensures.left c.take_out.ensures.sound c.take_out.ensures.noted,
      ages_more c.args.now n _ mid c.take_out.new.stream i.1 old c.take_out.ensures.left c.take_out.ensures.sound,
      subst (λ (s : Stream). AllAbove (Some n) s.messages) (sym c.take_out.ensures.left) p.others,
      tt,
    )

pub loop-seq-smaller : goal.loop-seq-smaller
loop-seq-smaller c = c.take_out.ensures.fewer (subst (λ (x : Stream). IsSome (message_at x c.in-Some.seq)) c.stored.ensures.value c.in-Some.ensures.there)

pub returns-clause-left : goal.returns-clause-left
returns-clause-left c =
    let all = subst (λ (x : Stream). young x c.args.now ≡ x.messages) c.stored.ensures.value c.in_default.ensures.none in
    ages_all c.args.now _ c.loop-seq.stream c.loop-seq.invariant.1 all

pub returns-clause-gone : goal.returns-clause-gone
returns-clause-gone c =
    let i = c.loop-seq.invariant in
    let all = subst (λ (x : Stream). young x c.args.now ≡ x.messages) c.stored.ensures.value c.in_default.ensures.none in
    drops_noted _ c.loop-seq.last _ c.loop-seq.stream c.loop-seq.gone _ i.0 (sym all ∙ i.1.young)

pub returns-clause-sound : goal.returns-clause-sound
returns-clause-sound c = c.loop-seq.invariant.0.leaves.attended
