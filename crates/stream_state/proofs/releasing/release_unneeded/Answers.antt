use Rattle.std.proofs.Common.{ap, ◌∙◌}
use Rattle.js_model.specs.declared.stream.Stream.{Stream}
use Rattle.stored_stream.specs.Selecting.{next_passing}
use Rattle.stream_state.proofs.Drops.{drops_more, drops_none, drops_noted, has_place, next_above, room_less}
use Rattle.stream_state.proofs.Unkept.{is_loose, loose_there, releases_none, releases_more, releases_all}
use Rattle.stream_state.proofs.releasing.release_unneeded.Goals as goal

pub loop-seq-init : goal.loop-seq-init
loop-seq-init c = (drops_none c.args.gone.now c.args.stream.now c.requires.sound, releases_none c.args.loose c.args.stream.now c.requires.sound c.requires.outside, c.requires.room)

pub take_out-requires-clause-room : goal.take_out-requires-clause-room
take_out-requires-clause-room c =
    let i = c.loop-seq.invariant in
    let next = c.in-Some.ensures.value ∙ ap (next_passing (is_loose c.loop-seq.stream c.args.loose.last) c.loop-seq.stream.messages) c.unwrap_or.ensures in
    λ below. has_place c.loop-seq.stream c.in-Some.seq _ c.loop-seq.gone (loose_there _ c.args.loose.last _ c.loop-seq.stream i.1 c.in-Some.seq next) i.2

pub loop-seq-smaller : goal.loop-seq-smaller
loop-seq-smaller c =
    let i = c.loop-seq.invariant in
    let next = c.in-Some.ensures.value ∙ ap (next_passing (is_loose c.loop-seq.stream c.args.loose.last) c.loop-seq.stream.messages) c.unwrap_or.ensures in
    c.take_out.ensures.fewer (loose_there _ c.args.loose.last _ c.loop-seq.stream i.1 c.in-Some.seq next)

pub loop-seq-preserved : goal.loop-seq-preserved
loop-seq-preserved c =
    let i = c.loop-seq.invariant in
    let mid = c.loop-seq.stream in
    let n = c.in-Some.seq in
    let next = c.in-Some.ensures.value ∙ ap (next_passing (is_loose mid c.args.loose.last) mid.messages) c.unwrap_or.ensures in
    let there = loose_there _ c.args.loose.last _ mid i.1 n next in (
      drops_more _ c.loop-seq.last _ mid c.take_out.new.stream c.loop-seq.gone c.take_out.new.gone n c.requires.sound i.0 there
          (next_above _ c.loop-seq.last c.args.loose.first n (is_loose mid c.args.loose.last) _ mid c.loop-seq.gone i.0 next) c.take_out.ensures.left c.take_out.ensures.sound c.take_out.ensures.noted,
      releases_more _ c.args.loose.last _ mid i.1 n c.take_out.new.stream next c.take_out.ensures.left c.take_out.ensures.sound,
      room_less mid c.take_out.new.stream n _ c.loop-seq.gone c.take_out.new.gone i.2 (c.take_out.ensures.fewer there) c.take_out.ensures.noted,
    )

pub returns-clause-left : goal.returns-clause-left
returns-clause-left c =
    let none = c.in_default.ensures.value ∙ ap (next_passing (is_loose c.loop-seq.stream c.args.loose.last) c.loop-seq.stream.messages) c.unwrap_or.ensures in
    releases_all _ c.args.loose.last _ c.loop-seq.stream c.loop-seq.invariant.1 none

pub returns-clause-gone : goal.returns-clause-gone
returns-clause-gone c =
    let i = c.loop-seq.invariant in
    let none = c.in_default.ensures.value ∙ ap (next_passing (is_loose c.loop-seq.stream c.args.loose.last) c.loop-seq.stream.messages) c.unwrap_or.ensures in
    drops_noted _ c.loop-seq.last _ c.loop-seq.stream c.loop-seq.gone _ i.0 (ap (λ (s : Stream). s.messages) (releases_all _ c.args.loose.last _ c.loop-seq.stream i.1 none))

pub returns-clause-sound : goal.returns-clause-sound
returns-clause-sound c = c.loop-seq.invariant.0.leaves.attended

pub returns-clause-room : goal.returns-clause-room
returns-clause-room c = c.loop-seq.invariant.2
