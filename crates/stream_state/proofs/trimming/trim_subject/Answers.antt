use Rattle.std.proofs.Common.{sym, subst}
use Rattle.js_model.specs.declared.stream.Stream.{Stream}
use Rattle.retention.specs.Over.{IsOverOnlyOn}
use Rattle.followed_stream.proofs.Going.{over_only_less}
use Rattle.stream_state.proofs.Drops.{drops_left, drops_more, drops_none, drops_noted, room_less}
use Rattle.stream_state.proofs.Thinning.{thin_above, thin_all, thin_more, thin_none, thin_there, thins_none}
use Rattle.stream_state.proofs.trimming.trim_subject.Goals as goal

pub loop-seq-init : goal.loop-seq-init
loop-seq-init c = (drops_none c.args.gone.now c.args.stream.now c.requires.sound, thins_none c.args.stream.now, c.requires.others, c.requires.room)

pub loop-seq-smaller : goal.loop-seq-smaller
loop-seq-smaller c =
    let i = c.loop-seq.invariant in
    c.take_out.ensures.fewer (thin_there _ c.loop-seq.last _ c.loop-seq.stream c.loop-seq.gone i.0 i.1 c.in-Some.seq c.in-Some.ensures.value)

pub loop-seq-preserved : goal.loop-seq-preserved
loop-seq-preserved c =
    let i = c.loop-seq.invariant in
    let mid = c.loop-seq.stream in
    let n = c.in-Some.seq in
    let there = thin_there _ c.loop-seq.last _ mid c.loop-seq.gone i.0 i.1 n c.in-Some.ensures.value in (
      drops_more _ c.loop-seq.last _ mid c.take_out.new.stream c.loop-seq.gone c.take_out.new.gone n c.requires.sound i.0 there
          (thin_above _ c.loop-seq.last _ mid c.loop-seq.gone i.0 i.1 n c.in-Some.ensures.value) c.take_out.ensures.left c.take_out.ensures.sound c.take_out.ensures.noted,
      thin_more _ c.loop-seq.last _ mid c.loop-seq.gone i.0 i.1 n c.take_out.new.stream c.in-Some.ensures.value c.take_out.ensures.left,
      subst (λ (s : Stream). IsOverOnlyOn s c.args.subject.now) (sym c.take_out.ensures.left) (over_only_less mid n c.args.subject.now i.2),
      room_less mid c.take_out.new.stream n _ c.loop-seq.gone c.take_out.new.gone i.3 (c.take_out.ensures.fewer there) c.take_out.ensures.noted,
    )

pub returns-clause-left : goal.returns-clause-left
returns-clause-left c =
    let i = c.loop-seq.invariant in
    drops_left _ c.loop-seq.last _ c.loop-seq.stream c.loop-seq.gone _ i.0 (thin_all _ c.loop-seq.last _ c.loop-seq.stream c.loop-seq.gone i.0 i.1 (thin_none c.loop-seq.stream c.in_default.ensures.value))

pub returns-clause-gone : goal.returns-clause-gone
returns-clause-gone c =
    let i = c.loop-seq.invariant in
    drops_noted _ c.loop-seq.last _ c.loop-seq.stream c.loop-seq.gone _ i.0 (thin_all _ c.loop-seq.last _ c.loop-seq.stream c.loop-seq.gone i.0 i.1 (thin_none c.loop-seq.stream c.in_default.ensures.value))
