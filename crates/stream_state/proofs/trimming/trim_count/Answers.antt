use Rattle.std.proofs.Common.{Some, refl, sym, subst, ap, ◌∙◌}
use Rattle.js_base.specs.Bytes.{last_of}
use Rattle.js_model.specs.Trim.{max_messages}
use Rattle.js_model.specs.declared.stream.Stream.{Stream}
use Rattle.stream_state.proofs.Drops.{above_none, drops_left, drops_more, drops_none, drops_noted, room_less, AllAbove}
use Rattle.stream_state.proofs.Thinning.{count_step, counted_all, pops_if}
use Rattle.stream_state.proofs.trimming.trim_count.Goals as goal

pub loop-seq-init : goal.loop-seq-init
loop-seq-init c = (drops_none c.args.gone.now c.args.stream.now c.requires.sound, above_none c.args.stream.now.messages, refl, c.requires.room)

pub loop-seq-smaller : goal.loop-seq-smaller
loop-seq-smaller c =
    let i = c.loop-seq.invariant in
    c.take_out.ensures.fewer (pops_if _ c.loop-seq.last _ c.loop-seq.stream c.loop-seq.gone i.0 i.1 c.in-Some.seq _ c.in-Some.ensures.value).there

pub loop-seq-preserved : goal.loop-seq-preserved
loop-seq-preserved c =
    let i = c.loop-seq.invariant in
    let mid = c.loop-seq.stream in
    let n = c.in-Some.seq in
    let p = pops_if _ c.loop-seq.last _ mid c.loop-seq.gone i.0 i.1 n _ c.in-Some.ensures.value in (
      drops_more _ c.loop-seq.last _ mid c.take_out.new.stream c.loop-seq.gone c.take_out.new.gone n c.requires.sound i.0 p.there p.above c.take_out.ensures.left c.take_out.ensures.sound c.take_out.ensures.noted,
      subst (λ (s : Stream). AllAbove (Some n) s.messages) (sym c.take_out.ensures.left) p.others,
      ap (λ (s : Stream). last_of (max_messages c.args.stream.now) s.messages) c.take_out.ensures.left ∙ count_step _ c.loop-seq.last c.args.stream.now mid c.loop-seq.gone i.0 i.1 n c.in-Some.ensures.value i.2,
      room_less mid c.take_out.new.stream n _ c.loop-seq.gone c.take_out.new.gone i.3 (c.take_out.ensures.fewer p.there) c.take_out.ensures.noted,
    )

pub returns-clause-left : goal.returns-clause-left
returns-clause-left c =
    let i = c.loop-seq.invariant in
    drops_left _ c.loop-seq.last _ c.loop-seq.stream c.loop-seq.gone _ i.0 (counted_all _ c.loop-seq.last c.args.stream.now c.loop-seq.stream c.loop-seq.gone i.0 c.in_default.ensures.value i.2)

pub returns-clause-gone : goal.returns-clause-gone
returns-clause-gone c =
    let i = c.loop-seq.invariant in
    drops_noted _ c.loop-seq.last _ c.loop-seq.stream c.loop-seq.gone _ i.0 (counted_all _ c.loop-seq.last c.args.stream.now c.loop-seq.stream c.loop-seq.gone i.0 c.in_default.ensures.value i.2)
