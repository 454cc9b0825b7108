use Rattle.std.proofs.Common.{◌≡◌, ◌+◌, true, get_or, arith}
use Rattle.std.specs.Prelude.{is_some}
use Rattle.js_model.specs.Events.{message_at}
use Rattle.stream_state.proofs.Drops.{drops_more, drops_none, has_place, has_there, room_less, waits_more, waits_none}
use Rattle.stream_state.proofs.Loops.{removes_none, removes_more}
use Rattle.stream_state.proofs.removing.remove_all.Goals as goal

pub loop-seq-init : goal.loop-seq-init
loop-seq-init c = (drops_none c.args.gone.now c.args.stream.now c.requires.sound, removes_none c.args.stream.now c.requires.sound, waits_none c.args.sequences.now c.args.stream.now c.requires.there, c.requires.room)

pub loop-seq-preserved : goal.loop-seq-preserved
loop-seq-preserved c =
    let i = c.loop-seq.invariant in
    let at = c.loop-seq.seq-index in
    let mid = c.loop-seq.stream in
    let n = get_or c.args.sequences.now at 0 in
    let there : is_some (message_at mid n) ≡ true = has_there n mid.messages (i.2.there at (omega arith) c.loop-seq-test.true) in (
      drops_more _ c.loop-seq.last _ mid c.take_out.new.stream c.loop-seq.gone c.take_out.new.gone n c.requires.sound i.0 there (i.2.above at (omega arith) c.loop-seq-test.true) c.take_out.ensures.left c.take_out.ensures.sound c.take_out.ensures.noted,
      removes_more c.args.sequences.now at _ mid c.take_out.new.stream i.1 c.loop-seq-test.true c.take_out.ensures.left c.take_out.ensures.sound,
      waits_more 1 (c.args.stream.now.last + 1) at c.loop-seq.last c.args.sequences.now mid c.take_out.new.stream c.requires.ascends c.loop-seq-test.true i.2 c.take_out.ensures.left,
      room_less mid c.take_out.new.stream n _ c.loop-seq.gone c.take_out.new.gone i.3 (c.take_out.ensures.fewer there) c.take_out.ensures.noted,
    )

pub take_out-requires-clause-room : goal.take_out-requires-clause-room
take_out-requires-clause-room c =
    let i = c.loop-seq.invariant in
    let n = get_or c.args.sequences.now c.loop-seq.seq-index 0 in
    λ below. has_place c.loop-seq.stream n _ c.loop-seq.gone (has_there n c.loop-seq.stream.messages (i.2.there c.loop-seq.seq-index (omega arith) c.loop-seq-test.true)) i.3
