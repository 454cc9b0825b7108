use Rattle.std.proofs.Common.{◌≡◌, length}
use Rattle.js_base.specs.Bytes.{last_of}
use Rattle.js_model.specs.Trim.{max_messages}
use Rattle.stream_state.specs.Removing.{HasRoom}
use Rattle.stream_state.proofs.Drops.{AllAbove, Drops}
use Rattle.stream_state.proofs.trimming.trim_count.Given as goal

abbrev pub invariant-loop-seq : goal.invariant-loop-seq
invariant-loop-seq l =
    Drops l.initial.gone l.last l.initial.stream l.stream l.gone × AllAbove l.last l.stream.messages
    × (last_of (max_messages l.initial.stream) l.stream.messages ≡ last_of (max_messages l.initial.stream) l.initial.stream.messages) × HasRoom l.stream l.gone

abbrev pub decreases-loop-seq : goal.decreases-loop-seq
decreases-loop-seq l = length l.stream.messages
