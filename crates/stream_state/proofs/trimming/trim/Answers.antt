use Rattle.stream_state.proofs.Drops.{three_left, three_noted, trimmed_within}
use Rattle.stream_state.proofs.trimming.trim.Goals as goal

pub returns-clause-left : goal.returns-clause-left
returns-clause-left c = three_left c.args.stream.now _ _ _ c.trim_subjects.ensures.left c.trim_count.ensures.left c.trim_bytes.ensures.left

pub returns-clause-within : goal.returns-clause-within
returns-clause-within c = trimmed_within c.args.stream.now _ c.requires.sound (three_left c.args.stream.now _ _ _ c.trim_subjects.ensures.left c.trim_count.ensures.left c.trim_bytes.ensures.left)

pub returns-clause-gone : goal.returns-clause-gone
returns-clause-gone c =
    three_noted c.args.stream.now c.trim_subjects.new.stream c.trim_count.new.stream c.trim_bytes.new.stream c.args.gone.now c.trim_subjects.new.gone c.trim_count.new.gone c.trim_bytes.new.gone
    c.trim_subjects.ensures.left c.trim_count.ensures.left c.trim_bytes.ensures.left c.trim_subjects.ensures.gone c.trim_count.ensures.gone c.trim_bytes.ensures.gone
