-- The ranges of what leaves a list of messages by one filter, by a rule of this server's own: the fewest that name it.
use Rattle.std.specs.Prelude.{ℕ, nat_le, Bool, false, ◌==◌, not, List, ◌++◌, Option, Some, None, filter, find}
use Rattle.js_base.specs.Bytes.{has}
use Rattle.js_model.specs.declared.stream.Message.{Message}
use Rattle.js_model.specs.declared.stream.Stream.{Stream}
use Rattle.js_model.specs.Events.{is_below}
use Rattle.js_model.specs.Streams.{seqs}
use Rattle.js_model.specs.Trim.{trim, trim_subjects, trim_count}
use Rattle.effects.specs.Ranges.{Range, ranges}

-- of the sequences below a bound, those of messages that were there before and are not after
abbrev pub leaving : Option ℕ → List Message → List Message → List Range
leaving below before after = ranges (λ n. not (has (seqs after) n)) (filter (is_below below) (seqs before))

-- the message is the one of this sequence
abbrev pub is_of : ℕ → Option Message → Bool
is_of n None = false
is_of n (Some m) = m.seq == n

-- a sequence that leaves follows the one that left last: no message is left between them
abbrev pub follows : Option ℕ → List Message → ℕ → Bool
follows None messages n = false
follows (Some last) messages n = is_of n (find (λ m. nat_le last m.seq) messages)

-- what the limit of each subject drops, then the limit on messages, then the limit on bytes
abbrev pub trim_ranges : Option ℕ → Stream → List Range
trim_ranges below s =
    leaving below s.messages (trim_subjects s).messages
    ++ (leaving below (trim_subjects s).messages (trim_count (trim_subjects s)).messages
    ++ leaving below (trim_count (trim_subjects s)).messages (trim s).messages)
