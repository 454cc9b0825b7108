-- Which messages of a stream a filter takes, told by their sequences, by JetStream's filter subjects.
use Rattle.std.specs.Prelude.{ℕ, nat_le, ◌&&◌, Option, None, find, option_map}
use Rattle.std.specs.List.{last_or}
use Rattle.js_base.specs.Bytes.{Bytes}
use Rattle.js_model.specs.declared.stream.Stream.{Stream}
use Rattle.js_model.specs.Start.{matching}
use Rattle.js_model.specs.Streams.{passes_filter}

-- the first from a sequence on
abbrev pub next_taken : Bytes → Stream → ℕ → Option ℕ
next_taken pattern s from = option_map (λ m. m.seq) (find (λ m. passes_filter pattern m.subject && nat_le from m.seq) s.messages)

-- the last of all
abbrev pub last_taken : Bytes → Stream → Option ℕ
last_taken pattern s = option_map (λ m. m.seq) (last_or None (matching pattern s))
