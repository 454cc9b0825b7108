-- The last message of each subject, by JetStream's deliver policy last_per_subject. That at most 65,536 sequences are picked out is this server's own.
use Rattle.std.specs.Prelude.{◌≡◌, ℕ, ◌<◌, ◌≤◌, ◌==◌, Bool, false, ◌&&◌, List, Option, None, Some, length}
use Rattle.js_base.specs.Bytes.{Bytes}
use Rattle.js_model.specs.declared.stream.Stream.{Stream}
use Rattle.js_model.specs.Start.{matching}
use Rattle.js_model.specs.Streams.{passes_filter, seqs}
use Rattle.js_model.specs.Trim.{newest}
use Rattle.stream_view.specs.declared.counts.Counts.{Counts}
use Rattle.stream_view.specs.Counting.{counts_of, seqs_on}

-- the last of the sequences that are counted is this one
abbrev pub ends_with : Option Counts → ℕ → Bool
ends_with None seq = false
ends_with (Some counts) seq = counts.last == seq

-- the filter matches the subject, of which this is the last sequence
abbrev pub is_pick : Stream → Bytes → Bytes → ℕ → Bool
is_pick s pattern subject seq = passes_filter pattern subject && ends_with (counts_of (seqs_on s subject)) seq

-- the last matching message of each subject
abbrev pub picks_of : Stream → Bytes → List ℕ
picks_of s pattern = seqs (newest 1 (matching pattern s))

-- these are all, and not too many
pub record AreAllPicks (s : Stream) (pattern : Bytes) (picks : List ℕ) : Type 0 where
  pub all : picks ≡ picks_of s pattern
  pub few : length picks ≤ 65536

-- all picks, or there are too many
abbrev pub ArePicks : Stream → Bytes → Option (List ℕ) → Type 0
ArePicks s pattern None = 65536 < length (picks_of s pattern)
ArePicks s pattern (Some picks) = AreAllPicks s pattern picks
