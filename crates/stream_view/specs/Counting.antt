-- The sequences of one subject and what is counted of them, by JetStream's subject state.
use Rattle.std.specs.Prelude.{ℕ, List, [], ◌∷◌, Option, Some, None, filter, length}
use Rattle.js_base.specs.Bytes.{Bytes, same}
use Rattle.js_model.specs.declared.stream.Stream.{Stream}
use Rattle.js_model.specs.Streams.{seqs}
use Rattle.stream_view.specs.declared.counts.Counts.{Counts}

-- the sequences of the subject's messages
abbrev pub seqs_on : Stream → Bytes → List ℕ
seqs_on s subject = seqs (filter (λ m. same m.subject subject) s.messages)

-- the last of a number and those after it
abbrev pub last_from : ℕ → List ℕ → ℕ
last_from n [] = n
last_from n (m ∷ more) = last_from m more

abbrev pub counts_of : List ℕ → Option Counts
counts_of [] = None
counts_of (n ∷ more) = Some (record { count = length (n ∷ more); first = n; last = last_from n more })
