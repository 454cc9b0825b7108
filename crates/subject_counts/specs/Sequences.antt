-- Which sequences each subject has, this server's own.
use Rattle.std.specs.Prelude.{◌≡◌, ℕ, ◌<◌, if◌then◌else◌, not, ◌==◌, List, [], ◌∷◌, ◌++◌, filter, map, All}
use Rattle.std.specs.List.{flat_map, IsDistinct}
use Rattle.std.specs.Option.{option_to_list}
use Rattle.js_base.specs.Bytes.{Bytes, same}
use Rattle.js_base.specs.Subjects.{tokens, matches}
use Rattle.stream_view.specs.declared.counts.Counts.{Counts}
use Rattle.stream_view.specs.Counting.{counts_of}

-- each subject that has sequences, with them
abbrev pub Subjects : Type 0
Subjects = List (Bytes × List ℕ)

-- the sequences of a subject, none if it is not there
abbrev pub seqs_of : Subjects → Bytes → List ℕ
seqs_of [] subject = []
seqs_of (entry ∷ others) subject = if same subject entry.0 then entry.1 else seqs_of others subject

-- no subject is there twice
abbrev pub AreDistinct : Subjects → Type 0
AreDistinct subjects = IsDistinct same (map (λ entry. entry.0) subjects)

-- those that the pattern matches
abbrev pub matching : Bytes → Subjects → Subjects
matching pattern subjects = filter (λ entry. matches (tokens pattern) (tokens entry.0)) subjects

-- what is counted of each of these
abbrev pub counts_matching : Bytes → Subjects → List Counts
counts_matching pattern subjects = flat_map (λ entry. option_to_list (counts_of entry.1)) (matching pattern subjects)

-- the sequence is greater than all of these
abbrev pub IsAbove : ℕ → List ℕ → Type 0
IsAbove seq ns = All (λ n. n < seq) ns

-- each subject has the sequences that it had
pub record KeepsSeqs (old new : Subjects) : Type 0 where
  pub at : (t : Bytes) → seqs_of new t ≡ seqs_of old t

-- this subject has one sequence more, at its end, and each other one has those that it had
pub record AddsSeq (old new : Subjects) (subject : Bytes) (seq : ℕ) : Type 0 where
  pub at : (t : Bytes) → seqs_of new t ≡ (if same t subject then seqs_of old t ++ seq ∷ [] else seqs_of old t)

-- this subject does not have the sequence, and each other one has those that it had
pub record DropsSeq (old new : Subjects) (subject : Bytes) (seq : ℕ) : Type 0 where
  pub at : (t : Bytes) → seqs_of new t ≡ (if same t subject then filter (λ n. not (n == seq)) (seqs_of old t) else seqs_of old t)
