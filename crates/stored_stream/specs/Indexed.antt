-- Messages with an index by their subjects, this server's own.
use Rattle.std.specs.Prelude.{◌≡◌, List, filter}
use Rattle.js_base.specs.Bytes.{Bytes, same}
use Rattle.js_model.specs.Lists.{Ascends}
use Rattle.js_model.specs.declared.stream.Message.{Message}
use Rattle.js_model.specs.Streams.{seqs}
use Rattle.subject_counts.specs.Sequences.{Subjects, seqs_of}

-- the messages of a subject
abbrev pub on_subject : Bytes → List Message → List Message
on_subject subject messages = filter (λ m. same m.subject subject) messages

-- the sequences ascend, and the index has those of each subject's messages
pub record AreIndexed (subjects : Subjects) (messages : List Message) : Type 0 where
  pub ascends : Ascends 0 (seqs messages)
  pub at : (subject : Bytes) → seqs_of subjects subject ≡ seqs (on_subject subject messages)
