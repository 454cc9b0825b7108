-- The laws of acknowledgements and of pull requests: what is read is what the grammar says.
use Rattle.std.specs.Prelude.{◌≡◌, ◌↔◌, Some, Ok}
use Rattle.js_base.specs.Bytes.{Bytes}
use Rattle.js_model.specs.declared.ack.AckKind.{AckKind}
use Rattle.js_model.specs.declared.ack.Ask.{Ask}
use Rattle.ack_parse.specs.Asks.{ask_of}
use Rattle.ack_parse.specs.Bodies.{kind_of}
use Rattle.ack_parse.specs.Grammar.{SpellsSubject, Says}
use Rattle.ack_parse.specs.Pulls.{SpellsAsk}
use Rattle.ack_parse.specs.Subjects.{subject_of}
use Rattle.ack_parse.specs.declared.subject.Delivered.{Delivered}

-- a subject is read as that delivery exactly if it spells it
abbrev pub LawSubject : Type 0
LawSubject = (subject : Bytes) (d : Delivered) → (subject_of subject ≡ Ok d) ↔ SpellsSubject subject d

-- a body is read so exactly if it says that
abbrev pub LawBody : Type 0
LawBody = (body : Bytes) (kind : AckKind) → (kind_of body ≡ Some kind) ↔ Says body kind

-- a body is read as that pull request exactly if it spells it
abbrev pub LawAsk : Type 0
LawAsk = (body : Bytes) (ask : Ask) → (ask_of body ≡ Some ask) ↔ SpellsAsk body ask
