-- The first fault of a text that should be a subject or a pattern, by NATS' rules for subject names.
use Rattle.std.specs.Prelude.{ℕ, ◌+◌, Bool, ◌&&◌, not, nat_lt, List, [], ◌∷◌, length, Option, Some, None, position, if◌then◌else◌}
use Rattle.std.specs.Option.{option_map}
use Rattle.std.specs.Str.{is_utf8}
use Rattle.std.specs.Str.Lossy.{utf8_valid_len}
use Rattle.js_base.specs.Bytes.{Bytes, is_empty, same}
use Rattle.js_base.specs.Subjects.{tokens, rest, is_wild, is_token_byte}
use Rattle.subject_match.specs.declared.check.Kind.{Kind}
use Rattle.subject_match.specs.declared.check.Kind.TheVariants.{Subject, Pattern}
use Rattle.subject_match.specs.declared.fault.SubjectFault.{SubjectFault}
use Rattle.subject_match.specs.declared.fault.SubjectFault.TheVariants.{EmptyToken, BadByte, TooLong, Wildcard}

-- a wildcard that may not stand there: in a subject any, in a pattern a `>` before the last token
abbrev pub barred : Kind → Bytes → Bool → Bool
barred Subject token is_last = is_wild token
barred Pattern token is_last = same token rest && not is_last

-- the first token that is empty or barred, if the first token begins at this place
abbrev pub token_fault : Kind → ℕ → List Bytes → Option SubjectFault
token_fault kind at [] = None
token_fault kind at (token ∷ more) =
    if is_empty token then Some (EmptyToken at)
    else if barred kind token (is_empty more) then Some (Wildcard at)
    else token_fault kind (at + length token + 1) more

-- the first byte that may stand in no token
abbrev pub bad_byte : Bytes → Option ℕ
bad_byte text = position (λ byte. not (is_token_byte byte)) text

-- the first byte that breaks UTF-8
abbrev pub broken : Bytes → Option ℕ
broken text = if is_utf8 text then None else Some (utf8_valid_len text)

abbrev pub place : SubjectFault → ℕ
place (EmptyToken at) = at
place (BadByte at) = at
place (Wildcard at) = at
place TooLong = 0

-- the fault that comes first
abbrev pub earlier : Option SubjectFault → Option SubjectFault → Option SubjectFault
earlier None other = other
earlier (Some one) None = Some one
earlier (Some one) (Some other) = if nat_lt (place other) (place one) then Some other else Some one

-- too many bytes, and else the fault that comes first
abbrev pub fault_of : Kind → Bytes → Option SubjectFault
fault_of kind text =
    if nat_lt 1024 (length text) then Some TooLong
    else earlier (token_fault kind 0 (tokens text)) (earlier (option_map BadByte (bad_byte text)) (option_map BadByte (broken text)))

abbrev pub subject_fault : Bytes → Option SubjectFault
subject_fault text = fault_of Subject text

abbrev pub pattern_fault : Bytes → Option SubjectFault
pattern_fault text = fault_of Pattern text
