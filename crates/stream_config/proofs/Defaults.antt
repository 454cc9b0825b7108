-- One subject alone asks for the default configuration.
use Rattle.std.proofs.Common.{◌≡◌, true, [], ◌∷◌, IsTrue, None, Ok, codes, refl}
use Rattle.std.specs.List.{list_all}
use Rattle.serde_json.specs.Data.{Members, array, no_members, member}
use Rattle.std.proofs.lemmas.Bool.{and_from}
use Rattle.js_base.specs.Bytes.{Bytes}
use Rattle.js_json.specs.Building.{texts}
use Rattle.js_json.specs.Fields.{flag_in, number_in, text_in, texts_in, part_in, is_number as is_numeral, is_given}
use Rattle.js_model.specs.Configs.{is_stream_subject}
use Rattle.js_model.specs.Refusals.{first_refusal, name_mismatch}
use Rattle.stream_config.specs.Table.{table}
use Rattle.stream_config.specs.Reading.{names_another, reading, standing, config_in}
use Rattle.stream_config.specs.Defaults.{default_config}
use Rattle.stream_config.proofs.Passing.{Passing, none_refused, passing_from}
use Rattle.stream_config.proofs.Printed.{subjects_stand, subjects_back}
use Rattle.stream_config.proofs.Refusing.{read_whole}

abbrev alone : Bytes → Members
alone subject = member (codes "subjects") (array (texts (subject ∷ []))) no_members

each : (subject : Bytes) → is_stream_subject subject ≡ true → list_all is_stream_subject (subject ∷ []) ≡ true
each subject h = and_from (is_stream_subject subject) true h refl

passing : (subject : Bytes) → is_stream_subject subject ≡ true → Passing (alone subject) table
unfolding standing table flag_in number_in text_in texts_in part_in is_numeral is_given
passing subject h = passing_from (alone subject) 30 table refl (subjects_stand (subject ∷ []) refl refl (each subject h), (refl, tt))

same_name : (name subject : Bytes) → first_refusal ((names_another name (alone subject), name_mismatch) ∷ []) ≡ None
unfolding text_in
same_name name subject = refl

config_is : (name subject : Bytes) → default_config name subject ≡ config_in name (alone subject)
unfolding default_config config_in number_in text_in texts_in
config_is name subject = rw (subjects_back name (subject ∷ []) refl) refl

pub default_read : (name subject : Bytes) → IsTrue (is_stream_subject subject) → reading name (alone subject) ≡ Ok (default_config name subject)
default_read name subject h =
    read_whole name (alone subject) (default_config name subject) (none_refused (alone subject) table (passing subject h)) (same_name name subject)
    (config_is name subject)
