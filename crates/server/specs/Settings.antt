-- The options that stand behind a command, each with its value.
use Rattle.std.specs.Prelude.{Bool, true, ◌==◌, ◌&&◌, ◌||◌, not, is_none, List, [], ◌∷◌, codes, nat_eq, Option, Some, None, if◌then◌else◌}
use Rattle.std.specs.List.{starts_with, before_first, after_first}
use Rattle.js_base.specs.Bytes.{Bytes, same, has, is_empty}
use Rattle.server.specs.declared.settings.Verb.{Verb}
use Rattle.server.specs.declared.settings.Verb.TheVariants.{Pipe, Serve}

-- an option and its value
abbrev pub Setting : Type 0
Setting = Bytes × Bytes

-- the option and the value in one word, before and behind its first `=`
abbrev pub halves_of : Bytes → Setting
halves_of word = (before_first (λ byte. byte == 61) word, after_first (λ byte. byte == 61) word)

-- What words spell: a word with `=` is an option and its value, and of the others each is an option and the word behind it its value. Behind the last
-- word nothing stands, so the value is empty.
abbrev pub settings_of : List Bytes → List Setting
settings_of [] = []
settings_of (word ∷ []) = (if has word 61 then halves_of word else (word, [])) ∷ []
settings_of (word ∷ value ∷ more) = if has word 61 then halves_of word ∷ settings_of (value ∷ more) else (word, value) ∷ settings_of more

-- the value of the first setting of this option
abbrev pub value_of : Bytes → List Setting → Option Bytes
value_of option [] = None
value_of option (setting ∷ more) = if same setting.0 option then Some setting.1 else value_of option more

abbrev pub dir_option : Bytes
dir_option = codes "--dir"

abbrev pub stream_option : Bytes
stream_option = codes "--stream"

abbrev pub subject_option : Bytes
subject_option = codes "--subject"

abbrev pub listen_option : Bytes
listen_option = codes "--listen"

abbrev pub workers_option : Bytes
workers_option = codes "--workers"

abbrev pub accepts_option : Bytes
accepts_option = codes "--accepts"

-- the command that the word names, if it names one
abbrev pub verb_of : Bytes → Option Verb
verb_of word = if same word (codes "pipe") then Some Pipe else (if same word (codes "serve") then Some Serve else None)

-- whether the word is an option of the command
abbrev pub is_option : Verb → Bytes → Bool
is_option Pipe word = same word dir_option || same word stream_option || same word subject_option
is_option Serve word = same word dir_option || same word listen_option || same word workers_option || same word accepts_option

-- a value is not empty and does not begin with a dash
abbrev pub is_value : Bytes → Bool
is_value text = not (is_empty text) && not (starts_with nat_eq text (codes "-"))

-- each is an option of the command with a value, and none of them comes twice
abbrev pub are_settings : Verb → List Setting → Bool
are_settings verb [] = true
are_settings verb (setting ∷ more) = is_option verb setting.0 && is_value setting.1 && is_none (value_of setting.0 more) && are_settings verb more
