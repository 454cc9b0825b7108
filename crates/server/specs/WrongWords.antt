-- What is wrong of a command line that is no command, and the lines that say so.
use Rattle.std.specs.Prelude.{◌≡◌, ◌↔◌, List, [], ◌∷◌, codes, is_none, Option, Some, None, unwrap_or, IsSome, Result, Ok, Err, if◌then◌else◌}
use Rattle.js_base.specs.Bytes.{Bytes}
use Rattle.js_base.specs.Names.{name_of}
use Rattle.js_base.specs.declared.name.NameFault.{NameFault}
use Rattle.js_base.specs.Subjects.{is_stream_subject}
use Rattle.server.specs.Addresses.{first_of_two}
use Rattle.server.specs.Lines.{line_of, shown, dots_of}
use Rattle.server.specs.Listening.{listen_of, workers_of, accepts_of}
use Rattle.server.specs.Settings.{Setting, settings_of, is_option, is_value, value_of, verb_of, dir_option, stream_option, subject_option, listen_option, workers_option, accepts_option}
use Rattle.server.specs.Words.{command_of}
use Rattle.server.specs.declared.settings.Verb.{Verb}
use Rattle.server.specs.declared.settings.Verb.TheVariants.{Pipe, Serve}
use Rattle.server.specs.declared.mistakes.Mistake.{Mistake}
use Rattle.server.specs.declared.mistakes.Mistake.TheVariants.{NoCommand, UnknownCommand, UnknownOption, NoValue, Twice, NoFolder, NoStream, NoSubject, WrongName, WrongSubject, WrongAddress, WrongWorkers, WrongAccepts}
use Rattle.server.specs.declared.mistakes.WrongWord.{WrongWord}
use Rattle.server.specs.declared.words.WordsFault.{WordsFault}
use Rattle.server.specs.declared.words.WordsFault.TheVariants as faults

-- a mistake, and the word that it was made in, which is empty where one lacks
abbrev pub Wrong : Type 0
Wrong = Mistake × Bytes

abbrev pub wrong_in : WrongWord → Wrong
wrong_in wrong = (wrong.mistake, wrong.word.now)

-- ---- the first mistake

-- of a setting before these: the command has no such option, it has no value, or it comes again
abbrev pub mistake_of : Verb → Setting → List Setting → Option Mistake
mistake_of verb setting more =
    if is_option verb setting.0
    then (if is_value setting.1 then (if is_none (value_of setting.0 more) then None else Some Twice) else Some NoValue)
    else Some (UnknownOption verb)

abbrev pub wrong_at : Bytes → Option Mistake → Option Wrong → Option Wrong
wrong_at option (Some mistake) behind = Some (mistake, option)
wrong_at option None behind = behind

abbrev pub wrong_setting : Verb → List Setting → Option Wrong
wrong_setting verb [] = None
wrong_setting verb (setting ∷ more) = wrong_at setting.0 (mistake_of verb setting more) (wrong_setting verb more)

abbrev pub wrong_name : Bytes → Result Bytes NameFault → Option Wrong
wrong_name text (Ok name) = None
wrong_name text (Err fault) = Some (WrongName, text)

abbrev pub wrong_named : Bytes → Bytes → Option Wrong
wrong_named name subject = if is_stream_subject subject then wrong_name name (name_of name) else Some (WrongSubject, subject)

-- of the name and the subject of a stream, which are given both or neither
abbrev pub wrong_stream : Option Bytes → Option Bytes → Option Wrong
wrong_stream None None = None
wrong_stream None (Some subject) = Some (NoStream, [])
wrong_stream (Some name) None = Some (NoSubject, [])
wrong_stream (Some name) (Some subject) = wrong_named name subject

-- of the text of an option that says this
abbrev pub wrong_text : {T : Type 0} → Mistake → Option T → Option Bytes → Option Wrong
wrong_text mistake (Some said) text = None
wrong_text mistake None text = Some (mistake, unwrap_or text [])

-- of the settings of `serve`
abbrev pub wrong_folder : Option Bytes → Option Wrong
wrong_folder None = Some (NoFolder, [])
wrong_folder (Some dir) = None

abbrev pub wrong_listen : Option Bytes → Option Wrong
wrong_listen text = wrong_text WrongAddress (listen_of text) text

abbrev pub wrong_workers : Option Bytes → Option Wrong
wrong_workers text = wrong_text WrongWorkers (workers_of text) text

abbrev pub wrong_accepts : Option Bytes → Option Wrong
wrong_accepts text = wrong_text WrongAccepts (accepts_of text) text

abbrev pub wrong_counts : Option Bytes → Option Bytes → Option Wrong
wrong_counts workers accepts = first_of_two (wrong_workers workers) (wrong_accepts accepts)

abbrev pub wrong_serving : List Setting → Option Wrong
wrong_serving settings = first_of_two (wrong_folder (value_of dir_option settings))
    (first_of_two (wrong_listen (value_of listen_option settings)) (wrong_counts (value_of workers_option settings) (value_of accepts_option settings)))

-- of settings that are those of the command
abbrev pub wrong_with : Verb → List Setting → Option Wrong
wrong_with Pipe settings = wrong_stream (value_of stream_option settings) (value_of subject_option settings)
wrong_with Serve settings = wrong_serving settings

abbrev pub wrong_behind : Bytes → List Setting → Option Verb → Option Wrong
wrong_behind word settings None = Some (UnknownCommand, word)
wrong_behind word settings (Some verb) = first_of_two (wrong_setting verb settings) (wrong_with verb settings)

-- of the command line, if it is no command
abbrev pub wrong_of : List Bytes → Option Wrong
wrong_of [] = Some (NoCommand, [])
wrong_of (word ∷ words) = wrong_behind word (settings_of words) (verb_of word)

-- it was told, and nothing else is wrong
abbrev pub Tells : {T : Type 0} → Result T WordsFault → Option Wrong → Type 0
Tells (Ok value) wrong = wrong ≡ None
Tells (Err (faults.Wrong word)) wrong = wrong ≡ Some (wrong_in word)
Tells (Err faults.NoMemory) wrong = wrong ≡ None

-- a mistake is told exactly of words that are no command
abbrev pub LawTold : Type 0
LawTold = (words : List Bytes) → (command_of words ≡ None) ↔ IsSome (wrong_of words)

-- ---- the lines

abbrev pub text_of : Mistake → Bytes
text_of NoCommand = codes "no command"
text_of UnknownCommand = codes "unknown command: "
text_of (UnknownOption Pipe) = codes "pipe has no option "
text_of (UnknownOption Serve) = codes "serve has no option "
text_of NoValue = codes "no value, or one that begins with -, for "
text_of Twice = codes "more than one value for "
text_of NoFolder = codes "serve needs --dir"
text_of NoStream = codes "--subject needs --stream"
text_of NoSubject = codes "--stream needs --subject"
text_of WrongName = codes "--stream takes the name of a stream, not "
text_of WrongSubject = codes "--subject takes a subject, or a pattern, that meets none below $JS., not "
text_of WrongAddress = codes "--listen takes an IP address with its port, not "
text_of WrongWorkers = codes "--workers takes a number from 1 to 32, not "
text_of WrongAccepts = codes "--accepts takes a number of 1 to 19 digits, not "

abbrev pub usage : Bytes
usage = codes "usage: jsblock serve --dir DIR [--listen ADDRESS] [--workers COUNT] [--accepts COUNT]\n       jsblock pipe [--dir DIR] [--stream NAME --subject PATTERN]\n       jsblock --help"

abbrev pub wrong_line : Wrong → Bytes
wrong_line wrong = line_of (codes "jsblock: " ∷ text_of wrong.0 ∷ shown wrong.1 ∷ dots_of wrong.1 ∷ codes "\n" ∷ usage ∷ [])
