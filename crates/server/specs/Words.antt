-- The command line.
use Rattle.std.specs.Prelude.{◌≡◌, ◌≤◌, ⊤, List, [], ◌∷◌, map, string_bytes, Option, Some, None, option_map, option_and_then, Result, Ok, Err, IsSome, if◌then◌else◌}
use Rattle.std.specs.declared.string.String.{String}
use Rattle.std.specs.declared.alloc.Global.{Global}
use Rattle.js_base.specs.Bytes.{Bytes}
use Rattle.js_base.specs.Names.{name_of}
use Rattle.js_base.specs.declared.name.NameFault.{NameFault}
use Rattle.js_base.specs.Subjects.{is_stream_subject}
use Rattle.server.specs.Listening.{listening_of}
use Rattle.server.specs.Settings.{Setting, settings_of, are_settings, value_of, verb_of, dir_option, stream_option, subject_option}
use Rattle.server.specs.declared.settings.Verb.{Verb}
use Rattle.server.specs.declared.settings.Verb.TheVariants as Verb
use Rattle.server.specs.declared.words.NamedStream.{NamedStream}
use Rattle.server.specs.declared.words.Command.{Command}
use Rattle.server.specs.declared.words.Command.TheVariants.{Pipe, Serve}
use Rattle.server.specs.declared.words.WordsFault.{WordsFault}
use Rattle.server.specs.declared.words.WordsFault.TheVariants.{Wrong, NoMemory}

abbrev pub texts : List (String Global) → List Bytes
texts words = map string_bytes words

-- the stream of this name, if it is one
abbrev pub named : Bytes → Result Bytes NameFault → Option NamedStream
named subject (Ok name) = Some (record { name = name; subject = subject })
named subject (Err fault) = None

-- the stream of this name and subject, if they may be those of a stream
abbrev pub named_stream : Bytes → Bytes → Option NamedStream
named_stream name subject = if is_stream_subject subject then named subject (name_of name) else None

-- the stream that is named, or none if neither its name nor its subject is given; one without the other may not be given
abbrev pub stream_of : Option Bytes → Option Bytes → Option (Option NamedStream)
stream_of None None = Some None
stream_of None (Some subject) = None
stream_of (Some name) None = None
stream_of (Some name) (Some subject) = option_map Some (named_stream name subject)

-- the stream that a command names
abbrev pub stream_in : Command → Option NamedStream
stream_in (Pipe dir stream) = stream
stream_in (Serve listening) = None

-- `pipe` with these settings
abbrev pub pipe_with : List Setting → Option Command
pipe_with settings = option_map (Pipe (value_of dir_option settings)) (stream_of (value_of stream_option settings) (value_of subject_option settings))

-- `serve` with these settings
abbrev pub serve_with : List Setting → Option Command
serve_with settings = option_map Serve (listening_of settings)

-- the command with these settings
abbrev pub command_with : Verb → List Setting → Option Command
command_with Verb.Pipe settings = pipe_with settings
command_with Verb.Serve settings = serve_with settings

-- the same, if they are settings of it
abbrev pub command_in : List Setting → Verb → Option Command
command_in settings verb = if are_settings verb settings then command_with verb settings else None

-- the command that the command line is: the word for it, and behind that its settings in any order
abbrev pub command_of : List Bytes → Option Command
command_of [] = None
command_of (word ∷ words) = option_and_then (command_in (settings_of words)) (verb_of word)

-- `serve` has 1 to 32 workers
abbrev pub HasFewWorkers : Command → Type 0
HasFewWorkers (Pipe dir stream) = ⊤
HasFewWorkers (Serve listening) = (1 ≤ listening.workers) × (listening.workers ≤ 32)

-- what was returned was read, and memory may run out for what is there alone
abbrev pub Reads : {T : Type 0} → Result T WordsFault → Option T → Type 0
Reads (Ok value) read = read ≡ Some value
Reads (Err (Wrong word)) read = read ≡ None
Reads (Err NoMemory) read = IsSome read
