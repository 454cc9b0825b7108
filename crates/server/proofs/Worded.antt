-- Laws of the command line.
use Rattle.std.proofs.Common.{ℕ, ◌≡◌, ◌≤◌, ◌&&◌, leb-true, lit≤, Bool, true, false, List, [], ◌∷◌, Option, None, Some, Result, Ok, Err, option_map, option_and_then, refl, sym, subst}
use Rattle.std.specs.Prelude.{IsTrue, IfSome, IfOk, nat_le, if◌then◌else◌}
use Rattle.std.specs.declared.net.socket_addr.SocketAddr.{SocketAddr}
use Rattle.std.proofs.lemmas.Bool.{and_parts}
use Rattle.js_base.specs.Bytes.{Bytes}
use Rattle.js_base.specs.Names.{name_of}
use Rattle.js_base.specs.Subjects.{is_stream_subject}
use Rattle.js_base.specs.declared.name.NameFault.{NameFault}
use Rattle.server.specs.Listening.{few_workers, number_of, workers_of, said, listening_of}
use Rattle.server.specs.Settings.{Setting, settings_of, are_settings, value_of, verb_of, dir_option, stream_option, subject_option, workers_option}
use Rattle.server.specs.declared.listening.AcceptLimit.{AcceptLimit}
use Rattle.server.specs.declared.listening.Listening.{Listening}
use Rattle.server.specs.declared.settings.Verb.{Verb}
use Rattle.server.specs.declared.settings.Verb.TheVariants as Verb
use Rattle.server.specs.declared.words.NamedStream.{NamedStream}
use Rattle.server.specs.declared.words.Command.{Command}
use Rattle.server.specs.declared.words.Command.TheVariants.{Pipe, Serve}
use Rattle.server.specs.Words.{named, named_stream, stream_of, stream_in, pipe_with, serve_with, command_with, command_in, command_of, HasFewWorkers, Reads}
use Rattle.server.specs.declared.words.WordsFault.{WordsFault}

abbrev pub IsFine : Bytes → Type 0
IsFine subject = IsTrue (is_stream_subject subject)

-- the subject of the stream, if there is one, may be that of a stream
abbrev pub AreFine : Option NamedStream → Type 0
AreFine stream = IfSome stream (λ s. IsFine s.subject)

of_named : (subject : Bytes) (read : Result Bytes NameFault) → IsFine subject → AreFine (named subject read)
of_named subject (Ok name) fine = fine
of_named subject (Err fault) fine = tt

of_named_stream : (name subject : Bytes) → AreFine (named_stream name subject)
of_named_stream name subject = by (is_stream_subject subject) refl
  where
    by : (b : Bool) → is_stream_subject subject ≡ b → AreFine (if b then named subject (name_of name) else None)
    by true is = of_named subject (name_of name) is
    by false is = tt

-- the same for what was read
abbrev IsRead : Option (Option NamedStream) → Type 0
IsRead read = IfSome read AreFine

read_of : (found : Option NamedStream) → AreFine found → IsRead (option_map Some found)
read_of None fine = tt
read_of (Some stream) fine = fine

of_stream : (name subject : Option Bytes) → IsRead (stream_of name subject)
of_stream None None = tt
of_stream None (Some subject) = tt
of_stream (Some name) None = tt
of_stream (Some name) (Some subject) = read_of (named_stream name subject) (of_named_stream name subject)

-- the subject of a command's stream may be one
abbrev pub HasSubject : Command → Type 0
HasSubject command = AreFine (stream_in command)

over_stream : (dir : Option Bytes) (read : Option (Option NamedStream)) → IsRead read → IfSome (option_map (Pipe dir) read) HasSubject
over_stream dir None fine = tt
over_stream dir (Some stream) fine = fine

piped : (settings : List Setting) → IfSome (pipe_with settings) HasSubject
piped settings = over_stream (value_of dir_option settings) _ (of_stream (value_of stream_option settings) (value_of subject_option settings))

-- `serve` names no stream
over_listening : (read : Option Listening) → IfSome (option_map Serve read) HasSubject
over_listening None = tt
over_listening (Some listening) = tt

-- what holds of each command with settings holds of each command line's
module _ (Holds : Command → Type 0) (of_pipe : (settings : List Setting) → IfSome (pipe_with settings) Holds) (of_serve : (settings : List Setting) → IfSome (serve_with settings) Holds) where
  with_settings : (verb : Verb) (settings : List Setting) → IfSome (command_with verb settings) Holds
  with_settings Verb.Pipe settings = of_pipe settings
  with_settings Verb.Serve settings = of_serve settings

  in_settings : (verb : Verb) (settings : List Setting) (b : Bool) → IfSome (if b then command_with verb settings else None) Holds
  in_settings verb settings true = with_settings verb settings
  in_settings verb settings false = tt

  of_verb : (settings : List Setting) (verb : Option Verb) → IfSome (option_and_then (command_in settings) verb) Holds
  of_verb settings None = tt
  of_verb settings (Some verb) = in_settings verb settings (are_settings verb settings)

  over_words : (words : List Bytes) → IfSome (command_of words) Holds
  over_words [] = tt
  over_words (word ∷ words) = of_verb (settings_of words) (verb_of word)

  of_words : (words : List Bytes) (command : Command) → command_of words ≡ Some command → Holds command
  of_words words command e = let k : IfSome (Some command) Holds = rw e at (over_words words) in k

command_subject : (words : List Bytes) (command : Command) → command_of words ≡ Some command → HasSubject command
command_subject = of_words HasSubject piped (λ settings. over_listening (listening_of settings))

-- so may that of the stream that is taken out of it
pub named_subject : (words : List Bytes) (command : Command) (stream : Option NamedStream) → command_of words ≡ Some command → stream ≡ stream_in command → AreFine stream
named_subject words command stream e taken = subst AreFine (sym taken) (command_subject words command e)

abbrev AreFew : ℕ → Type 0
AreFew workers = (1 ≤ workers) × (workers ≤ 32)

few : (n : ℕ) → IfSome (few_workers n) AreFew
few n = by (nat_le 1 n && nat_le n 32) refl
  where
    by : (b : Bool) → (nat_le 1 n && nat_le n 32) ≡ b → IfSome (if b then Some n else None) AreFew
    by true is = let (low, high) = and_parts (nat_le 1 n) (nat_le n 32) is in (leb-true 1 n low, leb-true n 32 high)
    by false is = tt

few_of : (count : Option ℕ) → IfSome (option_and_then few_workers count) AreFew
few_of None = tt
few_of (Some n) = few n

few_told : (text : Option Bytes) → IfSome (workers_of text) AreFew
few_told None = (lit≤ tt, lit≤ tt)
few_told (Some text) = few_of (number_of text)

few_said : (dir : Option Bytes) (listen : Option SocketAddr) (workers : Option ℕ) (accepts : Option AcceptLimit) → IfSome workers AreFew → IfSome (option_map Serve (said dir listen workers accepts)) HasFewWorkers
few_said None listen workers accepts are = tt
few_said (Some dir) None workers accepts are = tt
few_said (Some dir) (Some listen) None accepts are = tt
few_said (Some dir) (Some listen) (Some workers) None are = tt
few_said (Some dir) (Some listen) (Some workers) (Some accepts) are = are

few_served : (settings : List Setting) → IfSome (serve_with settings) HasFewWorkers
few_served settings = few_said _ _ _ _ (few_told (value_of workers_option settings))

few_piped : (dir : Option Bytes) (read : Option (Option NamedStream)) → IfSome (option_map (Pipe dir) read) HasFewWorkers
few_piped dir None = tt
few_piped dir (Some stream) = tt

-- a command that was read has few workers
pub few_read : (words : List Bytes) (result : Result Command WordsFault) → Reads result (command_of words) → IfOk result HasFewWorkers
few_read words (Ok command) read = of_words HasFewWorkers (λ settings. few_piped (value_of dir_option settings) _) few_served words command read
few_read words (Err fault) read = tt
