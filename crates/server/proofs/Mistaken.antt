-- Laws of what is wrong of a command line.
use Rattle.std.proofs.Common.{◌≡◌, ℕ, ◌&&◌, Bool, true, false, List, [], ◌∷◌, Option, None, Some, Result, Ok, Err, option_map, option_and_then, refl, sym, ◌∙◌, ap}
use Rattle.std.specs.Prelude.{◌↔◌, is_none, IsSome, if◌then◌else◌}
use Rattle.std.specs.declared.net.socket_addr.SocketAddr.{SocketAddr}
use Rattle.js_base.specs.Bytes.{Bytes}
use Rattle.js_base.specs.Names.{name_of}
use Rattle.js_base.specs.Subjects.{is_stream_subject}
use Rattle.js_base.specs.declared.name.NameFault.{NameFault}
use Rattle.server.specs.Addresses.{first_of_two}
use Rattle.server.specs.Listening.{listen_of, workers_of, accepts_of, said, listening_of}
use Rattle.server.specs.Settings.{Setting, settings_of, is_option, is_value, are_settings, value_of, verb_of, dir_option, stream_option, subject_option, listen_option, workers_option, accepts_option}
use Rattle.server.specs.Words.{named, named_stream, stream_of, pipe_with, serve_with, command_with, command_in, command_of}
use Rattle.server.specs.WrongWords.{Wrong, mistake_of, wrong_at, wrong_setting, wrong_name, wrong_named, wrong_stream, wrong_text, wrong_folder, wrong_listen, wrong_workers, wrong_accepts, wrong_counts, wrong_serving, wrong_with, wrong_behind, wrong_of, LawTold}
use Rattle.server.specs.declared.listening.AcceptLimit.{AcceptLimit}
use Rattle.server.specs.declared.listening.Listening.{Listening}
use Rattle.server.specs.declared.mistakes.Mistake.TheVariants.{WrongAddress, WrongWorkers, WrongAccepts}
use Rattle.server.specs.declared.settings.Verb.{Verb}
use Rattle.server.specs.declared.settings.Verb.TheVariants as verbs
use Rattle.server.specs.declared.words.Command.{Command}
use Rattle.server.specs.declared.words.Command.TheVariants.{Pipe, Serve}

-- ---- of settings

judged : (verb : Verb) (settings : List Setting) → is_none (wrong_setting verb settings) ≡ are_settings verb settings
judged verb [] = refl
judged verb (setting ∷ more) = by (is_option verb setting.0) (is_value setting.1) (is_none (value_of setting.0 more)) refl refl refl (judged verb more)
  where
    by : (o v n : Bool) → is_option verb setting.0 ≡ o → is_value setting.1 ≡ v → is_none (value_of setting.0 more) ≡ n → is_none (wrong_setting verb more) ≡ are_settings verb more
        → is_none (wrong_setting verb (setting ∷ more)) ≡ are_settings verb (setting ∷ more)
    by false v n is-o is-v is-n rest = rw is-o refl
    by true false n is-o is-v is-n rest = rw (is-o, is-v) refl
    by true true false is-o is-v is-n rest = rw (is-o, is-v, is-n) refl
    by true true true is-o is-v is-n rest = rw (is-o, is-v, is-n) rest

-- nothing is wrong of settings of the command
pub settings_right : (verb : Verb) (settings : List Setting) → wrong_setting verb settings ≡ None → are_settings verb settings ≡ true
settings_right verb settings e = sym (judged verb settings) ∙ ap is_none e

-- and of others something is
settings_wrong : (verb : Verb) (settings : List Setting) (wrong : Wrong) → wrong_setting verb settings ≡ Some wrong → are_settings verb settings ≡ false
settings_wrong verb settings wrong e = sym (judged verb settings) ∙ ap is_none e

-- so these are no command
pub no_command : (word : Bytes) (settings : List Setting) (verb : Verb) (wrong : Wrong) → verb_of word ≡ Some verb → wrong_setting verb settings ≡ Some wrong
    → option_and_then (command_in settings) (verb_of word) ≡ None
no_command word settings verb wrong named e = rw (named, settings_wrong verb settings wrong e) refl

-- ---- of commands

-- one of the two is there
abbrev Differ : {A B : Type 0} → Option A → Option B → Type 0
Differ None None = ⊥
Differ None (Some wrong) = Unit {0}
Differ (Some command) None = Unit {0}
Differ (Some command) (Some wrong) = ⊥

mapped : {A B C : Type 0} (f : A → B) (read : Option A) (wrong : Option C) → Differ read wrong → Differ (option_map f read) wrong
mapped f None wrong h = h
mapped f (Some a) wrong h = h

name_differs : (name subject : Bytes) (read : Result Bytes NameFault) → Differ (named subject read) (wrong_name name read)
name_differs name subject (Ok read) = tt
name_differs name subject (Err fault) = tt

named_differs : (name subject : Bytes) → Differ (named_stream name subject) (wrong_named name subject)
named_differs name subject = by (is_stream_subject subject) refl
  where
    by : (b : Bool) → is_stream_subject subject ≡ b → Differ (named_stream name subject) (wrong_named name subject)
    by true is = rw is (name_differs name subject (name_of name))
    by false is = rw is tt

stream_differs : (name subject : Option Bytes) → Differ (stream_of name subject) (wrong_stream name subject)
stream_differs None None = tt
stream_differs None (Some subject) = tt
stream_differs (Some name) None = tt
stream_differs (Some name) (Some subject) = mapped Some (named_stream name subject) (wrong_named name subject) (named_differs name subject)

said_differs : (dir : Option Bytes) (listen : Option SocketAddr) (workers : Option ℕ) (accepts : Option AcceptLimit) (l w a : Option Bytes)
    → Differ (said dir listen workers accepts)
    (first_of_two (wrong_folder dir) (first_of_two (wrong_text WrongAddress listen l) (first_of_two (wrong_text WrongWorkers workers w) (wrong_text WrongAccepts accepts a))))
said_differs None listen workers accepts l w a = tt
said_differs (Some dir) None workers accepts l w a = tt
said_differs (Some dir) (Some listen) None accepts l w a = tt
said_differs (Some dir) (Some listen) (Some workers) None l w a = tt
said_differs (Some dir) (Some listen) (Some workers) (Some accepts) l w a = tt

with_differs : (verb : Verb) (settings : List Setting) → Differ (command_with verb settings) (wrong_with verb settings)
with_differs verbs.Pipe settings = mapped (Pipe (value_of dir_option settings)) _ _ (stream_differs (value_of stream_option settings) (value_of subject_option settings))
with_differs verbs.Serve settings =
    mapped Serve (listening_of settings) _ (said_differs (value_of dir_option settings) (listen_of (value_of listen_option settings)) (workers_of (value_of workers_option settings))
    (accepts_of (value_of accepts_option settings)) (value_of listen_option settings) (value_of workers_option settings) (value_of accepts_option settings))

behind_differs : (word : Bytes) (settings : List Setting) (verb : Option Verb) → Differ (option_and_then (command_in settings) verb) (wrong_behind word settings verb)
behind_differs word settings None = tt
behind_differs word settings (Some verb) = by (wrong_setting verb settings) refl
  where
    by : (wrong : Option Wrong) → wrong_setting verb settings ≡ wrong → Differ (command_in settings verb) (wrong_behind word settings (Some verb))
    by None is = rw (settings_right verb settings is, is) (with_differs verb settings)
    by (Some wrong) is = rw (settings_wrong verb settings wrong is, is) tt

words_differ : (words : List Bytes) → Differ (command_of words) (wrong_of words)
words_differ [] = tt
words_differ (word ∷ words) = behind_differs word (settings_of words) (verb_of word)

apart : {A B : Type 0} (command : Option A) (wrong : Option B) → Differ command wrong → (command ≡ None) ↔ IsSome wrong
apart None None h = absurd h
apart None (Some wrong) h = (λ none. refl, λ some. refl)
apart (Some command) None h = (λ none. cc, λ some. cc)
apart (Some command) (Some wrong) h = absurd h

pub told : LawTold
told words = apart (command_of words) (wrong_of words) (words_differ words)
