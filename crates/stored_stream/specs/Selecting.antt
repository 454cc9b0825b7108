-- What a filter selects, by JetStream's subject filters: all messages, those of one subject, or those that a pattern matches.
use Rattle.std.specs.Prelude.{ℕ, Bool, true, ◌&&◌, nat_le, List, filter, find, Option, option_map}
use Rattle.js_base.specs.Bytes.{Bytes, same}
use Rattle.js_base.specs.Subjects.{tokens, matches}
use Rattle.js_model.specs.declared.stream.Message.{Message}
use Rattle.js_model.specs.Events.{is_below}
use Rattle.stored_stream.specs.declared.selector.Selector.{Selector}
use Rattle.stored_stream.specs.declared.selector.Selector.TheVariants.{All, Subject, Pattern}

abbrev pub selects : Selector → Bytes → Bool
selects All subject = true
selects (Subject own) subject = same subject own.now
selects (Pattern pattern) subject = matches (tokens pattern.now) (tokens subject)

abbrev pub selected : Selector → List Message → List Message
selected selector messages = filter (λ m. selects selector m.subject) messages

-- those below a sequence, if one is given
abbrev pub is_named : Selector → Option ℕ → Message → Bool
is_named selector below m = selects selector m.subject && is_below below m.seq

abbrev pub named : Selector → Option ℕ → List Message → List Message
named selector below messages = filter (is_named selector below) messages

-- the sequence of the first message from a sequence on that passes a test
abbrev pub next_passing : (Message → Bool) → List Message → ℕ → Option ℕ
next_passing test messages from = option_map (λ m. m.seq) (find (λ m. nat_le from m.seq && test m) messages)

abbrev pub next_selected : Selector → List Message → ℕ → Option ℕ
next_selected selector messages from = next_passing (λ m. selects selector m.subject) messages from

abbrev pub next_named : Selector → Option ℕ → List Message → ℕ → Option ℕ
next_named selector below messages from = next_passing (is_named selector below) messages from
