-- What a place may be asked.
use Rattle.std.specs.Prelude.{IfSome, IsTrue, IsUtf8}
use Rattle.js_base.specs.Subjects.{is_subject_text}
use Rattle.js_model.specs.declared.event.What.{What}
use Rattle.js_model.specs.declared.event.What.TheVariants as whats
use Rattle.js_model.specs.Proper.{if_given, reply_of, is_proper_what}

-- The name of a header with a bad number is UTF-8, since it is told.
abbrev pub IsBuilt : What → Type 0
IsBuilt (whats.Make reply config) = Unit {0}
IsBuilt (whats.Change reply config) = Unit {0}
IsBuilt (whats.Drop reply) = Unit {0}
IsBuilt (whats.Publish publish) = IfSome publish.wants.bad IsUtf8
IsBuilt (whats.Purge reply filter below keep) = Unit {0}
IsBuilt (whats.Delete reply seq) = Unit {0}
IsBuilt (whats.MakeConsumer reply name config update) = Unit {0}
IsBuilt (whats.DropConsumer reply name) = Unit {0}
IsBuilt (whats.Ack reply ack) = Unit {0}
IsBuilt (whats.Pull reply consumer ask) = Unit {0}
IsBuilt whats.Tick = Unit {0}
IsBuilt (whats.StreamInfo reply) = Unit {0}
IsBuilt (whats.MessageGet reply by) = Unit {0}
IsBuilt (whats.ConsumerInfo reply name) = Unit {0}
IsBuilt (whats.ConsumerNames reply offset) = Unit {0}
IsBuilt (whats.ConsumerList reply offset) = Unit {0}

-- a reader gives what is asked so, and a place does it
pub record MayAsk (what : What) : Type 0 where
  pub reply : IsTrue (if_given is_subject_text (reply_of what))
  pub proper : IsTrue (is_proper_what what)
  pub built : IsBuilt what
