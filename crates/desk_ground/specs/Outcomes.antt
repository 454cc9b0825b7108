-- What a hold came to, as those who asked for it rest on it.
use Rattle.std.specs.Prelude.{◌≡◌, false, Some, if◌then◌else◌}
use Rattle.js_model.specs.declared.event.What.{What}
use Rattle.js_model.specs.declared.event.What.TheVariants as whats
use Rattle.js_model.specs.declared.desk.PlaceAt.{PlaceAt}
use Rattle.js_api.specs.declared.fault.DeskFault.TheVariants as faults
use Rattle.js_api.specs.declared.outcome.Became.{Became}
use Rattle.js_api.specs.declared.outcome.Became.TheVariants.{Made, Unsaid, Ticked, Nothing, Broke, Stopped, Gone}
use Rattle.js_api.specs.declared.outcome.Outcome.{Outcome}
use Rattle.desk_answers.specs.Became.{is_dropped}
use Rattle.desk_ground.specs.Grounds.{Phase, Within, Owing}

-- memory ran out before it
abbrev pub unmade : Outcome
unmade = record { became = Nothing; ready = false; fault = Some faults.NoMemory }

-- the place keeps the incarnation that was asked for
abbrev pub IsThere : Became → Type 0
IsThere (Made reply) = Unit {0}
IsThere (Unsaid refused) = Unit {0}
IsThere Ticked = Unit {0}
IsThere Nothing = Unit {0}
IsThere (Broke stream) = Unit {0}
IsThere (Stopped stream) = Unit {0}
IsThere Gone = ⊥

-- ---- the dropping of a stream

-- a stream is dropped within a turn of the catalog
abbrev pub MayHold : What → Phase → Type 0
MayHold (whats.Make reply config) phase = Unit {0}
MayHold (whats.Change reply config) phase = Unit {0}
MayHold (whats.Drop reply) phase = phase ≡ Within
MayHold (whats.Publish publish) phase = Unit {0}
MayHold (whats.Purge reply filter below keep) phase = Unit {0}
MayHold (whats.Delete reply seq) phase = Unit {0}
MayHold (whats.MakeConsumer reply name config update) phase = Unit {0}
MayHold (whats.DropConsumer reply name) phase = Unit {0}
MayHold (whats.Ack reply ack) phase = Unit {0}
MayHold (whats.Pull reply consumer ask) phase = Unit {0}
MayHold whats.Tick phase = Unit {0}
MayHold (whats.StreamInfo reply) phase = Unit {0}
MayHold (whats.MessageGet reply by) phase = Unit {0}
MayHold (whats.ConsumerInfo reply name) phase = Unit {0}
MayHold (whats.ConsumerNames reply offset) phase = Unit {0}
MayHold (whats.ConsumerList reply offset) phase = Unit {0}

-- the phase after a hold
abbrev pub phase_after : What → PlaceAt → Became → Phase → Phase
phase_after (whats.Make reply config) at became phase = phase
phase_after (whats.Change reply config) at became phase = phase
phase_after (whats.Drop reply) at became phase = if is_dropped became then Owing at.place else phase
phase_after (whats.Publish publish) at became phase = phase
phase_after (whats.Purge reply filter below keep) at became phase = phase
phase_after (whats.Delete reply seq) at became phase = phase
phase_after (whats.MakeConsumer reply name config update) at became phase = phase
phase_after (whats.DropConsumer reply name) at became phase = phase
phase_after (whats.Ack reply ack) at became phase = phase
phase_after (whats.Pull reply consumer ask) at became phase = phase
phase_after whats.Tick at became phase = phase
phase_after (whats.StreamInfo reply) at became phase = phase
phase_after (whats.MessageGet reply by) at became phase = phase
phase_after (whats.ConsumerInfo reply name) at became phase = phase
phase_after (whats.ConsumerNames reply offset) at became phase = phase
phase_after (whats.ConsumerList reply offset) at became phase = phase
