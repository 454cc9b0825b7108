-- What became of a hold, as those who asked for it rest on it.
use Rattle.std.specs.Prelude.{◌≡◌, ◌<◌, ◌^◌, Bool, true, false, not, Option, None, Some, IsUtf8}
use Rattle.js_model.specs.declared.event.What.{What}
use Rattle.js_model.specs.declared.event.What.TheVariants as whats
use Rattle.js_model.specs.declared.desk.PlaceAt.{PlaceAt}
use Rattle.place_engine.specs.Shown.{IsShown}
use Rattle.js_api.specs.declared.fault.DeskFault.{DeskFault}
use Rattle.js_api.specs.declared.outcome.Became.{Became}
use Rattle.js_api.specs.declared.outcome.Became.TheVariants.{Made, Unsaid, Ticked, Nothing, Broke, Stopped, Gone}
use Rattle.js_api.specs.OneStream.{is_done}

-- without a fault it was made, or it broke, or the place is stopped, or it keeps another incarnation
abbrev pub IsExplained : Option DeskFault → Became → Type 0
IsExplained (Some fault) became = Unit {0}
IsExplained None (Made reply) = Unit {0}
IsExplained None (Unsaid refused) = ⊥
IsExplained None Ticked = ⊥
IsExplained None Nothing = ⊥
IsExplained None (Broke stream) = Unit {0}
IsExplained None (Stopped stream) = Unit {0}
IsExplained None Gone = Unit {0}

-- what it shows can be printed
abbrev pub CanBeShown : Became → Type 0
CanBeShown (Made reply) = IsShown reply
CanBeShown (Unsaid refused) = Unit {0}
CanBeShown Ticked = Unit {0}
CanBeShown Nothing = Unit {0}
CanBeShown (Broke stream) = IsUtf8 stream
CanBeShown (Stopped stream) = IsUtf8 stream
CanBeShown Gone = Unit {0}

-- it was done, or not refused if its reply is withheld: asked to drop a stream, the place dropped it
abbrev pub is_dropped : Became → Bool
is_dropped (Made reply) = is_done reply
is_dropped (Unsaid refused) = not refused
is_dropped Ticked = false
is_dropped Nothing = false
is_dropped (Broke stream) = false
is_dropped (Stopped stream) = false
is_dropped Gone = false

-- a stream that was dropped had an incarnation below 2 ^ 62
abbrev pub NumbersDropped : What → Became → PlaceAt → Type 0
NumbersDropped (whats.Drop reply) became at = is_dropped became ≡ true → at.incarnation < 2 ^ 62
NumbersDropped (whats.Make reply config) became at = Unit {0}
NumbersDropped (whats.Change reply config) became at = Unit {0}
NumbersDropped (whats.Publish publish) became at = Unit {0}
NumbersDropped (whats.Purge reply filter below keep) became at = Unit {0}
NumbersDropped (whats.Delete reply seq) became at = Unit {0}
NumbersDropped (whats.MakeConsumer reply name config update) became at = Unit {0}
NumbersDropped (whats.DropConsumer reply name) became at = Unit {0}
NumbersDropped (whats.Ack reply ack) became at = Unit {0}
NumbersDropped (whats.Pull reply consumer ask) became at = Unit {0}
NumbersDropped whats.Tick became at = Unit {0}
NumbersDropped (whats.StreamInfo reply) became at = Unit {0}
NumbersDropped (whats.MessageGet reply by) became at = Unit {0}
NumbersDropped (whats.ConsumerInfo reply name) became at = Unit {0}
NumbersDropped (whats.ConsumerNames reply offset) became at = Unit {0}
NumbersDropped (whats.ConsumerList reply offset) became at = Unit {0}
