-- What a stream is told that it alone answers, and the names that two texts are.
use Rattle.std.specs.Prelude.{◌≡◌, false, Option, None, Some, Ok}
use Rattle.js_base.specs.Bytes.{Bytes}
use Rattle.js_base.specs.Names.{name_of}
use Rattle.js_model.specs.declared.event.What.{What}
use Rattle.js_model.specs.declared.event.What.TheVariants as whats
use Rattle.js_api.specs.OneConsumer.{are_names}
use Rattle.desk_messaging.specs.declared.hearing.Telling.{Telling}
use Rattle.desk_messaging.specs.declared.hearing.Telling.TheVariants.{Pull, Ack}

-- what its place is asked, for this reply subject
abbrev pub what_of : Telling → Option Bytes → What
what_of (Pull consumer ask) to = whats.Pull to consumer.now ask
what_of (Ack ack) to = whats.Ack to ack.now

-- the text is read as this name, or as none
abbrev pub ReadsName : Option Bytes → Bytes → Type 0
ReadsName (Some name) text = (name_of text ≡ Ok name) × (name ≡ text)
ReadsName None text = are_names (name_of text) (name_of text) ≡ false

-- the texts are read as these names, or one of them as none
abbrev pub ReadsNames : Option (Bytes × Bytes) → Bytes → Bytes → Type 0
ReadsNames (Some names) stream consumer = ReadsName (Some names.0) stream × ReadsName (Some names.1) consumer
ReadsNames None stream consumer = are_names (name_of stream) (name_of consumer) ≡ false
