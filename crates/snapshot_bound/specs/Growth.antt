-- By how much a record may raise what a place comes to, by a rule of this server's own.
use Rattle.std.specs.Prelude.{◌≡◌, ◌+◌, ◌*◌, ℕ, Bool, true, false, List, length, Option, None, Some}
use Rattle.std.specs.List.{list_any}
use Rattle.config_texts.specs.Texts.{stream_text, consumer_text}
use Rattle.effects.specs.declared.durable.Body.{Body}
use Rattle.effects.specs.declared.effect.Effect.{Effect}
use Rattle.effects.specs.declared.effect.Effect.TheVariants.{MakeStream, ChangeStream, DropStream, PutHere, Skip, Remove, MakeConsumer, DropConsumer, Deliver, Acked, Due, GivenUp, Now}
use Rattle.snapshot_bound.specs.Bounds.{most_held}

-- how many messages and consumers there are
abbrev pub messages_in : Option Body → ℕ
messages_in None = 0
messages_in (Some b) = length b.messages

abbrev pub consumers_in : Option Body → ℕ
consumers_in None = 0
consumers_in (Some b) = length b.consumers

-- by so much at most it raises the part that no count tells
abbrev pub record_fixed : Effect → ℕ
record_fixed (MakeStream incarnation made config) = length (stream_text config)
record_fixed (ChangeStream config) = length (stream_text config)
record_fixed DropStream = 0
record_fixed (PutHere seq at id subject headers payload) = 0
record_fixed (Skip seq at id) = 0
record_fixed (Remove low high) = 0
record_fixed (MakeConsumer name made config cursor picks) = 41 + length name + length (consumer_text config) + 8 * length picks
record_fixed (DropConsumer name) = 0
record_fixed (Deliver name seq count due dseq) = 0
record_fixed (Acked name low high) = 0
record_fixed (Due name seq due) = 0
record_fixed (GivenUp name moment) = 0
record_fixed (Now moment) = 0

-- and by so much the other, where there are so many messages and consumers
abbrev pub record_counted : (messages consumers : ℕ) → Effect → ℕ
record_counted messages consumers (MakeStream incarnation made config) = 54
record_counted messages consumers (ChangeStream config) = 0
record_counted messages consumers DropStream = 0
record_counted messages consumers (PutHere seq at id subject headers payload) = 50 + length id + 32 * consumers
record_counted messages consumers (Skip seq at id) = 18 + length id
record_counted messages consumers (Remove low high) = 0
record_counted messages consumers (MakeConsumer name made config cursor picks) = 32 * most_held messages
record_counted messages consumers (DropConsumer name) = 0
record_counted messages consumers (Deliver name seq count due dseq) = 0
record_counted messages consumers (Acked name low high) = 0
record_counted messages consumers (Due name seq due) = 0
record_counted messages consumers (GivenUp name moment) = 0
record_counted messages consumers (Now moment) = 0

-- it may raise any of it
abbrev pub is_growing : Effect → Bool
is_growing (MakeStream incarnation made config) = true
is_growing (ChangeStream config) = true
is_growing DropStream = false
is_growing (PutHere seq at id subject headers payload) = true
is_growing (Skip seq at id) = true
is_growing (Remove low high) = false
is_growing (MakeConsumer name made config cursor picks) = true
is_growing (DropConsumer name) = false
is_growing (Deliver name seq count due dseq) = false
is_growing (Acked name low high) = false
is_growing (Due name seq due) = false
is_growing (GivenUp name moment) = false
is_growing (Now moment) = false

-- none of them does
abbrev pub AreQuiet : List Effect → Type 0
AreQuiet effects = list_any is_growing effects ≡ false
