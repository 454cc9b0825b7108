-- What a log tells of the messages that a place holds, by a format of this server's own: it has their sequences and moments, and their subjects, headers and
-- payloads lie in blocks. Until its block is read, a message stands there with the shortest subject, and with neither headers nor payload.
use Rattle.std.specs.Prelude.{List, [], ◌∷◌, map, option_map}
use Rattle.js_base.specs.Bytes.{Bytes}
use Rattle.js_model.specs.declared.stream.Message.{Message}
use Rattle.js_model.specs.Runs.{messages_of}
use Rattle.effects.specs.declared.durable.Body.{Body}
use Rattle.effects.specs.declared.durable.Durable.{Durable}
use Rattle.effects.specs.declared.effect.Effect.{Effect}
use Rattle.effects.specs.declared.effect.Effect.TheVariants.{MakeStream, ChangeStream, DropStream, PutHere, Skip, Remove, MakeConsumer, DropConsumer, Deliver, Acked, Due, GivenUp, Now}
use Rattle.effects.specs.Durables.{state_of}

-- a hyphen
abbrev pub unread_subject : Bytes
unread_subject = 45 ∷ []

abbrev pub unread_message : Message → Message
unread_message m = record m { subject = unread_subject; headers = []; payload = [] }

abbrev pub unread_body : Body → Body
unread_body b = record b { messages = map unread_message b.messages }

-- each message is unread, and all else is the same
abbrev pub unread : Durable → Durable
unread d = record d { body = option_map unread_body d.body }

abbrev pub stored_messages : Durable → List Message
stored_messages d = messages_of (state_of d)

abbrev pub unread_effect : Effect → Effect
unread_effect (MakeStream incarnation made config) = MakeStream incarnation made config
unread_effect (ChangeStream config) = ChangeStream config
unread_effect DropStream = DropStream
unread_effect (PutHere seq at id subject headers payload) = PutHere seq at id unread_subject [] []
unread_effect (Skip seq at id) = Skip seq at id
unread_effect (Remove low high) = Remove low high
unread_effect (MakeConsumer name made config cursor picks) = MakeConsumer name made config cursor picks
unread_effect (DropConsumer name) = DropConsumer name
unread_effect (Deliver name seq count due dseq) = Deliver name seq count due dseq
unread_effect (Acked name low high) = Acked name low high
unread_effect (Due name seq due) = Due name seq due
unread_effect (GivenUp name moment) = GivenUp name moment
unread_effect (Now moment) = Now moment
