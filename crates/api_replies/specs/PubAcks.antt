-- The answers to publishes and their texts, as JetStream's PubAck: JSON without spaces, its keys ascending.
use Rattle.std.specs.Prelude.{ℕ, true, List, [], ◌∷◌, codes, Option, Some, None}
use Rattle.serde_json.specs.Data.{Data, boolean, string, object, Members, no_members}
use Rattle.serde_json.specs.Written.{compact_text}
use Rattle.js_base.specs.Bytes.{Bytes}
use Rattle.js_base.specs.declared.out.ApiError.{ApiError}
use Rattle.js_json.specs.Building.{with_all, object_with, count}
use Rattle.js_model.specs.declared.reply.Reply.{Reply}
use Rattle.js_model.specs.declared.reply.Reply.TheVariants as replies
use Rattle.api_replies.specs.Refusals.{error_of}

-- the message was stored with this sequence
abbrev pub stored_of : Bytes → ℕ → List (Bytes × Data)
stored_of stream seq = (codes "seq", count seq) ∷ (codes "stream", string stream) ∷ []

-- its id was there, with this sequence
abbrev pub duplicate_of : Bytes → ℕ → List (Bytes × Data)
duplicate_of stream seq = (codes "duplicate", boolean true) ∷ stored_of stream seq

-- it was refused
abbrev pub unstored_of : Bytes → ApiError → List (Bytes × Data)
unstored_of stream e = (codes "error", object_with (error_of e)) ∷ stored_of stream 0

unfoldable pub unstored_members : Bytes → ApiError → Members
unstored_members stream e = with_all (unstored_of stream e) no_members

-- ---- the texts

unfoldable pub stored_text : Bytes → ℕ → Bytes
stored_text stream seq = compact_text (object_with (stored_of stream seq))

unfoldable pub duplicate_text : Bytes → ℕ → Bytes
duplicate_text stream seq = compact_text (object_with (duplicate_of stream seq))

unfoldable pub unstored_text : Bytes → ApiError → Bytes
unstored_text stream e = compact_text (object (unstored_members stream e))

-- the text that answers a publish to this stream, if the reply is one to a publish
abbrev pub publish_text : Bytes → Reply → Option Bytes
publish_text stream (replies.Published seq) = Some (stored_text stream seq)
publish_text stream (replies.Duplicate seq) = Some (duplicate_text stream seq)
publish_text stream (replies.Refused e) = Some (unstored_text stream e)
publish_text stream (replies.Info info) = None
publish_text stream replies.Done = None
publish_text stream (replies.Purged purged) = None
publish_text stream (replies.ConsumerInfo info) = None
publish_text stream (replies.Message message) = None
publish_text stream (replies.Names total list) = None
publish_text stream (replies.Infos total list) = None
publish_text stream replies.Confirmed = None
publish_text stream replies.Silent = None
publish_text stream replies.Nobody = None
