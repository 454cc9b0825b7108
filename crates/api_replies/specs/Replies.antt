-- The replies of the API and their texts, by the JetStream API reference: JSON without spaces, its keys ascending.
use Rattle.std.specs.Prelude.{ℕ, true, List, [], ◌∷◌, ◌++◌, codes, None}
use Rattle.serde_json.specs.Data.{Data, boolean, string, array, object, Items, Members, no_members, put}
use Rattle.serde_json.specs.Written.{compact_text}
use Rattle.js_base.specs.Bytes.{Bytes}
use Rattle.js_json.specs.Building.{with_all, object_with, count, limit, texts}
use Rattle.js_model.specs.Limits.{places, names_a_page, infos_a_page}
use Rattle.api_calls.specs.declared.call.ApiCall.TheVariants as calls
use Rattle.api_calls.specs.Names.{name_of}
use Rattle.api_replies.specs.declared.reply.ApiReply.{ApiReply}
use Rattle.api_replies.specs.declared.reply.ApiReply.TheVariants as replies
use Rattle.api_replies.specs.Refusals.{refused_members}
use Rattle.api_replies.specs.Infos.{info_members, infos}
use Rattle.api_replies.specs.Messages.{stored_members}
use Rattle.api_replies.specs.Consumers.{consumer_members, consumers as consumer_items}

-- the server counts no calls
abbrev pub calls_of : List (Bytes × Data)
calls_of = (codes "errors", count 0) ∷ (codes "total", count 0) ∷ []

-- what an account may have
abbrev pub limits_of : List (Bytes × Data)
limits_of =
    (codes "max_consumers", limit None)
    ∷ (codes "max_memory", count 0)
    ∷ (codes "max_storage", limit None)
    ∷ (codes "max_streams", count places)
    ∷ []

abbrev pub usage_of : ℕ → ℕ → List (Bytes × Data)
usage_of storage streams = (codes "memory", count 0) ∷ (codes "storage", count storage) ∷ (codes "streams", count streams) ∷ []

abbrev pub account_of : ℕ → ℕ → ℕ → List (Bytes × Data)
account_of consumers storage streams =
    (codes "api", object_with calls_of)
    ∷ (codes "consumers", count consumers)
    ∷ (codes "limits", object_with limits_of)
    ∷ usage_of storage streams

-- a page of a list, of which a reply shows at most so many
abbrev pub page_of : ℕ → Bytes → Data → ℕ → ℕ → List (Bytes × Data)
page_of most key list offset total =
    (codes "limit", count most) ∷ (codes "offset", count offset) ∷ (key, list) ∷ (codes "total", count total) ∷ []

abbrev pub success : List (Bytes × Data)
success = (codes "success", boolean true) ∷ []

abbrev pub purge_of : ℕ → List (Bytes × Data)
purge_of purged = (codes "purged", count purged) ∷ (codes "success", boolean true) ∷ []

-- ---- what a reply shows beside its kind

unfoldable pub account_members : ℕ → ℕ → ℕ → Members
account_members consumers storage streams = with_all (account_of consumers storage streams) no_members

unfoldable pub page_members : ℕ → Bytes → Items → ℕ → ℕ → Members
page_members most key list offset total = with_all (page_of most key (array list) offset total) no_members

unfoldable pub success_members : Members
success_members = with_all success no_members

unfoldable pub purge_members : ℕ → Members
purge_members purged = with_all (purge_of purged) no_members

unfoldable pub reply_members : ApiReply → Members
reply_members (replies.AccountInfo consumers storage streams) = account_members consumers storage streams
reply_members (replies.StreamCreate info) = info_members info
reply_members (replies.StreamUpdate info) = info_members info
reply_members (replies.StreamInfo info) = info_members info
reply_members replies.StreamDelete = success_members
reply_members (replies.StreamPurge purged) = purge_members purged
reply_members (replies.StreamNames offset streams total) = page_members names_a_page (codes "streams") (texts streams) offset total
reply_members (replies.StreamList offset streams total) = page_members infos_a_page (codes "streams") (infos streams) offset total
reply_members (replies.StreamMsgGet message) = stored_members message
reply_members replies.StreamMsgDelete = success_members
reply_members (replies.ConsumerCreate info) = consumer_members info
reply_members (replies.ConsumerInfo info) = consumer_members info
reply_members replies.ConsumerDelete = success_members
reply_members (replies.ConsumerNames consumers offset total) = page_members names_a_page (codes "consumers") (texts consumers) offset total
reply_members (replies.ConsumerList consumers offset total) = page_members infos_a_page (codes "consumers") (consumer_items consumers) offset total
reply_members (replies.Refused name e) = refused_members e

-- the name of a reply
abbrev pub reply_name : ApiReply → Bytes
reply_name (replies.AccountInfo consumers storage streams) = name_of calls.AccountInfo
reply_name (replies.StreamCreate info) = name_of calls.StreamCreate
reply_name (replies.StreamUpdate info) = name_of calls.StreamUpdate
reply_name (replies.StreamInfo info) = name_of calls.StreamInfo
reply_name replies.StreamDelete = name_of calls.StreamDelete
reply_name (replies.StreamPurge purged) = name_of calls.StreamPurge
reply_name (replies.StreamNames offset streams total) = name_of calls.StreamNames
reply_name (replies.StreamList offset streams total) = name_of calls.StreamList
reply_name (replies.StreamMsgGet message) = name_of calls.StreamMsgGet
reply_name replies.StreamMsgDelete = name_of calls.StreamMsgDelete
reply_name (replies.ConsumerCreate info) = name_of calls.ConsumerCreate
reply_name (replies.ConsumerInfo info) = name_of calls.ConsumerInfo
reply_name replies.ConsumerDelete = name_of calls.ConsumerDelete
reply_name (replies.ConsumerNames consumers offset total) = name_of calls.ConsumerNames
reply_name (replies.ConsumerList consumers offset total) = name_of calls.ConsumerList
reply_name (replies.Refused name e) = name

-- what kind of reply it is, by its name
abbrev pub kind : Bytes → Data
kind name = string (codes "io.nats.jetstream.api.v1." ++ name ++ codes "_response")

-- the object with its kind
abbrev pub of_kind : Bytes → Members → Data
of_kind name members = object (put (codes "type") (kind name) members)

-- the text of a reply
unfoldable pub reply_text : ApiReply → Bytes
reply_text reply = compact_text (of_kind (reply_name reply) (reply_members reply))
