-- A reply shows no fraction.
use Rattle.std.proofs.Common.{◌≡◌, [], ◌∷◌, false, codes, refl}
use Rattle.serde_json.specs.Data.{array, Members, no_members, put}
use Rattle.serde_json.specs.Written.{has_float, members_have_float}
use Rattle.js_base.specs.Bytes.{Bytes}
use Rattle.js_base.specs.declared.out.ApiError.{ApiError}
use Rattle.js_model.specs.declared.stream.Message.{Message}
use Rattle.api_replies.specs.declared.reply.ApiReply.{ApiReply}
use Rattle.api_replies.specs.declared.reply.ApiReply.TheVariants as replies
use Rattle.js_json.specs.Building.{texts}
use Rattle.js_json.proofs.Fractions.{put_whole, all_whole, texts_whole}
use Rattle.js_model.specs.Limits.{names_a_page, infos_a_page}
use Rattle.api_replies.specs.Infos.{infos}
use Rattle.api_replies.specs.Messages.{base64_data, base64_unless_empty, message_of, message_data, stored_of, stored_members}
use Rattle.api_replies.specs.Refusals.{refused_members}
use Rattle.api_replies.specs.PubAcks.{unstored_members}
use Rattle.api_replies.specs.Consumers.{consumers as consumer_items}
use Rattle.api_replies.specs.Replies.{page_of, account_members, page_members, success_members, purge_members, reply_members, kind}
use Rattle.api_replies.proofs.StreamsWhole.{info_whole, infos_whole}
use Rattle.api_replies.proofs.ConsumersWhole.{consumer_whole, consumers_whole}

base64_whole : (key bytes : Bytes) (others : Members) → members_have_float others ≡ false → members_have_float (base64_unless_empty key bytes others) ≡ false
base64_whole key [] others rest = rest
base64_whole key (byte ∷ more) others rest = put_whole key (base64_data (byte ∷ more)) others refl rest

message_whole : (m : Message) → has_float (message_data m) ≡ false
unfolding message_data
message_whole m =
    all_whole (message_of m) (base64_unless_empty (codes "hdrs") m.headers no_members) (refl, (refl, (refl, (refl, tt))))
    (base64_whole (codes "hdrs") m.headers no_members refl)

stored_whole : (m : Message) → members_have_float (stored_members m) ≡ false
unfolding stored_members
stored_whole m = all_whole (stored_of m) no_members (message_whole m, tt) refl

members_whole : (reply : ApiReply) → members_have_float (reply_members reply) ≡ false
unfolding reply_members account_members page_members success_members purge_members refused_members
members_whole (replies.AccountInfo consumers storage streams) = refl
members_whole (replies.StreamCreate info) = info_whole info
members_whole (replies.StreamUpdate info) = info_whole info
members_whole (replies.StreamInfo info) = info_whole info
members_whole replies.StreamDelete = refl
members_whole (replies.StreamPurge purged) = refl
members_whole (replies.StreamNames offset streams total) = all_whole (page_of names_a_page (codes "streams") (array (texts streams)) offset total) no_members (refl, (refl, (texts_whole streams, (refl, tt)))) refl
members_whole (replies.StreamList offset streams total) = all_whole (page_of infos_a_page (codes "streams") (array (infos streams)) offset total) no_members (refl, (refl, (infos_whole streams, (refl, tt)))) refl
members_whole (replies.StreamMsgGet message) = stored_whole message
members_whole replies.StreamMsgDelete = refl
members_whole (replies.ConsumerCreate info) = consumer_whole info
members_whole (replies.ConsumerInfo info) = consumer_whole info
members_whole replies.ConsumerDelete = refl
members_whole (replies.ConsumerNames consumers offset total) = all_whole (page_of names_a_page (codes "consumers") (array (texts consumers)) offset total) no_members (refl, (refl, (texts_whole consumers, (refl, tt)))) refl
members_whole (replies.ConsumerList consumers offset total) = all_whole (page_of infos_a_page (codes "consumers") (array (consumer_items consumers)) offset total) no_members (refl, (refl, (consumers_whole consumers, (refl, tt)))) refl
members_whole (replies.Refused name e) = refl

pub unstored_whole : (stream : Bytes) (e : ApiError) → members_have_float (unstored_members stream e) ≡ false
unfolding unstored_members
unstored_whole stream e = refl

-- a reply with its kind
pub reply_whole : (name : Bytes) (reply : ApiReply) → members_have_float (put (codes "type") (kind name) (reply_members reply)) ≡ false
reply_whole name reply = put_whole (codes "type") (kind name) (reply_members reply) refl (members_whole reply)
