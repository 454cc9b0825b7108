-- What is shown of a stream has no fraction.
use Rattle.std.proofs.Common.{◌≡◌, List, [], ◌∷◌, false, refl}
use Rattle.serde_json.specs.Data.{Members, no_members}
use Rattle.serde_json.specs.Written.{has_float, items_have_float, members_have_float}
use Rattle.js_base.specs.Bytes.{Bytes}
use Rattle.js_json.proofs.Fractions.{either, all_whole, limit_whole, texts_whole}
use Rattle.js_model.specs.declared.stream_config.StreamConfig.{StreamConfig}
use Rattle.js_model.specs.declared.reply.StreamInfo.{StreamInfo}
use Rattle.stream_config.specs.Printing.{described, printed}
use Rattle.api_replies.specs.Infos.{state_data, info_of, info_members, infos}

described_whole : (text : Bytes) (more : Members) → members_have_float more ≡ false → members_have_float (described text more) ≡ false
described_whole [] more rest = rest
described_whole (byte ∷ bytes) more rest = rest

config_whole : (c : StreamConfig) → members_have_float (printed c) ≡ false
unfolding printed
config_whole c =
    described_whole c.description _
    (rw (limit_whole c.max_bytes, limit_whole c.max_consumers, limit_whole c.max_msg_size, limit_whole c.max_msgs, limit_whole c.max_msgs_per_subject, texts_whole c.subjects) refl)

state_whole : (info : StreamInfo) → has_float (state_data info) ≡ false
unfolding state_data
state_whole info = refl

pub info_whole : (info : StreamInfo) → members_have_float (info_members info) ≡ false
unfolding info_members
info_whole info = all_whole (info_of info) no_members (config_whole info.config, (refl, (state_whole info, tt))) refl

pub infos_whole : (list : List StreamInfo) → items_have_float (infos list) ≡ false
infos_whole [] = refl
infos_whole (info ∷ more) = either _ _ (info_whole info) (infos_whole more)
