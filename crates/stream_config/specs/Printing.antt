-- How a stream's configuration is printed, by JetStream's stream configuration: its JSON object, whose keys ascend. No limit is -1, but 0 for an age,
-- and a description is there if it is not empty.
use Rattle.std.specs.Prelude.{[], ◌∷◌, codes, IsUtf8}
use Rattle.std.specs.List.{All}
use Rattle.serde_json.specs.Data.{string, array, Members, no_members, member}
use Rattle.js_base.specs.Bytes.{Bytes}
use Rattle.js_json.specs.Building.{count, limit, texts}
use Rattle.js_model.specs.declared.stream_config.Retention.{Retention}
use Rattle.js_model.specs.declared.stream_config.Retention.TheVariants.{Limits, Interest, WorkQueue}
use Rattle.js_model.specs.declared.stream_config.Discard.{Discard}
use Rattle.js_model.specs.declared.stream_config.Discard.TheVariants.{Old, New as DiscardNew}
use Rattle.js_model.specs.declared.stream_config.StreamConfig.{StreamConfig}

abbrev pub retention_text : Retention → Bytes
retention_text Limits = codes "limits"
retention_text Interest = codes "interest"
retention_text WorkQueue = codes "workqueue"

abbrev pub discard_text : Discard → Bytes
discard_text Old = codes "old"
discard_text DiscardNew = codes "new"

-- a field with a text, and further ones
abbrev pub described : Bytes → Members → Members
described [] more = more
described (byte ∷ bytes) more = member (codes "description") (string (byte ∷ bytes)) more

-- the object that is printed
unfoldable pub printed : StreamConfig → Members
printed c =
    described c.description
    (member (codes "discard") (string (discard_text c.discard))
    (member (codes "duplicate_window") (count c.duplicate_window)
    (member (codes "max_age") (count c.max_age)
    (member (codes "max_bytes") (limit c.max_bytes)
    (member (codes "max_consumers") (limit c.max_consumers)
    (member (codes "max_msg_size") (limit c.max_msg_size)
    (member (codes "max_msgs") (limit c.max_msgs)
    (member (codes "max_msgs_per_subject") (limit c.max_msgs_per_subject)
    (member (codes "name") (string c.name)
    (member (codes "num_replicas") (count 1)
    (member (codes "retention") (string (retention_text c.retention))
    (member (codes "storage") (string (codes "file"))
    (member (codes "subjects") (array (texts c.subjects))
    no_members)))))))))))))

-- the texts that are printed are UTF-8
pub record IsPrinted (c : StreamConfig) : Type 0 where
  pub description : IsUtf8 c.description
  pub name : IsUtf8 c.name
  pub subjects : All IsUtf8 c.subjects
