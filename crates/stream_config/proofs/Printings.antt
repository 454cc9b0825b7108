-- The fields of a printed configuration, put in one after the other.
use Rattle.std.proofs.Common.{◌≡◌, [], ◌∷◌, codes, refl}
use Rattle.serde_json.specs.Data.{Members, no_members, string, array, put}
use Rattle.js_base.specs.Bytes.{Bytes}
use Rattle.js_model.specs.declared.stream_config.StreamConfig.{StreamConfig}
use Rattle.js_json.specs.Building.{count, limit, texts, text_unless_empty}
use Rattle.stream_config.specs.Printing.{discard_text, retention_text, printed}

-- all but the description are put into these
abbrev filled : StreamConfig → Members → Members
filled c made =
    put (codes "subjects") (array (texts c.subjects))
    (put (codes "storage") (string (codes "file"))
    (put (codes "retention") (string (retention_text c.retention))
    (put (codes "num_replicas") (count 1)
    (put (codes "name") (string c.name)
    (put (codes "max_msgs_per_subject") (limit c.max_msgs_per_subject)
    (put (codes "max_msgs") (limit c.max_msgs)
    (put (codes "max_msg_size") (limit c.max_msg_size)
    (put (codes "max_consumers") (limit c.max_consumers)
    (put (codes "max_bytes") (limit c.max_bytes)
    (put (codes "max_age") (count c.max_age)
    (put (codes "duplicate_window") (count c.duplicate_window)
    (put (codes "discard") (string (discard_text c.discard)) made))))))))))))

by_description : (text : Bytes) (c : StreamConfig) → c.description ≡ text → filled c (text_unless_empty (codes "description") text no_members) ≡ printed c
unfolding printed
by_description [] c e = rw e refl
by_description (byte ∷ bytes) c e = rw e refl

-- put in one behind the other they are the object that is printed
pub put_in_order : (c : StreamConfig) → filled c (text_unless_empty (codes "description") c.description no_members) ≡ printed c
put_in_order c = by_description c.description c refl
