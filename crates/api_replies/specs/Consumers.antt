-- A consumer's information as it is shown, by the JetStream API reference.
use Rattle.std.specs.Prelude.{List, [], ◌∷◌, map, codes}
use Rattle.serde_json.specs.Data.{Data, string, object, Items, Members, no_members}
use Rattle.serde_json.specs.View.{items_of}
use Rattle.js_base.specs.Bytes.{Bytes}
use Rattle.js_json.specs.Building.{with_all, object_with, count}
use Rattle.js_json.specs.Times.{time_text}
use Rattle.js_model.specs.declared.reply.Info.{Info}
use Rattle.js_model.specs.declared.reply.ConsumerInfo.{ConsumerInfo}
use Rattle.consumer_config.specs.Printing.{printed}

abbrev pub ack_floor_of : Info → List (Bytes × Data)
ack_floor_of n = (codes "stream_seq", count n.ack_floor) ∷ []

abbrev pub delivered_of : Info → List (Bytes × Data)
delivered_of n = (codes "consumer_seq", count n.consumer_seq) ∷ (codes "stream_seq", count n.stream_seq) ∷ []

abbrev pub counts_of : Info → List (Bytes × Data)
counts_of n =
    (codes "num_ack_pending", count n.ack_pending)
    ∷ (codes "num_pending", count n.pending)
    ∷ (codes "num_redelivered", count n.redelivered)
    ∷ (codes "num_waiting", count n.waiting)
    ∷ []

abbrev pub progress_of : Info → List (Bytes × Data)
progress_of n = (codes "ack_floor", object_with (ack_floor_of n)) ∷ (codes "delivered", object_with (delivered_of n)) ∷ counts_of n

abbrev pub consumer_of : ConsumerInfo → List (Bytes × Data)
consumer_of info =
    (codes "config", object (printed info.config))
    ∷ (codes "created", string (time_text info.made))
    ∷ (codes "name", string info.name)
    ∷ (codes "stream_name", string info.stream)
    ∷ progress_of info.info

-- without its kind
unfoldable pub consumer_members : ConsumerInfo → Members
consumer_members info = with_all (consumer_of info) no_members

abbrev pub consumer_data : ConsumerInfo → Data
consumer_data info = object (consumer_members info)

-- in a list
abbrev pub consumers : List ConsumerInfo → Items
consumers list = items_of (map consumer_data list)
