-- Whether a state is within its bounds, and whether its messages can be written, computed.
use Rattle.std.specs.Prelude.{◌+◌, ◌^◌, nat_le, Bool, true, ◌&&◌, ◌||◌, not, length}
use Rattle.std.specs.List.{list_all}
use Rattle.js_base.specs.Bytes.{is_empty}
use Rattle.js_base.specs.Headers.{is_block}
use Rattle.js_base.specs.Subjects.{is_subject_text}
use Rattle.js_model.specs.declared.stream.Message.{Message}
use Rattle.js_model.specs.declared.stream.Id.{Id}
use Rattle.js_model.specs.declared.stream.State.{State}
use Rattle.js_model.specs.declared.stream.State.TheVariants.{Vacant, Live}
use Rattle.js_model.specs.declared.consumer.Pending.{Pending}
use Rattle.js_model.specs.declared.consumer.Consumer.{Consumer}
use Rattle.js_model.specs.Configs.{is_number}

-- ---- how much it holds

abbrev pub is_bounded_message : Message → Bool
is_bounded_message m = is_number m.seq && is_number m.at

abbrev pub is_bounded_id : Id → Bool
is_bounded_id i = not (is_empty i.id) && nat_le (length i.id) 256 && is_number i.seq && is_number i.at

abbrev pub is_bounded_entry : Pending → Bool
is_bounded_entry p = is_number p.count && is_number p.due

abbrev pub is_bounded_consumer : Consumer → Bool
is_bounded_consumer c =
    is_number c.made && nat_le c.cursor (2 ^ 62) && is_number c.dseq && nat_le (length c.picks) 65536
    && nat_le (length c.pending) 65536 && list_all is_bounded_entry c.pending && nat_le (length c.given_up) 65536

abbrev pub is_bounded : State → Bool
is_bounded (Vacant i) = is_number i
is_bounded (Live s) =
    is_number s.incarnation && is_number s.made && is_number s.last && is_number s.moment
    && nat_le (length s.messages) (2 ^ 24) && list_all is_bounded_message s.messages && nat_le (length s.ids) (2 ^ 20) && list_all is_bounded_id s.ids
    && nat_le (length s.consumers) 256 && list_all is_bounded_consumer s.consumers

-- ---- which messages can be written

abbrev pub is_writable_message : Message → Bool
is_writable_message m = is_subject_text m.subject && (is_empty m.headers || is_block m.headers) && nat_le (length m.headers + length m.payload) 1048576

abbrev pub is_writable : State → Bool
is_writable (Vacant i) = true
is_writable (Live s) = list_all is_writable_message s.messages
