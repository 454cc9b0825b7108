-- Which changes a place may hand over to be recorded, and which records a volume's log may have, by a format of this server's own: numbers below 2^62 (a cursor
-- may be 2^62), names, configurations that are valid, a message that a block file may have, and ranges whose ends are in order. A log has no messages: the
-- record of one that was stored says where it lies.
use Rattle.std.specs.Prelude.{ℕ, ◌+◌, ◌^◌, nat_lt, nat_le, Bool, true, false, not, ◌&&◌, ◌||◌, List, length}
use Rattle.std.specs.List.{list_all}
use Rattle.js_base.specs.Bytes.{Bytes, is_empty, same}
use Rattle.js_base.specs.Subjects.{is_subject_text}
use Rattle.js_base.specs.Headers.{is_block}
use Rattle.js_base.specs.declared.spot.Spot.{Spot}
use Rattle.js_model.specs.Configs.{is_name, is_number, is_stream_config, is_consumer_config}
use Rattle.effects.specs.declared.effect.Effect.{Effect}
use Rattle.effects.specs.declared.effect.Effect.TheVariants as effects
use Rattle.op_records.specs.declared.record.Record.{Record}
use Rattle.op_records.specs.declared.record.Record.TheVariants as records

-- a text is at most 65,535 bytes long
abbrev pub is_text : Bytes → Bool
is_text text = nat_lt (length text) (2 ^ 16)

abbrev pub is_header : Bytes → Bool
is_header headers = is_empty headers || is_block headers

-- header block and payload together
abbrev pub fits_block : Bytes → Bytes → Bool
fits_block headers payload = nat_le (length headers + length payload) 1048576

abbrev pub is_cursor : ℕ → Bool
is_cursor n = nat_le n (2 ^ 62)

-- a count of four bytes can tell how many there are, and each may stand there
abbrev pub is_list : {A : Type 0} → (A → Bool) → List A → Bool
is_list may xs = nat_lt (length xs) (2 ^ 32) && list_all may xs

abbrev pub are_picks : List ℕ → Bool
are_picks picks = is_list is_number picks

abbrev pub is_range : ℕ → ℕ → Bool
is_range low high = is_number low && is_number high && nat_le low high

-- what a place may hand over; the name of a consumer is that of its configuration
abbrev pub is_record : Effect → Bool
is_record (effects.MakeStream incarnation made config) = is_number incarnation && is_number made && is_stream_config config
is_record (effects.ChangeStream config) = is_stream_config config
is_record effects.DropStream = true
is_record (effects.PutHere seq at id subject headers payload) =
    is_number seq && is_number at && is_text id && is_subject_text subject && is_header headers && fits_block headers payload
is_record (effects.Skip seq at id) = is_number seq && is_number at && is_text id
is_record (effects.Remove low high) = is_range low high
is_record (effects.MakeConsumer name made config cursor picks) =
    is_name name && is_number made && is_consumer_config config && same config.name name && is_cursor cursor && are_picks picks
is_record (effects.DropConsumer name) = is_name name
is_record (effects.Deliver name seq count due dseq) = is_name name && is_number seq && is_number count && is_number due && is_number dseq
is_record (effects.Acked name low high) = is_name name && is_range low high
is_record (effects.Due name seq due) = is_name name && is_number seq && is_number due
is_record (effects.GivenUp name moment) = is_name name && is_number moment
is_record (effects.Now moment) = is_number moment

-- a message was stored
abbrev pub is_put : Effect → Bool
is_put (effects.PutHere _ _ _ _ _ _) = true
is_put _ = false

-- a spot whose fields fit into two bytes, four and four
abbrev pub is_spot : Spot → Bool
is_spot spot = nat_lt spot.file (2 ^ 16) && nat_lt spot.at (2 ^ 32) && nat_lt spot.len (2 ^ 32)

-- what a log may have
abbrev pub may_stand : Record → Bool
may_stand (records.Put seq at id spot) = is_number seq && is_number at && is_text id && is_spot spot
may_stand (records.Change effect) = is_record effect && not (is_put effect)
