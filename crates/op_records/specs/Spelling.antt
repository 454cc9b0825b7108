-- How the records of a volume's log are spelled, by a format of this server's own: a byte for the kind, and then its fields. Numbers have their most
-- significant byte first; a text, a name, a configuration, a header block and a payload stand behind their length. A message that waits to be stored counts
-- as many bytes as its change has, of the fourth kind, which a log does not have.
use Rattle.std.specs.Prelude.{ℕ, List, [], ◌∷◌, ◌++◌, length}
use Rattle.std.specs.Int.{w8, w16, w32, w64, to_be_bytes}
use Rattle.std.specs.List.{flat_map}
use Rattle.js_base.specs.Bytes.{Bytes}
use Rattle.js_base.specs.declared.spot.Spot.{Spot}
use Rattle.config_texts.specs.Texts.{stream_text, consumer_text}
use Rattle.effects.specs.declared.effect.Effect.{Effect}
use Rattle.effects.specs.declared.effect.Effect.TheVariants as effects
use Rattle.op_records.specs.declared.record.Record.{Record}
use Rattle.op_records.specs.declared.record.Record.TheVariants as records

-- ---- fields

abbrev pub number : ℕ → Bytes
number n = to_be_bytes w64 n

-- a name behind a length of one byte
abbrev pub short : Bytes → Bytes
short name = to_be_bytes w8 (length name) ++ name

-- an id or a subject behind a length of two
abbrev pub text : Bytes → Bytes
text bytes = to_be_bytes w16 (length bytes) ++ bytes

-- a configuration, a header block or a payload behind a length of four
abbrev pub long : Bytes → Bytes
long bytes = to_be_bytes w32 (length bytes) ++ bytes

-- a list behind its count
abbrev pub spelled_list : {A : Type 0} → (A → Bytes) → List A → Bytes
spelled_list text xs = to_be_bytes w32 (length xs) ++ flat_map text xs

abbrev pub numbers : List ℕ → Bytes
numbers ns = spelled_list number ns

-- where a message lies: its file, its offset there and its length
abbrev pub spelled_spot : Spot → Bytes
spelled_spot spot = to_be_bytes w16 spot.file ++ (to_be_bytes w32 spot.at ++ to_be_bytes w32 spot.len)

-- ---- changes

unfoldable pub spelled : Effect → Bytes
spelled (effects.MakeStream incarnation made config) = 1 ∷ (number incarnation ++ (number made ++ long (stream_text config)))
spelled (effects.ChangeStream config) = 2 ∷ long (stream_text config)
spelled effects.DropStream = 3 ∷ []
spelled (effects.PutHere seq at id subject headers payload) =
    4 ∷ (number seq ++ (number at ++ (text id ++ (text subject ++ (long headers ++ long payload)))))
spelled (effects.Skip seq at id) = 5 ∷ (number seq ++ (number at ++ text id))
spelled (effects.Remove low high) = 6 ∷ (number low ++ number high)
spelled (effects.MakeConsumer name made config cursor picks) =
    7 ∷ (short name ++ (number made ++ (long (consumer_text config) ++ (number cursor ++ numbers picks))))
spelled (effects.DropConsumer name) = 8 ∷ short name
spelled (effects.Deliver name seq count due dseq) = 9 ∷ (short name ++ (number seq ++ (number count ++ (number due ++ number dseq))))
spelled (effects.Acked name low high) = 10 ∷ (short name ++ (number low ++ number high))
spelled (effects.Due name seq due) = 11 ∷ (short name ++ (number seq ++ number due))
spelled (effects.GivenUp name moment) = 12 ∷ (short name ++ number moment)
spelled (effects.Now moment) = 13 ∷ number moment

-- ---- records

unfoldable pub spelled_record : Record → Bytes
spelled_record (records.Put seq at id spot) = 14 ∷ (number seq ++ (number at ++ (text id ++ spelled_spot spot)))
spelled_record (records.Change effect) = spelled effect

-- ---- where a log begins

-- a vacant place, and the incarnation of its last stream, 0 before the first
unfoldable pub spelled_vacant : ℕ → Bytes
spelled_vacant incarnation = 32 ∷ number incarnation
