-- The records that bytes are, one behind the other, by a format of this server's own. Faults are told by places, which count from 0.
use Rattle.std.specs.Prelude.{◌≡◌, ◌==◌, ◌<◌, ℕ, length, nat_le, Bool, not, ◌&&◌, ◌||◌, List, [], ◌∷◌, Ok, Err, if◌then◌else◌}
use Rattle.std.specs.Int.{w8}
use Rattle.js_base.specs.Bytes.{Bytes, same}
use Rattle.js_model.specs.declared.consumer_config.ConsumerConfig.{ConsumerConfig}
use Rattle.effects.specs.declared.effect.Effect.{Effect}
use Rattle.effects.specs.declared.effect.Effect.TheVariants as effects
use Rattle.op_records.specs.declared.record.Record.{Record}
use Rattle.op_records.specs.declared.record.Record.TheVariants as records
use Rattle.op_records.specs.Steps.{Reader, ◌>>=◌, done, place}
use Rattle.op_records.specs.Fields.{only, word, number_field, cursor_field, numbers_field, name_field, text_field, stream_field, consumer_field, spot_field, range_field}
use Rattle.op_records.specs.declared.fault.RecordFault.{RecordFault}
use Rattle.op_records.specs.declared.fault.RecordFault.TheVariants.{BadKind, BadField}

-- ---- the fields of each kind

unfoldable pub make_stream : Reader Effect
make_stream = do
  incarnation ← number_field
  made ← number_field
  config ← stream_field
  done (effects.MakeStream incarnation made config)

unfoldable pub change_stream : Reader Effect
change_stream = do
  config ← stream_field
  done (effects.ChangeStream config)

unfoldable pub skip : Reader Effect
skip = do
  seq ← number_field
  at ← number_field
  id ← text_field
  done (effects.Skip seq at id)

unfoldable pub remove : Reader Effect
remove = do
  range ← range_field
  done (effects.Remove range.0 range.1)

abbrev pub is_named : Bytes → ConsumerConfig → Bool
is_named name config = same config.name name

-- the name is told if the configuration has another one
unfoldable pub make_consumer : Reader Effect
make_consumer = do
  begin ← place
  name ← name_field
  made ← number_field
  config ← consumer_field
  config ← only (is_named name) begin config
  cursor ← cursor_field
  picks ← numbers_field
  done (effects.MakeConsumer name made config cursor picks)

unfoldable pub drop_consumer : Reader Effect
drop_consumer = do
  name ← name_field
  done (effects.DropConsumer name)

unfoldable pub deliver : Reader Effect
deliver = do
  name ← name_field
  seq ← number_field
  count ← number_field
  due ← number_field
  dseq ← number_field
  done (effects.Deliver name seq count due dseq)

unfoldable pub acked : Reader Effect
acked = do
  name ← name_field
  range ← range_field
  done (effects.Acked name range.0 range.1)

unfoldable pub due : Reader Effect
due = do
  name ← name_field
  seq ← number_field
  moment ← number_field
  done (effects.Due name seq moment)

unfoldable pub given_up : Reader Effect
given_up = do
  name ← name_field
  moment ← number_field
  done (effects.GivenUp name moment)

unfoldable pub now : Reader Effect
now = do
  moment ← number_field
  done (effects.Now moment)

unfoldable pub put : Reader Record
put = do
  seq ← number_field
  at ← number_field
  id ← text_field
  spot ← spot_field
  done (records.Put seq at id spot)

-- ---- records

-- a record of a change
abbrev pub change : Reader Effect → Reader Record
change fields = do
  effect ← fields
  done (records.Change effect)

-- each kind, and the fields behind it
abbrev pub table : List (ℕ × Reader Record)
table =
    (1, change make_stream)
    ∷ (2, change change_stream)
    ∷ (3, done (records.Change effects.DropStream))
    ∷ (5, change skip)
    ∷ (6, change remove)
    ∷ (7, change make_consumer)
    ∷ (8, change drop_consumer)
    ∷ (9, change deliver)
    ∷ (10, change acked)
    ∷ (11, change due)
    ∷ (12, change given_up)
    ∷ (13, change now)
    ∷ (14, put)
    ∷ []

-- a kind with which a log begins
abbrev pub is_first_kind : ℕ → Bool
is_first_kind kind = (kind == 32) || (kind == 33)

-- A kind that is none is told where it stands, and so is that of a log's first record, which is misplaced here.
abbrev pub of_no_kind : ℕ → ℕ → Reader Record
of_no_kind begin kind _ _ = if is_first_kind kind then Err (BadField begin) else Err (BadKind begin)

abbrev pub fields_in : List (ℕ × Reader Record) → ℕ → ℕ → Reader Record
fields_in [] begin kind = of_no_kind begin kind
fields_in ((k, fields) ∷ more) begin kind = if kind == k then fields else fields_in more begin kind

unfoldable pub record_at : Reader Record
record_at = do
  begin ← place
  kind ← word w8
  fields_in table begin kind

-- these records stand one behind the other from the one place to the other
abbrev pub Stand : Bytes → ℕ → List Record → ℕ → Type 0
Stand bytes at [] end = at ≡ end
Stand bytes at (one ∷ more) end = (behind : ℕ) × (record_at bytes at ≡ Ok (one, behind)) × Stand bytes behind more end

-- the bytes are these records
abbrev pub AreRecords : Bytes → List Record → Type 0
AreRecords bytes all = Stand bytes 0 all (length bytes)

-- some records stand there, and the next one is wrong
pub record IsWrong (bytes : Bytes) (fault : RecordFault) : Type 0 where
  pub before : List Record
  pub at : ℕ
  pub stand : Stand bytes 0 before at
  pub more : at < length bytes
  pub wrong : record_at bytes at ≡ Err fault

-- ---- where a log begins

-- a kind that stands in later batches alone
abbrev pub is_later_kind : ℕ → Bool
is_later_kind kind = nat_le 1 kind && nat_le kind 14 && not (kind == 4)

-- a kind that may not stand here is bad, and one that is none is told as such
abbrev pub misplaced : {A : Type 0} → ℕ → ℕ → Reader A
misplaced begin kind _ _ = if is_later_kind kind then Err (BadField begin) else Err (BadKind begin)

-- nothing stands behind it
abbrev pub at_end : {A : Type 0} → A → Reader A
at_end a bytes at = if at == length bytes then Ok (a, at) else Err (BadField at)
