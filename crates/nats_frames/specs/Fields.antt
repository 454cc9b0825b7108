-- The places of a line's fields.
use Rattle.std.specs.Prelude.{ℕ, ◌≡◌, ◌+◌, ◌<◌, ◌≤◌, List, [], ◌∷◌, length, drop, slice_range}
use Rattle.js_base.specs.Bytes.{Bytes}
use Rattle.nats_frames.specs.declared.field.Span.{Span}
use Rattle.nats_frames.specs.declared.field.Fields.{Fields}
use Rattle.nats_frames.specs.declared.field.Fields.TheVariants as fields
use Rattle.nats_frames.specs.Reading.{fields_of}

abbrev pub span : ℕ → ℕ → Span
span start len = record { start = start; end = start + len }

abbrev pub part : Bytes → Span → Bytes
part bytes span = slice_range bytes span.start span.end

abbrev pub IsWithin : Bytes → Span → Type 0
IsWithin bytes span = (span.start ≤ span.end) × (span.end ≤ length bytes)

-- the field is the first from the place on
pub record IsNextField (line : Bytes) (from : ℕ) (field : Span) : Type 0 where
  pub within : IsWithin line field
  pub first : fields_of (drop from line) ≡ part line field ∷ fields_of (drop field.end line)

abbrev pub AreWithin : Bytes → List Span → Type 0
AreWithin line [] = Unit {0}
AreWithin line (field ∷ more) = IsWithin line field × AreWithin line more

abbrev pub parts : Bytes → List Span → List Bytes
parts line [] = []
parts line (field ∷ more) = part line field ∷ parts line more

-- these are all fields from the place on
pub record AreAll (line : Bytes) (from : ℕ) (spans : List Span) : Type 0 where
  pub within : AreWithin line spans
  pub all : fields_of (drop from line) ≡ parts line spans

abbrev pub AreFields : Bytes → ℕ → Fields → Type 0
AreFields line from fields.None = AreAll line from []
AreFields line from (fields.One a) = AreAll line from (a ∷ [])
AreFields line from (fields.Two a b) = AreAll line from (a ∷ b ∷ [])
AreFields line from (fields.Three a b c) = AreAll line from (a ∷ b ∷ c ∷ [])
AreFields line from (fields.Four a b c d) = AreAll line from (a ∷ b ∷ c ∷ d ∷ [])
AreFields line from fields.More = 4 < length (fields_of (drop from line))
