-- Header blocks, by the NATS client protocol's HPUB and HMSG: lines that end with CR LF.
use Rattle.std.specs.Prelude.{ℕ, ◌+◌, Bool, false, nat_lt, nat_eq, ◌&&◌, ◌==◌, List, [], ◌∷◌, length, codes, Option, Some, None, unwrap_or, position, slice_index}
use Rattle.std.specs.List.{slice_split, starts_with}
use Rattle.js_base.specs.Bytes.{Bytes, is_empty, same, has}

-- the parts round the LFs
abbrev pub block_lines : Bytes → List Bytes
block_lines block = slice_split (λ byte. byte == 10) block

abbrev pub is_last_place : Option ℕ → Bytes → Bool
is_last_place None line = false
is_last_place (Some at) line = at + 1 == length line

-- a CR is its last byte, and there is no other
abbrev pub ends_with_cr : Bytes → Bool
ends_with_cr line = is_last_place (position (λ byte. byte == 13) line) line

-- `NATS/1.0`, alone or with a space and a text
abbrev pub is_version_line : Bytes → Bool
is_version_line line = ends_with_cr line && starts_with nat_eq line (codes "NATS/1.0") && has (13 ∷ 32 ∷ []) (slice_index line 8)

-- a name of one or more bytes, a colon and a value
abbrev pub is_field_line : Bytes → Bool
is_field_line line = ends_with_cr line && nat_lt 0 (unwrap_or (position (λ byte. byte == 58) line) 0)

-- fields, and then an empty line that ends the block
abbrev pub are_fields : List Bytes → Bool
are_fields [] = false
are_fields (line ∷ []) = false
are_fields (line ∷ end ∷ []) = same line (13 ∷ []) && is_empty end
are_fields (line ∷ next ∷ after ∷ more) = is_field_line line && are_fields (next ∷ after ∷ more)

abbrev pub are_block_lines : List Bytes → Bool
are_block_lines [] = false
are_block_lines (line ∷ more) = is_version_line line && are_fields more

-- a header block
abbrev pub is_block : Bytes → Bool
is_block block = are_block_lines (block_lines block)
