-- What stands beneath a path among the patterns: the texts that follow the path in those that begin with it, and their pieces.
use Rattle.std.specs.Prelude.{◌≡◌, ℕ, Bool, true, false, List, ◌∷◌, ◌++◌, IsSome}
use Rattle.std.specs.List.{list_any}
use Rattle.std.specs.Ordering.{nat_cmp, is_gt}
use Rattle.std.specs.Cmp.Lexicographic.{slice_cmp}
use Rattle.std.specs.BTreeMap.{get}
use Rattle.js_base.specs.Bytes.{Bytes, same}
use Rattle.js_base.specs.Subjects.{tokens}
use Rattle.route_index.specs.declared.beneath.Piece.{Piece}
use Rattle.route_index.specs.declared.beneath.Piece.TheVariants.{Token, Text}
use Rattle.route_index.specs.Ids.{Ids, is_under}
use Rattle.route_index.specs.Searching.{AreDotless}

-- the one text comes after the other, byte by byte
abbrev pub is_after : Bytes → Bytes → Bool
is_after a b = is_gt (slice_cmp nat_cmp a b)

-- ---- pieces

-- the piece of a text: its first token, or all of it
abbrev pub IsPiece : Piece → Bytes → Bytes → Type 0
IsPiece Token text part = (more : List Bytes) × (tokens text ≡ part ∷ more)
IsPiece Text text part = text ≡ part

-- tokens have no dots
abbrev pub ArePieces : Piece → List Bytes → Type 0
ArePieces Token parts = AreDotless parts
ArePieces Text parts = Unit {0}

-- the end comes after the text, and each text between them has the same piece
pub record EndsPiece (piece : Piece) (text part end : Bytes) : Type 0 where
  pub after : is_after end text ≡ true
  pub between : (other : Bytes) → is_after text other ≡ false → is_after end other ≡ true → IsPiece piece other part

-- the piece of the text is one of these
abbrev pub HasPiece : Piece → Bytes → List Bytes → Type 0
HasPiece piece text parts = (part : Bytes) × IsPiece piece text part × (list_any (same part) parts ≡ true)

-- each pattern with a number that begins with the path goes on with one of these pieces
pub record Covers (piece : Piece) (ids : Ids) (path : Bytes) (parts : List Bytes) : Type 0 where
  pub at : (text : Bytes) (id : ℕ) → is_under ids (path ++ text) id ≡ true → HasPiece piece text parts

-- ---- the first text

-- it begins with the path
abbrev pub IsBeneath : Bytes → Bytes → Type 0
IsBeneath path from = (text : Bytes) × (from ≡ path ++ text)

-- the path and the text are a pattern, which does not come before `from`, and the first such
pub record IsFirstFrom (ids : Ids) (path from text : Bytes) : Type 0 where
  pub there : IsSome (get (slice_cmp nat_cmp) ids (path ++ text))
  pub reached : is_after from (path ++ text) ≡ false
  pub least : (other : Bytes) (id : ℕ) → is_under ids (path ++ other) id ≡ true → is_after from (path ++ other) ≡ false → is_after text other ≡ false

-- each pattern with a number that begins with the path comes before `from`
pub record HasNoneFrom (ids : Ids) (path from : Bytes) : Type 0 where
  pub at : (other : Bytes) (id : ℕ) → is_under ids (path ++ other) id ≡ true → is_after from (path ++ other) ≡ true
