-- The list of a window's ids, and how the map by their texts mirrors it.
use Rattle.std.specs.Prelude.{◌≡◌, ◌^◌, ◌≤◌, ℕ, List, [], ◌∷◌, length, sum_by, None, option_map, ⊤}
use Rattle.std.specs.List.Sorted.{IsNonDecreasingBy}
use Rattle.js_base.specs.Bytes.{Bytes}
use Rattle.js_model.specs.declared.stream.Id.{Id}
use Rattle.dedup_window.specs.declared.known.Added.{Added}
use Rattle.dedup_window.specs.declared.known.KnownIds.{KnownIds}
use Rattle.dedup_window.specs.Window.{id_of}
use Rattle.dedup_window.specs.Known.{added_in}

-- no two ids have one text
abbrev pub AreApart : List Id → Type 0
AreApart [] = ⊤
AreApart (i ∷ later) = (id_of later i.id ≡ None) × AreApart later

abbrev pub added_of : Id → Added
added_of i = record { seq = i.seq; at = i.at }

-- at most 2 ^ 20 ids, apart and in the order of their moments, and the map finds what the list has
pub record Mirrors (ids : List Id) (known : KnownIds) : Type 0 where
  pub few : length ids ≤ 2 ^ 20
  pub apart : AreApart ids
  pub ascending : IsNonDecreasingBy (λ i. i.at) ids
  pub found : (text : Bytes) → added_in known text ≡ option_map added_of (id_of ids text)

-- the map mirrors the list, and the number is that of the bytes of all texts, at most 2 ^ 40
pub record IsWindow (ids : List Id) (known : KnownIds) (bytes : ℕ) : Type 0 where
  pub mirrors : Mirrors ids known
  pub bytes_are : bytes ≡ sum_by (λ i. length i.id) ids
  pub bytes_most : bytes ≤ 2 ^ 40
