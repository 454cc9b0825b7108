-- What holds of the catalog's parts: the names, the index and the list of the used places tell what the places have.
use Rattle.std.specs.Prelude.{◌≡◌, ℕ, ◌+◌, ◌*◌, ◌%◌, ◌≤◌, ◌==◌, Bool, false, List, [], ◌∷◌, length, map, Option, None, Some}
use Rattle.js_base.specs.Bytes.{Bytes, same}
use Rattle.js_model.specs.Catalog.{Catalog, if_used}
use Rattle.catalog.specs.declared.listing.Listing.{Listing}
use Rattle.catalog.specs.declared.names.Names.{Names}
use Rattle.catalog.specs.declared.entry.Listed.{Listed}
use Rattle.catalog.specs.declared.entry.Entry.{Entry}
use Rattle.catalog.specs.declared.catalog.Catalog.TheInside.{Inside}
use Rattle.catalog.specs.Names.{place_in}
use Rattle.catalog.specs.Numbers.{IsEarlier, subs_of_place}
use Rattle.catalog.specs.Entries.{place_of, lists_at, subs_of_lists}
use Rattle.catalog.specs.Apart.{used_at, IsApart}
use Rattle.catalog.specs.Used.{used_places}

-- ---- names

abbrev pub is_number : Option ℕ → ℕ → Bool
is_number None n = false
is_number (Some m) n = m == n

-- the stream at the place of this number has the name
abbrev pub is_named : Catalog → Bytes → ℕ → Bool
is_named c name n = if_used (λ u. same u.name name) (used_at c n)

-- each name tells its stream's place
pub record NamesPlaces (names : Names) (c : Catalog) : Type 0 where
  pub at : (name : Bytes) (n : ℕ) → is_number (place_in names name) n ≡ is_named c name n

-- ---- subjects

-- the lists of a place have numbers of that place, one list after the other
abbrev pub ArePlaced : ℕ → ℕ → ℕ → List Listed → Type 0
ArePlaced n low high [] = Unit {0}
ArePlaced n low high (l ∷ ls) =
    (l.first % 32 ≡ n) × (low ≤ l.first) × (l.first + 32 * length l.subjects ≤ high) × ArePlaced n (l.first + 32 * length l.subjects) high ls

-- the index knows the subjects of each place, and no other ones
pub record ListsPlaces (listing : Listing) (es : List Entry) : Type 0 where
  pub earlier : IsEarlier listing
  pub at : (n : ℕ) → subs_of_place n listing.index ≡ subs_of_lists (lists_at es n)
  pub placed : (n : ℕ) → ArePlaced n 0 (listing.rounds * 32 + n) (lists_at es n)

-- ---- all parts

pub record Holds (catalog : Inside) : Type 0 where
  pub few : length catalog.entries.items ≤ 32
  pub names : NamesPlaces catalog.names (map place_of catalog.entries.items)
  pub lists : ListsPlaces catalog.listing catalog.entries.items
  pub apart : IsApart (map place_of catalog.entries.items)
  pub used : catalog.used ≡ used_places (map place_of catalog.entries.items)
