-- How many lists of subjects the streams of a catalog have: two while a stream is changed, and else one.
use Rattle.std.specs.Prelude.{◌≡◌, ◌≢◌, ℕ, false, Some, IfSome, IsNone, IsUtf8, slice_get}
use Rattle.js_model.specs.declared.desk.PlaceAt.{PlaceAt}
use Rattle.js_model.specs.Catalog.{Catalog, Place, CatTold, Done, At, Refused, NoMemory}
use Rattle.js_model.specs.Cataloging.{HasPlace, MayChange, MayKeep}

-- ---- all places

-- if it has a stream and is not stopped, the stream has one list of subjects
abbrev pub HasOneList : Place → Type 0
HasOneList place = IfSome place.used (λ u. u.stopped ≡ false → IsNone u.new_subjects)

-- so it is with each place
abbrev pub AreSingle : Catalog → Type 0
AreSingle catalog = (n : ℕ) (place : Place) → slice_get catalog n ≡ Some place → HasOneList place

-- so it is with each place but the one of this number
abbrev pub AreSingleBut : ℕ → Catalog → Type 0
AreSingleBut but catalog = (n : ℕ) (place : Place) → slice_get catalog n ≡ Some place → n ≢ but → HasOneList place

-- ---- one place

-- it has this incarnation, and a stream that may be changed
abbrev pub IsSettled : PlaceAt → Place → Type 0
IsSettled at place = MayChange place × (place.incarnation ≡ at.incarnation)

abbrev pub HasSettled : Catalog → PlaceAt → Type 0
HasSettled catalog at = HasPlace catalog at.place (IsSettled at)

-- it has this incarnation, and a stream of which one list is still to be dropped
abbrev pub IsChanging : PlaceAt → Place → Type 0
IsChanging at place = MayKeep place × (place.incarnation ≡ at.incarnation)

abbrev pub HasChanging : Catalog → PlaceAt → Type 0
HasChanging catalog at = HasPlace catalog at.place (IsChanging at)

-- ---- refusals

-- the text of a refusal is UTF-8
abbrev pub HasText : CatTold → Type 0
HasText Done = Unit {0}
HasText (At found) = Unit {0}
HasText (Refused error) = IsUtf8 error.text
HasText NoMemory = Unit {0}
