-- What the calls of a desk rest on: which sessions are open, how many places there are, and what is known of the catalog within a turn of it.
use Rattle.std.specs.Prelude.{◌≡◌, ◌<◌, ℕ, Bool, true, false, Result, Ok, Err, IsUtf8}
use Rattle.js_model.specs.declared.desk.PlaceAt.{PlaceAt}
use Rattle.js_model.specs.declared.catalog_fault.CatalogFault.{CatalogFault}
use Rattle.js_model.specs.declared.catalog_fault.CatalogFault.TheVariants as faults
use Rattle.js_model.specs.Catalog.{Catalog, Place}
use Rattle.js_model.specs.Cataloging.{HasPlace, IsUsed, MayChange, MayKeep}
use Rattle.js_api.specs.declared.fault.DeskFault.{DeskFault}

-- which sessions of the caller are open, and how many places there are
pub record Setting : Type 0 where
  pub opened : ℕ → Bool
  pub places : ℕ

-- there is a place of this number
abbrev pub IsWithin : Setting → PlaceAt → Type 0
IsWithin setting at = at.place < setting.places

-- ---- a turn of the catalog

-- The caller is in no turn of the catalog; or it is in one. In a turn the stream of a place may have its new subjects beside its old ones, and one of the
-- lists is still to be dropped; or the stream of a place was dropped, and the catalog is still to be told so.
pub data Phase : Type 0 where
  Outside : Phase
  Within : Phase
  Between : (place : ℕ) → Phase
  Owing : (place : ℕ) → Phase

-- a turn was entered, unless the numbers of turns are used up
abbrev pub begun : {X : Type 0} → Result X DeskFault → Phase
begun (Ok found) = Within
begun (Err fault) = Outside

-- after the subjects of the stream of a place were changed, or were not
abbrev pub changed_to : {X : Type 0} → ℕ → Result X CatalogFault → Phase
changed_to place (Ok done) = Between place
changed_to place (Err fault) = Within

-- a place may be marked stopped
abbrev pub MayStop : ℕ → Phase → Type 0
MayStop place Outside = ⊥
MayStop place Within = Unit {0}
MayStop place (Between other) = other ≡ place
MayStop place (Owing other) = ⊥

-- before a place is freed, since its stream was dropped or since none was made there
abbrev pub before_freeing : Bool → ℕ → Phase
before_freeing true place = Owing place
before_freeing false place = Within

-- ---- what is known within the turn

-- the catalog has a stream there, with one list of subjects, and knows the place by this incarnation
pub record IsKnown (at : PlaceAt) (place : Place) : Type 0 where
  pub used : IsUsed place
  pub single : MayChange place
  pub incarnation : place.incarnation ≡ at.incarnation

abbrev pub Knows : Catalog → PlaceAt → Type 0
Knows catalog at = HasPlace catalog at.place (IsKnown at)

-- the stream there has its new subjects beside its old ones, unless the place is stopped
pub record IsBetween (at : PlaceAt) (place : Place) : Type 0 where
  pub used : IsUsed place
  pub both : MayKeep place
  pub incarnation : place.incarnation ≡ at.incarnation

-- ---- what a refusal tells

-- its text is UTF-8
abbrev pub IsTold : CatalogFault → Type 0
IsTold (faults.Refused refusal) = IsUtf8 refusal.text
IsTold faults.NoMemory = Unit {0}
