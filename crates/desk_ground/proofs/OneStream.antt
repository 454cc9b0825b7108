-- Calls on one stream: the look-up by its name, the hold, what the catalog is told after it, and the end of the call.
use Rattle.std.proofs.Common.{◌≡◌, ℕ, Bool, List, [], ◌++◌, Option, Result, Ok, refl, inl, MatchOption}
use Rattle.js_base.specs.Bytes.{Bytes}
use Rattle.js_model.specs.declared.event.What.{What}
use Rattle.js_model.specs.declared.desk.PlaceAt.{PlaceAt}
use Rattle.js_model.specs.Proper.{reply_of}
use Rattle.js_model.specs.Catalog as catalog
use Rattle.js_api.specs.declared.fault.DeskFault.{DeskFault}
use Rattle.js_api.specs.declared.outcome.Became.{Became}
use Rattle.js_api.specs.declared.outcome.Outcome.{Outcome}
use Rattle.js_api.specs.Entries.{DeskEntry}
use Rattle.js_api.specs.Leading.{Makes}
use Rattle.js_api.specs.Stages.{LooksUp, Ending}
use Rattle.js_api.specs.Holding.{Holds}
use Rattle.js_api.specs.OneStream.{IsNamed, IsOnStream, IsEnded}
use Rattle.desk_ground.specs.Named.{GoesOnNamed}
use Rattle.desk_ground.specs.Outcomes.{unmade}
use Rattle.desk_ground.proofs.Stages.{goes_on, ended}

module _ {D : Type 0} (made : D → List DeskEntry → D → Type 0) (more : (a b c : D) (first more : List DeskEntry) → made a first b → made b more c → made a (first ++ more) c) where
  -- the look-up, and what follows it
  pub named : {X : Type 0} (stream : Bytes) (Absent : Result X DeskFault → List DeskEntry → Type 0) (Present : PlaceAt → Result X DeskFault → List DeskEntry → Type 0)
      (told : Result (Option PlaceAt) DeskFault) (found : Option PlaceAt) (result : Result X DeskFault) (a b c : D) → told ≡ Ok found → Makes made (LooksUp (catalog.ByName stream) told) a b
      → Makes made (GoesOnNamed Absent Present found result) b c → Makes made (IsNamed stream Absent Present result) a c
  named stream Absent Present told found result a b c is h k =
      goes_on made more (LooksUp (catalog.ByName stream)) (λ found given entries. MatchOption found (Absent given entries) (λ at. Present at given entries)) told found result a b c is h k

  -- the same in one turn of the catalog
  pub named_within : {X : Type 0} (stream : Bytes) (Absent : Result X DeskFault → List DeskEntry → Type 0) (Present : PlaceAt → Result X DeskFault → List DeskEntry → Type 0)
      (told : Result (Option PlaceAt) DeskFault) (found : Option PlaceAt) (result : Result X DeskFault) (a b c d : D) → told ≡ Ok found → Makes made (LooksUp (catalog.ByName stream) told) a b
      → Makes made (GoesOnNamed Absent Present found result) b c → made c [] d → Makes made (IsNamed stream Absent Present result) a d
  named_within stream Absent Present told found result a b c d is h k e =
      ended made more (IsNamed stream Absent Present result) a c d (named stream Absent Present told found result a b c is h k) e

  -- ---- the hold

  pub on_stream : (name : Bytes) (at : PlaceAt) (what : What) (now : ℕ) (cataloged : Became → List DeskEntry) (outcome : Outcome) (result : Result Bool DeskFault) (a b c d : D)
      → Makes made (Holds at what now outcome) a b → made b (cataloged outcome.became) c → Makes made (Ending outcome.fault (IsEnded name (reply_of what) outcome.became) result) c d
      → Makes made (IsOnStream name at what now cataloged result) a d
  on_stream name at what now cataloged outcome result a b c d h k e = record {
    entries = h.entries ++ (cataloged outcome.became ++ e.entries);
    are = record { outcome = outcome; held = h.entries; ended = e.entries; entries_are = refl; holds = h.are; ends = e.are };
    led = more a b d h.entries (cataloged outcome.became ++ e.entries) h.led (more b c d (cataloged outcome.became) e.entries k e.led);
  }

-- ---- a hold that was not made

pub unmade_here : {D : Type 0} (made : D → List DeskEntry → D → Type 0) (at : PlaceAt) (what : What) (now : ℕ) (a : D) → made a [] a → Makes made (Holds at what now unmade) a a
unmade_here made at what now a led = record {
  entries = [];
  are = record { first = []; more = []; entries_are = refl; prepares = inl refl; holds = (refl, refl) };
  led = led;
}
