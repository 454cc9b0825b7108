-- A publish to a plain subject: the subscriptions, the stream, and what the client is told.
use Rattle.std.proofs.Common.{◌≡◌, ℕ, Bool, List, ◌++◌, Option, Result, Ok, Err, refl, IsErrAnd}
use Rattle.js_base.specs.declared.out.Out.{Out}
use Rattle.js_model.specs.declared.desk.PlaceAt.{PlaceAt}
use Rattle.js_model.specs.declared.desk.Taken.{Taken}
use Rattle.js_model.specs.Catalog.{Find}
use Rattle.js_api.specs.declared.fault.DeskFault.{DeskFault}
use Rattle.js_api.specs.declared.outcome.Outcome.{Outcome}
use Rattle.js_api.specs.Clients.{Client}
use Rattle.js_api.specs.Entries.{DeskEntry}
use Rattle.js_api.specs.Holding.{Holds}
use Rattle.js_api.specs.Leading.{Makes}
use Rattle.js_api.specs.Publishing.{Offers, Stores, Tells, Reaches, IsReached, PublishesPlain, published, taken_by}
use Rattle.js_api.specs.Stages.{Then, LooksUp, Ending}
use Rattle.desk_ground.proofs.Stages.{goes_on, stops_by}

module _ {D : Type 0} (made : D → List DeskEntry → D → Type 0) (more : (a b c : D) (first more : List DeskEntry) → made a first b → made b more c → made a (first ++ more) c) (client : Client) (message : Out) (now : ℕ) where
  abbrev pub AfterFind : ℕ → Option PlaceAt → Result Taken DeskFault → List DeskEntry → Type 0
  AfterFind count found result entries = Then (Stores message now found) (λ other. Tells client message (taken_by count other)) result entries

  abbrev pub AfterOffer : ℕ → Result Taken DeskFault → List DeskEntry → Type 0
  AfterOffer count result entries = Then (LooksUp (Find message.to)) (λ found. AfterFind count found) result entries

  pub offered : (told : Result ℕ DeskFault) (count : ℕ) (result : Result Taken DeskFault) (a b c : D) → told ≡ Ok count → Makes made (Offers client message told) a b → Makes made (AfterOffer count result) b c
      → Makes made (PublishesPlain client message now result) a c
  offered told count result a b c is h k = goes_on made more (Offers client message) (λ count. AfterOffer count) told count result a b c is h k

  pub unoffered : (told : Result ℕ DeskFault) (fault : DeskFault) (result : Result Taken DeskFault) (a b : D) → told ≡ Err fault → IsErrAnd result (λ e. e ≡ fault) → Makes made (Offers client message told) a b
      → Makes made (PublishesPlain client message now result) a b
  unoffered told fault result a b is handed h = stops_by made (Offers client message) (λ count. AfterOffer count) told fault result a b is handed h

  pub looked : (count : ℕ) (told : Result (Option PlaceAt) DeskFault) (found : Option PlaceAt) (result : Result Taken DeskFault) (a b c : D) → told ≡ Ok found → Makes made (LooksUp (Find message.to) told) a b
      → Makes made (AfterFind count found result) b c → Makes made (AfterOffer count result) a c
  looked count told found result a b c is h k = goes_on made more (LooksUp (Find message.to)) (λ found. AfterFind count found) told found result a b c is h k

  pub unlooked : (count : ℕ) (told : Result (Option PlaceAt) DeskFault) (fault : DeskFault) (result : Result Taken DeskFault) (a b : D) → told ≡ Err fault → IsErrAnd result (λ e. e ≡ fault)
      → Makes made (LooksUp (Find message.to) told) a b → Makes made (AfterOffer count result) a b
  unlooked count told fault result a b is handed h = stops_by made (LooksUp (Find message.to)) (λ found. AfterFind count found) told fault result a b is handed h

  pub stored : (count : ℕ) (found : Option PlaceAt) (told : Result Bool DeskFault) (other : Bool) (result : Result Taken DeskFault) (a b c : D) → told ≡ Ok other → Makes made (Stores message now found told) a b
      → Makes made (Tells client message (taken_by count other) result) b c → Makes made (AfterFind count found result) a c
  stored count found told other result a b c is h k = goes_on made more (Stores message now found) (λ other. Tells client message (taken_by count other)) told other result a b c is h k

  pub unstored : (count : ℕ) (found : Option PlaceAt) (told : Result Bool DeskFault) (fault : DeskFault) (result : Result Taken DeskFault) (a b : D) → told ≡ Err fault → IsErrAnd result (λ e. e ≡ fault)
      → Makes made (Stores message now found told) a b → Makes made (AfterFind count found result) a b
  unstored count found told fault result a b is handed h = stops_by made (Stores message now found) (λ other. Tells client message (taken_by count other)) told fault result a b is handed h

-- a hold, and what became of it
pub reaches : {D : Type 0} (made : D → List DeskEntry → D → Type 0) (more : (a b c : D) (first more : List DeskEntry) → made a first b → made b more c → made a (first ++ more) c) (message : Out) (now : ℕ) (at : PlaceAt)
    (outcome : Outcome) (result : Result Bool DeskFault) (a b c : D) → Makes made (Holds at (published message) now outcome) a b
    → Makes made (Ending outcome.fault (IsReached message outcome.became) result) b c → Makes made (Reaches message now at result) a c
reaches made more message now at outcome result a b c h k = record {
  entries = h.entries ++ k.entries;
  are = record { outcome = outcome; held = h.entries; rest = k.entries; entries_are = refl; holds = h.are; ends = k.are };
  led = more a b c h.entries k.entries h.led k.led;
}
