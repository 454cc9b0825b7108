-- What a crash may leave of what a hold made at a place, told of its volume.
use Rattle.std.proofs.Common.{◌≡◌, ℕ, List, Option, sym, subst}
use Rattle.std.specs.Prelude.{◌↔◌}
use Rattle.js_model.specs.declared.stream.State.{State}
use Rattle.js_model.specs.declared.event.What.{What}
use Rattle.js_model.specs.declared.desk.PlaceAt.{PlaceAt}
use Rattle.js_model.specs.declared.entry.PlaceEntry.{PlaceEntry}
use Rattle.js_model.specs.Router.{Router, IsRoute}
use Rattle.js_api.specs.declared.outcome.Outcome.{Outcome}
use Rattle.crash_laws.specs.Outlasting.{Outlasts}
use Rattle.crash_laws.specs.Timed.{timed_at}
use Rattle.desk_hold.specs.Crashes as seen_so
use Rattle.desk_hold.specs.Crashes.{IsEarlyIn}
use Rattle.desk_hold.specs.OnePlace.{HoldsOn, on}
use Rattle.desk_hold.proofs.Alone.{never}
use Rattle.place_engine.specs.Stepping.{Image, IsKept, Seen}
use Rattle.place_engine.specs.Preparing.{RoomCauses}
use Rattle.desk_places.proofs.Converted.{outlasts_so}
use Rattle.js_desk.proofs.HeldTimes.{timed_between, timed_fine, timed_here}

module _ {P V : Type 0} (seen : P → Seen) (vol : P → V) (holds : Image → State → Type 0) (reads : V → Image → Type 0) (left : V → ℕ → Image → Type 0) (clock faults : V → ℕ) (causes : RoomCauses V) (base : Option ℕ → V → State → Type 0)
    (bases : (p : P) (b : State) → (seen p).is_base b ↔ base (seen p).place.stopped (vol p) b)
    (leaves : (p : P) (t : ℕ) (image : Image) → (seen p).left_since t image ↔ left (vol p) t image)
    (stands : (p : P) → ((seen p).place.volume.moment ≡ clock (vol p)) × ((seen p).place.volume.faults ≡ faults (vol p)) × ((seen p).place.volume.refusals ≡ causes.refusals (vol p))) where
  pub held_outlasts : (p q : P) → IsKept holds (seen q) → (at : PlaceAt) (r router : Router) (what : What) (now : ℕ) (outcome : Outcome)
      → (h : HoldsOn IsRoute never at holds causes.outgrows_log 0 what now outcome (seen p) (seen q) r router)
      → Outlasts holds left clock (base (seen p).place.stopped (vol p)) (base (seen q).place.stopped (vol q)) (timed_at at.place h.entries) (seen p).place.state (seen q).place.state (vol p) (vol q)
  held_outlasts p q kept at r router what now outcome h =
      let old = on (seen p).place r in let new = on (seen q).place router in
      let moments = timed_between at h.entries old new h.led in
      outlasts_so seen vol holds reads left clock faults causes base bases leaves stands p q kept (IsEarlyIn h.entries) (timed_at at.place h.entries) moments.later moments.between
      (timed_fine at what now outcome h.entries old new h.holds h.led)
      (subst (λ (es : List PlaceEntry). seen_so.Outlasts holds (IsEarlyIn h.entries) es (seen p) (seen q)) (sym (timed_here at h.entries old new h.led)) h.outlasts)
