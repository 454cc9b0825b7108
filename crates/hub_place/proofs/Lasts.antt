-- What a crash may leave of a place after a hold by its port.
use Rattle.std.proofs.Common.{◌≡◌, ◌++◌, ◌≤◌, ℕ, List, [], Option, None, refl, sym, subst}
use Rattle.std.specs.Prelude.{◌↔◌}
use Rattle.js_model.specs.declared.stream.State.{State}
use Rattle.js_model.specs.declared.event.What.{What}
use Rattle.js_model.specs.declared.desk.PlaceAt.{PlaceAt}
use Rattle.js_model.specs.declared.entry.PlaceEntry.{PlaceEntry}
use Rattle.js_model.specs.PlaceStates.{PlaceIn}
use Rattle.js_api.specs.declared.outcome.Outcome.{Outcome}
use Rattle.crash_laws.specs.Outlasting.{Outlasts}
use Rattle.crash_laws.specs.Timed.{Timed, timed_at}
use Rattle.crash_laws.proofs.Following.{outlasts_more, outlasts_nothing}
use Rattle.crash_laws.proofs.Timed.{both_entries, entries_of}
use Rattle.desk_hold.specs.Crashes as seen_so
use Rattle.desk_hold.specs.Crashes.{IsEarlyIn, made_by}
use Rattle.desk_hold.specs.OnePlace.{HoldsOn, on}
use Rattle.place_engine.specs.Stepping.{Image, IsKept, Seen}
use Rattle.place_engine.specs.Preparing.{RoomCauses}
use Rattle.turn_lock.specs.Seats.{SeatView}
use Rattle.hub_place.specs.Lasting.{HasLasted, IsOpenedTo}
use Rattle.hub_place.specs.Ports.{IsRouted, IsWorn}
use Rattle.hub_place.proofs.Converted.{outlasts_so}
use Rattle.hub_place.proofs.HeldTimes.{timed_between, timed_fine, timed_here}

module _ {P V : Type 0} (seen : P → Seen) (vol : P → V) (holds : Image → State → Type 0) (reads : V → Image → Type 0) (left : V → ℕ → Image → Type 0) (clock faults : V → ℕ) (causes : RoomCauses V) (base : Option ℕ → V → State → Type 0) (keeps : V → V → Type 0)
    (bases : (p : P) (b : State) → (seen p).is_base b ↔ base (seen p).place.stopped (vol p) b)
    (leaves : (p : P) (t : ℕ) (image : Image) → (seen p).left_since t image ↔ left (vol p) t image)
    (stands : (p : P) → ((seen p).place.volume.moment ≡ clock (vol p)) × ((seen p).place.volume.faults ≡ faults (vol p)) × ((seen p).place.volume.refusals ≡ causes.refusals (vol p)))
    (keeps_more : (a b c : V) → keeps a b → keeps b c → keeps a c) where
  module _ (p q : P) (kept : IsKept holds (seen q)) (at : PlaceAt) (seat : ℕ) (port after : SeatView) (what : What) (now : ℕ) (outcome : Outcome) (h : HoldsOn IsRouted IsWorn at holds causes.outgrows_log seat what now outcome (seen p) (seen q) port after) where
    abbrev timed : List Timed
    timed = timed_at at.place h.entries

    timed_are : entries_of timed ≡ made_by h.entries
    timed_are = timed_here IsRouted IsWorn at h.entries (on (seen p).place port) (on (seen q).place after) h.led

    hold_outlasts : Outlasts holds left clock (base (seen p).place.stopped (vol p)) (base (seen q).place.stopped (vol q)) timed (seen p).place.state (seen q).place.state (vol p) (vol q)
    hold_outlasts =
        let old = on (seen p).place port in let new = on (seen q).place after in
        let moments = timed_between IsRouted IsWorn at h.entries old new h.led in
        outlasts_so seen vol holds reads left clock faults causes base bases leaves stands p q kept (IsEarlyIn h.entries) timed moments.later moments.between
        (timed_fine IsRouted IsWorn at what now outcome h.entries old new h.holds h.led)
        (subst (λ (es : List PlaceEntry). seen_so.Outlasts holds (IsEarlyIn h.entries) es (seen p) (seen q)) (sym timed_are) h.outlasts)

    -- what was made before, and what the hold made
    pub lasts_on : (state : State) (steps : List PlaceEntry) → keeps (vol p) (vol q) → HasLasted holds left clock base keeps state steps (seen p).place (vol p)
        → HasLasted holds left clock base keeps state (steps ++ made_by h.entries) (seen q).place (vol q)
    lasts_on state steps volume l = record {
      first = l.first;
      opened = l.opened;
      kept = keeps_more l.first (vol p) (vol q) l.kept volume;
      timed = l.timed ++ timed;
      steps_are = both_entries l.timed timed steps (made_by h.entries) l.steps_are timed_are;
      outlasts = outlasts_more holds left clock (base None l.first) (base (seen p).place.stopped (vol p)) (base (seen q).place.stopped (vol q)) l.timed timed state (seen p).place.state (seen q).place.state l.first (vol p) (vol q) l.outlasts hold_outlasts;
    }

-- of a place that was just opened
pub lasts_new : {V : Type 0} (holds : Image → State → Type 0) (left : V → ℕ → Image → Type 0) (clock : V → ℕ) (base : Option ℕ → V → State → Type 0) (keeps : V → V → Type 0)
    → ((v : V) (t u : ℕ) (image : Image) → t ≤ u → left v u image → left v t image) → ((v : V) → keeps v v) → (place : PlaceIn) (vol : V) → place.stopped ≡ None
    → IsOpenedTo holds left clock base keeps place.state vol → HasLasted holds left clock base keeps place.state [] place vol
lasts_new holds left clock base keeps earlier none place vol going opened = record {
  first = vol;
  opened = opened;
  kept = none vol;
  timed = [];
  steps_are = refl;
  outlasts = subst (λ (o : Option ℕ). Outlasts holds left clock (base None vol) (base o vol) [] place.state place.state vol vol) (sym going)
      (outlasts_nothing holds left clock (base None vol) earlier place.state vol);
}
