-- What the entries of a desk of one caller make of one of its places.
use Rattle.std.proofs.Common.{◌≡◌, ◌≢◌, ◌≤◌, ◌⊎◌, ◌++◌, if◌then◌else◌, ℕ, zero, suc, true, Bool, List, [], ◌∷◌, Option, None, Some, slice_get, slice_set, refl, sym, subst, ◌∙◌, ap, inl, inr}
use Rattle.std.proofs.lemmas.Bool.{cases_eq, eq-eqb, ne_eqb}
use Rattle.std.proofs.lemmas.Option.{same_Some}
use Rattle.js_model.specs.declared.entry.PlaceEntry.{PlaceEntry}
use Rattle.js_model.specs.declared.stream.State.{State}
use Rattle.js_model.specs.PlaceStates.{PlaceIn}
use Rattle.js_model.specs.Runs.{RunFrom}
use Rattle.js_api.specs.Entries.{Hold, entries_in, DeskEntry, Routed, Looked, Turned, Resumed, Held, Stirred, Halted, Missed, Spent}
use Rattle.js_api.specs.Leading.{Leads}
use Rattle.js_api.specs.Machines.{held_at, steps_at}
use Rattle.js_api.specs.Worlds.{Scene, SoloStep, IsHeld, IsStirred, Stops, is_broken}
use Rattle.js_api.proofs.HeldRuns.{held_then}

-- ---- one item of a list

set_there : {X : Type 0} (xs : List X) (i : ℕ) (old new : X) → slice_get xs i ≡ Some old → slice_get (slice_set xs i new) i ≡ Some new
set_there [] i old new there = let no : ⊥ = cc in absurd no
set_there (x ∷ xs) zero old new there = refl
set_there (x ∷ xs) (suc i) old new there = set_there xs i old new there

set_elsewhere : {X : Type 0} (xs : List X) (i j : ℕ) (new : X) → i ≢ j → slice_get (slice_set xs i new) j ≡ slice_get xs j
set_elsewhere [] i j new other = refl
set_elsewhere (x ∷ xs) zero zero new other = absurd (other refl)
set_elsewhere (x ∷ xs) zero (suc j) new other = refl
set_elsewhere (x ∷ xs) (suc i) zero new other = refl
set_elsewhere (x ∷ xs) (suc i) (suc j) new other = set_elsewhere xs i j new (λ same. other (ap suc same))

-- ---- one entry

-- the place is as it was, and made no entry
record Stays (place : ℕ) (entry : DeskEntry) (before : PlaceIn) (new : Scene) : Type 0 where
  there : slice_get new.world.places place ≡ Some before
  steps : (more : List DeskEntry) → steps_at place (entry ∷ more) ≡ steps_at place more

-- of the place its volume was called
record WasStirred (place : ℕ) (entry : DeskEntry) (before : PlaceIn) (new : Scene) : Type 0 where
  after : PlaceIn
  going : before.stopped ≡ None
  state : after.state ≡ before.state
  stored : after.stored ≡ before.stored
  there : slice_get new.world.places place ≡ Some after
  steps : (more : List DeskEntry) → steps_at place (entry ∷ more) ≡ steps_at place more

-- the place was held
record WasHeld (place : ℕ) (entry : DeskEntry) (before : PlaceIn) (new : Scene) : Type 0 where
  after : PlaceIn
  hold : Hold
  held : IsHeld hold before after
  there : slice_get new.world.places place ≡ Some after
  steps : (more : List DeskEntry) → steps_at place (entry ∷ more) ≡ entries_in hold ++ steps_at place more

abbrev Moves : ℕ → DeskEntry → PlaceIn → Scene → Type 0
Moves place entry before new = Stays place entry before new ⊎ (WasStirred place entry before new ⊎ WasHeld place entry before new)

stays_by : (place : ℕ) (entry : DeskEntry) (before : PlaceIn) (old new : Scene) → new.world.places ≡ old.world.places → slice_get old.world.places place ≡ Some before
    → ((more : List DeskEntry) → steps_at place (entry ∷ more) ≡ steps_at place more) → Moves place entry before new
stays_by place entry before old new same there steps = inl (record { there = ap (λ (ps : List PlaceIn). slice_get ps place) same ∙ there; steps = steps })

held_here : (place : ℕ) (hold : Hold) → hold.at.place ≡ place → held_at place hold ≡ entries_in hold
held_here place hold here = ap (λ (b : Bool). if b then entries_in hold else []) (eq-eqb hold.at.place place here)

held_elsewhere : (place : ℕ) (hold : Hold) → hold.at.place ≢ place → held_at place hold ≡ []
held_elsewhere place hold other = ap (λ (b : Bool). if b then entries_in hold else []) (ne_eqb hold.at.place place other)

-- an entry that changes the place `i` alone
module _ (old new : List PlaceIn) (i : ℕ) (was after : PlaceIn) (is_there : slice_get old i ≡ Some was) (set : new ≡ slice_set old i after) (place : ℕ) (before : PlaceIn) (there : slice_get old place ≡ Some before) where
  was_before : i ≡ place → was ≡ before
  was_before here = same_Some was before (sym is_there ∙ ap (λ (k : ℕ). slice_get old k) here ∙ there)

  after_there : i ≡ place → slice_get new place ≡ Some after
  after_there here = ap (λ (ps : List PlaceIn). slice_get ps place) (set ∙ ap (λ (k : ℕ). slice_set old k after) here) ∙ set_there old place before after there

  before_there : i ≢ place → slice_get new place ≡ Some before
  before_there other = ap (λ (ps : List PlaceIn). slice_get ps place) set ∙ set_elsewhere old i place after other ∙ there

moves : (place : ℕ) (entry : DeskEntry) (before : PlaceIn) (old new : Scene) → SoloStep old entry new → slice_get old.world.places place ≡ Some before → Moves place entry before new
moves place (Routed call told) before old new step there = stays_by place (Routed call told) before old new (ap (λ (s : Scene). s.world.places) step.1) there (λ more. refl)
moves place (Looked joined call told) before old new step there = stays_by place (Looked joined call told) before old new (ap (λ (s : Scene). s.world.places) step.1) there (λ more. refl)
moves place (Turned after found) before old new step there = stays_by place (Turned after found) before old new (ap (λ (s : Scene). s.world.places) step.2) there (λ more. refl)
moves place (Resumed last) before old new step there = stays_by place (Resumed last) before old new (ap (λ (s : Scene). s.world.places) step.1) there (λ more. refl)
moves place (Held hold) before old new step there =
    let made = step.0 in
    let i : ℕ = hold.at.place in
    elim (cases_eq i place) [
      | inl here ↦
          inr
          (inr (record {
            after = made.after;
            hold = hold;
            held = subst (λ (p : PlaceIn). IsHeld hold p made.after) (was_before old.world.places new.world.places i made.place made.after made.is_there made.places place before there here) made.held;
            there = after_there old.world.places new.world.places i made.place made.after made.is_there made.places place before there here;
            steps = λ more. ap (λ (l : List PlaceEntry). l ++ steps_at place more) (held_here place hold here);
          }))
      | inr other ↦
          inl (record {
            there = before_there old.world.places new.world.places i made.place made.after made.is_there made.places place before there other;
            steps = λ more. ap (λ (l : List PlaceEntry). l ++ steps_at place more) (held_elsewhere place hold other);
          })
    ]
moves place (Stirred at first last failed) before old new step there =
    let made = step.0 in
    let i : ℕ = at.place in
    elim (cases_eq i place) [
      | inl here ↦
          let is : IsStirred first last failed before made.stirred =
          subst (λ (p : PlaceIn). IsStirred first last failed p made.stirred) (was_before old.world.places new.world.places i made.place made.stirred made.is_there made.places place before there here) made.is_stirred
          in
          inr
          (inl (record {
            after = made.stirred;
            going = is.going;
            state = is.state;
            stored = is.stored;
            there = after_there old.world.places new.world.places i made.place made.stirred made.is_there made.places place before there here;
            steps = λ more. refl;
          }))
      | inr other ↦
          inl (record {
            there = before_there old.world.places new.world.places i made.place made.stirred made.is_there made.places place before there other;
            steps = λ more. refl;
          })
    ]
moves place (Halted at state) before old new step there = stays_by place (Halted at state) before old new (ap (λ (s : Scene). s.world.places) step.1) there (λ more. refl)
moves place (Missed at kept) before old new step there = stays_by place (Missed at kept) before old new (ap (λ (s : Scene). s.world.places) step.1) there (λ more. refl)
moves place (Spent number) before old new step there = absurd step

-- ---- all entries

-- what stands at the place at the end: nothing more is made at a stopped place
pub record PlaceLed (place : ℕ) (before : PlaceIn) (entries : List DeskEntry) (new : Scene) : Type 0 where
  pub after : PlaceIn
  pub there : slice_get new.world.places place ≡ Some after
  pub run : (count : ℕ) → before.stored ≤ count → RunFrom count before.state (steps_at place entries) after.state
  pub rests : (stop : ℕ) → before.stopped ≡ Some stop → (steps_at place entries ≡ []) × (after ≡ before)

-- a broken hold leaves the place stopped
stopped_by : (hold : Hold) (old new : PlaceIn) → IsHeld hold old new → is_broken (entries_in hold) ≡ true → new.stopped ≡ Some hold.volume_after.faults
stopped_by hold old new held broken = (subst (λ (b : Bool). Stops b hold.volume_before hold.volume_after new.stopped) broken held.stops).0

led_on : (place : ℕ) (entry : DeskEntry) (before : PlaceIn) (entries : List DeskEntry) (mid new : Scene) → Stays place entry before mid
    → ((p : PlaceIn) → slice_get mid.world.places place ≡ Some p → PlaceLed place p entries new) → PlaceLed place before (entry ∷ entries) new
led_on place entry before entries mid new stays next =
    let led = next before stays.there in
    record {
      after = led.after;
      there = led.there;
      run = λ count enough. subst (λ (l : List PlaceEntry). RunFrom count before.state l led.after.state) (sym (stays.steps entries)) (led.run count enough);
      rests = λ stop stopped. (stays.steps entries ∙ (led.rests stop stopped).0, (led.rests stop stopped).1);
    }

not_going : (o : Option ℕ) (n : ℕ) → o ≡ None → o ≡ Some n → ⊥
not_going o n none some = cc

led_stirred : (place : ℕ) (entry : DeskEntry) (before : PlaceIn) (entries : List DeskEntry) (mid new : Scene) → WasStirred place entry before mid
    → ((p : PlaceIn) → slice_get mid.world.places place ≡ Some p → PlaceLed place p entries new) → PlaceLed place before (entry ∷ entries) new
led_stirred place entry before entries mid new was next =
    let led = next was.after was.there in
    record {
      after = led.after;
      there = led.there;
      run = λ count enough.
          subst (λ (l : List PlaceEntry). RunFrom count before.state l led.after.state) (sym (was.steps entries))
          (subst (λ (s : State). RunFrom count s (steps_at place entries) led.after.state) was.state (led.run count (subst (λ (n : ℕ). n ≤ count) (sym was.stored) enough)));
      rests = λ stop stopped. absurd (not_going before.stopped stop was.going stopped);
    }

led_held : (place : ℕ) (entry : DeskEntry) (before : PlaceIn) (entries : List DeskEntry) (mid new : Scene) → WasHeld place entry before mid
    → ((p : PlaceIn) → slice_get mid.world.places place ≡ Some p → PlaceLed place p entries new) → PlaceLed place before (entry ∷ entries) new
led_held place entry before entries mid new was next =
    let led = next was.after was.there in
    record {
      after = led.after;
      there = led.there;
      run = λ count enough.
          subst (λ (l : List PlaceEntry). RunFrom count before.state l led.after.state) (sym (was.steps entries))
          (held_then was.hold before was.after count (steps_at place entries) led.after.state was.held enough
          (λ broken. let rest = led.rests was.hold.volume_after.faults (stopped_by was.hold before was.after was.held broken) in (rest.0, ap (λ (p : PlaceIn). p.state) (sym rest.1)))
          led.run);
      rests = λ stop stopped. absurd (not_going before.stopped stop was.held.going stopped);
    }

pub places_led : (place : ℕ) (before : PlaceIn) (entries : List DeskEntry) (old new : Scene) → Leads SoloStep old entries new → slice_get old.world.places place ≡ Some before
    → PlaceLed place before entries new
places_led place before [] old new led there = record {
  after = before;
  there = ap (λ (s : Scene). slice_get s.world.places place) (sym led) ∙ there;
  run = λ count enough. refl;
  rests = λ stop stopped. (refl, refl);
}
places_led place before (entry ∷ entries) old new (mid, step, rest) there =
    let next : (p : PlaceIn) → slice_get mid.world.places place ≡ Some p → PlaceLed place p entries new = λ p here. places_led place p entries mid new rest here in
    elim (moves place entry before old mid step there) [
      | inl stays ↦ led_on place entry before entries mid new stays next
      | inr (inl was) ↦ led_stirred place entry before entries mid new was next
      | inr (inr was) ↦ led_held place entry before entries mid new was next
    ]
