-- A place that was flushed at the closing.
use Rattle.std.proofs.Common.{◌≡◌, inl, inr, ℕ, ◌≤◌, [], Option, None, Some, Result, Ok, Err, sym, ap, subst, ◌∙◌}
use Rattle.std.specs.Prelude.{◌↔◌}
use Rattle.js_model.specs.declared.stream.State.{State}
use Rattle.js_model.specs.Lasting.{lasting}
use Rattle.place_engine.specs.Flushing.{Flushes}
use Rattle.place_engine.specs.Opening.{AllHold}
use Rattle.place_engine.specs.Stepping.{Image, IsKept, MayKeepBase, Seen}
use Rattle.place_engine.specs.declared.faults.PlaceFault.{PlaceFault}
use Rattle.place_engine.specs.declared.faults.PlaceFault.TheVariants.{NoMemory, StoreFault, Stopped, Gone, Worn}
use Rattle.place_engine.specs.declared.faults.Left.TheVariants.{Nothing, Ticked, Unsaid}
use Rattle.place_engine.specs.Preparing.{RoomCauses}
use Rattle.crash_laws.specs.Outlasting.{Outlasts}
use Rattle.crash_laws.proofs.Following.{outlasts_nothing}
use Rattle.desk_hold.specs.Crashes.{MayCommit}
use Rattle.desk_hold.proofs.Beginnings.{outlasts_call}
use Rattle.desk_places.specs.Closing.{EndsAt, EndsSo}
use Rattle.desk_places.proofs.Converted.{all_hold, outlasts_so}

-- ---- what a flush leaves as it was

module _ (holds : Image → State → Type 0) (old new : Seen) where
  state_kept : (told : Result (Unit {0}) PlaceFault) → Flushes holds told old new → new.place.state ≡ old.place.state
  state_kept (Ok done) h = h.ends.keeps.state
  state_kept (Err (NoMemory Nothing)) h = h.ends.rests.state
  state_kept (Err (NoMemory Ticked)) h = absurd h.ends
  state_kept (Err (NoMemory (Unsaid refused))) h = absurd h.ends
  state_kept (Err StoreFault) h = h.ends.keeps.state
  state_kept (Err (Stopped count)) h = h.ends.rests.state
  state_kept (Err (Gone kept)) h = absurd h.ends
  state_kept (Err (Worn refused)) h = h.ends.unflushed.rests.state

  base_kept : (told : Result (Unit {0}) PlaceFault) → Flushes holds told old new → MayKeepBase old new
  base_kept (Ok done) h = λ b is. inr (h.ends.flushed.base b is)
  base_kept (Err (NoMemory Nothing)) h = λ b is. inl (h.ends.rests.base b is)
  base_kept (Err (NoMemory Ticked)) h = absurd h.ends
  base_kept (Err (NoMemory (Unsaid refused))) h = absurd h.ends
  base_kept (Err StoreFault) h = h.ends.base
  base_kept (Err (Stopped count)) h = λ b is. inl (h.ends.rests.base b is)
  base_kept (Err (Gone kept)) h = absurd h.ends
  base_kept (Err (Worn refused)) h = λ b is. inl (h.ends.unflushed.rests.base b is)

-- ---- what a crash may leave

module _ {P V : Type 0} (seen : P → Seen) (vol : P → V) (holds : Image → State → Type 0) (reads : V → Image → Type 0) (left : V → ℕ → Image → Type 0) (clock faults : V → ℕ) (causes : RoomCauses V)
    (base : Option ℕ → V → State → Type 0) (keeps : V → V → Type 0)
    (bases : (p : P) (b : State) → (seen p).is_base b ↔ base (seen p).place.stopped (vol p) b)
    (leaves : (p : P) (t : ℕ) (image : Image) → (seen p).left_since t image ↔ left (vol p) t image)
    (earlier : (v : V) (t u : ℕ) (image : Image) → t ≤ u → left v u image → left v t image)
    (stands : (p : P) → ((seen p).place.volume.moment ≡ clock (vol p)) × ((seen p).place.volume.faults ≡ faults (vol p)) × ((seen p).place.volume.refusals ≡ causes.refusals (vol p))) where
  -- nothing was made, and the volume was left so
  abbrev Leaves : P → Option ℕ → V → Type 0
  Leaves p still end = Outlasts holds left clock (base (seen p).place.stopped (vol p)) (base still end) [] (seen p).place.state (seen p).place.state (vol p) end

  -- it was stopped
  pub ends_stopped : (p : P) (count : ℕ) (end : V) → (seen p).place.stopped ≡ Some count → end ≡ vol p → EndsAt seen vol holds reads left clock base keeps p (record { told = None; vol = end })
  ends_stopped p count end stopped same = record {
    ends = ((count, stopped), same);
    stopped = (seen p).place.stopped;
    outlasts = subst (λ (v : V). Leaves p (seen p).place.stopped v) (sym same)
        (outlasts_nothing holds left clock (base (seen p).place.stopped (vol p)) earlier (seen p).place.state (vol p));
  }

  module _ (p q : P) (kept : IsKept holds (seen p)) (still : IsKept holds (seen q)) (going : (seen p).place.stopped ≡ None) (keeps_it : keeps (vol p) (vol q))
      (read : (seen q).place.stopped ≡ None → (image : Image) → reads (vol q) image → (b : State) × holds image b × (seen q).is_base b) where
    nothing_made : (told : Result (Unit {0}) PlaceFault) → Flushes holds told (seen p) (seen q) → Leaves p (seen q).place.stopped (vol q)
    nothing_made told h =
        let same = state_kept holds (seen p) (seen q) told h in
        let commits : MayCommit holds (seen p) (seen q) = record { time = h.time; base = base_kept holds (seen p) (seen q) told h } in
        subst (λ (s : State). Outlasts holds left clock (base (seen p).place.stopped (vol p)) (base (seen q).place.stopped (vol q)) [] (seen p).place.state s (vol p) (vol q)) same
        (outlasts_so seen vol holds reads left clock faults causes base bases leaves stands p q still (λ t. ⊥) [] h.time.moments tt (λ t. tt)
        (outlasts_call holds (seen p) (seen q) kept still commits [] (sym same)))

    -- it was flushed
    pub ends_flushed : (told : Result (Unit {0}) PlaceFault) (end : V) → end ≡ vol q → Flushes holds told (seen p) (seen q) → EndsAt seen vol holds reads left clock base keeps p (record { told = Some told; vol = end })
    ends_flushed told end same h = record {
      ends = ends told h;
      stopped = (seen q).place.stopped;
      outlasts = subst (λ (v : V). Leaves p (seen q).place.stopped v) (sym same) (nothing_made told h);
    }
      where
        ends : (told : Result (Unit {0}) PlaceFault) → Flushes holds told (seen p) (seen q) → EndsSo seen vol holds reads left clock base keeps p (Some told) end
        ends (Ok done) h = (
          (q, record { going = going; flushes = h; volume = keeps_it }, same),
          subst (λ (v : V). AllHold holds reads left clock v (lasting (seen p).place.state)) (sym same)
              (all_hold seen vol holds reads left clock faults causes base bases leaves stands q still (read h.ends.goes) (lasting (seen p).place.state)
              (λ b is. h.ends.flushed.base b is ∙ ap lasting (state_kept holds (seen p) (seen q) (Ok done) h))),
        )
        ends (Err fault) h = (q, record { going = going; flushes = h; volume = keeps_it }, same)
