-- What a place promises of a delivery is one of the deliveries of a hold, or their end.
use Rattle.std.proofs.Common.{inl, ◌≡◌, ◌≤◌, ◌<◌, ◌^◌, ◌++◌, ◌&&◌, ℕ, true, false, List, [], ◌∷◌, append-nil, Option, None, Some, Result, Ok, Err, refl, sym, subst, ◌∙◌, arith, IsTrue}
use Rattle.std.specs.Prelude.{nat_le, sum_by}
use Rattle.std.proofs.lemmas.Bool.{and_from, le-leb}
use Rattle.js_base.specs.Bytes.{Bytes}
use Rattle.js_base.specs.declared.out.Out.{Out}
use Rattle.js_model.specs.declared.stream.State.{State}
use Rattle.js_model.specs.declared.event.Event.{Event}
use Rattle.js_model.specs.declared.reply.Reply.TheVariants.{Silent}
use Rattle.js_model.specs.declared.entry.Delivery.{Delivery}
use Rattle.js_model.specs.declared.entry.PlaceEntry.{PlaceEntry}
use Rattle.js_model.specs.declared.entry.PlaceEntry.TheVariants.{Step, Deliver, Broken}
use Rattle.js_model.specs.declared.entry.Call.TheVariants.{Deliver as DeliverOf}
use Rattle.js_model.specs.declared.desk.PlaceAt.{PlaceAt}
use Rattle.js_model.specs.Events.{kept_incarnation}
use Rattle.js_model.specs.PlaceStates.{PlaceIn}
use Rattle.js_model.specs.Proper.{is_proper}
use Rattle.js_model.specs.Ready.{some_ready}
use Rattle.js_api.specs.Holding.{bytes_of, most_bytes}
use Rattle.js_api.specs.Worlds.{IsLater, Stops}
use Rattle.place_engine.specs.Delivering.{Delivers, Makes, tick_at}
use Rattle.place_engine.specs.Stepping.{Elapses, Image, IsKept, MayKeepBase, Seen}
use Rattle.place_engine.specs.declared.faults.PlaceFault.{PlaceFault}
use Rattle.place_engine.specs.declared.faults.PlaceFault.TheVariants.{NoMemory, StoreFault, Stopped, Gone, Worn}
use Rattle.place_engine.specs.declared.faults.Left.TheVariants.{Nothing, Ticked, Unsaid}
use Rattle.desk_hold.specs.declared.delivering.Ending.{Ending}
use Rattle.desk_hold.specs.declared.delivering.Ending.TheVariants.{Quiet, Broke, Short, WornOut}
use Rattle.desk_hold.specs.Crashes.{MayCommit, Never, Outlasts}
use Rattle.desk_hold.specs.Deliveries.{DeliversOn, EndsSo, GoesOn, IsSentAt, Led, ending_after, ending_by}
use Rattle.desk_hold.proofs.Committed.{base_of}
use Rattle.desk_hold.proofs.Beginnings.{outlasts_call}
use Rattle.desk_hold.proofs.Chain.{none_firm}
use Rattle.desk_hold.proofs.Room.{none_room, one_room}
use Rattle.desk_hold.proofs.Stepped.{ticked_step}

-- a tick for what the place keeps is an event as a reader gives it
tick_proper : (state : State) → kept_incarnation state ≤ 2 ^ 62 → IsTrue (is_proper (tick_at state))
tick_proper state small =
    and_from (nat_le (kept_incarnation state) (2 ^ 62) && true) true (and_from (nat_le (kept_incarnation state) (2 ^ 62)) true (le-leb (kept_incarnation state) (2 ^ 62) small) refl) refl

module _ (holds : Image → State → Type 0) (now : ℕ) (listening : List Bytes) (old new : Seen) (moment : now < 2 ^ 62)
    (kept : IsKept holds old) (keeps : IsKept holds new) (small : kept_incarnation old.place.state ≤ 2 ^ 62) (going : old.place.stopped ≡ None)
    (before after : List Out) (room : sum_by bytes_of before < most_bytes) where
  later : Elapses holds old new → IsLater old.place.volume new.place.volume
  later h = record { faults = h.faults; refusals = h.refusals; moments = h.moments; generations = h.generations }

  same_volume : (p : PlaceIn) → IsLater p.volume p.volume
  same_volume p = record { faults = omega arith; refusals = omega arith; moments = omega arith; generations = omega arith }

  sent_at : (d : Delivery) (os : List Out) → Makes now listening d os old new → new.place.stored ≤ old.place.stored → Elapses holds old new → IsSentAt now listening d os old.place new.place
  sent_at d os h stored time = record { going = h.going; step = record { delivered = h.delivered; moment = moment }; stored = stored; later = later time }

  -- ---- what a crash may leave

  commits_of : (told : Result (Option Delivery) PlaceFault) → Delivers holds told now listening old new before after → MayCommit holds old new
  commits_of told h = record { time = h.time; base = by told h }
    where
      by : (t : Result (Option Delivery) PlaceFault) → Delivers holds t now listening old new before after → MayKeepBase old new
      by (Ok (Some d)) h = base_of h.ends.may
      by (Ok None) h = λ b is. inl (h.ends.rests.base b is)
      by (Err (NoMemory Nothing)) h = λ b is. inl (h.ends.rests.base b is)
      by (Err (NoMemory Ticked)) h = base_of h.ends.may
      by (Err (NoMemory (Unsaid refused))) h = λ b is. inl (h.ends.put_off.base b is)
      by (Err StoreFault) h = h.ends.base
      by (Err (Stopped count)) h = λ b is. inl (h.ends.rests.base b is)
      by (Err (Gone other)) h = absurd h.ends
      by (Err (Worn refused)) h = λ b is. inl (h.ends.hides.put_off.base b is)

  outlasts_of : MayCommit holds old new → (entries : List PlaceEntry) (sent : List Out) → Led old.place entries sent new.place → Outlasts holds Never entries old new
  outlasts_of commits entries sent led = outlasts_call holds old new kept keeps commits entries (none_firm entries old.place sent new.place led)

  -- ---- what was made

  next_made : (d : Delivery) → Delivers holds (Ok (Some d)) now listening old new before after → GoesOn holds now listening None old new before after
  next_made d h = (d, h.ends.sent, sent_at d h.ends.sent h.ends.makes h.stored h.time, h.ends.goes, h.ends.outs, commits_of (Ok (Some d)) h)

  -- nothing more was made
  paused : (ending : Ending) → new.place.state ≡ old.place.state → new.place.stored ≡ old.place.stored → new.place.stopped ≡ old.place.stopped → MayCommit holds old new → after ≡ before
      → EndsSo ending now listening [] new.place after → (seat : ℕ) (at : PlaceAt) → DeliversOn holds 1 seat at now listening ending old new before after
  paused ending state stored stopped commits same ends seat at =
      let led : Led old.place [] [] new.place = (record { going = going; state = state; stored = stored; stopped = stopped ∙ going; later = later commits.time }, refl) in
      record {
        entries = [];
        sent = [];
        few = omega arith;
        room = none_room before;
        are = tt;
        led = led;
        outlasts = outlasts_of commits [] [] led;
        added = same ∙ sym (append-nil before);
        ends = ends;
      }

  next_none : Delivers holds (Ok None) now listening old new before after → GoesOn holds now listening (Some Quiet) old new before after
  next_none h =
      let r = h.ends.rests in
      paused Quiet r.state r.stored r.stopped (commits_of (Ok None) h) r.outs (refl, subst (λ (s : State). some_ready s now listening ≡ false) (sym r.state) h.ends.none)

  -- one was made and told, and it was the last one
  last_sent : (ending : Ending) (d : Delivery) (os : List Out) → MayCommit holds old new → IsSentAt now listening d os old.place new.place → new.place.stopped ≡ None → after ≡ before ++ os
      → ((seat : ℕ) (es : List PlaceEntry) → es ≡ Deliver seat now listening d os ∷ [] → EndsSo ending now listening es new.place after)
      → (seat : ℕ) (at : PlaceAt) → DeliversOn holds 1 seat at now listening ending old new before after
  last_sent ending d os commits step goes outs ends seat at =
      let led : Led old.place (Deliver seat now listening d os ∷ []) os new.place =
      (new.place, [], step, goes, sym (append-nil os), (record { going = goes; state = refl; stored = refl; stopped = goes; later = same_volume new.place }, refl)) in
      record {
        entries = Deliver seat now listening d os ∷ [];
        sent = os;
        few = omega arith;
        room = one_room before (Deliver seat now listening d os) room;
        are = (refl, refl, refl, tt);
        led = led;
        outlasts = outlasts_of commits (Deliver seat now listening d os ∷ []) os led;
        added = outs;
        ends = ends seat (Deliver seat now listening d os ∷ []) refl;
      }

  -- time passed in its place
  ticked : Delivers holds (Err (NoMemory Ticked)) now listening old new before after → (seat : ℕ) (at : PlaceAt) → DeliversOn holds 1 seat at now listening Short old new before after
  ticked h seat at =
      let event : Event = tick_at old.place.state in
      let step = ticked_step holds now old new moment h.time (omega (arith, h.stored)) event before after (tick_proper old.place.state small) h.ends.does h.ends.goes h.ends.outs in
      let led : Led old.place (Step seat event now Silent step.outs false ∷ []) step.outs new.place = (step.made, refl, refl, step.goes, refl, refl) in
      record {
        entries = Step seat event now Silent step.outs false ∷ [];
        sent = step.outs;
        few = omega arith;
        room = one_room before (Step seat event now Silent step.outs false) room;
        are = (refl, refl, refl, refl, refl);
        led = led;
        outlasts = outlasts_of (commits_of (Err (NoMemory Ticked)) h) (Step seat event now Silent step.outs false ∷ []) step.outs led;
        added = step.added;
        ends = tt;
      }

  -- one was made and told to nobody, and the place stopped
  broke : (d : Delivery) (os : List Out) → MayCommit holds old new → IsSentAt now listening d os old.place new.place → Stops true old.place.volume new.place.volume new.place.stopped
      → after ≡ before → (seat : ℕ) (at : PlaceAt) → DeliversOn holds 1 seat at now listening Broke old new before after
  broke d os commits step stops outs seat at =
      let led : Led old.place (Broken seat now (DeliverOf listening d) ∷ []) [] new.place = (os, step, stops, refl, refl) in
      record {
        entries = Broken seat now (DeliverOf listening d) ∷ [];
        sent = [];
        few = omega arith;
        room = one_room before (Broken seat now (DeliverOf listening d)) room;
        are = (refl, refl, refl, refl);
        led = led;
        outlasts = outlasts_of commits (Broken seat now (DeliverOf listening d) ∷ []) [] led;
        added = outs ∙ sym (append-nil before);
        ends = refl;
      }

  was_stopped : (count : ℕ) → old.place.stopped ≡ Some count → ⊥
  was_stopped count stopped = let no : None ≡ Some count = sym going ∙ stopped in cc

  next_failed : (fault : PlaceFault) → Delivers holds (Err fault) now listening old new before after → GoesOn holds now listening (Some (ending_by fault)) old new before after
  next_failed (NoMemory Nothing) h = let r = h.ends.rests in paused Short r.state r.stored r.stopped (commits_of (Err (NoMemory Nothing)) h) r.outs tt
  next_failed (NoMemory Ticked) h = ticked h
  next_failed (NoMemory (Unsaid refused)) h =
      last_sent Short h.ends.delivery h.ends.sent (commits_of (Err (NoMemory (Unsaid refused))) h) (sent_at h.ends.delivery h.ends.sent h.ends.makes h.stored h.time) h.ends.goes h.ends.outs (λ seat es is. tt)
  next_failed StoreFault h =
      let e = h.ends in
      broke e.delivery e.sent (commits_of (Err StoreFault) h) (sent_at e.delivery e.sent e.makes h.stored h.time) (e.stops, e.cause) e.outs
  next_failed (Stopped count) h = absurd (was_stopped count h.ends.stopped)
  next_failed (Gone kept) h = absurd h.ends
  next_failed (Worn refused) h =
      let k = h.ends.hides in
      last_sent WornOut k.delivery k.sent (commits_of (Err (Worn refused)) h) (sent_at k.delivery k.sent k.makes h.stored h.time) k.goes k.outs (λ seat es is. ((λ none. let no : ⊥ = cc in absurd no), h.ends.last))

  pub next : (told : Result (Option Delivery) PlaceFault) → Delivers holds told now listening old new before after → GoesOn holds now listening (ending_after told) old new before after
  next (Ok (Some d)) h = next_made d h
  next (Ok None) h = next_none h
  next (Err fault) h = next_failed fault h
