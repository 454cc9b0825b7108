-- A step behind the making of room: of a place that goes on, and of one that is stopped.
use Rattle.std.proofs.Common.{None, Some, ◌≡◌, ◌≤◌, ◌<◌, ◌^◌, ◌++◌, ℕ, Bool, List, [], Result, Ok, Err, ◌&&◌, refl, sym, ap, subst, ◌∙◌, inl, inr, arith, IsTrue}
use Rattle.std.specs.Prelude.{◌⊎◌, nat_le}
use Rattle.std.proofs.lemmas.Bool.{and_parts}
use Rattle.js_base.specs.Bytes.{Bytes}
use Rattle.js_base.specs.Subjects.{is_subject_text}
use Rattle.js_base.specs.declared.out.Out.{Out}
use Rattle.js_model.specs.declared.stream.State.{State}
use Rattle.js_model.specs.declared.event.Event.{Event}
use Rattle.js_model.specs.declared.event.What.{What}
use Rattle.js_model.specs.declared.reply.Reply.{Reply}
use Rattle.js_model.specs.Firm.{IsFirmStep}
use Rattle.js_model.specs.Lasting.{lasting}
use Rattle.js_model.specs.PlaceStates.{PlaceIn}
use Rattle.js_model.specs.Proper.{if_given, is_proper, is_proper_what, reply_of}
use Rattle.js_api.specs.Outputs.{answer_of, stream_name, said}
use Rattle.place_engine.specs.Preparing.{EndsPreparing, FailsPreparing, Prepared, Prepares, Unprepared}
use Rattle.place_engine.specs.Stepping.{Image, IsStopped, Seen, Steps, Elapses}
use Rattle.place_engine.specs.declared.faults.PlaceFault.{PlaceFault}
use Rattle.place_engine.specs.declared.faults.Left.{Left}
use Rattle.place_engine.specs.declared.faults.PlaceFault.TheVariants.{NoMemory, StoreFault, Stopped, Gone, Worn}
use Rattle.place_engine.specs.declared.faults.Left.TheVariants.{Nothing, Ticked, Unsaid}
use Rattle.desk_hold.specs.Crashes.{CommitsStep, MayCommit}
use Rattle.desk_hold.specs.Rooms.{CommitsNothing, IsReady}
use Rattle.desk_hold.specs.Steps.{EndsStep, IsUndoneStep, StopsUnmade}
use Rattle.desk_hold.proofs.Committed.{commits_failed, commits_told}
use Rattle.desk_hold.proofs.Stepped.{Stays, all_rests, failed_step, later_by, not_both, told_step}

-- ---- the making of room

-- whatever it comes to, it commits nothing
pub commits_none : (holds : Image → State → Type 0) (outgrows : State → What → Type 0) (result : Result (Unit {0}) PlaceFault) (what : What) (old new : Seen) → Prepares holds outgrows result what old new
    → CommitsNothing holds old new
commits_none holds outgrows result what old new h = record { time = h.time; images = h.images; base = by result h }
  where
    by : (r : Result (Unit {0}) PlaceFault) → Prepares holds outgrows r what old new → (b : State) → new.is_base b → old.is_base b
    by (Ok done) h = h.ends.base
    by (Err (NoMemory Nothing)) h = h.ends.rests.base
    by (Err (NoMemory Ticked)) h = absurd h.ends
    by (Err (NoMemory (Unsaid refused))) h = absurd h.ends
    by (Err StoreFault) h = h.ends.base
    by (Err (Stopped count)) h = h.ends.rests.base
    by (Err (Gone kept)) h = absurd h.ends
    by (Err (Worn refused)) h = absurd h.ends

module _ (holds : Image → State → Type 0) (old mid new : Seen) (none : CommitsNothing holds old mid) where
  elapses_since : Elapses holds mid new → Elapses holds old new
  elapses_since h = record {
    faults = omega (arith, none.time.faults, h.faults);
    refusals = omega (arith, none.time.refusals, h.refusals);
    moments = omega (arith, none.time.moments, h.moments);
    generations = omega (arith, none.time.generations, h.generations);
    goes_on = λ t image le left. by t image le (h.goes_on t image (omega (arith, le, none.time.moments)) left);
  }
    where
      by : (t : ℕ) (image : Image) → t ≤ old.place.volume.moment → mid.left_since t image ⊎ ((d : State) × holds image d × (mid.is_base d ⊎ (d ≡ lasting new.place.state)))
          → old.left_since t image ⊎ ((d : State) × holds image d × (old.is_base d ⊎ (d ≡ lasting new.place.state)))
      by t image le (inl left) = before (none.images t image le left)
        where
          before : old.left_since t image ⊎ ((d : State) × holds image d × old.is_base d) → old.left_since t image ⊎ ((d : State) × holds image d × (old.is_base d ⊎ (d ≡ lasting new.place.state)))
          before (inl was) = inl was
          before (inr (d, held, is)) = inr (d, held, inl is)
      by t image le (inr (d, held, inl is)) = inr (d, held, inl (none.base d is))
      by t image le (inr (d, held, inr is)) = inr (d, held, inr is)

  pub commits_since : MayCommit holds mid new → MayCommit holds old new
  commits_since h = record { time = elapses_since h.time; base = λ b is. by b (h.base b is) }
    where
      by : (b : State) → mid.is_base b ⊎ (b ≡ lasting new.place.state) → old.is_base b ⊎ (b ≡ lasting new.place.state)
      by b (inl is) = inl (none.base b is)
      by b (inr is) = inr is

-- ---- memory ran out in it

pub undone_ready : (holds : Image → State → Type 0) (old new : Seen) → CommitsNothing holds old new → Unprepared old new → IsUndoneStep old.place new.place
undone_ready holds old new none h = record {
  state = h.rests.state;
  stored = h.rests.stored;
  stopped = h.rests.stopped;
  volume = λ count stopped. absurd (not_both old.place.stopped count h.going stopped);
  later = later_by holds old new none.time;
}

pub commits_undone : (holds : Image → State → Type 0) (fault : PlaceFault) (event : Event) (old new : Seen) → CommitsNothing holds old new → CommitsStep holds (Err fault) event old new
commits_undone holds fault event old new none = record { commits = record { time = none.time; base = λ b is. inl (none.base b is) }; firm = tt }

-- ---- the step behind it

stays_by : (holds : Image → State → Type 0) (outgrows : State → What → Type 0) (what : What) (old mid : Seen) → CommitsNothing holds old mid → Prepared outgrows what old mid → Stays old.place mid.place
stays_by holds outgrows what old mid none h = record { going = h.keeps.going; goes = h.goes; state = h.keeps.state; stored = h.keeps.stored; later = later_by holds old mid none.time }

-- where the place is stopped
ready_stopped : (outgrows : State → What → Type 0) (what : What) (old mid : Seen) → IsReady outgrows what old mid → mid.place.stopped ≡ None → Prepared outgrows what old mid
ready_stopped outgrows what old mid (inl h) going = h
ready_stopped outgrows what old mid (inr (inl h)) going = absurd (not_both mid.place.stopped mid.place.volume.faults going h.stops)
ready_stopped outgrows what old mid (inr (inr (count, h))) going = absurd (not_both mid.place.stopped count going (h.rests.stopped ∙ h.stopped))

module _ (holds : Image → State → Type 0) (outgrows : State → What → Type 0) (event : Event) (now : ℕ) (old mid new : Seen) (proper : IsTrue (is_proper event)) (moment : now < 2 ^ 62)
    (none : CommitsNothing holds old mid) (ready : IsReady outgrows event.what old mid) where
  pub told_ready : (reply : Reply) (unsaid : Bool) (stream : Bytes) (before between after : List Out) → Steps holds (Ok reply) event now mid new before between
      → stream ≡ stream_name old.place.state → after ≡ between ++ said unsaid (answer_of stream event.what reply)
      → EndsStep outgrows (Ok (record { reply = reply; unsaid = unsaid })) event now old.place new.place before after
  told_ready reply unsaid stream before between after h name added =
      let room = ready_stopped outgrows event.what old mid ready h.ends.does.going in
      told_step holds outgrows event now old mid new proper moment (stays_by holds outgrows event.what old mid none room) room.cause reply unsaid stream before between after h name added

  -- nothing was made at a stopped place
  unmade : mid.place ≡ new.place → FailsPreparing old mid → StopsUnmade old.place new.place
  unmade same h = subst (λ (p : PlaceIn). StopsUnmade old.place p) same
      (record { going = h.keeps.going; state = h.keeps.state; stored = h.keeps.stored; stops = (h.stops, h.cause); later = later_by holds old mid none.time })

  on_stopped : (fault : PlaceFault) (before after : List Out) (count : ℕ) → mid.place.stopped ≡ Some count → FailsPreparing old mid ⊎ IsStopped count old mid [] []
      → Steps holds (Err fault) event now mid new before after → EndsStep outgrows (Err fault) event now old.place new.place before after
  on_stopped (NoMemory Nothing) before after count stopped (inl f) h = inr (unmade (sym (all_rests mid new before after h.ends.rests (h.ends.volume count stopped))) f)
  on_stopped (NoMemory Nothing) before after count stopped (inr s) h =
      let same : new.place ≡ old.place = all_rests mid new before after h.ends.rests (h.ends.volume count stopped) ∙ all_rests old mid [] [] s.rests s.volume in
      inl (subst (λ (p : PlaceIn). IsUndoneStep old.place p) (sym same) (record {
        state = refl;
        stored = refl;
        stopped = refl;
        volume = λ c e. refl;
        later = record { faults = omega arith; refusals = omega arith; moments = omega arith; generations = omega arith };
      }))
  on_stopped (NoMemory Ticked) before after count stopped why h = absurd (not_both mid.place.stopped count h.ends.does.going stopped)
  on_stopped (NoMemory (Unsaid refused)) before after count stopped why h = absurd (not_both mid.place.stopped count h.ends.hides.does.going stopped)
  on_stopped StoreFault before after count stopped why h = absurd (not_both mid.place.stopped count h.ends.does.going stopped)
  on_stopped (Stopped found) before after count stopped (inl f) h = inr (unmade (sym (all_rests mid new before after h.ends.rests h.ends.volume)) f)
  on_stopped (Stopped found) before after count stopped (inr s) h =
      let first : mid.place ≡ old.place = all_rests old mid [] [] s.rests s.volume in
      inl (record {
        stopped = ap (λ (p : PlaceIn). p.stopped) (sym first) ∙ h.ends.stopped;
        same = all_rests mid new before after h.ends.rests h.ends.volume ∙ first;
      })
  on_stopped (Gone kept) before after count stopped why h = absurd (not_both mid.place.stopped count h.ends.going stopped)
  on_stopped (Worn refused) before after count stopped why h = absurd (not_both mid.place.stopped count h.ends.withholds.hides.does.going stopped)

  pub failed_ready : (fault : PlaceFault) (before after : List Out) → Steps holds (Err fault) event now mid new before after
      → EndsStep outgrows (Err fault) event now old.place new.place before after
  failed_ready fault before after h = by ready
    where
      by : IsReady outgrows event.what old mid → EndsStep outgrows (Err fault) event now old.place new.place before after
      by (inl room) = failed_step holds outgrows event now old mid new proper moment (stays_by holds outgrows event.what old mid none room) room.cause fault before after h
      by (inr (inl f)) = on_stopped fault before after mid.place.volume.faults f.stops (inl f) h
      by (inr (inr (count, s))) = on_stopped fault before after count (s.rests.stopped ∙ s.stopped) (inr s) h

  pub commits_told_ready : (reply : Reply) (unsaid : Bool) (before after : List Out) → Steps holds (Ok reply) event now mid new before after
      → CommitsStep holds (Ok (record { reply = reply; unsaid = unsaid })) event old new
  commits_told_ready reply unsaid before after h =
      let c = commits_told holds event now mid new before after reply unsaid h in
      let room = ready_stopped outgrows event.what old mid ready h.ends.does.going in
      record {
        commits = commits_since holds old mid new none c.commits;
        firm = subst (λ (s : State). IsFirmStep s event.what reply new.place.state → (b : State) → new.is_base b → b ≡ lasting new.place.state) room.keeps.state c.firm;
      }

  pub commits_failed_ready : (fault : PlaceFault) (before after : List Out) → Steps holds (Err fault) event now mid new before after → CommitsStep holds (Err fault) event old new
  commits_failed_ready fault before after h =
      let c = commits_failed holds event now mid new before after fault h in
      record { commits = commits_since holds old mid new none c.commits; firm = tt }

-- ---- what the call came to

module _ (outgrows : State → What → Type 0) (fault : PlaceFault) (what : What) (old new : Seen) (h : EndsPreparing outgrows (Err fault) what old new) where
  abbrev Ends : PlaceFault → Type 0
  Ends f = EndsPreparing outgrows (Err f) what old new

  pub short_ready : (left : Left) → fault ≡ NoMemory left → Unprepared old new
  short_ready left is = by left (subst Ends is h)
    where
      by : (l : Left) → Ends (NoMemory l) → Unprepared old new
      by Nothing e = e
      by Ticked e = absurd e
      by (Unsaid refused) e = absurd e

  pub failed_there : fault ≡ StoreFault → FailsPreparing old new
  failed_there is = subst Ends is h

  pub stopped_there : (count : ℕ) → fault ≡ Stopped count → IsStopped count old new [] []
  stopped_there count is = subst Ends is h

  pub never_gone : (kept : ℕ) → fault ≡ Gone kept → ⊥
  never_gone kept is = subst Ends is h

  pub never_worn : (refused : Bool) → fault ≡ Worn refused → ⊥
  never_worn refused is = subst Ends is h

-- what is asked of an event that can be can be asked
pub what_proper : (event : Event) → IsTrue (is_proper event) → IsTrue (is_proper_what event.what)
what_proper event proper = (and_parts (nat_le event.incarnation (2 ^ 62) && if_given is_subject_text (reply_of event.what)) (is_proper_what event.what) proper).1
