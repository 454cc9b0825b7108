-- What one call of a place makes is an entry of its run, or nothing.
use Rattle.std.proofs.Common.{◌≡◌, ◌≤◌, ◌<◌, ◌+◌, ◌^◌, ◌++◌, ℕ, Bool, true, false, ◌&&◌, IsTrue, List, [], ◌∷◌, length, Option, None, Some, Result, Ok, Err, refl, sym, ap, subst, ◌∙◌}
use Rattle.std.specs.Prelude.{nat_le}
use Rattle.std.proofs.lemmas.Bool.{and_from, and_parts, le-leb}
use Rattle.js_base.specs.Subjects.{is_subject_text}
use Rattle.js_base.specs.Bytes.{Bytes}
use Rattle.js_base.specs.declared.out.Out.{Out}
use Rattle.js_model.specs.declared.stream.State.{State}
use Rattle.js_model.specs.declared.event.Event.{Event}
use Rattle.js_model.specs.declared.event.What.{What}
use Rattle.js_model.specs.declared.reply.Reply.{Reply}
use Rattle.js_model.specs.declared.reply.Answer.{Answer}
use Rattle.js_model.specs.declared.entry.Delivery.{Delivery}
use Rattle.js_model.specs.declared.entry.PlaceEntry.{PlaceEntry}
use Rattle.js_model.specs.declared.entry.PlaceEntry.TheVariants.{Deliver, Broken}
use Rattle.js_model.specs.declared.entry.Call.TheVariants.{Deliver as DeliverOf}
use Rattle.js_model.proofs.Named.{none_some}
use Rattle.js_model.specs.Events.{answered, kept_incarnation}
use Rattle.js_model.specs.Proper.{if_given, is_proper, is_proper_what, reply_of}
use Rattle.js_model.specs.Runs.{IsStep, IsDeliverStep, RunFrom, new_messages}
use Rattle.place_engine.specs.Stepping.{Image, Seen, Steps, Does, Rests, tick_of}
use Rattle.place_engine.specs.Delivering.{Delivers, Makes, tick_at}
use Rattle.place_engine.specs.Flushing.{EndsFlush}
use Rattle.place_engine.specs.Preparing.{EndsPreparing}
use Rattle.place_engine.specs.declared.faults.PlaceFault.{PlaceFault}
use Rattle.place_engine.specs.declared.faults.PlaceFault.TheVariants.{NoMemory, StoreFault, Stopped, Gone, Worn}
use Rattle.place_engine.specs.declared.faults.Left.TheVariants.{Nothing, Ticked, Unsaid}
use Rattle.place_laws.specs.Calls.{stepped, made_by_step, made_by_delivery}

-- an event for an incarnation that can be is proper whatever is asked
tick_proper : (e : Event) → IsTrue (is_proper e) → IsTrue (is_proper (tick_of e))
tick_proper e proper =
    let both = and_parts (nat_le e.incarnation (2 ^ 62) && if_given is_subject_text (reply_of e.what)) (is_proper_what e.what) proper in
    let small = and_parts (nat_le e.incarnation (2 ^ 62)) (if_given is_subject_text (reply_of e.what)) both.0 in
    and_from (nat_le e.incarnation (2 ^ 62) && true) true (and_from (nat_le e.incarnation (2 ^ 62)) true small.0 refl) refl

kept_proper : (state : State) → kept_incarnation state ≤ 2 ^ 62 → IsTrue (is_proper (tick_at state))
kept_proper state bound =
    and_from (nat_le (kept_incarnation state) (2 ^ 62) && true) true (and_from (nat_le (kept_incarnation state) (2 ^ 62)) true (le-leb (kept_incarnation state) (2 ^ 62) bound) refl) refl

-- what comes behind: a run from where the call left the place, whatever counted until then
abbrev pub Behind : Seen → List PlaceEntry → State → Type 0
Behind mid more last = (count : ℕ) → RunFrom count mid.place.state more last

-- a place that is stopped makes nothing more
abbrev pub EndsStopped : Seen → List PlaceEntry → State → Type 0
EndsStopped mid more last = (n : ℕ) → mid.place.stopped ≡ Some n → (more ≡ []) × (last ≡ mid.place.state)

module _ (holds : Image → State → Type 0) (count now : ℕ) (old mid : Seen) (more : List PlaceEntry) (last : State)
    (moment : now < 2 ^ 62) (behind : Behind mid more last) (stopped : EndsStopped mid more last) where
  abbrev answer_to : Event → Answer
  answer_to e = answered old.place.state e now (old.room e.what)

  whole : (e : Event) → mid.place.state ≡ (answer_to e).state → answer_to e ≡ record { reply = (answer_to e).reply; outs = (answer_to e).outs; state = mid.place.state }
  whole e is = ap (λ (s : State). record { reply = (answer_to e).reply; outs = (answer_to e).outs; state = s }) (sym is)

  step : (e : Event) → IsTrue (is_proper e) → Does e now old mid → IsStep count old.place.state e now (answer_to e).reply (answer_to e).outs mid.place.state
  step e proper does = record {
    event = record { kept = does.kept; room = old.room e.what; answers = whole e does.state };
    proper = proper;
    moment = moment;
  }

  -- an event is made, and the run goes on behind it
  made : (seat : ℕ) (e : Event) (unsaid : Bool) → IsTrue (is_proper e) → Does e now old mid
      → RunFrom count old.place.state (stepped seat e now unsaid old ∷ more) last
  made seat e unsaid proper does = (
    mid.place.state,
    step e proper does,
    behind (count + length (new_messages old.place.state mid.place.state)),
  )

  -- nothing is made, and the run goes on
  rested : (before after : List Out) → Rests old mid before after → RunFrom count old.place.state more last
  rested before after rests = subst (λ (s : State). RunFrom count s more last) rests.state (behind count)

  -- the volume failed in the event
  broken : (seat : ℕ) (e : Event) (n : ℕ) → IsTrue (is_proper e) → Does e now old mid → mid.place.stopped ≡ Some n → RunFrom count old.place.state (made_by_step (Err StoreFault) seat e now old ++ more) last
  broken seat e n proper does is =
      let ended = stopped n is in
      subst (λ (entries : List PlaceEntry). RunFrom count old.place.state (made_by_step (Err StoreFault) seat e now old ++ entries) last) (sym ended.0)
      ((answer_to e).reply, (answer_to e).outs, subst (λ (s : State). IsStep count old.place.state e now (answer_to e).reply (answer_to e).outs s) (sym ended.1) (step e proper does))

  pub step_runs : (result : Result Reply PlaceFault) (seat : ℕ) (event : Event) (before after : List Out) → IsTrue (is_proper event) → Steps holds result event now old mid before after
      → RunFrom count old.place.state (made_by_step result seat event now old ++ more) last
  step_runs (Ok reply) seat event before after proper h = made seat event false proper h.ends.does
  step_runs (Err (NoMemory Nothing)) seat event before after proper h = rested before after h.ends.rests
  step_runs (Err (NoMemory Ticked)) seat event before after proper h = made seat (tick_of event) false (tick_proper event proper) h.ends.does
  step_runs (Err (NoMemory (Unsaid refused))) seat event before after proper h = made seat event true proper h.ends.hides.does
  step_runs (Err StoreFault) seat event before after proper h = broken seat event mid.place.volume.faults proper h.ends.does h.ends.stops
  step_runs (Err (Stopped n)) seat event before after proper h = rested before after h.ends.rests
  step_runs (Err (Gone other)) seat event before after proper h = rested before after h.ends.rests
  step_runs (Err (Worn refused)) seat event before after proper h = made seat event true proper h.ends.withholds.hides.does

  -- a delivery is made, and the run goes on behind it
  sent : (seat : ℕ) (listening : List Bytes) (d : Delivery) (outs : List Out) → Makes now listening d outs old mid
      → RunFrom count old.place.state (Deliver seat now listening d outs ∷ more) last
  sent seat listening d outs makes = (
    mid.place.state,
    record { delivered = makes.delivered; moment = moment },
    behind (count + length (new_messages old.place.state mid.place.state)),
  )

  -- the volume failed in it
  broken_in : (seat : ℕ) (listening : List Bytes) (d : Delivery) (outs : List Out) (n : ℕ) → Makes now listening d outs old mid → mid.place.stopped ≡ Some n
      → RunFrom count old.place.state (Broken seat now (DeliverOf listening d) ∷ more) last
  broken_in seat listening d outs n makes is =
      let ended = stopped n is in
      subst (λ (entries : List PlaceEntry). RunFrom count old.place.state (Broken seat now (DeliverOf listening d) ∷ entries) last) (sym ended.0)
      (outs, subst (λ (s : State). IsDeliverStep old.place.state now listening d outs s) (sym ended.1) (record { delivered = makes.delivered; moment = moment }))

  pub delivery_runs : (result : Result (Option Delivery) PlaceFault) (seat : ℕ) (listening : List Bytes) (before after : List Out) → kept_incarnation old.place.state ≤ 2 ^ 62
      → (h : Delivers holds result now listening old mid before after)
      → RunFrom count old.place.state (made_by_delivery seat now listening old mid before after result h.ends ++ more) last
  delivery_runs (Ok (Some d)) seat listening before after bound h = sent seat listening d h.ends.sent h.ends.makes
  delivery_runs (Ok None) seat listening before after bound h = rested before after h.ends.rests
  delivery_runs (Err (NoMemory Nothing)) seat listening before after bound h = rested before after h.ends.rests
  delivery_runs (Err (NoMemory Ticked)) seat listening before after bound h =
      made seat (tick_at old.place.state) false (kept_proper old.place.state bound) h.ends.does
  delivery_runs (Err (NoMemory (Unsaid refused))) seat listening before after bound h = sent seat listening h.ends.delivery h.ends.sent h.ends.makes
  delivery_runs (Err StoreFault) seat listening before after bound h = broken_in seat listening h.ends.delivery h.ends.sent mid.place.volume.faults h.ends.makes h.ends.stops
  delivery_runs (Err (Stopped n)) seat listening before after bound h = rested before after h.ends.rests
  delivery_runs (Err (Gone other)) seat listening before after bound h = absurd h.ends
  delivery_runs (Err (Worn refused)) seat listening before after bound h = sent seat listening h.ends.hides.delivery h.ends.hides.sent h.ends.hides.makes

-- ---- a stopped place

-- a call on it makes nothing, and leaves it stopped
pub record StaysStopped (old new : Seen) (made : List PlaceEntry) : Type 0 where
  pub none : made ≡ []
  pub state : new.place.state ≡ old.place.state
  pub stopped : new.place.stopped ≡ old.place.stopped

going_not : {X : Type 0} (n : ℕ) (stopped : Option ℕ) → stopped ≡ Some n → stopped ≡ None → X
going_not n stopped is going = absurd (none_some (sym going ∙ is))

rests_stopped : (old new : Seen) (before after : List Out) → Rests old new before after → StaysStopped old new []
rests_stopped old new before after h = record { none = refl; state = h.state; stopped = h.stopped }

pub step_stopped : (holds : Image → State → Type 0) (old new : Seen) (n seat : ℕ) (event : Event) (now : ℕ) (result : Result Reply PlaceFault) (before after : List Out)
    → old.place.stopped ≡ Some n → Steps holds result event now old new before after → StaysStopped old new (made_by_step result seat event now old)
step_stopped holds old new n seat event now (Ok reply) before after is h = going_not n old.place.stopped is h.ends.does.going
step_stopped holds old new n seat event now (Err (NoMemory Nothing)) before after is h = rests_stopped old new before after h.ends.rests
step_stopped holds old new n seat event now (Err (NoMemory Ticked)) before after is h = going_not n old.place.stopped is h.ends.does.going
step_stopped holds old new n seat event now (Err (NoMemory (Unsaid refused))) before after is h = going_not n old.place.stopped is h.ends.hides.does.going
step_stopped holds old new n seat event now (Err StoreFault) before after is h = going_not n old.place.stopped is h.ends.does.going
step_stopped holds old new n seat event now (Err (Stopped m)) before after is h = rests_stopped old new before after h.ends.rests
step_stopped holds old new n seat event now (Err (Gone other)) before after is h = going_not n old.place.stopped is h.ends.going
step_stopped holds old new n seat event now (Err (Worn refused)) before after is h = going_not n old.place.stopped is h.ends.withholds.hides.does.going

pub delivery_stopped : (holds : Image → State → Type 0) (old new : Seen) (n seat now : ℕ) (listening : List Bytes) (result : Result (Option Delivery) PlaceFault) (before after : List Out)
    → old.place.stopped ≡ Some n → (h : Delivers holds result now listening old new before after)
    → StaysStopped old new (made_by_delivery seat now listening old new before after result h.ends)
delivery_stopped holds old new n seat now listening (Ok (Some d)) before after is h = going_not n old.place.stopped is h.ends.makes.going
delivery_stopped holds old new n seat now listening (Ok None) before after is h = going_not n old.place.stopped is h.ends.going
delivery_stopped holds old new n seat now listening (Err (NoMemory Nothing)) before after is h = rests_stopped old new before after h.ends.rests
delivery_stopped holds old new n seat now listening (Err (NoMemory Ticked)) before after is h = going_not n old.place.stopped is h.ends.does.going
delivery_stopped holds old new n seat now listening (Err (NoMemory (Unsaid refused))) before after is h = going_not n old.place.stopped is h.ends.makes.going
delivery_stopped holds old new n seat now listening (Err StoreFault) before after is h = going_not n old.place.stopped is h.ends.makes.going
delivery_stopped holds old new n seat now listening (Err (Stopped m)) before after is h = rests_stopped old new before after h.ends.rests
delivery_stopped holds old new n seat now listening (Err (Gone other)) before after is h = absurd h.ends
delivery_stopped holds old new n seat now listening (Err (Worn refused)) before after is h = going_not n old.place.stopped is h.ends.hides.makes.going

-- ---- a flush, and the preparing of an event: neither changes the state

pub flush_same : (old new : Seen) (result : Result (Unit {0}) PlaceFault) → EndsFlush result old new → new.place.state ≡ old.place.state
flush_same old new (Ok done) h = h.keeps.state
flush_same old new (Err (NoMemory Nothing)) h = h.rests.state
flush_same old new (Err (NoMemory Ticked)) h = absurd h
flush_same old new (Err (NoMemory (Unsaid refused))) h = absurd h
flush_same old new (Err StoreFault) h = h.keeps.state
flush_same old new (Err (Stopped m)) h = h.rests.state
flush_same old new (Err (Gone other)) h = absurd h
flush_same old new (Err (Worn refused)) h = h.unflushed.rests.state

pub flush_stopped : (old new : Seen) (n : ℕ) (result : Result (Unit {0}) PlaceFault) → old.place.stopped ≡ Some n → EndsFlush result old new → StaysStopped old new []
flush_stopped old new n (Ok done) is h = going_not n old.place.stopped is h.keeps.going
flush_stopped old new n (Err (NoMemory Nothing)) is h = going_not n old.place.stopped is h.going
flush_stopped old new n (Err (NoMemory Ticked)) is h = absurd h
flush_stopped old new n (Err (NoMemory (Unsaid refused))) is h = absurd h
flush_stopped old new n (Err StoreFault) is h = going_not n old.place.stopped is h.keeps.going
flush_stopped old new n (Err (Stopped m)) is h = rests_stopped old new [] [] h.rests
flush_stopped old new n (Err (Gone other)) is h = absurd h
flush_stopped old new n (Err (Worn refused)) is h = going_not n old.place.stopped is h.unflushed.going

pub prepare_same : (outgrows : State → What → Type 0) (what : What) (old new : Seen) (result : Result (Unit {0}) PlaceFault) → EndsPreparing outgrows result what old new → new.place.state ≡ old.place.state
prepare_same outgrows what old new (Ok done) h = h.keeps.state
prepare_same outgrows what old new (Err (NoMemory Nothing)) h = h.rests.state
prepare_same outgrows what old new (Err (NoMemory Ticked)) h = absurd h
prepare_same outgrows what old new (Err (NoMemory (Unsaid refused))) h = absurd h
prepare_same outgrows what old new (Err StoreFault) h = h.keeps.state
prepare_same outgrows what old new (Err (Stopped m)) h = h.rests.state
prepare_same outgrows what old new (Err (Gone other)) h = absurd h
prepare_same outgrows what old new (Err (Worn refused)) h = absurd h

pub prepare_stopped : (outgrows : State → What → Type 0) (what : What) (old new : Seen) (n : ℕ) (result : Result (Unit {0}) PlaceFault) → old.place.stopped ≡ Some n → EndsPreparing outgrows result what old new → StaysStopped old new []
prepare_stopped outgrows what old new n (Ok done) is h = going_not n old.place.stopped is h.keeps.going
prepare_stopped outgrows what old new n (Err (NoMemory Nothing)) is h = going_not n old.place.stopped is h.going
prepare_stopped outgrows what old new n (Err (NoMemory Ticked)) is h = absurd h
prepare_stopped outgrows what old new n (Err (NoMemory (Unsaid refused))) is h = absurd h
prepare_stopped outgrows what old new n (Err StoreFault) is h = going_not n old.place.stopped is h.keeps.going
prepare_stopped outgrows what old new n (Err (Stopped m)) is h = rests_stopped old new [] [] h.rests
prepare_stopped outgrows what old new n (Err (Gone other)) is h = absurd h
prepare_stopped outgrows what old new n (Err (Worn refused)) is h = absurd h
