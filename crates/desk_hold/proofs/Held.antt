-- A step at a place, and the sending of what it sends, are one hold.
use Rattle.std.proofs.Common.{◌≡◌, ◌≢◌, ◌-◌, ◌^◌, ℕ, Bool, true, false, List, [], ◌∷◌, Option, Some, None, Result, Ok, Err, refl, sym, ap, subst, ◌∙◌, append-nil, inl, inr, arith}
use Rattle.std.specs.Prelude.{◌⊎◌, ◌<◌, ◌≤◌, ◌+◌, ◌++◌, length, sum_by, if◌then◌else◌, MatchOption}
use Rattle.std.specs.List.{AllByRecursion}
use Rattle.std.specs.Option.{option_or}
use Rattle.js_base.specs.Bytes.{Bytes}
use Rattle.js_base.specs.Causes.{Rose}
use Rattle.js_base.specs.declared.out.Out.{Out}
use Rattle.js_model.specs.declared.stream.State.{State}
use Rattle.js_model.specs.declared.consumer.Consumer.{Consumer}
use Rattle.js_model.specs.declared.event.Event.{Event}
use Rattle.js_model.specs.declared.event.What.{What}
use Rattle.js_model.specs.declared.event.What.TheVariants.{Tick}
use Rattle.js_model.specs.declared.reply.Reply.{Reply}
use Rattle.js_model.specs.declared.reply.Reply.TheVariants.{Silent, Refused}
use Rattle.js_model.specs.declared.entry.PlaceEntry.{PlaceEntry}
use Rattle.js_model.specs.declared.entry.PlaceEntry.TheVariants.{Step, Deliver, Broken}
use Rattle.js_model.specs.declared.entry.Call.TheVariants.{Step as StepOf, Deliver as DeliverOf}
use Rattle.js_model.specs.declared.desk.PlaceAt.{PlaceAt}
use Rattle.js_model.specs.Events.{kept_incarnation}
use Rattle.js_model.specs.PlaceStates.{PlaceIn, VolumeAt}
use Rattle.js_model.specs.Refusals.{no_room}
use Rattle.js_model.specs.Runs.{is_few, new_messages}
use Rattle.js_model.specs.Ready.{some_ready}
use Rattle.js_model.specs.Router.{RouteCall, RouteTold}
use Rattle.model_laws.specs.Legal.{seat_of}
use Rattle.js_api.specs.declared.fault.DeskFault.{DeskFault}
use Rattle.js_api.specs.declared.fault.DeskFault.TheVariants as faults
use Rattle.js_api.specs.declared.outcome.Became.{Became}
use Rattle.js_api.specs.declared.outcome.Became.TheVariants.{Made, Unsaid, Ticked, Nothing, Broke, Stopped, Gone}
use Rattle.js_api.specs.declared.outcome.Outcome.{Outcome}
use Rattle.js_api.specs.Entries.{Reading, Sending, Sent, Short, Unsent, Hold, entries_in, Held, Stirred, Halted, Missed}
use Rattle.js_api.specs.Holding.{AreAsked, AreDeliveries, AreFirstReadings, AreReadings, Explains, HoldsBy, MayEnd, bytes_of, delivery_broke, event_at, is_ready_at, listening_of, most_bytes, most_deliveries, push_consumers, step}
use Rattle.js_api.specs.Outputs.{answer_of, name_behind, outs_of, said, stream_name}
use Rattle.js_api.specs.Rooms.{IsOutgrown}
use Rattle.js_api.specs.Worlds.{IsHeld, IsLater, IsStirred, Stops, is_broken}
use Rattle.js_model.specs.Firm.{IsFirm}
use Rattle.place_engine.specs.Stepping.{Image, IsKept, Seen}
use Rattle.place_engine.specs.declared.faults.PlaceFault.{PlaceFault}
use Rattle.place_engine.specs.declared.faults.PlaceFault.TheVariants as places
use Rattle.place_engine.specs.declared.faults.Left.TheVariants as left
use Rattle.desk_hold.specs.declared.stepping.MadeStep.{MadeStep}
use Rattle.desk_hold.specs.declared.following.Following.{Following}
use Rattle.desk_hold.specs.declared.following.Following.TheVariants.{Heard, Unheard}
use Rattle.desk_hold.specs.Crashes.{CommitsStep, IsEarlyIn, IsEntry, MayCommit, Never, Outlasts, made_by}
use Rattle.desk_hold.specs.Deliveries.{Led}
use Rattle.desk_hold.specs.Following.{AskedSo, Follows, IsFault, LeftSo}
use Rattle.desk_hold.specs.OnePlace.{HoldsOn, IsBy, IsHeldOn, on}
use Rattle.desk_hold.specs.Outcomes.{SendsFollowed, SendsMade, SendsThem, absent_by, failed_by, fault_of, quietly, shortly}
use Rattle.desk_hold.specs.Ports.{Sends}
use Rattle.desk_hold.specs.Steps.{BreaksStep, EndsStep, FindsOther, IsMade, IsUndoneStep, StopsUnmade, WithholdsStep}
use Rattle.desk_hold.proofs.Beginnings.{one_entry, outlasts_call, outlasts_if, outlasts_more}
use Rattle.desk_hold.proofs.Chain.{led_later, led_stops, none_firm, runs_from, sent_is, stops_since}
use Rattle.desk_hold.proofs.Committed.{outlasts_step}
use Rattle.desk_hold.proofs.Room.{hold_room, no_last}
use Rattle.desk_hold.proofs.Stepped.{same_place}

-- ---- the entry of a step

-- a hold whose step led from the one place to the next, and whose deliveries led on from there
abbrev hold_of : ℕ → PlaceAt → What → ℕ → Reply → List Out → Bool → List Reading → List PlaceEntry → Bool → Sending → PlaceIn → PlaceIn → PlaceIn → Hold
hold_of seat at what now reply outs unsaid readings entries outgrown sending old mid new = record {
  at = at;
  before = old.state;
  stored = old.stored;
  steps = step seat at what now reply outs unsaid;
  between = mid.state;
  readings = readings;
  deliveries = entries;
  after = new.state;
  outgrows = outgrown;
  sending = sending;
  volume_before = old.volume;
  volume_between = mid.volume;
  volume_after = new.volume;
}

-- one without deliveries
abbrev hold_alone : ℕ → PlaceAt → What → ℕ → Reply → List Out → Bool → Bool → Sending → PlaceIn → PlaceIn → Hold
hold_alone seat at what now reply outs unsaid outgrown sending old new = hold_of seat at what now reply outs unsaid [] [] outgrown sending old new new

-- what a reply that tells of no room is caused by
abbrev IsCaused : Reply → Bool → PlaceIn → PlaceIn → Type 0
IsCaused reply outgrown old new = reply ≡ Refused no_room → Rose old.volume.refusals new.volume.refusals ⊎ ((is_few old.stored ≡ false) ⊎ (outgrown ≡ true))

one_short : {A B : Type 0} → (A → B) → A ⊎ ⊥ → B
one_short f (inl a) = f a
one_short f (inr none) = absurd none

-- silence tells of none
silent_caused : (old new : PlaceIn) → IsCaused Silent false old new
silent_caused old new refused = let no : ⊥ = cc in absurd no

none_outgrown : {A : Type 0} → false ≡ true → A
none_outgrown e = let no : ⊥ = cc in absurd no

same_volume : (p : PlaceIn) → IsLater p.volume p.volume
same_volume p = record { faults = omega arith; refusals = omega arith; moments = omega arith; generations = omega arith }

held_steps : (seat : ℕ) (at : PlaceAt) (what : What) (now : ℕ) (reply : Reply) (outs sent : List Out) (unsaid : Bool) (readings : List Reading) (entries : List PlaceEntry) (outgrown : Bool) (sending : Sending) (old mid new : PlaceIn)
    → IsMade (event_at at what) now reply outs old mid → IsCaused reply outgrown old mid → Led mid entries sent new → Stops (is_broken entries) mid.volume new.volume new.stopped
    → IsHeld (hold_of seat at what now reply outs unsaid readings entries outgrown sending old mid new) old new
held_steps seat at what now reply outs sent unsaid readings entries outgrown sending old mid new made cause led stops =
    let total : ℕ = old.stored + length (new_messages old.state mid.state) in
    let runs = runs_from entries mid sent new total made.stored led in
    record {
      going = made.going;
      was = refl;
      counted = refl;
      steps = (mid.state, made.step, refl);
      short = one_short cause;
      deliveries = runs.run;
      ends = λ broken. let no : ⊥ = cc in absurd no;
      is_state = refl;
      stored = runs.stored;
      stops = stops_since (is_broken entries) old.volume mid.volume new.volume new.stopped made.later stops;
      volume_was = refl;
      volume_is = refl;
      before_between = made.later;
      between_after = led_later entries mid sent new led;
    }

-- nothing was delivered
pauses : (p : PlaceIn) → p.stopped ≡ None → Led p [] [] p
pauses p goes = (record { going = goes; state = refl; stored = refl; stopped = goes; later = same_volume p }, refl)

held_step : (seat : ℕ) (at : PlaceAt) (what : What) (now : ℕ) (reply : Reply) (outs : List Out) (unsaid outgrown : Bool) (sending : Sending) (old new : PlaceIn) → IsMade (event_at at what) now reply outs old new
    → IsCaused reply outgrown old new → new.stopped ≡ None → IsHeld (hold_alone seat at what now reply outs unsaid outgrown sending old new) old new
held_step seat at what now reply outs unsaid outgrown sending old new made cause goes =
    held_steps seat at what now reply outs [] unsaid [] [] outgrown sending old new new made cause (pauses new goes) goes

-- ---- what it sends

-- what the step and then the deliveries send is what the hold sends
all_sent : (seat : ℕ) (at : PlaceAt) (what : What) (now : ℕ) (reply : Reply) (outs sent : List Out) (unsaid : Bool) (readings : List Reading) (entries : List PlaceEntry) (outgrown : Bool) (sending : Sending) (old mid new : PlaceIn)
    → Led mid entries sent new → (outs ++ said unsaid (answer_of (stream_name old.state) what reply)) ++ sent
    ≡ outs_of old.state (entries_in (hold_of seat at what now reply outs unsaid readings entries outgrown sending old mid new))
all_sent seat at what now reply outs sent unsaid readings [] outgrown sending old mid new led =
    let own : List Out = outs ++ said unsaid (answer_of (stream_name old.state) what reply) in ap (λ (os : List Out). own ++ os) led.1 ∙ append-nil own
all_sent seat at what now reply outs sent unsaid readings (entry ∷ more) outgrown sending old mid new led =
    let own : List Out = outs ++ said unsaid (answer_of (stream_name old.state) what reply) in
    ap (λ (os : List Out). own ++ os) (sent_is (entry ∷ more) (name_behind (stream_name old.state) (Step seat (event_at at what) now reply outs unsaid)) mid sent new led)

-- ---- its end

none_read : (cs : List Consumer) → AreFirstReadings cs []
none_read [] = tt
none_read (c ∷ cs) = tt

-- the first fault that there is
asked_or : (first next : Option DeskFault) (readings : List Reading) (entries : List PlaceEntry) (hold : Hold) → hold.readings ≡ readings → hold.deliveries ≡ entries
    → AskedSo first hold.between readings entries → AreAsked (option_or first next) hold
asked_or None None readings entries hold r e h = subst (λ (rs : List Reading). AreReadings (push_consumers hold.between) rs) (sym r) h
asked_or None (Some fault) readings entries hold r e h = inl (subst (λ (rs : List Reading). AreReadings (push_consumers hold.between) rs) (sym r) h)
asked_or (Some fault) next readings entries hold r e (inl h) = inl (subst (λ (rs : List Reading). AreReadings (push_consumers hold.between) rs) (sym r) h)
asked_or (Some fault) next readings entries hold r e (inr h) = inr (subst (λ (rs : List Reading). AreFirstReadings (push_consumers hold.between) rs) (sym r) h.0, e ∙ h.1)

-- deliveries without a fault are such with any
deliveries_with : (seat : ℕ) (at : PlaceAt) (now : ℕ) (listening : List Bytes) (fault : Option DeskFault) (entries : List PlaceEntry) → AreDeliveries seat at now listening None entries
    → AreDeliveries seat at now listening fault entries
deliveries_with seat at now listening fault [] h = tt
deliveries_with seat at now listening fault (Deliver by moment heard d outs ∷ more) h = (h.0, h.1, h.2, deliveries_with seat at now listening fault more h.3)
deliveries_with seat at now listening fault (Step by event moment reply outs unsaid ∷ more) h = let no : ⊥ = cc in absurd no
deliveries_with seat at now listening fault (Broken by moment (DeliverOf heard d) ∷ more) h = h
deliveries_with seat at now listening fault (Broken by moment (StepOf event) ∷ more) h = absurd h

-- they are all by this seat
deliveries_by : (seat : ℕ) (at : PlaceAt) (now : ℕ) (listening : List Bytes) (fault : Option DeskFault) (entries : List PlaceEntry) → AreDeliveries seat at now listening fault entries
    → AllByRecursion (λ (e : PlaceEntry). seat_of e ≡ seat) entries
deliveries_by seat at now listening fault [] h = tt
deliveries_by seat at now listening fault (Deliver by moment heard d outs ∷ more) h = (h.0, deliveries_by seat at now listening fault more h.3)
deliveries_by seat at now listening fault (Step by event moment reply outs unsaid ∷ more) h =
    (h.0, subst (λ (es : List PlaceEntry). AllByRecursion (λ (e : PlaceEntry). seat_of e ≡ seat) es) (sym h.4) tt)
deliveries_by seat at now listening fault (Broken by moment (DeliverOf heard d) ∷ more) h =
    (h.0, subst (λ (es : List PlaceEntry). AllByRecursion (λ (e : PlaceEntry). seat_of e ≡ seat) es) (sym h.3) tt)
deliveries_by seat at now listening fault (Broken by moment (StepOf event) ∷ more) h = absurd h

deliveries_or : (seat : ℕ) (at : PlaceAt) (now : ℕ) (listening : List Bytes) (first next : Option DeskFault) (entries : List PlaceEntry) → AreDeliveries seat at now listening first entries
    → AreDeliveries seat at now listening (option_or first next) entries
deliveries_or seat at now listening None next entries h = deliveries_with seat at now listening next entries h
deliveries_or seat at now listening (Some fault) next entries h = h

explains_sent : (sending : Sending) (unsaid : Bool) (hold : Hold) → hold.sending ≡ sending → Explains (fault_of sending unsaid) unsaid hold
explains_sent Sent false hold e = (refl, e)
explains_sent Sent true hold e = tt
explains_sent Short unsaid hold e = tt
explains_sent (Unsent number) unsaid hold e = inl e

explains_fault : (fault : DeskFault) (unsaid : Bool) (hold : Hold) → IsFault fault hold.deliveries hold.volume_after → Explains (Some fault) unsaid hold
explains_fault faults.NoMemory unsaid hold h = tt
explains_fault faults.TooManySubs unsaid hold h = absurd h
explains_fault (faults.Worn number) unsaid hold h = inr (h.0, inr h.1)
explains_fault (faults.NoSession latest) unsaid hold h = absurd h

explains_or : (fault : Option DeskFault) (sending : Sending) (unsaid ready : Bool) (now : ℕ) (hold : Hold) (new : PlaceIn) (outs : List Out) → hold.sending ≡ sending → hold.volume_after ≡ new.volume
    → LeftSo fault ready now hold.readings hold.deliveries new outs → Explains (option_or fault (fault_of sending unsaid)) unsaid hold
explains_or None sending unsaid ready now hold new outs e v h = explains_sent sending unsaid hold e
explains_or (Some fault) sending unsaid ready now hold new outs e v h = explains_fault fault unsaid hold (subst (λ (at : VolumeAt). IsFault fault hold.deliveries at) (sym v) h)

ready_or : (fault next : Option DeskFault) (ready : Bool) (now : ℕ) (hold : Hold) (new : PlaceIn) (outs : List Out) → hold.after ≡ new.state
    → LeftSo fault ready now hold.readings hold.deliveries new outs → MatchOption (option_or fault next) (ready ≡ is_ready_at now hold) (λ f. Unit {0})
ready_or None None ready now hold new outs is h =
    subst (λ (s : State). ready ≡ (if delivery_broke hold.deliveries then false else some_ready s now (listening_of hold.readings))) (sym is) h.ready_is
ready_or None (Some f) ready now hold new outs is h = tt
ready_or (Some f) next ready now hold new outs is h = tt

ends_or : (fault next : Option DeskFault) (ready : Bool) (now : ℕ) (hold : Hold) (new : PlaceIn) (outs : List Out) → outs ≡ outs_of hold.before (entries_in hold)
    → LeftSo fault ready now hold.readings hold.deliveries new outs → MayEnd (option_or fault next) ready hold
ends_or None None ready now hold new outs is h = λ yes. subst (λ (os : List Out). (most_deliveries ≤ length hold.deliveries) ⊎ (most_bytes ≤ sum_by bytes_of os)) is (h.full yes)
ends_or None (Some f) ready now hold new outs is h = tt
ends_or (Some f) next ready now hold new outs is h = tt

-- ---- what a hold came to

module _ {R : Type 0} (routes : R → RouteCall → RouteTold → R → Type 0) (worn : R → ℕ → R → Type 0) (holds : Image → State → Type 0) (outgrows : State → What → Type 0) (at : PlaceAt) (seat : ℕ) (what : What) (now : ℕ) where
  pub as_told : (outcome told : Outcome) (old new : Seen) (r s : R) → outcome ≡ told → HoldsOn routes worn at holds outgrows seat what now told old new r s
      → HoldsOn routes worn at holds outgrows seat what now outcome old new r s
  as_told outcome told old new r s e h = subst (λ (o : Outcome). HoldsOn routes worn at holds outgrows seat what now o old new r s) (sym e) h

  -- what ended an event, which is this one, with outputs that were none before
  pub ends_at : (result : Result MadeStep PlaceFault) (event : Event) (old new : PlaceIn) (before outs : List Out) → event ≡ event_at at what → before ≡ []
      → EndsStep outgrows result event now old new before outs → EndsStep outgrows result (event_at at what) now old new [] outs
  ends_at result event old new before outs same none h =
      subst (λ (os : List Out). EndsStep outgrows result (event_at at what) now old new os outs) none
      (subst (λ (e : Event). EndsStep outgrows result e now old new before outs) same h)

  -- what a crash leaves of a step and of deliveries behind it
  outlasts_hold : (old mid new : Seen) (reply : Reply) (outs sent : List Out) (unsaid : Bool) (readings : List Reading) (entries : List PlaceEntry) (outgrown : Bool) (sending : Sending)
      → Outlasts holds (λ t. t < mid.place.volume.moment) (step seat at what now reply outs unsaid) old mid → Outlasts holds Never entries mid new → Led mid.place entries sent new.place
      → let hold : Hold = hold_of seat at what now reply outs unsaid readings entries outgrown sending old.place mid.place new.place in Outlasts holds (IsEarlyIn (Held hold ∷ [])) (made_by (Held hold ∷ [])) old new
  outlasts_hold old mid new reply outs sent unsaid readings entries outgrown sending h k led =
      let hold : Hold = hold_of seat at what now reply outs unsaid readings entries outgrown sending old.place mid.place new.place in
      let steps : List PlaceEntry = step seat at what now reply outs unsaid in
      subst (λ (es : List PlaceEntry). Outlasts holds (IsEarlyIn (Held hold ∷ [])) es old new) (sym (append-nil (entries_in hold)))
      (outlasts_more holds (IsEarlyIn (Held hold ∷ [])) steps entries old mid new
      (outlasts_if holds (λ t. t < mid.place.volume.moment) (IsEarlyIn (Held hold ∷ [])) steps old mid (λ t early. inl early) h)
      (outlasts_if holds Never (IsEarlyIn (Held hold ∷ [])) entries mid new (λ t no. absurd no) k)
      (none_firm entries mid.place sent new.place led))

  -- and of one step that is not confirmed
  outlasts_alone : (hold : Hold) (old new : Seen) (e : PlaceEntry) → hold.steps ≡ e ∷ [] → hold.deliveries ≡ [] → IsKept holds old → IsKept holds new → MayCommit holds old new
      → IsEntry old.place.state e new.place.state → (IsFirm old.place.state e new.place.state → ⊥) → Outlasts holds (IsEarlyIn (Held hold ∷ [])) (made_by (Held hold ∷ [])) old new
  outlasts_alone hold old new e steps deliveries kept keeps commits made firm =
      let are : made_by (Held hold ∷ []) ≡ e ∷ [] =
      append-nil (entries_in hold) ∙ ap (λ (es : List PlaceEntry). hold.steps ++ es) deliveries ∙ append-nil hold.steps ∙ steps in
      subst (λ (es : List PlaceEntry). Outlasts holds (IsEarlyIn (Held hold ∷ [])) es old new) (sym are)
      (outlasts_if holds Never (IsEarlyIn (Held hold ∷ [])) (e ∷ []) old new (λ t no. absurd no)
      (outlasts_call holds old new kept keeps commits (e ∷ []) (one_entry ⊥ e old.place.state new.place.state made firm)))

  -- one hold is all that there is
  held_as : (outcome : Outcome) (hold : Hold) (old new : Seen) (r s : R) → IsBy seat (Held hold) → IsOutgrown outgrows (Held hold) → HoldsBy outcome.became at what now outcome.ready outcome.fault (Held hold ∷ [])
      → IsHeldOn routes worn at hold (on old.place r) (on new.place s) → Outlasts holds (IsEarlyIn (Held hold ∷ [])) (made_by (Held hold ∷ [])) old new
      → HoldsOn routes worn at holds outgrows seat what now outcome old new r s
  held_as outcome hold old new r s made_by_seat told came is lasts = record {
    entries = Held hold ∷ [];
    holds = record { first = []; more = Held hold ∷ []; entries_are = refl; prepares = inl refl; holds = came };
    led = (on new.place s, is, refl);
    by = (made_by_seat, tt);
    outgrown = (told, tt);
    outlasts = lasts;
  }

  -- the entry of a step that was made
  made_step : (old new : Seen) (reply : Reply) (outs : List Out) (unsaid : Bool) → IsMade (event_at at what) now reply outs old.place new.place
      → IsEntry old.place.state (Step seat (event_at at what) now reply outs unsaid) new.place.state
  made_step old new reply outs unsaid made = (old.place.stored, (new.place.state, made.step, refl))

  -- a step that was made and told is on the volume, if it is confirmed
  outlasts_told : (made : MadeStep) (old new : Seen) (outs : List Out) → IsKept holds old → IsKept holds new → CommitsStep holds (Ok made) (event_at at what) old new
      → (h : EndsStep outgrows (Ok made) (event_at at what) now old.place new.place [] outs) → Outlasts holds (λ t. t < new.place.volume.moment) (step seat at what now made.reply h.outs made.unsaid) old new
  outlasts_told made old new outs kept keeps c h = outlasts_step holds old new kept keeps what made.reply c.commits c.firm
      (Step seat (event_at at what) now made.reply h.outs made.unsaid) (made_step old new made.reply h.outs made.unsaid h.made) (λ firm. firm.1)

  -- who listens was read, consumers were served, and all was sent
  made_heard : (made : MadeStep) (old mid new : Seen) (outs all : List Out) (r t s : R) (ready : Bool) (fault : Option DeskFault) (sending : Sending)
      → IsKept holds old → IsKept holds mid → CommitsStep holds (Ok made) (event_at at what) old mid
      → EndsStep outgrows (Ok made) (event_at at what) now old.place mid.place [] outs → Follows routes worn seat at now holds (Heard ready fault) mid new r t outs all → Sends routes worn t all sending s
      → HoldsOn routes worn at holds outgrows seat what now (record { became = Made made.reply; ready = ready; fault = option_or fault (fault_of sending made.unsaid) }) old new r s
  made_heard made old mid new outs all r t s ready fault sending kept keeps c h f sends =
      let next : Option DeskFault = fault_of sending made.unsaid in
      let stops = led_stops f.entries mid.place f.sent new.place f.led in
      let hold : Hold = hold_of seat at what now made.reply h.outs made.unsaid f.readings f.entries h.outgrown sending old.place mid.place new.place in
      let whole : all ≡ outs_of hold.before (entries_in hold) =
      f.added ∙ ap (λ (os : List Out). os ++ f.sent) h.added ∙ all_sent seat at what now made.reply h.outs f.sent made.unsaid f.readings f.entries h.outgrown sending old.place mid.place new.place f.led in
      held_as (record { became = Made made.reply; ready = ready; fault = option_or fault next }) hold old new r s (refl, deliveries_by seat at now (listening_of f.readings) fault f.entries f.followed.are) (λ yes. inl (h.short.log yes)) (
        hold,
        refl,
        record {
          seat = seat;
          outs = h.outs;
          unsaid = made.unsaid;
          at_is = refl;
          before = [];
          made_first = refl;
          steps = refl;
          asked = asked_or fault next f.readings f.entries hold refl refl f.followed.asked;
          deliveries = deliveries_or seat at now (listening_of f.readings) fault next f.entries f.followed.are;
          few = f.followed.few;
          room = hold_room old.place.state (Step seat (event_at at what) now made.reply h.outs made.unsaid) outs f.entries h.added f.room;
          ready_is = ready_or fault next ready now hold new.place all refl f.followed.left;
          explained = explains_or fault sending made.unsaid ready now hold new.place all refl refl f.followed.left;
          ends = ends_or fault next ready now hold new.place all whole f.followed.left;
        },
      )
      (record {
        at_is = refl;
        held = held_steps seat at what now made.reply h.outs f.sent made.unsaid f.readings f.entries h.outgrown sending old.place mid.place new.place h.made h.short.cause f.led stops;
        told = t;
        heard = f.followed.heard;
        sent = subst (λ (os : List Out). Sends routes worn t os sending s) whole sends;
      })
      (outlasts_hold old mid new made.reply h.outs f.sent made.unsaid f.readings f.entries h.outgrown sending (outlasts_told made old mid outs kept keeps c h) f.outlasts f.led)

  -- no turn of the router was left before who listens was told
  made_unheard : (made : MadeStep) (old mid new : Seen) (outs all : List Out) (r t : R) (number : ℕ)
      → IsKept holds old → IsKept holds mid → CommitsStep holds (Ok made) (event_at at what) old mid
      → EndsStep outgrows (Ok made) (event_at at what) now old.place mid.place [] outs → Follows routes worn seat at now holds (Unheard number) mid new r t outs all
      → HoldsOn routes worn at holds outgrows seat what now (record { became = Made made.reply; ready = false; fault = Some (faults.Worn number) }) old new r t
  made_unheard made old mid new outs all r t number kept keeps c h f =
      let stops = led_stops f.entries mid.place f.sent new.place f.led in
      let hold : Hold = hold_of seat at what now made.reply h.outs made.unsaid f.readings f.entries h.outgrown (Unsent number) old.place mid.place new.place in
      held_as (record { became = Made made.reply; ready = false; fault = Some (faults.Worn number) }) hold old new r t (refl, subst (λ (es : List PlaceEntry). AllByRecursion (λ (e : PlaceEntry). seat_of e ≡ seat) es) (sym f.followed.none) tt) (λ yes. inl (h.short.log yes)) (
        hold,
        refl,
        record {
          seat = seat;
          outs = h.outs;
          unsaid = made.unsaid;
          at_is = refl;
          before = [];
          made_first = refl;
          steps = refl;
          asked = inr (f.followed.first, f.followed.none);
          deliveries = subst (λ (es : List PlaceEntry). AreDeliveries seat at now (listening_of f.readings) (Some (faults.Worn number)) es) (sym f.followed.none) tt;
          few = subst (λ (es : List PlaceEntry). length es ≤ most_deliveries) (sym f.followed.none) (omega arith);
          room = hold_room old.place.state (Step seat (event_at at what) now made.reply h.outs made.unsaid) outs f.entries h.added f.room;
          ready_is = tt;
          explained = inl refl;
          ends = tt;
        },
      )
      (record {
        at_is = refl;
        held = held_steps seat at what now made.reply h.outs f.sent made.unsaid f.readings f.entries h.outgrown (Unsent number) old.place mid.place new.place h.made h.short.cause f.led stops;
        told = f.followed.mid;
        heard = f.followed.heard;
        sent = inr (record {
          first = [];
          more = outs_of hold.before (entries_in hold);
          outs_are = refl;
          taken = [];
          mid = f.followed.mid;
          sent = refl;
          number = number;
          is_worn = f.followed.is_worn;
          sending_is = refl;
        });
      })
      (outlasts_hold old mid new made.reply h.outs f.sent made.unsaid f.readings f.entries h.outgrown (Unsent number) (outlasts_told made old mid outs kept keeps c h) f.outlasts f.led)

  same_outcome : (outcome : Outcome) (became : Became) (ready : Bool) (fault : Option DeskFault) → outcome.became ≡ became → outcome.ready ≡ ready → outcome.fault ≡ fault
      → outcome ≡ record { became = became; ready = ready; fault = fault }
  same_outcome outcome became ready fault b r f =
      ap (λ (x : Became). record { became = x; ready = outcome.ready; fault = outcome.fault }) b
      ∙ ap (λ (x : Bool). record { became = became; ready = x; fault = outcome.fault }) r
      ∙ ap (λ (x : Option DeskFault). record { became = became; ready = ready; fault = x }) f

  pub held_made : (following : Following) (outcome : Outcome) (made : MadeStep) (old mid new : Seen) (outs all : List Out) (r t s : R)
      → IsKept holds old → IsKept holds mid → CommitsStep holds (Ok made) (event_at at what) old mid
      → EndsStep outgrows (Ok made) (event_at at what) now old.place mid.place [] outs → outcome.became ≡ Made made.reply → Follows routes worn seat at now holds following mid new r t outs all
      → SendsFollowed routes worn following made.unsaid outcome all t s → HoldsOn routes worn at holds outgrows seat what now outcome old new r s
  held_made (Heard ready fault) outcome made old mid new outs all r t s kept keeps c h became f (sending, sends, ready_is, fault_is) =
      as_told outcome (record { became = Made made.reply; ready = ready; fault = option_or fault (fault_of sending made.unsaid) }) old new r s
      (same_outcome outcome (Made made.reply) ready (option_or fault (fault_of sending made.unsaid)) became ready_is fault_is)
      (made_heard made old mid new outs all r t s ready fault sending kept keeps c h f sends)
  held_made (Unheard number) outcome made old mid new outs all r t s kept keeps c h became f (ready_is, fault_is, same) =
      as_told outcome (record { became = Made made.reply; ready = false; fault = Some (faults.Worn number) }) old new r s
      (same_outcome outcome (Made made.reply) false (Some (faults.Worn number)) became ready_is fault_is)
      (subst (λ (x : R). HoldsOn routes worn at holds outgrows seat what now (record { became = Made made.reply; ready = false; fault = Some (faults.Worn number) }) old new r x) (sym same)
      (made_unheard made old mid new outs all r t number kept keeps c h f))

  -- ---- nothing was made

  module _ (old new : Seen) (r s : R) (same : new.place ≡ old.place) (port : s ≡ r) (lasts : Outlasts holds Never [] old new) where
    all_same : on new.place s ≡ on old.place r
    all_same = ap (λ (p : PlaceIn). on p s) same ∙ ap (λ (x : R). on old.place x) port

    -- memory ran out before anything
    pub held_nothing : HoldsOn routes worn at holds outgrows seat what now (shortly Nothing) old new r s
    held_nothing = record {
      entries = [];
      holds = record { first = []; more = []; entries_are = refl; prepares = inl refl; holds = (refl, refl) };
      led = sym all_same;
      by = tt;
      outgrown = tt;
      outlasts = lasts;
    }

    -- the place is stopped
    pub held_stopped : (stream : Bytes) (count : ℕ) → stream ≡ stream_name old.place.state → old.place.stopped ≡ Some count
        → HoldsOn routes worn at holds outgrows seat what now (quietly (Stopped stream)) old new r s
    held_stopped stream count name stopped = record {
      entries = Halted at old.place.state ∷ [];
      holds = record {
        first = [];
        more = Halted at old.place.state ∷ [];
        entries_are = refl;
        prepares = inl refl;
        holds = (old.place.state, refl, name, (refl, refl));
      };
      led = (on new.place s, record { at_is = refl; count = count; stopped = stopped; state_is = refl; same = all_same }, refl);
      by = (tt, tt);
      outgrown = (tt, tt);
      outlasts = lasts;
    }

    -- it keeps another incarnation
    pub held_gone : old.place.stopped ≡ None → kept_incarnation old.place.state ≢ at.incarnation → HoldsOn routes worn at holds outgrows seat what now (quietly Gone) old new r s
    held_gone going other = record {
      entries = Missed at (kept_incarnation old.place.state) ∷ [];
      holds = record {
        first = [];
        more = Missed at (kept_incarnation old.place.state) ∷ [];
        entries_are = refl;
        prepares = inl refl;
        holds = (kept_incarnation old.place.state, refl, (refl, refl));
      };
      led = (on new.place s, record { at_is = refl; going = going; kept_is = refl; other = other; same = all_same }, refl);
      by = (tt, tt);
      outgrown = (tt, tt);
      outlasts = lasts;
    }

    -- no place keeps this incarnation
    pub held_absent : (stream : Bytes) → stream ≡ stream_name old.place.state → kept_incarnation old.place.state ≢ at.incarnation
        → HoldsOn routes worn at holds outgrows seat what now (absent_by old.place.stopped stream) old new r s
    held_absent stream name other = by old.place.stopped refl
      where
        by : (stopped : Option ℕ) → old.place.stopped ≡ stopped → HoldsOn routes worn at holds outgrows seat what now (absent_by stopped stream) old new r s
        by None is = held_gone is other
        by (Some count) is = held_stopped stream count name is

  -- nothing was made there, and the volume was called unless the place is stopped
  undone : (old new : Seen) (r s : R) → IsUndoneStep old.place new.place → Outlasts holds Never [] old new → s ≡ r → HoldsOn routes worn at holds outgrows seat what now (shortly Nothing) old new r s
  undone old new r s h lasts same = by old.place.stopped refl
    where
      by : (stopped : Option ℕ) → old.place.stopped ≡ stopped → HoldsOn routes worn at holds outgrows seat what now (shortly Nothing) old new r s
      by None is = record {
        entries = Stirred at old.place.volume new.place.volume false ∷ [];
        holds = record {
          first = Stirred at old.place.volume new.place.volume false ∷ [];
          more = [];
          entries_are = refl;
          prepares = inr (old.place.volume, new.place.volume, false, refl);
          holds = (refl, refl);
        };
        led = (
          on new.place s,
          record {
            at_is = refl;
            stirred = record { going = is; state = h.state; stored = h.stored; stops = h.stopped ∙ is; volume_was = refl; volume_is = refl; later = h.later };
            port = same;
          },
          refl,
        );
        by = (tt, tt);
        outgrown = (tt, tt);
        outlasts = lasts;
      }
      by (Some count) is = held_nothing old new r s (same_place old.place new.place h.state h.stored h.stopped (h.volume count is)) same lasts

  -- the volume failed as room was made, and the place is stopped
  module _ (old new : Seen) (r s : R) (h : StopsUnmade old.place new.place) (lasts : Outlasts holds Never [] old new) where
    stirred_failed : IsStirred old.place.volume new.place.volume true old.place new.place
    stirred_failed = record { going = h.going; state = h.state; stored = h.stored; stops = h.stops; volume_was = refl; volume_is = refl; later = h.later }

    -- memory ran out behind that
    stopped_short : s ≡ r → HoldsOn routes worn at holds outgrows seat what now (shortly Nothing) old new r s
    stopped_short same = record {
      entries = Stirred at old.place.volume new.place.volume true ∷ [];
      holds = record {
        first = Stirred at old.place.volume new.place.volume true ∷ [];
        more = [];
        entries_are = refl;
        prepares = inr (old.place.volume, new.place.volume, true, refl);
        holds = (refl, refl);
      };
      led = (on new.place s, record { at_is = refl; stirred = stirred_failed; port = same }, refl);
      by = (tt, tt);
      outgrown = (tt, tt);
      outlasts = lasts;
    }

    -- it was found so behind that
    stopped_unmade : (stream : Bytes) → stream ≡ stream_name old.place.state → s ≡ r → HoldsOn routes worn at holds outgrows seat what now (quietly (Stopped stream)) old new r s
    stopped_unmade stream name same = record {
      entries = Stirred at old.place.volume new.place.volume true ∷ Halted at new.place.state ∷ [];
      holds = record {
        first = Stirred at old.place.volume new.place.volume true ∷ [];
        more = Halted at new.place.state ∷ [];
        entries_are = refl;
        prepares = inr (old.place.volume, new.place.volume, true, refl);
        holds = (new.place.state, refl, name ∙ ap stream_name (sym h.state), (refl, refl));
      };
      led = (
        on new.place s,
        record { at_is = refl; stirred = stirred_failed; port = same },
        (on new.place s, record { at_is = refl; count = new.place.volume.faults; stopped = h.stops.0; state_is = refl; same = refl }, refl),
      );
      by = (tt, (tt, tt));
      outgrown = (tt, (tt, tt));
      outlasts = lasts;
    }

  -- it keeps another incarnation, and its volume may have been called
  gone : (old new : Seen) (r s : R) → FindsOther (event_at at what) old.place new.place → Outlasts holds Never [] old new → s ≡ r
      → HoldsOn routes worn at holds outgrows seat what now (quietly Gone) old new r s
  gone old new r s h lasts same =
      let kept : ℕ = kept_incarnation new.place.state in
      let goes : new.place.stopped ≡ None = h.undone.stopped ∙ h.going in
      record {
        entries = Stirred at old.place.volume new.place.volume false ∷ Missed at kept ∷ [];
        holds = record {
          first = Stirred at old.place.volume new.place.volume false ∷ [];
          more = Missed at kept ∷ [];
          entries_are = refl;
          prepares = inr (old.place.volume, new.place.volume, false, refl);
          holds = (kept, refl, (refl, refl));
        };
        led = (
          on new.place s,
          record {
            at_is = refl;
            stirred = record { going = h.going; state = h.undone.state; stored = h.undone.stored; stops = goes; volume_was = refl; volume_is = refl; later = h.undone.later };
            port = same;
          },
          (on new.place s, record { at_is = refl; going = goes; kept_is = refl; other = λ is. h.other (ap kept_incarnation (sym h.undone.state) ∙ is); same = refl }, refl),
        );
        by = (tt, (tt, tt));
        outgrown = (tt, (tt, tt));
        outlasts = lasts;
      }

  -- time passed, and no more
  ticked : (old new : Seen) (outs : List Out) (r s : R) → IsKept holds old → IsKept holds new → MayCommit holds old new
      → EndsStep outgrows (Err (places.NoMemory left.Ticked)) (event_at at what) now old.place new.place [] outs
      → SendsMade routes worn (places.NoMemory left.Ticked) outs r s → HoldsOn routes worn at holds outgrows seat what now (shortly Ticked) old new r s
  ticked old new outs r s kept keeps commits h sends =
      let hold : Hold = hold_alone seat at Tick now Silent h.outs false false sends.sending old.place new.place in
      record {
        entries = Held hold ∷ [];
        holds = record {
          first = [];
          more = Held hold ∷ [];
          entries_are = refl;
          prepares = inl refl;
          holds = (
            hold,
            refl,
            record {
              seat = seat;
              outs = h.outs;
              unsaid = false;
              at_is = refl;
              before = [];
              made_first = refl;
              steps = refl;
              asked = inr (none_read (push_consumers new.place.state), refl);
              deliveries = tt;
              few = omega arith;
              room = λ earlier last is. absurd (no_last earlier last is);
              ready_is = tt;
              explained = tt;
              ends = tt;
            },
            refl,
          );
        };
        led = (
          on new.place s,
          record {
            at_is = refl;
            held = held_step seat at Tick now Silent h.outs false false sends.sending old.place new.place h.made (silent_caused old.place new.place) h.goes;
            told = r;
            heard = refl;
            sent = subst (λ (os : List Out). Sends routes worn r os sends.sending s) (h.added ∙ sym (append-nil h.outs)) sends.sends;
          },
          refl,
        );
        by = ((refl, tt), tt);
        outgrown = (none_outgrown, tt);
        outlasts = outlasts_alone hold old new (Step seat (event_at at Tick) now Silent h.outs false) refl refl kept keeps commits
            (old.place.stored, (new.place.state, h.made.step, refl)) (λ firm. firm.1);
      }

  -- it was made, and its reply is withheld
  withheld : (refused : Bool) (fault : DeskFault) (old new : Seen) (outs : List Out) (r s : R) → IsKept holds old → IsKept holds new → MayCommit holds old new
      → (h : WithholdsStep outgrows refused (event_at at what) now old.place new.place [] outs) → (sends : SendsThem routes worn outs r s)
      → Explains (Some fault) true (hold_alone seat at what now h.reply h.outs true h.outgrown sends.sending old.place new.place)
      → HoldsOn routes worn at holds outgrows seat what now (record { became = Unsaid refused; ready = false; fault = Some fault }) old new r s
  withheld refused fault old new outs r s kept keeps commits h sends explained =
      let hold : Hold = hold_alone seat at what now h.reply h.outs true h.outgrown sends.sending old.place new.place in
      record {
        entries = Held hold ∷ [];
        holds = record {
          first = [];
          more = Held hold ∷ [];
          entries_are = refl;
          prepares = inl refl;
          holds = (
            hold,
            h.reply,
            record {
              seat = seat;
              outs = h.outs;
              unsaid = true;
              at_is = refl;
              before = [];
              made_first = refl;
              steps = refl;
              asked = inr (none_read (push_consumers new.place.state), refl);
              deliveries = tt;
              few = omega arith;
              room = λ earlier last is. absurd (no_last earlier last is);
              ready_is = tt;
              explained = explained;
              ends = tt;
            },
            refl,
            refl,
            h.refused_is,
          );
        };
        led = (
          on new.place s,
          record {
            at_is = refl;
            held = held_step seat at what now h.reply h.outs true h.outgrown sends.sending old.place new.place h.made h.short.cause h.goes;
            told = r;
            heard = refl;
            sent = subst (λ (os : List Out). Sends routes worn r os sends.sending s) (h.added ∙ sym (append-nil h.outs)) sends.sends;
          },
          refl,
        );
        by = ((refl, tt), tt);
        outgrown = ((λ yes. inl (h.short.log yes)), tt);
        outlasts = outlasts_alone hold old new (Step seat (event_at at what) now h.reply h.outs true) refl refl kept keeps commits
            (made_step old new h.reply h.outs true h.made) (λ firm. let no : ⊥ = cc in no);
      }

  -- the volume failed
  broke : (stream : Bytes) (old new : Seen) (r s : R) → IsKept holds old → IsKept holds new → MayCommit holds old new → stream ≡ stream_name old.place.state
      → BreaksStep (event_at at what) now old.place new.place → s ≡ r → HoldsOn routes worn at holds outgrows seat what now (quietly (Broke stream)) old new r s
  broke stream old new r s kept keeps commits name h same =
      let hold : Hold = record (hold_alone seat at what now h.reply [] false false Sent old.place new.place) { steps = Broken seat now (StepOf (event_at at what)) ∷ [] } in
      record {
        entries = Held hold ∷ [];
        holds = record {
          first = [];
          more = Held hold ∷ [];
          entries_are = refl;
          prepares = inl refl;
          holds = (
            hold,
            refl,
            record {
              seat = seat;
              at_is = refl;
              steps = refl;
              readings = refl;
              deliveries = refl;
              sending = refl;
              stream_is = name;
            },
            (refl, refl),
          );
        };
        led = (
          on new.place s,
          record {
            at_is = refl;
            held = record {
              going = h.made.going;
              was = refl;
              counted = refl;
              steps = (h.reply, h.outs, h.made.step);
              short = λ no. absurd no;
              deliveries = refl;
              ends = λ broken. refl;
              is_state = refl;
              stored = h.made.stored;
              stops = h.stops;
              volume_was = refl;
              volume_is = refl;
              before_between = h.made.later;
              between_after = same_volume new.place;
            };
            told = r;
            heard = refl;
            sent = inl (record { taken = []; sent = sym same; sending_is = refl });
          },
          refl,
        );
        by = ((refl, tt), tt);
        outgrown = (none_outgrown, tt);
        outlasts = outlasts_alone hold old new (Broken seat now (StepOf (event_at at what))) refl refl kept keeps commits
            (old.place.stored, (h.reply, h.outs, h.made.step)) (λ firm. firm);
      }

  failed : (fault : PlaceFault) (stream : Bytes) (old new : Seen) (outs : List Out) (r s : R) → IsKept holds old → IsKept holds new → MayCommit holds old new → stream ≡ stream_name old.place.state
      → EndsStep outgrows (Err fault) (event_at at what) now old.place new.place [] outs → SendsMade routes worn fault outs r s → HoldsOn routes worn at holds outgrows seat what now (failed_by fault stream) old new r s
  failed (places.NoMemory left.Nothing) stream old new outs r s kept keeps commits name (inl h) sends =
      undone old new r s h (outlasts_call holds old new kept keeps commits [] (sym h.state)) sends
  failed (places.NoMemory left.Nothing) stream old new outs r s kept keeps commits name (inr h) sends =
      stopped_short old new r s h (outlasts_call holds old new kept keeps commits [] (sym h.state)) sends
  failed (places.NoMemory left.Ticked) stream old new outs r s kept keeps commits name h sends = ticked old new outs r s kept keeps commits h sends
  failed (places.NoMemory (left.Unsaid refused)) stream old new outs r s kept keeps commits name h sends = withheld refused faults.NoMemory old new outs r s kept keeps commits h sends tt
  failed places.StoreFault stream old new outs r s kept keeps commits name h sends = broke stream old new r s kept keeps commits name h sends
  failed (places.Stopped count) stream old new outs r s kept keeps commits name (inr h) sends =
      stopped_unmade old new r s h (outlasts_call holds old new kept keeps commits [] (sym h.state)) stream name sends
  failed (places.Stopped count) stream old new outs r s kept keeps commits name (inl h) sends =
      held_stopped old new r s h.same sends (outlasts_call holds old new kept keeps commits [] (ap (λ (p : PlaceIn). p.state) (sym h.same))) stream count name h.stopped
  failed (places.Gone other) stream old new outs r s kept keeps commits name h sends =
      gone old new r s h (outlasts_call holds old new kept keeps commits [] (sym h.undone.state)) sends
  failed (places.Worn refused) stream old new outs r s kept keeps commits name h sends =
      withheld refused (faults.Worn (2 ^ 62 - 1)) old new outs r s kept keeps commits h.withholds sends (inr ((sym h.last, refl), inl refl))

  -- it failed
  pub held_failed : (outcome : Outcome) (fault : PlaceFault) (stream : Bytes) (old new : Seen) (outs : List Out) (r s : R) → IsKept holds old → IsKept holds new
      → CommitsStep holds (Err fault) (event_at at what) old new → outcome ≡ failed_by fault stream → stream ≡ stream_name old.place.state
      → EndsStep outgrows (Err fault) (event_at at what) now old.place new.place [] outs → SendsMade routes worn fault outs r s → HoldsOn routes worn at holds outgrows seat what now outcome old new r s
  held_failed outcome fault stream old new outs r s kept keeps c is name h sends =
      as_told outcome (failed_by fault stream) old new r s is (failed fault stream old new outs r s kept keeps c.commits name h sends)
