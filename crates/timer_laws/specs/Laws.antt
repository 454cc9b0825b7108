-- What holds of the timers of a state: they are the moments at which time alone changes it, and no others, and a tick before the first of them changes nothing
-- but the moment. The laws follow from the definitions of the machine.
use Rattle.std.specs.Prelude.{◌≡◌, ℕ, ◌-◌, ◌^◌, ◌<◌, ◌≤◌, Bool, max, List, [], All, Option, IfSome}
use Rattle.js_base.specs.Bytes.{Bytes}
use Rattle.js_model.specs.declared.stream.State.{State}
use Rattle.js_model.specs.declared.stream.State.TheVariants.{Vacant}
use Rattle.js_base.specs.declared.out.Out.{Out}
use Rattle.js_model.specs.declared.entry.Delivery.{Delivery}
use Rattle.js_model.specs.declared.entry.PlaceEntry.{PlaceEntry}
use Rattle.js_model.specs.declared.event.Event.{Event}
use Rattle.js_model.specs.declared.event.What.TheVariants.{Tick}
use Rattle.js_model.specs.declared.reply.Reply.TheVariants.{Silent}
use Rattle.js_model.specs.Deliver.{IsDelivered}
use Rattle.js_model.specs.Ready.{some_ready}
use Rattle.js_model.specs.Events.{answered, settled_state}
use Rattle.js_model.specs.StateMoments.{moment_of, at_moment}
use Rattle.js_model.specs.Lasting.{lasting}
use Rattle.js_model.specs.Runs.{RunFrom}
use Rattle.model_laws.specs.Sound.{IsWellStored}
use Rattle.timers.specs.Timers.{timers}
use Rattle.timers.specs.Bounds.{IsTimerBound}
use Rattle.timer_laws.specs.Quiet.{IsQuiet, IsAtRest}
use Rattle.timer_laws.specs.Settled.{IsSettled}

-- a bound is a moment before which there are none
abbrev pub LawBound : Type 0
LawBound = (moments : List ℕ) (bound : Option ℕ) (now : ℕ) → IsTimerBound moments bound → IfSome bound (λ bound. now < bound) → All (λ moment. now < moment) moments

-- a state at rest is quiet before each of its timers
abbrev pub LawTimers : Type 0
LawTimers = (s : State) (now : ℕ) → IsAtRest s → moment_of s ≤ now → All (λ moment. now < moment) (timers s) → IsQuiet s now

-- where it is quiet, some consumer is ready if and only if one was
abbrev pub LawReadiness : Type 0
LawReadiness = (s : State) (now : ℕ) (listening : List Bytes) → IsAtRest s → IsQuiet s now → some_ready s now listening ≡ some_ready s (moment_of s) listening

-- and a tick sends nothing, and leaves what the limits and the retention keep of the state, at the tick's moment
abbrev pub LawTicked : Type 0
LawTicked = (s : State) (e : Event) (now : ℕ) (room : Bool) → IsQuiet s now → e.what ≡ Tick
    → answered s e now room ≡ record { reply = Silent; outs = []; state = at_moment (settled_state s) now }

-- ---- a tick before anything is due

-- where a settled state is quiet, a tick sends nothing and changes nothing but the moment
abbrev pub LawIdle : Type 0
LawIdle = (s : State) (e : Event) (now : ℕ) (room : Bool) → IsSettled s → IsQuiet s now → e.what ≡ Tick
    → answered s e now room ≡ record { reply = Silent; outs = []; state = at_moment s now }

-- so before each timer of a settled state at rest, which keeps its own moment if that is the later one
abbrev pub LawIdleBefore : Type 0
LawIdleBefore = (s : State) (e : Event) (now : ℕ) (room : Bool) → IsSettled s → IsAtRest s → All (λ moment. now < moment) (timers s) → e.what ≡ Tick
    → answered s e now room ≡ record { reply = Silent; outs = []; state = at_moment s (max (moment_of s) now) }

-- ---- when a state is settled

-- a vacant place is settled
abbrev pub LawSettledVacant : Type 0
LawSettledVacant = (incarnation : ℕ) → IsSettled (Vacant incarnation)

-- what an event leaves is settled, whatever the state was
abbrev pub LawSettledEvent : Type 0
LawSettledEvent = (s : State) (e : Event) (now : ℕ) (room : Bool) → IsSettled (answered s e now room).state

-- what a delivery leaves of a settled state is settled
abbrev pub LawSettledDelivery : Type 0
LawSettledDelivery = (s : State) (now : ℕ) (listening : List Bytes) (d : Delivery) (outs : List Out) (new : State) → IsSettled s → IsDelivered s now listening d outs new → IsSettled new

-- and so is what outlives a crash of it
abbrev pub LawSettledLasting : Type 0
LawSettledLasting = (s : State) → IsSettled s → IsSettled (lasting s)

-- so each state is settled to which a run leads from a settled one
abbrev pub LawSettled : Type 0
LawSettled = (count : ℕ) (old new : State) (entries : List PlaceEntry) → IsSettled old → RunFrom count old entries new → IsSettled new

-- ---- no timer is one too many

-- a state of a run is quiet only before each of its timers
abbrev pub LawFiring : Type 0
LawFiring = (s : State) (now : ℕ) → IsWellStored s → moment_of s ≤ now → IsQuiet s now → All (λ moment. now < moment) (timers s)

-- ---- when a state is at rest

-- what a tick leaves is at rest, but at the last moment that there is, at which heartbeats come with each event
abbrev pub LawRest : Type 0
LawRest = (s : State) (e : Event) (now : ℕ) (room : Bool) → e.what ≡ Tick → max (moment_of s) now < 2 ^ 62 - 1 → IsAtRest (answered s e now room).state

-- and so is what a delivery leaves, since nothing that it sends is due again at once
abbrev pub LawServed : Type 0
LawServed = (s : State) (now : ℕ) (listening : List Bytes) (d : Delivery) (outs : List Out) (new : State)
    → IsWellStored s → IsDelivered s now listening d outs new → max (moment_of s) now < 2 ^ 62 - 1 → IsAtRest new
