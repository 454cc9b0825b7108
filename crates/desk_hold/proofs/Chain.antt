-- The deliveries of a hold are a part of its place's run.
use Rattle.std.proofs.Common.{◌≡◌, ◌≤◌, ◌+◌, ◌++◌, ℕ, Bool, true, false, List, [], ◌∷◌, length, append-nil, Option, refl, sym, ap, subst, ◌∙◌, arith}
use Rattle.js_base.specs.Bytes.{Bytes}
use Rattle.js_base.specs.declared.out.Out.{Out}
use Rattle.js_base.proofs.Causes.{rose_before}
use Rattle.js_model.specs.declared.stream.State.{State}
use Rattle.js_model.specs.declared.event.Event.{Event}
use Rattle.js_model.specs.declared.event.What.{What}
use Rattle.js_model.specs.declared.event.What.TheVariants.{Tick}
use Rattle.js_model.specs.declared.reply.Reply.{Reply}
use Rattle.js_model.specs.declared.entry.PlaceEntry.{PlaceEntry}
use Rattle.js_model.specs.declared.entry.PlaceEntry.TheVariants.{Step, Deliver, Broken}
use Rattle.js_model.specs.declared.entry.Call.TheVariants.{Step as StepOf, Deliver as DeliverOf}
use Rattle.js_model.specs.PlaceStates.{PlaceIn, VolumeAt}
use Rattle.js_model.specs.Runs.{IsStep, RunFrom, new_messages, total_of}
use Rattle.js_api.specs.Holding.{delivery_broke}
use Rattle.js_api.specs.Outputs.{answer_of, outs_from, said}
use Rattle.js_api.specs.Worlds.{IsLater, Stops, is_broken}
use Rattle.js_model.specs.Firm.{IsFirmStep}
use Rattle.desk_hold.specs.Crashes.{Chain}
use Rattle.desk_hold.specs.Deliveries.{Led}

-- ---- where the volume stands

pub later_then : (a b c : VolumeAt) → IsLater a b → IsLater b c → IsLater a c
later_then a b c h k = record {
  faults = omega (arith, h.faults, k.faults);
  refusals = omega (arith, h.refusals, k.refusals);
  moments = omega (arith, h.moments, k.moments);
  generations = omega (arith, h.generations, k.generations);
}

pub stops_since : (broken : Bool) (a b c : VolumeAt) (stopped : Option ℕ) → IsLater a b → Stops broken b c stopped → Stops broken a c stopped
stops_since true a b c stopped later h = (h.0, rose_before a.faults b.faults c.faults later.faults h.1)
stops_since false a b c stopped later h = h

-- ---- the run

-- a run that the entries make from a count, and how many messages count against the store afterwards
pub record RunsFrom (count : ℕ) (old new : PlaceIn) (entries : List PlaceEntry) : Type 0 where
  pub run : RunFrom count old.state entries new.state
  pub stored : new.stored ≤ total_of count old.state entries new.state run

step_from : (n m : ℕ) (old : State) (e : Event) (now : ℕ) (reply : Reply) (outs : List Out) (new : State) → IsStep n old e now reply outs new → IsStep m old e now reply outs new
step_from n m old e now reply outs new step = record {
  event = step.event;
  proper = step.proper;
  moment = step.moment;
}

pub runs_from : (entries : List PlaceEntry) (old : PlaceIn) (sent : List Out) (new : PlaceIn) (count : ℕ) → old.stored ≤ count → Led old entries sent new → RunsFrom count old new entries
runs_from [] old sent new count le h = record { run = sym h.0.state; stored = omega (arith, le, h.0.stored) }
runs_from (Deliver seat now listening d outs ∷ more) old sent new count le (mid, rest, step, goes, sent_is, next) =
    let grown : mid.stored ≤ count + length (new_messages old.state mid.state) = omega (arith, le, step.stored) in
    let then_ = runs_from more mid rest new (count + length (new_messages old.state mid.state)) grown next in
    record { run = (mid.state, step.step, then_.run); stored = then_.stored }
runs_from (Step seat event now reply outs unsaid ∷ more) old sent new count le (made, tick, silent, goes, sent_is, none) =
    subst (λ (entries : List PlaceEntry). RunsFrom count old new (Step seat event now reply outs unsaid ∷ entries)) (sym none)
    (record {
      run = (new.state, step_from old.stored count old.state event now reply outs new.state made.step, refl);
      stored = omega (arith, le, made.stored);
    })
runs_from (Broken seat now (DeliverOf listening d) ∷ more) old sent new count le (outs, step, stops, sent_is, none) =
    subst (λ (entries : List PlaceEntry). RunsFrom count old new (Broken seat now (DeliverOf listening d) ∷ entries)) (sym none)
    (record { run = (outs, step.step); stored = omega (arith, le, step.stored) })
runs_from (Broken seat now (StepOf event) ∷ more) old sent new count le h = absurd h

-- ---- what is confirmed

-- none of the deliveries is
pub none_firm : (entries : List PlaceEntry) (old : PlaceIn) (sent : List Out) (new : PlaceIn) → Led old entries sent new → Chain ⊥ old.state entries new.state
none_firm [] old sent new h = sym h.0.state
none_firm (Deliver seat now listening d outs ∷ more) old sent new (mid, rest, step, goes, is, next) =
    (mid.state, (old.stored, (mid.state, step.step, refl)), (λ no. no), none_firm more mid rest new next)
none_firm (Step seat event now reply outs unsaid ∷ more) old sent new (made, tick, silent, goes, is, none) =
    subst (λ (entries : List PlaceEntry). Chain ⊥ old.state (Step seat event now reply outs unsaid ∷ entries) new.state) (sym none) (
      new.state,
      (old.stored, (new.state, made.step, refl)),
      (λ firm. subst (λ (what : What). IsFirmStep old.state what reply new.state) tick firm.1),
      refl,
    )
none_firm (Broken seat now (DeliverOf listening d) ∷ more) old sent new (outs, step, stops, is, none) =
    subst (λ (entries : List PlaceEntry). Chain ⊥ old.state (Broken seat now (DeliverOf listening d) ∷ entries) new.state) (sym none)
    (new.state, (old.stored, (outs, step.step)), (λ no. no), refl)
none_firm (Broken seat now (StepOf event) ∷ more) old sent new h = absurd h

-- ---- what is sent

tick_answer : (stream : Bytes) (event : Event) (reply : Reply) (unsaid : Bool) → event.what ≡ Tick → said unsaid (answer_of stream event.what reply) ≡ []
tick_answer stream event reply unsaid tick = subst (λ (what : What). said unsaid (answer_of stream what reply) ≡ []) (sym tick) (by unsaid)
  where
    by : (b : Bool) → said b (answer_of stream Tick reply) ≡ []
    by true = refl
    by false = refl

pub sent_is : (entries : List PlaceEntry) (stream : Bytes) (old : PlaceIn) (sent : List Out) (new : PlaceIn) → Led old entries sent new → sent ≡ outs_from stream entries
sent_is [] stream old sent new h = h.1
sent_is (Deliver seat now listening d outs ∷ []) stream old sent new (mid, rest, step, goes, is, next) = is ∙ ap (λ (os : List Out). outs ++ os) next.1 ∙ append-nil outs
sent_is (Deliver seat now listening d outs ∷ entry ∷ more) stream old sent new (mid, rest, step, goes, is, next) =
    is ∙ ap (λ (os : List Out). outs ++ os) (sent_is (entry ∷ more) stream mid rest new next)
sent_is (Step seat event now reply outs unsaid ∷ []) stream old sent new (made, tick, silent, goes, is, none) =
    is ∙ sym (append-nil outs) ∙ ap (λ (os : List Out). outs ++ os) (sym (tick_answer stream event reply unsaid tick))
sent_is (Step seat event now reply outs unsaid ∷ entry ∷ more) stream old sent new (made, tick, silent, goes, is, none) = let no : ⊥ = cc in absurd no
sent_is (Broken seat now (DeliverOf listening d) ∷ []) stream old sent new (outs, step, stops, is, none) = is
sent_is (Broken seat now (DeliverOf listening d) ∷ entry ∷ more) stream old sent new (outs, step, stops, is, none) = let no : ⊥ = cc in absurd no
sent_is (Broken seat now (StepOf event) ∷ more) stream old sent new h = absurd h

-- ---- whether they broke

pub led_later : (entries : List PlaceEntry) (old : PlaceIn) (sent : List Out) (new : PlaceIn) → Led old entries sent new → IsLater old.volume new.volume
led_later [] old sent new h = h.0.later
led_later (Deliver seat now listening d outs ∷ more) old sent new (mid, rest, step, goes, is, next) =
    later_then old.volume mid.volume new.volume step.later (led_later more mid rest new next)
led_later (Step seat event now reply outs unsaid ∷ more) old sent new (made, tick, silent, goes, is, none) = made.later
led_later (Broken seat now (DeliverOf listening d) ∷ more) old sent new (outs, step, stops, is, none) = step.later
led_later (Broken seat now (StepOf event) ∷ more) old sent new h = absurd h

pub led_stops : (entries : List PlaceEntry) (old : PlaceIn) (sent : List Out) (new : PlaceIn) → Led old entries sent new
    → Stops (is_broken entries) old.volume new.volume new.stopped
led_stops [] old sent new h = h.0.stopped
led_stops (Deliver seat now listening d outs ∷ more) old sent new (mid, rest, step, goes, is, next) =
    stops_since (is_broken more) old.volume mid.volume new.volume new.stopped step.later (led_stops more mid rest new next)
led_stops (Step seat event now reply outs unsaid ∷ more) old sent new (made, tick, silent, goes, is, none) =
    subst (λ (entries : List PlaceEntry). Stops (is_broken entries) old.volume new.volume new.stopped) (sym none) goes
led_stops (Broken seat now (DeliverOf listening d) ∷ more) old sent new (outs, step, stops, is, none) = stops
led_stops (Broken seat now (StepOf event) ∷ more) old sent new h = absurd h

-- the two words for it say the same
pub broke_broken : (entries : List PlaceEntry) → delivery_broke entries ≡ is_broken entries
broke_broken [] = refl
broke_broken (Step seat event now reply outs unsaid ∷ more) = broke_broken more
broke_broken (Deliver seat now listening d outs ∷ more) = broke_broken more
broke_broken (Broken seat now call ∷ more) = refl
