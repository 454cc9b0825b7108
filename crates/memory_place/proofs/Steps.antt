-- What a place in memory answers and delivers is a step and a delivery by the relations that each place keeps.
use Rattle.std.proofs.Common.{◌≡◌, ℕ, List, Option, Some, None, Result, Ok, Err, refl, arith, inl}
use Rattle.std.proofs.lemmas.Bool.{true≢false}
use Rattle.std.proofs.lemmas.Option.{none-some}
use Rattle.js_base.specs.Bytes.{Bytes}
use Rattle.js_base.specs.declared.out.Out.{Out}
use Rattle.js_model.specs.declared.stream.State.{State}
use Rattle.js_model.specs.declared.event.Event.{Event}
use Rattle.js_model.specs.declared.entry.Delivery.{Delivery}
use Rattle.js_model.specs.declared.event.What.{What}
use Rattle.js_model.specs.declared.event.What.TheVariants.{Tick}
use Rattle.js_model.specs.declared.reply.Reply.{Reply}
use Rattle.js_model.specs.declared.reply.Reply.TheVariants.{Silent}
use Rattle.js_model.specs.Events.{kept_incarnation}
use Rattle.place_engine.specs.declared.faults.Left.{Left}
use Rattle.place_engine.specs.declared.faults.Left.TheVariants.{Nothing, Ticked, Unsaid}
use Rattle.place_engine.specs.declared.faults.PlaceFault.{PlaceFault}
use Rattle.place_engine.specs.declared.faults.PlaceFault.TheVariants.{NoMemory}
use Rattle.place_engine.specs.Delivering.{Delivers}
use Rattle.place_engine.specs.InMemory.{seen_of, holds_nothing}
use Rattle.place_engine.specs.Preparing.{Prepares}
use Rattle.place_engine.specs.Stepping.{Elapses, IsFlushed, IsUndone, KeepsBase, Passes, Steps}
use Rattle.memory_place.specs.Answers.{DeliversNone, DeliversSome, LeftBy, MayDeliver, PlaceAnswers}

elapses : (old new : State) → Elapses holds_nothing (seen_of old) (seen_of new)
elapses old new = record { faults = omega arith; refusals = omega arith; moments = omega arith; generations = omega arith; goes_on = λ t image le left. absurd left }

-- nothing ever waits
flushed : (state : State) → IsFlushed (seen_of state)
flushed state = record { base = λ b is. absurd is; waiting = refl }

-- its volume holds no state
kept_base : (old new : State) → KeepsBase (seen_of old) (seen_of new)
kept_base old new b is = absurd is

undone : (old new : State) (outs_old outs_new : List Out) → new ≡ old → outs_new ≡ outs_old → IsUndone (seen_of old) (seen_of new) outs_old outs_new
undone old new outs_old outs_new same outs = record {
  rests = record { state = same; stored = refl; stopped = refl; base = kept_base old new; waiting = refl; outs = outs };
  volume = λ count stopped. absurd (none-some count stopped);
}

passes : (old : State) (e : Event) (now : ℕ) (new : State) (outs_old outs_new : List Out) → e.incarnation ≡ kept_incarnation old → PlaceAnswers old Tick now Silent outs_old outs_new new
    → Passes e now (seen_of old) (seen_of new) outs_old outs_new
passes old e now new outs_old outs_new kept ticks =
    let given = ticks e.incarnation in
    record { does = record { going = refl; kept = kept; state = given.state_is }; goes = refl; outs = given.outs_are; may = inl (flushed new) }

-- ---- steps

-- it is answered
pub tells : (old : State) (e : Event) (now : ℕ) (reply : Reply) (new : State) (outs_old outs_new : List Out) → e.incarnation ≡ kept_incarnation old
    → PlaceAnswers old e.what now reply outs_old outs_new new → Steps holds_nothing (Ok reply) e now (seen_of old) (seen_of new) outs_old outs_new
tells old e now reply new outs_old outs_new kept answers =
    let given = answers e.incarnation in
    record {
      ends = record {
        does = record { going = refl; kept = kept; state = given.state_is };
        goes = refl;
        reply_is = given.reply_is;
        outs = given.outs_are;
        commits = record { firm = λ firm. flushed new; may = inl (flushed new) };
      };
      stored = omega arith;
      time = elapses old new;
    }

-- memory ran out
pub starves : (old : State) (e : Event) (now : ℕ) (left : Left) (new : State) (outs_old outs_new : List Out) → e.incarnation ≡ kept_incarnation old → LeftBy left old now outs_old outs_new new
    → Steps holds_nothing (Err (NoMemory left)) e now (seen_of old) (seen_of new) outs_old outs_new
starves old e now Nothing new outs_old outs_new kept h = record { ends = undone old new outs_old outs_new h.0 h.1; stored = omega arith; time = elapses old new }
starves old e now Ticked new outs_old outs_new kept h = record { ends = passes old e now new outs_old outs_new kept h; stored = omega arith; time = elapses old new }
starves old e now (Unsaid refused) new outs_old outs_new kept h = absurd h

-- ---- the preparing of an event

-- there always is room
pub prepares : (state : State) (what : What) → Prepares holds_nothing (λ s w. ⊥) (Ok tt) what (seen_of state) (seen_of state)
prepares state what = record {
  ends = record {
    keeps = record { going = refl; state = refl; stored = refl };
    goes = refl;
    base = kept_base state state;
    waiting = refl;
    cause = λ none. absurd (true≢false none);
  };
  quiet = λ asks. record { volume = refl; images = λ t image left. left };
  time = elapses state state;
  images = λ t image le left. absurd left;
}

-- ---- deliveries

pub delivers_some : (old : State) (now : ℕ) (listening : List Bytes) (made : Delivery) (new : State) (outs_old outs_new : List Out) → DeliversSome old now listening made outs_old outs_new new
    → Delivers holds_nothing (Ok (Some made)) now listening (seen_of old) (seen_of new) outs_old outs_new
delivers_some old now listening made new outs_old outs_new h = record {
  ends = record { sent = h.sent; makes = record { going = refl; delivered = h.delivered }; goes = refl; outs = h.outs_are; may = inl (flushed new) };
  stored = omega arith;
  time = elapses old new;
}

pub delivers_none : (old : State) (now : ℕ) (listening : List Bytes) (new : State) (outs_old outs_new : List Out) → DeliversNone old now listening outs_old outs_new new
    → Delivers holds_nothing (Ok None) now listening (seen_of old) (seen_of new) outs_old outs_new
delivers_none old now listening new outs_old outs_new h = record {
  ends = record {
    going = refl;
    none = h.none;
    rests = record { state = h.same; stored = refl; stopped = refl; base = kept_base old new; waiting = refl; outs = h.outs_same };
    volume = refl;
  };
  stored = omega arith;
  time = elapses old new;
}

-- memory ran out
pub delivery_starves : (old : State) (now : ℕ) (listening : List Bytes) (left : Left) (new : State) (outs_old outs_new : List Out) → LeftBy left old now outs_old outs_new new
    → Delivers holds_nothing (Err (NoMemory left)) now listening (seen_of old) (seen_of new) outs_old outs_new
delivery_starves old now listening Nothing new outs_old outs_new h = record { ends = undone old new outs_old outs_new h.0 h.1; stored = omega arith; time = elapses old new }
delivery_starves old now listening Ticked new outs_old outs_new h =
    record { ends = passes old (record { incarnation = kept_incarnation old; what = Tick }) now new outs_old outs_new refl h; stored = omega arith; time = elapses old new }
delivery_starves old now listening (Unsaid refused) new outs_old outs_new h = absurd h

-- in each case
abbrev pub told_fault : Result (Option Delivery) Left → Result (Option Delivery) PlaceFault
told_fault (Ok made) = Ok made
told_fault (Err left) = Err (NoMemory left)

pub delivers_of : (old : State) (now : ℕ) (listening : List Bytes) (result : Result (Option Delivery) Left) (new : State) (outs_old outs_new : List Out) → MayDeliver result old now listening outs_old outs_new new
    → Delivers holds_nothing (told_fault result) now listening (seen_of old) (seen_of new) outs_old outs_new
delivers_of old now listening (Ok (Some made)) new outs_old outs_new h = delivers_some old now listening made new outs_old outs_new h
delivers_of old now listening (Ok None) new outs_old outs_new h = delivers_none old now listening new outs_old outs_new h
delivers_of old now listening (Err left) new outs_old outs_new h = delivery_starves old now listening left new outs_old outs_new h
