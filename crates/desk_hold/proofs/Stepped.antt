-- What a place promises of a step is a step of its run, also from before room was made for it.
use Rattle.std.proofs.Common.{Option, None, Some, ◌≡◌, ◌≤◌, ◌<◌, ◌+◌, ◌^◌, ◌++◌, ℕ, Bool, true, false, List, length, Ok, Err, refl, sym, ap, subst, ◌∙◌, append_assoc, inl, inr, IsTrue}
use Rattle.js_base.specs.Bytes.{Bytes}
use Rattle.js_base.specs.declared.out.Out.{Out}
use Rattle.js_base.proofs.Causes.{rose_after, rose_before}
use Rattle.js_model.specs.declared.stream.State.{State}
use Rattle.js_model.specs.declared.event.Event.{Event}
use Rattle.js_model.specs.declared.event.What.{What}
use Rattle.js_model.specs.declared.event.What.TheVariants.{Tick}
use Rattle.js_model.specs.declared.reply.Answer.{Answer}
use Rattle.js_model.specs.declared.reply.Reply.{Reply}
use Rattle.js_model.specs.Events.{answered, kept_incarnation}
use Rattle.js_model.specs.PlaceStates.{PlaceIn, VolumeAt}
use Rattle.js_model.specs.Proper.{is_proper}
use Rattle.js_model.specs.Runs.{IsStep, is_few, new_messages}
use Rattle.model_laws.proofs.WithRoom.{with_room}
use Rattle.js_api.specs.Outputs.{answer_of, stream_name, said}
use Rattle.js_api.specs.Worlds.{IsLater}
use Rattle.place_engine.specs.Preparing.{LacksRoom}
use Rattle.place_engine.specs.Stepping.{Image, LeavesVolume, Rests, Seen, Steps, Elapses, Does, Withholds, tick_of}
use Rattle.place_engine.specs.declared.faults.PlaceFault.{PlaceFault}
use Rattle.place_engine.specs.declared.faults.PlaceFault.TheVariants.{NoMemory, StoreFault, Stopped, Gone, Worn}
use Rattle.place_engine.specs.declared.faults.Left.TheVariants.{Nothing, Ticked, Unsaid}
use Rattle.desk_hold.specs.Steps.{AddsTick, EndsStep, IsMade, IsShort, IsUndoneStep, WithholdsStep}
use Rattle.desk_hold.proofs.Chain.{later_then}
use Rattle.desk_hold.proofs.Ticks.{tick_silent, tick_proper}

pub same_place : (old new : PlaceIn) → new.state ≡ old.state → new.stored ≡ old.stored → new.stopped ≡ old.stopped → new.volume ≡ old.volume → new ≡ old
same_place old new state stored stopped volume =
    ap (λ (x : State). record { state = x; stored = new.stored; stopped = new.stopped; volume = new.volume }) state
    ∙ ap (λ (x : ℕ). record { state = old.state; stored = x; stopped = new.stopped; volume = new.volume }) stored
    ∙ ap (λ (x : Option ℕ). record { state = old.state; stored = old.stored; stopped = x; volume = new.volume }) stopped
    ∙ ap (λ (x : VolumeAt). record { state = old.state; stored = old.stored; stopped = old.stopped; volume = x }) volume

pub all_rests : (old new : Seen) (before after : List Out) → Rests old new before after → LeavesVolume old new → new.place ≡ old.place
all_rests old new before after rests leaves = same_place old.place new.place rests.state rests.stored rests.stopped leaves.volume

pub later_by : (holds : Image → State → Type 0) (old new : Seen) → Elapses holds old new → IsLater old.place.volume new.place.volume
later_by holds old new h = record { faults = h.faults; refusals = h.refusals; moments = h.moments; generations = h.generations }

pub not_both : (o : Option ℕ) (count : ℕ) → o ≡ None → o ≡ Some count → ⊥
not_both o count none some = let no : None ≡ Some count = sym none ∙ some in cc

-- ---- a step of the run

module _ (holds : Image → State → Type 0) (now : ℕ) (old new : Seen) (moment : now < 2 ^ 62) (time : Elapses holds old new)
    (stored : new.place.stored ≤ old.place.stored + length (new_messages old.place.state new.place.state)) where
  abbrev answer_to : Event → Answer
  answer_to e = answered old.place.state e now (old.room e.what)

  whole : (e : Event) → new.place.state ≡ (answer_to e).state → answer_to e ≡ record { reply = (answer_to e).reply; outs = (answer_to e).outs; state = new.place.state }
  whole e is = ap (λ (s : State). record { reply = (answer_to e).reply; outs = (answer_to e).outs; state = s }) (sym is)

  made : (e : Event) → IsTrue (is_proper e) → Does e now old new → IsMade e now (answer_to e).reply (answer_to e).outs old.place new.place
  made e is_such does = record {
    going = does.going;
    step = record { event = record { kept = does.kept; room = old.room e.what; answers = whole e does.state }; proper = is_such; moment = moment };
    stored = stored;
    later = later_by holds old new time;
  }

  -- time passed in its place
  pub ticked_step : (event : Event) (before after : List Out) → IsTrue (is_proper event) → Does (tick_of event) now old new → new.place.stopped ≡ None → after ≡ before ++ (answer_to (tick_of event)).outs
      → AddsTick event now old.place new.place before after
  ticked_step event before after proper does goes added = record {
    outs = (answer_to (tick_of event)).outs;
    made = subst (λ (r : Reply). IsMade (tick_of event) now r (answer_to (tick_of event)).outs old.place new.place)
        (tick_silent old.place.state event now (old.room Tick)) (made (tick_of event) (tick_proper event proper) does);
    goes = goes;
    added = added;
  }

-- ---- from before room was made

-- the place is not stopped, and but for where its volume stands it is as it was
pub record Stays (old mid : PlaceIn) : Type 0 where
  pub going : old.stopped ≡ None
  pub goes : mid.stopped ≡ None
  pub state : mid.state ≡ old.state
  pub stored : mid.stored ≡ old.stored
  pub later : IsLater old.volume mid.volume

module _ (old mid new : PlaceIn) (stays : Stays old mid) where
  made_since : (event : Event) (now : ℕ) (reply : Reply) (outs : List Out) → IsMade event now reply outs mid new → IsMade event now reply outs old new
  made_since event now reply outs h = record {
    going = stays.going;
    step = subst (λ (n : ℕ). IsStep n old.state event now reply outs new.state) stays.stored (subst (λ (s : State). IsStep mid.stored s event now reply outs new.state) stays.state h.step);
    stored = subst (λ (n : ℕ). new.stored ≤ n + length (new_messages old.state new.state)) stays.stored
        (subst (λ (s : State). new.stored ≤ mid.stored + length (new_messages s new.state)) stays.state h.stored);
    later = later_then old.volume mid.volume new.volume stays.later h.later;
  }

  undone_since : IsUndoneStep mid new → IsUndoneStep old new
  undone_since h = record {
    state = h.state ∙ stays.state;
    stored = h.stored ∙ stays.stored;
    stopped = h.stopped ∙ stays.goes ∙ sym stays.going;
    volume = λ count stopped. absurd (not_both old.stopped count stays.going stopped);
    later = later_then old.volume mid.volume new.volume stays.later h.later;
  }

-- whether its log is outgrown is told with that
pub record Short (outgrows : State → What → Type 0) (what : What) (reply : Reply) (old new : PlaceIn) : Type 0 where
  pub outgrown : Bool
  pub short : IsShort outgrows what reply outgrown old new

-- why the event found no room
short_by : (outgrows : State → What → Type 0) (event : Event) (now : ℕ) (old mid new : Seen) (stays : Stays old.place mid.place) (later : IsLater mid.place.volume new.place.volume) (room : Bool)
    → (room ≡ false → LacksRoom outgrows event.what old mid) → Short outgrows event.what (answered mid.place.state event now room).reply old.place new.place
short_by outgrows event now old mid new stays later true cause = record {
  outgrown = false;
  short = record { cause = λ refused. absurd (with_room mid.place.state event now refused); log = λ e. absurd (cc) };
}
short_by outgrows event now old mid new stays later false cause = by (cause refl)
  where
    by : LacksRoom outgrows event.what old mid → Short outgrows event.what (answered mid.place.state event now false).reply old.place new.place
    by (inl rose) = record {
      outgrown = false;
      short = record {
        cause = λ refused. inl (rose_after old.place.volume.refusals mid.place.volume.refusals new.place.volume.refusals rose later.refusals);
        log = λ e. absurd (cc);
      };
    }
    by (inr (inl many)) = record {
      outgrown = false;
      short = record { cause = λ refused. inr (inl (subst (λ (n : ℕ). is_few n ≡ false) stays.stored many)); log = λ e. absurd (cc) };
    }
    by (inr (inr most)) = record {
      outgrown = true;
      short = record { cause = λ refused. inr (inr refl); log = λ e. subst (λ (s : State). outgrows s event.what) stays.state most };
    }

module _ (holds : Image → State → Type 0) (outgrows : State → What → Type 0) (event : Event) (now : ℕ) (old mid new : Seen) (proper : IsTrue (is_proper event)) (moment : now < 2 ^ 62)
    (stays : Stays old.place mid.place) (cause : mid.room event.what ≡ false → LacksRoom outgrows event.what old mid) where
  -- it was told, and the answer was added after its outputs
  pub told_step : (reply : Reply) (unsaid : Bool) (stream : Bytes) (before between after : List Out) → Steps holds (Ok reply) event now mid new before between
      → stream ≡ stream_name old.place.state → after ≡ between ++ said unsaid (answer_of stream event.what reply)
      → EndsStep outgrows (Ok (record { reply = reply; unsaid = unsaid })) event now old.place new.place before after
  told_step reply unsaid stream before between after h name added =
      let a : Answer = answer_to holds now mid new moment h.time h.stored event in
      let answer : List Out = said unsaid (answer_of (stream_name old.place.state) event.what reply) in
      let is_made = made holds now mid new moment h.time h.stored event proper h.ends.does in
      let why = short_by outgrows event now old mid new stays (later_by holds mid new h.time) (mid.room event.what) cause in
      record {
        outs = a.outs;
        outgrown = why.outgrown;
        made = made_since old.place mid.place new.place stays event now reply a.outs (subst (λ (r : Reply). IsMade event now r a.outs mid.place new.place) (sym h.ends.reply_is) is_made);
        short = subst (λ (r : Reply). IsShort outgrows event.what r why.outgrown old.place new.place) (sym h.ends.reply_is) why.short;
        goes = h.ends.goes;
        added = added
            ∙ ap (λ (n : Bytes). between ++ said unsaid (answer_of n event.what reply)) name
            ∙ ap (λ (os : List Out). os ++ answer) h.ends.outs
            ∙ append_assoc before a.outs answer;
      }

  -- its reply is withheld
  withheld : (refused : Bool) (before after : List Out) → Withholds refused event now mid new before after → new.place.stored ≤ mid.place.stored + length (new_messages mid.place.state new.place.state)
      → Elapses holds mid new → WithholdsStep outgrows refused event now old.place new.place before after
  withheld refused before after h stored time =
      let a : Answer = answer_to holds now mid new moment time stored event in
      let why = short_by outgrows event now old mid new stays (later_by holds mid new time) (mid.room event.what) cause in
      record {
        reply = a.reply;
        outs = a.outs;
        outgrown = why.outgrown;
        made = made_since old.place mid.place new.place stays event now a.reply a.outs (made holds now mid new moment time stored event proper h.hides.does);
        short = why.short;
        goes = h.hides.goes;
        added = h.hides.outs;
        refused_is = h.refused_is;
      }

  undone : (before after : List Out) → Rests mid new before after → Elapses holds mid new → IsUndoneStep old.place new.place
  undone before after rests time = undone_since old.place mid.place new.place stays (record {
    state = rests.state;
    stored = rests.stored;
    stopped = rests.stopped;
    volume = λ count stopped. absurd (not_both mid.place.stopped count stays.goes stopped);
    later = later_by holds mid new time;
  })

  -- or it failed
  pub failed_step : (fault : PlaceFault) (before after : List Out) → Steps holds (Err fault) event now mid new before after
      → EndsStep outgrows (Err fault) event now old.place new.place before after
  failed_step (NoMemory Nothing) before after h = inl (undone before after h.ends.rests h.time)
  failed_step (NoMemory Ticked) before after h =
      let t = ticked_step holds now mid new moment h.time h.stored event before after proper h.ends.does h.ends.goes h.ends.outs in
      record { outs = t.outs; made = made_since old.place mid.place new.place stays (tick_of event) now _ t.outs t.made; goes = t.goes; added = t.added }
  failed_step (NoMemory (Unsaid refused)) before after h = withheld refused before after h.ends h.stored h.time
  failed_step StoreFault before after h =
      let a : Answer = answer_to holds now mid new moment h.time h.stored event in
      record {
        reply = a.reply;
        outs = a.outs;
        made = made_since old.place mid.place new.place stays event now a.reply a.outs (made holds now mid new moment h.time h.stored event proper h.ends.does);
        stops = (h.ends.stops, rose_before old.place.volume.faults mid.place.volume.faults new.place.volume.faults stays.later.faults h.ends.cause);
      }
  failed_step (Stopped count) before after h = absurd (not_both mid.place.stopped count stays.goes h.ends.stopped)
  failed_step (Gone kept) before after h = record {
    going = stays.going;
    other = λ same. h.ends.other (sym same ∙ ap kept_incarnation (sym stays.state) ∙ sym h.ends.kept_is);
    undone = undone before after h.ends.rests h.time;
  }
  failed_step (Worn refused) before after h = record { withholds = withheld refused before after h.ends.withholds h.stored h.time; last = h.ends.last }
