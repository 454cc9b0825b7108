-- The calls of a place make a run.
use Rattle.std.proofs.Common.{◌≡◌, ◌++◌, ℕ, List, [], length, Some, refl, sym, ap, subst, ◌∙◌}
use Rattle.js_model.specs.declared.event.What.{What}
use Rattle.js_model.specs.declared.stream.State.{State}
use Rattle.js_model.specs.declared.entry.PlaceEntry.{PlaceEntry}
use Rattle.js_model.specs.Runs.{RunFrom, messages_of}
use Rattle.place_engine.specs.Stepping.{Image, Seen}
use Rattle.place_laws.specs.Calls.{Calls, NoCall, APreparing, AStep, ADelivery, AFlush}
use Rattle.place_laws.specs.Laws.{LawCalls}
use Rattle.place_laws.proofs.Entries.{StaysStopped, delivery_runs, delivery_stopped, flush_same, flush_stopped, prepare_same, prepare_stopped, step_runs, step_stopped}

module _ {P : Type 0} (seen : P → Seen) (holds : Image → State → Type 0) (outgrows : State → What → Type 0) where
  -- the calls of a stopped place make nothing
  record MadeNothing (old new : P) (entries : List PlaceEntry) : Type 0 where
    none : entries ≡ []
    state : (seen new).place.state ≡ (seen old).place.state

  after_that : (old mid new : P) (made more : List PlaceEntry) → StaysStopped (seen old) (seen mid) made → MadeNothing mid new more → MadeNothing old new (made ++ more)
  after_that old mid new made more h k = record { none = ap (λ (xs : List PlaceEntry). xs ++ more) h.none ∙ k.none; state = k.state ∙ h.state }

  nothing : (n : ℕ) (old new : P) (entries : List PlaceEntry) → (seen old).place.stopped ≡ Some n → Calls seen holds outgrows old entries new → MadeNothing old new entries
  nothing n old new entries is (NoCall s) = record { none = refl; state = refl }
  nothing n old new entries is (AStep old_ mid new_ made more call rest) =
      let stays : StaysStopped (seen old) (seen mid) made =
      subst (λ (xs : List PlaceEntry). StaysStopped (seen old) (seen mid) xs) (sym call.made_is)
      (step_stopped holds (seen old) (seen mid) n call.seat call.event call.now call.result call.before call.after is call.steps) in
      after_that old mid new made more stays (nothing n mid new more (stays.stopped ∙ is) rest)
  nothing n old new entries is (ADelivery old_ mid new_ made more call rest) =
      let stays : StaysStopped (seen old) (seen mid) made =
      subst (λ (xs : List PlaceEntry). StaysStopped (seen old) (seen mid) xs) (sym call.made_is)
      (delivery_stopped holds (seen old) (seen mid) n call.seat call.now call.listening call.result call.before call.after is call.delivers) in
      after_that old mid new made more stays (nothing n mid new more (stays.stopped ∙ is) rest)
  nothing n old new entries is (AFlush old_ mid new_ more call rest) =
      let stays : StaysStopped (seen old) (seen mid) [] = flush_stopped (seen old) (seen mid) n call.result is call.flushes.ends in
      after_that old mid new [] more stays (nothing n mid new more (stays.stopped ∙ is) rest)
  nothing n old new entries is (APreparing old_ mid new_ more call rest) =
      let stays : StaysStopped (seen old) (seen mid) [] = prepare_stopped outgrows call.what (seen old) (seen mid) n call.result is call.prepares.ends in
      after_that old mid new [] more stays (nothing n mid new more (stays.stopped ∙ is) rest)

  ends : (mid new : P) (more : List PlaceEntry) → Calls seen holds outgrows mid more new → (n : ℕ) → (seen mid).place.stopped ≡ Some n → (more ≡ []) × ((seen new).place.state ≡ (seen mid).place.state)
  ends mid new more rest n is = let h = nothing n mid new more is rest in (h.none, h.state)

  runs : (count : ℕ) (old new : P) (entries : List PlaceEntry) → Calls seen holds outgrows old entries new → RunFrom count (seen old).place.state entries (seen new).place.state
  runs count old new entries (NoCall s) = refl
  runs count old new entries (AStep old_ mid new_ made more call rest) =
      subst (λ (xs : List PlaceEntry). RunFrom count (seen old).place.state (xs ++ more) (seen new).place.state) (sym call.made_is)
      (step_runs holds count call.now (seen old) (seen mid) more (seen new).place.state call.moment (λ later. runs later mid new more rest) (ends mid new more rest)
      call.result call.seat call.event call.before call.after call.proper call.steps)
  runs count old new entries (ADelivery old_ mid new_ made more call rest) =
      subst (λ (xs : List PlaceEntry). RunFrom count (seen old).place.state (xs ++ more) (seen new).place.state) (sym call.made_is)
      (delivery_runs holds count call.now (seen old) (seen mid) more (seen new).place.state call.moment (λ later. runs later mid new more rest) (ends mid new more rest)
      call.result call.seat call.listening call.before call.after call.bound call.delivers)
  runs count old new entries (AFlush old_ mid new_ more call rest) =
      subst (λ (s : State). RunFrom count s more (seen new).place.state) (flush_same (seen old) (seen mid) call.result call.flushes.ends) (runs count mid new more rest)
  runs count old new entries (APreparing old_ mid new_ more call rest) =
      subst (λ (s : State). RunFrom count s more (seen new).place.state) (prepare_same outgrows call.what (seen old) (seen mid) call.result call.prepares.ends) (runs count mid new more rest)

pub law_calls : {P : Type 0} (seen : P → Seen) (holds : Image → State → Type 0) (outgrows : State → What → Type 0) → LawCalls seen holds outgrows
law_calls seen holds outgrows old new entries calls = runs seen holds outgrows (length (messages_of (seen old).place.state)) old new entries calls
