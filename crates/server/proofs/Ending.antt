-- Laws of what a run does over its desk.
use Rattle.std.proofs.Common.{◌≡◌, ◌+◌, ℕ, true, false, List, [], ◌∷◌, ◌++◌, Option, None, Some, Result, Ok, Err, inl, inr, arith, refl, sym, ◌∙◌, subst, option_map}
use Rattle.std.specs.Prelude.{IfSome}
use Rattle.js_base.specs.Bytes.{Bytes}
use Rattle.js_base.specs.Causes.{HasCause, Rose}
use Rattle.js_base.specs.declared.out.ApiError.{ApiError}
use Rattle.js_model.specs.PlaceStates.{PlaceIn}
use Rattle.link_edge.specs.Told.{grown}
use Rattle.link_edge.specs.Failings.{HasNoFailings, no_failings}
use Rattle.link_edge.specs.Reports.{Report, HasOut, IsFresh}
use Rattle.link_edge.specs.declared.answers.Answer.{Answer}
use Rattle.link_edge.specs.declared.answers.Accepted.{Accepted}
use Rattle.link_edge.specs.declared.answers.Accepted.TheVariants as accepted
use Rattle.link_edge.specs.declared.failings.Failings.{Failings}
use Rattle.link_edge.specs.declared.failings.Starved.{Starved}
use Rattle.js_api.specs.declared.fault.DeskFault.{DeskFault}
use Rattle.js_api.specs.Entries.{DeskEntry}
use Rattle.js_api.specs.Leading.{Leads}
use Rattle.js_api.specs.Worlds.{Scene, SoloStep}
use Rattle.js_desk.specs.Solo.{Solo}
use Rattle.session.specs.Failing.{FailsBy, FailsAt}
use Rattle.session.specs.Session.{Serves}
use Rattle.session.specs.Stopping.{end_of_fault}
use Rattle.session.specs.Talk.{Last, Greeting, Nothing, Told, Within, Waiting, answers_of, entries_of}
use Rattle.session.specs.declared.ending.Limits.{Limits}
use Rattle.session.specs.declared.ending.Ended.{Ended}
use Rattle.session.specs.declared.ending.Ended.TheVariants as ends
use Rattle.server.specs.declared.words.NamedStream.{NamedStream}
use Rattle.server.specs.Lines.{number_line}
use Rattle.server.specs.Outside.{DoorTold, SinkTold, Outside, Prints}
use Rattle.server.specs.Accepting.{IsAccepted, IsQuiet, NoneStarves, OneStarves}
use Rattle.server.specs.Running.{IsUnserved, WasClosed, HasFailed, WasQuiet, HasStarved, WasUnasked, Waits, Unmakes, Attends, Unmade, Awaited, is_session, pipe_limits, status_of}
use Rattle.server.specs.Attending.{IsPrepared, IsServedOver, IsAwaitedOver, IsAttendedOver}
use Rattle.server.specs.declared.serving.Outcome.{Outcome}
use Rattle.server.proofs.Arriving.{told_whole}

-- ---- the status

-- it is neither that of a command line of another form, nor that of a stream that was refused
pub record IsOther (status : ℕ) : Type 0 where
  pub words : status ≡ 2 → ⊥
  pub stream : status ≡ 11 → ⊥

ended_other : (ended : Ended) → IsOther (status_of ended)
ended_other ends.Closed = record { words = λ e. cc; stream = λ e. cc }
ended_other (ends.Refused refusal) = record { words = λ e. cc; stream = λ e. cc }
ended_other (ends.Slow size) = record { words = λ e. cc; stream = λ e. cc }
ended_other ends.Stale = record { words = λ e. cc; stream = λ e. cc }
ended_other ends.LinkFault = record { words = λ e. cc; stream = λ e. cc }
ended_other ends.InputLimit = record { words = λ e. cc; stream = λ e. cc }
ended_other ends.NoMemory = record { words = λ e. cc; stream = λ e. cc }

unserved_other : (status : ℕ) (old new : DoorTold) → IsUnserved status old new → IsOther status
unserved_other status old new (WasClosed s a n) = record { words = λ e. omega (arith, s, e); stream = λ e. omega (arith, s, e) }
unserved_other status old new (HasFailed s r a n) = record { words = λ e. omega (arith, s, e); stream = λ e. omega (arith, s, e) }
unserved_other status old new (WasQuiet s a n) = record { words = λ e. omega (arith, s, e); stream = λ e. omega (arith, s, e) }
unserved_other status old new (HasStarved s a n) = record { words = λ e. omega (arith, s, e); stream = λ e. omega (arith, s, e) }
unserved_other status old new (WasUnasked s a n) = record { words = λ e. omega (arith, s, e); stream = λ e. omega (arith, s, e) }

pub waits_other : (scene after : Scene) (status : ℕ) (old new : DoorTold) (c0 c1 : Option (List ℕ)) → Waits scene after status old new c0 c1 → IsOther status
waits_other scene after status old new c0 c1 (inl h) = unserved_other status old new h.unserved
waits_other scene after status old new c0 c1 (inr h) =
    subst IsOther (sym h.given_back.served.status_is) (ended_other h.given_back.served.ended)

-- a making that failed has no status of another command line
unmade_worded : (result : Result (Option ApiError) DeskFault) (status : ℕ) (old new : SinkTold) → Unmakes result status old new → status ≡ 2 → ⊥
unmade_worded (Ok None) status old new h e = absurd h
unmade_worded (Ok (Some error)) status old new h e = omega (arith, h.0, e)
unmade_worded (Err fault) status old new h e = (ended_other (end_of_fault fault)).words (sym h ∙ e)

pub attends_worded : (opened : List PlaceIn) (stream : Option NamedStream) (after : Scene) (status : ℕ) (old new : Outside) → Attends opened stream after status old new → status ≡ 2 → ⊥
attends_worded opened stream after status old new (Unmade h) e = unmade_worded h.result status old.sink new.sink h.unmade e
attends_worded opened stream after status old new (Awaited h) e = (waits_other h.scene after status old.door new.door h.rest new.clock h.waits).words e

-- ---- the stream

-- with 11 the stream was refused
pub record IsRefusal (result : Result (Option ApiError) DeskFault) : Type 0 where
  pub error : ApiError
  pub is : result ≡ Ok (Some error)

pub unmade_refusal : (result : Result (Option ApiError) DeskFault) (status : ℕ) (old new : SinkTold) → Unmakes result status old new → status ≡ 11 → IsRefusal result
unmade_refusal (Ok None) status old new h e = absurd h
unmade_refusal (Ok (Some error)) status old new h e = record { error = error; is = refl }
unmade_refusal (Err fault) status old new h e = absurd ((ended_other (end_of_fault fault)).stream (sym h ∙ e))

-- no session was served then
pub unserved_refused : (opened : List PlaceIn) (stream : Option NamedStream) (after : Scene) (status : ℕ) (old new : Outside) (attends : Attends opened stream after status old new) → status ≡ 11 → is_session attends ≡ false
unserved_refused opened stream after status old new (Unmade h) e = refl
unserved_refused opened stream after status old new (Awaited h) e = absurd ((waits_other h.scene after status old.door new.door h.rest new.clock h.waits).stream e)

-- status 3 is that of a link's failure
ended_by_link : (ended : Ended) → status_of ended ≡ 3 → ended ≡ ends.LinkFault
ended_by_link ends.Closed e = cc
ended_by_link (ends.Refused refusal) e = cc
ended_by_link (ends.Slow size) e = cc
ended_by_link ends.Stale e = cc
ended_by_link ends.LinkFault e = refl
ended_by_link ends.InputLimit e = cc
ended_by_link ends.NoMemory e = cc

-- ---- the link

-- what a fresh link tells of its failings is told from nothing on
failed_by : (ended : Ended) (failings : Failings) → FailsBy ended None (Some failings) → ⊥
failed_by ends.Closed failings h = cc
failed_by (ends.Refused refusal) failings h = cc
failed_by (ends.Slow size) failings h = cc
failed_by ends.Stale failings h = cc
failed_by ends.LinkFault failings h = cc
failed_by ends.InputLimit failings h = cc
failed_by ends.NoMemory failings (inl h) = cc
failed_by ends.NoMemory failings (inr h) = cc

none_told : (last : Last) (ended : Ended) (failings : Failings) → FailsAt last ended None (Some failings) → ⊥
none_told Greeting ended failings h = failed_by ended failings h
none_told Nothing ended failings h = failed_by ended failings h
none_told (Told answer) ended failings h = cc
none_told (Within turn begun calls) ended failings h = failed_by ended failings h
none_told (Waiting moment) ended failings h = failed_by ended failings h

failed_whole : (last : Last) (ended : Ended) (old new : Option Failings) → HasNoFailings old → FailsAt last ended old new
    → IfSome new (λ failings. FailsAt last ended (Some no_failings) (Some failings))
failed_whole last ended old None fresh h = tt
failed_whole last ended None (Some failings) fresh h = absurd (none_told last ended failings h)
failed_whole last ended (Some first) (Some failings) fresh h = subst (λ (o : Option Failings). FailsAt last ended o (Some failings)) fresh h

-- a fresh link was served, and came back
pub served_over : {V : Type 0} (Made : Solo V → List DeskEntry → Solo V → Type 0) (leads : (a b : Solo V) (entries : List DeskEntry) → Made a entries b → Leads SoloStep a.scene entries b.scene)
    (limits : Limits) (desk new : Solo V) (ended : Ended) (status : ℕ) (a0 a1 : Option (List Answer)) (g0 g1 : Option Bytes) (n0 n1 : Option Failings) (f0 f1 : ℕ)
    (gave : Option ℕ) (b0 b1 : Option (List Report)) (c0 c1 : Option (List ℕ))
    → Serves Made limits desk new a0 a1 g0 g1 c0 c1 n0 n1 ended → IsFresh a0 g0 n0 f0 → HasCause f0 f1 (ended ≡ ends.LinkFault)
    → (HasOut gave b0 → b1 ≡ grown b0 (record { answered = a1; given = g1; failings = n1; faults = f1 } ∷ [])) → status ≡ status_of ended
    → IsServedOver Made limits desk new status gave b0 b1 c0 c1
served_over Made leads limits desk new ended status a0 a1 g0 g1 n0 n1 f0 f1 gave b0 b1 c0 c1 s fresh cause back e = record {
  given_back = record {
    report = record { answered = a1; given = g1; failings = n1; faults = f1 };
    back = back;
    served = record {
      journal = s.journal;
      bytes = s.bytes;
      ended = ended;
      talk = s.talk;
      led = leads desk new (entries_of s.journal) s.led;
      answered = told_whole a0 a1 (answers_of s.journal) fresh.silent s.answered;
      given = told_whole g0 g1 s.bytes fresh.unwritten s.given;
      failings = failed_whole s.journal.last ended n0 n1 fresh.unfailing (s.failings fresh.unfailing);
      moments = s.moments;
      status_is = e;
      cause = λ three. subst (λ (n : ℕ). Rose n f1) fresh.unfailed (cause.failed (ended_by_link ended (sym e ∙ three)));
    };
  };
  made = s.led;
}

-- ---- the door

module _ {V : Type 0} (Made : Solo V → List DeskEntry → Solo V → Type 0) where
  -- a link came, was served and came back
  pub link_served : (desk new : Solo V) (status : ℕ) (a0 a1 a2 : Option (List Accepted)) (g0 g1 g2 : Option ℕ) (b0 b1 b2 : Option (List Report)) (n0 n1 n2 : Option Starved) (f0 f2 : ℕ) (c0 c1 : Option (List ℕ)) (limits : Limits)
      → limits ≡ pipe_limits → IsAccepted a0 a1 (accepted.Got ∷ []) → a2 ≡ a1 → g1 ≡ option_map (λ n. n + 1) g0 → g2 ≡ g1 → b1 ≡ b0 → NoneStarves n0 n1 → n2 ≡ n1
      → IsServedOver Made limits desk new status g1 b1 b2 c0 c1
      → IsAwaitedOver Made desk new (record { status = status; served = true }) (record { answered = a0; gave = g0; back = b0; starved = n0; faults = f0 }) (record { answered = a2; gave = g2; back = b2; starved = n2; faults = f2 }) c0 c1
  link_served desk new status a0 a1 a2 g0 g1 g2 b0 b1 b2 n0 n1 n2 f0 f2 c0 c1 limits l came a gave g b n m given =
      let k = subst (λ (most : Limits). IsServedOver Made most desk new status g2 b0 b2 c0 c1) l
      (subst (λ (back : Option (List Report)). IsServedOver Made limits desk new status g2 back b2 c0 c1) b
      (subst (λ (out : Option ℕ). IsServedOver Made limits desk new status out b1 b2 c0 c1) (sym g) given))
      in record {
        waits = inr (record {
          accepts = record { quiets = came.quiets; few = came.few; answered = a ∙ came.answered };
          starved = λ none. m ∙ n none;
          gave = g ∙ gave;
          given_back = k.given_back;
        });
        served_is = refl;
        made = k.made;
      }

  -- no link came, for a reason that gives this status
  module _ (none : (desk : Solo V) → Made desk [] desk) (desk : Solo V) (a0 a1 : Option (List Accepted)) (g0 g1 : Option ℕ) (b0 b1 : Option (List Report)) (n0 n1 : Option Starved) (f0 f1 : ℕ) (c : Option (List ℕ)) (gave : g1 ≡ g0) (back : b1 ≡ b0) where
    abbrev Unlinked : ℕ → Type 0
    Unlinked status = (outcome : Outcome) → outcome ≡ record { status = status; served = false }
        → IsAwaitedOver Made desk desk outcome (record { answered = a0; gave = g0; back = b0; starved = n0; faults = f0 }) (record { answered = a1; gave = g1; back = b1; starved = n1; faults = f1 }) c c

    unlinked : (status : ℕ) → IsUnserved status (record { answered = a0; gave = g0; back = b0; starved = n0; faults = f0 }) (record { answered = a1; gave = g1; back = b1; starved = n1; faults = f1 }) → Unlinked status
    unlinked status h outcome e =
        subst (λ (o : Outcome). IsAwaitedOver Made desk desk o (record { answered = a0; gave = g0; back = b0; starved = n0; faults = f0 }) (record { answered = a1; gave = g1; back = b1; starved = n1; faults = f1 }) c c) (sym e)
        (record { waits = inl (record { gave = gave; back = back; unserved = h; idle = refl; unread = refl }); served_is = refl; made = none desk })

    pub was_closed : NoneStarves n0 n1 → IsAccepted a0 a1 (accepted.Closed ∷ []) → Unlinked 0
    was_closed n a = unlinked 0 (WasClosed refl a n)

    pub has_failed : NoneStarves n0 n1 → Rose f0 f1 → IsAccepted a0 a1 (accepted.Failed ∷ []) → Unlinked 8
    has_failed n r a = unlinked 8 (HasFailed refl r a n)

    pub was_quiet : NoneStarves n0 n1 → IsQuiet a0 a1 → Unlinked 6
    was_quiet n a = unlinked 6 (WasQuiet refl a n)

    pub has_starved : OneStarves n0 n1 → IsAccepted a0 a1 [] → Unlinked 7
    has_starved n a = unlinked 7 (HasStarved refl a n)

    pub was_unasked : n1 ≡ n0 → a1 ≡ a0 → Unlinked 7
    was_unasked n a = unlinked 7 (WasUnasked refl a n)

-- ---- all that is done over a desk

module _ {V : Type 0} (Made : Solo V → List DeskEntry → Solo V → Type 0) (stream : Option NamedStream) (desk : Solo V) where
  -- the stream was made, or none was to be, and then a link was waited for
  pub awaited_over : (more : (a b c : Solo V) (first more : List DeskEntry) → Made a first b → Made b more c → Made a (first ++ more) c)
      → (mid new : Solo V) (outcome : Outcome) (c0 c1 c2 : Option (List ℕ)) (d0 d1 : DoorTold) (s0 s1 : SinkTold) (refused : Option ApiError)
      → refused ≡ None → IsPrepared Made desk mid stream (Ok refused) c0 c1 → IsAwaitedOver Made mid new outcome d0 d1 c1 c2
      → IsAttendedOver Made desk new stream outcome (record { door = d0; clock = c0; sink = s0 }) (record { door = d1; clock = c2; sink = s1 })
  awaited_over more mid new outcome c0 c1 c2 d0 d1 s0 s1 refused e h w =
      let p = subst (λ (o : Option ApiError). IsPrepared Made desk mid stream (Ok o) c0 c1) e h in
      record {
        attends = Awaited (record { scene = mid.scene; rest = c1; prepared = p.prepares; waits = w.waits });
        served_is = w.served_is;
        made = more desk mid new _ _ p.made w.made;
      }

  -- the stream was not made
  pub unmade_over : (result : Result (Option ApiError) DeskFault) (new : Solo V) (status : ℕ) (outcome : Outcome) (c0 c1 : Option (List ℕ)) (d : DoorTold) (s0 s1 : SinkTold)
      → outcome ≡ record { status = status; served = false } → IsPrepared Made desk new stream result c0 c1 → Unmakes result status s0 s1
      → IsAttendedOver Made desk new stream outcome (record { door = d; clock = c0; sink = s0 }) (record { door = d; clock = c1; sink = s1 })
  unmade_over result new status outcome c0 c1 d s0 s1 e p u =
      subst (λ (o : Outcome). IsAttendedOver Made desk new stream o (record { door = d; clock = c0; sink = s0 }) (record { door = d; clock = c1; sink = s1 })) (sym e) (record {
        attends = Unmade (record { result = result; prepared = p.prepares; unmade = u; door = refl });
        served_is = refl;
        made = p.made;
      })

  -- the stream was refused, and the number of the error was printed
  pub refused_over : (refused : Option ApiError) (error : ApiError) (new : Solo V) (outcome : Outcome) (c0 c1 : Option (List ℕ)) (d : DoorTold) (s0 s1 : SinkTold)
      → refused ≡ Some error → outcome ≡ record { status = 11; served = false } → IsPrepared Made desk new stream (Ok refused) c0 c1 → Prints (number_line error.err_code) s0 s1
      → IsAttendedOver Made desk new stream outcome (record { door = d; clock = c0; sink = s0 }) (record { door = d; clock = c1; sink = s1 })
  refused_over refused error new outcome c0 c1 d s0 s1 is e p printed =
      unmade_over (Ok (Some error)) new 11 outcome c0 c1 d s0 s1 e (subst (λ (o : Option ApiError). IsPrepared Made desk new stream (Ok o) c0 c1) is p) (refl, printed)
