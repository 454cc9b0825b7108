-- Laws of calm sessions over whole operations, and of the runs that serve them.
use Rattle.std.proofs.Common.{◌≡◌, ℕ, ◌<◌, Bool, true, false, ◌⊎◌, List, [], ◌∷◌, ◌++◌, length, replicate, Option, Some, None, Result, Ok, Err, refl, sym, ◌∙◌, ap, subst, append_assoc, inl, inr, All, arith, if◌then◌else◌}
use Rattle.std.specs.Prelude.{◌==◌, ◌&&◌}
use Rattle.std.specs.List.{flat_map}
use Rattle.std.proofs.lemmas.List.{append-nil, length-append, get_or_at}
use Rattle.std.proofs.lemmas.Grind.{flat_map-append}
use Rattle.js_base.specs.Bytes.{Bytes}
use Rattle.js_base.specs.Causes.{Rose}
use Rattle.js_base.specs.Headers.{is_block}
use Rattle.js_base.specs.Subjects.{is_pattern_text, is_publish_text}
use Rattle.js_base.specs.declared.out.ApiError.{ApiError}
use Rattle.js_base.specs.declared.out.Out.{Out}
use Rattle.js_model.specs.PlaceStates.{PlaceIn}
use Rattle.js_model.specs.Router as router
use Rattle.link_edge.specs.declared.answers.Answer.{Answer}
use Rattle.link_edge.specs.declared.answers.Answer.TheVariants as answers
use Rattle.nats_frames.specs.declared.op.Op.{Op}
use Rattle.nats_frames.specs.declared.op.Op.TheVariants as ops_
use Rattle.nats_frames.specs.declared.op.FrameFault.{FrameFault}
use Rattle.nats_frames.specs.Grammar.{Fronts}
use Rattle.nats_frames.specs.Reading.{op_at}
use Rattle.place_engine.specs.declared.faults.PlaceFault.{PlaceFault}
use Rattle.js_desk.specs.Solo.{Solo}
use Rattle.desk_places.specs.declared.faults.Closed.{Closed}
use Rattle.desk_places.specs.declared.faults.HubFault.{HubFault}
use Rattle.stream_config.specs.Defaults.{default_config}
use Rattle.js_api.specs.declared.fault.DeskFault.{DeskFault}
use Rattle.js_api.specs.declared.fault.DeskFault.TheVariants as faults
use Rattle.js_api.specs.Answering as desks
use Rattle.js_api.specs.Calls as does
use Rattle.js_api.specs.Clients.{Client, new_client}
use Rattle.js_api.specs.Entries.{DeskEntry, Routed}
use Rattle.js_api.specs.Leading.{Leads}
use Rattle.js_api.specs.Worlds.{Scene, SoloStep, opening}
use Rattle.session.specs.Talk as talk
use Rattle.session.specs.Calling.{Called, entries_of_calls}
use Rattle.session.specs.Stopping as stopping
use Rattle.session.specs.Gathering.{IsGathering}
use Rattle.session.specs.Talk.{Journal, Last, Stage, start, Turn, Begins, IsTalk, IsCause, EndsAs, EndsStopped, acts_of, answers_of, entries_of, entries_of_turn, entries_of_last, last_answers, greeting}
use Rattle.session.specs.Connecting.{connect_options}
use Rattle.session.specs.Peer.{Act, Hears, Ticks, Calls, CallsNothing, IsWrong, IsUnpublishable, IsRefused, Peer, peer_after, request, op_request, connecting, publishing, is_reply, message}
use Rattle.session.specs.declared.ending.Ended.{Ended}
use Rattle.session.specs.declared.ending.Ended.TheVariants as ends
use Rattle.session.specs.declared.ending.Refusal.{Refusal}
use Rattle.session.specs.declared.ending.Refusal.TheVariants as refusals
use Rattle.server.specs.declared.words.NamedStream.{NamedStream}
use Rattle.server.specs.Outside.{DoorTold, SinkTold, Outside}
use Rattle.server.specs.Accepting.{IsQuiet}
use Rattle.server.specs.Preparing.{Prepares}
use Rattle.server.specs.Attending.{prepared_entries, run_entries, session_entries}
use Rattle.server.specs.Running.{pipe_limits, status_of, IsUnserved, WasClosed, HasFailed, WasQuiet, HasStarved, WasUnasked, Waits, Unmakes, Attends, Unmade, Awaited}
use Rattle.server.specs.Closing.{flush_status, status_with, closing_status}
use Rattle.server.specs.Ending.{Starved, Unopened, Attended}
use Rattle.server.specs.Laws.{IsSound, IsValid, piece_of, bytes_of, ops_of, HadRoom, IsWelcome, AreUntroubled, IsFlushed, IsCalmSession, IsCalmWait, IsCalmOver, IsAnswered, AreAnsweredAt, AreAnsweredOver, LawComplete}
use Rattle.server.proofs.Whole.{none_partial, fronts_on, Leaves, leaves, leaves_none, leaves_sound, idle_sound}
use Rattle.server.proofs.Taken.{answers_in, ops_in, acts-append, front_ops, Taken, taken}
use Rattle.server.proofs.Led.{prepared_led, session_led}
use Rattle.server.proofs.Roomy.{room_behind, run_roomy, unbroken, whole_of}
use Rattle.server.proofs.Untroubled.{AreFit, run_fit, fit_front, fit_behind}
use Rattle.server.proofs.Numbered.{NoWorn, IsNumbered, does_keeps, makes_stream_keeps}
use Rattle.server.proofs.Slowed.{never_slow, does_slow}
use Rattle.server.proofs.Opened.{prepared_latest, is_not_worn}

-- what holds of each member holds of one in the middle
all_at : {X : Type 0} (P : X → Type 0) (before : List X) (x : X) (after xs : List X) → All P xs → xs ≡ before ++ x ∷ after → P x
all_at P before x after xs h e =
    let in_place : length before < length (before ++ x ∷ after) = omega (arith, length-append before (x ∷ after)) in
    subst P (get_or_at before x after x (length before) refl) (subst (λ (ys : List _). All P ys) e h (length before) x in_place)

no_last : (ops : List Op) (op : Op) → ops ++ op ∷ [] ≡ [] → ⊥
no_last [] op e = cc
no_last (other ∷ ops) op e = cc

regroup_list : {X : Type 0} (o f t a r z : List X) → o ++ (f ++ ((t ++ (a ++ r)) ++ z)) ≡ (o ++ (f ++ (t ++ a))) ++ (r ++ z)
regroup_list [] [] [] a r z = append_assoc a r z
regroup_list [] [] (x ∷ t) a r z = ap (λ xs. x ∷ xs) (regroup_list [] [] t a r z)
regroup_list [] (x ∷ f) t a r z = ap (λ xs. x ∷ xs) (regroup_list [] f t a r z)
regroup_list (x ∷ o) f t a r z = ap (λ xs. x ∷ xs) (regroup_list o f t a r z)

-- a call behind others
behind : (asked after before : List Called) (last : Called) (calls : List Called) → calls ≡ asked ++ after → after ≡ before ++ last ∷ [] → calls ≡ (asked ++ before) ++ last ∷ []
behind asked after before last calls e f = e ∙ ap (λ (xs : List Called). asked ++ xs) f ∙ sym (append_assoc asked before (last ∷ []))

-- ---- what a call answered that ended the session

fault_slow : (fault : DeskFault) (size : ℕ) → ends.Slow size ≡ stopping.end_of_fault fault → ⊥
fault_slow faults.NoMemory size e = cc
fault_slow faults.TooManySubs size e = cc
fault_slow (faults.Worn number) size e = cc
fault_slow (faults.NoSession latest) size e = cc

slow_answer : (answer : Result desks.DeskAnswer DeskFault) (size : ℕ) → ends.Slow size ≡ stopping.end_after answer → answer ≡ Ok (desks.Slow size)
slow_answer (Ok (desks.Opened session)) size e = cc
slow_answer (Ok desks.Done) size e = cc
slow_answer (Ok (desks.Took taken)) size e = cc
slow_answer (Ok (desks.Settled ready)) size e = cc
slow_answer (Ok (desks.Gave list more)) size e = cc
slow_answer (Ok (desks.Slow length)) size e = cc
slow_answer (Err fault) size e = absurd (fault_slow fault size e)

fault_refused : (fault : DeskFault) (refusal : Refusal) → ends.Refused refusal ≡ stopping.end_of_fault fault → IsNumbered fault → ⊥
fault_refused faults.NoMemory refusal e n = cc
fault_refused faults.TooManySubs refusal e n = cc
fault_refused (faults.Worn number) refusal e n = n
fault_refused (faults.NoSession latest) refusal e n = cc

refused_answer : (answer : Result desks.DeskAnswer DeskFault) (refusal : Refusal) → ends.Refused refusal ≡ stopping.end_after answer → NoWorn answer → ⊥
refused_answer (Ok (desks.Opened session)) refusal e n = cc
refused_answer (Ok desks.Done) refusal e n = cc
refused_answer (Ok (desks.Took taken)) refusal e n = cc
refused_answer (Ok (desks.Settled ready)) refusal e n = cc
refused_answer (Ok (desks.Gave list more)) refusal e n = cc
refused_answer (Ok (desks.Slow length)) refusal e n = cc
refused_answer (Err fault) refusal e n = fault_refused fault refusal e n

-- no operation opens a session, and no gathering

options_open : (options : Option _) (call : desks.DeskCall) → connecting options ≡ Calls call → call ≡ desks.Open → ⊥
options_open None call e o = cc
options_open (Some options) call e o = cc

publishes_open : (b : Bool) (now : ℕ) (out : Out) (call : desks.DeskCall) → (if b then Calls (desks.Publish out now) else IsUnpublishable) ≡ Calls call → call ≡ desks.Open → ⊥
publishes_open true now out call e o = cc
publishes_open false now out call e o = cc

subscribes_open : (b : Bool) (subject : Bytes) (queue : Option Bytes) (sid text : Bytes) (call : desks.DeskCall) → (if b then Calls (desks.Sub subject queue sid) else IsWrong text) ≡ Calls call → call ≡ desks.Open → ⊥
subscribes_open true subject queue sid text call e o = cc
subscribes_open false subject queue sid text call e o = cc

ticks_open : (b : Bool) (now : ℕ) (call : desks.DeskCall) → (if b then Calls (desks.Tick now) else CallsNothing) ≡ Calls call → call ≡ desks.Open → ⊥
ticks_open true now call e o = cc
ticks_open false now call e o = cc

asks_open : (peer : Peer) (now : ℕ) (act : Act) (call : desks.DeskCall) → request peer now act ≡ Calls call → call ≡ desks.Open → ⊥
asks_open peer now (Hears (ops_.Connect text)) call e o = options_open (connect_options text) call e o
asks_open peer now (Hears (ops_.Pub subject reply payload)) call e o = publishes_open (is_publish_text subject && is_reply reply) now (message subject reply [] payload) call e o
asks_open peer now (Hears (ops_.HPub subject reply headers payload)) call e o = by (is_block headers) e
  where
    by : (b : Bool) → (if b then publishing now (message subject reply headers payload) else IsRefused refusals.BadHeaders) ≡ Calls call → ⊥
    by true e = publishes_open (is_publish_text subject && is_reply reply) now (message subject reply headers payload) call e o
    by false e = cc
asks_open peer now (Hears (ops_.Sub subject queue sid)) call e o = subscribes_open (is_pattern_text subject) subject queue sid _ call e o
asks_open peer now (Hears (ops_.Unsub sid max)) call e o = cc
asks_open peer now (Hears ops_.Ping) call e o = cc
asks_open peer now (Hears ops_.Pong) call e o = cc
asks_open peer now Ticks call e o = ticks_open peer.ticks now call e o

gathers_open : (client : Client) (now : ℕ) (before : List Called) (call : desks.DeskCall) → IsGathering client now before call → call ≡ desks.Open → ⊥
gathers_open client now before call (inl h) o = let e = h.1.1 in cc
gathers_open client now before call (inr h) o = let e = h.1 in cc

-- no tick is refused
ticks_refused : (b : Bool) (now : ℕ) (refusal : Refusal) → (if b then Calls (desks.Tick now) else CallsNothing) ≡ IsRefused refusal → ⊥
ticks_refused true now refusal e = cc
ticks_refused false now refusal e = cc

-- in a turn in which nothing came no operation is heard
none_heard : (acts : List Act) (op : Op) → (acts ++ Hears op ∷ [] ≡ []) ⊎ (acts ++ Hears op ∷ [] ≡ Ticks ∷ []) → ⊥
none_heard [] op (inl e) = cc
none_heard (act ∷ acts) op (inl e) = cc
none_heard acts op (inr e) = no_last (ops_of acts) op (sym (acts-append acts (Hears op ∷ [])) ∙ ap ops_of e)

-- the cause of the end is one of three
data Ending (ops : List Op) (journal : Journal) (cause : Ended) (last_said : Bytes) : Type 0 where
  Done : cause ≡ ends.Closed → ops_in journal.turns ≡ ops → journal.last ≡ talk.Told answers.Ended → last_said ≡ [] → Ending ops journal cause last_said
  Failed : cause ≡ ends.LinkFault → Ending ops journal cause last_said
  Short : cause ≡ ends.NoMemory → Ending ops journal cause last_said

-- ---- what was taken

module _ (input : Bytes) (ops : List Op) (valid : IsValid input ops) (session : ℕ) (scene new : Scene) (journal : Journal) (faults : ℕ)
    (calm : IsCalmSession input scene journal faults) (led : Leads SoloStep scene (entries_of journal) new) (untroubled : AreUntroubled new.world)
    (stage : Stage) (said : Bytes) (turns : talk.AreTurns pipe_limits (start pipe_limits session) journal.turns stage said) where
  all : Taken (start pipe_limits session) journal.turns stage
  all = taken pipe_limits (start pipe_limits session) stage journal.turns said turns none_partial

  -- the bytes of the whole turns
  abbrev bytes : Bytes
  bytes = bytes_of (answers_in journal.turns)

  bytes_with : (last : List Answer) → last_answers journal.last ≡ last → bytes_of (answers_of journal) ≡ bytes ++ bytes_of last
  bytes_with last e = flat_map-append piece_of (answers_in journal.turns) (last_answers journal.last) ∙ ap (λ (xs : List Answer). bytes ++ bytes_of xs) e

  -- ---- no limit was met

  within_input : (last : List Answer) → last_answers journal.last ≡ last → stage.taken < pipe_limits.input
  within_input last e = omega (
    arith,
    all.taken,
    valid.short,
    length-append bytes (bytes_of last),
    length-append (bytes_of (answers_of journal)) calm.tells.front.0,
    ap (λ (b : Bytes). length b) (bytes_with last e),
    ap (λ (b : Bytes). length b) calm.tells.front.1,
  )

  not_spent : journal.last ≡ talk.Nothing → talk.IsSpent pipe_limits stage → ⊥
  not_spent e (inl h) = let k = within_input [] (ap last_answers e) in omega (arith, h, k)
  not_spent e (inr h) =
      calm.tells.lively all.before [] stage.quiets h
      (ap (λ (last : Last). answers_in journal.turns ++ last_answers last) e ∙ append-nil (answers_in journal.turns) ∙ all.quiets
      ∙ ap (λ (xs : List Answer). all.before ++ xs) (sym (append-nil (replicate stage.quiets answers.Quiet))))

  not_stale : (last_said : Bytes) → talk.EndsStale pipe_limits stage journal.last last_said → ⊥
  not_stale last_said h = let k : true ≡ false = sym h.stale ∙ calm.alive session h.moment stage said turns h.last_is in cc

  -- ---- no operation was refused

  -- what stands behind the operations of a turn that is not whole
  left : (turn : Turn) (begun : List Act) (calls : List Called) (piece rest : Bytes) → journal.last ≡ talk.Within turn begun calls → turn.answer ≡ answers.Piece piece
      → talk.AreActs (stage.held ++ piece) (acts_of turn.spoken ++ begun) rest → Leaves (ops_in journal.turns ++ ops_of (acts_of turn.spoken ++ begun)) ops (rest ++ calm.tells.front.0)
  left turn begun calls piece rest last_is answer_is acts =
      let read = ops_of (acts_of turn.spoken ++ begun) in
      let split : Fronts (stage.held ++ piece) read rest = front_ops (stage.held ++ piece) rest (acts_of turn.spoken ++ begun) acts in
      let front : Fronts (bytes ++ piece) (ops_in journal.turns ++ read) rest = fronts_on bytes piece (ops_in journal.turns) read stage.held rest all.fronts split in
      let last : last_answers journal.last ≡ answers.Piece piece ∷ [] = ap last_answers last_is ∙ ap (λ (answer : Answer). answer ∷ []) answer_is in
      let came : bytes_of (answers_of journal) ≡ bytes ++ piece = bytes_with (answers.Piece piece ∷ []) last ∙ ap (λ (b : Bytes). bytes ++ b) (append-nil piece) in
      let whole : (bytes ++ piece) ++ calm.tells.front.0 ≡ input = ap (λ (b : Bytes). b ++ calm.tells.front.0) (sym came) ∙ calm.tells.front.1 in
      leaves (bytes ++ piece) rest calm.tells.front.0 (ops_in journal.turns ++ read) ops front (subst (λ (b : Bytes). Fronts b ops []) (sym whole) valid.whole)

  faulty_in : (fault : FrameFault) (last_said : Bytes) (h : talk.EndsWithFault pipe_limits stage fault journal.last last_said) (answer : Answer) → h.turn.answer ≡ answer
      → Begins pipe_limits stage h.turn (acts_of h.turn.spoken ++ []) h.rest h.taken answer → ⊥
  faulty_in fault last_said h (answers.Piece piece) e b =
      let k = left h.turn [] [] piece h.rest h.last_is e b.0 in leaves_sound h.rest calm.tells.front.0 fault h.before k.later h.refused k.fronts
  faulty_in fault last_said h answers.Quiet e b = idle_sound h.rest fault h.before h.refused (ap op_at b.0 ∙ all.idle)
  faulty_in fault last_said h answers.Ended e b = absurd b
  faulty_in fault last_said h answers.Failed e b = absurd b

  not_faulty : (fault : FrameFault) (last_said : Bytes) → talk.EndsWithFault pipe_limits stage fault journal.last last_said → ⊥
  not_faulty fault last_said h = faulty_in fault last_said h h.turn.answer refl h.within.begins

  -- an operation that asks for the end of the session stands among those that are sound
  declined_in : (turn : Turn) (op : Op) (calls : List Called) (rest : Bytes) (spent : ℕ) (refusal : Refusal) → journal.last ≡ talk.Within turn (Hears op ∷ []) calls
      → op_request turn.moment op ≡ IsRefused refusal → (answer : Answer) → turn.answer ≡ answer → Begins pipe_limits stage turn (acts_of turn.spoken ++ Hears op ∷ []) rest spent answer → ⊥
  declined_in turn op calls rest spent refusal last_is asked (answers.Piece piece) e b =
      let k = left turn (Hears op ∷ []) calls piece rest last_is e b.0 in
      let spoken = ops_of (acts_of turn.spoken) in
      let before = ops_in journal.turns ++ spoken in
      let are : ops ≡ before ++ op ∷ k.later =
      k.ops_are
      ∙ ap (λ (xs : List Op). (ops_in journal.turns ++ xs) ++ k.later) (acts-append (acts_of turn.spoken) (Hears op ∷ []))
      ∙ ap (λ (xs : List Op). xs ++ k.later) (sym (append_assoc (ops_in journal.turns) spoken (op ∷ []))) ∙ append_assoc before (op ∷ []) k.later
      in all_at IsSound before op k.later ops valid.sound are turn.moment refusal asked
  declined_in turn op calls rest spent refusal last_is asked answers.Quiet e b = none_heard (acts_of turn.spoken) op b.3
  declined_in turn op calls rest spent refusal last_is asked answers.Ended e b = absurd b
  declined_in turn op calls rest spent refusal last_is asked answers.Failed e b = absurd b

  declined : (peer : Peer) (turn : Turn) (act : Act) (calls : List Called) (rest : Bytes) (spent : ℕ) (refusal : Refusal) → journal.last ≡ talk.Within turn (act ∷ []) calls
      → request peer turn.moment act ≡ IsRefused refusal → Begins pipe_limits stage turn (acts_of turn.spoken ++ act ∷ []) rest spent turn.answer → ⊥
  declined peer turn (Hears op) calls rest spent refusal last_is asked b = declined_in turn op calls rest spent refusal last_is asked turn.answer refl b
  declined peer turn Ticks calls rest spent refusal last_is asked b = ticks_refused peer.ticks turn.moment refusal asked

  -- ---- no call of the desk ended it, but for want of memory

  fit : AreFit (entries_of journal)
  fit = run_fit scene new (entries_of journal) led untroubled

  abbrev opened : List DeskEntry
  opened = journal.opened.entries

  abbrev whole_turns : List DeskEntry
  whole_turns = flat_map entries_of_turn journal.turns

  abbrev closed : List DeskEntry
  closed = entries_of_calls journal.closed

  -- where the entries of the last call stand
  standing : (turn : Turn) (act : Act) (calls front : List Called) (last : Called) → journal.last ≡ talk.Within turn (act ∷ []) calls → calls ≡ front ++ last ∷ []
      → entries_of journal ≡ (opened ++ (whole_turns ++ (entries_of_turn turn ++ entries_of_calls front))) ++ (last.entries ++ closed)
  standing turn act calls front last last_is calls_are =
      let made : entries_of_calls calls ≡ entries_of_calls front ++ last.entries =
      ap entries_of_calls calls_are ∙ flat_map-append (λ (called : Called). called.entries) front (last ∷ []) ∙ ap (λ (es : List DeskEntry). entries_of_calls front ++ es) (append-nil last.entries)
      in
      ap (λ (l : Last). opened ++ (whole_turns ++ (entries_of_last l ++ closed))) last_is
      ∙ ap (λ (es : List DeskEntry). opened ++ (whole_turns ++ ((entries_of_turn turn ++ es) ++ closed))) made
      ∙ regroup_list opened whole_turns (entries_of_turn turn) (entries_of_calls front) last.entries closed

  last_fit : (turn : Turn) (act : Act) (calls front : List Called) (last : Called) → journal.last ≡ talk.Within turn (act ∷ []) calls → calls ≡ front ++ last ∷ [] → AreFit last.entries
  last_fit turn act calls front last last_is calls_are =
      let before = opened ++ (whole_turns ++ (entries_of_turn turn ++ entries_of_calls front)) in
      fit_front last.entries closed (fit_behind before (last.entries ++ closed) (subst AreFit (standing turn act calls front last last_is calls_are) fit))

  slow_call : (client : Client) (size : ℕ) (turn : Turn) (act : Act) (calls front : List Called) (last : Called) → journal.last ≡ talk.Within turn (act ∷ []) calls → calls ≡ front ++ last ∷ []
      → stopping.IsLastCall client (ends.Slow size) last → ⊥
  slow_call client size turn act calls front last last_is calls_are h =
      let told = does_slow client last.call size last.entries
      (subst (λ (answer : Result desks.DeskAnswer DeskFault). does.Does client last.call answer last.entries) (slow_answer last.answer size h.cause_is) h.made)
      in
      let before = opened ++ (whole_turns ++ (entries_of_turn turn ++ entries_of_calls front)) in
      let are : entries_of journal ≡ before ++ (Routed told.call (router.Slow size) ∷ closed) =
      standing turn act calls front last last_is calls_are ∙ ap (λ (es : List DeskEntry). before ++ (es ++ closed)) told.entries_are
      in never_slow scene new (entries_of journal) before closed told.call size calm.unmarked are led

  refused_call : (refusal : Refusal) (client : Client) (turn : Turn) (act : Act) (calls front : List Called) (last : Called) → journal.last ≡ talk.Within turn (act ∷ []) calls → calls ≡ front ++ last ∷ []
      → (last.call ≡ desks.Open → ⊥) → stopping.IsLastCall client (ends.Refused refusal) last → ⊥
  refused_call refusal client turn act calls front last last_is calls_are not h =
      refused_answer last.answer refusal h.cause_is (does_keeps client last.call not last.answer last.entries h.made (last_fit turn act calls front last last_is calls_are))

  stopped_slow : (size : ℕ) (last_said : Bytes) (h : EndsStopped pipe_limits stage (ends.Slow size) journal.last last_said) (peer : Peer) (said : Bytes)
      → talk.IsStopped peer h.turn.moment h.act (ends.Slow size) h.calls said → ⊥
  stopped_slow size last_said h peer said (talk.InCall own) = in_own own.0
    where
      in_own : stopping.IsOwnEnd peer.client (request peer h.turn.moment h.act) (ends.Slow size) h.calls → ⊥
      in_own (stopping.Declined refusal r c n) = cc
      in_own (stopping.Unasked c n) = cc
      in_own (stopping.Asked called r l n) = slow_call peer.client size h.turn h.act h.calls [] called h.last_is n l
  stopped_slow size last_said h peer said (talk.InGathering asked after more are a cut s) =
      slow_call (peer_after peer h.act).client size h.turn h.act h.calls (asked ++ cut.before) cut.last h.last_is (behind asked after cut.before cut.last h.calls are cut.calls_are) cut.is_last

  not_slow : (size : ℕ) (last_said : Bytes) → EndsStopped pipe_limits stage (ends.Slow size) journal.last last_said → ⊥
  not_slow size last_said h = stopped_slow size last_said h (talk.peer_in stage h.turn) h.more h.stopped

  stopped_refused : (refusal : Refusal) (last_said : Bytes) (h : EndsStopped pipe_limits stage (ends.Refused refusal) journal.last last_said) (peer : Peer) (said : Bytes)
      → talk.IsStopped peer h.turn.moment h.act (ends.Refused refusal) h.calls said → ⊥
  stopped_refused refusal last_said h peer said (talk.InCall own) = in_own own.0
    where
      in_own : stopping.IsOwnEnd peer.client (request peer h.turn.moment h.act) (ends.Refused refusal) h.calls → ⊥
      in_own (stopping.Declined other r c n) = declined peer h.turn h.act h.calls h.rest h.taken other h.last_is r h.within.begins
      in_own (stopping.Unasked c n) = cc
      in_own (stopping.Asked called r l n) =
          refused_call refusal peer.client h.turn h.act h.calls [] called h.last_is n (λ e. asks_open peer h.turn.moment h.act called.call r e) l
  stopped_refused refusal last_said h peer said (talk.InGathering asked after more are a cut s) =
      refused_call refusal (peer_after peer h.act).client h.turn h.act h.calls (asked ++ cut.before) cut.last h.last_is (behind asked after cut.before cut.last h.calls are cut.calls_are)
      (gathers_open (peer_after peer h.act).client h.turn.moment cut.before cut.last.call cut.comes) cut.is_last

  not_refused : (refusal : Refusal) (last_said : Bytes) → EndsStopped pipe_limits stage (ends.Refused refusal) journal.last last_said → ⊥
  not_refused refusal last_said h = stopped_refused refusal last_said h (talk.peer_in stage h.turn) h.more h.stopped

  -- ---- the end

  -- if the link told its end, all operations were carried out
  all_done : journal.last ≡ talk.Told answers.Ended → ops_in journal.turns ≡ ops
  all_done e =
      let last = ap last_answers e in
      let came : bytes_of (answers_of journal) ≡ bytes ++ [] = bytes_with (answers.Ended ∷ []) last in
      let whole : bytes ++ [] ≡ input =
      sym came ∙ calm.tells.whole (answers_in journal.turns) (ap (λ (xs : List Answer). answers_in journal.turns ++ xs) last)
      in
      let k = leaves bytes stage.held [] (ops_in journal.turns) ops all.fronts (subst (λ (b : Bytes). Fronts b ops []) (sym whole) valid.whole) in
      let none = leaves_none stage.held k.later all.idle (subst (λ (b : Bytes). Fronts b k.later []) (append-nil stage.held) k.fronts) in
      sym (k.ops_are ∙ ap (λ (xs : List Op). ops_in journal.turns ++ xs) none ∙ append-nil (ops_in journal.turns))

  ending : (cause : Ended) (last_said : Bytes) → IsCause pipe_limits (start pipe_limits session) stage (greeting pipe_limits session) cause journal.last last_said → Ending ops journal cause last_said
  ending ends.Closed last_said h = Done refl (all_done h.1.last_is) h.1.last_is h.1.said_is
  ending (ends.Refused (refusals.Frame fault)) last_said h = absurd (not_faulty fault last_said h)
  ending (ends.Refused refusals.BadConnect) last_said h = absurd (not_refused refusals.BadConnect last_said h)
  ending (ends.Refused refusals.BadHeaders) last_said h = absurd (not_refused refusals.BadHeaders last_said h)
  ending (ends.Refused refusals.NumbersUsed) last_said h = absurd (not_refused refusals.NumbersUsed last_said h)
  ending (ends.Slow size) last_said h = absurd (not_slow size last_said h)
  ending ends.Stale last_said h = absurd (not_stale last_said h)
  ending ends.LinkFault last_said h = Failed refl
  ending ends.InputLimit last_said h = absurd (not_spent h.1.last_is h.0)
  ending ends.NoMemory last_said h = Short refl

-- the session ends by its cause, or since something could not be written
ends_same : (last : Last) (cause ended : Ended) (written whole : Bytes) → EndsAs last cause ended written whole → (ended ≡ cause) ⊎ talk.IsUnwritten ended
ends_same (talk.Told answer) cause ended written whole h = inl h.0
ends_same talk.Greeting cause ended written whole (inl h) = inl h.0
ends_same talk.Greeting cause ended written whole (inr h) = inr h.1
ends_same talk.Nothing cause ended written whole (inl h) = inl h.0
ends_same talk.Nothing cause ended written whole (inr h) = inr h.1
ends_same (talk.Within turn begun calls) cause ended written whole (inl h) = inl h.0
ends_same (talk.Within turn begun calls) cause ended written whole (inr h) = inr h.1
ends_same (talk.Waiting moment) cause ended written whole (inl h) = inl h.0
ends_same (talk.Waiting moment) cause ended written whole (inr h) = inr h.1

unwritten : (cause ended : Ended) → (ended ≡ cause) ⊎ talk.IsUnwritten ended → talk.IsUnwritten cause → talk.IsUnwritten ended
unwritten cause ended (inl same) h = subst talk.IsUnwritten (sym same) h
unwritten cause ended (inr h) k = h

-- ---- the session

module _ (input : Bytes) (ops : List Op) (valid : IsValid input ops) (scene new : Scene) (journal : Journal) (risen : ℕ)
    (calm : IsCalmSession input scene journal risen) (led : Leads SoloStep scene (entries_of journal) new) (untroubled : AreUntroubled new.world) (room : HadRoom scene.world.places (entries_of journal) new.world.places)
    (fresh : scene.world.router.latest ≡ 0) (written : Bytes) (ended : Ended) where
  abbrev Outcome : Type 0
  Outcome = ((ended ≡ ends.Closed) × IsAnswered ops journal written) ⊎ talk.IsUnwritten ended

  ended_so : (session : ℕ) (h : IsTalk pipe_limits session journal written ended)
      → Ending ops journal h.ends.cause h.ends.said → Outcome
  ended_so session h (Done cause_is all last_is said_is) =
      let ends_as = subst (λ (last : Last). EndsAs last h.ends.cause ended h.more (h.ends.said ++ talk.last_line h.ends.cause)) last_is h.ends.ends_as in
      let none : h.more ≡ [] =
      ends_as.1 ∙ ap (λ (bytes : Bytes). bytes ++ talk.last_line h.ends.cause) said_is ∙ ap talk.last_line cause_is
      in
      let front = greeting pipe_limits session in
      inl (
        ends_as.0 ∙ cause_is,
        record {
          session = session;
          stage = h.stage;
          said = h.said;
          turns = h.turns;
          all = all;
          unbroken = unbroken (entries_of journal)
              (whole_of (entries_of journal) (run_fit scene new (entries_of journal) led untroubled) (run_roomy scene new (entries_of journal) led room));
          written = h.written ∙ ap (λ (last : Last). talk.before_last front last h.said ++ h.more) last_is
              ∙ ap (λ (bytes : Bytes). (front ++ h.said) ++ bytes) none ∙ append-nil (front ++ h.said);
        },
      )
  ended_so session h (Failed cause_is) =
      inr (unwritten h.ends.cause ended (ends_same journal.last h.ends.cause ended h.more (h.ends.said ++ talk.last_line h.ends.cause) h.ends.ends_as) (inl cause_is))
  ended_so session h (Short cause_is) =
      inr (unwritten h.ends.cause ended (ends_same journal.last h.ends.cause ended h.more (h.ends.said ++ talk.last_line h.ends.cause) h.ends.ends_as) (inr cause_is))

  -- the opening has a number for it
  not_worn : (told : router.RouteTold) (number : ℕ) (rest : List DeskEntry) → does.Says told (Err (faults.Worn number)) → Leads SoloStep scene (Routed router.Open told ∷ rest) new → ⊥
  not_worn router.Done number rest h run = cc
  not_worn (router.Opened session) number rest h run = cc
  not_worn (router.Taken count) number rest h run = h
  not_worn (router.Listens heard) number rest h run = h
  not_worn (router.Frames list more) number rest h run = cc
  not_worn (router.Slow length) number rest h run = cc
  not_worn (router.NoSession latest) number rest h run = h
  not_worn router.TooManySubs number rest h run = cc
  not_worn router.Worn number rest h run = is_not_worn scene.world.router run.0.world.router fresh run.1.0
  not_worn router.NoMemory number rest h run = cc

  opens_numbered : (number : ℕ) (rest : List DeskEntry) → entries_of journal ≡ journal.opened.entries ++ rest → does.Does (new_client 0) desks.Open (Err (faults.Worn number)) journal.opened.entries → ⊥
  opens_numbered number rest are (inl h) =
      not_worn h.0 number rest h.3 (subst (λ (es : List DeskEntry). Leads SoloStep scene es new) (are ∙ ap (λ (es : List DeskEntry). es ++ rest) h.1) led)
  opens_numbered number rest are (inr h) =
      let fit = run_fit scene new (entries_of journal) led untroubled in
      let k = subst AreFit (are ∙ ap (λ (es : List DeskEntry). es ++ rest) h.2) fit in k.0

  faulted_so : (fault : DeskFault) → does.Does (new_client 0) desks.Open (Err fault) journal.opened.entries → ended ≡ stopping.end_of_fault fault → Outcome
  faulted_so faults.NoMemory made e = inr (inr e)
  faulted_so faults.TooManySubs made e = inr (inr e)
  faulted_so (faults.Worn number) made e = absurd (opens_numbered number _ refl made)
  faulted_so (faults.NoSession latest) made e = inr (inr e)

  opened_so : (answer : Result desks.DeskAnswer DeskFault) → journal.opened.call ≡ desks.Open → journal.opened.answer ≡ answer → talk.TalksBy answer pipe_limits journal written ended → Outcome
  opened_so (Ok (desks.Opened session)) c e h =
      let k = h.1 in
      ended_so session k (ending input ops valid session scene new journal risen calm led untroubled k.stage k.said k.turns k.ends.cause k.ends.said k.ends.is_cause)
  opened_so (Ok desks.Done) c e h = absurd h
  opened_so (Ok (desks.Took taken)) c e h = absurd h
  opened_so (Ok (desks.Settled ready)) c e h = absurd h
  opened_so (Ok (desks.Gave list more)) c e h = absurd h
  opened_so (Ok (desks.Slow size)) c e h = absurd h
  opened_so (Err fault) c e h =
      let made : does.Does (new_client 0) desks.Open (Err fault) journal.opened.entries =
      subst (λ (answer : Result desks.DeskAnswer DeskFault). does.Does (new_client 0) desks.Open answer journal.opened.entries) e
      (subst (λ (call : desks.DeskCall). does.Does (new_client 0) call journal.opened.answer journal.opened.entries) c h.0)
      in faulted_so fault made h.2

  pub outcome : talk.Talk pipe_limits journal written ended → Outcome
  outcome h = opened_so journal.opened.answer h.opened refl h.talks

-- ---- the run

not_rose : (risen : ℕ) → risen ≡ 0 → Rose 0 risen → ⊥
not_rose risen e h = omega (arith, e, h)

unserved : (status : ℕ) (old new : DoorTold) → IsUnserved status old new → (Rose old.faults new.faults → ⊥) → (IsQuiet old.answered new.answered → ⊥)
    → ((status ≡ 0) × Unit {0}) ⊎ (status ≡ 7)
unserved status old new (WasClosed s a n) rose quiet = inl (s, tt)
unserved status old new (HasFailed s r a n) rose quiet = absurd (rose r)
unserved status old new (WasQuiet s a n) rose quiet = absurd (quiet a)
unserved status old new (HasStarved s a n) rose quiet = inr s
unserved status old new (WasUnasked s a n) rose quiet = inr s

-- the status of such an end, if the link did not fail
statused : (ended : Ended) (status : ℕ) (P : Type 0) → ((ended ≡ ends.Closed) × P) ⊎ talk.IsUnwritten ended → status ≡ status_of ended → (status ≡ 3 → ⊥) → ((status ≡ 0) × P) ⊎ (status ≡ 7)
statused ended status P (inl h) e sound = inl (e ∙ ap status_of h.0, h.1)
statused ended status P (inr (inl h)) e sound = absurd (sound (e ∙ ap status_of h))
statused ended status P (inr (inr h)) e sound = inr (e ∙ ap status_of h)

waited : (scene after : Scene) (status : ℕ) (old new : DoorTold) (c0 c1 : Option (List ℕ)) (waits : Waits scene after status old new c0 c1) (input : Bytes) (ops : List Op)
    → scene.world.router.latest ≡ 0 → AreUntroubled after.world → HadRoom scene.world.places (session_entries scene after status old new c0 c1 waits) after.world.places
    → IsValid input ops → IsCalmWait input waits → ((status ≡ 0) × AreAnsweredAt ops waits) ⊎ (status ≡ 7)
waited scene after status old new c0 c1 (inl none) input ops fresh untroubled room valid calm = unserved status old new none.unserved calm.0 calm.1
waited scene after status old new c0 c1 (inr link) input ops fresh untroubled room valid calm =
    let served = link.given_back.served in
    let journal = served.journal in
    let risen = link.given_back.report.faults in
    let so = outcome input ops valid scene after journal risen calm served.led untroubled room fresh served.bytes served.ended served.talk in
    statused served.ended status (IsAnswered ops journal served.bytes) so served.status_is (λ three. not_rose risen calm.unfailed (served.cause three))

-- ---- the stream

made_fault : (fault : DeskFault) (status : ℕ) → status ≡ status_of (stopping.end_of_fault fault) → IsNumbered fault → status ≡ 7
made_fault faults.NoMemory status e n = e
made_fault faults.TooManySubs status e n = e
made_fault (faults.Worn number) status e n = absurd n
made_fault (faults.NoSession latest) status e n = e

made_numbered : (opened : List PlaceIn) (stream : Option NamedStream) (result : Result (Option ApiError) DeskFault) (c0 c1 : Option (List ℕ)) (after : Scene)
    → Prepares opened stream result c0 c1 after → AreUntroubled after.world → NoWorn result
made_numbered _ None result c0 c1 after h u = subst NoWorn (sym h.0) tt
made_numbered opened (Some stream) result c0 c1 after h u =
    makes_stream_keeps stream.name (default_config stream.name stream.subject) h.moment result h.entries h.makes (run_fit (opening opened) after h.entries h.led u)

not_welcome : (opened : List PlaceIn) (stream : Option NamedStream) (error : ApiError) (c0 c1 : Option (List ℕ)) (after : Scene)
    → (h : Prepares opened stream (Ok (Some error)) c0 c1 after) → IsWelcome opened stream → AreUntroubled after.world
    → HadRoom opened (prepared_entries opened stream (Ok (Some error)) c0 c1 after h) after.world.places → ⊥
not_welcome opened None error c0 c1 after h w u room = let clash = h.0 in cc
not_welcome opened (Some stream) error c0 c1 after h w u room = w error c0 c1 after h u room

unmade : (opened : List PlaceIn) (stream : Option NamedStream) (result : Result (Option ApiError) DeskFault) (c0 c1 : Option (List ℕ)) (after : Scene) (status : ℕ) (old new : SinkTold)
    → (h : Prepares opened stream result c0 c1 after) → Unmakes result status old new → IsWelcome opened stream → AreUntroubled after.world
    → HadRoom opened (prepared_entries opened stream result c0 c1 after h) after.world.places → status ≡ 7
unmade _ stream (Ok None) c0 c1 after status old new h m w u room = absurd m
unmade opened stream (Ok (Some error)) c0 c1 after status old new h m w u room = absurd (not_welcome opened stream error c0 c1 after h w u room)
unmade opened stream (Err fault) c0 c1 after status old new h m w u room = made_fault fault status m (made_numbered opened stream (Err fault) c0 c1 after h u)

attended : (opened : List PlaceIn) (stream : Option NamedStream) (after : Scene) (status : ℕ) (old new : Outside) (attends : Attends opened stream after status old new) (input : Bytes) (ops : List Op)
    → IsWelcome opened stream → AreUntroubled after.world → HadRoom opened (run_entries opened stream after status old new attends) after.world.places → IsValid input ops → IsCalmOver input attends
    → ((status ≡ 0) × AreAnsweredOver ops attends) ⊎ (status ≡ 7)
attended opened stream after status old new (Unmade h) input ops welcome untroubled room valid calm =
    inr (unmade opened stream h.result old.clock new.clock after status old.sink new.sink h.prepared h.unmade welcome untroubled room)
attended opened stream after status old new (Awaited h) input ops welcome untroubled room valid calm =
    let first = prepared_entries opened stream (Ok None) old.clock h.rest h.scene h.prepared in
    let more = session_entries h.scene after status old.door new.door h.rest new.clock h.waits in
    let left = room_behind (opening opened) h.scene after first more (prepared_led opened stream (Ok None) old.clock h.rest h.scene h.prepared)
    (session_led h.scene after status old.door new.door h.rest new.clock h.waits) room in
    waited h.scene after status old.door new.door h.rest new.clock h.waits input ops (prepared_latest opened stream (Ok None) old.clock h.rest h.scene h.prepared) untroubled left valid calm

-- ---- the closing

closed_with : (served : Bool) (talked flushed : ℕ) (P : Type 0) → flushed ≡ 7 → ((talked ≡ 0) × P) ⊎ (talked ≡ 7) → status_with served talked flushed ≡ 7
closed_with served talked flushed P f (inl h) = ap (λ (n : ℕ). status_with served n flushed) h.0 ∙ f
closed_with served talked flushed P f (inr h) = ap (λ (n : ℕ). status_with served n flushed) h ∙ seven served flushed
  where
    both : (b : Bool) → ◌≡◌ {A = ℕ} (if b then 7 else 7) 7
    both true = refl
    both false = refl

    seven : (served : Bool) (flushed : ℕ) → status_with served 7 flushed ≡ 7
    seven served flushed = both (served && flushed == 7)

settled : (served : Bool) (talked status : ℕ) (failed : Option (ℕ × PlaceFault)) (P : Type 0) → IsFlushed failed → status ≡ closing_status served talked failed → ((talked ≡ 0) × P) ⊎ (talked ≡ 7)
    → ((status ≡ 0) × P) ⊎ (status ≡ 7)
settled served talked status None P f e (inl h) = inl (e ∙ h.0, h.1)
settled served talked status None P f e (inr h) = inr (e ∙ h)
settled served talked status (Some failed) P f e h = inr (e ∙ closed_with served talked (flush_status failed.1) P f h)

module _ {V : Type 0} (Opens : List V → Solo V → Type 0) (Refuses : List V → HubFault V → Type 0) (Made : Solo V → List DeskEntry → Solo V → Type 0) (Closes : Solo V → Closed V → Type 0) where
  pub complete : LawComplete Opens Refuses Made Closes
  complete stream status v0 v1 old new input ops may welcome valid calm (Starved h) untroubled = inr h.status_is
  complete stream status v0 v1 old new input ops may welcome valid calm (Unopened h) untroubled = inr (h.status_is ∙ may h.fault h.refused h.vols)
  complete stream status v0 v1 old new input ops may welcome valid calm (Attended h) untroubled =
      let attends = h.attended.attends in
      let opened = h.desk.scene.world.places in
      settled h.outcome.served h.outcome.status status h.closed.failed (AreAnsweredOver ops attends) untroubled.2 h.status_is
      (attended opened stream h.after.scene h.outcome.status old (record new { sink = h.sink }) attends input ops (welcome h.desk h.opens) untroubled.0 untroubled.1 valid (calm h untroubled.0))
