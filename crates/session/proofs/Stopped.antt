-- Laws of stops within an operation or a tick, and of operations that were not carried out whole.
use Rattle.std.proofs.Common.{◌≡◌, ℕ, true, false, ◌&&◌, cond, codes, List, [], ◌∷◌, Option, Some, None, Result, Ok, Err, refl, sym, subst, inl, inr}
use Rattle.std.proofs.lemmas.List.{append-nil}
use Rattle.js_base.specs.Bytes.{Bytes}
use Rattle.js_base.specs.Headers.{is_block}
use Rattle.js_base.specs.Subjects.{is_pattern_text, is_publish_text}
use Rattle.js_base.specs.declared.out.Out.{Out}
use Rattle.nats_frames.specs.declared.op.Op.{Op}
use Rattle.nats_frames.specs.declared.op.Op.TheVariants.{Connect, Pub, HPub, Sub, Unsub, Ping, Pong}
use Rattle.nats_frames.specs.declared.op.FrameFault.{FrameFault}
use Rattle.nats_frames.specs.Decoding.{Held, total, IsFront, IsRefused}
use Rattle.js_api.specs.declared.fault.DeskFault.{DeskFault}
use Rattle.js_api.specs.declared.fault.DeskFault.TheVariants as faults
use Rattle.js_api.specs.Entries.{DeskEntry}
use Rattle.js_api.specs.Answering.{DeskAnswer, Opened, Done, Took, Settled, Gave, Slow, Publish, Tick, Sub as Subscribe}
use Rattle.session.specs.Calling.{Called}
use Rattle.session.specs.Connecting.{connect_options}
use Rattle.session.specs.Peer.{Act, Hears as Hearing, Ticks, Peer, Request, Calls, CallsNothing, IsWrong, IsUnpublishable, IsRefused as Refuses, op_request, request, connecting, publishing, message, is_reply}
use Rattle.session.specs.Stopping.{IsOwnEnd, Declined, Unasked, Asked, end_after}
use Rattle.session.specs.Talk.{IsStopped, InCall, InGathering}
use Rattle.session.specs.Carrying.{Carries}
use Rattle.session.specs.Hearing.{IsHalted}
use Rattle.session.specs.Ticking.{Within, Between}
use Rattle.session.specs.declared.connect.ConnectOptions.{ConnectOptions}
use Rattle.session.specs.declared.ending.Ended.{Ended}
use Rattle.session.specs.declared.ending.Ended.TheVariants as ends
use Rattle.session.specs.declared.ending.Refusal.TheVariants as refusals
use Rattle.session.specs.declared.stop.Stop.{Stop}
use Rattle.session.specs.declared.stop.Stop.TheVariants as stops

-- ---- which ends a stop makes

-- the ends that an operation or a tick can make: no fault of the input, and none that the link, the clock or the limits make
abbrev pub IsStopEnd : Ended → Type 0
IsStopEnd ends.Closed = ⊥
IsStopEnd (ends.Refused (refusals.Frame fault)) = ⊥
IsStopEnd (ends.Refused refusals.BadConnect) = Unit {0}
IsStopEnd (ends.Refused refusals.BadHeaders) = Unit {0}
IsStopEnd (ends.Refused refusals.NumbersUsed) = Unit {0}
IsStopEnd (ends.Slow size) = Unit {0}
IsStopEnd ends.Stale = ⊥
IsStopEnd ends.LinkFault = ⊥
IsStopEnd ends.InputLimit = ⊥
IsStopEnd ends.NoMemory = Unit {0}

abbrev AreOwn : Request → Type 0
AreOwn (Refuses refusal) = IsStopEnd (ends.Refused refusal)
AreOwn (Calls call) = Unit {0}
AreOwn CallsNothing = Unit {0}
AreOwn (IsWrong text) = Unit {0}
AreOwn IsUnpublishable = Unit {0}

own_connecting : (options : Option ConnectOptions) → AreOwn (connecting options)
own_connecting None = tt
own_connecting (Some options) = tt

own_publishing : (now : ℕ) (out : Out) → AreOwn (publishing now out)
own_publishing now out =
    elim (is_publish_text out.to && is_reply out.reply) as (λ b. AreOwn (cond b (Calls (Publish out now)) IsUnpublishable)) [ true ↦ tt | false ↦ tt ]

own_request : (now : ℕ) (op : Op) → AreOwn (op_request now op)
own_request now (Connect text) = own_connecting (connect_options text)
own_request now (Pub subject reply payload) = own_publishing now (message subject reply [] payload)
own_request now (HPub subject reply headers payload) =
    elim (is_block headers) as (λ b. AreOwn (cond b (publishing now (message subject reply headers payload)) (Refuses refusals.BadHeaders)))
    [ true ↦ own_publishing now (message subject reply headers payload) | false ↦ tt ]
own_request now (Sub subject queue sid) =
    elim (is_pattern_text subject) as (λ b. AreOwn (cond b (Calls (Subscribe subject queue sid)) (IsWrong (codes "Invalid Subject")))) [ true ↦ tt | false ↦ tt ]
own_request now (Unsub sid max) = tt
own_request now Ping = tt
own_request now Pong = tt

own_act : (peer : Peer) (now : ℕ) (act : Act) → AreOwn (request peer now act)
own_act peer now (Hearing op) = own_request now op
own_act peer now Ticks = elim peer.ticks as (λ b. AreOwn (cond b (Calls (Tick now)) CallsNothing)) [ true ↦ tt | false ↦ tt ]

fault_ends : (fault : DeskFault) → IsStopEnd (end_after (Err fault))
fault_ends faults.NoMemory = tt
fault_ends faults.TooManySubs = tt
fault_ends (faults.Worn number) = tt
fault_ends (faults.NoSession latest) = tt

answer_ends : (answer : Result DeskAnswer DeskFault) → IsStopEnd (end_after answer)
answer_ends (Ok (Opened session)) = tt
answer_ends (Ok Done) = tt
answer_ends (Ok (Took taken)) = tt
answer_ends (Ok (Settled ready)) = tt
answer_ends (Ok (Gave list more)) = tt
answer_ends (Ok (Slow length)) = tt
answer_ends (Err fault) = fault_ends fault

last_ends : (cause : Ended) (answer : Result DeskAnswer DeskFault) → cause ≡ end_after answer → IsStopEnd cause
last_ends cause answer e = subst IsStopEnd (sym e) (answer_ends answer)

own_ends : (peer : Peer) (now : ℕ) (act : Act) (cause : Ended) (calls : List Called) → IsOwnEnd peer.client (request peer now act) cause calls → IsStopEnd cause
own_ends peer now act cause calls (Declined refusal r e c) = subst IsStopEnd (sym e) (subst AreOwn r (own_act peer now act))
own_ends peer now act cause calls (Unasked e c) = subst IsStopEnd (sym e) tt
own_ends peer now act cause calls (Asked called r l c) = last_ends cause called.answer l.cause_is

pub stop_ends : (peer : Peer) (now : ℕ) (act : Act) (cause : Ended) (calls : List Called) (said : Bytes) → IsStopped peer now act cause calls said → IsStopEnd cause
stop_ends peer now act cause calls said (InCall h) = own_ends peer now act cause calls h.0
stop_ends peer now act cause calls said (InGathering asked after more e a h s) = last_ends cause h.last.answer h.is_last.cause_is

-- ---- an operation that was not carried out whole

pub halted_op : {D : Type 0} (made : D → List DeskEntry → D → Type 0) (now : ℕ) (peer : Peer) (old new : D) (held rest : Held) (out_old out_new : Bytes) (op : Op) (stop : Stop)
    → IsFront op held.bytes rest.bytes → total rest ≡ total held → Carries made peer now (Hearing op) old new out_old out_new (Err stop)
    → IsHalted stop made now peer old new held out_old out_new
halted_op made now peer old new held rest out_old out_new op stop f t k = record {
  begun = op ∷ [];
  calls = k.calls;
  before = rest.before;
  rest = rest.bytes;
  said = k.said;
  split = (f.front, rest.bytes, f.spelled, f.whole, refl);
  place = t;
  stops = inl (Within (Hearing op) refl k.are);
  led = k.led;
  added = k.added;
}

-- a fault of the input
pub halted_fault : {D : Type 0} (made : D → List DeskEntry → D → Type 0) (now : ℕ) (peer : Peer) (old : D) (held : Held) (out : Bytes) (fault : FrameFault) → made old [] old
    → IsRefused fault held.before held.bytes → IsHalted (stops.Refused (refusals.Frame fault)) made now peer old old held out out
halted_fault made now peer old held out fault h r = record {
  begun = [];
  calls = [];
  before = held.before;
  rest = held.bytes;
  said = [];
  split = refl;
  place = refl;
  stops = inr (record { fault = fault; cause_is = refl; refused = r; none_begun = refl; no_calls = refl; unsaid = refl });
  led = h;
  added = λ n. sym (append-nil out);
}

-- memory ran out before the next operation was read
pub halted_unread : {D : Type 0} (made : D → List DeskEntry → D → Type 0) (now : ℕ) (peer : Peer) (old : D) (held : Held) (out_old out_new : Bytes) → made old [] old
    → IsHalted stops.NoMemory made now peer old old held out_old out_new
halted_unread made now peer old held out_old out_new h = record {
  begun = [];
  calls = [];
  before = held.before;
  rest = held.bytes;
  said = [];
  split = refl;
  place = refl;
  stops = inl (Between refl refl refl (inr refl));
  led = h;
  added = λ n. cc;
}
