-- Laws of an operation or a tick that is carried out.
use Rattle.std.proofs.Common.{◌≡◌, ℕ, true, false, Bool, List, [], ◌∷◌, ◌++◌, cond, Result, Ok, Err, IsErrAnd, refl, sym, ap, subst, ◌∙◌, append_assoc}
use Rattle.std.proofs.lemmas.List.{append-nil}
use Rattle.js_base.specs.Bytes.{Bytes}
use Rattle.js_api.specs.declared.fault.DeskFault.{DeskFault}
use Rattle.js_api.specs.Entries.{DeskEntry}
use Rattle.js_api.specs.Leading.{Makes}
use Rattle.js_api.specs.Clients.{Client}
use Rattle.js_api.specs.Answering.{DeskAnswer, Tick, Done}
use Rattle.js_api.specs.Calls.{Does}
use Rattle.session.specs.Calling.{Called, entries_of_calls}
use Rattle.session.specs.Gathering.{AreGathered, IsGathering, collected}
use Rattle.session.specs.Leading.{Adds, Cuts}
use Rattle.session.specs.Stopping.{IsCutBy, cause_of, end_after, is_starved, still_written}
use Rattle.session.specs.Manners.{peer_of}
use Rattle.session.specs.Peer.{Act, Ticks, Peer, Request, Calls, CallsNothing, peer_after, request}
use Rattle.session.specs.Talk.{AreAsked, IsStopped, InCall, InGathering, direct_answer}
use Rattle.session.specs.Asking.{Asks, IsAsked}
use Rattle.session.specs.Settling.{Gathers}
use Rattle.session.specs.Carrying.{IsCarried, Carries}
use Rattle.session.proofs.Asked.{asked_last}
use Rattle.session.proofs.Led.{both_led, one_led}
use Rattle.session.specs.declared.ending.Ended.{Ended}
use Rattle.session.specs.declared.manners.Manners.{Manners}
use Rattle.session.specs.declared.stop.Stop.{Stop}

-- what is said for the operation itself
abbrev said_by : Peer → ℕ → Act → List Called → Bytes
said_by peer now act = direct_answer (peer_after peer act) (request peer now act) act

-- the direct answer, and then what was gathered
both_written : (a b c said more : Bytes) → b ≡ a ++ said → c ≡ b ++ more → c ≡ a ++ (said ++ more)
both_written a b c said more e f = f ∙ ap (λ (bytes : Bytes). bytes ++ more) e ∙ append_assoc a said more

-- unless memory ran out, what was said is still written
written_still : (cause : Ended) (said : Bytes) → is_starved cause ≡ false → still_written cause said ≡ said
written_still cause said n = ap (λ (b : Bool). cond b [] said) n

module _ {D : Type 0} (made : D → List DeskEntry → D → Type 0) (peer : Peer) (now : ℕ) (act : Act) where
  -- the operation ended the session before anything was gathered
  pub carries_stop : (old new : D) (a b : Bytes) (stop : Stop) → Asks made peer.client (request peer now act) (said_by peer now act) old new a b (Err stop)
      → Carries made peer now act old new a b (Err stop)
  carries_stop old new a b stop h = record { calls = h.calls; said = h.said; are = InCall h.are; led = h.led; added = h.added }

module _ {D : Type 0} (made : D → List DeskEntry → D → Type 0) (more_led : (a b c : D) (xs ys : List DeskEntry) → made a xs b → made b ys c → made a (xs ++ ys) c)
    (peer : Peer) (now : ℕ) (act : Act) where
  abbrev after : Client
  after = (peer_after peer act).client

  carried : (old mid new : D) (a b c : Bytes) → IsAsked made peer.client (request peer now act) (said_by peer now act) old mid a b
      → Adds made mid new b c (AreGathered after now) → IsCarried made peer now act old new a c
  carried old mid new a b c h k = record {
    spoken = record { act = act; calls = h.calls; gathered = k.calls };
    act_is = refl;
    is_spoken = record { asked = h.asked; gathered = k.are };
    led = more_led old mid new (entries_of_calls h.calls) (entries_of_calls k.calls) h.led k.led;
    written = both_written a b c (said_by peer now act h.calls) (collected k.calls) h.written k.written;
  }

  -- the session ends as what waits is gathered
  gathering_ends : (cause : Ended) (old mid new : D) (a b c : Bytes) → IsAsked made peer.client (request peer now act) (said_by peer now act) old mid a b
      → Cuts made cause mid new b c (IsCutBy (IsGathering after now) after cause) → Cuts made cause old new a c (IsStopped peer now act cause)
  gathering_ends cause old mid new a b c h k =
      let all : Bytes = said_by peer now act h.calls ++ k.said in
      record {
        calls = h.calls ++ k.calls;
        said = still_written cause all;
        are = InGathering h.calls k.calls k.said refl h.asked k.are refl;
        led = both_led made more_led old mid new h.calls k.calls h.led k.led;
        added = λ n. both_written a b c (said_by peer now act h.calls) k.said h.written (k.added n) ∙ ap (λ (bytes : Bytes). a ++ bytes) (sym (written_still cause all n));
      }

  by_result : (old mid new : D) (a b c : Bytes) (result : Result (Unit {0}) Stop) → IsAsked made peer.client (request peer now act) (said_by peer now act) old mid a b
      → Gathers made after now mid new b c result → Carries made peer now act old new a c result
  by_result old mid new a b c (Ok x) h k = carried old mid new a b c h k
  by_result old mid new a b c (Err stop) h k = gathering_ends (cause_of stop) old mid new a b c h k

  -- it was asked, and then what waits was gathered
  pub carries : (old mid new : D) (a b c : Bytes) (result : Result (Unit {0}) Stop) (client : Client) (manners : Manners)
      → IsAsked made peer.client (request peer now act) (said_by peer now act) old mid a b → peer_of client manners ≡ peer_after peer act → Gathers made client now mid new b c result
      → Carries made peer now act old new a c result
  carries old mid new a b c result client manners h e k =
      by_result old mid new a b c result h (subst (λ (p : Peer). Gathers made p.client now mid new b c result) e k)

-- ---- a tick

module _ {D : Type 0} (made : D → List DeskEntry → D → Type 0) (client : Client) (now : ℕ) (manners : Manners) where
  abbrev asks : Request
  asks = request (peer_of client manners) now Ticks

  ticking : manners.ticks ≡ true → asks ≡ Calls (Tick now)
  ticking e = ap (λ (b : Bool). cond b (Calls (Tick now)) CallsNothing) e

  leaving : manners.ticks ≡ false → asks ≡ CallsNothing
  leaving e = ap (λ (b : Bool). cond b (Calls (Tick now)) CallsNothing) e

  abbrev IsTickAsked : D → D → Bytes → Type 0
  IsTickAsked old new a = IsAsked made client asks (said_by (peer_of client manners) now Ticks) old new a a

  -- time passed
  pub tick_asked : (old new : D) (a : Bytes) → manners.ticks ≡ true → Makes made (Does client (Tick now) (Ok Done)) old new → IsTickAsked old new a
  tick_asked old new a e m =
      let called : Called = record { call = Tick now; answer = Ok Done; entries = m.entries } in
      record {
        calls = called ∷ [];
        asked = subst (λ (r : Request). AreAsked client r (called ∷ [])) (sym (ticking e)) (called, refl, refl, tt, m.are);
        led = one_led made old new m.entries m.led;
        written = sym (append-nil a);
      }

  -- the session left it to somebody else
  pub tick_left : (old : D) (a : Bytes) → manners.ticks ≡ false → made old [] old → IsTickAsked old old a
  tick_left old a e h = record {
    calls = [];
    asked = subst (λ (r : Request). AreAsked client r []) (sym (leaving e)) refl;
    led = h;
    written = sym (append-nil a);
  }

  -- the session ends for the answer of the tick
  pub tick_ends : (result : Result (Unit {0}) Stop) (old new : D) (a : Bytes) (answer : Result DeskAnswer DeskFault) → manners.ticks ≡ true
      → IsErrAnd result (λ (stop : Stop). cause_of stop ≡ end_after answer) → Makes made (Does client (Tick now) answer) old new
      → Carries made (peer_of client manners) now Ticks old new a a result
  tick_ends (Ok x) old new a answer e s m = absurd s
  tick_ends (Err stop) old new a answer e s m =
      carries_stop made (peer_of client manners) now Ticks old new a a stop
      (asked_last made client (cause_of stop) old new a a asks (Tick now) answer (ticking e) m s (λ n. refl))

-- what waits was gathered after the tick
pub tick_carries : {D : Type 0} (made : D → List DeskEntry → D → Type 0) (more_led : (a b c : D) (xs ys : List DeskEntry) → made a xs b → made b ys c → made a (xs ++ ys) c)
    (client other : Client) (now : ℕ) (manners : Manners) (old mid new : D) (a b : Bytes) (result : Result (Unit {0}) Stop)
    → IsAsked made client (request (peer_of client manners) now Ticks) (said_by (peer_of client manners) now Ticks) old mid a a
    → other ≡ client → Gathers made other now mid new a b result → Carries made (peer_of client manners) now Ticks old new a b result
tick_carries made more_led client other now manners old mid new a b result h e k =
    carries made more_led (peer_of client manners) now Ticks old mid new a a b result other manners h (ap (λ (c : Client). peer_of c manners) e) k
