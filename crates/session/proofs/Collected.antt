-- Laws of collects, one after the other.
use Rattle.std.proofs.Common.{◌≡◌, ℕ, Bool, true, false, List, [], ◌∷◌, ◌++◌, Result, Ok, Err, refl, sym, ap, subst, ◌∙◌}
use Rattle.std.proofs.lemmas.List.{append-nil}
use Rattle.js_base.specs.Bytes.{Bytes}
use Rattle.js_base.specs.declared.frame.Frame.{Frame}
use Rattle.js_api.specs.declared.fault.DeskFault.{DeskFault}
use Rattle.js_api.specs.Entries.{DeskEntry}
use Rattle.js_api.specs.Leading.{Makes}
use Rattle.js_api.specs.Clients.{Client}
use Rattle.js_api.specs.Answering.{DeskCall, DeskAnswer, Collect, Gave}
use Rattle.js_api.specs.Calls.{Does}
use Rattle.session.specs.Calling.{Called}
use Rattle.session.specs.Gathering.{IsCollect, AreCollecting, AreCollects, frames}
use Rattle.session.specs.Leading.{Adds, IsAdded}
use Rattle.session.specs.Stopping.{cause_of, end_after}
use Rattle.session.specs.Collecting.{GivesFrames, CollectsOnce, IsFirstCollect, IsNextCollect, Collects}
use Rattle.session.proofs.Led.{IsOne, cut_on, cut_one, adds_one, adds_none, adds_on}
use Rattle.session.specs.declared.stop.Stop.{Stop}

-- ---- one collect

module _ {D : Type 0} (made : D → List DeskEntry → D → Type 0) (client : Client) where
  pub gives_frames : (old new : D) (a b : Bytes) (max : ℕ) (list : List Frame) (more : Bool) → Makes made (Does client (Collect max) (Ok (Gave list more))) old new
      → b ≡ a ++ frames list → GivesFrames made client more old new a b
  gives_frames old new a b max list more m w = record {
    called = record { call = Collect max; answer = Ok (Gave list more); entries = m.entries };
    collect = record { max = max; list = list; call_is = refl; answer_is = refl; made = m.are };
    led = m.led;
    written = w;
  }

  -- the session ends for its answer
  pub collect_ends : (stop : Stop) (old new : D) (a b : Bytes) (max : ℕ) (answer : Result DeskAnswer DeskFault) → Makes made (Does client (Collect max) answer) old new
      → cause_of stop ≡ end_after answer → IsAdded (cause_of stop) b a → CollectsOnce made client old new a b (Err stop)
  collect_ends stop old new a b max answer m e w =
      cut_one made IsFirstCollect client (cause_of stop) old new a b (record { call = Collect max; answer = answer; entries = m.entries }) (refl, (max, refl))
      (record { made = m.are; cause_is = e }) m.led w

-- ---- one after the other

collecting_push : (client : Client) (calls : List Called) (called : Called) → AreCollecting client calls → IsCollect client true called → AreCollecting client (calls ++ called ∷ [])
collecting_push client [] called h k = (k, tt)
collecting_push client (first ∷ calls) called h k = (h.0, collecting_push client calls called h.1 k)

collecting_one : (client : Client) (calls more : List Called) → AreCollecting client calls → IsOne (IsCollect client true) more → AreCollecting client (calls ++ more)
collecting_one client calls more h k =
    subst (λ (xs : List Called). AreCollecting client (calls ++ xs)) (sym k.1) (collecting_push client calls k.0 h k.2)

collects_one : (client : Client) (calls more : List Called) → AreCollecting client calls → IsOne (IsCollect client false) more → AreCollects client (calls ++ more)
collects_one client calls more h k = (calls, k.0, ap (λ (xs : List Called). calls ++ xs) k.1, h, k.2)

next_collect : (client : Client) (calls before : List Called) (call : DeskCall) → AreCollecting client calls → IsFirstCollect before call → IsNextCollect client (calls ++ before) call
next_collect client calls before call h k =
    (subst (λ (xs : List Called). AreCollecting client xs) (sym (ap (λ (xs : List Called). calls ++ xs) k.0 ∙ append-nil calls)) h, k.1)

pub collecting_first : {D : Type 0} (made : D → List DeskEntry → D → Type 0) (client : Client) (old : D) (out : Bytes) → made old [] old
    → Adds made old old out out (AreCollecting client)
collecting_first made client old out h = adds_none made old out (AreCollecting client) h tt

module _ {D : Type 0} (made : D → List DeskEntry → D → Type 0) (more_led : (a b c : D) (xs ys : List DeskEntry) → made a xs b → made b ys c → made a (xs ++ ys) c) (client : Client) where
  gave : (more : Bool) (mid new : D) (b c : Bytes) → GivesFrames made client more mid new b c → Adds made mid new b c (IsOne (IsCollect client more))
  gave more mid new b c k = adds_one made mid new b c (IsCollect client more) k.called k.collect k.led k.written

  -- more was left
  pub collecting_more : (old mid new : D) (a b c : Bytes) → Adds made old mid a b (AreCollecting client) → GivesFrames made client true mid new b c
      → Adds made old new a c (AreCollecting client)
  collecting_more old mid new a b c h k =
      adds_on made more_led old mid new a b c (AreCollecting client) (IsOne (IsCollect client true)) (AreCollecting client) (collecting_one client) h (gave true mid new b c k)

  -- nothing was left
  pub collecting_last : (old mid new : D) (a b c : Bytes) → Adds made old mid a b (AreCollecting client) → GivesFrames made client false mid new b c
      → Adds made old new a c (AreCollects client)
  collecting_last old mid new a b c h k =
      adds_on made more_led old mid new a b c (AreCollecting client) (IsOne (IsCollect client false)) (AreCollects client) (collects_one client) h (gave false mid new b c k)

  -- the session ends there
  pub collecting_stop : (old mid new : D) (a b c : Bytes) (stop : Stop) (other : Client) → Adds made old mid a b (AreCollecting client) → other ≡ client
      → CollectsOnce made other mid new b c (Err stop) → Collects made client old new a c (Err stop)
  collecting_stop old mid new a b c stop other h e k =
      cut_on made more_led client (cause_of stop) (AreCollecting client) IsFirstCollect (IsNextCollect client) old mid new a b c (next_collect client) h
      (subst (λ (one : Client). CollectsOnce made one mid new b c (Err stop)) e k)
