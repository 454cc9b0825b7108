-- Laws of the desk call of an operation.
use Rattle.std.proofs.Common.{◌≡◌, ℕ, ◌&&◌, Bool, true, false, IsTrue, IfSome, cond, codes, List, [], ◌∷◌, ◌++◌, Option, Some, None, Result, Ok, Err, IsErrAnd, OnOk, refl, sym, ap, subst, ◌∙◌}
use Rattle.std.proofs.lemmas.Bool.{and_parts}
use Rattle.std.proofs.lemmas.List.{append-nil}
use Rattle.js_base.specs.Bytes.{Bytes}
use Rattle.js_base.specs.Headers.{is_block}
use Rattle.js_base.specs.Subjects.{is_pattern_text, is_publish_text, is_subject_text}
use Rattle.js_base.specs.declared.out.Out.{Out}
use Rattle.nats_frames.specs.declared.op.Op.{Op}
use Rattle.nats_frames.specs.declared.op.Op.TheVariants.{Pub, HPub}
use Rattle.js_api.specs.declared.fault.DeskFault.{DeskFault}
use Rattle.js_api.specs.Entries.{DeskEntry}
use Rattle.js_api.specs.Leading.{Makes}
use Rattle.js_api.specs.Clients.{Client}
use Rattle.js_api.specs.Publishing.{IsMessage}
use Rattle.js_api.specs.Answering.{DeskCall, DeskAnswer, Sub, Publish}
use Rattle.js_api.specs.Calls.{Does}
use Rattle.session.specs.Manners.{peer_of}
use Rattle.session.specs.Calling.{Called}
use Rattle.session.specs.Leading.{Cuts, IsAdded}
use Rattle.session.specs.Stopping.{Asked, Unasked, Declined, EndsInCall, cause_of, end_after}
use Rattle.session.specs.Peer.{Request, Calls, IsWrong, IsUnpublishable, IsRefused, Peer, called_bytes, error_line, is_reply, message as message_of, connecting, op_request, peer_after_op, publishing, subscribing}
use Rattle.session.specs.Talk.{IsAnswered, all_called_bytes, op_answer}
use Rattle.session.proofs.Led.{one_led}
use Rattle.session.specs.Asking.{IsUnchecked, ReadsConnect, said_for, IsAsked, Asks}
use Rattle.session.specs.declared.connect.ConnectOptions.{ConnectOptions}
use Rattle.session.specs.declared.ending.Ended.{Ended}
use Rattle.session.specs.declared.ending.Ended.TheVariants as ends
use Rattle.session.specs.declared.ending.Refusal.{Refusal}
use Rattle.session.specs.declared.ending.Refusal.TheVariants.{BadHeaders}
use Rattle.session.specs.declared.manners.Manners.{Manners}
use Rattle.session.specs.declared.stop.Stop.{Stop}
use Rattle.session.specs.declared.stop.Stop.TheVariants as stops

-- ---- what is asked

pub publishing_right : (now : ℕ) (message : Out) → (is_publish_text message.to && is_reply message.reply) ≡ true → publishing now message ≡ Calls (Publish message now)
publishing_right now message h = ap (λ (b : Bool). cond b (Calls (Publish message now)) IsUnpublishable) h

pub subscribing_right : (subject : Bytes) (queue : Option Bytes) (sid : Bytes) → is_pattern_text subject ≡ true → subscribing subject queue sid ≡ Calls (Sub subject queue sid)
subscribing_right subject queue sid h = ap (λ (b : Bool). cond b (Calls (Sub subject queue sid)) (IsWrong (codes "Invalid Subject"))) h

pub subscribing_wrong : (subject : Bytes) (queue : Option Bytes) (sid : Bytes) → is_pattern_text subject ≡ false → subscribing subject queue sid ≡ IsWrong (codes "Invalid Subject")
subscribing_wrong subject queue sid h = ap (λ (b : Bool). cond b (Calls (Sub subject queue sid)) (IsWrong (codes "Invalid Subject"))) h

reply_right : (reply : Option Bytes) → is_reply reply ≡ true → IfSome reply (λ text. IsTrue (is_subject_text text))
reply_right None h = tt
reply_right (Some text) h = h

-- what stands for a header block is none
pub blockless : (now : ℕ) (op : Op) (subject : Bytes) (reply : Option Bytes) (headers payload : Bytes) → op ≡ HPub subject reply headers payload → is_block headers ≡ false
    → op_request now op ≡ IsRefused BadHeaders
blockless now op subject reply headers payload e h =
    ap (λ (o : Op). op_request now o) e ∙ ap (λ (b : Bool). cond b (publishing now (message_of subject reply headers payload)) (IsRefused BadHeaders)) h

-- a message whose subjects are right
pub is_message : (message : Out) → IsUnchecked message → (is_publish_text message.to && is_reply message.reply) ≡ true → IsMessage message
is_message message u h =
    let parts = and_parts (is_publish_text message.to) (is_reply message.reply) h in
    record { same_subject = u.same_subject; to_text = parts.0; reply_text = reply_right message.reply parts.1; block = u.block; small = u.small }

-- ---- what was asked

module _ {D : Type 0} (made : D → List DeskEntry → D → Type 0) (client : Client) where
  -- one call
  pub asked_call : (old new : D) (call : DeskCall) (answer : Result DeskAnswer DeskFault) (verbose : Bool) (a b : Bytes) → IsAnswered call answer
      → Makes made (Does client call answer) old new → b ≡ a ++ called_bytes verbose answer → IsAsked made client (Calls call) (all_called_bytes verbose) old new a b
  asked_call old new call answer verbose a b ok m w =
      let called : Called = record { call = call; answer = answer; entries = m.entries } in
      record {
        calls = called ∷ [];
        asked = (called, refl, refl, ok, m.are);
        led = one_led made old new m.entries m.led;
        written = w ∙ ap (λ (bytes : Bytes). a ++ bytes) (sym (append-nil (called_bytes verbose answer)));
      }

  pub asked_as : (old new : D) (request : Request) (call : DeskCall) (answer : Result DeskAnswer DeskFault) (verbose : Bool) (a b : Bytes) → request ≡ Calls call
      → IsAnswered call answer → Makes made (Does client call answer) old new → b ≡ a ++ called_bytes verbose answer
      → IsAsked made client request (all_called_bytes verbose) old new a b
  asked_as old new request call answer verbose a b e ok m w =
      subst (λ (r : Request). IsAsked made client r (all_called_bytes verbose) old new a b) (sym e) (asked_call old new call answer verbose a b ok m w)

  pub asked_one : (old new : D) (request : Request) (call : DeskCall) (answer : Result DeskAnswer DeskFault) (verbose pedantic : Bool) (a b : Bytes) → request ≡ Calls call
      → IsAnswered call answer → Makes made (Does client call answer) old new → b ≡ a ++ called_bytes verbose answer
      → IsAsked made client request (said_for verbose pedantic request) old new a b
  asked_one old new request call answer verbose pedantic a b e ok m w =
      subst (λ (r : Request). IsAsked made client r (said_for verbose pedantic r) old new a b) (sym e) (asked_call old new call answer verbose a b ok m w)

  -- no call, and its error line
  pub told_wrong : (old : D) (request : Request) (text : Bytes) (verbose pedantic : Bool) (a b : Bytes) → request ≡ IsWrong text → made old [] old → b ≡ a ++ error_line text
      → IsAsked made client request (said_for verbose pedantic request) old old a b
  told_wrong old request text verbose pedantic a b e h w =
      subst (λ (r : Request). IsAsked made client r (said_for verbose pedantic r) old old a b) (sym e) (record { calls = []; asked = refl; led = h; written = w })

  -- ---- the session ends there

  -- it ended so
  abbrev CutsOff : Request → Ended → D → D → Bytes → Bytes → Type 0
  CutsOff request cause old new a b = Cuts made cause old new a b (EndsInCall client request cause)

  -- in the call, or for what is said after it
  pub asked_last : (cause : Ended) (old new : D) (a b : Bytes) (request : Request) (call : DeskCall) (answer : Result DeskAnswer DeskFault)
      → request ≡ Calls call → Makes made (Does client call answer) old new → cause ≡ end_after answer → IsAdded cause b a → CutsOff request cause old new a b
  asked_last cause old new a b request call answer r m e w =
      let called : Called = record { call = call; answer = answer; entries = m.entries } in
      record {
        calls = called ∷ [];
        said = [];
        are = (Asked called r (record { made = m.are; cause_is = e }) refl, refl);
        led = one_led made old new m.entries m.led;
        added = λ n. w n ∙ sym (append-nil a);
      }

  -- the call was answered, and memory ran out for what is said
  pub unsaid : (old new : D) (a b : Bytes) (request : Request) (call : DeskCall) (answer : Result DeskAnswer DeskFault)
      → request ≡ Calls call → Makes made (Does client call answer) old new → ends.NoMemory ≡ end_after answer → CutsOff request ends.NoMemory old new a b
  unsaid old new a b request call answer r m e = asked_last ends.NoMemory old new a b request call answer r m e (λ n. cc)

  -- nothing was asked
  pub declined : (refusal : Refusal) (old : D) (a : Bytes) (request : Request) → request ≡ IsRefused refusal → made old [] old
      → CutsOff request (ends.Refused refusal) old old a a
  declined refusal old a request r h = record {
    calls = [];
    said = [];
    are = (Declined refusal r refl refl, refl);
    led = h;
    added = λ n. sym (append-nil a);
  }

  pub unasked : (old : D) (a b : Bytes) (request : Request) → made old [] old → CutsOff request ends.NoMemory old old a b
  unasked old a b request h = record { calls = []; said = []; are = (Unasked refl refl, refl); led = h; added = λ n. cc }

  -- a CONNECT is refused for its text, or memory ran out as it was read
  pub unread : (stop : Stop) (found : Option ConnectOptions) (old : D) (a : Bytes) → ReadsConnect (Err stop) found → made old [] old
      → CutsOff (connecting found) (cause_of stop) old old a a
  unread (stops.Refused refusal) found old a r h = declined refusal old a (connecting found) (ap connecting r.1 ∙ sym (ap IsRefused r.0)) h
  unread (stops.Slow size) found old a r h = absurd r
  unread stops.NoMemory found old a r h = unasked old a a (connecting found) h

  -- ---- the stop is told

  pub stopped_as : (request : Request) (said : List Called → Bytes) (old new : D) (a b : Bytes) (result : Result (Unit {0}) Stop) (stop : Stop)
      → IsErrAnd result (λ (other : Stop). other ≡ stop) → CutsOff request (cause_of stop) old new a b → Asks made client request said old new a b result
  stopped_as request said old new a b (Ok x) stop e h = absurd e
  stopped_as request said old new a b (Err other) stop e h = subst (λ (s : Stop). CutsOff request (cause_of s) old new a b) (sym e) h

  pub stopped_by : (request : Request) (said : List Called → Bytes) (old new : D) (a b : Bytes) (result : Result (Unit {0}) Stop) (call : DeskCall) (answer : Result DeskAnswer DeskFault)
      → IsErrAnd result (λ (stop : Stop). cause_of stop ≡ end_after answer) → request ≡ Calls call → Makes made (Does client call answer) old new → b ≡ a
      → Asks made client request said old new a b result
  stopped_by request said old new a b (Ok x) call answer e r m w = absurd e
  stopped_by request said old new a b (Err stop) call answer e r m w = asked_last (cause_of stop) old new a b request call answer r m e (λ n. w)

-- ---- a publish

-- what is said for it depends on no operation
publishing_said : (now : ℕ) (message : Out) (peer : Peer) (op : Op) → op_answer peer (publishing now message) op ≡ said_for peer.verbose peer.pedantic (publishing now message)
publishing_said now message peer op = go (is_publish_text message.to && is_reply message.reply)
  where
    go : (b : Bool) → op_answer peer (cond b (Calls (Publish message now)) IsUnpublishable) op
        ≡ said_for peer.verbose peer.pedantic (cond b (Calls (Publish message now)) IsUnpublishable)
    go true = refl
    go false = refl

module _ {D : Type 0} (made : D → List DeskEntry → D → Type 0) (client : Client) where
  -- the message is that of an operation
  by_message : (now : ℕ) (op : Op) (peer : Peer) (old new : D) (a b : Bytes) (result : Result (Unit {0}) Stop) (message : Out)
      → Asks made client (publishing now message) (said_for peer.verbose peer.pedantic (publishing now message)) old new a b result
      → Asks made client (publishing now message) (op_answer peer (publishing now message) op) old new a b result
  by_message now op peer old new a b result message h =
      subst (λ (said : List Called → Bytes). Asks made client (publishing now message) said old new a b result) (sym (publishing_said now message peer op)) h

  pub asks_pub : (manners : Manners) (now : ℕ) (op : Op) (subject : Bytes) (reply : Option Bytes) (payload : Bytes) (old new : D) (a b : Bytes) (result : Result (Unit {0}) Stop)
      (message : Out) → op ≡ Pub subject reply payload → message ≡ message_of subject reply [] payload
      → Asks made client (publishing now message) (said_for manners.verbose manners.pedantic (publishing now message)) old new a b result
      → Asks made client (op_request now op) (op_answer (peer_after_op (peer_of client manners) op) (op_request now op) op) old new a b result
  asks_pub manners now op subject reply payload old new a b result message e f h =
      let own = by_message now (Pub subject reply payload) (peer_of client manners) old new a b result (message_of subject reply [] payload)
      (subst (λ (m : Out). Asks made client (publishing now m) (said_for manners.verbose manners.pedantic (publishing now m)) old new a b result) f h) in
      subst (λ (o : Op). Asks made client (op_request now o) (op_answer (peer_after_op (peer_of client manners) o) (op_request now o) o) old new a b result) (sym e) own

  pub asks_hpub : (manners : Manners) (now : ℕ) (op : Op) (subject : Bytes) (reply : Option Bytes) (headers payload : Bytes) (old new : D) (a b : Bytes)
      (result : Result (Unit {0}) Stop) (message : Out) → op ≡ HPub subject reply headers payload → is_block headers ≡ true → message ≡ message_of subject reply headers payload
      → Asks made client (publishing now message) (said_for manners.verbose manners.pedantic (publishing now message)) old new a b result
      → Asks made client (op_request now op) (op_answer (peer_after_op (peer_of client manners) op) (op_request now op) op) old new a b result
  asks_hpub manners now op subject reply headers payload old new a b result message e block f h =
      let asked : Request = publishing now (message_of subject reply headers payload) in
      let own = by_message now (HPub subject reply headers payload) (peer_of client manners) old new a b result (message_of subject reply headers payload)
      (subst (λ (m : Out). Asks made client (publishing now m) (said_for manners.verbose manners.pedantic (publishing now m)) old new a b result) f h) in
      let is : op_request now (HPub subject reply headers payload) ≡ asked = ap (λ (b : Bool). cond b asked (IsRefused BadHeaders)) block in
      subst (λ (o : Op). Asks made client (op_request now o) (op_answer (peer_after_op (peer_of client manners) o) (op_request now o) o) old new a b result) (sym e)
      (subst (λ (r : Request). Asks made client r (op_answer (peer_of client manners) r (HPub subject reply headers payload)) old new a b result) (sym is) own)

-- a client that an operation leaves as it was
pub stays : (result : Result (Unit {0}) Stop) (old new : Client) (manners : Manners) (op other : Op) → op ≡ other → peer_after_op (peer_of old manners) other ≡ peer_of old manners → new ≡ old
    → OnOk result (peer_of new manners ≡ peer_after_op (peer_of old manners) op)
stays (Err stop) old new manners op other e f g = tt
stays (Ok x) old new manners op other e f g =
    ap (λ (c : Client). peer_of c manners) g ∙ sym (ap (λ (o : Op). peer_after_op (peer_of old manners) o) e ∙ f)
