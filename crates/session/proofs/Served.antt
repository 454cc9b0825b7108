-- Laws of a whole session: its opening, its turns, and its close.
use Rattle.std.proofs.Common.{◌≡◌, ℕ, Bool, true, List, [], ◌∷◌, ◌++◌, Option, Result, Ok, Err, refl, sym, subst, append_assoc, inl, inr}
use Rattle.std.specs.List.{flat_map}
use Rattle.std.proofs.lemmas.Bool.{false≢true}
use Rattle.std.proofs.lemmas.List.{append-nil}
use Rattle.js_base.specs.Bytes.{Bytes}
use Rattle.link_edge.proofs.Told.{grown-nil}
use Rattle.link_edge.specs.declared.answers.Answer.{Answer}
use Rattle.link_edge.specs.declared.failings.Failings.{Failings}
use Rattle.js_api.specs.declared.fault.DeskFault.{DeskFault}
use Rattle.js_api.specs.Entries.{DeskEntry}
use Rattle.js_api.specs.Leading.{Makes}
use Rattle.js_api.specs.Clients.{Client, new_client}
use Rattle.js_api.specs.Answering.{DeskAnswer, Open, Close, Opened}
use Rattle.js_api.specs.Calls.{Does, IfOpen, MaySay, Routes, Says}
use Rattle.js_model.specs.Router as router
use Rattle.session.specs.Calling.{Called, entries_of_calls}
use Rattle.session.specs.Stopping.{end_of_fault}
use Rattle.session.specs.Talk.{Nothing, IsClosing, greeting, before_last, entries_of_turn, entries_of_last}
use Rattle.session.specs.Failing.{FailsBy}
use Rattle.session.specs.Session.{Converses, Serves}
use Rattle.session.proofs.Failed.{unopened_fails}
use Rattle.session.specs.declared.ending.Limits.{Limits}
use Rattle.session.specs.declared.ending.Ended.{Ended}

-- the close of an open session is that of any client with its number
is_close : (client : Client) (session : ℕ) (answer : Result DeskAnswer DeskFault) (entries : List DeskEntry) → client.session ≡ session → client.is_open ≡ true
    → Does client Close answer entries → Does (new_client session) Close answer entries
is_close client session answer entries e o h =
    subst (λ (number : ℕ). Routes (router.Close number) answer entries) e
    (subst (λ (b : Bool). IfOpen (record client { is_open = b }) (Routes (router.Close client.session)) answer entries) o h)

-- it takes no memory
closing_told : (n : ℕ) (told : router.RouteTold) (answer : Result DeskAnswer DeskFault) → MaySay (router.Close n) told → Says told answer → IsClosing answer
closing_told n router.Done answer m s = subst IsClosing (sym s) tt
closing_told n (router.Opened number) answer m s = subst IsClosing (sym s) tt
closing_told n (router.Taken count) answer m s = absurd s
closing_told n (router.Listens heard) answer m s = absurd s
closing_told n (router.Frames list more) answer m s = subst IsClosing (sym s) tt
closing_told n (router.Slow length) answer m s = subst IsClosing (sym s) tt
closing_told n (router.NoSession latest) answer m s = absurd s
closing_told n router.TooManySubs answer m s = absurd (false≢true m)
closing_told n router.Worn answer m s = absurd (false≢true m)
closing_told n router.NoMemory answer m s = cc

closing : (n : ℕ) (answer : Result DeskAnswer DeskFault) (entries : List DeskEntry) → Routes (router.Close n) answer entries → IsClosing answer
closing n answer entries (inl h) = closing_told n h.0 answer h.2 h.3
closing n answer entries (inr h) = subst IsClosing (sym h.1) tt

pub served : {D : Type 0} (made : D → List DeskEntry → D → Type 0) (more_led : (a b c : D) (xs ys : List DeskEntry) → made a xs b → made b ys c → made a (xs ++ ys) c)
    (limits : Limits) (session : ℕ) (opener client : Client) (d0 d1 d2 d3 : D) (a0 a1 : Option (List Answer)) (g0 g1 : Option Bytes) (c0 c1 : Option (List ℕ)) (f0 f1 : Option Failings) (ended : Ended)
    (answer : Result DeskAnswer DeskFault) → Makes made (Does opener Open (Ok (Opened session))) d0 d1 → Converses made limits session d1 d2 a0 a1 g0 g1 c0 c1 f0 f1 ended
    → client.session ≡ session → client.is_open ≡ true → Makes made (Does client Close answer) d2 d3 → Serves made limits d0 d3 a0 a1 g0 g1 c0 c1 f0 f1 ended
served made more_led limits session opener client d0 d1 d2 d3 a0 a1 g0 g1 c0 c1 f0 f1 ended answer m h e o k =
    let opened : Called = record { call = Open; answer = Ok (Opened session); entries = m.entries } in
    let closed : Called = record { call = Close; answer = answer; entries = k.entries } in
    let closes = is_close client session answer k.entries e o k.are in
    let turns_led = flat_map entries_of_turn h.turns in
    let close_led = subst (λ (es : List DeskEntry). made d2 es d3) (sym (append-nil k.entries)) k.led in
    let after = subst (λ (es : List DeskEntry). made d1 es d3) (append_assoc turns_led (entries_of_last h.last) (entries_of_calls (closed ∷ [])))
    (more_led d1 d2 d3 (turns_led ++ entries_of_last h.last) (entries_of_calls (closed ∷ [])) h.led close_led) in
    record {
      journal = record { opened = opened; turns = h.turns; last = h.last; closed = closed ∷ [] };
      bytes = before_last (greeting limits session) h.last h.said ++ h.more;
      talk = record {
        opened = refl;
        talks = (
          m.are,
          record {
            stage = h.stage;
            said = h.said;
            more = h.more;
            turns = h.are_turns;
            ends = h.ends;
            closed = (closed, refl, refl, closing session answer k.entries closes, closes);
            written = refl;
          },
        );
      };
      answered = h.answered;
      moments = h.moments;
      led = more_led d0 d1 d3 m.entries (turns_led ++ (entries_of_last h.last ++ entries_of_calls (closed ∷ []))) m.led after;
      given = h.given;
      failings = h.failings;
    }

-- no session was opened
pub unserved : {D : Type 0} (made : D → List DeskEntry → D → Type 0) (limits : Limits) (client : Client) (fault : DeskFault) (d0 d1 : D) (a : Option (List Answer)) (g : Option Bytes)
    (c : Option (List ℕ)) (f : Option Failings) (ended : Ended) → Makes made (Does client Open (Err fault)) d0 d1 → ended ≡ end_of_fault fault
    → Serves made limits d0 d1 a a g g c c f f ended
unserved made limits client fault d0 d1 a g c f ended m e =
    let opened : Called = record { call = Open; answer = Err fault; entries = m.entries } in
    record {
      journal = record { opened = opened; turns = []; last = Nothing; closed = [] };
      bytes = [];
      talk = record { opened = refl; talks = (m.are, record { turns = refl; last = refl; closed = refl; bytes_are = refl }, e) };
      answered = sym (grown-nil a);
      moments = refl;
      led = subst (λ (es : List DeskEntry). made d0 es d1) (sym (append-nil m.entries)) m.led;
      given = sym (grown-nil g);
      failings = λ none. subst (λ (x : Ended). FailsBy x f f) (sym e) (unopened_fails fault f);
    }
