-- A message is handed to its takers one after the other: what that leaves of the sessions, and of the subscriptions.
use Rattle.std.proofs.Common.{◌≡◌, ℕ, ◌+◌, Bool, true, false, cond, List, [], ◌∷◌, length, map, refl, sym, ap, subst, ◌∙◌}
use Rattle.std.specs.List.{fold}
use Rattle.std.proofs.lemmas.Bool.{eqb-true}
use Rattle.js_base.specs.declared.out.Out.{Out}
use Rattle.js_model.specs.Router.{Router, Session, Subscription, is_session, frame_for, with_frame, handed_to, handed}
use Rattle.route_core.specs.declared.delivery.Delivery.{Delivery}
use Rattle.route_core.specs.Sessions.{AreNumbered, receiving, takes_headers}
use Rattle.route_core.specs.Deliveries.{delivery_of, deliveries_of, handed_over, counted_once}
use Rattle.route_core.proofs.Places.{length-with_first}
use Rattle.route_core.proofs.Numbers.{AreBetween, KeepsNumber, TellHeaders, at_number, between_map, only_one, tell_headers}

-- the router of these parts
abbrev pub router_of : List Session → List Subscription → ℕ → Router
router_of sessions subscriptions latest = record { sessions = sessions; subscriptions = subscriptions; latest = latest }

module _ (all : List Session) (out : Out) where
  abbrev received : Subscription → Session → Session
  received sub = receiving (frame_for out sub.sid (takes_headers all sub.session))

  one_session : (sub : Subscription) (s : Session) → takes_headers all s.number ≡ s.headers → handed_to out sub s ≡ at_number sub.session (received sub) s
  one_session sub s h = go (is_session sub.session s) refl
    where
      go : (b : Bool) → is_session sub.session s ≡ b → cond b (record s { waiting = with_frame (frame_for out sub.sid s.headers) s.waiting }) s ≡ cond b (received sub s) s
      go true e =
          let same = eqb-true s.number sub.session e in
          ap (λ headers. record s { waiting = with_frame (frame_for out sub.sid headers) s.waiting }) (sym h ∙ ap (takes_headers all) same)
      go false e = refl

  each_session : (sub : Subscription) (sessions : List Session) → TellHeaders all sessions → map (handed_to out sub) sessions ≡ map (at_number sub.session (received sub)) sessions
  each_session sub [] h = refl
  each_session sub (s ∷ ss) h =
      ap (λ t. t ∷ map (handed_to out sub) ss) (one_session sub s h.0) ∙ ap (λ (ts : List Session). at_number sub.session (received sub) s ∷ ts) (each_session sub ss h.1)

  handed_one : (low high : ℕ) (sub : Subscription) (sessions : List Session) → AreBetween low high sessions → TellHeaders all sessions
      → map (handed_to out sub) sessions ≡ handed_over sessions (delivery_of all out sub)
  handed_one low high sub sessions between told = each_session sub sessions told ∙ sym (only_one sub.session (received sub) low high sessions between)

  pub handed_number : (sub : Subscription) → KeepsNumber (handed_to out sub)
  handed_number sub s = go (is_session sub.session s)
    where
      go : (b : Bool) → (cond b (record s { waiting = with_frame (frame_for out sub.sid s.headers) s.waiting }) s).number ≡ s.number
      go true = refl
      go false = refl

  still_told : (sub : Subscription) (sessions : List Session) → TellHeaders all sessions → TellHeaders all (map (handed_to out sub) sessions)
  still_told sub [] h = tt
  still_told sub (s ∷ ss) h = (go (is_session sub.session s), still_told sub ss h.1)
    where
      after : Bool → Session
      after b = cond b (record s { waiting = with_frame (frame_for out sub.sid s.headers) s.waiting }) s

      go : (b : Bool) → takes_headers all (after b).number ≡ (after b).headers
      go true = h.0
      go false = h.0

  pub handed_all : (low high latest : ℕ) (takers : List Subscription) (sessions : List Session) (subs : List Subscription) → AreBetween low high sessions → TellHeaders all sessions
      → fold (handed out) (router_of sessions subs latest) takers
      ≡ router_of (fold handed_over sessions (deliveries_of all out takers)) (fold counted_once subs (deliveries_of all out takers)) latest
  handed_all low high latest [] sessions subs between told = refl
  handed_all low high latest (sub ∷ takers) sessions subs between told =
      let d = delivery_of all out sub in
      let ds = deliveries_of all out takers in
      handed_all low high latest takers (map (handed_to out sub) sessions) (counted_once subs d) (between_map (handed_to out sub) (handed_number sub) low high sessions between) (still_told sub sessions told)
      ∙ ap (λ ss. router_of (fold handed_over ss ds) (fold counted_once (counted_once subs d) ds) latest) (handed_one low high sub sessions between told)

  -- the numbers stay in order
  between_handed : (low high : ℕ) (takers : List Subscription) (sessions : List Session) → AreBetween low high sessions → TellHeaders all sessions
      → AreBetween low high (fold handed_over sessions (deliveries_of all out takers))
  between_handed low high [] sessions between told = between
  between_handed low high (sub ∷ takers) sessions between told =
      let after = map (handed_to out sub) sessions in
      let more = between_handed low high takers after (between_map (handed_to out sub) (handed_number sub) low high sessions between) (still_told sub sessions told) in
      subst (λ ss. AreBetween low high (fold handed_over ss (deliveries_of all out takers))) (handed_one low high sub sessions between told) more

pub numbered_handed : (sessions : List Session) (out : Out) (latest : ℕ) (takers : List Subscription) → AreNumbered latest sessions → AreNumbered latest (fold handed_over sessions (deliveries_of sessions out takers))
numbered_handed sessions out latest takers h =
    record { small = h.small; ascend = between_handed sessions out 1 (latest + 1) takers sessions h.ascend (tell_headers 1 (latest + 1) sessions h.ascend) }

-- no session is lost
pub length-handed : (sessions : List Session) (deliveries : List Delivery) → length (fold handed_over sessions deliveries) ≡ length sessions
length-handed sessions [] = refl
length-handed sessions (d ∷ ds) = length-handed (handed_over sessions d) ds ∙ length-with_first (is_session d.session) (receiving d.frame) sessions
