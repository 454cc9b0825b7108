-- What a port has sent, after one call more, after all that a hold asks and sends, and once all tickets of the router are drawn.
use Rattle.std.proofs.Common.{◌≡◌, ◌≢◌, ◌++◌, ℕ, Bool, true, false, List, [], ◌∷◌, append_assoc, append-nil, refl, sym, ap, subst, ◌∙◌, inl, inr, arith}
use Rattle.std.specs.Prelude.{None, Result, Err}
use Rattle.std.specs.List.{AllByRecursion}
use Rattle.js_base.specs.declared.out.Out.{Out}
use Rattle.js_model.specs.Router.{RouteCall, RouteTold, RouteEntry, Publish, Interest, Listens, NoMemory}
use Rattle.js_model.specs.Routing.{fault_told, publish_told}
use Rattle.js_model.specs.declared.route_fault.RouteFault.{RouteFault}
use Rattle.js_api.specs.Entries.{Reading, Sending}
use Rattle.js_api.specs.Worlds.{IsTried, sending_of}
use Rattle.histories.specs.Entries.{Entry, AtPlace, AtRouter, AtCatalog, SeatId}
use Rattle.histories.specs.Fronts.{own}
use Rattle.histories.proofs.Own.{own-grows, own-left}
use Rattle.turn_lock.specs.Calls.{number_of}
use Rattle.turn_lock.specs.Ruled.{last_ticket}
use Rattle.turn_lock.specs.Seats.{SeatView}
use Rattle.hub_fronts.specs.Stepping.{IsTold, routed_by}
use Rattle.hub_router.specs.Calls.{IsCalled}
use Rattle.hub_router.specs.Kinds.{calls_in}
use Rattle.desk_hold.specs.Ports.{AreHeard, AreSent, Sends}
use Rattle.desk_hold.proofs.Refused.{sending_done, wants}
use Rattle.hub_place.specs.Ports.{HasSent, IsOfPort, IsRouted, IsSeat, IsWorn, own_calls, published, published_by}

-- ---- lists of calls

calls-append : (a b : List Entry) → calls_in (a ++ b) ≡ calls_in a ++ calls_in b
calls-append [] b = refl
calls-append (AtPlace step ∷ more) b = calls-append more b
calls-append (AtRouter call ∷ more) b = ap (λ (calls : List RouteEntry). call ∷ calls) (calls-append more b)
calls-append (AtCatalog call ∷ more) b = calls-append more b

published-append : (a b : List RouteEntry) → published (a ++ b) ≡ published a ++ published b
published-append [] b = refl
published-append (entry ∷ more) b =
    ap (λ (outs : List Out). published_by entry.call ++ outs) (published-append more b) ∙ sym (append_assoc (published_by entry.call) (published more) (published b))

abbrev AreOfPort : List RouteEntry → Type 0
AreOfPort entries = AllByRecursion (λ (entry : RouteEntry). IsOfPort entry.call entry.told) entries

of_port-append : (a b : List RouteEntry) → AreOfPort a → AreOfPort b → AreOfPort (a ++ b)
of_port-append [] b f g = g
of_port-append (entry ∷ more) b f g = (f.0, of_port-append more b f.1 g)

-- ---- one call

module _ (call : RouteCall) (told : RouteTold) (old new : SeatView) (called : IsCalled call told old new) where
  abbrev entry : RouteEntry
  entry = record { seat = number_of old; call = call; told = told }

  numbers_are : new.numbers ≡ old.numbers
  numbers_are = ap (λ (s : SeatView). s.numbers) called.turn.leaves.behind ∙ called.turn.sees.numbers

  one_call : own_calls new ≡ own_calls old ++ entry ∷ []
  one_call =
      let inside : SeatView = called.turn.inside in
      let one : List Entry = routed_by (number_of old) call told ∷ [] in
      let front_is : new.front ≡ inside.front ++ one = ap (λ (s : SeatView). s.front) called.turn.leaves.behind in
      let behind : own inside.numbers (inside.front ++ one) ≡ own inside.numbers inside.front ++ one =
      own-left inside.numbers (number_of inside) inside.front one called.turn.leaves.by called.turn.leaves.among in
      let before : own inside.numbers inside.front ≡ own old.numbers old.front =
      ap (λ (ns : List ℕ). own ns inside.front) called.turn.sees.numbers ∙ own-grows old.numbers old.front inside.front called.turn.sees.grows in
      ap calls_in
      (ap (λ (ns : List ℕ). own ns new.front) (ap (λ (s : SeatView). s.numbers) called.turn.leaves.behind)
      ∙ ap (λ (es : List Entry). own inside.numbers es) front_is
      ∙ behind
      ∙ ap (λ (es : List Entry). es ++ one) before)
      ∙ calls-append (own old.numbers old.front) one

  -- a ticket was left
  not_last : old.drawn ≢ last_ticket
  not_last e = omega (arith, e, called.turn.ticket, called.turn.low)

  pub seat_after : (id : SeatId) → IsSeat id old → IsSeat id new
  seat_after id is = record {
    lock = ap (λ (s : SeatView). s.lock) called.turn.leaves.behind ∙ called.turn.sees.lock ∙ is.lock;
    numbers = numbers_are ∙ is.numbers;
  }

  sent_with : (outs more : List Out) → HasSent old outs → published_by call ≡ more → IsOfPort call told → HasSent new (outs ++ more)
  sent_with outs more h adds fits = record {
    unsent = [];
    outs_are =
        ap (λ (os : List Out). os ++ more)
        (h.outs_are ∙ ap (λ (os : List Out). published (own_calls old) ++ os) (h.all not_last) ∙ append-nil (published (own_calls old)))
        ∙ sym
        (append-nil (published (own_calls new))
        ∙ ap published one_call
        ∙ published-append (own_calls old) (entry ∷ [])
        ∙ ap (λ (os : List Out). published (own_calls old) ++ os) (append-nil (published_by call) ∙ adds));
    all = λ some. refl;
    are = subst AreOfPort (sym one_call) (of_port-append (own_calls old) (entry ∷ []) h.are (fits, tt));
  }

heard_one : (reading : Reading) (old new : SeatView) (outs : List Out) → HasSent old outs → IsCalled (Interest reading.subject reading.group) (Listens reading.heard) old new → HasSent new outs
heard_one reading old new outs h called =
    subst (HasSent new) (append-nil outs)
    (sent_with (Interest reading.subject reading.group) (Listens reading.heard) old new called outs [] h refl (reading.heard, refl))

sent_one : (out : Out) (told : RouteTold) (taken : Bool) (old new : SeatView) (outs : List Out) → HasSent old outs → IsTried told taken → IsCalled (Publish out None) told old new
    → HasSent new (outs ++ out ∷ [])
sent_one out told taken old new outs h tried called = sent_with (Publish out None) told old new called outs (out ∷ []) h refl (taken, tried)

-- once all tickets are drawn, nothing more is sent
worn_sent : (number : ℕ) (old new : SeatView) (outs more : List Out) → HasSent old outs → IsWorn old number new → HasSent new (outs ++ more)
worn_sent number old new outs more h is = subst (λ (s : SeatView). HasSent s (outs ++ more)) (sym is.1) (record {
  unsent = h.unsent ++ more;
  outs_are = ap (λ (os : List Out). os ++ more) h.outs_are ∙ append_assoc (published (own_calls old)) h.unsent more;
  all = λ some. absurd (some refl);
  are = h.are;
})

worn_seat : (number : ℕ) (old new : SeatView) (id : SeatId) → IsSeat id old → IsWorn old number new → IsSeat id new
worn_seat number old new id h is = subst (IsSeat id) (sym is.1) (record { lock = h.lock; numbers = h.numbers })

-- ---- a hold

-- a seat of a port and what it has sent
pub record Port (id : SeatId) (port : SeatView) (outs : List Out) : Type 0 where
  pub seat : IsSeat id port
  pub sent : HasSent port outs

pub heard_all : (id : SeatId) (readings : List Reading) (old new : SeatView) (outs : List Out) → AreHeard IsRouted IsWorn old readings new → Port id old outs → Port id new outs
heard_all id [] old new outs h port = subst (λ (s : SeatView). Port id s outs) h port
heard_all id (reading ∷ more) old new outs (mid, one, rest) port =
    heard_all id more mid new outs rest (record {
      seat = seat_after (Interest reading.subject reading.group) (Listens reading.heard) old mid one id port.seat;
      sent = heard_one reading old mid outs port.sent one;
    })

all_sent : (id : SeatId) (more : List Out) (taken : List Bool) (old new : SeatView) (outs : List Out) → AreSent IsRouted IsWorn old more taken new → Port id old outs → Port id new (outs ++ more)
all_sent id [] [] old new outs h port = subst (λ (s : SeatView). Port id s (outs ++ [])) h (subst (Port id old) (sym (append-nil outs)) port)
all_sent id [] (t ∷ taken) old new outs h port = absurd h
all_sent id (out ∷ more) [] old new outs h port = absurd h
all_sent id (out ∷ more) (t ∷ taken) old new outs (told, mid, tried, one, rest) port =
    subst (Port id new) (append_assoc outs (out ∷ []) more)
    (all_sent id more taken mid new (outs ++ out ∷ []) rest (record {
      seat = seat_after (Publish out None) told old mid one id port.seat;
      sent = sent_one out told t old mid outs port.sent tried one;
    }))

pub sent_all : (id : SeatId) (more : List Out) (sending : Sending) (old new : SeatView) (outs : List Out) → Sends IsRouted IsWorn old more sending new → Port id old outs → Port id new (outs ++ more)
sent_all id more sending old new outs (inl h) port = all_sent id more h.taken old new outs h.sent port
sent_all id more sending old new outs (inr h) port =
    let first : Port id h.mid (outs ++ h.first) = all_sent id h.first h.taken old h.mid outs h.sent port in
    subst (Port id new) (append_assoc outs h.first h.more ∙ ap (λ (os : List Out). outs ++ os) (sym h.outs_are))
    (record { seat = worn_seat h.number h.mid new id first.seat h.is_worn; sent = worn_sent h.number h.mid new (outs ++ h.first) h.more first.sent h.is_worn })

told_by : (taken : List Bool) → IsTold (sending_of taken)
told_by [] = tt
told_by (true ∷ more) = told_by more
told_by (false ∷ more) = tt

-- the number that is told is the ticket that is never drawn
pub sending_told : (more : List Out) (sending : Sending) (old new : SeatView) → Sends IsRouted IsWorn old more sending new → IsTold sending
sending_told more sending old new (inl h) = subst IsTold (sym h.sending_is) (told_by h.taken)
sending_told more sending old new (inr h) = subst IsTold (sym h.sending_is) h.is_worn.0

-- ---- a message that is refused

-- it found no memory
pub short_called : (out : Out) (told : Result ℕ RouteFault) (fault : RouteFault) (old new : SeatView) → told ≡ Err fault → IsCalled (Publish out None) (publish_told told) old new → IsCalled (Publish out None) NoMemory old new
short_called out told fault old new is h =
    let k : IsCalled (Publish out None) (fault_told fault) old new = subst (λ (t : Result ℕ RouteFault). IsCalled (Publish out None) (publish_told t) old new) is h in
    subst (λ (f : RouteFault). IsCalled (Publish out None) (fault_told f) old new) (wants k.was k.is (Publish out None) fault (sending_done k.was out) k.route) k
