-- Runs of many seats: what they are for the router, whose the sessions are then, and how they are joined and cut.
use Rattle.std.proofs.Common.{◌≡◌, List, [], ◌∷◌, ◌++◌, refl, sym, ap, ◌∙◌, subst}
use Rattle.js_model.specs.Router.{RouteEntry, RouteRun}
use Rattle.seat_laws.specs.Seats.{SharedRouter, Openers, SeatRun, openers_by}

pub routes : (old new : SharedRouter) (entries : List RouteEntry) → SeatRun old entries new → RouteRun old.router entries new.router
routes old new [] h = ap (λ (s : SharedRouter). s.router) h
routes old new (entry ∷ entries) h = (h.0.router, h.1.route, routes h.0 new entries h.2)

pub opened_by : (old new : SharedRouter) (entries : List RouteEntry) → SeatRun old entries new → new.openers ≡ openers_by old.openers entries
opened_by old new [] h = ap (λ (s : SharedRouter). s.openers) (sym h)
opened_by old new (entry ∷ entries) h = opened_by h.0 new entries h.2 ∙ ap (λ (os : Openers). openers_by os entries) h.1.after

pub joined : (old mid new : SharedRouter) (first more : List RouteEntry) → SeatRun old first mid → SeatRun mid more new
    → SeatRun old (first ++ more) new
joined old mid new [] more h k = subst (λ (s : SharedRouter). SeatRun s more new) (sym h) k
joined old mid new (entry ∷ first) more h k = (h.0, h.1, joined h.0 mid new first more h.2 k)

pub cut : (old new : SharedRouter) (first more : List RouteEntry) → SeatRun old (first ++ more) new
    → (mid : SharedRouter) × SeatRun old first mid × SeatRun mid more new
cut old new [] more h = (old, refl, h)
cut old new (entry ∷ first) more h = let k = cut h.0 new first more h.2 in (k.0, (h.0, h.1, k.1), k.2)
