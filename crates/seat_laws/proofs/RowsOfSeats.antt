-- Worked rows of a router that two seats share.
use Rattle.std.proofs.Common.{◌==◌, ℕ, false, List, [], ◌∷◌, length, refl, sym, ap, inl, lit<}
use Rattle.std.specs.Prelude.{None, codes}
use Rattle.std.proofs.lemmas.Bool.{true≢false}
use Rattle.js_model.specs.Router.{RouteCall, Open, Close, Interest, RouteTold, Done, Opened, Listens, RouteEntry, IsRoute, empty_router, route}
use Rattle.js_model.proofs.SamplesOfRouter.{router_of, plain}
use Rattle.seat_laws.specs.Seats.{SharedRouter, AreOpeners, SeatStep, SeatRun}

abbrev by : ℕ → RouteCall → RouteTold → RouteEntry
by seat call told = record { seat = seat; call = call; told = told }

-- the seats 7 and 8 share it, and nobody has opened a session yet
abbrev unopened : SharedRouter
unopened = record { router = empty_router; openers = [] }

-- ---- each opens a session

abbrev seven_opened : SharedRouter
seven_opened = record { router = router_of (Open ∷ []); openers = record { session = 1; seat = 7 } ∷ [] }

abbrev both_opened : SharedRouter
both_opened = record { router = router_of (Open ∷ Open ∷ []); openers = record { session = 1; seat = 7 } ∷ record { session = 2; seat = 8 } ∷ [] }

seven_opens : SeatStep unopened (by 7 Open (Opened 1)) seven_opened
unfolding route
seven_opens = record { route = inl (record { chosen = []; choice = refl; routed = refl }); may = tt; after = refl }

eight_opens : SeatStep seven_opened (by 8 Open (Opened 2)) both_opened
unfolding route
eight_opens = record { route = inl (record { chosen = []; choice = refl; routed = refl }); may = tt; after = refl }

both_open : SeatRun unopened (by 7 Open (Opened 1) ∷ by 8 Open (Opened 2) ∷ []) both_opened
both_open = (seven_opened, seven_opens, (both_opened, eight_opens, refl))

-- each open session has one opener
each_once : AreOpeners both_opened
unfolding route
each_once = record { same = refl; ascending = (lit< tt, (lit< tt, lit< tt)) }

-- with a second one for the first session, they are not just the open ones
opened_twice : AreOpeners (record both_opened { openers = record { session = 1; seat = 8 } ∷ both_opened.openers }) → ⊥
unfolding route
opened_twice h = true≢false (sym (ap (λ (ns : List ℕ). length ns == 2) h.same))

-- ---- a session of the other one

-- a router by itself lets anyone close it
anyone_closes : IsRoute both_opened.router (Close 2) Done (router_of (Open ∷ Open ∷ Close 2 ∷ []))
unfolding route
anyone_closes = inl (record { chosen = []; choice = refl; routed = refl })

closes_other : (new : SharedRouter) → SeatStep both_opened (by 7 (Close 2) Done) new → ⊥
closes_other new h = true≢false (sym h.may)

subscribes_other : (new : SharedRouter) → SeatStep both_opened (by 8 (plain 1 (codes "a") (codes "1")) Done) new → ⊥
subscribes_other new h = true≢false (sym h.may)

-- one that nobody opened
closes_unopened : (new : SharedRouter) → SeatStep both_opened (by 7 (Close 3) Done) new → ⊥
closes_unopened new h = true≢false (sym h.may)

-- ---- each closes its own

abbrev seven_closed : SharedRouter
seven_closed = record { router = router_of (Open ∷ Open ∷ Close 1 ∷ []); openers = record { session = 2; seat = 8 } ∷ [] }

abbrev both_closed : SharedRouter
both_closed = record { router = router_of (Open ∷ Open ∷ Close 1 ∷ Close 2 ∷ []); openers = [] }

seven_closes : SeatStep both_opened (by 7 (Close 1) Done) seven_closed
unfolding route
seven_closes = record { route = inl (record { chosen = []; choice = refl; routed = refl }); may = refl; after = refl }

eight_closes : SeatStep seven_closed (by 8 (Close 2) Done) both_closed
unfolding route
eight_closes = record { route = inl (record { chosen = []; choice = refl; routed = refl }); may = refl; after = refl }

both_close : SeatRun both_opened (by 7 (Close 1) Done ∷ by 8 (Close 2) Done ∷ []) both_closed
both_close = (seven_closed, seven_closes, (both_closed, eight_closes, refl))

-- a session that was closed is nobody's
closes_twice : (new : SharedRouter) → SeatStep seven_closed (by 7 (Close 1) Done) new → ⊥
closes_twice new h = true≢false (sym h.may)

-- ---- a call that names no session

eight_asks : SeatStep both_opened (by 8 (Interest (codes "a") None) (Listens false)) both_opened
unfolding route
eight_asks = record { route = inl (record { chosen = []; choice = refl; routed = refl }); may = tt; after = refl }
