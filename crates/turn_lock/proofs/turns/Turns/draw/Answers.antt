use Rattle.std.proofs.Common.{rules, ◌≤◌, ◌≡◌, ℕ, refl, sym, ap, ◌∙◌, subst, arith}
use Rattle.turn_lock.specs.Views.{View, with_ticket, counted}
use Rattle.turn_lock.specs.Ruled.{IsNumbered}
use Rattle.turn_lock.proofs.Keeps.{sees, draws}
use Rattle.turn_lock.proofs.turns.Turns.draw.Goals as goal

pub load-ticket-requires : goal.load-ticket-requires
load-ticket-requires g c = (search rules, search rules, sees _ _ _ _ (g.met.P.Standing.all_lawful _) _ _ _ c.requires.idle)

pub loop-init : goal.loop-init
loop-init g c = let e = c.load-ticket.ensures in (e.0, ap (λ z. z.0) e.2.0, ap (λ z. z.1) e.2.0, e.2.1, e.2.2)

pub compare_exchange-found-requires : goal.compare_exchange-found-requires
compare_exchange-found-requires g c = let i = c.loop.invariant in
    (i.0 ∙ (c.requires.own ∙ ap (λ z. z.lock) (sym c.self.view_is)), search rules, draws _ _ _ _ (g.met.P.Standing.all_lawful _) _ _ _ _ _ (ap (λ (v : View). v.stage) i.1 ∙ c.requires.idle) (subst IsNumbered (sym i.1) c.requires.numbered) c.if-ticket-ge-LAST_TICKET.false refl)

pub returns-then-found-ticket-clause-same : goal.returns-then-found-ticket-clause-same
returns-then-found-ticket-clause-same g c = let e = c.compare_exchange-found.ensures in let i = c.loop.invariant in (e.0 ∙ i.0, e.2.0 ∙ i.2)

pub returns-then-found-ticket-clause-ok : goal.returns-then-found-ticket-clause-ok
returns-then-found-ticket-clause-ok g c = let e = c.compare_exchange-found.ensures in let i = c.loop.invariant in let hit = c.if-found-ticket.true in
    let few : c.args.seat.now.me.0.drawn ≤ c.loop.ticket = i.4 in
    ((e.2.3 hit) ∙ (ap (λ (t : ℕ). with_ticket c.loop.seat.me.0 t) hit ∙ ap (λ (v : View). with_ticket v c.loop.ticket) i.1), few, c.if-ticket-ge-LAST_TICKET.false)

pub loop-preserved : goal.loop-preserved
loop-preserved g c = let e = c.compare_exchange-found.ensures in let i = c.loop.invariant in
    let few : c.loop.seat.me.0.drawn ≤ c.compare_exchange-found.result = e.2.2 in let was : c.loop.seat.me.0.drawn ≡ c.loop.ticket = ap (λ (v : View). v.drawn) i.1 in
    let first : c.args.seat.now.me.0.drawn ≤ c.loop.ticket = i.4 in
    (e.0 ∙ i.0, e.2.4 c.if-found-ticket.false ∙ ap (λ (v : View). counted v c.compare_exchange-found.result) i.1, e.2.0 ∙ i.2, e.2.1, omega arith)
