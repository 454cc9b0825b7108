use Rattle.std.proofs.Common.{rules, ◌∷◌, sym, ap, ◌∙◌, subst, Some}
use Rattle.atomic_table.specs.Table.{rest}
use Rattle.turn_lock.specs.Views.{View}
use Rattle.turn_lock.specs.Ruled.{IsNumbered}
use Rattle.turn_lock.specs.Steps.{Taken}
use Rattle.turn_lock.proofs.Seats.{same_head, not_none, inside_then, taken_of}
use Rattle.turn_lock.proofs.Keeps.{looks}
use Rattle.turn_lock.proofs.turns.Turns.come_in.Goals as goal

pub load-serving-requires : goal.load-serving-requires
load-serving-requires g c = let i = c.loop.invariant in
    (i.0 ∙ (c.requires.own ∙ ap (λ z. z.lock) (sym c.self.view_is)), search rules, looks _ _ _ _ (g.met.P.Standing.all_lawful _) _ c.self.invariant.slots _ _ c.args.ticket (ap (λ m. m.0.stage) i.1 ∙ c.requires.drawn))

pub exchange-requires : goal.exchange-requires
exchange-requires g c = let i = c.loop.invariant in let l = c.load-serving.ensures in
    let e = (l.2 c.args.ticket (ap (λ m. m.0.stage) i.1 ∙ c.requires.drawn)).0 c.if-serving-ticket.true in
    (l.0 ∙ (i.0 ∙ (c.requires.own ∙ ap (λ z. z.lock) (sym c.self.view_is))), (Some e.kept, e.has_it ∙ ap (λ z. (0, Some e.kept) ∷ rest z) (sym e.has_it)))

pub unreachable-requires : goal.unreachable-requires
unreachable-requires g c = let i = c.loop.invariant in let l = c.load-serving.ensures in
    let e = (l.2 c.args.ticket (ap (λ m. m.0.stage) i.1 ∙ c.requires.drawn)).0 c.if-serving-ticket.true in
    not_none e.kept (same_head (Some e.kept) c.exchange.result _ _ _ e.has_it c.exchange.ensures.2 ∙ c.in_default.is)

pub returns-then-serving-ticket-clause-inside : goal.returns-then-serving-ticket-clause-inside
returns-then-serving-ticket-clause-inside g c = let i = c.loop.invariant in let l = c.load-serving.ensures in
    let e = (l.2 c.args.ticket (ap (λ m. m.0.stage) i.1 ∙ c.requires.drawn)).0 c.if-serving-ticket.true in
    inside_then _ _ c.args.ticket c.loop.seat.me c.load-serving.new.seat.me c.exchange.new.seat.me e (subst IsNumbered (sym (ap (λ m. m.0) i.1)) c.requires.numbered) (ap (λ m. m.1) i.1 ∙ c.requires.bare) c.exchange.ensures.3

pub returns-then-serving-ticket-clause-taken : goal.returns-then-serving-ticket-clause-taken
returns-then-serving-ticket-clause-taken g c = let i = c.loop.invariant in let l = c.load-serving.ensures in let k = c.in-Some-exchange.kept in
    let e = (l.2 c.args.ticket (ap (λ m. m.0.stage) i.1 ∙ c.requires.drawn)).0 c.if-serving-ticket.true in
    let taken = taken_of _ _ c.args.ticket c.loop.seat.me c.load-serving.new.seat.me e k (c.exchange.ensures.2 ∙ ap (λ z. (0, z) ∷ rest c.load-serving.new.seat.me.1) c.in-Some-exchange.is) in
    subst (λ (z : View × View). Taken g.row.S.Denot g.P.Standing.stands z.0 z.1 k.value) (λ j. ((i.1 j).0, (sym c.exchange.ensures.3 j).0)) taken

pub loop-preserved : goal.loop-preserved
loop-preserved g c = let i = c.loop.invariant in let l = c.load-serving.ensures in
    (l.0 ∙ i.0, (l.2 c.args.ticket (ap (λ m. m.0.stage) i.1 ∙ c.requires.drawn)).1 c.if-serving-ticket.false ∙ i.1)
