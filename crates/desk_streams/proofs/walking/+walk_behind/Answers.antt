use Rattle.std.proofs.Common.{ap, sym, ◌∙◌, Ok}
use Rattle.desk_streams.proofs.Walks.{walk_cut, walk_ended, walk_failed, walk_on, walk_short, walk_unlooked}
use Rattle.desk_streams.proofs.walking.+walk_behind.Goals as goal

pub returns-then-is_err-clause-made : goal.returns-then-is_err-clause-made
returns-then-is_err-clause-made g t c = walk_short g.G.Ground.made c.args.now c.args.last _ _ _ (g.met.G.Ground.made_nothing _)

pub returns-in_err-found-clause-made : goal.returns-in_err-found-clause-made
returns-in_err-found-clause-made g t c = walk_unlooked g.G.Ground.made c.args.now c.args.last c.next_used.result _ _ _ _ _ _ c.in_err-found.was c.from_residual.ensures.1 (rw c.behind.ensures.value at c.next_used.ensures.made)

pub returns-in_default-clause-made : goal.returns-in_default-clause-made
returns-in_default-clause-made g t c = walk_ended g.G.Ground.made c.args.now c.args.last c.next_used.result c.in_ok-found.found _ _ _ _ c.in_ok-found.was (rw c.behind.ensures.value at c.next_used.ensures.made) (sym c.in_default.ensures.value) c.reserve.ensures.items

pub returns-in_err-visit-clause-made : goal.returns-in_err-visit-clause-made
returns-in_err-visit-clause-made g t c = walk_cut g.G.Ground.made c.args.now c.args.last g.met.G.Ground.made_more c.next_used.result c.in_ok-found.found c.in-Some.at _ _ c.in_ok-found.was (rw c.behind.ensures.value at c.next_used.ensures.made) (sym c.in-Some.ensures.value) c.visit.result _ _ _ _ _ c.in_err-visit.was c.from_residual-in_err-visit.ensures.1 (rw c.reserve.ensures.items at c.visit.ensures.made)

pub returns-in-None-clause-made : goal.returns-in-None-clause-made
returns-in-None-clause-made g t c = walk_on g.G.Ground.made c.args.now c.args.last g.met.G.Ground.made_more c.next_used.result c.in_ok-found.found c.in-Some.at _ _ c.in_ok-found.was (rw c.behind.ensures.value at c.next_used.ensures.made) (sym c.in-Some.ensures.value) c.visit.result c.walk_behind.result _ _ _ _ _ (c.in_ok-visit.was ∙ ap Ok c.in-None.is) (rw c.reserve.ensures.items at c.visit.ensures.made) c.walk_behind.ensures.made

pub returns-in-Some-2-clause-made : goal.returns-in-Some-2-clause-made
returns-in-Some-2-clause-made g t c = walk_failed g.G.Ground.made c.args.now c.args.last g.met.G.Ground.made_more c.next_used.result c.in_ok-found.found c.in-Some.at _ _ c.in_ok-found.was (rw c.behind.ensures.value at c.next_used.ensures.made) (sym c.in-Some.ensures.value) c.visit.result c.in-Some-2.reason _ _ _ (c.in_ok-visit.was ∙ ap Ok c.in-Some-2.is) (rw c.reserve.ensures.items at c.visit.ensures.made)
