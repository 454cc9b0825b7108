use Rattle.std.proofs.Common.{◌≡◌, ◌∙◌, ◌<◌, ℕ, rules, length, slice_index_or, sym, subst}
use Rattle.std.specs.List.{AllByRecursion, AllZip}
use Rattle.workers.specs.Working.{IsIdle, Worked}
use Rattle.workers.specs.declared.worker.Worker.{Worker}
use Rattle.workers.proofs.Rows.{all_from_places, zip_at_places, written_back}
use Rattle.workers.proofs.serving.work_all.Goals as goal

-- what the call of each worker's place says
module _ (g : _) (c : goal.After-workers-1 g) (i : ℕ) (d : Worker g.row.P.Denot g.row.C.Denot g.row.B.Denot g.row.P-Vol.Denot) (inside : i < length c.as_mut_slice.result.now) where
  idle_at : let w = slice_index_or c.for_each_mut.new.s i d in IsIdle c.args.place.now.hub.now w.pass w.share.parts w.share.amount
  idle_at = let called = (c.for_each_mut.ensures i d inside).1 in search rules

  worked_at : let was = slice_index_or c.as_mut_slice.result.now i d in let is = slice_index_or c.for_each_mut.new.s i d in Worked g.B.Beginning.limits was.pass is.pass was.worn is.worn
  worked_at = let called = (c.for_each_mut.ensures i d inside).1 in search rules

pub returns-clause-idle : goal.returns-clause-idle
returns-clause-idle g c =
    let Idle = λ (w : Worker g.row.P.Denot g.row.C.Denot g.row.B.Denot g.row.P-Vol.Denot). IsIdle c.args.place.now.hub.now w.pass w.share.parts w.share.amount in
    subst (AllByRecursion Idle) (sym (written_back c.args.workers.now.len c.for_each_mut.new.s c.args.workers.now.items (c.for_each_mut.auto.s ∙ c.as_mut_slice.ensures.len)))
    (all_from_places Idle c.for_each_mut.new.s (λ i d l. idle_at g c i d (subst (λ n. i < n) c.for_each_mut.auto.s l)))

pub returns-clause-worked : goal.returns-clause-worked
returns-clause-worked g c =
    let Led = λ (was is : Worker g.row.P.Denot g.row.C.Denot g.row.B.Denot g.row.P-Vol.Denot). Worked g.B.Beginning.limits was.pass is.pass was.worn is.worn in
    subst (AllZip Led c.args.workers.now.items) (sym (written_back c.args.workers.now.len c.for_each_mut.new.s c.args.workers.now.items (c.for_each_mut.auto.s ∙ c.as_mut_slice.ensures.len)))
    (subst (λ ws. AllZip Led ws c.for_each_mut.new.s) c.as_mut_slice.ensures.value
    (zip_at_places Led c.as_mut_slice.result.now c.for_each_mut.new.s (sym c.for_each_mut.auto.s) (worked_at g c)))
