use Rattle.std.proofs.Common.{ap, not, sym, ◌==◌, ◌∙◌}
use Rattle.consumer_progress.proofs.Dues.{changes_told, differs}
use Rattle.consumer_progress.proofs.progress.ConsumerProgress.changes_due.Goals as goal

pub returns-in-Some : goal.returns-in-Some
returns-in-Some c = record {
  value = rw (← c.self.view_is)
      (ap (λ n. not (n == c.as_nanos-in-Some.result)) c.as_nanos.ensures.value
      ∙ ap (λ n. not (c.in-Some.told.1 == n)) c.as_nanos-in-Some.ensures.value
      ∙ ap (differs c.args.due) (sym c.in-Some.is)
      ∙ changes_told c.args.seq c.args.due c.self.inside.cursor c.self.inside.pending c.self.invariant.pending c.get.result c.get.ensures.value);
}

pub returns-in-None : goal.returns-in-None
returns-in-None c = record {
  value = rw (← c.self.view_is)
      (ap (differs c.args.due) (sym c.in-None.is) ∙ changes_told c.args.seq c.args.due c.self.inside.cursor c.self.inside.pending c.self.invariant.pending c.get.result c.get.ensures.value);
}
