use Rattle.std.proofs.Common.{List, sym, subst, map}
use Rattle.js_model.specs.declared.consumer.Pending.{Pending}
use Rattle.durable_checks.specs.Parts.{Ascend}
use Rattle.durable_checks.proofs.Searching.{pending_ascends}
use Rattle.durable_checks.proofs.keeping.needs.Goals as goal

pub is_entry-requires : goal.is_entry-requires
is_entry-requires c = record {
  ascend = subst (λ (l : List Pending). Ascend (map (λ p. p.seq) l)) (sym c.as_slice-else-consumer-seq.ensures) (pending_ascends c.args.consumer.now c.requires.ascending);
}
