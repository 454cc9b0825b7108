use Rattle.std.proofs.Common.{◌≡◌, [], take}
use Rattle.std.specs.Prelude.{fold}
use Rattle.js_model.specs.Deliver.{with_pending}
use Rattle.consumer_progress.proofs.Filling.{own}
use Rattle.replayed_consumer.proofs.tables.table_with.Given as goal

abbrev pub invariant-loop-entry : goal.invariant-loop-entry
invariant-loop-entry l = l.table ≡ fold (λ ps e. with_pending ps (own e)) [] (take l.entry-index l.entries)
