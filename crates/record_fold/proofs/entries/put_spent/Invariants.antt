use Rattle.std.proofs.Common.{◌≡◌, map, take}
use Rattle.std.specs.Prelude.{filter, fold}
use Rattle.js_model.specs.Advance.{placed}
use Rattle.record_fold.specs.Entries.{is_spent_by}
use Rattle.record_fold.proofs.entries.put_spent.Given as goal

abbrev pub invariant-loop-entry : goal.invariant-loop-entry
invariant-loop-entry l = l.seqs.items ≡ fold placed l.initial.seqs.items (map (λ p. p.seq) (filter (is_spent_by l.moment l.limit) (take l.entry-index l.entries)))
