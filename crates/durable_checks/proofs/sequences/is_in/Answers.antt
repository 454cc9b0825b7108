use Rattle.std.proofs.Common.{◌∙◌}
use Rattle.std.proofs.lemmas.List.Sorted.{searched}
use Rattle.durable_checks.proofs.Searching.{rises, found, is_ok_has}
use Rattle.durable_checks.proofs.sequences.is_in.Goals as goal

pub returns : goal.returns
returns c =
    let seqs = c.args.seqs.now in
    let result = c.binary_search.result in
    let ascends = c.requires.ascend in
    let place = searched seqs c.args.seq result c.binary_search.ensures.position (λ i j. rises 1 ascends.0 seqs i j ascends.1) in
    record { value = c.is_ok.ensures.value ∙ is_ok_has seqs c.args.seq result (found seqs c.args.seq result place) }
