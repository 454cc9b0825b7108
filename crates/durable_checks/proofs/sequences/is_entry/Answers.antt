use Rattle.std.proofs.Common.{rules, ◌∙◌}
use Rattle.std.proofs.lemmas.List.Sorted.{answers_always}
use Rattle.durable_checks.proofs.Searching.{entry_found}
use Rattle.durable_checks.proofs.sequences.is_entry.Goals as goal

pub returns : goal.returns
returns c =
    let facts = c.binary_search_by_key.ensures in
    let by_seq = facts.position (λ entry. entry.seq) (answers_always _ _ _ (λ f a r g called. search rules)) in
    record { value = c.is_ok.ensures.value ∙ entry_found c.args.entries.now c.args.seq c.requires.ascend _ facts.bound by_seq }
