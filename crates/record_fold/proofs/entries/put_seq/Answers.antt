use Rattle.std.proofs.Common.{ℕ, nat_le, ap, ◌∙◌}
use Rattle.std.specs.List.{insert, position}
use Rattle.record_fold.proofs.Placing.{place_is, placed_at}
use Rattle.record_fold.proofs.entries.put_seq.Goals as goal

pub returns : goal.returns
returns c =
    let seqs = c.args.seqs.now.items in
    let test = λ (n : ℕ). nat_le c.args.seq n in
    let is = place_is test seqs c.seq_place.result c.unwrap_or-place.result c.len.result (c.seq_place.ensures.value ∙ ap (position test) c.as_slice.ensures.value) c.unwrap_or-place.ensures (c.len.ensures ∙ c.args.seqs.now.ok.0) in
    record { ok = c.in_ok-insert.ensures.items ∙ ap (λ (k : ℕ). insert seqs k c.args.seq) is ∙ placed_at c.args.seq seqs }
