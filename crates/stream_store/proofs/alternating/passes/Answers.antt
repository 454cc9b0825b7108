use Rattle.std.proofs.Common.{◌+◌, ◌-◌, ◌^◌, ◌∙◌, ℕ, ap, min}
use Rattle.stream_store.proofs.Alternations.{passes_is}
use Rattle.stream_store.proofs.alternating.passes.Goals as goal

pub returns : goal.returns
returns c = record {
  value = passes_is c.args.end c.args.count c.args.len c.saturating_add-2.result c.requires.small (c.saturating_add-2.ensures ∙ ap (λ (n : ℕ). min (n + c.args.count) (2 ^ 64 - 1)) c.saturating_add.ensures);
}
