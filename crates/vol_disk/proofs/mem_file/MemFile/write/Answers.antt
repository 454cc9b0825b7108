use Rattle.std.proofs.Common.{ℕ, ◌+◌, ◌≤◌, List, ◌∷◌, ◌++◌, [], length, max, ap, subst, sym, ◌∙◌}
use Rattle.vol_disk.specs.FileState.{FileState}
use Rattle.vol_disk.specs.declared.span.Span.{Span}
use Rattle.vol_disk.proofs.Leaving.{reached_write}
use Rattle.vol_disk.proofs.mem_file.MemFile.write.Goals as goal

pub invariant_of-self-2 : goal.invariant_of-self-2
invariant_of-self-2 c =
    let s = c.self.inside in
    let to = c.args.at + length c.args.bytes.now in
    let longer = c.max-self-inside.ensures ∙ ap (λ (len : ℕ). max s.greatest len) (c.max-len.ensures ∙ ap (λ (len : ℕ). max len to) (c.len.ensures ∙ s.bytes.ok.0)) in
    let spans = c.keep_span.ensures.kept ∙ ap (λ (all : List Span). all ++ record { from = c.args.at; to = to } ∷ []) c.reserve.ensures.items in
    let within = subst (λ (f : FileState). c.args.at ≤ length f.bytes) (sym c.self.view_is) c.requires.within in
    reached_write _ c.args.at c.args.bytes.now c.write_if.new.held.items c.args.is_done c.max-self-inside.result c.keep_span.new.spans.items within c.in-Ok.ensures.ok longer spans c.self.invariant
