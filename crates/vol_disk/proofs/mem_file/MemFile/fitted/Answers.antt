use Rattle.std.proofs.Common.{◌≡◌, ℕ, length, max, min, ap, arith, ◌∙◌}
use Rattle.vol_disk.specs.FileState.{FileState}
use Rattle.vol_disk.proofs.Leaving.{fits}
use Rattle.vol_disk.proofs.mem_file.MemFile.fitted.Goals as goal

pub returns-clause-same : goal.returns-clause-same
returns-clause-same c =
    let s = c.args.self.now in
    let wanted = c.args.wanted.now in
    let len = c.min-len.ensures ∙ ap (λ (m : ℕ). min m c.self.inside.greatest) c.max.ensures ∙ ap (λ (s : FileState). min (max (length wanted) s.least) s.greatest) c.self.view_is in
    let all : c.loop-place.place ≡ c.min-len.result = omega (arith, c.loop-place-test.false, c.loop-place.auto.place-end) in
    fits s wanted c.loop-place.left.items c.loop-place.place (all ∙ len) c.loop-place.invariant.size c.loop-place.invariant.stays c.loop-place.invariant.wanted
