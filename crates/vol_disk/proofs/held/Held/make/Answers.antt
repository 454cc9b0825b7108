use Rattle.std.proofs.Common.{◌∷◌, ◌++◌, [], ap, ◌∙◌}
use Rattle.vol_disk.proofs.Replays.{replayed_more}
use Rattle.vol_disk.proofs.held.Held.make.Goals as goal

pub invariant_of-self-2 : goal.invariant_of-self-2
invariant_of-self-2 c =
    let s = c.self.inside in
    let call = c.args.call in
    let kept = c.keep_call.ensures.kept ∙ ap (λ calls. calls ++ call ∷ []) c.reserve.ensures.items in
    replayed_more s.files.entries c.apply.new.files.entries s.start s.calls.items c.keep_call.new.calls.items call c.self.invariant c.in-Ok.ensures.ok kept
