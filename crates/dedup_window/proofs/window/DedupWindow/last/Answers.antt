use Rattle.std.proofs.Common.{ap, arith, refl}
use Rattle.std.specs.Option.{option_map}
use Rattle.js_model.specs.declared.stream.Id.{Id}
use Rattle.dedup_window.proofs.Ids.{last_is}
use Rattle.dedup_window.proofs.window.DedupWindow.last.Goals as goal

pub returns : goal.returns
returns c =
    let ids = c.self.inside.ids.items in
    let found = c.in_ok-last.ensures in
    let is = last_is ids _ c.in_ok-last.last.now found.lookup (omega (arith, found.variant.0 refl)) in
    record { value = rw (← c.self.view_is) (ap (option_map (λ (i : Id). i.id)) is) }
