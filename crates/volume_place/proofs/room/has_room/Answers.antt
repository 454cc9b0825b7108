use Rattle.std.proofs.Common.{◌≡◌, ◌≤◌, ◌+◌, ℕ, true, ap, ◌∙◌, rules, arith}
use Rattle.snapshot_bound.specs.Asking.{event_growth}
use Rattle.snapshot_bound.specs.Bounds.{capped, state_counted}
use Rattle.volume_place.proofs.Asked.{all_fit, fixed_fits}
use Rattle.volume_place.proofs.Prepared.{count_is, whole_is}
use Rattle.volume_place.proofs.room.has_room.Goals as goal

pub returns-clause-fits : goal.returns-clause-fits
returns-clause-fits c =
    let state = c.args.slot.now in
    let what = c.args.what.now in
    let whole = whole_is state what c.args.growth c.whole-2.result c.requires.growth c.whole-2.ensures.value in
    let count = count_is c.args.fixed state what c.whole-2.result c.saturating_add-count.result whole
    (c.saturating_add-count.ensures ∙ ap (λ (n : ℕ). capped (n + c.whole-2.result)) c.bound_with.ensures.value) in
    let part = c.requires.growth.fixed in
    let less : c.args.growth.fixed ≤ event_growth state what = omega (arith, part) in
    let reserved : c.is_reserved.result ≡ true = search rules in
    all_fit c.args.fixed c.args.growth.fixed c.is_reached.result
    (λ room. fixed_fits c.args.fixed c.args.growth.fixed (state_counted state) (event_growth state what) c.saturating_add-count.result room count less (c.is_reserved.ensures.short reserved))
