use Rattle.std.proofs.Common.{◌≡◌, ◌∙◌, refl, arith}
use Rattle.workers.proofs.Rows.{moves_length, moves_one}
use Rattle.workers.proofs.serving.hire.Goals as goal

pub push_reserved-requires : goal.push_reserved-requires
push_reserved-requires g c =
    let i = c.loop-clock.invariant in
    omega (arith, moves_length _ _ _ _ i.0, i.5, c.take_last-pass.ensures.len, c.requires.none.1, c.loop-clock.workers.ok, c.loop-clock.passes.ok)

pub loop-clock-preserved : goal.loop-clock-preserved
loop-clock-preserved g c =
    let i = c.loop-clock.invariant in
    let ok0 = c.loop-clock.passes.ok in
    let ok1 = c.take_last-pass.new.self.ok in (
      moves_one _ _ _ _ _ _ _ _ i.0 c.take_last-pass.ensures.items c.push_reserved.ensures.items (record { there = refl; part = c.split_off.ensures.parts; none = c.split_off.ensures.amount; unworn = refl }),
      omega (arith, i.1, c.in-Some.ensures.cases, c.take_last-pass.ensures.len, c.loop-clock.clocks.ok, c.pop.new.self.ok, ok0, ok1),
      omega (arith, i.2, c.split_off.ensures.parts_left, c.take_last-pass.ensures.len, ok0, ok1),
      omega (arith, i.3, c.split_off.ensures.amount_left),
      c.take_last-pass.ensures.capacity ∙ i.4,
      c.push_reserved.ensures.capacity ∙ i.5,
    )
