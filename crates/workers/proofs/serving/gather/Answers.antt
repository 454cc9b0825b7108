use Rattle.std.proofs.Common.{◌≡◌, ◌∙◌, refl, arith, ap}
use Rattle.workers.proofs.Rows.{any_turned_more, last_of, moves_length, moves_none, moves_one, rest_of}
use Rattle.workers.proofs.serving.gather.Goals as goal

pub retire-pass-requires : goal.retire-pass-requires
retire-pass-requires g c = record { pass = last_of _ _ _ _ c.in-Some.ensures.items c.loop-worker.invariant.1 }

pub push_reserved-requires : goal.push_reserved-requires
push_reserved-requires g c =
    let i = c.loop-worker.invariant in
    omega (arith, moves_length _ _ _ _ i.0.0, i.4, c.in-Some.ensures.cases, c.requires.none.1, c.loop-worker.passes.ok, c.loop-worker.workers.ok)

pub loop-worker-init : goal.loop-worker-init
unfolding moves_none
loop-worker-init g c = ((moves_none _ _ _ c.requires.none.0, refl), c.requires.idle, refl, refl, refl)

pub loop-worker-preserved : goal.loop-worker-preserved
unfolding moves_one
loop-worker-preserved g c =
    let i = c.loop-worker.invariant in
    let has = last_of _ _ _ _ c.in-Some.ensures.items i.1 in (
      (
        moves_one _ _ _ _ _ _ _ _ i.0.0 c.in-Some.ensures.items c.push_reserved.ensures.items c.retire-pass.ensures.pass,
        any_turned_more (λ w. w.worn) c.in-Some.worker i.0.0.gone _ _ i.0.1 c.retire-pass.ensures.worn,
      ),
      rest_of _ _ _ _ c.in-Some.ensures.items i.1,
      omega (arith, i.2, c.merge.ensures.parts, ap (λ s. s.parts) c.retire-pass.ensures.share, has.part, c.in-Some.ensures.cases, c.loop-worker.workers.ok, c.pop.new.self.ok),
      omega (arith, i.3, c.merge.ensures.amount, ap (λ s. s.amount) c.retire-pass.ensures.share, has.none),
      c.push_reserved.ensures.capacity ∙ i.4,
    )
