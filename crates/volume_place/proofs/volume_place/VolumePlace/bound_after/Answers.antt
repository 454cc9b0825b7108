use Rattle.std.proofs.Common.{◌+◌, ℕ, ap, sym, subst, ◌∙◌, arith}
use Rattle.effects.specs.declared.durable.Durable.{Durable}
use Rattle.durable_checks.specs.Storable.{IsFormed}
use Rattle.snapshot_bound.specs.Bounds.{capped}
use Rattle.volume_place.specs.declared.volume_place.VolumePlace.TheView.{view}
use Rattle.volume_place.proofs.Formed.{formed}
use Rattle.volume_place.proofs.Prepared.{count_is, measured_exact, outgrows, whole_is}
use Rattle.volume_place.proofs.Reserving.{measured_reserve}
use Rattle.volume_place.proofs.volume_place.VolumePlace.bound_after.Goals as goal

pub fixed_of-requires : goal.fixed_of-requires
fixed_of-requires g c = record {
  formed = subst (λ (d : Durable). IsFormed d) (sym c.in_ok-durable.ensures.value) (formed c.self.inside.slot c.self.invariant.0.sound c.self.invariant.0.writable);
}

pub invariant_of-self : goal.invariant_of-self
invariant_of-self g c =
    let V = g.V.Vol in
    let x = view _ V c.self.inside in
    let less = c.in_ok-self-inside.field-0 in
    let enough = c.self.invariant.3.fixed_is in
    let exact = measured_exact c.in_ok-durable.durable x.state x.fixed less c.in_ok-durable.ensures.value enough c.self.invariant.3.fixed_fits c.in_ok-self-inside.ensures.value in (
      c.self.invariant.0,
      c.self.invariant.1,
      c.self.invariant.2,
      measured_reserve V.told V.disk x.vol x.store x.waiting x.stopped x.fixed x.state c.self.invariant.3 less (omega (arith, exact)) (omega (arith, exact, enough)),
    )

pub returns-clause-exact : goal.returns-clause-exact
returns-clause-exact g c =
    let V = g.V.Vol in
    let x = view _ V c.self.inside in
    let what = c.args.what.now in
    let less = c.in_ok-self-inside.field-0 in
    let exact = measured_exact c.in_ok-durable.durable x.state x.fixed less c.in_ok-durable.ensures.value c.self.invariant.3.fixed_is c.self.invariant.3.fixed_fits c.in_ok-self-inside.ensures.value in
    let growth = rw (← c.self.view_is) at c.requires.growth in
    let whole = whole_is x.state what c.args.growth c.whole-2.result growth c.whole-2.ensures.value in
    let count = count_is less x.state what c.whole-2.result c.saturating_add.result whole
    (c.saturating_add.ensures ∙ ap (λ (n : ℕ). capped (n + c.whole-2.result)) c.bound_with-2.ensures.value) in
    rw (← c.self.view_is) (outgrows less x.state what c.saturating_add.result exact count)
