use Rattle.std.proofs.Common.{◌≡◌, Result, Err, sym, subst}
use Rattle.std.specs.Result.{IsErrOf}
use Rattle.std.proofs.lemmas.Result.{err_from_is_err_and}
use Rattle.block_table.specs.declared.placing.Placing.{Placing}
use Rattle.block_writing.specs.declared.fault.PlanFault.{PlanFault}
use Rattle.block_writing.specs.declared.fault.PlanFault.TheVariants.{NoRoom}
use Rattle.block_writing.specs.Plans.{WritesBlock}
use Rattle.block_writing.proofs.Plans.{ArePlanned, allowed_there, all_planned, first_planned, next_planned, no_plan, writes_first}
use Rattle.block_writing.proofs.planning.plan.Goals as goal

pub loop-effect-init : goal.loop-effect-init
loop-effect-init c = record {
  so_far =
      subst (λ (p : Placing). ArePlanned c.args.table.now c.args.effects.now 0 (record { batch = c.new.result; spots = c.new-2.result; runs = c.new-3.result }) p) (sym c.placing-placing.ensures.value)
      (first_planned c.args.table.now c.args.effects.now (record { batch = c.new.result; spots = c.new-2.result; runs = c.new-3.result }) c.new.ensures.items c.new-2.ensures.items c.new-3.ensures.items);
  block = subst WritesBlock (sym c.placing-placing.ensures.value) (writes_first c.args.table.now c.placing-placing.ensures.table);
}

pub add-requires : goal.add-requires
add-requires c = record {
  allowed = allowed_there c.args.effects.now c.loop-effect.effect-index c.effect-item.result c.requires.allowed c.loop-effect-test.true c.effect-item.is;
  block = c.loop-effect.invariant.block;
}

-- the fault that is handed on is the one that came
same_fault : {T : Type 0} (result : Result T PlanFault) (told cause : PlanFault) → result ≡ Err told → told ≡ cause → IsErrOf result NoRoom → IsErrOf {T = Unit {0}} (Err cause) NoRoom
same_fault result told cause p q is = cc

pub returns-in_err-add-clause-no_room : goal.returns-in_err-add-clause-no_room
returns-in_err-add-clause-no_room c = λ is.
    let p = err_from_is_err_and c.from_residual.result c.from_residual.ensures.1 in
    no_plan c.args.table.now c.args.effects.now c.loop-effect.effect-index c.effect-item.result c.loop-effect.made c.loop-effect.placing c.loop-effect-test.true c.effect-item.is c.loop-effect.invariant.so_far
    (c.in_err-add.ensures.no_room (same_fault c.from_residual.result p.0 c.in_err-add.field-0.0 p.1 p.2 is))

pub loop-effect-preserved : goal.loop-effect-preserved
loop-effect-preserved c = record {
  so_far =
      next_planned c.args.table.now c.args.effects.now c.loop-effect.effect-index c.effect-item.result c.loop-effect.made c.add.new.self c.loop-effect.placing c.add.new.placing c.loop-effect-test.true c.effect-item.is
      c.loop-effect.invariant.so_far c.in_ok-add.ensures.ok;
  block = c.in_ok-add.ensures.block;
}

pub returns-clause-plan : goal.returns-clause-plan
returns-clause-plan c =
    all_planned c.args.table.now c.args.effects.now c.loop-effect.effect-index c.loop-effect.made c.loop-effect.placing c.loop-effect-test.false c.loop-effect.invariant.so_far
