use Rattle.std.proofs.Common.{Bool, false, Ok, inl, ap, sym, ◌∙◌, arith}
use Rattle.volume_place.proofs.Keeping.{bound_exact, fixed_exact, lacks_read, leaves_still, none_fixed, none_read, reserved_read, rose_or_long}
use Rattle.volume_place.proofs.preparing.keep_reserve.Goals as goal

pub returns-then-is_none-clause-fixed : goal.returns-then-is_none-clause-fixed
returns-then-is_none-clause-fixed g c = (sym (none_fixed c.args.durable.now (none_read c.args.durable.now c.is_none.result c.is_none.ensures c.if-is_none.true)), omega arith)

pub returns-then-is_none-clause-reserved : goal.returns-then-is_none-clause-reserved
returns-then-is_none-clause-reserved g c = inl (none_read c.args.durable.now c.is_none.result c.is_none.ensures c.if-is_none.true)

pub returns-then-is_none-clause-any_moment : goal.returns-then-is_none-clause-any_moment
returns-then-is_none-clause-any_moment g c = λ told. leaves_still c.args.store.now (g.V.Vol.disk c.args.vol.now) (g.met.V.Vol.clocked c.args.vol.now)

pub returns-in_default-clause-any_moment : goal.returns-in_default-clause-any_moment
returns-in_default-clause-any_moment g c = λ told. leaves_still c.args.store.now (g.V.Vol.disk c.args.vol.now) (g.met.V.Vol.clocked c.args.vol.now)

pub returns-in_default-fixed_of-clause-any_moment : goal.returns-in_default-fixed_of-clause-any_moment
returns-in_default-fixed_of-clause-any_moment g c = λ told. leaves_still c.args.store.now (g.V.Vol.disk c.args.vol.now) (g.met.V.Vol.clocked c.args.vol.now)

pub returns-in-Ok-true-clause-fixed : goal.returns-in-Ok-true-clause-fixed
returns-in-Ok-true-clause-fixed g c =
    fixed_exact c.args.durable.now c.in-Ok.bound c.in-Ok-fixed_of.fixed c.in-Ok.ensures.value (c.in-Ok-true.ensures.short c.in-Ok-true.field-0-test) c.in-Ok-fixed_of.ensures.value

pub returns-in-Ok-true-clause-reserved : goal.returns-in-Ok-true-clause-reserved
returns-in-Ok-true-clause-reserved g c =
    reserved_read c.reserve.new.self.rooms c.args.durable.now c.in-Ok.bound c.in-Ok-true.field-0 c.in-Ok-true.ensures.reserved c.in-Ok-true.field-0-test
    (bound_exact c.args.durable.now c.in-Ok.bound c.in-Ok.ensures.value (c.in-Ok-true.ensures.short c.in-Ok-true.field-0-test))

pub returns-in-Ok-false-clause-lacks : goal.returns-in-Ok-false-clause-lacks
returns-in-Ok-false-clause-lacks g c = λ is.
    lacks_read c.args.durable.now c.in-Ok.bound (g.V.Vol.refusals c.args.vol.now) (g.V.Vol.refusals c.reserve.new.vol) c.in-Ok.ensures.value
    (rose_or_long c.reserve.result (Ok false) c.in-Ok.bound (g.V.Vol.refusals c.args.vol.now) (g.V.Vol.refusals c.reserve.new.vol) c.reserve.ensures.refused
    (c.in-Ok-false.is ∙ ap (λ (b : Bool). Ok b) c.in-Ok-false.field-0-test))
