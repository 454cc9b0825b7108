use Rattle.std.proofs.Common.{rules}
use Rattle.route_index.proofs.Under.{on_ok, on_err}
use Rattle.route_index.proofs.Naming.{adds_name, keeps_names}
use Rattle.route_index.proofs.names.Names.put.Goals as goal

pub returns-clause-ok : goal.returns-clause-ok
returns-clause-ok c =
    let updates = (c.get_mut.follows.holds c.put.new.self).3 (search rules) in
    on_ok c.put.result (adds_name c.args.self.now (record { owners = c.get_mut.follows.lender c.put.new.self }) c.args.owner c.in-Some.own.now c.put.new.self c.in-Some.ensures.value (record { at = updates.0 }) c.args.text.items c.args.number)
    c.put.ensures.ok

pub returns-clause-err : goal.returns-clause-err
returns-clause-err c =
    let updates = (c.get_mut.follows.holds c.put.new.self).3 (search rules) in
    on_err c.put.result (keeps_names c.args.self.now (record { owners = c.get_mut.follows.lender c.put.new.self }) c.args.owner c.in-Some.own.now c.put.new.self c.in-Some.ensures.value (record { at = updates.0 }))
    c.put.ensures.err
