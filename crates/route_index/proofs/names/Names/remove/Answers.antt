use Rattle.std.proofs.Common.{rules}
use Rattle.std.proofs.lemmas.Option.{IfSome_then}
use Rattle.route_index.proofs.Naming.{if_none, drops_name, keeps_names}
use Rattle.route_index.proofs.names.Names.remove.Goals as goal

pub returns-in-Some-clause-some : goal.returns-in-Some-clause-some
returns-in-Some-clause-some c =
    let updates = (c.get_mut.follows.holds c.remove.new.self).3 (search rules) in
    IfSome_then c.remove.result c.remove.ensures.some
    (λ _. drops_name c.args.self.now (record { owners = c.get_mut.follows.lender c.remove.new.self }) c.args.owner c.in-Some.own.now c.remove.new.self c.in-Some.ensures.value (record { at = updates.0 }) c.args.text.now)

pub returns-in-Some-clause-none : goal.returns-in-Some-clause-none
returns-in-Some-clause-none c =
    let updates = (c.get_mut.follows.holds c.remove.new.self).3 (search rules) in
    if_none c.remove.result (keeps_names c.args.self.now (record { owners = c.get_mut.follows.lender c.remove.new.self }) c.args.owner c.in-Some.own.now c.remove.new.self c.in-Some.ensures.value (record { at = updates.0 }))
    c.remove.ensures.none
