use Rattle.std.proofs.Common.{ℕ, Err, sym, subst}
use Rattle.desk_hold.specs.declared.following.Following.TheVariants.{Unheard}
use Rattle.desk_hold.specs.declared.port.PortFault.{PortFault}
use Rattle.desk_hold.specs.Following.{Follows}
use Rattle.desk_hold.specs.Hearing.{Hears}
use Rattle.desk_hold.specs.declared.delivering.Ending.TheVariants.{Quiet, Full, Broke, Short, WornOut}
use Rattle.desk_hold.proofs.Followed.{as_told, broke, full, no_turn, not_heard, quiet, ran_short, worn_out}
use Rattle.desk_hold.proofs.following.follow.Goals as goal

pub returns-in-Err-NoMemory-clause-follows : goal.returns-in-Err-NoMemory-clause-follows
returns-in-Err-NoMemory-clause-follows g c = λ seat at.
    let P = g.P.Place in let R = g.R.Port in let place = P.seen c.args.place.now in
    not_heard R.routes R.worn P.holds seat at c.args.now c.failed.result place c.args.port.now c.hear.new.port c.args.outs.now c.law_kept.ensures.kept c.requires.going
    (subst (λ (fault : PortFault). Hears R.routes R.worn (Err fault) place.place.state c.args.port.now c.hear.new.port) c.in-Err-NoMemory.field-0-is c.in-Err-NoMemory.ensures.hears)
    c.failed.ensures.value

pub returns-in-Err-Worn-clause-follows : goal.returns-in-Err-Worn-clause-follows
returns-in-Err-Worn-clause-follows g c = λ seat at.
    let P = g.P.Place in let R = g.R.Port in let place = P.seen c.args.place.now in
    subst (λ (number : ℕ). Follows R.routes R.worn seat at c.args.now P.holds (Unheard number) place place c.args.port.now c.hear.new.port c.args.outs.now c.args.outs.now) (sym c.in-Err-Worn.number-is)
    (no_turn R.routes R.worn P.holds seat at c.args.now c.in-Err-Worn.number place c.args.port.now c.hear.new.port c.args.outs.now c.law_kept.ensures.kept c.requires.going
    (subst (λ (fault : PortFault). Hears R.routes R.worn (Err fault) place.place.state c.args.port.now c.hear.new.port) c.in-Err-Worn.field-0-is c.in-Err-Worn.ensures.hears))

pub returns-in-Quiet-clause-follows : goal.returns-in-Quiet-clause-follows
returns-in-Quiet-clause-follows g c = λ seat at.
    let P = g.P.Place in let R = g.R.Port in let old = P.seen c.args.place.now in let new = P.seen c.deliver_all.new.place in
    let d = as_told R.routes R.worn P.holds seat at c.args.now c.in-Ok.listening old new c.args.port.now c.hear.new.port c.args.outs.now c.deliver_all.new.outs c.in-Ok.ensures.hears Quiet c.deliver_all.result c.in-Quiet.is (c.deliver_all.ensures.delivers seat at) in
    quiet R.routes R.worn P.holds seat at c.args.now c.in-Ok.listening old new c.args.port.now c.hear.new.port c.args.outs.now c.deliver_all.new.outs c.in-Ok.ensures.hears d

pub returns-in-Broke-clause-follows : goal.returns-in-Broke-clause-follows
returns-in-Broke-clause-follows g c = λ seat at.
    let P = g.P.Place in let R = g.R.Port in let old = P.seen c.args.place.now in let new = P.seen c.deliver_all.new.place in
    let d = as_told R.routes R.worn P.holds seat at c.args.now c.in-Ok.listening old new c.args.port.now c.hear.new.port c.args.outs.now c.deliver_all.new.outs c.in-Ok.ensures.hears Broke c.deliver_all.result c.in-Broke.is (c.deliver_all.ensures.delivers seat at) in
    broke R.routes R.worn P.holds seat at c.args.now c.in-Ok.listening old new c.args.port.now c.hear.new.port c.args.outs.now c.deliver_all.new.outs c.in-Ok.ensures.hears d

pub returns-in-Full-clause-follows : goal.returns-in-Full-clause-follows
returns-in-Full-clause-follows g c = λ seat at.
    let P = g.P.Place in let R = g.R.Port in let old = P.seen c.args.place.now in let new = P.seen c.deliver_all.new.place in
    let d = as_told R.routes R.worn P.holds seat at c.args.now c.in-Ok.listening old new c.args.port.now c.hear.new.port c.args.outs.now c.deliver_all.new.outs c.in-Ok.ensures.hears Full c.deliver_all.result c.in-Full.is (c.deliver_all.ensures.delivers seat at) in
    full R.routes R.worn P.holds seat at c.args.now c.in-Ok.listening old new c.args.port.now c.hear.new.port c.args.outs.now c.deliver_all.new.outs c.in-Ok.ensures.hears _ c.ready.ensures.value d

pub returns-in-Short-clause-follows : goal.returns-in-Short-clause-follows
returns-in-Short-clause-follows g c = λ seat at.
    let P = g.P.Place in let R = g.R.Port in let old = P.seen c.args.place.now in let new = P.seen c.deliver_all.new.place in
    let d = as_told R.routes R.worn P.holds seat at c.args.now c.in-Ok.listening old new c.args.port.now c.hear.new.port c.args.outs.now c.deliver_all.new.outs c.in-Ok.ensures.hears Short c.deliver_all.result c.in-Short.is (c.deliver_all.ensures.delivers seat at) in
    ran_short R.routes R.worn P.holds seat at c.args.now c.in-Ok.listening old new c.args.port.now c.hear.new.port c.args.outs.now c.deliver_all.new.outs c.in-Ok.ensures.hears _ c.failed-in-Short.ensures.value d

pub returns-clause-follows : goal.returns-clause-follows
returns-clause-follows g c = λ seat at.
    let P = g.P.Place in let R = g.R.Port in let old = P.seen c.args.place.now in let new = P.seen c.deliver_all.new.place in
    let d = as_told R.routes R.worn P.holds seat at c.args.now c.in-Ok.listening old new c.args.port.now c.hear.new.port c.args.outs.now c.deliver_all.new.outs c.in-Ok.ensures.hears WornOut c.deliver_all.result c.in-WornOut.is (c.deliver_all.ensures.delivers seat at) in
    worn_out R.routes R.worn P.holds seat at c.args.now c.in-Ok.listening old new c.args.port.now c.hear.new.port c.args.outs.now c.deliver_all.new.outs c.in-Ok.ensures.hears _ c.failed-in-WornOut.ensures.value d
