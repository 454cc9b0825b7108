use Rattle.std.proofs.Common.{◌≡◌, None, Ok, Err, rules}
use Rattle.std.proofs.lemmas.Result.{err_from_is_err_and}
use Rattle.volume_place.proofs.Deliveries.{delivers_made, delivery_log, delivery_shares}
use Rattle.volume_place.proofs.volume_place.VolumePlacePlace.deliver_one.Goals as goal

pub returns-in_err-confirm-in-Ok-Some-clause-delivers : goal.returns-in_err-confirm-in-Ok-Some-clause-delivers
returns-in_err-confirm-in-Ok-Some-clause-delivers g c =
    let going : c.args.self.now.stopped ≡ None = search rules in
    let delivers = rw c.in-Ok-Some.field-0-is at c.in-Ok-Some.ensures.delivers in
    let recorded = rw c.in-Ok-Some.field-0-is at c.in-Ok-Some.ensures.recorded in
    let p = err_from_is_err_and c.from_residual.result c.from_residual.ensures.1 in
    rw (p.1, p.2)
    (delivers_made g.V.Vol.told g.V.Vol.disk g.V.Vol.faults g.V.Vol.refusals c.args.self.now going c.deliver.new.self c.confirm.new.self c.in-Ok-Some.delivery c.args.now c.args.listening.now c.args.outs.now
    c.deliver.new.outs c.confirm.new.outs c.len-count.result (Err c.in_err-confirm-in-Ok-Some.field-0.0) c.in-Ok-Some.ensures.rests delivers recorded c.len-count.ensures
    c.in_err-confirm-in-Ok-Some.ensures.confirms c.in_err-confirm-in-Ok-Some.ensures.time)

pub returns-in_ok-confirm-in-Ok-Some-clause-delivers : goal.returns-in_ok-confirm-in-Ok-Some-clause-delivers
returns-in_ok-confirm-in-Ok-Some-clause-delivers g c =
    let going : c.args.self.now.stopped ≡ None = search rules in
    let delivers = rw c.in-Ok-Some.field-0-is at c.in-Ok-Some.ensures.delivers in
    let recorded = rw c.in-Ok-Some.field-0-is at c.in-Ok-Some.ensures.recorded in
    delivers_made g.V.Vol.told g.V.Vol.disk g.V.Vol.faults g.V.Vol.refusals c.args.self.now going c.deliver.new.self c.confirm.new.self c.in-Ok-Some.delivery c.args.now c.args.listening.now c.args.outs.now
    c.deliver.new.outs c.confirm.new.outs c.len-count.result (Ok c.in_ok-confirm-in-Ok-Some.field-0) c.in-Ok-Some.ensures.rests delivers recorded c.len-count.ensures
    c.in_ok-confirm-in-Ok-Some.ensures.confirms c.in_ok-confirm-in-Ok-Some.ensures.time

pub returns-in_ok-confirm-in-Ok-Some-clause-shares : goal.returns-in_ok-confirm-in-Ok-Some-clause-shares
returns-in_ok-confirm-in-Ok-Some-clause-shares g c =
    let going : c.args.self.now.stopped ≡ None = search rules in
    let delivers = rw c.in-Ok-Some.field-0-is at c.in-Ok-Some.ensures.delivers in
    let recorded = rw c.in-Ok-Some.field-0-is at c.in-Ok-Some.ensures.recorded in
    delivery_shares g.V.Vol.told g.V.Vol.disk g.V.Vol.faults g.V.Vol.refusals c.args.self.now going c.deliver.new.self c.confirm.new.self c.in-Ok-Some.delivery c.args.now c.args.listening.now c.args.outs.now
    c.deliver.new.outs c.confirm.new.outs c.len-count.result c.in-Ok-Some.ensures.rests delivers recorded c.in_ok-confirm-in-Ok-Some.ensures.confirms

pub returns-in_ok-confirm-in-Ok-Some-clause-log : goal.returns-in_ok-confirm-in-Ok-Some-clause-log
returns-in_ok-confirm-in-Ok-Some-clause-log g c =
    let going : c.args.self.now.stopped ≡ None = search rules in
    let delivers = rw c.in-Ok-Some.field-0-is at c.in-Ok-Some.ensures.delivers in
    let recorded = rw c.in-Ok-Some.field-0-is at c.in-Ok-Some.ensures.recorded in
    delivery_log g.V.Vol.told g.V.Vol.disk g.V.Vol.faults g.V.Vol.refusals c.args.self.now going c.deliver.new.self c.confirm.new.self c.in-Ok-Some.delivery c.args.now c.args.listening.now c.args.outs.now
    c.deliver.new.outs c.confirm.new.outs c.len-count.result c.in-Ok-Some.ensures.rests delivers recorded c.in_ok-confirm-in-Ok-Some.ensures.confirms c.in_ok-confirm-in-Ok-Some.ensures.log

pub returns-in_err-confirm-in-Ok-Some-clause-log : goal.returns-in_err-confirm-in-Ok-Some-clause-log
returns-in_err-confirm-in-Ok-Some-clause-log g c =
    let p = err_from_is_err_and c.from_residual.result c.from_residual.ensures.1 in
    rw (p.1, p.2) c.in_err-confirm-in-Ok-Some.ensures.log
