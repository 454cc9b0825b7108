use Rattle.std.proofs.Common.{IsTrue, [], Ok, Err, sym, subst}
use Rattle.js_model.specs.declared.event.Event.{Event}
use Rattle.js_model.specs.Proper.{is_proper}
use Rattle.js_api.specs.Holding.{event_at}
use Rattle.desk_hold.specs.Crashes.{CommitsStep}
use Rattle.desk_hold.specs.Steps.{EndsStep}
use Rattle.desk_hold.proofs.Asked.{proper_event, number_made, number_told, told_by}
use Rattle.desk_hold.proofs.Held.{ends_at, held_made, held_failed}
use Rattle.desk_hold.proofs.holding.hold_named.Goals as goal

pub make-made-requires-clause-told : goal.make-made-requires-clause-told
make-made-requires-clause-told g c = told_by c.args.event.now.what c.requires.asked

pub make-made-requires-clause-proper : goal.make-made-requires-clause-proper
make-made-requires-clause-proper g c =
    subst (λ (e : Event). IsTrue (is_proper e)) (sym c.requires.event) (proper_event c.args.at c.args.event.now.what c.requires.small c.requires.asked)

pub returns-in-Ok-clause-holds : goal.returns-in-Ok-clause-holds
returns-in-Ok-clause-holds g c = λ seat.
    let P = g.P.Place in let R = g.R.Port in let old = P.seen c.args.place.now in let mid = P.seen c.make-made.new.place in
    let new = P.seen c.follow_step-following.new.place in
    let what = c.args.event.now.what in
    let made : EndsStep P.room_causes.outgrows_log (Ok c.in-Ok.step) (event_at c.args.at what) c.args.now old.place mid.place [] c.make-made.new.outs =
    ends_at R.routes R.worn P.holds P.room_causes.outgrows_log c.args.at seat what c.args.now (Ok c.in-Ok.step) c.args.event.now old.place mid.place c.new-outs.result c.make-made.new.outs c.requires.event c.new-outs.ensures c.in-Ok.ensures.ends in
    let commits : CommitsStep P.holds (Ok c.in-Ok.step) (event_at c.args.at what) old mid =
    subst (λ (e : Event). CommitsStep P.holds (Ok c.in-Ok.step) e old mid) c.requires.event c.in-Ok.ensures.commits in
    held_made R.routes R.worn P.holds P.room_causes.outgrows_log c.args.at seat what c.args.now c.follow_step-following.result _ c.in-Ok.step old mid new c.make-made.new.outs c.follow_step-following.new.outs _ _ _
    c.law_kept.ensures.kept c.law_kept-2.ensures.kept commits made
    c.finish.ensures.became (c.follow_step-following.ensures.follows seat c.args.at) (rw c.as_slice-in-Ok.ensures at c.finish.ensures.sends)

pub returns-in-Ok-clause-number : goal.returns-in-Ok-clause-number
returns-in-Ok-clause-number g c =
    let R = g.R.Port in let old = (g.P.Place.seen c.args.place.now).place in let new = (g.P.Place.seen c.make-made.new.place).place in
    let what = c.args.event.now.what in
    let made : EndsStep g.P.Place.room_causes.outgrows_log (Ok c.in-Ok.step) (event_at c.args.at what) c.args.now old new [] c.make-made.new.outs =
    ends_at R.routes R.worn g.P.Place.holds g.P.Place.room_causes.outgrows_log c.args.at 0 what c.args.now (Ok c.in-Ok.step) c.args.event.now old new c.new-outs.result c.make-made.new.outs c.requires.event c.new-outs.ensures c.in-Ok.ensures.ends in
    number_made what _ c.args.at c.args.now old.state new.state c.in-Ok.step.reply made.outs c.requires.numbered c.finish.ensures.became made.made.step.event

pub returns-in-Err-clause-holds : goal.returns-in-Err-clause-holds
returns-in-Err-clause-holds g c = λ seat.
    let P = g.P.Place in let R = g.R.Port in let old = P.seen c.args.place.now in let new = P.seen c.make-made.new.place in
    let what = c.args.event.now.what in
    held_failed R.routes R.worn P.holds P.room_causes.outgrows_log c.args.at seat what c.args.now c.fail.result c.in-Err.fault c.args.stream old new c.make-made.new.outs c.args.port.now c.fail.new.port
    c.law_kept.ensures.kept c.law_kept-2.ensures.kept
    (subst (λ (e : Event). CommitsStep P.holds (Err c.in-Err.fault) e old new) c.requires.event c.in-Err.ensures.commits) c.fail.ensures.value c.requires.stream
    (ends_at R.routes R.worn P.holds P.room_causes.outgrows_log c.args.at seat what c.args.now (Err c.in-Err.fault) c.args.event.now old.place new.place c.new-outs.result c.make-made.new.outs c.requires.event c.new-outs.ensures c.in-Err.ensures.ends)
    (rw c.as_slice-in-Err.ensures at c.fail.ensures.sends)

pub returns-in-Err-clause-number : goal.returns-in-Err-clause-number
returns-in-Err-clause-number g c =
    let R = g.R.Port in let old = (g.P.Place.seen c.args.place.now).place in let new = (g.P.Place.seen c.make-made.new.place).place in
    let what = c.args.event.now.what in
    number_told g.P.Place.room_causes.outgrows_log what c.in-Err.fault c.args.stream c.args.at c.args.now old new c.make-made.new.outs _ c.requires.numbered c.fail.ensures.value
    (ends_at R.routes R.worn g.P.Place.holds g.P.Place.room_causes.outgrows_log c.args.at 0 what c.args.now (Err c.in-Err.fault) c.args.event.now old new c.new-outs.result c.make-made.new.outs c.requires.event c.new-outs.ensures c.in-Err.ensures.ends)
