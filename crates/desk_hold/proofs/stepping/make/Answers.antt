use Rattle.std.proofs.Common.{inl}
use Rattle.place_engine.specs.declared.faults.PlaceFault.TheVariants.{NoMemory}
use Rattle.place_engine.specs.declared.faults.Left.TheVariants.{Nothing}
use Rattle.desk_hold.proofs.Readied.{commits_failed_ready, commits_told_ready, commits_undone, failed_ready, told_ready, undone_ready, what_proper}
use Rattle.desk_hold.proofs.stepping.make.Goals as goal

pub make_room-requires : goal.make_room-requires
make_room-requires g c = record { proper = what_proper c.args.event.now c.requires.proper }

pub returns-in-Err-clause-ends : goal.returns-in-Err-clause-ends
returns-in-Err-clause-ends g c = inl (undone_ready g.P.Place.holds _ _ c.in-Err.ensures.commits c.in-Err.ensures.ends)

pub returns-in-Ok-step-clause-ends : goal.returns-in-Ok-step-clause-ends
returns-in-Ok-step-clause-ends g c =
    let P = g.P.Place in
    told_ready P.holds P.room_causes.outgrows_log c.args.event.now c.args.now _ _ _ c.requires.proper c.law_moment.ensures.bound c.in-Ok.ensures.commits c.in-Ok.ensures.ends
    c.in-Ok-step.reply c.add_answer-unsaid.result c.args.stream.now _ _ _ c.in-Ok-step.ensures.steps c.requires.stream c.add_answer-unsaid.ensures.added

pub returns-in-Err-step-clause-ends : goal.returns-in-Err-step-clause-ends
returns-in-Err-step-clause-ends g c =
    let P = g.P.Place in
    failed_ready P.holds P.room_causes.outgrows_log c.args.event.now c.args.now _ _ _ c.requires.proper c.law_moment.ensures.bound c.in-Ok.ensures.commits c.in-Ok.ensures.ends
    c.in-Err-step.fault _ _ c.in-Err-step.ensures.steps

pub returns-in-Err-clause-commits : goal.returns-in-Err-clause-commits
returns-in-Err-clause-commits g c = commits_undone g.P.Place.holds (NoMemory Nothing) c.args.event.now _ _ c.in-Err.ensures.commits

pub returns-in-Ok-step-clause-commits : goal.returns-in-Ok-step-clause-commits
returns-in-Ok-step-clause-commits g c =
    let P = g.P.Place in
    commits_told_ready P.holds P.room_causes.outgrows_log c.args.event.now c.args.now _ _ _ c.requires.proper c.law_moment.ensures.bound c.in-Ok.ensures.commits c.in-Ok.ensures.ends
    c.in-Ok-step.reply c.add_answer-unsaid.result _ _ c.in-Ok-step.ensures.steps

pub returns-in-Err-step-clause-commits : goal.returns-in-Err-step-clause-commits
returns-in-Err-step-clause-commits g c =
    let P = g.P.Place in
    commits_failed_ready P.holds P.room_causes.outgrows_log c.args.event.now c.args.now _ _ _ c.requires.proper c.law_moment.ensures.bound c.in-Ok.ensures.commits c.in-Ok.ensures.ends
    c.in-Err-step.fault _ _ c.in-Err-step.ensures.steps
