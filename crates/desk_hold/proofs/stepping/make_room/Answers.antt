use Rattle.std.proofs.Common.{inl, inr}
use Rattle.desk_hold.proofs.Readied.{commits_none, failed_there, never_gone, never_worn, short_ready, stopped_there}
use Rattle.desk_hold.proofs.stepping.make_room.Goals as goal

pub returns-in-Ok-clause-ends : goal.returns-in-Ok-clause-ends
returns-in-Ok-clause-ends g c = inl c.in-Ok.ensures.prepares.ends

pub returns-in-Err-NoMemory-clause-ends : goal.returns-in-Err-NoMemory-clause-ends
returns-in-Err-NoMemory-clause-ends g c =
    short_ready g.P.Place.room_causes.outgrows_log c.in-Err-NoMemory.field-0 c.args.what.now _ _ c.in-Err-NoMemory.ensures.prepares.ends _ c.in-Err-NoMemory.field-0-is

pub returns-in-Err-StoreFault-clause-ends : goal.returns-in-Err-StoreFault-clause-ends
returns-in-Err-StoreFault-clause-ends g c =
    inr (inl (failed_there g.P.Place.room_causes.outgrows_log c.in-Err-StoreFault.field-0 c.args.what.now _ _ c.in-Err-StoreFault.ensures.prepares.ends c.in-Err-StoreFault.field-0-is))

pub returns-in-Err-Stopped-clause-ends : goal.returns-in-Err-Stopped-clause-ends
returns-in-Err-Stopped-clause-ends g c =
    inr (inr (_, stopped_there g.P.Place.room_causes.outgrows_log c.in-Err-Stopped.field-0 c.args.what.now _ _ c.in-Err-Stopped.ensures.prepares.ends _ c.in-Err-Stopped.field-0-is))

pub returns-in-Ok-clause-commits : goal.returns-in-Ok-clause-commits
returns-in-Ok-clause-commits g c = commits_none g.P.Place.holds g.P.Place.room_causes.outgrows_log _ c.args.what.now _ _ c.in-Ok.ensures.prepares

pub returns-in-Err-NoMemory-clause-commits : goal.returns-in-Err-NoMemory-clause-commits
returns-in-Err-NoMemory-clause-commits g c = commits_none g.P.Place.holds g.P.Place.room_causes.outgrows_log _ c.args.what.now _ _ c.in-Err-NoMemory.ensures.prepares

pub returns-in-Err-StoreFault-clause-commits : goal.returns-in-Err-StoreFault-clause-commits
returns-in-Err-StoreFault-clause-commits g c = commits_none g.P.Place.holds g.P.Place.room_causes.outgrows_log _ c.args.what.now _ _ c.in-Err-StoreFault.ensures.prepares

pub returns-in-Err-Stopped-clause-commits : goal.returns-in-Err-Stopped-clause-commits
returns-in-Err-Stopped-clause-commits g c = commits_none g.P.Place.holds g.P.Place.room_causes.outgrows_log _ c.args.what.now _ _ c.in-Err-Stopped.ensures.prepares

pub unreachable-requires : goal.unreachable-requires
unreachable-requires g c =
    never_gone g.P.Place.room_causes.outgrows_log c.in-Err-Gone.field-0 c.args.what.now _ _ c.in-Err-Gone.ensures.prepares.ends _ c.in-Err-Gone.field-0-is

pub unreachable-requires-in-Err-Worn : goal.unreachable-requires-in-Err-Worn
unreachable-requires-in-Err-Worn g c =
    never_worn g.P.Place.room_causes.outgrows_log c.in-Err-Worn.field-0 c.args.what.now _ _ c.in-Err-Worn.ensures.prepares.ends _ c.in-Err-Worn.field-0-is
