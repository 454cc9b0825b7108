use Rattle.std.proofs.Common.{◌≤◌, ◌+◌, ap, sym, length, take, drop, arith}
use Rattle.std.proofs.lemmas.List.{take-append-le, length-take-le}
use Rattle.session.proofs.Turned.{turned_heard, turned_cut, turned_quiet, turned_closed, turned_failed, turned_starved}
use Rattle.session.proofs.Failed.{call_passes, call_starves, none_after, fails_after, fails_in_after}
use Rattle.session.proofs.turn.take_turn.Goals as goal

pub returns-in-Ok-clause-turns : goal.returns-in-Ok-clause-turns
returns-in-Ok-clause-turns g c =
    let e = c.in-Got.ensures in
    let w = c.room_within-most in
    let count = c.in-Got.count in
    let le : count ≤ length c.take.new.into = e.within.1 in
    let piece = take-append-le count c.take.new.into (drop w.result c.args.room.now) le in
    let len = length-take-le count c.take.new.into le in
    let fits : c.args.course.now.taken + count ≤ c.args.limits.now.input =
    omega (arith, le, c.take.auto.into, length-take-le w.result c.args.room.now w.ensures.room, w.ensures.left, c.requires.unspent.input) in
    turned_heard _ _ _ _ _ _ _ _ _ _ _ _ _ _ _ _ _ _ _ _ c.requires.unspent e.answered e.given c.now-now.ensures.reads (none_after _ _ _ (call_passes _ _ e.failings) c.in-Ok.ensures.failings)
    (rw piece at c.in-Ok.ensures.hears) c.in-Ok.ensures.answered
    (ap (λ n. c.args.course.now.taken + n) (sym len)) fits

pub returns-in-Err-clause-turns : goal.returns-in-Err-clause-turns
returns-in-Err-clause-turns g c =
    let e = c.in-Got.ensures in
    let w = c.room_within-most in
    let count = c.in-Got.count in
    let le : count ≤ length c.take.new.into = e.within.1 in
    let piece = take-append-le count c.take.new.into (drop w.result c.args.room.now) le in
    let len = length-take-le count c.take.new.into le in
    let fits : c.args.course.now.taken + length (take count c.take.new.into) ≤ c.args.limits.now.input =
    omega (arith, le, len, c.take.auto.into, length-take-le w.result c.args.room.now w.ensures.room, w.ensures.left, c.requires.unspent.input) in
    turned_cut _ _ _ _ c.in-Err.ended _ _ _ _ _ _ _ _ _ _ _ _ _ _ _ c.requires.unspent e.answered e.given c.now-now.ensures.reads
    (fails_after c.in-Err.ended _ _ _ (call_passes _ _ e.failings) c.in-Err.ensures.failings) (rw piece at c.in-Err.ensures.hears) c.in-Err.ensures.answered
    (ap (λ n. n + length (take count c.take.new.into)) c.requires.fed) fits

pub returns-in-Quiet-clause-turns : goal.returns-in-Quiet-clause-turns
returns-in-Quiet-clause-turns g c =
    let e = c.in-Quiet.ensures in
    turned_quiet _ _ _ _ _ _ _ _ _ _ _ _ _ _ _ _ _ c.requires.unspent e.answered e.given c.now-now-in-Quiet.ensures.reads c.rest.ensures.answered c.rest.result _
    (fails_in_after c.rest.result _ _ _ (call_passes _ _ e.failings) c.rest.ensures.failings) c.rest.ensures.rests

pub returns-in-Ended-clause-turns : goal.returns-in-Ended-clause-turns
returns-in-Ended-clause-turns g c =
    let e = c.in-Ended.ensures in
    turned_closed _ _ _ _ _ _ _ _ _ _ _ _ (g.met.D.Desk.made_nothing c.args.desk.now) e.given (call_passes _ _ e.failings) c.requires.unspent e.answered

pub returns-in-Failed-clause-turns : goal.returns-in-Failed-clause-turns
returns-in-Failed-clause-turns g c =
    let e = c.in-Failed.ensures in
    turned_failed _ _ _ _ _ _ _ _ _ _ _ _ (g.met.D.Desk.made_nothing c.args.desk.now) e.given (call_passes _ _ e.failings) c.requires.unspent e.answered

pub returns-in-NoMemory-clause-turns : goal.returns-in-NoMemory-clause-turns
returns-in-NoMemory-clause-turns g c =
    let e = c.in-NoMemory.ensures in
    turned_starved _ _ _ _ _ _ _ _ _ _ _ _ (g.met.D.Desk.made_nothing c.args.desk.now) e.given (call_starves _ _ e.failings) e.answered
