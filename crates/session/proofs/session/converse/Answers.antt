use Rattle.std.proofs.Common.{ap, ◌∙◌, arith, inl, inr}
use Rattle.js_base.proofs.Causes.{cause_before}
use Rattle.js_api.specs.Clients.{Client}
use Rattle.session.specs.Talk.{Stage, IsSpent}
use Rattle.session.specs.Turning.{stage_of}
use Rattle.session.proofs.Conversing.{conversing_first, conversing_more, converses_last, converses_spent, converses_ungreeted, converses_starved, fault_has_cause, end_has_cause, spent_has_cause}
use Rattle.session.proofs.Failed.{none_after}
use Rattle.session.proofs.session.converse.Goals as goal
use Rattle.session.proofs.session.converse.Goals.{then-loop-course-test+else-course-limits, else-loop-course-test}

pub returns-in-Err-clause-converses : goal.returns-in-Err-clause-converses
returns-in-Err-clause-converses g c = converses_starved _ _ _ _ _ _ _ _ (g.met.D.Desk.made_nothing c.args.desk.now)

pub returns-in-Err-greet-clause-converses : goal.returns-in-Err-greet-clause-converses
returns-in-Err-greet-clause-converses g c =
    let e = c.in-Err-greet.ensures in
    converses_ungreeted _ _ _ c.in-Err-greet.fault _ _ _ _ _ _ _ _ _ (g.met.D.Desk.made_nothing c.args.desk.now) e.answered e.given e.failings c.from.ensures

pub returns-in-Err-greet-clause-cause : goal.returns-in-Err-greet-clause-cause
returns-in-Err-greet-clause-cause g c = fault_has_cause c.in-Err-greet.fault _ _ _ c.from.ensures c.in-Err-greet.ensures.cause

pub loop-course-init : goal.loop-course-init
loop-course-init g c =
    let e = c.in-Ok-greet.ensures in
    let stage = ap (λ peer. stage_of peer c.new-course.result) c.requires.client ∙ c.new-course.ensures.start c.args.session in
    let taken = ap (λ (s : Stage). s.taken) stage in
    let quiets = ap (λ (s : Stage). s.quiets) stage in
    record {
      conversing = conversing_first _ _ _ _ _ _ _ _ _ _ (g.met.D.Desk.made_nothing c.args.desk.now) stage e.answered e.given;
      fed = c.new-course.ensures.fed;
      input = omega (arith, taken);
      quiet = omega (arith, quiets);
      room = c.in-Ok.ensures.room;
      session = ap (λ (client : Client). client.session) c.requires.client;
      is_open = c.requires.is_open;
      failings = e.failings;
      later = e.cause.later;
    }

pub loop-course-preserved : goal.loop-course-preserved
loop-course-preserved g c =
    let i = c.loop-course.invariant in
    let e = c.in-Ok-take_turn.ensures in
    record {
      conversing = conversing_more _ g.met.D.Desk.made_more _ _ _ _ _ _ _ _ _ _ _ _ _ _ _ _ _ _ i.conversing e.turns;
      fed = e.fed;
      input = e.input;
      quiet = e.quiet;
      room = i.room;
      session = e.session ∙ i.session;
      is_open = e.is_open;
      failings = none_after _ _ _ i.failings e.turns.unfailing;
      later = omega (arith, i.later, e.cause.later);
    }

pub returns-in-Err-take_turn-clause-converses : goal.returns-in-Err-take_turn-clause-converses
returns-in-Err-take_turn-clause-converses g c =
    let i = c.loop-course.invariant in
    converses_last _ g.met.D.Desk.made_more _ _ c.in-Err-take_turn.ended _ _ _ _ _ _ _ _ _ _ _ _ _ _ _ _ i.failings i.conversing (rw i.session at c.in-Err-take_turn.ensures.turns)

pub returns-in-Err-take_turn-clause-cause : goal.returns-in-Err-take_turn-clause-cause
returns-in-Err-take_turn-clause-cause g c =
    cause_before _ _ _ c.loop-course.invariant.later (end_has_cause c.in-Err-take_turn.ended _ _ c.in-Err-take_turn.ensures.cause)

pub returns-clause-converses : goal.returns-clause-converses
returns-clause-converses g c =
    let i = c.loop-course.invariant in
    let spent : IsSpent c.args.limits.now (stage_of (g.D.Desk.client c.loop-course.desk) c.loop-course.course) =
    elim c.loop-course-test.branch [
      | then-loop-course-test+else-course-limits w ↦ inr (omega (arith, i.quiet, w.if-course-limits.false))
      | else-loop-course-test w ↦ inl (omega (arith, i.input, w.loop-course-test.false))
    ] in
    converses_spent _ _ _ _ _ _ _ _ _ _ _ _ _ _ i.failings i.conversing spent

pub returns-clause-cause : goal.returns-clause-cause
returns-clause-cause g c = spent_has_cause _ _ c.loop-course.invariant.later
