use Rattle.std.proofs.Common.{arith, ap, ◌∙◌, take, length}
use Rattle.link_edge.specs.Told.{grown}
use Rattle.session.proofs.GivenBytes.{given_more, given_part}
use Rattle.session.proofs.Failed.{fails_after, none_after}
use Rattle.session.specs.Giving.{end_of}
use Rattle.session.proofs.giving.give_all.Goals as goal

pub loop-at-preserved : goal.loop-at-preserved
loop-at-preserved g c =
    let i = c.loop-at.invariant in
    let e = c.in-Ok.ensures in
    let len = ap length c.split_at.ensures.back in
    record {
      within = omega (arith, e.within, len, c.split_at.ensures.back_len);
      given = given_more _ _ _ c.args.bytes.now c.loop-at.at c.in-Ok.count i.given
          (e.given ∙ ap (λ xs. grown (g.L.Link.given c.loop-at.link) (take c.in-Ok.count xs)) c.split_at.ensures.back);
      answered = e.answered ∙ i.answered;
      failings = none_after _ _ _ i.failings e.failings;
      later = omega (arith, e.cause.later, i.later);
    }

pub returns-in-Err-clause-given : goal.returns-in-Err-clause-given
returns-in-Err-clause-given g c = given_part _ _ _ c.args.bytes.now c.loop-at.at c.loop-at.invariant.given c.in-Err.ensures.given c.loop-at-test.true

pub returns-in-Err-clause-failings : goal.returns-in-Err-clause-failings
returns-in-Err-clause-failings g c = fails_after (end_of c.in-Err.fault) _ _ _ c.loop-at.invariant.failings c.in-Err.ensures.failings
