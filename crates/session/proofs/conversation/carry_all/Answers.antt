use Rattle.std.proofs.Common.{ap, ◌∙◌, arith, refl}
use Rattle.nats_frames.specs.Decoding.{Held}
use Rattle.nats_frames.specs.Reading.{op_at}
use Rattle.js_api.specs.Clients.{Client}
use Rattle.session.specs.Manners.{peer_of}
use Rattle.session.proofs.Heard.{answering_first, answering_more, answering_flushed, answering_idle, cut_halted, cut_given, hears_ticked}
use Rattle.session.proofs.Failed.{none_after, fails_after, fails_in_after, giving_fails}
use Rattle.session.proofs.conversation.carry_all.Goals as goal

pub loop-stop-init : goal.loop-stop-init
loop-stop-init g c = record {
  answering = answering_first _ _ _ _ _ _ _ (g.met.D.Desk.made_nothing c.args.desk.now) c.new-out.ensures.items;
  fed = refl;
  session = refl;
  is_open = c.requires.is_open;
  answered = refl;
  failings = λ none. refl;
  later = omega arith;
}

pub returns-in-Err-clause-hears : goal.returns-in-Err-clause-hears
returns-in-Err-clause-hears g c =
    let i = c.loop-stop.invariant in
    cut_halted _ g.met.D.Desk.made_more _ _ c.in-Err.stop _ _ _ _ _ _ _ _ _ _ _ _ _ i.answering c.in-Err.ensures.carries i.fed c.part_at.ensures.parts

pub loop-stop-preserved : goal.loop-stop-preserved
loop-stop-preserved g c =
    let i = c.loop-stop.invariant in
    let next = answering_more _ g.met.D.Desk.made_more _ _ _ _ _ _ _ _ _ _ _ _ _ _ i.answering (rw c.in-Ok-true.field-0-test at c.in-Ok-true.ensures.carries) in
    record {
      answering = answering_flushed _ _ _ _ _ _ _ _ _ _ _ _ _ next c.in-Ok.ensures.flushes;
      fed = c.carry_next.ensures.total ∙ i.fed;
      session = c.carry_next.ensures.session ∙ i.session;
      is_open = c.carry_next.ensures.is_open;
      answered = c.flush.ensures.answered ∙ i.answered;
      failings = none_after _ _ _ i.failings c.in-Ok.ensures.failings;
      later = omega (arith, i.later, c.flush.ensures.cause.later);
    }

pub returns-in-Err-flush-clause-hears : goal.returns-in-Err-flush-clause-hears
returns-in-Err-flush-clause-hears g c =
    let i = c.loop-stop.invariant in
    let next = answering_more _ g.met.D.Desk.made_more _ _ _ _ _ _ _ _ _ _ _ _ _ _ i.answering (rw c.in-Ok-true.field-0-test at c.in-Ok-true.ensures.carries) in
    cut_given _ g.met.D.Desk.made_more _ _ c.in-Err-flush.fault _ _ _ _ _ _ _ _ _ _ _ next (c.carry_next.ensures.total ∙ i.fed) c.in-Err-flush.ensures.flushes c.from.ensures

pub returns-clause-hears : goal.returns-clause-hears
returns-clause-hears g c =
    let i = c.loop-stop.invariant in
    let idle = rw c.in-Ok-false.field-0-test at c.in-Ok-false.ensures.carries in
    let same = answering_idle _ _ _ _ _ _ _ _ _ _ _ _ _ _ _ i.answering idle in
    hears_ticked _ g.met.D.Desk.made_more _ _ c.end_turn.result _ _ _ _ _ _ _ _ _ _ _ _ same (c.carry_next.ensures.total ∙ i.fed) (ap (λ (h : Held). op_at h.bytes) idle.held ∙ idle.partial)
    c.end_turn.ensures.ticks (ap (λ (client : Client). peer_of client c.carry_next.new.manners) c.end_turn.ensures.client)

pub returns-clause-session : goal.returns-clause-session
returns-clause-session g c = ap (λ (client : Client). client.session) c.end_turn.ensures.client ∙ c.carry_next.ensures.session ∙ c.loop-stop.invariant.session

pub returns-in-Err-clause-failings : goal.returns-in-Err-clause-failings
returns-in-Err-clause-failings g c = fails_after c.part_at.result _ _ _ c.loop-stop.invariant.failings c.part_at.ensures.failings

pub returns-in-Err-flush-clause-failings : goal.returns-in-Err-flush-clause-failings
returns-in-Err-flush-clause-failings g c = giving_fails c.in-Err-flush.fault _ _ _ _ c.loop-stop.invariant.failings c.from.ensures c.in-Err-flush.ensures.failings

pub returns-clause-failings : goal.returns-clause-failings
returns-clause-failings g c = fails_in_after c.end_turn.result _ _ _ c.loop-stop.invariant.failings c.end_turn.ensures.failings
