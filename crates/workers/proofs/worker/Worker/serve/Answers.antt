use Rattle.std.proofs.Common.{◌≡◌, subst, ◌∙◌}
use Rattle.link_edge.specs.Reports.{Report}
use Rattle.session.specs.declared.ending.Limits.{Limits}
use Rattle.workers.proofs.Served.{has_session, is_session, worked_over}
use Rattle.workers.specs.Deeds.{Served}
use Rattle.workers.specs.Links.{HasSession}
use Rattle.workers.specs.Sessions.{IsSession}
use Rattle.workers.proofs.worker.Worker.serve.Goals as goal

pub take_back-requires-clause-served : goal.take_back-requires-clause-served
take_back-requires-clause-served g c =
    let link = c.serve_link-ended.new.link in
    let report : Report = record { answered = g.R.Link.Link.answered link; given = g.R.Link.Link.given link; failings = g.R.Link.Link.failings link; faults = g.R.Link.Link.faults link } in
    let k = c.serve_link-ended.ensures in
    subst (λ (l : Limits). HasSession l report c.serve_link-ended.result) c.requires.limits (has_session _ _ _ _ _ _ _ _ _ _ _ _ _ _ _ k.serves c.requires.fresh k.cause)

pub returns-clause-worked : goal.returns-clause-worked
returns-clause-worked g c =
    let there = c.requires.idle.there in
    let is = c.in-Some.is in
    let value = c.take.ensures.value in
    let same : c.in-Some.pass ≡ c.requires.idle.scene = cc in
    let link = c.serve_link-ended.new.link in
    let report : Report = record { answered = g.R.Link.Link.answered link; given = g.R.Link.Link.given link; failings = g.R.Link.Link.failings link; faults = g.R.Link.Link.faults link } in
    let k = c.serve_link-ended.ensures in
    let s = k.serves in
    worked_over g.B.Beginning.limits c.args.place.now.hub.now c.requires.idle.scene c.new-desk.result.desk c.serve_link-ended.new.desk.desk c.into_pass.result
    (Served report s.journal s.bytes c.serve_link-ended.result) c.args.self.now.pass c.note.new.self.pass c.args.self.now.worn c.note.new.self.worn
    there (c.new-desk.ensures.scene ∙ same) s.led c.into_pass.ensures.scene c.note.ensures.kept.0
    (subst (λ (l : Limits). IsSession l report s.journal s.bytes c.serve_link-ended.result) c.requires.limits (is_session _ _ _ _ _ _ _ _ _ _ _ _ _ _ _ s c.requires.fresh k.cause))
    c.note.ensures.worn
