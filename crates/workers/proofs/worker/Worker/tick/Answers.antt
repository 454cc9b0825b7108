use Rattle.std.proofs.Common.{◌≡◌, ap, ◌∙◌}
use Rattle.js_api.specs.Clients.{Client}
use Rattle.workers.proofs.Deeds.{or_none}
use Rattle.workers.proofs.Served.{worked_over}
use Rattle.workers.specs.Deeds.{Ticked}
use Rattle.workers.proofs.worker.Worker.tick.Goals as goal

pub returns-clause-worked : goal.returns-clause-worked
returns-clause-worked g c =
    let there = c.requires.idle.there in
    let is = c.in-Some.is in
    let value = c.take.ensures.value in
    let same : c.in-Some.pass ≡ c.requires.idle.scene = cc in
    let made = rw c.aim.ensures.same at c.tick-ticked.ensures.made in
    worked_over g.B.Beginning.limits c.args.place.now.hub.now c.requires.idle.scene c.new-desk.result.desk c.tick-ticked.new.self.desk c.into_pass.result
    (Ticked c.args.now c.tick-ticked.result made.entries) c.args.self.now.pass c.note_tick.new.self.pass c.args.self.now.worn c.note_tick.new.self.worn
    there (c.new-desk.ensures.scene ∙ same) made.led c.into_pass.ensures.scene c.note_tick.ensures.kept.0
    (c.new-desk.result.desk.client, ap (λ (k : Client). k.is_open) c.new-desk.ensures.client, made.are) (c.note_tick.ensures.kept.2 ∙ or_none c.args.self.now.worn)
