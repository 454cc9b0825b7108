use Rattle.std.proofs.Common.{◌≡◌, ◌||◌, ◌∙◌, arith, reverse, subst, sym}
use Rattle.workers.proofs.Rows.{all_reversed, or_both, or_kept, zip_length, length_reversed}
use Rattle.workers.proofs.Team.{done_length, done_more, hired_done, hired_idle, idle_has, passes_own, service, whole_team}
use Rattle.workers.specs.Doors.{DoorTold}
use Rattle.workers.specs.Serving.{IsDoorway}
use Rattle.workers.proofs.serving.serve_over.Goals as goal

pub work_on-doorway-requires-clause-idle : goal.work_on-doorway-requires-clause-idle
work_on-doorway-requires-clause-idle g c κs within =
    hired_idle _ _ _ _ c.args.place.now.hub.now (reverse c.args.passes.items) _ c.hire.ensures.hired (all_reversed _ c.args.passes.items c.requires.own)

pub work_on-doorway-requires-clause-some : goal.work_on-doorway-requires-clause-some
work_on-doorway-requires-clause-some g c =
    omega (arith, zip_length _ (reverse c.args.passes.items) _ c.hire.ensures.hired, length_reversed c.args.passes.items, c.requires.some)

pub gather-worn-requires-clause-none : goal.gather-worn-requires-clause-none
gather-worn-requires-clause-none g c =
    let done = done_more _ _ g.B.Beginning.limits (reverse c.args.passes.items) _ _ (hired_done _ _ _ _ g.B.Beginning.limits (reverse c.args.passes.items) _ c.hire.ensures.hired) c.work_on-doorway.ensures.worked in
    (c.hire.ensures.left.0, omega (arith, done_length _ _ _ c.args.passes.items _ done, c.hire.ensures.left.1, c.args.passes.small, c.args.passes.ok))

pub gather-worn-requires-clause-idle : goal.gather-worn-requires-clause-idle
gather-worn-requires-clause-idle g c = idle_has _ _ _ _ _ c.work_on-doorway.ensures.idle

pub audit-requires : goal.audit-requires
audit-requires g c =
    let done = done_more _ _ g.B.Beginning.limits (reverse c.args.passes.items) _ _ (hired_done _ _ _ _ g.B.Beginning.limits (reverse c.args.passes.items) _ c.hire.ensures.hired) c.work_on-doorway.ensures.worked in
    record { all = omega (arith, done_length _ _ _ c.args.passes.items _ done, c.gather-worn.ensures.parts, c.hire.ensures.spent.0, c.requires.parts.1) }

pub returns : goal.returns
returns g c =
    let limits = g.B.Beginning.limits in
    let workers = c.work_on-doorway.new.workers.items in
    let news = c.gather-worn.new.passes.items in
    let done = done_more _ _ limits (reverse c.args.passes.items) _ _ (hired_done _ _ _ _ limits (reverse c.args.passes.items) _ c.hire.ensures.hired) c.work_on-doorway.ensures.worked in
    let team = whole_team _ _ limits c.args.passes.items workers news done c.gather-worn.ensures.gathered in
    let begun : DoorTold = record { answered = g.R.Door.answered c.args.door; gave = g.R.Door.gave c.args.door; back = g.R.Door.back c.args.door; faults = g.R.Door.faults c.args.door } in
    let last = c.audit.new.self in
    let is : IsDoorway begun limits c.args.accepts last =
    subst (λ a. IsDoorway begun limits a last) c.requires.accepts
    (subst (λ b. IsDoorway b limits g.B.Beginning.accepts last) c.requires.begun c.into_parts-door.ensures.is)
    in
    record {
      serves = service limits c.args.accepts c.args.place.now.hub.now c.args.passes.items news begun last _ c.in-Some-stop.stop _ _ team.deeds team.worked
          (passes_own _ _ _ _ workers news c.work_on-doorway.ensures.idle c.gather-worn.ensures.gathered)
          is c.into_parts-door.ensures.door (sym c.into_parts-door.ensures.stop ∙ c.in-Some-stop.is)
          (c.audit.ensures.out ∙ c.gather-worn.ensures.amount ∙ c.hire.ensures.spent.1)
          (or_both _ _ _ _ c.into_parts-door.ensures.worn (c.gather-worn.ensures.worn ∙ team.noted))
          (or_kept _ _ _ c.into_parts-door.ensures.starved);
    }
