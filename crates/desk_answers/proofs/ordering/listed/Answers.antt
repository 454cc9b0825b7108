use Rattle.std.proofs.Common.{length, ◌≡◌, arith}
use Rattle.desk_answers.proofs.Ordered.{ordered_all, sound_listed}
use Rattle.desk_answers.proofs.ordering.listed.Goals as goal

pub returns-clause-value : goal.returns-clause-value
returns-clause-value c =
    let none : length c.loop-info.infos.items ≡ 0 = omega (arith, c.in_default.ensures.cases) in
    ordered_all _ _ _ _ c.loop-info.invariant.ordered none

pub returns-clause-sound : goal.returns-clause-sound
returns-clause-sound c =
    let none : length c.loop-info.infos.items ≡ 0 = omega (arith, c.in_default.ensures.cases) in
    sound_listed c.args.pattern.now c.args.infos.items _ c.requires.sound (ordered_all _ _ _ _ c.loop-info.invariant.ordered none)
