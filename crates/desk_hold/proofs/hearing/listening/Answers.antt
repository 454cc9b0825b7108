use Rattle.std.proofs.Common.{true, false, append-nil, sym, ◌∙◌}
use Rattle.desk_hold.proofs.Listeners.{next_named}
use Rattle.desk_hold.proofs.hearing.listening.Goals as goal
use Rattle.desk_hold.proofs.hearing.listening.Goals.{then-told-at+in_ok-note, else-told-at}

pub loop-at-preserved : goal.loop-at-preserved
loop-at-preserved c =
    elim c.if-told-at.branch [
      | then-told-at+in_ok-note w ↦
          next_named c.args.pushes.now c.args.told.now c.loop-at.at c.index-pushes-at.result true c.loop-at.listening c.if-told-at.listening c.requires.each c.loop-at-test.true c.index-pushes-at.is w.if-told-at.true c.loop-at.invariant (w.listening-is ∙ w.in_ok-note.ensures.ok)
      | else-told-at w ↦
          next_named c.args.pushes.now c.args.told.now c.loop-at.at c.index-pushes-at.result false c.loop-at.listening c.if-told-at.listening c.requires.each c.loop-at-test.true c.index-pushes-at.is w.if-told-at.false c.loop-at.invariant (w.listening-is ∙ sym (append-nil c.loop-at.listening))
    ]
