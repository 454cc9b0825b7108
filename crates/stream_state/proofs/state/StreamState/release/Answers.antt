use Rattle.std.proofs.Common.{◌≡◌, None}
use Rattle.retention.specs.Over.{next_over}
use Rattle.stream_state.proofs.Proper.{proper_kept}
use Rattle.stream_state.proofs.Settling.{kept_again, outside_kept, trimmed, within_kept}
use Rattle.stream_state.proofs.state.StreamState.release.Goals as goal

pub invariant_of-self : goal.invariant_of-self
invariant_of-self c =
    let s = c.self.inside.stream in
    record {
      attended = c.release.ensures.sound;
      proper = rw c.release.ensures.left (proper_kept s c.self.invariant.proper);
      within = rw c.release.ensures.left (within_kept s c.self.invariant.within);
      kept = rw c.release.ensures.left (outside_kept _ s);
    }

pub returns-clause-value : goal.returns-clause-value
returns-clause-value c = rw (← c.self.view_is) c.release.ensures.left

pub returns-clause-again : goal.returns-clause-again
returns-clause-again c = rw c.release.ensures.left (kept_again c.self.inside.stream (rw c.release.ensures.left at c.release.ensures.sound))

pub returns-clause-settled : goal.returns-clause-settled
returns-clause-settled c =
    let within : next_over c.release.new.stream ≡ None = rw c.release.ensures.left (within_kept c.self.inside.stream c.self.invariant.within) in
    trimmed c.release.new.stream c.release.ensures.sound within

pub release-requires : goal.release-requires
release-requires c = record { sound = c.self.invariant.attended; outside = c.self.invariant.kept; room = rw (← c.self.view_is) at c.requires.room }

pub returns-clause-gone : goal.returns-clause-gone
returns-clause-gone c = rw (← c.self.view_is) (rw (← c.release.ensures.left) at c.release.ensures.gone)

pub returns-clause-room : goal.returns-clause-room
returns-clause-room c = c.release.ensures.room
