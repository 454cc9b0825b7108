use Rattle.std.proofs.Common.{ℕ, subst}
use Rattle.vol_disk.specs.Replay.{bytes_in}
use Rattle.vol_disk.specs.Held.{HeldState, IsPicked, held_file}
use Rattle.vol_disk.proofs.Replays.{picked_left, all_left}
use Rattle.vol_disk.proofs.held.Held.image.Goals as goal

picked : (c : goal.After-new) → (file : ℕ) → IsPicked c.args.pick (held_file c.args.self.now file) (bytes_in c.in_ok-start.start file)
picked c file =
    let s = c.self.inside in
    subst (λ (h : HeldState). IsPicked c.args.pick (held_file h file) (bytes_in c.in_ok-start.start file)) c.self.view_is
    (picked_left c.args.pick s.files.entries s.start c.in_ok-start.start s.calls.items c.self.invariant c.in_ok-start.ensures.picked file)

pub returns-clause-image : goal.returns-clause-image
returns-clause-image c = all_left c.args.pick c.args.self.now.start c.in_ok-start.start c.args.self.now.calls (picked c)

pub returns-clause-as_synced : goal.returns-clause-as_synced
returns-clause-as_synced c = λ is file. (picked c file).as_synced is

pub returns-clause-as_read : goal.returns-clause-as_read
returns-clause-as_read c = λ is file. (picked c file).as_read is
