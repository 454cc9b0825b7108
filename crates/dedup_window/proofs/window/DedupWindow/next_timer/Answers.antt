use Rattle.dedup_window.specs.Window.{Window}
use Rattle.dedup_window.proofs.Ids.{oldest_first}
use Rattle.dedup_window.proofs.window.DedupWindow.next_timer.Goals as goal

pub returns-clause-first : goal.returns-clause-first
returns-clause-first c =
    let i = c.self.inside in
    let w : Window = record { window = i.window; ids = i.ids.items } in
    rw (c.plus.ensures, ← c.self.view_is) (oldest_first w c.in_ok-oldest.oldest.now c.in_ok-oldest.ensures.lookup c.self.invariant.mirrors.ascending)
