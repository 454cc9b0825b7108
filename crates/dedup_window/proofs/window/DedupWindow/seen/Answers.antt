use Rattle.std.proofs.Common.{true, false, sym, ◌∙◌}
use Rattle.dedup_window.specs.Window.{Window}
use Rattle.dedup_window.proofs.Mirroring.{seen_none, seen_some}
use Rattle.dedup_window.proofs.window.DedupWindow.seen.Goals as goal

pub returns-in_err-added : goal.returns-in_err-added
returns-in_err-added c =
    let i = c.self.inside in
    let w : Window = record { window = i.window; ids = i.ids.items } in
    let found = sym c.in_err-added.was ∙ c.get.ensures.value in
    record { value = rw (← c.self.view_is) (c.from_residual.ensures ∙ seen_none w i.known c.args.now c.args.id.now c.self.invariant.mirrors found) }

pub returns-then-counts : goal.returns-then-counts
returns-then-counts c =
    let i = c.self.inside in
    let w : Window = record { window = i.window; ids = i.ids.items } in
    let added = c.in_ok-added.added in
    let found = sym c.in_ok-added.was ∙ c.get.ensures.value in
    let counts = c.if-counts.ensures.value in
    record { value = rw (← c.self.view_is) (seen_some w i.known c.args.now c.args.id.now c.self.invariant.mirrors added true found counts) }

pub returns-else-counts : goal.returns-else-counts
returns-else-counts c =
    let i = c.self.inside in
    let w : Window = record { window = i.window; ids = i.ids.items } in
    let added = c.in_ok-added.added in
    let found = sym c.in_ok-added.was ∙ c.get.ensures.value in
    let counts = c.if-counts.ensures.value in
    record { value = rw (← c.self.view_is) (seen_some w i.known c.args.now c.args.id.now c.self.invariant.mirrors added false found counts) }
