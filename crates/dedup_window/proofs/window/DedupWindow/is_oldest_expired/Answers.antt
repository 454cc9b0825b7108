use Rattle.std.proofs.Common.{◌≡◌, sym, ◌∙◌}
use Rattle.std.specs.Prelude.{not}
use Rattle.std.proofs.lemmas.Bool.{OnFalse_from, not-false}
use Rattle.dedup_window.specs.Window.{Window, remembered}
use Rattle.dedup_window.proofs.Ids.{all_remembered}
use Rattle.dedup_window.proofs.window.DedupWindow.is_oldest_expired.Goals as goal

pub returns-in-Some-clause-all : goal.returns-in-Some-clause-all
returns-in-Some-clause-all c =
    let i = c.self.inside in
    let w : Window = record { window = i.window; ids = i.ids.items } in
    let oldest = c.in-Some.oldest.now in
    OnFalse_from (not c.counts.result) (remembered c.args.self.now c.args.now ≡ c.args.self.now.ids)
    (λ no. rw (← c.self.view_is)
    (all_remembered w c.args.now oldest c.in-Some.ensures.lookup (sym c.counts.ensures.value ∙ not-false _ no) c.self.invariant.mirrors.ascending))
