use Rattle.std.proofs.Common.{◌≡◌, ◌∙◌, Bool, ap, subst}
use Rattle.std.specs.Prelude.{IfOk}
use Rattle.js_model.specs.Catalog.{overlaps_at}
use Rattle.catalog.specs.Entries.{is_other}
use Rattle.catalog.proofs.Finding.{met_by_numbers}
use Rattle.catalog.proofs.catalog.Catalog.overlaps_some.Goals as goal

pub returns : goal.returns
returns c =
    let P : Bool → Type 0 = λ met. IfOk c.overlaps.result (λ overlap. overlap ≡ met) in
    let met = met_by_numbers c.args.own c.self.inside.listing c.self.inside.entries.items c.self.invariant.lists c.args.subjects.now ∙ ap (overlaps_at (is_other c.args.own) c.args.subjects.now 0) c.self.view_is in
    record { value = subst P met c.overlaps.ensures.value }
