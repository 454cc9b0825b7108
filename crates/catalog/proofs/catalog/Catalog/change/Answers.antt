use Rattle.std.proofs.Common.{◌<◌, ◌≡◌, true, length, refl, inr, sym, subst, ◌∙◌, arith}
use Rattle.js_model.specs.Cataloging.{MayChange}
use Rattle.catalog.specs.Entries.{is_open}
use Rattle.catalog.specs.Apart.{IsApart}
use Rattle.catalog.proofs.Apartness.{change_apart}
use Rattle.catalog.proofs.Catalogs.{has_within, inside_within, has_from, closed_change, refused_change, made_change}
use Rattle.catalog.proofs.catalog.Catalog.change.Goals as goal

pub returns-then-branch-clause-changed : goal.returns-then-branch-clause-changed
returns-then-branch-clause-changed c =
    let overlap = sym c.if-branch.true ∙ c.in_ok-overlaps_some.ensures.value in
    refused_change c.args.self.now c.args.place c.args.subjects.now c.in_ok-subjects_overlap.field-0 overlap c.in_ok-subjects_overlap.ensures.value

pub index-requires : goal.index-requires
index-requires c =
    let within : c.args.place < length c.self.inside.entries.items = inside_within c.self.inside.entries.items c.args.self.now c.args.place c.self.view_is (has_within c.args.self.now c.args.place MayChange c.requires.single) in
    omega arith

pub returns-then-not-is_open-clause-changed : goal.returns-then-not-is_open-clause-changed
returns-then-not-is_open-clause-changed c =
    let within = inside_within c.self.inside.entries.items c.args.self.now c.args.place c.self.view_is (has_within c.args.self.now c.args.place MayChange c.requires.single) in
    let overlap = sym c.if-branch.false ∙ c.in_ok-overlaps_some.ensures.value in
    made_change c.args.self.now c.args.self.now c.args.place c.args.subjects.now overlap
    (closed_change c.args.subjects.now c.self.inside.entries.items c.args.self.now c.args.place c.index.result.now c.self.view_is within c.index.ensures (sym c.if-not-is_open.ensures.value))

pub put_beside-requires-clause-single : goal.put_beside-requires-clause-single
put_beside-requires-clause-single c = c.requires.single

pub put_beside-requires-clause-open : goal.put_beside-requires-clause-open
put_beside-requires-clause-open c =
    let within = inside_within c.self.inside.entries.items c.args.self.now c.args.place c.self.view_is (has_within c.args.self.now c.args.place MayChange c.requires.single) in
    has_from (λ there. is_open there ≡ true) c.self.inside.entries.items c.args.self.now c.args.place c.index.result.now c.self.view_is within c.index.ensures (sym c.if-not-is_open.ensures.value)

pub put_beside-requires-clause-apart : goal.put_beside-requires-clause-apart
put_beside-requires-clause-apart c =
    let overlap = sym c.if-branch.false ∙ c.in_ok-overlaps_some.ensures.value in
    change_apart c.args.subjects.now c.args.self.now c.args.place (subst IsApart c.self.view_is c.self.invariant.apart) (has_within c.args.self.now c.args.place MayChange c.requires.single) (sym overlap)

pub returns-in-Ok-clause-changed : goal.returns-in-Ok-clause-changed
returns-in-Ok-clause-changed c =
    let overlap = sym c.if-branch.false ∙ c.in_ok-overlaps_some.ensures.value in
    made_change c.args.self.now c.put_beside.new.self c.args.place c.args.subjects.now overlap c.in-Ok.ensures.ok

pub returns-in-Err-clause-changed : goal.returns-in-Err-clause-changed
returns-in-Err-clause-changed c = inr (refl, c.in-Err.ensures.err, refl)
