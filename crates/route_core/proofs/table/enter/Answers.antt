use Rattle.std.proofs.Common.{◌∙◌, ◌∷◌, [], ◌++◌, ap, sym, subst, map, List}
use Rattle.std.proofs.lemmas.List.{map-append}
use Rattle.route_index.specs.declared.sub.Sub.{Sub}
use Rattle.route_index.specs.Subs.{IsAbove, without}
use Rattle.route_core.specs.Table.{indexed}
use Rattle.route_core.proofs.Entries.{insert_end}
use Rattle.route_core.proofs.Tables.{above_all, without_last}
use Rattle.route_core.proofs.table.enter.Goals as goal

pub add-requires : goal.add-requires
add-requires c = record { above = subst (λ (xs : List Sub). IsAbove c.args.number xs) (sym c.requires.patterns) (above_all c.args.number c.args.subscriptions.now.entries c.requires.above) }

pub returns-in-Ok-clause-ok : goal.returns-in-Ok-clause-ok
returns-in-Ok-clause-ok c = c.in-Ok.ensures.entries ∙ insert_end c.args.number c.args.sub c.args.subscriptions.now.entries c.requires.above

pub returns-in-Ok-clause-patterns_ok : goal.returns-in-Ok-clause-patterns_ok
returns-in-Ok-clause-patterns_ok c =
    let es = c.args.subscriptions.now.entries in
    let entered = c.in-Ok.ensures.entries ∙ insert_end c.args.number c.args.sub es c.requires.above in
    c.in_ok-add.ensures.ok ∙ ap (λ xs. xs ++ record { id = c.args.number; pattern = c.in_ok-pattern.pattern } ∷ []) c.requires.patterns
    ∙ ap (λ p. map indexed es ++ record { id = c.args.number; pattern = p } ∷ []) (c.in_ok-pattern.ensures.cases ∙ c.pattern.ensures.value)
    ∙ sym (map-append indexed es ((c.args.number, c.args.sub) ∷ [])) ∙ sym (ap (map indexed) entered)

pub returns-clause-patterns_err : goal.returns-clause-patterns_err
returns-clause-patterns_err c =
    let above = subst (λ (xs : List Sub). IsAbove c.args.number xs) (sym c.requires.patterns) (above_all c.args.number c.args.subscriptions.now.entries c.requires.above) in
    c.remove.ensures.left ∙ ap (without c.args.number) c.in_ok-add.ensures.ok ∙ without_last c.args.index.now (record { id = c.args.number; pattern = c.in_ok-pattern.pattern }) above
