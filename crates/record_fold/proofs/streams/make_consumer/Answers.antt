use Rattle.std.proofs.Common.{List, Some, refl, sym, ap, ◌∙◌}
use Rattle.std.specs.List.{position}
use Rattle.js_model.specs.declared.consumer.Consumer.{Consumer}
use Rattle.js_model.specs.Consumers.{with_new}
use Rattle.effects.specs.Folding.{with_made}
use Rattle.record_fold.proofs.Replacing.{has_name, some_found, none_found}
use Rattle.record_fold.proofs.streams.make_consumer.Goals as goal

pub returns-then-is_some-clause-err : goal.returns-then-is_some-clause-err
returns-then-is_some-clause-err c =
    let body = c.args.body.now in
    let found = some_found c.args.new.name body.consumers c.place_of.result (c.place_of.ensures.value ∙ ap (position (has_name c.args.new.name)) c.as_slice.ensures) (sym c.is_some.ensures ∙ c.if-is_some.true) in
    (ap (with_made body c.args.new) found.1, refl)

pub returns-clause-ok : goal.returns-clause-ok
returns-clause-ok c =
    let body = c.args.body.now in
    let none = none_found c.args.new.name body.consumers c.place_of.result (c.place_of.ensures.value ∙ ap (position (has_name c.args.new.name)) c.as_slice.ensures) (sym c.is_some.ensures ∙ c.if-is_some.false) in
    let added = c.from_vec.ensures ∙ c.in_ok-add_one.ensures.ok ∙ ap (λ (l : List Consumer). with_new l c.args.new) c.take-consumers.ensures.items in
    ap (with_made body c.args.new) none ∙ ap (λ (l : List Consumer). Some (record body { consumers = l })) (sym added)
