use Rattle.std.proofs.Common.{List, Some, not, refl, sym, ap, ◌∙◌}
use Rattle.std.specs.Prelude.{filter, is_some}
use Rattle.std.specs.List.{position}
use Rattle.js_base.specs.Bytes.{Bytes, same}
use Rattle.js_model.specs.declared.consumer.Consumer.{Consumer}
use Rattle.js_model.proofs.Named.{found_named}
use Rattle.effects.specs.Folding.{without_consumer}
use Rattle.record_fold.proofs.Replacing.{has_name, at_none, some_found}
use Rattle.record_fold.proofs.streams.drop_consumer.Goals as goal

pub returns-in_default-clause-err : goal.returns-in_default-clause-err
returns-in_default-clause-err c =
    let body = c.args.body.now in
    let at = c.place_of.ensures.value ∙ ap (position (has_name c.args.name.now)) c.as_slice.ensures in
    (ap (without_consumer body) (at_none c.args.name.now body.consumers (sym at ∙ c.in_default.is)), refl)

pub returns-clause-ok : goal.returns-clause-ok
returns-clause-ok c =
    let body = c.args.body.now in
    let name = c.args.name.now in
    let found = some_found name body.consumers c.place_of.result (c.place_of.ensures.value ∙ ap (position (has_name name)) c.as_slice.ensures) (ap is_some c.in-Some.is) in
    let test = λ (n : Bytes) (d : Consumer). not (same d.name n) in
    let left = c.from_vec.ensures ∙ c.remove_one.ensures.left ∙ ap (filter (test name)) c.take-consumers.ensures.items in
    ap (without_consumer body) found.1 ∙ ap (λ (n : Bytes). Some (record body { consumers = filter (test n) body.consumers })) (found_named body.consumers name found.0 found.1)
    ∙ ap (λ (l : List Consumer). Some (record body { consumers = l })) (sym left)
