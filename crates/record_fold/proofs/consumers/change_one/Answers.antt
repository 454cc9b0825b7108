use Rattle.std.proofs.Common.{◌≡◌, Some, sym, ap, subst, ◌∙◌}
use Rattle.std.specs.Prelude.{OnOk, IfErr}
use Rattle.js_model.specs.declared.consumer.Consumer.{Consumer}
use Rattle.record_fold.specs.Changes.{changed, changed_in, fields_before}
use Rattle.record_fold.specs.Faults.{IsChangeFault}
use Rattle.record_fold.specs.Misfits.{named_at}
use Rattle.record_fold.proofs.Replacing.{at_none}
use Rattle.record_fold.proofs.Folds.{changed_there, fault_there, at_ok, at_err}
use Rattle.record_fold.proofs.consumers.change_one.Goals as goal

pub returns-in_default-clause-err : goal.returns-in_default-clause-err
returns-in_default-clause-err c =
    let none = at_none c.args.name.now c.args.consumers.now (sym c.place_of.ensures.value ∙ c.in_default.is) in
    (ap (changed_in c.args.made) none, sym (ap (named_at c.args.name.now (fields_before c.args.made)) none))

pub returns-clause-ok : goal.returns-clause-ok
returns-clause-ok c =
    let ok = subst (λ (old : Consumer). OnOk c.change.result (changed c.args.made old ≡ Some c.change.new.consumer)) (sym c.index-consumers-place.is) c.change.ensures.ok in
    at_ok c.change.result
    (changed_there c.args.name.now c.args.consumers.now c.in-Some.place c.index-consumers-place.result c.change.new.consumer c.args.made (sym c.place_of.ensures.value ∙ c.in-Some.is) c.index-consumers-place.is c.requires.ordered)
    ok

pub returns-clause-err : goal.returns-clause-err
returns-clause-err c =
    let err = subst (λ (old : Consumer). IfErr c.change.result (IsChangeFault c.args.made old)) (sym c.index-consumers-place.is) c.change.ensures.err in
    at_err c.change.result
    (λ fault h. fault_there c.args.name.now c.args.consumers.now c.in-Some.place c.index-consumers-place.result c.args.made fault (sym c.place_of.ensures.value ∙ c.in-Some.is) c.index-consumers-place.is h)
    err
