use Rattle.std.proofs.Common.{sym, ◌∙◌}
use Rattle.stored_stream.proofs.Selections.{subject_selects}
use Rattle.stored_stream.proofs.selector.Selector.of.Goals as goal

pub returns-then-is_ok : goal.returns-then-is_ok
returns-then-is_ok c = record { value = λ subject. subject_selects c.args.filter.now (sym c.if-is_empty.ensures) (sym c.check_subject.ensures.ok ∙ sym c.is_ok.ensures.value ∙ c.if-is_ok.true) subject }
