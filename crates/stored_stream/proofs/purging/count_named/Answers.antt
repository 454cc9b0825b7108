use Rattle.std.proofs.Common.{sym, ap, ◌∙◌, length, arith}
use Rattle.std.proofs.lemmas.Result.{IfOk-weaker}
use Rattle.stored_stream.proofs.Purges.{count_all, named_selected}
use Rattle.stored_stream.proofs.purging.count_named.Goals as goal

pub returns-then-is_none : goal.returns-then-is_none
returns-then-is_none c = record { value = IfOk-weaker c.count.result _ _ (λ n e. e ∙ sym (named_selected c.args.selector c.args.below c.args.stream.now.messages c.if-is_none.ensures)) c.count.ensures.value }

pub returns : goal.returns
returns c =
    record { value = ap length (c.as_slice.ensures.value ∙ c.in_ok-all.ensures.value) ∙ count_all c.args.selector c.args.below 18446744073709551615 c.args.stream.now.messages c.requires.sound.few (omega arith) }
