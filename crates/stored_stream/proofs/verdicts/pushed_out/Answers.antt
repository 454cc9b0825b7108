use Rattle.std.proofs.Common.{◌≡◌, Some, sym, ap, ◌∙◌}
use Rattle.std.specs.Option.{option_copied}
use Rattle.stored_stream.proofs.Finding.{first_counted, none_on}
use Rattle.stored_stream.proofs.Pushing.{none_pushed, few_pushed, full_pushed}
use Rattle.stored_stream.proofs.verdicts.pushed_out.Goals as goal

pub returns-in_err-counts : goal.returns-in_err-counts
returns-in_err-counts c =
    let s = c.args.stream.now in
    record { value = ap option_copied c.from_residual-in_err-counts.ensures ∙ sym (none_pushed s c.args.subject.now (none_on s c.args.subject.now (sym c.in_err-counts.ensures.value))) }

pub returns-then-counts-most : goal.returns-then-counts-most
returns-then-counts-most c =
    let s = c.args.stream.now in
    let limit : s.config.max_msgs_per_subject ≡ Some c.in_ok-most.most = cc in
    let counted = first_counted s c.args.subject.now c.in_ok-counts.counts c.requires.sound (sym c.in_ok-counts.ensures.value) in
    record { value = sym (few_pushed s c.args.subject.now c.in_ok-counts.counts c.in_ok-most.most counted limit c.if-counts-most.true) }

pub returns : goal.returns
returns c =
    let s = c.args.stream.now in
    let limit : s.config.max_msgs_per_subject ≡ Some c.in_ok-most.most = cc in
    let counted = first_counted s c.args.subject.now c.in_ok-counts.counts c.requires.sound (sym c.in_ok-counts.ensures.value) in
    record { value = c.get.ensures.value ∙ full_pushed s c.args.subject.now c.in_ok-counts.counts c.in_ok-most.most counted limit c.if-counts-most.false }
