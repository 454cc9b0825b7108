use Rattle.std.proofs.Common.{sym, ◌∙◌, ◌+◌}
use Rattle.stored_stream.specs.declared.selector.Selector.TheVariants.{All}
use Rattle.stored_stream.specs.Selecting.{selects}
use Rattle.stored_stream.proofs.Purges.{named_found, named_past, named_none}
use Rattle.stored_stream.proofs.purging.next_stored.Goals as goal

pub returns-in_err-seq : goal.returns-in_err-seq
returns-in_err-seq c = record { value = c.from_residual.ensures ∙ named_none (selects All) c.args.below c.args.stream.now.messages c.args.from (sym c.in_err-seq.was ∙ c.next_of_all.ensures.value) }

pub returns-then-is_below : goal.returns-then-is_below
returns-then-is_below c =
    record { value = named_found (selects All) c.args.below c.args.stream.now.messages c.args.from c.in_ok-seq.seq c.in_ok-seq.ensures.value (sym c.is_below.ensures.value ∙ c.if-is_below.true) }

pub returns-else-is_below : goal.returns-else-is_below
returns-else-is_below c =
    let s = c.args.stream.now in
    record { value = named_past (selects All) c.args.below s.messages c.args.from 1 (s.last + 1) c.in_ok-seq.seq c.requires.sound.ascends c.in_ok-seq.ensures.value (sym c.is_below.ensures.value ∙ c.if-is_below.false) }
