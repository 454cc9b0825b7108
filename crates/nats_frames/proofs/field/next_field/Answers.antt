use Rattle.std.proofs.Common.{sym, ◌∙◌, ap, subst}
use Rattle.std.specs.List.{prefix_len}
use Rattle.nats_frames.specs.declared.field.Span.{Span}
use Rattle.js_base.specs.Bytes.{is_blank}
use Rattle.nats_frames.specs.Grammar.{is_solid}
use Rattle.nats_frames.specs.Fields.{IsNextField}
use Rattle.nats_frames.proofs.NextField.{Scanned, next_is, nothing_next}
use Rattle.nats_frames.proofs.field.next_field.Goals as goal

pub returns-then-len-gt0-clause-some : goal.returns-then-len-gt0-clause-some
returns-then-len-gt0-clause-some c =
    let scanned : Scanned c.args.line.now c.args.from c.blank_len.result c.solid_len-len.result =
    record {
      within = c.requires.within;
      skipped = c.blank_len.ensures.value ∙ ap (prefix_len is_blank) c.split_at.ensures.back;
      found = c.solid_len-len.ensures.value ∙ ap (prefix_len is_solid) c.split_at-2.ensures.back;
    }
    in
    subst (λ (field : Span). IsNextField c.args.line.now c.args.from field) (sym c.of.ensures)
    (next_is c.args.line.now c.args.from c.blank_len.result c.solid_len-len.result scanned c.if-len-gt0.true)

pub returns-else-len-gt0-clause-none : goal.returns-else-len-gt0-clause-none
returns-else-len-gt0-clause-none c =
    let scanned : Scanned c.args.line.now c.args.from c.blank_len.result c.solid_len-len.result =
    record {
      within = c.requires.within;
      skipped = c.blank_len.ensures.value ∙ ap (prefix_len is_blank) c.split_at.ensures.back;
      found = c.solid_len-len.ensures.value ∙ ap (prefix_len is_solid) c.split_at-2.ensures.back;
    }
    in
    nothing_next c.args.line.now c.args.from c.blank_len.result c.solid_len-len.result scanned c.if-len-gt0.false
