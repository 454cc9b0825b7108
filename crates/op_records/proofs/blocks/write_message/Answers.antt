use Rattle.std.proofs.Common.{◌≡◌, ◌++◌, ap, ◌∙◌}
use Rattle.checksum.specs.Checked.{checked}
use Rattle.js_base.specs.Bytes.{Bytes}
use Rattle.op_records.specs.Blocks.{spelled_fields, spelled_message}
use Rattle.op_records.proofs.Written.{at_ok}
use Rattle.op_records.proofs.blocks.write_message.Goals as goal

pub returns-clause-ok : goal.returns-clause-ok
unfolding spelled_message
returns-clause-ok c =
    let fields : Bytes = spelled_fields c.args.message.now in
    let first : c.put_fields.new.into.items ≡ fields = c.in_ok-put_fields.ensures.ok ∙ ap (λ (l : Bytes). l ++ fields) c.new-fields.ensures.items in
    let whole : c.put_checked.new.into.items ≡ checked fields =
    c.in_ok-put_checked.ensures.ok ∙ ap (λ (l : Bytes). l ++ checked c.as_slice.result.now) c.new-spelled.ensures.items ∙ ap checked (c.as_slice.ensures.value ∙ first) in
    at_ok c.put_bytes.result (λ written. written ∙ ap (λ (l : Bytes). c.args.into.now.items ++ l) (c.as_slice-2.ensures.value ∙ whole)) c.put_bytes.ensures.ok
