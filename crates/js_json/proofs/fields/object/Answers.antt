use Rattle.std.proofs.Common.{true≢false, ◌∙◌, sym}
use Rattle.serde_json.specs.View.{view}
use Rattle.js_json.proofs.Objects.{reads_fields, reads_none}
use Rattle.js_json.proofs.fields.object.Goals as goal

pub returns-in-Ok-clause-reading : goal.returns-in-Ok-clause-reading
returns-in-Ok-clause-reading c =
    rw c.ok_or.ensures.value
    (reads_fields c.args.body.now c.fields_of.result (view c.in-Ok.value) c.fields_of.ensures.value c.in-Ok.ensures.ok.0 c.in-Ok.ensures.ok.1)

pub returns-in-Err-2-clause-reading : goal.returns-in-Err-2-clause-reading
returns-in-Err-2-clause-reading c =
    reads_none c.args.body.now (c.in-Err.ensures.err (λ memory. true≢false (sym (c.is_memory.ensures.1 memory) ∙ c.if-is_memory.false)))
