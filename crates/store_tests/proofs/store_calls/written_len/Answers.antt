use Rattle.std.proofs.Common.{◌++◌, ◌∙◌, ap, arith, length}
use Rattle.js_base.specs.Bytes.{Bytes}
use Rattle.op_records.specs.Spelling.{spelled}
use Rattle.store_tests.proofs.store_calls.written_len.Goals as goal

pub returns : goal.returns
returns c =
    let size = ap (λ (l : Bytes). length l) (c.in_ok-write_effect.ensures.ok ∙ ap (λ (l : Bytes). l ++ spelled c.args.change.now) c.new-bytes.ensures.items) in
    omega (arith, size, c.len.ensures)
