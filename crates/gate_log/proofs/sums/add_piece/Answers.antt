use Rattle.std.proofs.Common.{◌≡◌, ◌∙◌, ℕ, length, take, drop, ap, arith}
use Rattle.std.specs.Prelude.{replicate}
use Rattle.std.proofs.lemmas.List.{length-take-le}
use Rattle.js_base.specs.Bytes.{Bytes}
use Rattle.checksum.specs.Crc.{added}
use Rattle.gate_log.proofs.sums.add_piece.Goals as goal

pub returns-clause-value : goal.returns-clause-value
returns-clause-value g c = λ told.
    let seen = (g.V.Vol.disk c.args.vol.now).seen c.args.file in
    let size : length (take c.min-size.result (replicate 4096 0)) ≡ c.min-size.result = length-take-le c.min-size.result (replicate 4096 0) (omega arith) in
    c.add.ensures.value ∙ ap (λ (l : Bytes). added c.args.sum.now l) (c.in_ok-read.ensures.value told ∙ ap (λ (n : ℕ). take n (drop c.args.at seen)) size)
