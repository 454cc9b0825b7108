use Rattle.std.proofs.Common.{◌≡◌, drop}
use Rattle.js_base.specs.Decimal.{value_of}
use Rattle.js_base.proofs.Decimals.{continued}
use Rattle.js_base.proofs.decimal.small_value.Given as goal

-- the digits that are left continue the number so far to the whole
abbrev pub invariant-loop-digit : goal.invariant-loop-digit
invariant-loop-digit l = continued l.n (drop l.digit-index l.text) ≡ value_of l.text
