-- Which calls of an object in memory fail.
use Rattle.std.specs.Prelude.{ℕ, Bool, List}
use Rattle.js_base.specs.Bytes.{has}
use Rattle.js_base.specs.Causes.{raised}

-- the numbers of the calls that fail, counted from 0; how many calls were made, and how many of them failed
pub record CallState : Type 0 where
  pub failing : List ℕ
  pub made : ℕ
  pub failed : ℕ

-- no call was made yet
abbrev pub calls_of : List ℕ → CallState
calls_of failing = record { failing = failing; made = 0; failed = 0 }

-- whether the next call fails
abbrev pub next_fails : CallState → Bool
next_fails calls = has calls.failing calls.made

-- after a call that did not fail
abbrev pub with_pass : CallState → CallState
with_pass calls = record calls { made = raised calls.made }

-- after a call that failed
abbrev pub with_failure : CallState → CallState
with_failure calls = record calls { made = raised calls.made; failed = raised calls.failed }
