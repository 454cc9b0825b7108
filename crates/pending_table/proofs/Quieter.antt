-- Between which moments no entry becomes due, as these change and as entries come.
use Rattle.std.proofs.Common.{ℕ, ◌<◌, ◌≤◌, Option, Some, None, arith}
use Rattle.std.specs.Prelude.{IfSome}
use Rattle.js_model.specs.declared.consumer.Pending.{Pending}
use Rattle.timer_bounds.specs.Earlier.{earlier}
use Rattle.pending_table.specs.Quiet.{IsQuiet}

-- an entry that is due by then
pub quiet_past : (since : ℕ) (next : Option ℕ) (p : Pending) → p.due ≤ since → IsQuiet since next p
quiet_past since None p h = h
quiet_past since (Some next) p h = λ l. omega (arith, h, l)

-- an entry that is the next one
pub quiet_next : (since next : ℕ) (p : Pending) → next ≤ p.due → IsQuiet since (Some next) p
quiet_next since next p h = λ l. h

-- until an earlier moment
pub quiet_one : (since : ℕ) (one other : Option ℕ) (p : Pending) → IsQuiet since one p → IsQuiet since (earlier one other) p
quiet_one since None other p h = quiet_past since other p h
quiet_one since (Some m) None p h = h
quiet_one since (Some m) (Some n) p h = λ l. let from : m ≤ p.due = h l in omega (arith, from)

pub quiet_other : (since : ℕ) (one other : Option ℕ) (p : Pending) → IsQuiet since other p → IsQuiet since (earlier one other) p
quiet_other since None other p h = h
quiet_other since (Some m) None p h = quiet_past since (Some m) p h
quiet_other since (Some m) (Some n) p h = λ l. let from : n ≤ p.due = h l in omega (arith, from)

-- from a later moment on
pub quiet_later : (since now : ℕ) (next : Option ℕ) (p : Pending) → since ≤ now → IsQuiet since next p → IsQuiet now next p
quiet_later since now None p l h = let past : p.due ≤ since = h in omega (arith, l, past)
quiet_later since now (Some next) p l h = λ k. h (omega (arith, l, k))

pub after_both : (now : ℕ) (one other : Option ℕ) → IfSome one (λ t. now < t) → IfSome other (λ t. now < t) → IfSome (earlier one other) (λ t. now < t)
after_both now None other h k = k
after_both now (Some m) None h k = h
after_both now (Some m) (Some n) h k = let less : now < m = h in let also : now < n = k in omega (arith, less, also)
