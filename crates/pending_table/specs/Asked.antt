-- Which entries are asked for, by the redelivery and max_deliver of JetStream's consumers, and what lets a search pass over many at once.
use Rattle.std.specs.Prelude.{◌≡◌, ℕ, ◌≤◌, nat_le, Bool, ◌&&◌, ◌==◌, List, Option, Some, None}
use Rattle.js_model.specs.declared.consumer.Pending.{Pending}
use Rattle.js_model.specs.Deliver.{with_pending}
use Rattle.pending_table.specs.declared.asked.Asked.{Asked}
use Rattle.pending_table.specs.declared.asked.Asked.TheVariants.{Due, Spent}
use Rattle.pending_table.specs.declared.bounds.Bounds.{Bounds}

-- due at the moment
abbrev pub is_due : ℕ → Pending → Bool
is_due now p = nat_le p.due now

-- due at the moment, and delivered as often as it may be
abbrev pub is_spent : ℕ → ℕ → Pending → Bool
is_spent now max p = nat_le p.due now && p.count == max

abbrev pub passes : Asked → Pending → Bool
passes (Due now) p = is_due now p
passes (Spent now max) p = is_spent now max p

-- the entries with one that was found among others
abbrev pub with_found : List Pending → Option Pending → List Pending
with_found ps None = ps
with_found ps (Some p) = with_pending ps p

-- the entry is due no earlier than the least bound and no later than the greatest, its count is at most the greatest, and if it is the greatest, the entry
-- is due no earlier than that one's bound
pub record IsWithin (b : Bounds) (p : Pending) : Type 0 where
  pub due : b.due ≤ p.due
  pub latest : p.due ≤ b.latest
  pub count : p.count ≤ b.count
  pub spent : p.count ≡ b.count → b.spent ≤ p.due
