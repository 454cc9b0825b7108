-- A number above those of all subscriptions, and one more of them.
use Rattle.std.proofs.Common.{◌≡◌, ℕ, ◌+◌, ◌≤◌, List, [], ◌∷◌, ◌++◌, arith}
use Rattle.route_index.specs.declared.sub.Sub.{Sub}
use Rattle.route_index.specs.Subs.{IsAbove}

pub above_more : (id more : ℕ) (subs : List Sub) → id ≤ more → IsAbove id subs → IsAbove more subs
above_more id more [] h above = tt
above_more id more (sub ∷ subs) h above = (omega (arith, above.0), above_more id more subs h above.1)

pub above_pushed : (id : ℕ) (subs : List Sub) (sub : Sub) → IsAbove id subs → sub.id ≡ id → IsAbove (id + 1) (subs ++ sub ∷ [])
above_pushed id [] sub above e = (omega (arith, e), tt)
above_pushed id (one ∷ subs) sub above e = (omega (arith, above.0), above_pushed id subs sub above.1 e)
