-- Until when no delivery that waits becomes due.
use Rattle.std.proofs.Common.{◌≡◌, ℕ, ◌≤◌, Bool, true, false, cond, List, [], ◌∷◌, Option, Some, None, map, refl, arith}
use Rattle.std.specs.Prelude.{All, nat_lt}
use Rattle.std.specs.List.{AllByRecursion}
use Rattle.std.proofs.lemmas.Bool.{ltb-true}
use Rattle.std.proofs.lemmas.List.Elements.{All-cons, All-nil}
use Rattle.js_model.specs.declared.consumer.Pending.{Pending}
use Rattle.timers.specs.Bounds.{IsTimerBound}
use Rattle.timers.specs.Timers.{later}
use Rattle.timer_bounds.proofs.Bounding.{IsFrom, bound_of}
use Rattle.pending_table.specs.Quiet.{IsQuiet}

abbrev dues_after : ℕ → List Pending → List ℕ
dues_after now ps = later now (map (λ e. e.due) ps)

each_due : (now : ℕ) (next : Option ℕ) (ps : List Pending) → AllByRecursion (IsQuiet now next) ps → All (IsFrom next) (dues_after now ps)
each_due now next [] h = All-nil (IsFrom next)
each_due now next (p ∷ ps) h = go next h.0 (nat_lt now p.due) refl (each_due now next ps h.1)
  where
    go : (o : Option ℕ) → IsQuiet now o p → (b : Bool) → nat_lt now p.due ≡ b → All (IsFrom o) (dues_after now ps)
        → All (IsFrom o) (cond b (p.due ∷ dues_after now ps) (dues_after now ps))
    go o quiet false e k = k
    go None quiet true e k =
        let past : p.due ≤ now = quiet in
        absurd (omega (arith, past, ltb-true now p.due e))
    go (Some n) quiet true e k = All-cons (IsFrom (Some n)) p.due (dues_after now ps) (quiet (ltb-true now p.due e)) k

pub due_bound : (now : ℕ) (next : Option ℕ) (ps : List Pending) → AllByRecursion (IsQuiet now next) ps → IsTimerBound (later now (map (λ e. e.due) ps)) next
due_bound now next ps h = bound_of next (dues_after now ps) (each_due now next ps h)
