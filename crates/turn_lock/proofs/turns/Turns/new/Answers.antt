use Rattle.std.proofs.Common.{le_trans, ◌≡◌, ◌-◌, ◌∷◌, ◌++◌, [], ℕ, suc, List, length, length-append, append_assoc, sym, ap, ◌∙◌, arith}
use Rattle.histories.specs.Entries.{Opening}
use Rattle.turn_lock.specs.Views.{opened, kept_back}
use Rattle.turn_lock.specs.Calls.{new_seat, new_seats}
use Rattle.turn_lock.proofs.turns.Turns.new.Goals as goal

pub deal-seat-requires-clause-left : goal.deal-seat-requires-clause-left
deal-seat-requires-clause-left g c =
    let i = c.loop.invariant in let less = c.loop-test.true in let sum = i.5 in let n : ℕ = i.0 - 1 in
    let same : i.0 ≡ suc n = omega arith in let op = ap (λ m. m.0.opening) i.2 in
    (n, i.2 ∙ (λ j. (opened (sym op j) (suc (same j)), [])))

pub loop-preserved : goal.loop-preserved
loop-preserved g c =
    let i = c.loop.invariant in let less = c.loop-test.true in let sum = i.5 in let n : ℕ = i.0 - 1 in
    let same : i.0 ≡ suc n = omega arith in let o : Opening = g.P.Standing.opens c.args.value in let lock = c.in-Ok-lay.turns.lock in
    let op : c.loop.first.me.0.opening ≡ o = ap (λ m. m.0.opening) i.2 in
    let was = ap (λ m. m.0) i.2 ∙ ap (λ (k : ℕ). opened o (suc k)) same in
    let seat : c.deal-seat.result ≡ new_seat lock o (suc n) =
    c.deal-seat.ensures.dealt (suc n) (i.2 ∙ (λ j. (opened (sym op j) (suc (same j)), []))) ∙ (λ j. new_seat (i.1 j) (op j) (suc n)) in
    let row = c.loop.row.items in let rest : List _ = new_seats lock o (suc n) in
    let long = length-append row (c.deal-seat.result ∷ []) in let count = i.4 in let items = c.add.ensures.items in let longer = ap length items in (
      n,
      c.deal-seat.ensures.table ∙ i.1,
      c.deal-seat.ensures.first ∙ (λ j. (kept_back (was j), [])),
      i.3 ∙ (ap (λ (k : ℕ). row ++ new_seats lock o (suc k)) same ∙ (sym (append_assoc row (new_seat lock o (suc n) ∷ []) rest)
          ∙ (ap (λ s. (row ++ s ∷ []) ++ rest) (sym seat) ∙ ap (λ l. l ++ rest) (sym items)))),
      omega arith,
      omega arith,
      le_trans i.6 c.add.ensures.capacity,
    )
