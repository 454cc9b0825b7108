use Rattle.std.proofs.Common.{ℕ, suc, List, ap, sym, subst, arith, ◌∙◌, ◌+◌, ◌∷◌, ◌++◌, [], take, ◌≡◌, Some}
use Rattle.std.specs.Prelude.{unwrap_or}
use Rattle.std.specs.BTreeMap.{get}
use Rattle.std.specs.Ordering.{nat_cmp}
use Rattle.std.proofs.Math.Seq.{take-suc}
use Rattle.std.proofs.lemmas.List.{take_all}
use Rattle.vol_disk.specs.FileState.{at_rest}
use Rattle.vol_disk.proofs.Replays.{AreAtRest, at_rest_more, states_at_rest}
use Rattle.vol_disk.proofs.held.rest.Goals as goal

pub loop-number-preserved : goal.loop-number-preserved
loop-number-preserved c =
    let n = c.loop-number.number-index in
    let start = c.args.start.now in
    let item = c.loop-number-item.result in
    let files = c.loop-number.files in
    let next = c.put_at_rest.new.files in
    let here = subst (λ (bytes : List ℕ). get nat_cmp next item.0 ≡ Some (unwrap_or (get nat_cmp files item.0) (at_rest bytes))) c.as_slice.ensures c.in_ok-put_at_rest.ensures.here in
    let more = at_rest_more files.entries next.entries (take n start) item.0 item.1 c.loop-number.invariant here c.in_ok-put_at_rest.ensures.there in
    let next_one : n + 1 ≡ suc n = omega arith in
    let front = ap (λ (k : ℕ). take k start) next_one ∙ take-suc start n item (omega arith) ∙ ap (λ (e : ℕ × List ℕ). take n start ++ e ∷ []) (sym c.loop-number-item.is) in
    subst (AreAtRest next.entries) (sym front) more

pub returns : goal.returns
returns c =
    let all = subst (AreAtRest c.loop-number.files.entries) (take_all c.loop-number.number-index c.args.start.now c.loop-number-test.false) c.loop-number.invariant in
    record { rest = states_at_rest c.loop-number.files.entries c.args.start.now all }
