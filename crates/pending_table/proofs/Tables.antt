-- The table's numbers after a change of one entry.
use Rattle.std.proofs.Common.{◌≡◌, ℕ, ◌+◌, ◌<◌, ◌≤◌, ◌^◌, ◌==◌, cond, not, List, Some, None, map, length, sym, ap, ◌∙◌, subst, arith}
use Rattle.std.specs.Prelude.{filter, find}
use Rattle.std.specs.List.{sum_by, AllByRecursion}
use Rattle.std.proofs.lemmas.Bool.{eqb-true}
use Rattle.std.proofs.lemmas.List.{length-map}
use Rattle.js_model.specs.declared.consumer.Pending.{Pending}
use Rattle.js_model.specs.Deliver.{with_pending}
use Rattle.pending_table.specs.declared.outlook.Outlook.{Outlook}
use Rattle.pending_table.specs.declared.tree.Tree.{Tree}
use Rattle.pending_table.specs.Quiet.{IsForeseen}
use Rattle.pending_table.specs.Table.{IsTable, is_again}
use Rattle.pending_table.specs.Trees.{entries, IsAscending, IsBounded}
use Rattle.pending_table.proofs.Around.{all_map, replaced}
use Rattle.pending_table.proofs.Kept.{all_changed, all_filter, all_put, ascending_put, ascending_replaced, ascending_filter, sum_put, sum_replaced, sum_removed, length_sum, found_test}

abbrev pub weight : Pending → ℕ
weight p = cond (is_again p) 1 0

abbrev one : Pending → ℕ
one p = 1

-- an entry that is found is found by its own sequence
pub own : (seq : ℕ) (ps : List Pending) (e : Pending) → find (λ p. p.seq == seq) ps ≡ Some e → find (λ p. p.seq == e.seq) ps ≡ Some e
own seq ps e h =
    let same : e.seq ≡ seq = eqb-true e.seq seq (found_test (λ p. p.seq == seq) ps e h) in
    ap (λ (n : ℕ). find (λ p. p.seq == n) ps) same ∙ h

module _ (tree new : Tree) (len again : ℕ) (outlook ahead : Outlook) (table : IsTable tree len again outlook) (bounded : IsBounded new) (others : (p : Pending) → IsForeseen outlook p → IsForeseen ahead p) where
  rest_foreseen : AllByRecursion (IsForeseen ahead) (entries tree)
  rest_foreseen = all_map (IsForeseen outlook) (IsForeseen ahead) others (entries tree) table.foreseen

  pub put_table : (e : Pending) → IsForeseen ahead e → find (λ p. p.seq == e.seq) (entries tree) ≡ None → length (entries tree) + 1 < 2 ^ 32 → entries new ≡ with_pending (entries tree) e → IsTable new (len + 1) (again + weight e) ahead
  put_table e here none room is = record {
    ascending = subst IsAscending (sym is) (ascending_put e (entries tree) table.ascending);
    bounded = bounded;
    len_is = ap (λ n. n + 1) (table.len_is ∙ length_sum (entries tree)) ∙ sym (sum_put one e (entries tree) none) ∙ sym (length_sum (with_pending (entries tree) e)) ∙ ap length (sym is);
    again_is = ap (λ n. n + weight e) table.again_is ∙ sym (sum_put weight e (entries tree) none) ∙ ap (sum_by weight) (sym is);
    foreseen = subst (AllByRecursion (IsForeseen ahead)) (sym is) (all_put (IsForeseen ahead) e (entries tree) here rest_foreseen);
    few = omega (arith, room, length_sum (entries tree), sum_put one e (entries tree) none, length_sum (with_pending (entries tree) e), ap length is);
  }

  pub replaced_table : (e old : Pending) → IsForeseen ahead e → find (λ p. p.seq == e.seq) (entries tree) ≡ Some old → entries new ≡ map (replaced e) (entries tree) → (changed : ℕ) → changed + weight old ≡ again + weight e → IsTable new len changed ahead
  replaced_table e old here found is changed sum =
      let is_long : length (entries new) ≡ length (entries tree) = ap length is ∙ length-map (entries tree) (replaced e) in
      let sums : sum_by weight (map (replaced e) (entries tree)) + weight old ≡ sum_by weight (entries tree) + weight e = sum_replaced weight e old (entries tree) table.ascending found in
      let after : changed ≡ sum_by weight (map (replaced e) (entries tree)) = omega (arith, sum, sums, table.again_is) in
      record {
        ascending = subst IsAscending (sym is) (ascending_replaced e (entries tree) table.ascending);
        bounded = bounded;
        len_is = table.len_is ∙ sym is_long;
        again_is = after ∙ ap (sum_by weight) (sym is);
        foreseen = subst (AllByRecursion (IsForeseen ahead)) (sym is) (all_changed (IsForeseen ahead) e (entries tree) here rest_foreseen);
        few = omega (arith, table.few, is_long);
      }

  pub removed_table : (seq : ℕ) (e : Pending) → find (λ p. p.seq == seq) (entries tree) ≡ Some e → entries new ≡ filter (λ p. not (p.seq == seq)) (entries tree) → (left fewer : ℕ) → left + 1 ≡ len → fewer + weight e ≡ again → IsTable new left fewer ahead
  removed_table seq e found is left fewer lens agains =
      let rest = filter (λ p. not (p.seq == seq)) (entries tree) in
      let longs : sum_by one rest + 1 ≡ sum_by one (entries tree) = sum_removed one seq e (entries tree) table.ascending found in
      let sums : sum_by weight rest + weight e ≡ sum_by weight (entries tree) = sum_removed weight seq e (entries tree) table.ascending found in
      let long : left ≡ length rest = omega (arith, longs, lens, table.len_is, length_sum rest, length_sum (entries tree)) in
      let after : fewer ≡ sum_by weight rest = omega (arith, sums, agains, table.again_is) in
      record {
        ascending = subst IsAscending (sym is) (ascending_filter (λ p. not (p.seq == seq)) (entries tree) table.ascending);
        bounded = bounded;
        len_is = long ∙ ap length (sym is);
        again_is = after ∙ ap (sum_by weight) (sym is);
        foreseen = subst (AllByRecursion (IsForeseen ahead)) (sym is) (all_filter (IsForeseen ahead) (λ p. not (p.seq == seq)) (entries tree) rest_foreseen);
        few = omega (arith, table.few, table.len_is, lens, long, ap length is);
      }

-- an entry that is there is counted
module _ (tree : Tree) (len again : ℕ) (outlook : Outlook) (table : IsTable tree len again outlook) (seq : ℕ) (e : Pending) (found : find (λ p. p.seq == seq) (entries tree) ≡ Some e) where
  pub weight_within : weight e ≤ again
  weight_within =
      let sums : sum_by weight (filter (λ p. not (p.seq == seq)) (entries tree)) + weight e ≡ sum_by weight (entries tree) = sum_removed weight seq e (entries tree) table.ascending found in
      omega (arith, sums, table.again_is)

  pub some_there : 1 ≤ len
  some_there =
      let longs : sum_by one (filter (λ p. not (p.seq == seq)) (entries tree)) + 1 ≡ sum_by one (entries tree) = sum_removed one seq e (entries tree) table.ascending found in
      omega (arith, longs, table.len_is, length_sum (entries tree))
