use Rattle.std.proofs.Common.{◌∙◌, ◌==◌, sym, eqb}
use Rattle.std.specs.List.{dedup}
use Rattle.std.proofs.lemmas.List.Filters.{dedup_is}
use Rattle.std.proofs.lemmas.List.Sorted.{list_any-IsPermutation}
use Rattle.std.proofs.lemmas.Map.Keys.{IsStrictlyIncreasing-dedup, sorted_from_strictly_increasing}
use Rattle.route_index.proofs.Rising.{same_rising, dedup_has}
use Rattle.route_index.proofs.route_tree.RouteTree.matching.Goals as goal

pub returns : goal.returns
returns c =
    let left = dedup_is eqb c.sort_unstable.new.self.items c.dedup.new.self.items c.dedup.ensures.filtered in
    record {
      ids = left ∙ same_rising (dedup eqb c.sort_unstable.new.self.items) _
          (sorted_from_strictly_increasing _ (IsStrictlyIncreasing-dedup c.sort_unstable.new.self.items c.sort_unstable.ensures.sorted)) c.in_ok-found.ensures.rise
          (λ n. dedup_has c.sort_unstable.new.self.items n ∙ sym (list_any-IsPermutation (λ m. m == n) c.in_ok-found.found.items c.sort_unstable.new.self.items c.sort_unstable.ensures.permutation) ∙ c.in_ok-found.ensures.ids n);
    }
