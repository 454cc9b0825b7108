use Rattle.std.proofs.Common.{rules, ◌≡◌, ◌∷◌, [], Some, List, Option, sym, subst}
use Rattle.atomic_table.specs.Table.{opening}
use Rattle.histories.specs.Entries.{Opening}
use Rattle.turn_lock.specs.declared.kept.Kept.{Kept}
use Rattle.turn_lock.specs.Views.{opened}
use Rattle.turn_lock.specs.Ruled.{IsRuled}
use Rattle.turn_lock.proofs.Keeps.{makes}
use Rattle.turn_lock.proofs.turns.Turns.lay.Goals as goal

pub new-requires : goal.new-requires
new-requires g c =
    let k : Kept g.row.S.Denot = record { value = c.args.value; entries = c.of-entries.result } in
    let items : c.push.new.self.items ≡ Some k ∷ [] = search rules in
    let o : Opening = c.of-opening.result.value in
    subst (λ (l : List (Option (Kept g.row.S.Denot))). IsRuled _ o c.args.seats g.P.Standing.stands (opening (0 ∷ 0 ∷ []) l (opened o c.args.seats))) (sym items)
    (makes _ o c.args.seats g.P.Standing.stands (g.met.P.Standing.all_lawful o) k (subst (λ (z : Opening). g.P.Standing.stands z [] c.args.value) (sym c.of-opening.ensures.value) c.requires.stands))

pub only-requires : goal.only-requires
only-requires g c = let k : Kept g.row.S.Denot = record { value = c.args.value; entries = c.of-entries.result } in record { one = (k, search rules) }
