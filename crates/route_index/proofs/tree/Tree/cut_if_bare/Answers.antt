use Rattle.std.proofs.Common.{ℕ, Option, subst}
use Rattle.std.specs.Prelude.{IfSome}
use Rattle.route_index.specs.Tree.{IsBareNode}
use Rattle.route_index.proofs.tree.Tree.cut_if_bare.Goals as goal

pub cut-requires-clause-bare : goal.cut-requires-clause-bare
cut-requires-clause-bare c =
    let P : Option ℕ → Type 0 = λ o. IfSome o (IsBareNode c.args.self.now.branches c.args.self.now.ids) in
    subst P c.in-Some.ensures.node c.if-is_bare.ensures.bare
