use Rattle.std.proofs.Common.{◌∷◌}
use Rattle.pending_table.specs.Asked.{IsWithin}
use Rattle.pending_table.specs.Trees.{entries}
use Rattle.pending_table.proofs.Around.{all_both, all_map}
use Rattle.pending_table.proofs.tree.Fork.update.Goals as goal

pub returns-clause-bounded : goal.returns-clause-bounded
returns-clause-bounded c =
    let f = c.args.self.now in (
      all_both (IsWithin c.widen-self.result) (entries f.left) (f.entry ∷ entries f.right) (all_map (IsWithin c.widen.result) (IsWithin c.widen-self.result) c.widen-self.ensures.before (entries f.left) c.widen.ensures.here)
          (c.widen-self.ensures.before f.entry (c.widen.ensures.before f.entry c.of.ensures.within), c.widen-self.ensures.here),
      c.requires.sides,
    )
