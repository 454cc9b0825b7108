use Rattle.std.proofs.Common.{◌≡◌, true, List, inr, subst, sym}
use Rattle.block_table.specs.declared.block.Block.{Block}
use Rattle.block_table.specs.Blocks.{is_among}
use Rattle.stream_store.proofs.Known.{listed_last}
use Rattle.stream_store.proofs.store.Store.list.Goals as goal

pub returns-clause-listed : goal.returns-clause-listed
returns-clause-listed c =
    inr (subst (λ (l : List Block). is_among l c.args.file ≡ true) (sym c.in_ok-push.ensures.items) (listed_last c.self.inside.unused.items c.args.file))
