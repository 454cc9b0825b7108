use Rattle.std.proofs.Common.{◌∙◌, ◌++◌, ◌∷◌, [], List, ap, arith, get_or}
use Rattle.block_table.specs.declared.block.Block.{Block}
use Rattle.stream_store.proofs.Stages.{all_pushed, pushed_block}
use Rattle.stream_store.proofs.staging.add_blocks.Goals as goal

pub loop-block-preserved : goal.loop-block-preserved
loop-block-preserved c =
    pushed_block c.args.into.now.items c.push.new.self.items c.args.blocks.now c.loop-block.block-index (record { file = 0; end = 0 }) (omega arith) (c.in_ok-push.ensures.items ∙ ap (λ (l : List Block). l ++ get_or c.args.blocks.now c.loop-block.block-index (record { file = 0; end = 0 }) ∷ []) c.loop-block.invariant)

pub returns : goal.returns
returns c = record { ok = all_pushed c.args.into.now.items c.loop-block.into.items c.args.blocks.now c.loop-block.block-index (omega arith) c.loop-block.invariant }
