use Rattle.std.proofs.Common.{◌≡◌, ◌∙◌, arith, ◌++◌, true, List, map, ap, subst, sym, ◌<◌, length}
use Rattle.std.specs.Prelude.{All}
use Rattle.js_base.specs.Bytes.{Bytes}
use Rattle.block_table.specs.declared.block.Block.{Block}
use Rattle.block_table.specs.Blocks.{is_among}
use Rattle.block_writing.specs.declared.run.Run.{Run}
use Rattle.block_writing.specs.Laws.{ArePlannedBy}
use Rattle.stream_store.specs.Committing.{batch_length}
use Rattle.stream_store.specs.Staging.{AreBehindLogs, block_of, blocks_of}
use Rattle.stream_store.specs.Steps.{batch_steps, takes_away}
use Rattle.stream_store.proofs.Stages.{left_behind, plan_length}
use Rattle.stream_store.proofs.Unused.{begun_listed, left_listed, only_listed}
use Rattle.stream_store.proofs.staging.stage_by.Goals as goal

pub returns : goal.returns
returns c =
    let p = c.in_ok-plan.ensures.plan in
    let planned : ArePlannedBy c.args.table.now c.args.effects.now p.made = record { table = c.in_ok-blocks.ensures.table; allowed = c.requires.records; made_is = p.made_is } in
    let all : c.take_away-all.result ≡ takes_away c.in_ok-steps.steps.items = c.take_away-all.ensures.value ∙ ap takes_away c.as_slice-2.ensures.value in
    let listed : c.in_ok-blocks.blocks.items ≡ blocks_of c.take_away-all.result c.args.table.now ++ map block_of c.in_ok-plan.plan.runs.items =
    c.in_ok-blocks.ensures.value ∙ ap (λ (l : List Run). blocks_of c.take_away-all.result c.args.table.now ++ map block_of l) c.as_slice-3.ensures.value in
    record {
      staged = record {
        batch = c.in_ok-batch.ensures.value ∙ c.as_slice-records.ensures.value ∙ p.has.batch;
        bytes = subst (λ (l : Bytes). All (λ byte. byte < 256) l) (sym c.in_ok-batch.ensures.value) c.law_bytes.ensures.law;
        prepared = record {
          made = p.made;
          planned = planned;
          runs = p.has.runs;
          steps = c.in_ok-steps.ensures.value ∙ ap (batch_steps c.args.effects.now) (c.as_slice.ensures.value ∙ p.has.spots);
          behind = subst AreBehindLogs (sym (c.in_ok-blocks.ensures.value ∙ ap (λ (l : List Run). blocks_of c.take_away-all.result c.args.table.now ++ map block_of l) (c.as_slice-3.ensures.value ∙ p.has.runs))) (left_behind c.args.table.now c.args.effects.now p.made c.take_away-all.result planned);
          left = λ file has free. subst (λ (l : List Block). is_among l file ≡ true) (sym listed) (left_listed c.args.table.now c.in_ok-steps.steps.items c.in_ok-plan.plan.runs.items c.take_away-all.result all file planned.table has free);
          begun = λ file there. subst (λ (l : List Block). is_among l file ≡ true) (sym listed) (begun_listed c.args.table.now c.in_ok-steps.steps.items c.in_ok-plan.plan.runs.items c.take_away-all.result all file there);
          only = λ file there. only_listed c.args.table.now c.in_ok-steps.steps.items c.in_ok-plan.plan.runs.items c.take_away-all.result all file (subst (λ (l : List Block). is_among l file ≡ true) listed there);
        };
      };
    }

pub of-requires : goal.of-requires
of-requires c =
    let p = c.in_ok-plan.ensures.plan in
    let size : length c.as_slice-records.result.now ≡ batch_length c.args.effects.now = ap length (c.as_slice-records.ensures.value ∙ p.has.batch) ∙ plan_length c.args.table.now c.args.effects.now p.made p.made_is in
    record { short = omega (arith, c.requires.short, size) }
