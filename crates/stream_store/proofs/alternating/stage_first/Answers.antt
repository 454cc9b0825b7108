use Rattle.std.proofs.Common.{◌≡◌, ◌∙◌, arith, ◌++◌, true, List, map, ap, subst, sym, ◌<◌, ◌≤◌, ◌+◌, ℕ, length}
use Rattle.std.specs.Prelude.{All}
use Rattle.js_base.specs.Bytes.{Bytes}
use Rattle.block_table.specs.declared.block.Block.{Block}
use Rattle.block_table.specs.Blocks.{is_among}
use Rattle.block_writing.specs.declared.run.Run.{Run}
use Rattle.block_writing.specs.Laws.{ArePlannedBy}
use Rattle.block_writing.specs.Planning.{spots_in}
use Rattle.stream_store.specs.Alternating.{first_batch, first_length}
use Rattle.stream_store.specs.Placing.{blocks_then}
use Rattle.stream_store.specs.Staging.{AreBehindLogs, block_of, blocks_of}
use Rattle.stream_store.specs.Steps.{batch_steps, takes_away, with_steps}
use Rattle.stream_store.specs.declared.steps.Step.{Step}
use Rattle.stream_store.proofs.Stages.{blocks_after, left_behind}
use Rattle.stream_store.proofs.Unused.{begun_listed, left_listed, only_listed}
use Rattle.stream_store.proofs.alternating.stage_first.Goals as goal

pub returns-clause-staged : goal.returns-clause-staged
returns-clause-staged c =
    let b = c.args.table.now in
    let es = c.args.effects.now in
    let p = c.in_ok-plan.ensures.plan in
    let planned : ArePlannedBy b es p.made = record { table = c.in_ok-blocks.ensures.table; allowed = c.requires.records; made_is = p.made_is } in
    let all : c.take_away-all.result ≡ takes_away c.in_ok-steps.steps.items = c.take_away-all.ensures.value ∙ ap takes_away c.as_slice-3.ensures.value in
    let listed : c.in_ok-blocks.blocks.items ≡ blocks_of c.take_away-all.result b ++ map block_of c.in_ok-plan.plan.runs.items =
    c.in_ok-blocks.ensures.value ∙ ap (λ (l : List Run). blocks_of c.take_away-all.result b ++ map block_of l) c.as_slice-4.ensures.value in
    let then_is : c.in_ok-then.then ≡ with_steps c.in_ok-steps.steps.items b = c.in_ok-then.ensures.value ∙ ap (λ (l : List Step). with_steps l b) c.as_slice-2.ensures.value in
    record {
      staged_is = record {
        prepared = record {
          made = p.made;
          planned = planned;
          runs = p.has.runs;
          steps = c.in_ok-steps.ensures.value ∙ ap (batch_steps es) (c.as_slice.ensures.value ∙ p.has.spots);
          behind = subst AreBehindLogs (sym (c.in_ok-blocks.ensures.value ∙ ap (λ (l : List Run). blocks_of c.take_away-all.result b ++ map block_of l) (c.as_slice-4.ensures.value ∙ p.has.runs))) (left_behind b es p.made c.take_away-all.result planned);
          left = λ file has free. subst (λ (l : List Block). is_among l file ≡ true) (sym listed) (left_listed b c.in_ok-steps.steps.items c.in_ok-plan.plan.runs.items c.take_away-all.result all file planned.table has free);
          begun = λ file there. subst (λ (l : List Block). is_among l file ≡ true) (sym listed) (begun_listed b c.in_ok-steps.steps.items c.in_ok-plan.plan.runs.items c.take_away-all.result all file there);
          only = λ file there. only_listed b c.in_ok-steps.steps.items c.in_ok-plan.plan.runs.items c.take_away-all.result all file (subst (λ (l : List Block). is_among l file ≡ true) listed there);
        };
        batch = c.in_ok-batch.ensures.value ∙ c.as_slice-bytes.ensures.value ∙ c.in_ok-records.ensures.value ∙ ap (first_batch c.args.next.now) then_is;
        bytes = subst (λ (l : Bytes). All (λ byte. byte < 256) l) (sym c.in_ok-batch.ensures.value) c.law_bytes.ensures.law;
      };
      table_is = then_is;
    }

pub returns-clause-fits : goal.returns-clause-fits
returns-clause-fits c =
    let b = c.args.table.now in
    let es = c.args.effects.now in
    let p = c.in_ok-plan.ensures.plan in
    let steps_is : c.in_ok-steps.steps.items ≡ batch_steps es (spots_in p.made.records) = c.in_ok-steps.ensures.value ∙ ap (batch_steps es) (c.as_slice.ensures.value ∙ p.has.spots) in
    let then_is : c.in_ok-then.then ≡ blocks_then b es = c.in_ok-then.ensures.value ∙ ap (λ (l : List Step). with_steps l b) (c.as_slice-2.ensures.value ∙ steps_is) ∙ blocks_after b es p.made p.made_is in
    let size : length c.in_ok-records.records.items ≡ first_length c.args.next.now (blocks_then b es) = ap length c.in_ok-records.ensures.value ∙ ap (first_length c.args.next.now) then_is in
    subst (λ (n : ℕ). 30 + n ≤ c.args.bound) size c.in_ok-records.ensures.fits

pub of-requires : goal.of-requires
of-requires c = record { short = omega (arith, c.requires.small, ap length c.as_slice-bytes.ensures.value, c.in_ok-records.ensures.fits) }
