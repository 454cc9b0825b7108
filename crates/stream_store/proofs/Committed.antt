-- What a commit leaves, as it was staged.
use Rattle.std.proofs.Common.{◌≡◌, ◌<◌, inr, ◌+◌, ◌≤◌, ◌^◌, List, length, sym, ap, ◌∙◌, subst, arith}
use Rattle.std.specs.Prelude.{All}
use Rattle.std.specs.List.{flat_map}
use Rattle.vol_disk.specs.Disk.{Disk}
use Rattle.vol_disk.specs.Images.{AreBytes, IsHonest}
use Rattle.vol_disk.specs.Moments.{LeavesOnly}
use Rattle.vol_disk.proofs.Moments.{joined}
use Rattle.js_base.specs.Bytes.{Bytes}
use Rattle.gate_log.specs.Appending.{AppendsTo, IsAppended}
use Rattle.gate_log.specs.LogState.{LogState, with_batch}
use Rattle.gate_log.specs.Settled.{IsSettled}
use Rattle.effects.specs.declared.durable.Durable.{Durable}
use Rattle.effects.specs.declared.effect.Effect.{Effect}
use Rattle.op_records.specs.Laws.{IsBatch}
use Rattle.op_records.specs.Spelling.{spelled_record}
use Rattle.block_table.specs.Blocks.{Blocks}
use Rattle.block_table.specs.Closing.{closed}
use Rattle.block_writing.specs.declared.run.Run.{Run}
use Rattle.block_writing.specs.Planning.{spots_in}
use Rattle.block_writing.specs.Writing.{ChangesRuns, HasStored, IsWritten}
use Rattle.block_writing.proofs.Commits.{law_plans}
use Rattle.stream_store.specs.Base.{IsBaseOf}
use Rattle.stream_store.specs.Committing.{IsNextBatch}
use Rattle.stream_store.specs.Holding.{Holds}
use Rattle.stream_store.specs.Staging.{DropsUnused, IsPrepared}
use Rattle.stream_store.specs.Steps.{steps_of, with_steps}
use Rattle.stream_store.specs.declared.staging.Staged.{Staged}
use Rattle.stream_store.specs.declared.steps.Step.{Step}
use Rattle.stream_store.proofs.Closing.{batch_closes}
use Rattle.stream_store.proofs.Committing.{IsPlanned, OneOfBoth, base_dropped, base_late, commits, dropping_leaves, settled_mid, writing_leaves}

module _ (log : LogState) (b : Blocks) (effects : List Effect) (staged : Staged) (base next : Durable) (old : Disk) (k : IsBaseOf log b base old) (n : IsNextBatch base effects next)
    (s : IsPrepared b effects staged) where
  pub plan : IsPlanned log b base next effects s.made old
  plan = record { base_is = k; next_is = n; planned = s.planned }

  -- where the messages lie then
  abbrev after : Blocks
  after = with_steps staged.steps.items b

  pub after_is : closed (with_steps (steps_of effects (spots_in s.made.records)) b) ≡ after
  after_is = sym (batch_closes effects (spots_in s.made.records) b) ∙ ap (λ (l : List Step). with_steps l b) (sym s.steps)

  -- ---- the runs are written

  module _ (mid : Disk) (changes : ChangesRuns staged.runs.items old mid) where
    pub changes_made : ChangesRuns s.made.runs old mid
    changes_made = subst (λ (l : List Run). ChangesRuns l old mid) s.runs changes

    pub writing : LeavesOnly old mid (OneOfBoth base next)
    writing = writing_leaves log b base next effects s.made old plan mid changes_made

    module _ (bytes : All (λ run. AreBytes run.bytes) staged.runs.items) (written : All (IsWritten old mid) staged.runs.items) where
      pub has : HasStored b effects s.made.records old mid
      has =
          law_plans.written b effects s.made old mid s.planned k.stand changes_made (subst (λ (l : List Run). All (λ run. AreBytes run.bytes) l) s.runs bytes)
          (subst (λ (l : List Run). All (IsWritten old mid) l) s.runs written)

      pub settled_then : (batches : List Bytes) × IsSettled log batches mid
      settled_then = (k.settled.0, settled_mid log b base next effects s.made old plan mid changes_made has k.settled.0 k.settled.1)

      -- ---- the batch is appended

      module _ (batch_is : staged.batch ≡ flat_map spelled_record s.made.records) (are_bytes : All (λ byte. byte < 256) staged.batch) (honest : IsHonest mid)
          (fits : log.end + 10 + length staged.batch ≤ 2 ^ 31) where
        few : IsBatch staged.batch
        few = record { are_bytes = are_bytes; short = omega (arith, fits) }

        module _ (late : Disk) (appends : AppendsTo log staged.batch mid late) where
          pub appending : LeavesOnly old late (OneOfBoth base next)
          appending = commits log b base next effects s.made old plan mid changes_made has honest staged.batch batch_is few late appends

          module _ (longer : LogState) (longer_is : longer ≡ with_batch log (length staged.batch)) (appended : IsAppended log longer staged.batch mid late) where
            pub late_base : IsBaseOf longer after next late
            unfolding settled_then plan
            late_base =
                subst (λ (x : Blocks). IsBaseOf longer x next late) after_is
                (base_late log b base next effects s.made old plan mid changes_made has honest staged.batch batch_is few late appends longer longer_is (appended k.settled.0 settled_then.1))

-- ---- unused blocks are dropped

module _ (log : LogState) (b : Blocks) (next : Durable) (late new : Disk) (is : IsBaseOf log b next late) (drops : DropsUnused b late new) where
  pub new_base : IsBaseOf log b next new
  new_base = base_dropped log b next late new drops.ks is drops.behind_logs drops.changes

  pub all_leaves : (base : Durable) (old : Disk) → LeavesOnly old late (OneOfBoth base next) → LeavesOnly old new (OneOfBoth base next)
  all_leaves base old leaves =
      joined old late new (OneOfBoth base next) (λ image. Holds image next) leaves (dropping_leaves log b next late new drops.ks is drops.behind_logs drops.changes) (λ image h. inr h)
