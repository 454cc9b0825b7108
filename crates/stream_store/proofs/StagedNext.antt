-- What is written into the next log, as it was staged.
use Rattle.std.proofs.Common.{◌≡◌, ◌≤◌, inl, inr, ℕ, ◌+◌, ◌^◌, List, [], Option, Some, None, length, option_map, refl, sym, ap, subst, ◌∙◌, arith}
use Rattle.std.specs.Prelude.{IsSome, All}
use Rattle.std.proofs.lemmas.Bool.{true≢false}
use Rattle.vol_disk.specs.Disk.{Disk}
use Rattle.vol_disk.specs.Images.{AreBytes, IsHonest}
use Rattle.vol_disk.specs.Moments.{LeavesOnly}
use Rattle.js_base.specs.Bytes.{Bytes}
use Rattle.gate_log.specs.Appending.{AppendsTo, IsAppended}
use Rattle.gate_log.specs.LogState.{LogState, generation_of, new_log, with_batch}
use Rattle.gate_log.specs.Settled.{IsSettled}
use Rattle.effects.specs.declared.durable.Durable.{Durable}
use Rattle.op_records.specs.Laws.{IsBatch}
use Rattle.block_table.specs.Blocks.{Blocks}
use Rattle.block_writing.specs.Writing.{ChangesRuns, IsWritten}
use Rattle.stream_store.specs.Alternating.{first_batch, other_file}
use Rattle.stream_store.specs.Base.{IsBaseOf}
use Rattle.stream_store.specs.Steps.{with_steps}
use Rattle.stream_store.specs.Writing.{IsStagedInto, IsStagedNext}
use Rattle.stream_store.specs.declared.staging.Staged.{Staged}
use Rattle.stream_store.proofs.Alternated.{empty_mid, next_base, next_leaves}
use Rattle.stream_store.proofs.Committed.{after_is, changes_made, has, plan, settled_then, writing}
use Rattle.stream_store.proofs.Committing.{OneOfBoth, begun_by}

pub some_in : (o : Option ℕ) → IsSome o → (g : ℕ) × (o ≡ Some g)
some_in None h = absurd (true≢false (sym h))
some_in (Some g) h = (g, refl)

module _ (log : LogState) (b : Blocks) (base next : Durable) (staged : Staged) (into : LogState) (old : Disk) (t : IsStagedNext log b base next staged into old) where
  generation : (g : ℕ) × (generation_of log ≡ Some g)
  generation = some_in (generation_of log) t.base_is.begun

  into_at : into ≡ new_log (other_file log.file) (Some (generation.0 + 1))
  into_at = t.into_is ∙ ap (λ (o : Option ℕ). new_log (other_file log.file) (option_map (λ x. x + 1) o)) (sym (begun_by log t.base_is.begun) ∙ generation.1)

  module _ (mid : Disk) (changes : ChangesRuns staged.runs.items old mid) where
    pub next_writing : LeavesOnly old mid (OneOfBoth base next)
    next_writing = writing log b t.effects staged base next old t.base_is t.next_is t.staged_is.prepared mid changes

    module _ (bytes : All (λ run. AreBytes run.bytes) staged.runs.items) (written : All (IsWritten old mid) staged.runs.items) (honest : IsHonest mid) where
      pub next_settled : IsSettled into [] mid
      next_settled =
          let s = t.staged_is.prepared in
          empty_mid log b base next t.effects s.made old (plan log b t.effects staged base next old t.base_is t.next_is s) mid
          (changes_made log b t.effects staged base next old t.base_is t.next_is s mid changes)
          (has log b t.effects staged base next old t.base_is t.next_is s mid changes bytes written) honest generation.0 generation.1 into into_at t.empty

      module _ (fits : into.end + 10 + length staged.batch ≤ 2 ^ 31) (late : Disk) (appends : AppendsTo into staged.batch mid late) where
        few : IsBatch staged.batch
        few = record { are_bytes = t.staged_is.bytes; short = omega (arith, fits) }

        batch_is : staged.batch ≡ first_batch next (with_steps staged.steps.items b)
        batch_is = t.staged_is.batch

        pub next_appending : LeavesOnly old late (OneOfBoth base next)
        next_appending =
            let s = t.staged_is.prepared in
            let same = after_is log b t.effects staged base next old t.base_is t.next_is s in
            next_leaves log b base next t.effects s.made old (plan log b t.effects staged base next old t.base_is t.next_is s) mid
            (changes_made log b t.effects staged base next old t.base_is t.next_is s mid changes)
            (has log b t.effects staged base next old t.base_is t.next_is s mid changes bytes written) honest generation.0 generation.1 into into_at t.empty staged.batch
            (batch_is ∙ ap (first_batch next) (sym same)) few late appends

        pub next_late : (made : LogState) → made ≡ with_batch into (length staged.batch) → IsAppended into made staged.batch mid late → IsBaseOf made (with_steps staged.steps.items b) next late
        next_late made made_is appended =
            let s = t.staged_is.prepared in
            let same = after_is log b t.effects staged base next old t.base_is t.next_is s in
            subst (λ (x : Blocks). IsBaseOf made x next late) same
            (next_base log b base next t.effects s.made old (plan log b t.effects staged base next old t.base_is t.next_is s) mid
            (changes_made log b t.effects staged base next old t.base_is t.next_is s mid changes)
            (has log b t.effects staged base next old t.base_is t.next_is s mid changes bytes written) honest generation.0 generation.1 into into_at t.empty staged.batch
            (batch_is ∙ ap (first_batch next) (sym same)) few late appends made made_is appended)

-- ---- whichever log it is

module _ (into : LogState) (staged : Staged) (old : Disk) where
  pub either_settled : (mid : Disk) → ChangesRuns staged.runs.items old mid → All (λ run. AreBytes run.bytes) staged.runs.items → All (IsWritten old mid) staged.runs.items → IsHonest mid → IsStagedInto into staged old
      → (batches : List Bytes) × IsSettled into batches mid
  either_settled mid changes bytes written honest (inl (b, base, next, on)) =
      settled_then into b on.effects staged base next old on.base_is on.next_is on.staged_is.prepared mid changes bytes written
  either_settled mid changes bytes written honest (inr (log, b, base, next, t)) = ([], next_settled log b base next staged into old t mid changes bytes written honest)
