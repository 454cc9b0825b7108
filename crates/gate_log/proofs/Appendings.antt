-- What an append makes of its disk, write by write.
use Rattle.std.proofs.Common.{◌≡◌, inl, ℕ, ◌+◌, ◌<◌, ◌^◌, List, [], ◌∷◌, ◌++◌, Option, None, Some, IfSome, IsSome, length, drop, refl, sym, ◌∙◌, ap, subst, arith}
use Rattle.std.proofs.lemmas.Bool.{false≢true}
use Rattle.vol_disk.specs.Disk.{Disk, Files}
use Rattle.vol_disk.specs.Images.{IsDurable}
use Rattle.vol_disk.specs.Steps.{written, Torn}
use Rattle.vol_disk.specs.Clock.{IsClocked}
use Rattle.vol_disk.specs.Moments.{Elsewhere}
use Rattle.vol_disk.specs.Synced.{DoesSynced}
use Rattle.vol_disk.proofs.Moments.{started, joined, widened, rests_on}
use Rattle.js_base.specs.Bytes.{Bytes}
use Rattle.gate_log.specs.Batches.{end_of}
use Rattle.gate_log.specs.LogFile.{Spells, IsLog}
use Rattle.gate_log.specs.LogState.{LogState, with_batch}
use Rattle.gate_log.specs.Settled.{IsSettled}
use Rattle.gate_log.specs.Staging.{behind_gate, StagesTo}
use Rattle.gate_log.specs.Appending.{IsWithOrWithout, AppendsTo, IsAppended}
use Rattle.gate_log.proofs.Spelling.{end_of-push}
use Rattle.gate_log.proofs.Crash.{torn_behind, written_behind, torn_gate, written_gate}
use Rattle.gate_log.proofs.Walks.{first_more}
use Rattle.gate_log.proofs.Openings.{settled_log}

-- what holds of a generation, if there is one
of_head : (h : Option ℕ) (P : ℕ → Type 0) → ((g : ℕ) → h ≡ Some g → P g) → IfSome h P
of_head None P f = tt
of_head (Some g) P f = f g refl

at_head : (h : Option ℕ) (P : ℕ → Type 0) (g : ℕ) → h ≡ Some g → IfSome h P → P g
at_head h P g is all = subst (λ (o : Option ℕ). IfSome o P) is all

some_head : (h : Option ℕ) → IsSome h → (g : ℕ) × (h ≡ Some g)
some_head None is = absurd (false≢true is)
some_head (Some g) is = (g, refl)

abbrev HasBatches : LogState → List Bytes → Bytes → Disk → Files → Type 0
HasBatches log batches records old image =
    IfSome log.head (λ generation. IsWithOrWithout generation batches records (image log.file)) × Elsewhere log.file old image

module _ (log : LogState) (records : Bytes) (old : Disk) (clocked : IsClocked old) where
  -- no call was made
  pub at_rest : AppendsTo log records old old
  at_rest batches settled = record {
    elsewhere = λ other ne. record { seen = refl; leaves = λ c left. left };
    any_moment = started old (HasBatches log batches records old) clocked (λ image left. (
      of_head log.head (λ g. IsWithOrWithout g batches records (image log.file)) (λ g is. inl (subst (λ (l : Bytes). IsLog g batches l) (sym (settled.durable (image log.file) (left.left log.file))) (at_head log.head (λ generation. IsLog generation batches (old.seen log.file)) g is settled.head))),
      λ other ne. left.left other,
    ));
  }

  -- a write behind the gate
  pub staging : (at n : ℕ) (mid : Disk) → at ≡ log.end + 1 → DoesSynced log.file (Torn at n) old mid → AppendsTo log records old mid
  staging at n mid is does batches settled = record {
    elsewhere = does.elsewhere;
    any_moment = widened old mid (HasBatches log batches records old) _ does.any_moment (λ image left. (
      of_head log.head (λ g. IsWithOrWithout g batches records (image log.file)) (λ g head_is. inl (
          kept (image log.file) g (at_head log.head (λ generation. IsLog generation batches (old.seen log.file)) g head_is settled.head)
          (subst (λ k. Torn k n (old.seen log.file) (image log.file)) (is ∙ ap (λ (e : ℕ). e + 1) settled.end) left.0))),
      left.1,
    ));
  }
    where
      kept : (c : Bytes) (g : ℕ) → IsLog g batches (old.seen log.file) → Torn (end_of batches + 1) n (old.seen log.file) c → IsLog g batches c
      kept c g is_log torn = record {
        gate = is_log.gate;
        rest = drop (end_of batches + 1) c;
        spells = torn_behind (old.seen log.file) g batches is_log.gate is_log.rest is_log.spells n c torn;
        closed = is_log.closed;
      }

  pub staged : (at : ℕ) (w : Bytes) (mid : Disk) → at ≡ log.end + 1 → w ≡ behind_gate records → mid.seen log.file ≡ written at w (old.seen log.file) → IsDurable mid log.file → StagesTo log records old mid
  staged at w mid is w_is holds durable batches settled = record {
    tail = drop (end_of batches + 1 + length (behind_gate records)) (old.seen log.file);
    file = of_head log.head (λ g. (gate : ℕ) × Spells (mid.seen log.file) g batches gate (behind_gate records ++ drop (end_of batches + 1 + length (behind_gate records)) (old.seen log.file))) (λ g head_is.
        let was = at_head log.head (λ generation. IsLog generation batches (old.seen log.file)) g head_is settled.head in (
          was.gate,
          written_behind (old.seen log.file) g batches was.gate was.rest was.spells (behind_gate records) (mid.seen log.file) there,
        ));
    durable = durable;
  }
    where
      there : mid.seen log.file ≡ written (end_of batches + 1) (behind_gate records) (old.seen log.file)
      there = holds ∙ ap (λ (k : ℕ). written k w (old.seen log.file)) (is ∙ ap (λ (e : ℕ). e + 1) settled.end) ∙ ap (λ (l : Bytes). written (end_of batches + 1) l (old.seen log.file)) w_is

  -- the write of the gate
  pub opening : (mid new : Disk) → length records < 2 ^ 32 → AppendsTo log records old mid → StagesTo log records old mid → DoesSynced log.file (Torn log.end 1) mid new → AppendsTo log records old new
  opening mid new one so_far stages does batches settled =
      let first = so_far batches settled in
      let stage = stages batches settled in
      record {
        elsewhere = λ other ne. rests_on other old mid new (first.elsewhere other ne) (does.elsewhere other ne);
        any_moment = joined old mid new (HasBatches log batches records old) _ first.any_moment does.any_moment (λ image left. (
          of_head log.head (λ g. IsWithOrWithout g batches records (image log.file)) (λ g head_is.
              let there = at_head log.head (λ generation. (gate : ℕ) × Spells (mid.seen log.file) generation batches gate (behind_gate records ++ stage.tail)) g head_is stage.file in
              torn_gate (mid.seen log.file) g batches there.0 (behind_gate records ++ stage.tail) there.1 records stage.tail (image log.file) one refl (subst (λ k. Torn k 1 (mid.seen log.file) (image log.file)) settled.end left.0)),
          λ other ne. (first.elsewhere other ne).leaves (image other) (left.1 other ne),
        ));
      }

  pub done : (mid new : Disk) (after : LogState) → length records < 2 ^ 32 → IsSome log.head → StagesTo log records old mid → new.seen log.file ≡ written log.end (1 ∷ []) (mid.seen log.file) → IsDurable new log.file →
      after ≡ with_batch log (length records) → IsAppended log after records old new
  done mid new after one some stages holds durable after_is batches settled =
      let g = some_head log.head some in
      let stage = stages batches settled in
      let there = at_head log.head (λ generation. (gate : ℕ) × Spells (mid.seen log.file) generation batches gate (behind_gate records ++ stage.tail)) g.0 g.1 stage.file in
      let is_log = written_gate (mid.seen log.file) g.0 batches there.0 (behind_gate records ++ stage.tail) there.1 records stage.tail (new.seen log.file) one refl (holds ∙ ap (λ (k : ℕ). written k (1 ∷ []) (mid.seen log.file)) settled.end) in
      let end_is : log.end + 9 + length records ≡ end_of (batches ++ records ∷ []) = omega (arith, settled.end, end_of-push batches records) in
      let now = settled_log (with_batch log (length records)) g.0 (batches ++ records ∷ []) new g.1 (first_more log.first_end log.end (log.end + 9 + length records) batches records settled.first_end settled.end end_is) end_is durable is_log in
      subst (λ (l : LogState). IsSettled l (batches ++ records ∷ []) new) (sym after_is) now
