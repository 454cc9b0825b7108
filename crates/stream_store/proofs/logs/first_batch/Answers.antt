use Rattle.std.proofs.Common.{◌≡◌, ◌∙◌, ◌++◌, List, ℕ, arith, ap}
use Rattle.op_records.specs.Spelling.{spelled_vacant}
use Rattle.stream_store.proofs.Beginning.{vacant_length}
use Rattle.stream_store.proofs.logs.first_batch.Goals as goal

pub of-requires : goal.of-requires
of-requires c =
    let are : c.as_slice-bytes.result.now ≡ spelled_vacant 0 = c.as_slice-bytes.ensures.value ∙ c.in_ok-write_vacant.ensures.ok ∙ ap (λ (l : List ℕ). l ++ spelled_vacant 0) c.new-records.ensures.items in
    let nine = vacant_length c.as_slice-bytes.result.now are in
    record { short = omega (arith, nine) }
