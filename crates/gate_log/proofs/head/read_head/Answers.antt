use Rattle.std.proofs.Common.{◌∙◌, inl, inr, ap, refl, sym, Option, ℕ}
use Rattle.std.specs.Prelude.{unwrap_or}
use Rattle.gate_log.proofs.Heads.{head_of_parts, is_bad_checksum, is_bad_generation, marked_by, shut_of_parts}
use Rattle.gate_log.proofs.head.read_head.Goals as goal

pub returns-then-gate-ne-OPEN-clause-ok : goal.returns-then-gate-ne-OPEN-clause-ok
returns-then-gate-ne-OPEN-clause-ok c =
    shut_of_parts c.args.bytes.now c.unwrap_or-version.result 0 0 c.told-bytes c.fits-bytes (marked_by c.args.bytes.now c.starts_with.result c.starts_with.ensures.value c.if-not-starts_with.false)
    (c.unwrap_or-version.ensures ∙ ap (λ (o : Option ℕ). unwrap_or o 0) c.get_u16.ensures) c.if-version-ne-VERSION.false c.if-gate-ne-OPEN.true

pub returns-then-generation-clause-err : goal.returns-then-generation-clause-err
returns-then-generation-clause-err c =
    inr (inl (
      refl,
      is_bad_generation c.args.bytes.now c.unwrap_or-version.result c.unwrap_or-generation.result 0 c.told-bytes c.fits-bytes c.if-gate-ne-OPEN.false
          (marked_by c.args.bytes.now c.starts_with.result c.starts_with.ensures.value c.if-not-starts_with.false)
          (c.unwrap_or-version.ensures ∙ ap (λ (o : Option ℕ). unwrap_or o 0) c.get_u16.ensures) c.if-version-ne-VERSION.false
          (c.unwrap_or-generation.ensures ∙ ap (λ (o : Option ℕ). unwrap_or o 0) c.get_u64.ensures) c.if-generation.true,
    ))

pub returns-then-sum-crc32c-clause-err : goal.returns-then-sum-crc32c-clause-err
returns-then-sum-crc32c-clause-err c =
    inr (inr (
      refl,
      is_bad_checksum c.args.bytes.now c.unwrap_or-version.result c.unwrap_or-generation.result c.unwrap_or-sum.result c.told-bytes c.fits-bytes c.if-gate-ne-OPEN.false
          (marked_by c.args.bytes.now c.starts_with.result c.starts_with.ensures.value c.if-not-starts_with.false)
          (c.unwrap_or-version.ensures ∙ ap (λ (o : Option ℕ). unwrap_or o 0) c.get_u16.ensures) c.if-version-ne-VERSION.false
          (c.unwrap_or-generation.ensures ∙ ap (λ (o : Option ℕ). unwrap_or o 0) c.get_u64.ensures) c.if-generation.false
          (c.unwrap_or-sum.ensures ∙ ap (λ (o : Option ℕ). unwrap_or o 0) c.get_u32.ensures) (λ is. c.if-sum-crc32c.true (is ∙ sym c.crc32c.ensures.value)),
    ))

pub returns-clause-ok : goal.returns-clause-ok
returns-clause-ok c = (
  c.if-gate-ne-OPEN.false,
  head_of_parts c.args.bytes.now c.unwrap_or-version.result c.unwrap_or-generation.result c.unwrap_or-sum.result c.told-bytes c.fits-bytes
      (marked_by c.args.bytes.now c.starts_with.result c.starts_with.ensures.value c.if-not-starts_with.false)
      (c.unwrap_or-version.ensures ∙ ap (λ (o : Option ℕ). unwrap_or o 0) c.get_u16.ensures) c.if-version-ne-VERSION.false
      (c.unwrap_or-generation.ensures ∙ ap (λ (o : Option ℕ). unwrap_or o 0) c.get_u64.ensures)
      (c.unwrap_or-sum.ensures ∙ ap (λ (o : Option ℕ). unwrap_or o 0) c.get_u32.ensures) (c.if-sum-crc32c.false ∙ c.crc32c.ensures.value),
  c.if-generation.false,
)
