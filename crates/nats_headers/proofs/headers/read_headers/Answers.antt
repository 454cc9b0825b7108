use Rattle.std.proofs.Common.{◌≡◌, true, refl, sym, subst, ◌∙◌, ap, Ok, IsOk, List, ℕ, None}
use Rattle.js_base.specs.Headers.{is_block}
use Rattle.nats_headers.specs.Reading.{block_fault}
use Rattle.nats_headers.proofs.Faults.{reads_fault, tested}
use Rattle.nats_headers.proofs.Told.{blocks, reading_of, answers_block, answers_fault}
use Rattle.nats_headers.proofs.headers.read_headers.Goals as goal

pub returns-in-Some : goal.returns-in-Some
returns-in-Some c =
    let told = sym c.in-Some.ensures.value in
    record { reading = reads_fault c.in-Some.fault c.args.block.now told; grammar = answers_fault c.in-Some.fault c.args.block.now told; accepted = tt }

pub returns-in-Ok : goal.returns-in-Ok
returns-in-Ok c =
    let none : block_fault c.args.block.now ≡ None = sym c.in_default.ensures.value in
    record {
      reading = reading_of c.args.block.now none ∙ ap Ok (sym c.in-Ok.ensures);
      grammar = answers_block c.in-Ok.block c.args.block.now none c.in-Ok.ensures;
      accepted = tested c.args.block.now none;
    }

pub returns-in-Err : goal.returns-in-Err
returns-in-Err c =
    let none : block_fault c.args.block.now ≡ None = sym c.in_default.ensures.value in
    record { reading = subst IsOk (sym (reading_of c.args.block.now none)) refl; grammar = (blocks c.args.block.now).0 none; accepted = tt }

pub invariant_of-result : goal.invariant_of-result
invariant_of-result c =
    subst (λ (b : List ℕ). is_block b ≡ true) (sym c.in-Ok.ensures) (tested c.args.block.now (sym c.in_default.ensures.value))
