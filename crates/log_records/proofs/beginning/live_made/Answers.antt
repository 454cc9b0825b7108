use Rattle.std.proofs.Common.{◌≡◌, refl, sym, subst}
use Rattle.std.proofs.lemmas.Bool.{true≢false}
use Rattle.model_laws.specs.Sound.{AreOrdered}
use Rattle.effects.specs.declared.durable.Body.{Body}
use Rattle.effects.specs.Folding.{live}
use Rattle.block_table.specs.Blocks.{Blocks}
use Rattle.durable_checks.specs.Storable.{IsFormedBody, IsStorable}
use Rattle.log_records.specs.Beginnings.{blocks_told, body_told}
use Rattle.log_records.specs.Holding.{IsHeldOf}
use Rattle.log_records.proofs.Begun.{made_sound, none_there, some_there, told_formed, told_there}
use Rattle.log_records.proofs.beginning.live_made.Goals as goal

pub parts_of-requires : goal.parts_of-requires
parts_of-requires c = record { subject = c.in_ok-subject.ensures }

pub returns-in_default-clause-can : goal.returns-in_default-clause-can
returns-in_default-clause-can c = (λ e. absurd (true≢false (sym e)), λ k. absurd (none_there c.in_default.is c.in_ok-body.ensures.table (λ t. t) k.table))

pub held_of-requires : goal.held_of-requires
held_of-requires c =
    let told = c.args.told in
    let body = told_there (λ (r : Body × Blocks). r.0 ≡ body_told told) c.in-Some.is c.in_ok-body.ensures.body in
    record { formed = subst (λ (b : Body). AreOrdered b.consumers → IsFormedBody b) (sym body) (told_formed told c.requires.allowed) }

pub returns-in_default-2-clause-can : goal.returns-in_default-2-clause-can
returns-in_default-2-clause-can c =
    let told = c.args.told in
    let i = c.args.incarnation in
    let body = told_there (λ (r : Body × Blocks). r.0 ≡ body_told told) c.in-Some.is c.in_ok-body.ensures.body in (
      λ e. absurd (true≢false (sym e)),
      λ k. absurd (none_there c.in_default-2.is c.in_ok-held.ensures.storable (subst (λ (b : Body). IsStorable (live i b)) (sym body)) k.storable),
    )

pub returns-clause-value : goal.returns-clause-value
returns-clause-value c =
    let told = c.args.told in
    let i = c.args.incarnation in
    let body = told_there (λ (r : Body × Blocks). r.0 ≡ body_told told) c.in-Some.is c.in_ok-body.ensures.body in
    let blocks = told_there (λ (r : Body × Blocks). r.1 ≡ blocks_told told) c.in-Some.is c.in_ok-body.ensures.blocks in
    let held = told_there (IsHeldOf (live i c.in-Some.body)) c.in-Some-2.is c.in_ok-held.ensures.value in
    let storable = some_there c.in-Some-2.is c.in_ok-held.ensures.storable in
    made_sound i told c.in-Some-2.held c.in-Some.table c.in_ok-subject.subject c.requires.allowed (subst (λ (b : Body). IsHeldOf (live i b) c.in-Some-2.held) body held) (subst (λ (b : Body). IsStorable (live i b)) body storable) blocks
    c.in_ok-subject.ensures

pub returns-clause-can : goal.returns-clause-can
returns-clause-can c =
    let told = c.args.told in
    let i = c.args.incarnation in
    let body = told_there (λ (r : Body × Blocks). r.0 ≡ body_told told) c.in-Some.is c.in_ok-body.ensures.body in
    let table = some_there c.in-Some.is c.in_ok-body.ensures.table in
    let storable = some_there c.in-Some-2.is c.in_ok-held.ensures.storable in
    (λ e. record { table = table; storable = subst (λ (b : Body). IsStorable (live i b)) body storable }, λ k. refl)
