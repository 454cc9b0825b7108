use Rattle.std.proofs.Common.{Option, ℕ, sym, subst, ◌∙◌}
use Rattle.std.proofs.lemmas.Bool.{true≢false}
use Rattle.std.proofs.lemmas.Result.{err_from_is_err_and}
use Rattle.log_records.specs.Reading.{AreRead}
use Rattle.log_records.specs.Holding.{made_in}
use Rattle.log_records.proofs.Adding.{added, stays_storable, unstorable}
use Rattle.log_records.proofs.batch.add_batch.Goals as goal

pub returns-in_err-made-clause-fault : goal.returns-in_err-made-clause-fault
returns-in_err-made-clause-fault c =
    let p = err_from_is_err_and c.from_residual.result c.from_residual.ensures.1 in
    rw (p.1, p.2) c.in_err-made.ensures.fault

pub returns-then-storable-clause-added : goal.returns-then-storable-clause-added
returns-then-storable-clause-added c =
    added (made_in c.args.old) c.args.records.now (made_in c.in_ok-made.made) (made_in c.closed.result) c.in_ok-made.last c.in_ok-made.ensures.read c.closed.ensures.value (c.in_ok-storable.ensures.value.0 c.if-storable.true)

pub returns-in-Some-clause-fault : goal.returns-in-Some-clause-fault
returns-in-Some-clause-fault c =
    unstorable (made_in c.args.old) c.args.records.now (made_in c.in_ok-made.made) c.in-Some.at
    (subst (λ (last : Option ℕ). AreRead (made_in c.args.old) c.args.records.now (made_in c.in_ok-made.made) last) c.in-Some.is c.in_ok-made.ensures.read)
    (λ storable. true≢false (sym (c.in_ok-storable.ensures.value.1 storable) ∙ c.if-storable.false))

pub returns-in-None-clause-added : goal.returns-in-None-clause-added
returns-in-None-clause-added c =
    let read = subst (λ (last : Option ℕ). AreRead (made_in c.args.old) c.args.records.now (made_in c.in_ok-made.made) last) c.in-None.is c.in_ok-made.ensures.read in
    added (made_in c.args.old) c.args.records.now (made_in c.in_ok-made.made) (made_in c.closed-in-None.result) _ read c.closed-in-None.ensures.value (stays_storable (made_in c.args.old) c.args.records.now (made_in c.in_ok-made.made) read c.requires.storable)
