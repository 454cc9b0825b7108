use Rattle.std.proofs.Common.{subst, sym}
use Rattle.std.proofs.lemmas.Result.{err_from_is_err_and}
use Rattle.durable_checks.specs.Storable.{IsFormed}
use Rattle.log_records.proofs.Forming.{replayed}
use Rattle.log_records.proofs.held.replayed.Goals as goal

pub returns-in_err-durable-clause-err : goal.returns-in_err-durable-clause-err
returns-in_err-durable-clause-err c = let p = err_from_is_err_and c.from_residual.result c.from_residual.ensures.1 in rw (p.1, p.2) tt

pub folded-requires : goal.folded-requires
folded-requires c = record { formed = subst IsFormed (sym c.in_ok-durable.ensures.value) c.requires.formed; allowed = c.requires.allowed }

pub returns-then-not-takes-clause-ok : goal.returns-then-not-takes-clause-ok
returns-then-not-takes-clause-ok c = rw (← c.in_ok-durable.ensures.value) c.folded.ensures.ok

pub returns-then-not-takes-clause-err : goal.returns-then-not-takes-clause-err
returns-then-not-takes-clause-err c = rw (← c.in_ok-durable.ensures.value) c.folded.ensures.err

pub make-requires : goal.make-requires
make-requires c = record { given = replayed c.args.effect c.requires.allowed; storable = c.requires.storable; taken = c.if-not-takes.ensures.taken }

pub returns-in_err-make-clause-err : goal.returns-in_err-make-clause-err
returns-in_err-make-clause-err c = let p = err_from_is_err_and c.from_residual-in_err-make.result c.from_residual-in_err-make.ensures.1 in rw (p.1, p.2) tt
