use Rattle.std.proofs.Common.{Some, sym, ap}
use Rattle.std.proofs.lemmas.Result.{err_from_is_err_and}
use Rattle.op_records.specs.declared.record.Record.TheVariants.{Change}
use Rattle.log_records.specs.Holding.{made_in}
use Rattle.log_records.proofs.Keeping.{recorded}
use Rattle.log_records.proofs.Making.{taken, durable_fault}
use Rattle.log_records.proofs.made.Made.change.Goals as goal

pub fold-requires : goal.fold-requires
fold-requires c = record { formed = c.requires.sound.logged.formed; sound = c.requires.sound.replay; allowed = recorded (Change c.args.effect) c.requires.allowed }

pub returns-in_err-held-clause-fault : goal.returns-in_err-held-clause-fault
returns-in_err-held-clause-fault c =
    let p = err_from_is_err_and c.from_residual.result c.from_residual.ensures.1 in
    rw (p.1, p.2) (durable_fault (made_in c.args.self) (Change c.args.effect) c.in_err-held.field-0.0 c.in_err-held.ensures.err)

pub returns-clause-taken : goal.returns-clause-taken
returns-clause-taken c =
    taken c.args.self (Change c.args.effect) c.in_ok-held.held c.change_table.new.table c.requires.sound c.requires.allowed
    (record { durable = c.in_ok-held.ensures.ok; blocks = ap Some (sym c.change_table.ensures.value) }) c.in_ok-held.ensures.sound
