use Rattle.std.proofs.Common.{◌≡◌, Some, Err, IsTrue, sym, subst}
use Rattle.std.proofs.lemmas.Result.{err_from_is_err_and}
use Rattle.effects.specs.declared.effect.Effect.{Effect}
use Rattle.effects.specs.Folding.{fold}
use Rattle.op_records.specs.Allowed.{is_record}
use Rattle.op_records.specs.declared.record.Record.TheVariants.{Put}
use Rattle.block_table.specs.declared.fault.PutFault.{PutFault}
use Rattle.record_fold.specs.Faults.{IsFoldFault}
use Rattle.log_records.specs.Holding.{held_in, made_in}
use Rattle.log_records.proofs.Keeping.{recorded}
use Rattle.log_records.proofs.Making.{taken, durable_fault, spot_fault}
use Rattle.log_records.proofs.made.Made.put.Goals as goal

pub unread_put-requires : goal.unread_put-requires
unread_put-requires c = record { subject = c.requires.sound.subject }

pub returns-in_err-effect-clause-fault : goal.returns-in_err-effect-clause-fault
returns-in_err-effect-clause-fault c = let p = err_from_is_err_and c.from_residual.result c.from_residual.ensures.1 in rw (p.1, p.2) tt

pub fold-requires : goal.fold-requires
fold-requires c = record {
  formed = c.requires.sound.logged.formed;
  sound = c.requires.sound.replay;
  allowed = subst (λ (e : Effect). IsTrue (is_record e)) (sym c.in_ok-effect.ensures.value) (recorded (Put c.args.seq c.args.at c.args.id c.args.spot) c.requires.allowed);
}

pub returns-in_err-held-clause-fault : goal.returns-in_err-held-clause-fault
returns-in_err-held-clause-fault c =
    let p = err_from_is_err_and c.from_residual-in_err-held.result c.from_residual-in_err-held.ensures.1 in
    let fault = c.in_err-held.field-0.0 in
    let unfit = subst (λ (e : Effect). IsFoldFault (held_in c.args.self.held) e fault) c.in_ok-effect.ensures.value c.in_err-held.ensures.err in
    rw (p.1, p.2) (durable_fault (made_in c.args.self) (Put c.args.seq c.args.at c.args.id c.args.spot) fault unfit)

pub returns-in-Ok-clause-taken : goal.returns-in-Ok-clause-taken
returns-in-Ok-clause-taken c =
    let made = subst (λ (e : Effect). fold (held_in c.args.self.held) e ≡ Some (held_in c.in_ok-held.held)) c.in_ok-effect.ensures.value c.in_ok-held.ensures.ok in
    taken c.args.self (Put c.args.seq c.args.at c.args.id c.args.spot) c.in_ok-held.held c.put.new.self c.requires.sound c.requires.allowed
    (record { durable = made; blocks = c.in-Ok.ensures.ok }) c.in_ok-held.ensures.sound

pub wrong_field-field-requires : goal.wrong_field-field-requires
wrong_field-field-requires c = record { bound = rw c.len-id_len.ensures.value c.len-id_len.ensures.bound }

pub returns-in-Err-Misfit-clause-fault : goal.returns-in-Err-Misfit-clause-fault
returns-in-Err-Misfit-clause-fault c =
    let made = subst (λ (e : Effect). fold (held_in c.args.self.held) e ≡ Some (held_in c.in_ok-held.held)) c.in_ok-effect.ensures.value c.in_ok-held.ensures.ok in
    let refused = subst (λ (fault : PutFault). c.put.result ≡ Err fault) c.in-Err-Misfit.field-0-is c.in-Err-Misfit.is in
    spot_fault (made_in c.args.self) c.args.seq c.args.at c.args.id c.args.spot (held_in c.in_ok-held.held) c.wrong_field-field.result c.len-id_len.result c.put.new.self made (c.put.ensures.misfit.0 refused)
    c.len-id_len.ensures.value c.in-Err-Misfit.ensures.err c.wrong_field-field.ensures
