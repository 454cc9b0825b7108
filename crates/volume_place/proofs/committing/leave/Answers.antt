use Rattle.std.proofs.Common.{Some, Err, ap, subst, sym, ◌∙◌}
use Rattle.std.proofs.lemmas.Result.{err_from_is_err_and}
use Rattle.effects.specs.Durables.{durable_of}
use Rattle.effects.specs.declared.durable.Durable.{Durable}
use Rattle.durable_checks.specs.Storable.{IsFormed, IsStorable}
use Rattle.stream_store.specs.Alternating.{IsWithinBound}
use Rattle.stream_store.specs.Committing.{IsNextBatch}
use Rattle.stream_store.specs.declared.fault.CommitFault.{CommitFault}
use Rattle.stream_store.specs.declared.fault.CommitFault.TheVariants.{Fault, NoMemory, Worn}
use Rattle.volume_place.proofs.Committed.{goes_over, not_done, not_last, not_memory, not_worn, starves, starves_as, wears}
use Rattle.volume_place.proofs.committing.leave.Goals as goal

pub returns-then-generation-eq-LAST_GENERATION-clause-commits : goal.returns-then-generation-eq-LAST_GENERATION-clause-commits
returns-then-generation-eq-LAST_GENERATION-clause-commits g c =
    let V = g.V.Vol in
    wears V.told V.disk V.faults V.refusals c.args.records.now c.args.bound (durable_of c.args.slot.now) c.args.store.now c.args.vol.now (g.met.V.Vol.clocked c.args.vol.now)
    (record { left = c.requires.left; last = c.generation.ensures.value ∙ ap Some c.if-generation-eq-LAST_GENERATION.true })

pub returns-in_err-next-clause-commits : goal.returns-in_err-next-clause-commits
returns-in_err-next-clause-commits g c =
    let V = g.V.Vol in
    let p = err_from_is_err_and c.from_residual.result c.from_residual.ensures.1 in
    rw (p.1, p.2)
    (starves V.told V.disk V.faults V.refusals c.args.records.now c.args.bound (durable_of c.args.slot.now) c.args.store.now c.args.vol.now (g.met.V.Vol.clocked c.args.vol.now))

pub returns-in_err-next-clause-worn : goal.returns-in_err-next-clause-worn
returns-in_err-next-clause-worn g c =
    λ last. absurd (not_last c.args.store.now c.args.records.now c.args.bound c.generation.result c.generation.ensures.value c.if-generation-eq-LAST_GENERATION.false last)

pub alternate-requires : goal.alternate-requires
alternate-requires g c =
    let same = sym c.in_ok-next.ensures.value in
    record {
      records = c.requires.records;
      room = c.requires.room;
      formed = subst IsFormed same c.requires.formed;
      storable = subst IsStorable same c.requires.storable;
      within = subst (λ (d : Durable). IsWithinBound d c.args.bound) same c.requires.within;
      reserved = c.requires.reserved;
      message_room = c.requires.message_room;
      fits = λ told. let f = c.requires.fits told in (f.0, f.1, subst (λ (d : Durable). IsNextBatch f.0 c.args.records.now d) same f.2);
    }

pub returns-in-Ok-clause-commits : goal.returns-in-Ok-clause-commits
returns-in-Ok-clause-commits g c = record {
  committed = c.in-Ok.ensures.committed;
  goes =
      goes_over c.args.store.now c.args.records.now c.args.bound (durable_of c.args.slot.now) c.in_ok-next.next c.alternate.new.self.log c.requires.left c.in_ok-next.ensures.value
      c.in-Ok.ensures.log;
  fewer = c.in-Ok.ensures.fewer;
  reserved = c.in-Ok.ensures.reserved;
  any_moment = c.alternate.ensures.any_moment;
  generations = c.alternate.ensures.generation;
  worn = λ is. absurd (not_done tt Worn is);
  last = λ last. absurd (not_last c.args.store.now c.args.records.now c.args.bound c.generation.result c.generation.ensures.value c.if-generation-eq-LAST_GENERATION.false last);
  worn_leaves = λ is. absurd (not_done tt Worn is);
  no_memory = λ is. absurd (not_done tt NoMemory is);
  cause = record { later = c.alternate.ensures.cause.later; failed = λ is. absurd (not_done tt Fault is) };
  refusals_later = c.alternate.ensures.refusals;
  later = c.alternate.ensures.later;
}

pub returns-in-Ok-clause-worn : goal.returns-in-Ok-clause-worn
returns-in-Ok-clause-worn g c =
    λ last. absurd (not_last c.args.store.now c.args.records.now c.args.bound c.generation.result c.generation.ensures.value c.if-generation-eq-LAST_GENERATION.false last)

pub returns-in-Err-Fault-clause-commits : goal.returns-in-Err-Fault-clause-commits
returns-in-Err-Fault-clause-commits g c =
    let is = ap (λ (f : CommitFault). Err f) c.in-Err-Fault.field-0-is in
    record {
      committed = λ told. tt;
      goes = tt;
      fewer = tt;
      reserved = tt;
      any_moment = c.alternate.ensures.any_moment;
      generations = c.alternate.ensures.generation;
      worn = λ other. absurd (not_worn other);
      last = λ last. absurd (not_last c.args.store.now c.args.records.now c.args.bound c.generation.result c.generation.ensures.value c.if-generation-eq-LAST_GENERATION.false last);
      worn_leaves = λ other. absurd (not_worn other);
      no_memory = λ other. absurd (not_memory other);
      cause = record { later = c.alternate.ensures.cause.later; failed = λ same. c.in-Err-Fault.ensures.cause.failed is };
      refusals_later = c.alternate.ensures.refusals;
      later = c.alternate.ensures.later;
    }

pub returns-in-Err-Fault-clause-worn : goal.returns-in-Err-Fault-clause-worn
returns-in-Err-Fault-clause-worn g c =
    λ last. absurd (not_last c.args.store.now c.args.records.now c.args.bound c.generation.result c.generation.ensures.value c.if-generation-eq-LAST_GENERATION.false last)

pub returns-in-Err-Worn-clause-commits : goal.returns-in-Err-Worn-clause-commits
returns-in-Err-Worn-clause-commits g c =
    let V = g.V.Vol in
    let left = c.in-Err-Worn.ensures.worn_leaves (ap (λ (f : CommitFault). Err f) c.in-Err-Worn.field-0-is) in
    starves_as V.told V.disk V.faults V.refusals c.args.records.now c.args.bound (durable_of c.args.slot.now) c.args.store.now c.args.vol.now (g.met.V.Vol.clocked c.args.vol.now)
    c.alternate.new.self c.alternate.new.vol left.0 left.1

pub returns-in-Err-Worn-clause-worn : goal.returns-in-Err-Worn-clause-worn
returns-in-Err-Worn-clause-worn g c =
    λ last. absurd (not_last c.args.store.now c.args.records.now c.args.bound c.generation.result c.generation.ensures.value c.if-generation-eq-LAST_GENERATION.false last)

pub returns-clause-commits : goal.returns-clause-commits
returns-clause-commits g c =
    let V = g.V.Vol in
    let left = c.in-Err-NoMemory.ensures.no_memory (ap (λ (f : CommitFault). Err f) c.in-Err-NoMemory.field-0-is) in
    starves_as V.told V.disk V.faults V.refusals c.args.records.now c.args.bound (durable_of c.args.slot.now) c.args.store.now c.args.vol.now (g.met.V.Vol.clocked c.args.vol.now)
    c.alternate.new.self c.alternate.new.vol left.0 left.1

pub returns-clause-worn : goal.returns-clause-worn
returns-clause-worn g c =
    λ last. absurd (not_last c.args.store.now c.args.records.now c.args.bound c.generation.result c.generation.ensures.value c.if-generation-eq-LAST_GENERATION.false last)
