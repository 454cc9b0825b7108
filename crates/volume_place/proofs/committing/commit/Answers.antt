use Rattle.std.proofs.Common.{◌≡◌, Bool, ℕ, List, subst, sym, ◌∙◌}
use Rattle.std.specs.Prelude.{IsTrue, MatchBool, unwrap_or}
use Rattle.std.specs.List.{list_all}
use Rattle.std.proofs.Math.Nat.{le_refl}
use Rattle.std.proofs.lemmas.Result.{err_from_is_err_and, on_ok_weaker}
use Rattle.effects.specs.Durables.{durable_of}
use Rattle.effects.specs.declared.effect.Effect.{Effect}
use Rattle.op_records.specs.Allowed.{is_record}
use Rattle.stream_store.specs.Committing.{IsNextBatch, batch_length}
use Rattle.stream_store.specs.Placing.{can_place}
use Rattle.stream_store.specs.Reserving.{HasMessageRoom}
use Rattle.stream_store.specs.Rooms.{HasLogRoom}
use Rattle.volume_place.specs.Leaving.{IsLeft, IsLeftBy}
use Rattle.volume_place.proofs.Asked.{reserved_more}
use Rattle.volume_place.proofs.Committed.{commits_as, goes_on, starves}
use Rattle.volume_place.proofs.committing.commit.Goals as goal

-- so many bytes are those of the records
by_length : (count : ℕ) (rs given : List Effect) → count ≡ batch_length given → rs ≡ given → count ≡ batch_length rs
by_length count rs given is are = subst (λ (l : List Effect). count ≡ batch_length l) (sym are) is

pub returns-in_err-count-clause-commits : goal.returns-in_err-count-clause-commits
returns-in_err-count-clause-commits g c =
    let V = g.V.Vol in
    let p = err_from_is_err_and c.from_residual.result c.from_residual.ensures.1 in
    rw (p.1, p.2)
    (starves V.told V.disk V.faults V.refusals c.args.tail.now c.args.bound (durable_of c.args.slot.now) c.args.store.now c.args.vol.now (g.met.V.Vol.clocked c.args.vol.now))

pub commit-requires : goal.commit-requires
commit-requires g c =
    let store = c.args.store.now in
    let rs = c.records-records.result.now in
    let are : rs ≡ c.args.tail.now = c.records-records.ensures.value ∙ c.in_ok-count.ensures.same in
    let count = by_length c.in_ok-count.count rs c.args.tail.now c.in_ok-count.ensures.value are in
    record {
      records = subst (λ (l : List Effect). IsTrue (list_all is_record l)) (sym are) c.requires.records;
      room = subst (λ (l : List Effect). IsTrue (can_place store.blocks l)) (sym are) c.requires.room;
      log_room = subst (HasLogRoom store.log store.rooms) count (c.goes_on.ensures.room c.if-goes_on.true);
      message_room = λ told. subst (λ (l : List Effect). HasMessageRoom store.blocks l (g.V.Vol.disk c.args.vol.now)) (sym are) (c.requires.message_room told);
      fits = λ told.
          let f = c.requires.fits told in
          (f.0, durable_of c.args.slot.now, f.1, subst (λ (l : List Effect). IsNextBatch f.0 l (durable_of c.args.slot.now)) (sym are) f.2);
    }

pub returns-then-goes_on-clause-commits : goal.returns-then-goes_on-clause-commits
returns-then-goes_on-clause-commits g c =
    let V = g.V.Vol in
    let store = c.args.store.now in
    let next = durable_of c.args.slot.now in
    let bound = c.args.bound in
    let rs = c.records-records.result.now in
    let are : rs ≡ c.args.tail.now = c.records-records.ensures.value ∙ c.in_ok-count.ensures.same in
    let count = by_length c.in_ok-count.count rs c.args.tail.now c.in_ok-count.ensures.value are in
    let told = subst (λ (b : Bool). MatchBool b (¬ IsLeftBy store c.in_ok-count.count bound) (IsLeftBy store c.in_ok-count.count bound)) c.if-goes_on.true c.goes_on.ensures.value in
    let stays : ¬ IsLeft store rs bound = subst (λ (n : ℕ). ¬ IsLeftBy store n bound) count told in
    commits_as V.told V.disk V.faults V.refusals rs bound next store c.args.vol.now c.args.tail.now c.commit.result c.commit.new.self c.commit.new.vol are
    (record {
      committed = c.commit.ensures.committed;
      goes = on_ok_weaker c.commit.result (goes_on store rs bound stays next c.commit.new.self.log) c.commit.ensures.log;
      fewer = c.commit.ensures.fewer;
      reserved = on_ok_weaker c.commit.result (λ more. reserved_more store.rooms c.commit.new.self.rooms bound more c.requires.reserved) c.commit.ensures.more;
      any_moment = c.commit.ensures.any_moment;
      generations = rw c.commit.ensures.head (le_refl (unwrap_or store.log.head 0));
      worn = λ is. absurd (c.commit.ensures.worn is);
      last = λ last. absurd (stays last.left);
      worn_leaves = λ is. absurd (c.commit.ensures.worn is);
      no_memory = λ is. let left = c.commit.ensures.no_memory is in record { store_is = left.1; vol_is = left.0 };
      cause = c.commit.ensures.cause;
      refusals_later = c.commit.ensures.refusals;
      later = c.commit.ensures.later;
    })

pub leave-requires : goal.leave-requires
leave-requires g c =
    let store = c.args.store.now in
    let bound = c.args.bound in
    let rs = c.records-records.result.now in
    let are : rs ≡ c.args.tail.now = c.records-records.ensures.value ∙ c.in_ok-count.ensures.same in
    let count = by_length c.in_ok-count.count rs c.args.tail.now c.in_ok-count.ensures.value are in
    let told = subst (λ (b : Bool). MatchBool b (¬ IsLeftBy store c.in_ok-count.count bound) (IsLeftBy store c.in_ok-count.count bound)) c.if-goes_on.false c.goes_on.ensures.value in
    record {
      left = subst (λ (n : ℕ). IsLeftBy store n bound) count told;
      records = subst (λ (l : List Effect). IsTrue (list_all is_record l)) (sym are) c.requires.records;
      room = subst (λ (l : List Effect). IsTrue (can_place store.blocks l)) (sym are) c.requires.room;
      formed = c.requires.formed;
      storable = c.requires.storable;
      within = c.requires.within;
      reserved = c.requires.reserved;
      message_room = λ told. subst (λ (l : List Effect). HasMessageRoom store.blocks l (g.V.Vol.disk c.args.vol.now)) (sym are) (c.requires.message_room told);
      fits = λ told. let f = c.requires.fits told in (f.0, f.1, subst (λ (l : List Effect). IsNextBatch f.0 l (durable_of c.args.slot.now)) (sym are) f.2);
    }

pub returns-clause-commits : goal.returns-clause-commits
returns-clause-commits g c =
    let V = g.V.Vol in
    let are : c.records-records.result.now ≡ c.args.tail.now = c.records-records.ensures.value ∙ c.in_ok-count.ensures.same in
    commits_as V.told V.disk V.faults V.refusals c.records-records.result.now c.args.bound (durable_of c.args.slot.now) c.args.store.now c.args.vol.now c.args.tail.now c.leave.result
    c.leave.new.store c.leave.new.vol are c.leave.ensures.commits
