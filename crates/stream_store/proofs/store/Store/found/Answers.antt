use Rattle.std.proofs.Common.{◌≡◌, Err, arith, inl, inr, IsSome, refl, sym, subst, ◌∙◌}
use Rattle.std.proofs.lemmas.Result.{err_from_is_err_and}
use Rattle.std.proofs.Math.Path.{fun_ext}
use Rattle.vol_disk.specs.Disk.{Files}
use Rattle.vol_disk.proofs.Moments.{quiet_then}
use Rattle.js_model.proofs.Named.{none_some}
use Rattle.effects.specs.declared.durable.Durable.{Durable}
use Rattle.block_table.specs.Blocks.{Blocks, no_blocks}
use Rattle.stream_store.specs.Base.{IsBase, IsBaseOf}
use Rattle.stream_store.specs.Opening.{IsFirstLog}
use Rattle.stream_store.specs.StoreState.{StoreState}
use Rattle.stream_store.specs.Finding.{IsFaultWhere}
use Rattle.stream_store.specs.Untouched.{IsTouchedAt, IsUntouched}
use Rattle.stream_store.proofs.Finding.{found_holds, found_base, found_unbegun, found_vacant, found_no_blocks, found_none_open, not_begun, log_fault_of, records_fault_of, begin_of, some_begun, touched_of}
use Rattle.stream_store.proofs.Beginning.{head_is, still_rests, rests_then, held_quiet, held_begun}
use Rattle.stream_store.proofs.Known.{none_known}
use Rattle.stream_store.specs.declared.fault.OpenFault.TheVariants.{NoRoom}
use Rattle.stream_store.proofs.Faults.{never_told}
use Rattle.stream_store.proofs.store.Store.found.Goals as goal

pub returns-in_err-current-clause-quiet : goal.returns-in_err-current-clause-quiet
returns-in_err-current-clause-quiet g c = λ told. inr (c.open_current.ensures.quiet told)

pub returns-in_err-current-clause-elsewhere : goal.returns-in_err-current-clause-elsewhere
returns-in_err-current-clause-elsewhere g c = λ told. still_rests (g.V.Vol.disk c.args.vol.now) (g.V.Vol.disk c.open_current.new.vol) (c.open_current.ensures.quiet told)

pub returns-in_err-current-clause-any_moment : goal.returns-in_err-current-clause-any_moment
returns-in_err-current-clause-any_moment g c = λ told. held_quiet (g.V.Vol.disk c.args.vol.now) (g.V.Vol.disk c.open_current.new.vol) (c.open_current.ensures.quiet told)

pub returns-in_err-current-clause-fault : goal.returns-in_err-current-clause-fault
returns-in_err-current-clause-fault g c = λ told.
    let p = err_from_is_err_and c.from_residual.result c.from_residual.ensures.1 in
    rw (p.1, p.2) (log_fault_of (g.V.Vol.disk c.args.vol.now).seen c.in_err-current.field-0.0 (c.in_err-current.ensures.fault told))

pub read_current-requires : goal.read_current-requires
read_current-requires g c = record { settled = λ told. let found = c.in_ok-current.ensures.current told in (_, found.settled) }

pub returns-in_err-found-clause-fault : goal.returns-in_err-found-clause-fault
returns-in_err-found-clause-fault g c = λ told.
    let p = err_from_is_err_and c.from_residual-in_err-found.result c.from_residual-in_err-found.ensures.1 in
    rw (p.1, p.2) (records_fault_of c.in_ok-current.current (g.V.Vol.disk c.args.vol.now) (g.V.Vol.disk c.open_current.new.vol) (c.open_current.ensures.quiet told) c.in_err-found.field-0.0 (c.in_ok-current.ensures.current told) (c.in_err-found.ensures.fault told))

pub returns-in_err-found-clause-quiet : goal.returns-in_err-found-clause-quiet
returns-in_err-found-clause-quiet g c = λ told.
    inr (quiet_then (g.V.Vol.disk c.args.vol.now) (g.V.Vol.disk c.open_current.new.vol) (g.V.Vol.disk c.read_current.new.vol) (c.open_current.ensures.quiet told) (c.read_current.ensures.quiet told))

pub returns-in_err-found-clause-elsewhere : goal.returns-in_err-found-clause-elsewhere
returns-in_err-found-clause-elsewhere g c = λ told.
    still_rests (g.V.Vol.disk c.args.vol.now) (g.V.Vol.disk c.read_current.new.vol) (quiet_then (g.V.Vol.disk c.args.vol.now) (g.V.Vol.disk c.open_current.new.vol) (g.V.Vol.disk c.read_current.new.vol) (c.open_current.ensures.quiet told) (c.read_current.ensures.quiet told))

pub returns-in_err-found-clause-any_moment : goal.returns-in_err-found-clause-any_moment
returns-in_err-found-clause-any_moment g c = λ told.
    held_quiet (g.V.Vol.disk c.args.vol.now) (g.V.Vol.disk c.read_current.new.vol) (quiet_then (g.V.Vol.disk c.args.vol.now) (g.V.Vol.disk c.open_current.new.vol) (g.V.Vol.disk c.read_current.new.vol) (c.open_current.ensures.quiet told) (c.read_current.ensures.quiet told))

pub returns-in-Some-clause-quiet : goal.returns-in-Some-clause-quiet
returns-in-Some-clause-quiet g c = λ told.
    inr (quiet_then (g.V.Vol.disk c.args.vol.now) (g.V.Vol.disk c.open_current.new.vol) (g.V.Vol.disk c.read_current.new.vol) (c.open_current.ensures.quiet told) (c.read_current.ensures.quiet told))

pub returns-in-Some-clause-elsewhere : goal.returns-in-Some-clause-elsewhere
returns-in-Some-clause-elsewhere g c = λ told.
    still_rests (g.V.Vol.disk c.args.vol.now) (g.V.Vol.disk c.read_current.new.vol) (quiet_then (g.V.Vol.disk c.args.vol.now) (g.V.Vol.disk c.open_current.new.vol) (g.V.Vol.disk c.read_current.new.vol) (c.open_current.ensures.quiet told) (c.read_current.ensures.quiet told))

pub returns-in-Some-clause-any_moment : goal.returns-in-Some-clause-any_moment
returns-in-Some-clause-any_moment g c = λ told.
    held_quiet (g.V.Vol.disk c.args.vol.now) (g.V.Vol.disk c.read_current.new.vol) (quiet_then (g.V.Vol.disk c.args.vol.now) (g.V.Vol.disk c.open_current.new.vol) (g.V.Vol.disk c.read_current.new.vol) (c.open_current.ensures.quiet told) (c.read_current.ensures.quiet told))

pub returns-in-Some-clause-found : goal.returns-in-Some-clause-found
returns-in-Some-clause-found g c = λ told.
    let current = c.in_ok-current.current in
    let old = g.V.Vol.disk c.args.vol.now in
    let mid = g.V.Vol.disk c.open_current.new.vol in
    let new = g.V.Vol.disk c.read_current.new.vol in
    let is = c.in_ok-current.ensures.current told in
    let still = c.open_current.ensures.quiet told in
    let on = c.read_current.ensures.quiet told in
    let f = c.in_ok-found.found in
    let found = c.in_ok-found.ensures.found told in
    found_holds current old mid new is still on f found (inl (some_begun current old mid new is still on f found (subst IsSome c.in-Some.ensures.value refl)))

pub returns-in-Some-clause-base : goal.returns-in-Some-clause-base
returns-in-Some-clause-base g c = λ told.
    let f = c.in_ok-found.found in
    subst (λ (s : StoreState). IsBase s f.durable (g.V.Vol.disk c.read_current.new.vol)) (sym c.with_table-store.ensures.value)
    (none_known c.in_ok-current.current.log f.table f.durable (g.V.Vol.disk c.read_current.new.vol)
    (found_base c.in_ok-current.current (g.V.Vol.disk c.args.vol.now) (g.V.Vol.disk c.open_current.new.vol) (g.V.Vol.disk c.read_current.new.vol) (c.in_ok-current.ensures.current told) (c.open_current.ensures.quiet told) (c.read_current.ensures.quiet told) f (c.in_ok-found.ensures.found told)
    (subst IsSome c.in-Some.ensures.value refl) (c.in_ok-found.ensures.synced told) c.in_ok-found.ensures.table c.in_ok-found.ensures.storable c.in_ok-found.ensures.given))

pub returns-in-Some-clause-first_log : goal.returns-in-Some-clause-first_log
returns-in-Some-clause-first_log g c = λ told none.
    absurd (none_some (sym (not_begun c.in_ok-current.current (g.V.Vol.disk c.args.vol.now) (g.V.Vol.disk c.open_current.new.vol) (g.V.Vol.disk c.read_current.new.vol) (c.in_ok-current.ensures.current told) (c.open_current.ensures.quiet told) (c.read_current.ensures.quiet told) c.in_ok-found.found (c.in_ok-found.ensures.found told) none) ∙ sym c.in-Some.ensures.value))

pub with_table-store-requires : goal.with_table-store-requires
with_table-store-requires g c = record { head = head_is c.in_ok-current.current.log c.in-Some.generation (sym c.in-Some.ensures.value) }

pub begin_log-requires : goal.begin_log-requires
begin_log-requires g c = record {
  unbegun = λ told.
      let current = c.in_ok-current.current in
      let old = g.V.Vol.disk c.args.vol.now in
      let mid = g.V.Vol.disk c.open_current.new.vol in
      let read = g.V.Vol.disk c.read_current.new.vol in
      let looked = g.V.Vol.disk c.check_untouched.new.vol in
      let is = c.in_ok-current.ensures.current told in
      let still = c.open_current.ensures.quiet told in
      let on = quiet_then mid read looked (c.read_current.ensures.quiet told) (c.check_untouched.ensures.quiet told) in
      let f = c.in_ok-found.found in
      let found = c.in_ok-found.ensures.found told in
      let none = sym c.in-None.ensures.value in
      let seen : read.seen ≡ old.seen = fun_ext (quiet_then old mid read still (c.read_current.ensures.quiet told)).seen in
      let untouched : IsUntouched old.seen = subst IsUntouched seen (c.in_ok-check_untouched-in-None.ensures.untouched told) in
      found_unbegun current old mid looked is still on f found none untouched (c.in_ok-check_untouched-in-None.ensures.gone told);
}

-- ---- a stream is missing, or is not known to be

pub returns-in_err-check_untouched-in-None-clause-quiet : goal.returns-in_err-check_untouched-in-None-clause-quiet
returns-in_err-check_untouched-in-None-clause-quiet g c = λ told.
    let current = c.in_ok-current.current in
    let old = g.V.Vol.disk c.args.vol.now in
    let mid = g.V.Vol.disk c.open_current.new.vol in
    let read = g.V.Vol.disk c.read_current.new.vol in
    let looked = g.V.Vol.disk c.check_untouched.new.vol in
    let is = c.in_ok-current.ensures.current told in
    let still = c.open_current.ensures.quiet told in
    let on = quiet_then mid read looked (c.read_current.ensures.quiet told) (c.check_untouched.ensures.quiet told) in
    let f = c.in_ok-found.found in
    let found = c.in_ok-found.ensures.found told in
    let none = sym c.in-None.ensures.value in
    inr (quiet_then old mid looked still on)

pub returns-in_err-check_untouched-in-None-clause-elsewhere : goal.returns-in_err-check_untouched-in-None-clause-elsewhere
returns-in_err-check_untouched-in-None-clause-elsewhere g c = λ told.
    let current = c.in_ok-current.current in
    let old = g.V.Vol.disk c.args.vol.now in
    let mid = g.V.Vol.disk c.open_current.new.vol in
    let read = g.V.Vol.disk c.read_current.new.vol in
    let looked = g.V.Vol.disk c.check_untouched.new.vol in
    let is = c.in_ok-current.ensures.current told in
    let still = c.open_current.ensures.quiet told in
    let on = quiet_then mid read looked (c.read_current.ensures.quiet told) (c.check_untouched.ensures.quiet told) in
    let f = c.in_ok-found.found in
    let found = c.in_ok-found.ensures.found told in
    let none = sym c.in-None.ensures.value in
    still_rests old looked (quiet_then old mid looked still on)

pub returns-in_err-check_untouched-in-None-clause-any_moment : goal.returns-in_err-check_untouched-in-None-clause-any_moment
returns-in_err-check_untouched-in-None-clause-any_moment g c = λ told.
    let current = c.in_ok-current.current in
    let old = g.V.Vol.disk c.args.vol.now in
    let mid = g.V.Vol.disk c.open_current.new.vol in
    let read = g.V.Vol.disk c.read_current.new.vol in
    let looked = g.V.Vol.disk c.check_untouched.new.vol in
    let is = c.in_ok-current.ensures.current told in
    let still = c.open_current.ensures.quiet told in
    let on = quiet_then mid read looked (c.read_current.ensures.quiet told) (c.check_untouched.ensures.quiet told) in
    let f = c.in_ok-found.found in
    let found = c.in_ok-found.ensures.found told in
    let none = sym c.in-None.ensures.value in
    held_quiet old looked (quiet_then old mid looked still on)

pub returns-in_err-check_untouched-in-None-clause-fault : goal.returns-in_err-check_untouched-in-None-clause-fault
returns-in_err-check_untouched-in-None-clause-fault g c = λ told.
    let current = c.in_ok-current.current in
    let old = g.V.Vol.disk c.args.vol.now in
    let mid = g.V.Vol.disk c.open_current.new.vol in
    let read = g.V.Vol.disk c.read_current.new.vol in
    let looked = g.V.Vol.disk c.check_untouched.new.vol in
    let is = c.in_ok-current.ensures.current told in
    let still = c.open_current.ensures.quiet told in
    let on = quiet_then mid read looked (c.read_current.ensures.quiet told) (c.check_untouched.ensures.quiet told) in
    let f = c.in_ok-found.found in
    let found = c.in_ok-found.ensures.found told in
    let none = sym c.in-None.ensures.value in
    let seen : read.seen ≡ old.seen = fun_ext (quiet_then old mid read still (c.read_current.ensures.quiet told)).seen in
    let p = err_from_is_err_and c.from_residual-in_err-check_untouched-in-None.result c.from_residual-in_err-check_untouched-in-None.ensures.1 in
    let fault = c.in_err-check_untouched-in-None.field-0.0 in
    rw (p.1, p.2) (touched_of old.seen fault (found_none_open current old mid looked is still on f found none) (subst (λ (x : Files). IsFaultWhere (IsTouchedAt x) fault) seen (c.in_err-check_untouched-in-None.ensures.fault told)))

-- ---- a log is made

pub returns-in_err-log-in-None-clause-quiet : goal.returns-in_err-log-in-None-clause-quiet
returns-in_err-log-in-None-clause-quiet g c = λ told.
    let current = c.in_ok-current.current in
    let old = g.V.Vol.disk c.args.vol.now in
    let mid = g.V.Vol.disk c.open_current.new.vol in
    let read = g.V.Vol.disk c.read_current.new.vol in
    let looked = g.V.Vol.disk c.check_untouched.new.vol in
    let is = c.in_ok-current.ensures.current told in
    let still = c.open_current.ensures.quiet told in
    let on = quiet_then mid read looked (c.read_current.ensures.quiet told) (c.check_untouched.ensures.quiet told) in
    let f = c.in_ok-found.found in
    let found = c.in_ok-found.ensures.found told in
    let none = sym c.in-None.ensures.value in
    let seen : read.seen ≡ old.seen = fun_ext (quiet_then old mid read still (c.read_current.ensures.quiet told)).seen in
    inl (found_none_open current old mid looked is still on f found none, subst IsUntouched seen (c.in_ok-check_untouched-in-None.ensures.untouched told))

pub returns-in_err-log-in-None-clause-elsewhere : goal.returns-in_err-log-in-None-clause-elsewhere
returns-in_err-log-in-None-clause-elsewhere g c = λ told.
    let current = c.in_ok-current.current in
    let old = g.V.Vol.disk c.args.vol.now in
    let mid = g.V.Vol.disk c.open_current.new.vol in
    let read = g.V.Vol.disk c.read_current.new.vol in
    let looked = g.V.Vol.disk c.check_untouched.new.vol in
    let is = c.in_ok-current.ensures.current told in
    let still = c.open_current.ensures.quiet told in
    let on = quiet_then mid read looked (c.read_current.ensures.quiet told) (c.check_untouched.ensures.quiet told) in
    let f = c.in_ok-found.found in
    let found = c.in_ok-found.ensures.found told in
    let none = sym c.in-None.ensures.value in
    rests_then old looked (g.V.Vol.disk c.begin_log.new.vol) (quiet_then old mid looked still on) (c.begin_log.ensures.elsewhere told)

pub returns-in_err-log-in-None-clause-any_moment : goal.returns-in_err-log-in-None-clause-any_moment
returns-in_err-log-in-None-clause-any_moment g c = λ told.
    let current = c.in_ok-current.current in
    let old = g.V.Vol.disk c.args.vol.now in
    let mid = g.V.Vol.disk c.open_current.new.vol in
    let read = g.V.Vol.disk c.read_current.new.vol in
    let looked = g.V.Vol.disk c.check_untouched.new.vol in
    let is = c.in_ok-current.ensures.current told in
    let still = c.open_current.ensures.quiet told in
    let on = quiet_then mid read looked (c.read_current.ensures.quiet told) (c.check_untouched.ensures.quiet told) in
    let f = c.in_ok-found.found in
    let found = c.in_ok-found.ensures.found told in
    let none = sym c.in-None.ensures.value in
    let seen : read.seen ≡ old.seen = fun_ext (quiet_then old mid read still (c.read_current.ensures.quiet told)).seen in
    let untouched : IsUntouched old.seen = subst IsUntouched seen (c.in_ok-check_untouched-in-None.ensures.untouched told) in
    let unbegun = found_unbegun current old mid looked is still on f found none untouched (c.in_ok-check_untouched-in-None.ensures.gone told) in
    held_begun old looked (g.V.Vol.disk c.begin_log.new.vol) (quiet_then old mid looked still on) unbegun (c.begin_log.ensures.any_moment told)

pub returns-in_ok-log-in-None-clause-quiet : goal.returns-in_ok-log-in-None-clause-quiet
returns-in_ok-log-in-None-clause-quiet g c = λ told.
    let current = c.in_ok-current.current in
    let old = g.V.Vol.disk c.args.vol.now in
    let mid = g.V.Vol.disk c.open_current.new.vol in
    let read = g.V.Vol.disk c.read_current.new.vol in
    let looked = g.V.Vol.disk c.check_untouched.new.vol in
    let is = c.in_ok-current.ensures.current told in
    let still = c.open_current.ensures.quiet told in
    let on = quiet_then mid read looked (c.read_current.ensures.quiet told) (c.check_untouched.ensures.quiet told) in
    let f = c.in_ok-found.found in
    let found = c.in_ok-found.ensures.found told in
    let none = sym c.in-None.ensures.value in
    let seen : read.seen ≡ old.seen = fun_ext (quiet_then old mid read still (c.read_current.ensures.quiet told)).seen in
    inl (found_none_open current old mid looked is still on f found none, subst IsUntouched seen (c.in_ok-check_untouched-in-None.ensures.untouched told))

pub returns-in_ok-log-in-None-clause-elsewhere : goal.returns-in_ok-log-in-None-clause-elsewhere
returns-in_ok-log-in-None-clause-elsewhere g c = λ told.
    let current = c.in_ok-current.current in
    let old = g.V.Vol.disk c.args.vol.now in
    let mid = g.V.Vol.disk c.open_current.new.vol in
    let read = g.V.Vol.disk c.read_current.new.vol in
    let looked = g.V.Vol.disk c.check_untouched.new.vol in
    let is = c.in_ok-current.ensures.current told in
    let still = c.open_current.ensures.quiet told in
    let on = quiet_then mid read looked (c.read_current.ensures.quiet told) (c.check_untouched.ensures.quiet told) in
    let f = c.in_ok-found.found in
    let found = c.in_ok-found.ensures.found told in
    let none = sym c.in-None.ensures.value in
    rests_then old looked (g.V.Vol.disk c.begin_log.new.vol) (quiet_then old mid looked still on) (c.begin_log.ensures.elsewhere told)

pub returns-in_ok-log-in-None-clause-any_moment : goal.returns-in_ok-log-in-None-clause-any_moment
returns-in_ok-log-in-None-clause-any_moment g c = λ told.
    let current = c.in_ok-current.current in
    let old = g.V.Vol.disk c.args.vol.now in
    let mid = g.V.Vol.disk c.open_current.new.vol in
    let read = g.V.Vol.disk c.read_current.new.vol in
    let looked = g.V.Vol.disk c.check_untouched.new.vol in
    let is = c.in_ok-current.ensures.current told in
    let still = c.open_current.ensures.quiet told in
    let on = quiet_then mid read looked (c.read_current.ensures.quiet told) (c.check_untouched.ensures.quiet told) in
    let f = c.in_ok-found.found in
    let found = c.in_ok-found.ensures.found told in
    let none = sym c.in-None.ensures.value in
    let seen : read.seen ≡ old.seen = fun_ext (quiet_then old mid read still (c.read_current.ensures.quiet told)).seen in
    let untouched : IsUntouched old.seen = subst IsUntouched seen (c.in_ok-check_untouched-in-None.ensures.untouched told) in
    let unbegun = found_unbegun current old mid looked is still on f found none untouched (c.in_ok-check_untouched-in-None.ensures.gone told) in
    held_begun old looked (g.V.Vol.disk c.begin_log.new.vol) (quiet_then old mid looked still on) unbegun (c.begin_log.ensures.any_moment told)

pub returns-in_ok-log-in-None-clause-found : goal.returns-in_ok-log-in-None-clause-found
returns-in_ok-log-in-None-clause-found g c = λ told.
    let current = c.in_ok-current.current in
    let old = g.V.Vol.disk c.args.vol.now in
    let mid = g.V.Vol.disk c.open_current.new.vol in
    let read = g.V.Vol.disk c.read_current.new.vol in
    let looked = g.V.Vol.disk c.check_untouched.new.vol in
    let is = c.in_ok-current.ensures.current told in
    let still = c.open_current.ensures.quiet told in
    let on = quiet_then mid read looked (c.read_current.ensures.quiet told) (c.check_untouched.ensures.quiet told) in
    let f = c.in_ok-found.found in
    let found = c.in_ok-found.ensures.found told in
    let none = sym c.in-None.ensures.value in
    let seen : read.seen ≡ old.seen = fun_ext (quiet_then old mid read still (c.read_current.ensures.quiet told)).seen in
    let untouched : IsUntouched old.seen = subst IsUntouched seen (c.in_ok-check_untouched-in-None.ensures.untouched told) in
    found_holds current old mid looked is still on f found (inr untouched)

pub returns-in_ok-log-in-None-clause-base : goal.returns-in_ok-log-in-None-clause-base
returns-in_ok-log-in-None-clause-base g c = λ told.
    let current = c.in_ok-current.current in
    let old = g.V.Vol.disk c.args.vol.now in
    let mid = g.V.Vol.disk c.open_current.new.vol in
    let read = g.V.Vol.disk c.read_current.new.vol in
    let looked = g.V.Vol.disk c.check_untouched.new.vol in
    let is = c.in_ok-current.ensures.current told in
    let still = c.open_current.ensures.quiet told in
    let on = quiet_then mid read looked (c.read_current.ensures.quiet told) (c.check_untouched.ensures.quiet told) in
    let f = c.in_ok-found.found in
    let found = c.in_ok-found.ensures.found told in
    let none = sym c.in-None.ensures.value in
    let log = c.in_ok-log-in-None.log in
    let new = g.V.Vol.disk c.begin_log.new.vol in
    let vacant_is = found_vacant current old mid looked is still on f found none in
    let no_blocks_is = found_no_blocks current old mid looked is still on f found none in
    subst (λ (s : StoreState). IsBase s f.durable new) (sym c.with_table-begun.ensures.value)
    (none_known log f.table f.durable new (subst (λ (b : Blocks). IsBaseOf log b f.durable new) (sym no_blocks_is) (subst (λ (d : Durable). IsBaseOf log no_blocks d new) (sym vacant_is) (c.in_ok-log-in-None.ensures.base told))))

pub returns-in_ok-log-in-None-clause-first_log : goal.returns-in_ok-log-in-None-clause-first_log
returns-in_ok-log-in-None-clause-first_log g c = λ told none.
    subst (λ (s : StoreState). IsFirstLog s.log (g.V.Vol.disk c.begin_log.new.vol)) (sym c.with_table-begun.ensures.value)
    (record { file = c.in_ok-log-in-None.ensures.file; head = c.in_ok-log-in-None.ensures.head; settled = c.in_ok-log-in-None.ensures.settled told })

pub returns-in_err-log-in-None-clause-fault : goal.returns-in_err-log-in-None-clause-fault
returns-in_err-log-in-None-clause-fault g c = λ told.
    let p = err_from_is_err_and c.from_residual-in_err-log-in-None.result c.from_residual-in_err-log-in-None.ensures.1 in
    rw (p.1, p.2) (begin_of (g.V.Vol.disk c.args.vol.now).seen c.in_err-log-in-None.field-0.0 c.in_err-log-in-None.ensures.only)

-- ---- the volume was not asked for room yet

pub returns-in_err-current-clause-refused : goal.returns-in_err-current-clause-refused
returns-in_err-current-clause-refused g c = record {
  later = omega (arith, c.open_current.ensures.refusals);
  failed = λ is. absurd (never_told c.from_residual.result (Err c.in_err-current.field-0.0) c.in_err-current.field-0.0 NoRoom c.from_residual.ensures.1 refl c.in_err-current.ensures.no_room is);
}

pub returns-in_err-found-clause-refused : goal.returns-in_err-found-clause-refused
returns-in_err-found-clause-refused g c = record {
  later = omega (arith, c.open_current.ensures.refusals, c.read_current.ensures.refusals);
  failed = λ is. absurd (never_told c.from_residual-in_err-found.result (Err c.in_err-found.field-0.0) c.in_err-found.field-0.0 NoRoom c.from_residual-in_err-found.ensures.1 refl c.in_err-found.ensures.no_room is);
}

pub returns-in_err-check_untouched-in-None-clause-refused : goal.returns-in_err-check_untouched-in-None-clause-refused
returns-in_err-check_untouched-in-None-clause-refused g c = record {
  later = omega (arith, c.open_current.ensures.refusals, c.read_current.ensures.refusals, c.check_untouched.ensures.refusals);
  failed = λ is. absurd (never_told c.from_residual-in_err-check_untouched-in-None.result (Err c.in_err-check_untouched-in-None.field-0.0) c.in_err-check_untouched-in-None.field-0.0 NoRoom c.from_residual-in_err-check_untouched-in-None.ensures.1 refl c.in_err-check_untouched-in-None.ensures.no_room is);
}
