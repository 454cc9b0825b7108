use Rattle.std.proofs.Common.{None, [], ap, subst, sym, ◌∙◌}
use Rattle.vol_disk.specs.Images.{IsDurable}
use Rattle.vol_disk.specs.Moments.{Quiet}
use Rattle.gate_log.specs.Starting.{Starts}
use Rattle.block_table.specs.Blocks.{Blocks}
use Rattle.stream_store.specs.Alternating.{other_file}
use Rattle.gate_log.specs.LogFile.{HasOpen}
use Rattle.stream_store.specs.Base.{IsBase, IsBaseOf}
use Rattle.stream_store.specs.Clearing.{AreCleared, IsOtherClosed, IsUsed, IsUsedBy, Spares}
use Rattle.stream_store.specs.Steps.{blocks_in}
use Rattle.stream_store.specs.StoreState.{StoreState}
use Rattle.stream_store.proofs.Alternated.{other_low}
use Rattle.stream_store.proofs.Cleared.{cleared_behind, leaves_base, spares_none}
use Rattle.stream_store.proofs.Closed.{both_base, both_leaves, closed_spared, closing_leaves, spares_both, spares_closed}
use Rattle.stream_store.proofs.Known.{rooms_cleared}
use Rattle.stream_store.proofs.store.Store.clear.Goals as goal

-- ---- no memory

pub returns-in_err-catch_up-clause-spares : goal.returns-in_err-catch_up-clause-spares
returns-in_err-catch_up-clause-spares g c = λ told. spares_none (IsUsedBy c.args.self.now) (g.V.Vol.disk c.args.vol.now) (g.met.V.Vol.clocked c.args.vol.now)

pub returns-in_err-catch_up-clause-any_moment : goal.returns-in_err-catch_up-clause-any_moment
returns-in_err-catch_up-clause-any_moment g c = λ told base is.
    let disk = g.V.Vol.disk c.args.vol.now in
    leaves_base c.args.self.now base disk disk (spares_none (IsUsed c.args.self.now.blocks) disk (g.met.V.Vol.clocked c.args.vol.now)) is

-- ---- the other log

pub close_other-requires : goal.close_other-requires
close_other-requires g c = record {
  base = λ told. let f = c.requires.base told in (blocks_in c.self.inside.late, f.0, subst (λ (t : StoreState). IsBaseOf t.log t.blocks f.0 (g.V.Vol.disk c.args.vol.now)) (sym c.self.view_is) f.1.of_log);
}

pub returns-in_err-close_other-clause-spares : goal.returns-in_err-close_other-clause-spares
returns-in_err-close_other-clause-spares g c = λ told.
    let store = c.args.self.now in
    let f = c.requires.base told in
    let old = g.V.Vol.disk c.args.vol.now in
    let mid = g.V.Vol.disk c.close_other.new.vol in
    let s : Starts (other_file store.log.file) old mid = subst (λ (t : StoreState). Starts (other_file t.log.file) old mid) c.self.view_is (c.close_other.ensures.any_moment told) in
    let still = subst (λ (t : StoreState). HasOpen (old.seen (other_file t.log.file)) None [] → Quiet old mid) c.self.view_is (c.close_other.ensures.quiet told) in
    spares_closed store f.0 old f.1.of_log mid s still

pub returns-in_err-close_other-clause-any_moment : goal.returns-in_err-close_other-clause-any_moment
returns-in_err-close_other-clause-any_moment g c = λ told base is.
    let store = c.args.self.now in
    let old = g.V.Vol.disk c.args.vol.now in
    let mid = g.V.Vol.disk c.close_other.new.vol in
    let s : Starts (other_file store.log.file) old mid = subst (λ (t : StoreState). Starts (other_file t.log.file) old mid) c.self.view_is (c.close_other.ensures.any_moment told) in
    closing_leaves store.log store.blocks base old mid is s

-- ---- files that are no blocks

pub returns-in_err-clear_files-clause-spares : goal.returns-in_err-clear_files-clause-spares
returns-in_err-clear_files-clause-spares g c = λ told.
    let store = c.args.self.now in
    let f = c.requires.base told in
    let old = g.V.Vol.disk c.args.vol.now in
    let mid = g.V.Vol.disk c.close_other.new.vol in
    let new = g.V.Vol.disk c.clear_files.new.vol in
    let table = c.in_ok-catch_up.ensures.all ∙ ap (λ (t : StoreState). t.blocks) c.self.view_is in
    let s : Starts (other_file store.log.file) old mid = subst (λ (t : StoreState). Starts (other_file t.log.file) old mid) c.self.view_is (c.close_other.ensures.any_moment told) in
    let still = subst (λ (t : StoreState). HasOpen (old.seen (other_file t.log.file)) None [] → Quiet old mid) c.self.view_is (c.close_other.ensures.quiet told) in
    let spares : Spares (IsUsed store.blocks) mid new = subst (λ (b : Blocks). Spares (IsUsed b) mid new) table (c.clear_files.ensures.spares told) in
    spares_both store f.0 old f.1.of_log mid new (spares_closed store f.0 old f.1.of_log mid s still) spares

pub returns-in_err-clear_files-clause-any_moment : goal.returns-in_err-clear_files-clause-any_moment
returns-in_err-clear_files-clause-any_moment g c = λ told base is.
    let store = c.args.self.now in
    let old = g.V.Vol.disk c.args.vol.now in
    let mid = g.V.Vol.disk c.close_other.new.vol in
    let new = g.V.Vol.disk c.clear_files.new.vol in
    let table = c.in_ok-catch_up.ensures.all ∙ ap (λ (t : StoreState). t.blocks) c.self.view_is in
    let s : Starts (other_file store.log.file) old mid = subst (λ (t : StoreState). Starts (other_file t.log.file) old mid) c.self.view_is (c.close_other.ensures.any_moment told) in
    let closed : IsOtherClosed store.log mid = subst (λ (t : StoreState). IsOtherClosed t.log mid) c.self.view_is (c.in_ok-close_other.ensures.closed told) in
    let firm : IsDurable mid (other_file store.log.file) = subst (λ (t : StoreState). IsDurable mid (other_file t.log.file)) c.self.view_is (c.in_ok-close_other.ensures.durable told) in
    let honest = g.met.V.Vol.honest told c.close_other.new.vol in
    let spares : Spares (IsUsed store.blocks) mid new = subst (λ (b : Blocks). Spares (IsUsed b) mid new) table (c.clear_files.ensures.spares told) in
    both_leaves store base old mid new is s closed firm honest spares

pub returns-clause-spares : goal.returns-clause-spares
returns-clause-spares g c = λ told.
    let store = c.args.self.now in
    let f = c.requires.base told in
    let old = g.V.Vol.disk c.args.vol.now in
    let mid = g.V.Vol.disk c.close_other.new.vol in
    let new = g.V.Vol.disk c.clear_files.new.vol in
    let table = c.in_ok-catch_up.ensures.all ∙ ap (λ (t : StoreState). t.blocks) c.self.view_is in
    let s : Starts (other_file store.log.file) old mid = subst (λ (t : StoreState). Starts (other_file t.log.file) old mid) c.self.view_is (c.close_other.ensures.any_moment told) in
    let still = subst (λ (t : StoreState). HasOpen (old.seen (other_file t.log.file)) None [] → Quiet old mid) c.self.view_is (c.close_other.ensures.quiet told) in
    let spares : Spares (IsUsed store.blocks) mid new = subst (λ (b : Blocks). Spares (IsUsed b) mid new) table (c.clear_files.ensures.spares told) in
    spares_both store f.0 old f.1.of_log mid new (spares_closed store f.0 old f.1.of_log mid s still) spares

pub returns-clause-any_moment : goal.returns-clause-any_moment
returns-clause-any_moment g c = λ told base is.
    let store = c.args.self.now in
    let old = g.V.Vol.disk c.args.vol.now in
    let mid = g.V.Vol.disk c.close_other.new.vol in
    let new = g.V.Vol.disk c.clear_files.new.vol in
    let table = c.in_ok-catch_up.ensures.all ∙ ap (λ (t : StoreState). t.blocks) c.self.view_is in
    let s : Starts (other_file store.log.file) old mid = subst (λ (t : StoreState). Starts (other_file t.log.file) old mid) c.self.view_is (c.close_other.ensures.any_moment told) in
    let closed : IsOtherClosed store.log mid = subst (λ (t : StoreState). IsOtherClosed t.log mid) c.self.view_is (c.in_ok-close_other.ensures.closed told) in
    let firm : IsDurable mid (other_file store.log.file) = subst (λ (t : StoreState). IsDurable mid (other_file t.log.file)) c.self.view_is (c.in_ok-close_other.ensures.durable told) in
    let honest = g.met.V.Vol.honest told c.close_other.new.vol in
    let spares : Spares (IsUsed store.blocks) mid new = subst (λ (b : Blocks). Spares (IsUsed b) mid new) table (c.clear_files.ensures.spares told) in
    both_leaves store base old mid new is s closed firm honest spares

pub returns-clause-keeps : goal.returns-clause-keeps
returns-clause-keeps g c = λ told base is.
    let store = c.args.self.now in
    let old = g.V.Vol.disk c.args.vol.now in
    let mid = g.V.Vol.disk c.close_other.new.vol in
    let new = g.V.Vol.disk c.clear_files.new.vol in
    let table = c.in_ok-catch_up.ensures.all ∙ ap (λ (t : StoreState). t.blocks) c.self.view_is in
    let s : Starts (other_file store.log.file) old mid = subst (λ (t : StoreState). Starts (other_file t.log.file) old mid) c.self.view_is (c.close_other.ensures.any_moment told) in
    let closed : IsOtherClosed store.log mid = subst (λ (t : StoreState). IsOtherClosed t.log mid) c.self.view_is (c.in_ok-close_other.ensures.closed told) in
    let firm : IsDurable mid (other_file store.log.file) = subst (λ (t : StoreState). IsDurable mid (other_file t.log.file)) c.self.view_is (c.in_ok-close_other.ensures.durable told) in
    let honest = g.met.V.Vol.honest told c.close_other.new.vol in
    let spares : Spares (IsUsed store.blocks) mid new = subst (λ (b : Blocks). Spares (IsUsed b) mid new) table (c.clear_files.ensures.spares told) in
    let i = c.self.inside in
    let kept : IsBase (record store { rooms = record store.rooms { reach = None } }) base new = record {
      of_log = both_base store base old mid new is.of_log s closed firm honest spares;
      rooms = rooms_cleared store.blocks store.rooms old mid new (c.in_ok-close_other.ensures.as_long told) spares is.rooms;
    } in
    let forgets : StoreState → StoreState = λ t. record t { rooms = record t.rooms { reach = None } } in
    let caught : Blocks → StoreState = λ b. record { log = i.log; blocks = b; unused = i.unused.items; rooms = record i.rooms { reach = None } } in
    subst (λ (t : StoreState). IsBase t base new) (sym (ap caught c.catch_up.ensures.same ∙ ap forgets c.self.view_is)) kept

pub returns-clause-closed : goal.returns-clause-closed
returns-clause-closed g c = λ told.
    let store = c.args.self.now in
    let mid = g.V.Vol.disk c.close_other.new.vol in
    let new = g.V.Vol.disk c.clear_files.new.vol in
    let table = c.in_ok-catch_up.ensures.all ∙ ap (λ (t : StoreState). t.blocks) c.self.view_is in
    let closed : IsOtherClosed store.log mid = subst (λ (t : StoreState). IsOtherClosed t.log mid) c.self.view_is (c.in_ok-close_other.ensures.closed told) in
    let spares : Spares (IsUsed store.blocks) mid new = subst (λ (b : Blocks). Spares (IsUsed b) mid new) table (c.clear_files.ensures.spares told) in
    closed_spared store.log store.blocks mid new spares closed

pub returns-clause-cleared : goal.returns-clause-cleared
returns-clause-cleared g c = λ told.
    let store = c.args.self.now in
    let old = g.V.Vol.disk c.args.vol.now in
    let mid = g.V.Vol.disk c.close_other.new.vol in
    let new = g.V.Vol.disk c.clear_files.new.vol in
    let table = c.in_ok-catch_up.ensures.all ∙ ap (λ (t : StoreState). t.blocks) c.self.view_is in
    let s : Starts (other_file store.log.file) old mid = subst (λ (t : StoreState). Starts (other_file t.log.file) old mid) c.self.view_is (c.close_other.ensures.any_moment told) in
    cleared_behind store.blocks (other_file store.log.file) old mid new (other_low store.log.file) s.elsewhere
    (subst (λ (b : Blocks). AreCleared b mid new) table (c.in_ok-clear_files.ensures.cleared told))
