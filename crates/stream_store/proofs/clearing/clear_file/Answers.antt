use Rattle.std.proofs.Common.{arith, refl, sym, ◌∙◌}
use Rattle.std.proofs.lemmas.Bool.{true≢false}
use Rattle.stream_store.specs.Clearing.{IsUsed}
use Rattle.stream_store.proofs.Cleared.{dropped_elsewhere, dropped_spares, looked_at, spares_none, spares_quiet}
use Rattle.stream_store.proofs.clearing.clear_file.Goals as goal

-- it is a block
pub returns-then-has_block-clause-cleared : goal.returns-then-has_block-clause-cleared
returns-then-has_block-clause-cleared g c = λ told free. absurd (true≢false (sym c.if-has_block.true ∙ c.has_block.ensures ∙ free))

pub returns-then-has_block-clause-spares : goal.returns-then-has_block-clause-spares
returns-then-has_block-clause-spares g c = λ told. spares_none (IsUsed c.args.table.now) (g.V.Vol.disk c.args.vol.now) (g.met.V.Vol.clocked c.args.vol.now)

pub returns-then-has_block-clause-elsewhere : goal.returns-then-has_block-clause-elsewhere
returns-then-has_block-clause-elsewhere g c = λ told other apart. record { seen = refl; leaves = λ bytes left. left }

-- its length was not told
pub returns-in_err-len-clause-spares : goal.returns-in_err-len-clause-spares
returns-in_err-len-clause-spares g c = λ told.
    let old = g.V.Vol.disk c.args.vol.now in
    let new = g.V.Vol.disk c.len.new.self in
    spares_quiet (IsUsed c.args.table.now) old new (looked_at c.args.file old new (g.met.V.Vol.clocked c.args.vol.now) (c.len.ensures.does told) (c.len.ensures.seen told))

pub returns-in_err-len-clause-elsewhere : goal.returns-in_err-len-clause-elsewhere
returns-in_err-len-clause-elsewhere g c = λ told other apart. (c.len.ensures.does told).elsewhere other apart

-- it has no bytes
pub returns-then-branch-eq0-clause-spares : goal.returns-then-branch-eq0-clause-spares
returns-then-branch-eq0-clause-spares g c = λ told.
    let old = g.V.Vol.disk c.args.vol.now in
    let new = g.V.Vol.disk c.len.new.self in
    spares_quiet (IsUsed c.args.table.now) old new (looked_at c.args.file old new (g.met.V.Vol.clocked c.args.vol.now) (c.len.ensures.does told) (c.len.ensures.seen told))

pub returns-then-branch-eq0-clause-elsewhere : goal.returns-then-branch-eq0-clause-elsewhere
returns-then-branch-eq0-clause-elsewhere g c = λ told other apart. (c.len.ensures.does told).elsewhere other apart

-- it is cut
pub returns-clause-spares : goal.returns-clause-spares
returns-clause-spares g c = λ told.
    let old = g.V.Vol.disk c.args.vol.now in
    let mid = g.V.Vol.disk c.len.new.self in
    let still = looked_at c.args.file old mid (g.met.V.Vol.clocked c.args.vol.now) (c.len.ensures.does told) (c.len.ensures.seen told) in
    dropped_spares c.args.table.now c.args.file old mid (g.V.Vol.disk c.drop_block.new.vol) still (c.drop_block.ensures.changes told) c.requires.behind
    (sym c.has_block.ensures ∙ c.if-has_block.false) (λ none. omega (arith, c.if-branch-eq0.false, c.in_ok-len.ensures.value told, none))

pub returns-clause-elsewhere : goal.returns-clause-elsewhere
returns-clause-elsewhere g c = λ told.
    let old = g.V.Vol.disk c.args.vol.now in
    let mid = g.V.Vol.disk c.len.new.self in
    let still = looked_at c.args.file old mid (g.met.V.Vol.clocked c.args.vol.now) (c.len.ensures.does told) (c.len.ensures.seen told) in
    dropped_elsewhere c.args.table.now c.args.file old mid (g.V.Vol.disk c.drop_block.new.vol) still (c.drop_block.ensures.changes told)
