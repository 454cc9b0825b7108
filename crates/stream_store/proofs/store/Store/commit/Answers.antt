use Rattle.std.proofs.Common.{◌≤◌, ◌∙◌, length, ap, subst, sym}
use Rattle.block_table.specs.Blocks.{Blocks, blocks}
use Rattle.stream_store.specs.Placing.{used_behind}
use Rattle.stream_store.specs.StoreState.{StoreState}
use Rattle.stream_store.proofs.Faults.{volume_worn}
use Rattle.stream_store.proofs.Known.{committed_then, empties_then, leaves_then, more_then}
use Rattle.stream_store.proofs.store.Store.commit.Goals as goal

pub top_up-requires : goal.top_up-requires
top_up-requires g c = record { base = λ told. let f = c.requires.fits told in (f.1, c.in_ok-append.ensures.committed told f.0 f.1 f.2 f.3) }

pub returns-in_err-top_up-clause-any_moment : goal.returns-in_err-top_up-clause-any_moment
returns-in_err-top_up-clause-any_moment g c = λ told.
    leaves_then c.args.self.now c.append.new.self c.args.effects.now (g.V.Vol.disk c.args.vol.now) (g.V.Vol.disk c.append.new.vol) (g.V.Vol.disk c.top_up.new.vol) (c.append.ensures.any_moment told)
    (c.in_ok-append.ensures.committed told) (c.top_up.ensures.any_moment told)

pub returns-clause-any_moment : goal.returns-clause-any_moment
returns-clause-any_moment g c = λ told.
    leaves_then c.args.self.now c.append.new.self c.args.effects.now (g.V.Vol.disk c.args.vol.now) (g.V.Vol.disk c.append.new.vol) (g.V.Vol.disk c.top_up.new.vol) (c.append.ensures.any_moment told)
    (c.in_ok-append.ensures.committed told) (c.top_up.ensures.any_moment told)

pub returns-clause-committed : goal.returns-clause-committed
returns-clause-committed g c = λ told.
    committed_then c.args.self.now c.append.new.self c.top_up.new.self c.args.effects.now (g.V.Vol.disk c.args.vol.now) (g.V.Vol.disk c.append.new.vol) (g.V.Vol.disk c.top_up.new.vol)
    (c.in_ok-append.ensures.committed told) (c.in_ok-top_up.ensures.keeps told)

pub returns-clause-log : goal.returns-clause-log
returns-clause-log g c = ap (λ (t : StoreState). t.log) c.top_up.ensures.same ∙ c.in_ok-append.ensures.log

pub returns-clause-blocks : goal.returns-clause-blocks
returns-clause-blocks g c = ap (λ (t : StoreState). t.blocks) c.top_up.ensures.same ∙ c.in_ok-append.ensures.blocks

pub returns-clause-fewer : goal.returns-clause-fewer
returns-clause-fewer g c =
    subst (λ (b : Blocks). length (blocks b) ≤ used_behind c.args.self.now.blocks c.args.effects.now) (sym (ap (λ (t : StoreState). t.blocks) c.top_up.ensures.same)) c.in_ok-append.ensures.fewer

pub returns-clause-more : goal.returns-clause-more
returns-clause-more g c = more_then c.args.self.now.rooms c.append.new.self.rooms c.top_up.new.self.rooms c.in_ok-append.ensures.more c.top_up.ensures.more

pub returns-clause-emptied : goal.returns-clause-emptied
returns-clause-emptied g c = λ told.
    let f = c.requires.fits told in
    empties_then c.args.self.now c.append.new.self c.top_up.new.self c.args.effects.now (g.V.Vol.disk c.args.vol.now) (g.V.Vol.disk c.append.new.vol) (g.V.Vol.disk c.top_up.new.vol) f.2.of_log.table c.requires.records
    c.append.ensures.behind (c.in_ok-append.ensures.emptied told) (ap (λ (t : StoreState). t.blocks) c.top_up.ensures.same) (ap (λ (t : StoreState). t.unused) c.top_up.ensures.same)
    (c.top_up.ensures.elsewhere told)

pub returns-clause-head : goal.returns-clause-head
returns-clause-head g c = ap (λ (t : StoreState). t.log.head) c.top_up.ensures.same ∙ c.append.ensures.head

pub returns-in_err-top_up-clause-head : goal.returns-in_err-top_up-clause-head
returns-in_err-top_up-clause-head g c = ap (λ (t : StoreState). t.log.head) c.top_up.ensures.same ∙ c.append.ensures.head

pub returns-in_err-top_up-clause-worn : goal.returns-in_err-top_up-clause-worn
returns-in_err-top_up-clause-worn g c = volume_worn c.from_residual-in_err-top_up.result c.from_residual-in_err-top_up.ensures.1
