use Rattle.std.proofs.Common.{◌≡◌, ◌&&◌, Bool, List, false, not, inl, inr, refl, ap, subst, sym}
use Rattle.block_table.specs.declared.block.Block.{Block}
use Rattle.block_table.specs.Blocks.{Blocks, has_block, is_among}
use Rattle.block_writing.specs.Dropping.{AreEmptied, ChangesUnused}
use Rattle.stream_store.specs.Rooms.{AreRooms}
use Rattle.stream_store.specs.Staging.{HasDropped}
use Rattle.stream_store.specs.Steps.{blocks_in}
use Rattle.stream_store.specs.StoreState.{StoreState}
use Rattle.stream_store.specs.declared.rooms.Rooms.{Rooms}
use Rattle.stream_store.proofs.Committing.{drops_nothing}
use Rattle.stream_store.proofs.Known.{rooms_dropped}
use Rattle.stream_store.proofs.store.Store.drop_left.Goals as goal

pub returns-in_default-clause-changes : goal.returns-in_default-clause-changes
returns-in_default-clause-changes g c = λ told. drops_nothing c.args.self.now.blocks (g.V.Vol.disk c.args.vol.now) (g.met.V.Vol.clocked c.args.vol.now)

pub returns-in_default-clause-emptied : goal.returns-in_default-clause-emptied
returns-in_default-clause-emptied g c = λ told. inr (ap (λ (t : StoreState). t.unused) c.self.view_is)

pub returns-in_default-clause-elsewhere : goal.returns-in_default-clause-elsewhere
returns-in_default-clause-elsewhere g c = λ told file none. record { seen = refl; leaves = λ bytes left. left }

pub returns-in_err-drop_unused-clause-elsewhere : goal.returns-in_err-drop_unused-clause-elsewhere
returns-in_err-drop_unused-clause-elsewhere g c = λ told file none.
    let old = g.V.Vol.disk c.args.vol.now in
    let new = g.V.Vol.disk c.drop_unused.new.vol in
    let table = c.catch_up.new.self.table in
    let changes = subst (λ (l : List Block). ChangesUnused table l old new) c.as_slice.ensures.value (c.drop_unused.ensures.changes told) in
    changes.elsewhere file (ap (λ (t : Bool). t && not (has_block table file)) (subst (λ (t : StoreState). is_among t.unused file ≡ false) (sym c.self.view_is) none))

pub returns-clause-elsewhere : goal.returns-clause-elsewhere
returns-clause-elsewhere g c = λ told file none.
    let old = g.V.Vol.disk c.args.vol.now in
    let new = g.V.Vol.disk c.drop_unused.new.vol in
    let table = c.catch_up.new.self.table in
    let changes = subst (λ (l : List Block). ChangesUnused table l old new) c.as_slice.ensures.value (c.drop_unused.ensures.changes told) in
    changes.elsewhere file (ap (λ (t : Bool). t && not (has_block table file)) (subst (λ (t : StoreState). is_among t.unused file ≡ false) (sym c.self.view_is) none))

pub returns-clause-emptied : goal.returns-clause-emptied
returns-clause-emptied g c = λ told.
    let i = c.self.inside in
    let new = g.V.Vol.disk c.drop_unused.new.vol in
    let b = blocks_in i.late in
    let emptied : AreEmptied b i.unused.items new =
    subst (λ (l : List Block). AreEmptied b l new) c.as_slice.ensures.value
    (subst (λ (x : Blocks). AreEmptied x c.as_slice.result.now new) c.in-Ok.ensures.all (c.in_ok-drop_unused.ensures.emptied told)) in
    subst (λ (t : StoreState). HasDropped t.blocks t.unused c.clear.new.self.items new) c.self.view_is (inl (c.clear.ensures.items, emptied))

pub returns-in_default-clause-known : goal.returns-in_default-clause-known
returns-in_default-clause-known g c = λ told are. subst (λ (t : StoreState). AreRooms t.rooms (g.V.Vol.disk c.args.vol.now)) (sym c.self.view_is) are

pub returns-clause-known : goal.returns-clause-known
returns-clause-known g c = λ told are.
    let i = c.self.inside in
    let old = g.V.Vol.disk c.args.vol.now in
    let new = g.V.Vol.disk c.drop_unused.new.vol in
    let table = c.catch_up.new.self.table in
    let changes = subst (λ (l : List Block). ChangesUnused table l old new) c.as_slice.ensures.value (c.drop_unused.ensures.changes told) in
    subst (λ (r : Rooms). AreRooms r new) (sym c.forget.ensures.value) (rooms_dropped table i.unused.items i.rooms old new c.self.invariant.1.0 changes (subst (λ (t : StoreState). AreRooms t.rooms old) (sym c.self.view_is) are))
