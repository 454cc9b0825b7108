use Rattle.std.proofs.Common.{Err, ◌≤◌, ◌+◌, ◌^◌, ◌∙◌, length, unwrap_or, ap, arith, refl, subst, sym}
use Rattle.block_table.specs.Blocks.{Blocks, blocks}
use Rattle.stream_store.specs.Placing.{used_behind}
use Rattle.stream_store.specs.Rooms.{AreReserved}
use Rattle.stream_store.specs.Staging.{AreBehindLogs}
use Rattle.stream_store.specs.StoreState.{StoreState}
use Rattle.stream_store.specs.declared.fault.CommitFault.TheVariants.{Worn}
use Rattle.stream_store.proofs.Alternations.{is_worn, not_worn}
use Rattle.stream_store.proofs.Committing.{commits_nothing}
use Rattle.stream_store.proofs.Faults.{never_told, volume_worn}
use Rattle.stream_store.proofs.Known.{committed_then, empties_then, leaves_then, room_reserved, room_short}
use Rattle.stream_store.proofs.store.Store.alternate.Goals as goal

pub returns-then-self-ge-LAST_GENERATION-clause-any_moment : goal.returns-then-self-ge-LAST_GENERATION-clause-any_moment
returns-then-self-ge-LAST_GENERATION-clause-any_moment g c = λ told base next is_base is_next.
    commits_nothing c.args.self.now.log c.args.self.now.blocks base next (g.V.Vol.disk c.args.vol.now) is_base.of_log (g.met.V.Vol.clocked c.args.vol.now)

pub returns-then-self-ge-LAST_GENERATION-clause-worn : goal.returns-then-self-ge-LAST_GENERATION-clause-worn
returns-then-self-ge-LAST_GENERATION-clause-worn g c =
    let head = ap (λ (t : StoreState). t.log.head) (sym c.self.view_is) ∙ c.self.invariant.0 in
    (λ is. is_worn c.args.self.now.log c.self.inside.generation head (omega (arith, c.if-self-ge-LAST_GENERATION.true)), λ worn. refl)

pub begin_next-requires : goal.begin_next-requires
begin_next-requires g c =
    let head = ap (λ (t : StoreState). t.log.head) (sym c.self.view_is) ∙ c.self.invariant.0 in
    record {
      fresh = not_worn c.args.self.now.log c.self.inside.generation head (omega (arith, c.if-self-ge-LAST_GENERATION.false));
      records = c.requires.records;
      room = c.requires.room;
      formed = c.requires.formed;
      storable = c.requires.storable;
      within = c.requires.within;
      reserved = c.requires.reserved;
      message_room = c.requires.message_room;
      fits = c.requires.fits;
    }

pub returns-in_err-begin_next-clause-worn : goal.returns-in_err-begin_next-clause-worn
returns-in_err-begin_next-clause-worn g c =
    let head = ap (λ (t : StoreState). t.log.head) (sym c.self.view_is) ∙ c.self.invariant.0 in
    (λ is. absurd (never_told c.from_residual.result (Err c.in_err-begin_next.field-0.0) c.in_err-begin_next.field-0.0 Worn c.from_residual.ensures.1 refl c.in_err-begin_next.ensures.worn is), λ worn. absurd (not_worn c.args.self.now.log c.self.inside.generation head (omega (arith, c.if-self-ge-LAST_GENERATION.false)) worn))

pub trim-requires : goal.trim-requires
trim-requires g c =
    let most = room_short c.self.inside.rooms 0 (c.args.bound + 2 ^ 16) c.self.invariant.1.1
    (room_reserved c.self.inside.rooms 0 c.args.bound (subst (λ (t : StoreState). AreReserved t.rooms c.args.bound) (sym c.self.view_is) c.requires.reserved)) in
    record {
      small = omega (arith, most);
      within = c.in_ok-begin_next.ensures.within;
      closed = c.in_ok-begin_next.ensures.closed;
      base = λ told. let f = c.requires.fits told in (c.args.next.now, c.in_ok-begin_next.ensures.committed told f.0 c.args.next.now f.1 f.2);
      reserved = c.in_ok-begin_next.ensures.reserved;
    }

pub returns-in_err-trim-clause-any_moment : goal.returns-in_err-trim-clause-any_moment
returns-in_err-trim-clause-any_moment g c = λ told.
    leaves_then c.args.self.now c.begin_next.new.self c.args.effects.now (g.V.Vol.disk c.args.vol.now) (g.V.Vol.disk c.begin_next.new.vol) (g.V.Vol.disk c.trim.new.vol) (c.begin_next.ensures.any_moment told)
    (c.in_ok-begin_next.ensures.committed told) (c.trim.ensures.any_moment told)

pub returns-in_err-trim-clause-generation : goal.returns-in_err-trim-clause-generation
returns-in_err-trim-clause-generation g c =
    subst (λ (t : StoreState). unwrap_or c.args.self.now.log.head 0 ≤ unwrap_or t.log.head 0) (sym c.trim.ensures.same) c.begin_next.ensures.generation

pub returns-clause-any_moment : goal.returns-clause-any_moment
returns-clause-any_moment g c = λ told.
    leaves_then c.args.self.now c.begin_next.new.self c.args.effects.now (g.V.Vol.disk c.args.vol.now) (g.V.Vol.disk c.begin_next.new.vol) (g.V.Vol.disk c.trim.new.vol) (c.begin_next.ensures.any_moment told)
    (c.in_ok-begin_next.ensures.committed told) (c.trim.ensures.any_moment told)

pub returns-clause-generation : goal.returns-clause-generation
returns-clause-generation g c =
    subst (λ (t : StoreState). unwrap_or c.args.self.now.log.head 0 ≤ unwrap_or t.log.head 0) (sym c.trim.ensures.same) c.begin_next.ensures.generation

pub returns-in_err-trim-clause-worn : goal.returns-in_err-trim-clause-worn
returns-in_err-trim-clause-worn g c =
    let head = ap (λ (t : StoreState). t.log.head) (sym c.self.view_is) ∙ c.self.invariant.0 in
    (λ is. absurd (volume_worn c.from_residual-in_err-trim.result c.from_residual-in_err-trim.ensures.1 is), λ worn. absurd (not_worn c.args.self.now.log c.self.inside.generation head (omega (arith, c.if-self-ge-LAST_GENERATION.false)) worn))

pub returns-clause-worn : goal.returns-clause-worn
returns-clause-worn g c =
    let head = ap (λ (t : StoreState). t.log.head) (sym c.self.view_is) ∙ c.self.invariant.0 in
    (λ is. absurd (cc), λ worn. absurd (not_worn c.args.self.now.log c.self.inside.generation head (omega (arith, c.if-self-ge-LAST_GENERATION.false)) worn))

pub returns-clause-committed : goal.returns-clause-committed
returns-clause-committed g c = λ told.
    committed_then c.args.self.now c.begin_next.new.self c.trim.new.self c.args.effects.now (g.V.Vol.disk c.args.vol.now) (g.V.Vol.disk c.begin_next.new.vol) (g.V.Vol.disk c.trim.new.vol)
    (c.in_ok-begin_next.ensures.committed told) (c.in_ok-trim.ensures.keeps told)

pub returns-clause-log : goal.returns-clause-log
returns-clause-log g c =
    ap (λ (t : StoreState). t.log) c.trim.ensures.same ∙ c.in_ok-begin_next.ensures.log

pub returns-clause-blocks : goal.returns-clause-blocks
returns-clause-blocks g c =
    ap (λ (t : StoreState). t.blocks) c.trim.ensures.same ∙ c.in_ok-begin_next.ensures.blocks

pub returns-clause-fewer : goal.returns-clause-fewer
returns-clause-fewer g c =
    subst (λ (b : Blocks). length (blocks b) ≤ used_behind c.args.self.now.blocks c.args.effects.now) (sym (ap (λ (t : StoreState). t.blocks) c.trim.ensures.same)) c.in_ok-begin_next.ensures.fewer

pub returns-clause-emptied : goal.returns-clause-emptied
returns-clause-emptied g c = λ told.
    let f = c.requires.fits told in
    empties_then c.args.self.now c.begin_next.new.self c.trim.new.self c.args.effects.now (g.V.Vol.disk c.args.vol.now) (g.V.Vol.disk c.begin_next.new.vol) (g.V.Vol.disk c.trim.new.vol) f.1.of_log.table c.requires.records
    (subst (λ (t : StoreState). AreBehindLogs t.unused) c.self.view_is c.self.invariant.1.0) (c.in_ok-begin_next.ensures.emptied told) (ap (λ (t : StoreState). t.blocks) c.trim.ensures.same) (ap (λ (t : StoreState). t.unused) c.trim.ensures.same)
    (c.trim.ensures.elsewhere told)
