use Rattle.std.proofs.Common.{◌≡◌, ◌≤◌, ◌+◌, ◌++◌, ◌∙◌, inl, true, IsSome, List, length, ap, arith, refl, subst, sym}
use Rattle.std.specs.Prelude.{All}
use Rattle.gate_log.specs.LogState.{LogState, with_batch}
use Rattle.block_table.specs.declared.block.Block.{Block}
use Rattle.block_table.specs.Blocks.{Blocks, blocks}
use Rattle.block_writing.specs.Runs.{AreApart, IsShort}
use Rattle.block_writing.proofs.Commits.{law_plans}
use Rattle.stream_store.specs.Base.{IsBaseOf}
use Rattle.stream_store.specs.Committing.{EmptiesUnused, batch_length}
use Rattle.stream_store.specs.Placing.{blocks_then, can_place, used_behind}
use Rattle.stream_store.specs.Reserving.{HasMessageRoom}
use Rattle.stream_store.specs.Rooms.{AreRooms, HasLogRoom}
use Rattle.stream_store.specs.Staging.{AreBehindLogs, HasDropped}
use Rattle.stream_store.specs.Steps.{blocks_in, with_steps}
use Rattle.stream_store.specs.StoreState.{StoreState}
use Rattle.stream_store.specs.Writing.{IsStagedOn}
use Rattle.stream_store.proofs.Committed.{all_leaves, new_base}
use Rattle.stream_store.proofs.Committing.{commits_nothing, log_low}
use Rattle.stream_store.proofs.Counting.{law_counting}
use Rattle.stream_store.proofs.Faults.{memory_worn, volume_worn}
use Rattle.stream_store.proofs.Known.{longer_same, room_known, room_short, rooms_longer, within_staged}
use Rattle.stream_store.proofs.Stages.{staged_blocks, staged_length}
use Rattle.stream_store.proofs.Unused.{empties}
use Rattle.stream_store.proofs.store.Store.append.Goals as goal

pub stage-requires : goal.stage-requires
stage-requires g c =
    let i = c.self.inside in
    let within : HasLogRoom i.log i.rooms (batch_length c.args.effects.now) = subst (λ (t : StoreState). HasLogRoom t.log t.rooms (batch_length c.args.effects.now)) (sym c.self.view_is) c.requires.log_room in
    let most = room_short i.rooms i.log.file (i.log.end + 10 + batch_length c.args.effects.now) c.self.invariant.1.1 within in
    record {
      records = c.requires.records;
      short = omega (arith, most);
      room = subst (λ (t : StoreState). can_place t.blocks c.args.effects.now ≡ true) (sym c.self.view_is) c.requires.room;
    }

-- nothing was written
pub returns-in_err-staged-clause-any_moment : goal.returns-in_err-staged-clause-any_moment
returns-in_err-staged-clause-any_moment g c = λ told base next is_base is_next.
    commits_nothing c.args.self.now.log c.args.self.now.blocks base next (g.V.Vol.disk c.args.vol.now) is_base.of_log (g.met.V.Vol.clocked c.args.vol.now)

pub returns-in_err-unused-clause-any_moment : goal.returns-in_err-unused-clause-any_moment
returns-in_err-unused-clause-any_moment g c = λ told base next is_base is_next.
    commits_nothing c.args.self.now.log c.args.self.now.blocks base next (g.V.Vol.disk c.args.vol.now) is_base.of_log (g.met.V.Vol.clocked c.args.vol.now)

-- the messages and the batch are written
pub write_staged-requires : goal.write_staged-requires
write_staged-requires g c =
    let i = c.self.inside in
    let b = blocks_in i.late in
    let es = c.args.effects.now in
    let staged = c.in_ok-staged.staged in
    let s = c.in_ok-staged.ensures.staged in
    let p = s.prepared in
    let runs = law_plans.runs b es p.made p.planned in
    let size = staged_length b es staged s in
    let within : HasLogRoom i.log i.rooms (batch_length es) = subst (λ (t : StoreState). HasLogRoom t.log t.rooms (batch_length es)) (sym c.self.view_is) c.requires.log_room in
    let most = room_short i.rooms i.log.file (i.log.end + 10 + batch_length es) c.self.invariant.1.1 within in
    record {
      ready = record {
        short = subst (All IsShort) (sym p.runs) runs.short;
        apart = subst AreApart (sym p.runs) runs.apart;
        head = subst IsSome (sym c.self.invariant.0) refl;
        end = omega (arith, most, size);
      };
      room = λ told.
          let f = c.requires.fits told in
          let old = g.V.Vol.disk c.args.vol.now in
          let is : IsBaseOf i.log b f.0 old = subst (λ (t : StoreState). IsBaseOf t.log t.blocks f.0 old) (sym c.self.view_is) f.2.of_log in
          let known : AreRooms i.rooms old = subst (λ (t : StoreState). AreRooms t.rooms old) (sym c.self.view_is) f.2.rooms in
          let room : HasMessageRoom b es old = subst (λ (t : StoreState). HasMessageRoom t.blocks es old) (sym c.self.view_is) (c.requires.message_room told) in
          let has = room_known i.rooms old i.log.file (i.log.end + 10 + batch_length es) (log_low i.log b f.0 old is) known within in
          record { in_log = omega (arith, has, size); in_files = within_staged b es staged old p room };
      staged = λ told.
          let f = c.requires.fits told in
          let old = g.V.Vol.disk c.args.vol.now in
          let is : IsBaseOf i.log b f.0 old = subst (λ (t : StoreState). IsBaseOf t.log t.blocks f.0 old) (sym c.self.view_is) f.2.of_log in
          inl (b, f.0, f.1, record { effects = es; base_is = is; next_is = f.3; staged_is = s });
    }

pub returns-in_err-write_staged-clause-any_moment : goal.returns-in_err-write_staged-clause-any_moment
returns-in_err-write_staged-clause-any_moment g c = λ told base next is_base is_next.
    let i = c.self.inside in
    let b = blocks_in i.late in
    let old = g.V.Vol.disk c.args.vol.now in
    let is : IsBaseOf i.log b base old = subst (λ (t : StoreState). IsBaseOf t.log t.blocks base old) (sym c.self.view_is) is_base.of_log in
    c.write_staged.ensures.any_moment told b base next (record { effects = c.args.effects.now; base_is = is; next_is = is_next; staged_is = c.in_ok-staged.ensures.staged })

-- unused blocks are dropped
pub returns-in_err-drop_left-clause-any_moment : goal.returns-in_err-drop_left-clause-any_moment
returns-in_err-drop_left-clause-any_moment g c = λ told base next is_base is_next.
    let i = c.self.inside in
    let b = blocks_in i.late in
    let staged = c.in_ok-staged.staged in
    let old = g.V.Vol.disk c.args.vol.now in
    let mid = g.V.Vol.disk c.write_staged.new.vol in
    let new = g.V.Vol.disk c.drop_left.new.vol in
    let is : IsBaseOf i.log b base old = subst (λ (t : StoreState). IsBaseOf t.log t.blocks base old) (sym c.self.view_is) is_base.of_log in
    let on : IsStagedOn i.log b base next staged old = record { effects = c.args.effects.now; base_is = is; next_is = is_next; staged_is = c.in_ok-staged.ensures.staged } in
    let after : blocks_in c.wait.new.self ≡ with_steps staged.steps.items b = c.wait.ensures.value ∙ ap (with_steps staged.steps.items) c.stage.ensures.same in
    let kept : IsBaseOf c.write_staged.new.log (blocks_in c.wait.new.self) next mid =
    subst (λ (x : Blocks). IsBaseOf c.write_staged.new.log x next mid) (sym after) (c.in_ok-write_staged.ensures.written told b base next on) in
    all_leaves c.write_staged.new.log (blocks_in c.wait.new.self) next mid new kept (c.drop_left.ensures.changes told) base old (c.write_staged.ensures.any_moment told b base next on)

pub returns-clause-any_moment : goal.returns-clause-any_moment
returns-clause-any_moment g c = λ told base next is_base is_next.
    let i = c.self.inside in
    let b = blocks_in i.late in
    let staged = c.in_ok-staged.staged in
    let old = g.V.Vol.disk c.args.vol.now in
    let mid = g.V.Vol.disk c.write_staged.new.vol in
    let new = g.V.Vol.disk c.drop_left.new.vol in
    let is : IsBaseOf i.log b base old = subst (λ (t : StoreState). IsBaseOf t.log t.blocks base old) (sym c.self.view_is) is_base.of_log in
    let on : IsStagedOn i.log b base next staged old = record { effects = c.args.effects.now; base_is = is; next_is = is_next; staged_is = c.in_ok-staged.ensures.staged } in
    let after : blocks_in c.wait.new.self ≡ with_steps staged.steps.items b = c.wait.ensures.value ∙ ap (with_steps staged.steps.items) c.stage.ensures.same in
    let kept : IsBaseOf c.write_staged.new.log (blocks_in c.wait.new.self) next mid =
    subst (λ (x : Blocks). IsBaseOf c.write_staged.new.log x next mid) (sym after) (c.in_ok-write_staged.ensures.written told b base next on) in
    all_leaves c.write_staged.new.log (blocks_in c.wait.new.self) next mid new kept (c.drop_left.ensures.changes told) base old (c.write_staged.ensures.any_moment told b base next on)

pub returns-clause-committed : goal.returns-clause-committed
returns-clause-committed g c = λ told base next is_base is_next.
    let i = c.self.inside in
    let b = blocks_in i.late in
    let staged = c.in_ok-staged.staged in
    let old = g.V.Vol.disk c.args.vol.now in
    let mid = g.V.Vol.disk c.write_staged.new.vol in
    let new = g.V.Vol.disk c.drop_left.new.vol in
    let is : IsBaseOf i.log b base old = subst (λ (t : StoreState). IsBaseOf t.log t.blocks base old) (sym c.self.view_is) is_base.of_log in
    let known : AreRooms i.rooms old = subst (λ (t : StoreState). AreRooms t.rooms old) (sym c.self.view_is) is_base.rooms in
    let on : IsStagedOn i.log b base next staged old = record { effects = c.args.effects.now; base_is = is; next_is = is_next; staged_is = c.in_ok-staged.ensures.staged } in
    let after : blocks_in c.wait.new.self ≡ with_steps staged.steps.items b = c.wait.ensures.value ∙ ap (with_steps staged.steps.items) c.stage.ensures.same in
    let kept : IsBaseOf c.write_staged.new.log (blocks_in c.wait.new.self) next mid =
    subst (λ (x : Blocks). IsBaseOf c.write_staged.new.log x next mid) (sym after) (c.in_ok-write_staged.ensures.written told b base next on) in
    record {
      of_log =
          subst (λ (l : LogState). IsBaseOf l c.drop_left.new.self.blocks next new) (sym c.drop_left.ensures.log)
          (subst (λ (x : Blocks). IsBaseOf c.write_staged.new.log x next new) (sym c.drop_left.ensures.blocks) (new_base c.write_staged.new.log (blocks_in c.wait.new.self) next mid new kept (c.drop_left.ensures.changes told)));
      rooms = c.in_ok-drop_left.ensures.known told (rooms_longer i.rooms old mid (longer_same old mid (c.in_ok-write_staged.ensures.as_long told)) known);
    }

pub returns-clause-log : goal.returns-clause-log
returns-clause-log g c =
    let i = c.self.inside in
    let s = c.in_ok-staged.ensures.staged in
    c.drop_left.ensures.log ∙ c.in_ok-write_staged.ensures.log ∙ ap (with_batch i.log) (staged_length (blocks_in i.late) c.args.effects.now c.in_ok-staged.staged s)
    ∙ ap (λ (t : StoreState). with_batch t.log (batch_length c.args.effects.now)) c.self.view_is

pub returns-clause-blocks : goal.returns-clause-blocks
returns-clause-blocks g c =
    let late = c.self.inside.late in
    let staged = c.in_ok-staged.staged in
    c.drop_left.ensures.blocks ∙ c.wait.ensures.value ∙ ap (with_steps staged.steps.items) c.stage.ensures.same ∙ staged_blocks (blocks_in late) c.args.effects.now staged c.in_ok-staged.ensures.staged.prepared
    ∙ ap (λ (t : StoreState). blocks_then t.blocks c.args.effects.now) c.self.view_is

pub returns-clause-fewer : goal.returns-clause-fewer
returns-clause-fewer g c =
    let late = c.self.inside.late in
    let es = c.args.effects.now in
    let staged = c.in_ok-staged.staged in
    let made : c.drop_left.new.self.blocks ≡ blocks_then c.args.self.now.blocks es =
    c.drop_left.ensures.blocks ∙ c.wait.ensures.value ∙ ap (with_steps staged.steps.items) c.stage.ensures.same ∙ staged_blocks (blocks_in late) es staged c.in_ok-staged.ensures.staged.prepared
    ∙ ap (λ (t : StoreState). blocks_then t.blocks es) c.self.view_is in
    subst (λ (x : Blocks). length (blocks x) ≤ used_behind c.args.self.now.blocks es) (sym made) (law_counting.commit c.args.self.now.blocks es c.requires.room)

pub returns-clause-more : goal.returns-clause-more
returns-clause-more g c =
    let zero : c.drop_left.new.self.rooms.zero ≡ c.args.self.now.rooms.zero = c.drop_left.ensures.logs.0 ∙ ap (λ (t : StoreState). t.rooms.zero) c.self.view_is in
    let one : c.drop_left.new.self.rooms.one ≡ c.args.self.now.rooms.one = c.drop_left.ensures.logs.1 ∙ ap (λ (t : StoreState). t.rooms.one) c.self.view_is in
    record { in_zero = omega (arith, zero); in_one = omega (arith, one) }

pub returns-clause-emptied : goal.returns-clause-emptied
returns-clause-emptied g c = λ told.
    let i = c.self.inside in
    let b = blocks_in i.late in
    let es = c.args.effects.now in
    let staged = c.in_ok-staged.staged in
    let s = c.in_ok-staged.ensures.staged in
    let f = c.requires.fits told in
    let old = g.V.Vol.disk c.args.vol.now in
    let mid = g.V.Vol.disk c.write_staged.new.vol in
    let new = g.V.Vol.disk c.drop_left.new.vol in
    let store : StoreState = record { log = i.log; blocks = b; unused = i.unused.items; rooms = i.rooms } in
    let ks = c.in_ok-unused.unused.items in
    let ks_are : ks ≡ i.unused.items ++ staged.blocks.items =
    c.in_ok-unused.ensures.value ∙ ap (λ (l : List Block). l ++ c.as_slice-2.result.now) c.as_slice.ensures.value ∙ ap (λ (l : List Block). i.unused.items ++ l) c.as_slice-2.ensures.value in
    let after : blocks_in c.wait.new.self ≡ with_steps staged.steps.items b = c.wait.ensures.value ∙ ap (with_steps staged.steps.items) c.stage.ensures.same in
    let low = log_low i.log b f.0 old (subst (λ (t : StoreState). IsBaseOf t.log t.blocks f.0 old) (sym c.self.view_is) f.2.of_log) in
    let dropped : HasDropped c.drop_left.new.self.blocks ks c.drop_left.new.self.unused new =
    subst (λ (x : Blocks). HasDropped x ks c.drop_left.new.self.unused new) (sym c.drop_left.ensures.blocks) (c.in_ok-drop_left.ensures.emptied told) in
    subst (λ (t : StoreState). EmptiesUnused t c.drop_left.new.self es old new) c.self.view_is
    (empties store c.drop_left.new.self es staged s.prepared (c.drop_left.ensures.blocks ∙ after) ks ks_are old mid new
    (λ file high none. c.write_staged.ensures.elsewhere told file (λ is. omega (arith, is, high, low)) none) dropped (c.drop_left.ensures.elsewhere told))

-- ---- no fault is told as `Worn`

pub returns-in_err-staged-clause-worn : goal.returns-in_err-staged-clause-worn
returns-in_err-staged-clause-worn g c = memory_worn c.from_residual.result c.from_residual.ensures.1

pub returns-in_err-unused-clause-worn : goal.returns-in_err-unused-clause-worn
returns-in_err-unused-clause-worn g c = memory_worn c.from_residual-in_err-unused.result c.from_residual-in_err-unused.ensures.1

pub returns-in_err-write_staged-clause-worn : goal.returns-in_err-write_staged-clause-worn
returns-in_err-write_staged-clause-worn g c = volume_worn c.from_residual-in_err-write_staged.result c.from_residual-in_err-write_staged.ensures.1

pub returns-in_err-drop_left-clause-worn : goal.returns-in_err-drop_left-clause-worn
returns-in_err-drop_left-clause-worn g c = volume_worn c.from_residual-in_err-drop_left.result c.from_residual-in_err-drop_left.ensures.1

-- ---- what was to be dropped is behind the logs

pub returns-in_err-staged-clause-behind : goal.returns-in_err-staged-clause-behind
returns-in_err-staged-clause-behind g c = subst (λ (t : StoreState). AreBehindLogs t.unused) c.self.view_is c.self.invariant.1.0

pub returns-in_err-unused-clause-behind : goal.returns-in_err-unused-clause-behind
returns-in_err-unused-clause-behind g c = subst (λ (t : StoreState). AreBehindLogs t.unused) c.self.view_is c.self.invariant.1.0

pub returns-in_err-write_staged-clause-behind : goal.returns-in_err-write_staged-clause-behind
returns-in_err-write_staged-clause-behind g c = subst (λ (t : StoreState). AreBehindLogs t.unused) c.self.view_is c.self.invariant.1.0

pub returns-in_err-drop_left-clause-behind : goal.returns-in_err-drop_left-clause-behind
returns-in_err-drop_left-clause-behind g c = subst (λ (t : StoreState). AreBehindLogs t.unused) c.self.view_is c.self.invariant.1.0

pub returns-clause-behind : goal.returns-clause-behind
returns-clause-behind g c = subst (λ (t : StoreState). AreBehindLogs t.unused) c.self.view_is c.self.invariant.1.0
