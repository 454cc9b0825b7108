use Rattle.std.proofs.Common.{◌≡◌, ◌≤◌, ◌+◌, ◌++◌, ◌^◌, ◌∙◌, ℕ, true, IsSome, List, length, ap, refl, subst, sym, arith}
use Rattle.std.specs.Prelude.{All}
use Rattle.std.proofs.lemmas.List.Elements.{All-append}
use Rattle.vol_disk.specs.Moments.{LeavesOnly}
use Rattle.gate_log.specs.LogState.{LogState, with_batch}
use Rattle.block_table.specs.declared.block.Block.{Block}
use Rattle.block_table.specs.Blocks.{Blocks, blocks}
use Rattle.block_writing.specs.Runs.{AreApart, IsShort}
use Rattle.block_writing.specs.Writing.{AreAsLong}
use Rattle.block_writing.proofs.Commits.{law_plans}
use Rattle.stream_store.specs.Alternating.{IsWorn, begun_next, first_length, next_log, other_file}
use Rattle.stream_store.specs.Base.{IsBaseOf}
use Rattle.stream_store.specs.Clearing.{IsOtherClosed}
use Rattle.stream_store.specs.Committing.{EmptiesUnused}
use Rattle.stream_store.specs.Placing.{blocks_then, can_place, used_behind}
use Rattle.stream_store.specs.Reserving.{HasMessageRoom}
use Rattle.stream_store.specs.Rooms.{AreLonger, AreRooms, is_reserved}
use Rattle.stream_store.specs.Staging.{AreBehindLogs, HasDropped, IsFirstWith}
use Rattle.stream_store.specs.Steps.{blocks_in, with_steps}
use Rattle.stream_store.specs.StoreState.{StoreState}
use Rattle.stream_store.specs.Writing.{IsStagedNext}
use Rattle.stream_store.proofs.Alternated.{other_low}
use Rattle.stream_store.proofs.Alternations.{begun_is, behind_start, empties_behind, generation_kept, generation_next, not_last, same_next, staged_next, start_leaves}
use Rattle.stream_store.proofs.Closed.{closed_dropped}
use Rattle.stream_store.proofs.Committed.{all_leaves, new_base}
use Rattle.stream_store.proofs.Committing.{OneOfBoth, commits_nothing}
use Rattle.stream_store.proofs.Counting.{law_counting}
use Rattle.stream_store.proofs.Faults.{memory_worn, volume_worn}
use Rattle.stream_store.proofs.Known.{longer_same, reserved_kept, room_known, room_reserved, room_short, rooms_longer, same_then, within_staged}
use Rattle.stream_store.proofs.MessageRooms.{law_reserving}
use Rattle.stream_store.proofs.Stages.{staged_blocks}
use Rattle.stream_store.proofs.Unused.{empties}
use Rattle.stream_store.proofs.store.Store.begin_next.Goals as goal

pub returns-in_err-catch_up-clause-any_moment : goal.returns-in_err-catch_up-clause-any_moment
returns-in_err-catch_up-clause-any_moment g c = λ told base next is_base is_next.
    commits_nothing c.args.self.now.log c.args.self.now.blocks base next (g.V.Vol.disk c.args.vol.now) is_base.of_log (g.met.V.Vol.clocked c.args.vol.now)

pub returns-in_err-staged-clause-any_moment : goal.returns-in_err-staged-clause-any_moment
returns-in_err-staged-clause-any_moment g c = λ told base next is_base is_next.
    commits_nothing c.args.self.now.log c.args.self.now.blocks base next (g.V.Vol.disk c.args.vol.now) is_base.of_log (g.met.V.Vol.clocked c.args.vol.now)

pub returns-in_err-unused-clause-any_moment : goal.returns-in_err-unused-clause-any_moment
returns-in_err-unused-clause-any_moment g c = λ told base next is_base is_next.
    commits_nothing c.args.self.now.log c.args.self.now.blocks base next (g.V.Vol.disk c.args.vol.now) is_base.of_log (g.met.V.Vol.clocked c.args.vol.now)

pub stage_first-requires : goal.stage_first-requires
stage_first-requires g c =
    let i = c.self.inside in
    let reserved : is_reserved i.rooms c.args.bound ≡ true = subst (λ (t : StoreState). is_reserved t.rooms c.args.bound ≡ true) (sym c.self.view_is) c.requires.reserved in
    let most = room_short i.rooms 0 (c.args.bound + 2 ^ 16) c.self.invariant.1.1 (room_reserved i.rooms 0 c.args.bound reserved) in
    record {
      records = c.requires.records;
      room = subst (λ (x : Blocks). can_place x c.args.effects.now ≡ true) (sym (c.in_ok-catch_up.ensures.all ∙ ap (λ (t : StoreState). t.blocks) c.self.view_is)) c.requires.room;
      formed = c.requires.formed;
      storable = c.requires.storable;
      within = c.requires.within;
      small = omega (arith, most);
    }

pub start_next-requires : goal.start_next-requires
start_next-requires g c =
    let i = c.self.inside in
    let fresh : IsWorn i.log → ⊥ = subst (λ (t : StoreState). IsWorn t.log → ⊥) (sym c.self.view_is) c.requires.fresh in
    let reserved : is_reserved i.rooms c.args.bound ≡ true = subst (λ (t : StoreState). is_reserved t.rooms c.args.bound ≡ true) (sym c.self.view_is) c.requires.reserved in
    record {
      below = not_last i.log i.generation c.self.invariant.0 fresh;
      room = λ told.
          let f = c.requires.fits told in
          let old = g.V.Vol.disk c.args.vol.now in
          let known : AreRooms i.rooms old = subst (λ (t : StoreState). AreRooms t.rooms old) (sym c.self.view_is) f.1.rooms in
          let has = room_known i.rooms old (other_file i.log.file) (c.args.bound + 2 ^ 16) (other_low i.log.file) known (room_reserved i.rooms (other_file i.log.file) c.args.bound reserved) in
          omega (arith, has);
      base = λ told. let f = c.requires.fits told in (blocks_in i.late, f.0, subst (λ (t : StoreState). IsBaseOf t.log t.blocks f.0 (g.V.Vol.disk c.args.vol.now)) (sym c.self.view_is) f.1.of_log);
    }

pub returns-in_err-log-clause-any_moment : goal.returns-in_err-log-clause-any_moment
returns-in_err-log-clause-any_moment g c = λ told base next is_base is_next.
    let i = c.self.inside in
    let b = blocks_in i.late in
    let old = g.V.Vol.disk c.args.vol.now in
    let is : IsBaseOf i.log b base old = subst (λ (t : StoreState). IsBaseOf t.log t.blocks base old) (sym c.self.view_is) is_base.of_log in
    start_leaves i.log b base next old (g.V.Vol.disk c.start_next.new.vol) is (c.start_next.ensures.any_moment told b)

pub write_first-requires : goal.write_first-requires
write_first-requires g c =
    let i = c.self.inside in
    let b = blocks_in i.late in
    let es = c.args.effects.now in
    let there = c.args.next.now in
    let table : c.catch_up.new.self.table ≡ b = c.in_ok-catch_up.ensures.all in
    let staged = c.in_ok-staged.staged in
    let s : IsFirstWith b es there staged c.in_ok-staged.table = subst (λ (x : Blocks). IsFirstWith x es there staged c.in_ok-staged.table) table c.in_ok-staged.ensures.staged in
    let p = s.staged_is.prepared in
    let runs = law_plans.runs b es p.made p.planned in
    let mine = c.in_ok-staged.ensures.staged in
    let size : length staged.batch ≡ first_length there (blocks_then c.catch_up.new.self.table es) =
    ap length mine.staged_is.batch ∙ ap (first_length there) (staged_blocks c.catch_up.new.self.table es staged mine.staged_is.prepared) in
    let fits = c.in_ok-staged.ensures.fits in
    let end = ap (λ (l : LogState). l.end) c.in_ok-log.ensures.log in
    let file : c.in_ok-log.log.file ≡ other_file i.log.file = ap (λ (l : LogState). l.file) c.in_ok-log.ensures.log in
    let reserved : is_reserved i.rooms c.args.bound ≡ true = subst (λ (t : StoreState). is_reserved t.rooms c.args.bound ≡ true) (sym c.self.view_is) c.requires.reserved in
    let most = room_short i.rooms 0 (c.args.bound + 2 ^ 16) c.self.invariant.1.1 (room_reserved i.rooms 0 c.args.bound reserved) in
    record {
      ready = record {
        short = subst (All IsShort) (sym p.runs) runs.short;
        apart = subst AreApart (sym p.runs) runs.apart;
        head = subst (λ (l : LogState). IsSome l.head) (sym c.in_ok-log.ensures.log) refl;
        end = omega (arith, fits, size, end, most);
      };
      room = λ told.
          let f = c.requires.fits told in
          let old = g.V.Vol.disk c.args.vol.now in
          let started = g.V.Vol.disk c.start_next.new.vol in
          let longer : AreLonger old started = longer_same old started (c.in_ok-log.ensures.as_long told) in
          let known : AreRooms i.rooms started = rooms_longer i.rooms old started longer (subst (λ (t : StoreState). AreRooms t.rooms old) (sym c.self.view_is) f.1.rooms) in
          let room : HasMessageRoom b es old = subst (λ (t : StoreState). HasMessageRoom t.blocks es old) (sym c.self.view_is) (c.requires.message_room told) in
          let has = room_known i.rooms started (other_file i.log.file) (c.args.bound + 2 ^ 16) (other_low i.log.file) known (room_reserved i.rooms (other_file i.log.file) c.args.bound reserved) in
          record {
            in_log = subst (λ (n : ℕ). c.in_ok-log.log.end + 10 + length staged.batch ≤ length (started.seen n)) (sym file) (omega (arith, has, fits, size, end));
            in_files = within_staged b es staged started p ((law_reserving old started).longer b es longer room);
          };
      staged = λ told.
          let f = c.requires.fits told in
          let base = f.0 in
          let old = g.V.Vol.disk c.args.vol.now in
          let is : IsBaseOf i.log b base old = subst (λ (t : StoreState). IsBaseOf t.log t.blocks base old) (sym c.self.view_is) f.1.of_log in
          let started = g.V.Vol.disk c.start_next.new.vol in
          let at_start : IsBaseOf i.log b base started = c.in_ok-log.ensures.started told b base is in (
            i.log,
            b,
            base,
            there,
            staged_next i.log b base there es there staged c.in_ok-log.log i.generation started at_start f.2 refl s.staged_is c.in_ok-log.ensures.log c.self.invariant.0 (c.in_ok-log.ensures.empty told),
          );
    }

pub returns-in_err-write_first-clause-any_moment : goal.returns-in_err-write_first-clause-any_moment
returns-in_err-write_first-clause-any_moment g c = λ told base next is_base is_next.
    let i = c.self.inside in
    let b = blocks_in i.late in
    let es = c.args.effects.now in
    let there = c.args.next.now in
    let table : c.catch_up.new.self.table ≡ b = c.in_ok-catch_up.ensures.all in
    let staged = c.in_ok-staged.staged in
    let s : IsFirstWith b es there staged c.in_ok-staged.table = subst (λ (x : Blocks). IsFirstWith x es there staged c.in_ok-staged.table) table c.in_ok-staged.ensures.staged in
    let old = g.V.Vol.disk c.args.vol.now in
    let is : IsBaseOf i.log b base old = subst (λ (t : StoreState). IsBaseOf t.log t.blocks base old) (sym c.self.view_is) is_base.of_log in
    let f = c.requires.fits told in
    let is_there : IsBaseOf i.log b f.0 old = subst (λ (t : StoreState). IsBaseOf t.log t.blocks f.0 old) (sym c.self.view_is) f.1.of_log in
    let same : next ≡ there = same_next i.log b old es base f.0 next there is is_there is_next f.2 in
    let started = g.V.Vol.disk c.start_next.new.vol in
    let at_start : IsBaseOf i.log b base started = c.in_ok-log.ensures.started told b base is in
    let mid = g.V.Vol.disk c.write_first.new.vol in
    let on : IsStagedNext i.log b base next staged c.in_ok-log.log started =
    staged_next i.log b base next es there staged c.in_ok-log.log i.generation started at_start is_next same s.staged_is c.in_ok-log.ensures.log c.self.invariant.0 (c.in_ok-log.ensures.empty told) in
    let written : LeavesOnly old mid (OneOfBoth base next) =
    behind_start i.log b base next old started is (c.start_next.ensures.any_moment told b) mid (c.write_first.ensures.any_moment told i.log b base next on) in
    written

pub returns-in_err-drop_left-clause-any_moment : goal.returns-in_err-drop_left-clause-any_moment
returns-in_err-drop_left-clause-any_moment g c = λ told base next is_base is_next.
    let i = c.self.inside in
    let b = blocks_in i.late in
    let es = c.args.effects.now in
    let there = c.args.next.now in
    let table : c.catch_up.new.self.table ≡ b = c.in_ok-catch_up.ensures.all in
    let staged = c.in_ok-staged.staged in
    let s : IsFirstWith b es there staged c.in_ok-staged.table = subst (λ (x : Blocks). IsFirstWith x es there staged c.in_ok-staged.table) table c.in_ok-staged.ensures.staged in
    let old = g.V.Vol.disk c.args.vol.now in
    let is : IsBaseOf i.log b base old = subst (λ (t : StoreState). IsBaseOf t.log t.blocks base old) (sym c.self.view_is) is_base.of_log in
    let f = c.requires.fits told in
    let is_there : IsBaseOf i.log b f.0 old = subst (λ (t : StoreState). IsBaseOf t.log t.blocks f.0 old) (sym c.self.view_is) f.1.of_log in
    let same : next ≡ there = same_next i.log b old es base f.0 next there is is_there is_next f.2 in
    let started = g.V.Vol.disk c.start_next.new.vol in
    let at_start : IsBaseOf i.log b base started = c.in_ok-log.ensures.started told b base is in
    let mid = g.V.Vol.disk c.write_first.new.vol in
    let on : IsStagedNext i.log b base next staged c.in_ok-log.log started =
    staged_next i.log b base next es there staged c.in_ok-log.log i.generation started at_start is_next same s.staged_is c.in_ok-log.ensures.log c.self.invariant.0 (c.in_ok-log.ensures.empty told) in
    let written : LeavesOnly old mid (OneOfBoth base next) =
    behind_start i.log b base next old started is (c.start_next.ensures.any_moment told b) mid (c.write_first.ensures.any_moment told i.log b base next on) in
    let new = g.V.Vol.disk c.drop_left.new.vol in
    let after : blocks_in c.new.result ≡ with_steps staged.steps.items b = c.new.ensures.value ∙ s.table_is in
    let kept : IsBaseOf c.write_first.new.log (blocks_in c.new.result) next mid =
    subst (λ (x : Blocks). IsBaseOf c.write_first.new.log x next mid) (sym after) (c.in_ok-write_first.ensures.written told i.log b base next on) in
    all_leaves c.write_first.new.log (blocks_in c.new.result) next mid new kept (c.drop_left.ensures.changes told) base old written

pub returns-clause-any_moment : goal.returns-clause-any_moment
returns-clause-any_moment g c = λ told base next is_base is_next.
    let i = c.self.inside in
    let b = blocks_in i.late in
    let es = c.args.effects.now in
    let there = c.args.next.now in
    let table : c.catch_up.new.self.table ≡ b = c.in_ok-catch_up.ensures.all in
    let staged = c.in_ok-staged.staged in
    let s : IsFirstWith b es there staged c.in_ok-staged.table = subst (λ (x : Blocks). IsFirstWith x es there staged c.in_ok-staged.table) table c.in_ok-staged.ensures.staged in
    let old = g.V.Vol.disk c.args.vol.now in
    let is : IsBaseOf i.log b base old = subst (λ (t : StoreState). IsBaseOf t.log t.blocks base old) (sym c.self.view_is) is_base.of_log in
    let f = c.requires.fits told in
    let is_there : IsBaseOf i.log b f.0 old = subst (λ (t : StoreState). IsBaseOf t.log t.blocks f.0 old) (sym c.self.view_is) f.1.of_log in
    let same : next ≡ there = same_next i.log b old es base f.0 next there is is_there is_next f.2 in
    let started = g.V.Vol.disk c.start_next.new.vol in
    let at_start : IsBaseOf i.log b base started = c.in_ok-log.ensures.started told b base is in
    let mid = g.V.Vol.disk c.write_first.new.vol in
    let on : IsStagedNext i.log b base next staged c.in_ok-log.log started =
    staged_next i.log b base next es there staged c.in_ok-log.log i.generation started at_start is_next same s.staged_is c.in_ok-log.ensures.log c.self.invariant.0 (c.in_ok-log.ensures.empty told) in
    let written : LeavesOnly old mid (OneOfBoth base next) =
    behind_start i.log b base next old started is (c.start_next.ensures.any_moment told b) mid (c.write_first.ensures.any_moment told i.log b base next on) in
    let new = g.V.Vol.disk c.drop_left.new.vol in
    let after : blocks_in c.new.result ≡ with_steps staged.steps.items b = c.new.ensures.value ∙ s.table_is in
    let kept : IsBaseOf c.write_first.new.log (blocks_in c.new.result) next mid =
    subst (λ (x : Blocks). IsBaseOf c.write_first.new.log x next mid) (sym after) (c.in_ok-write_first.ensures.written told i.log b base next on) in
    all_leaves c.write_first.new.log (blocks_in c.new.result) next mid new kept (c.drop_left.ensures.changes told) base old written

-- ---- once all is written

pub returns-clause-committed : goal.returns-clause-committed
returns-clause-committed g c = λ told base next is_base is_next.
    let i = c.self.inside in
    let b = blocks_in i.late in
    let es = c.args.effects.now in
    let there = c.args.next.now in
    let table : c.catch_up.new.self.table ≡ b = c.in_ok-catch_up.ensures.all in
    let staged = c.in_ok-staged.staged in
    let s : IsFirstWith b es there staged c.in_ok-staged.table = subst (λ (x : Blocks). IsFirstWith x es there staged c.in_ok-staged.table) table c.in_ok-staged.ensures.staged in
    let old = g.V.Vol.disk c.args.vol.now in
    let is : IsBaseOf i.log b base old = subst (λ (t : StoreState). IsBaseOf t.log t.blocks base old) (sym c.self.view_is) is_base.of_log in
    let f = c.requires.fits told in
    let is_there : IsBaseOf i.log b f.0 old = subst (λ (t : StoreState). IsBaseOf t.log t.blocks f.0 old) (sym c.self.view_is) f.1.of_log in
    let same : next ≡ there = same_next i.log b old es base f.0 next there is is_there is_next f.2 in
    let started = g.V.Vol.disk c.start_next.new.vol in
    let at_start : IsBaseOf i.log b base started = c.in_ok-log.ensures.started told b base is in
    let mid = g.V.Vol.disk c.write_first.new.vol in
    let on : IsStagedNext i.log b base next staged c.in_ok-log.log started =
    staged_next i.log b base next es there staged c.in_ok-log.log i.generation started at_start is_next same s.staged_is c.in_ok-log.ensures.log c.self.invariant.0 (c.in_ok-log.ensures.empty told) in
    let written : LeavesOnly old mid (OneOfBoth base next) =
    behind_start i.log b base next old started is (c.start_next.ensures.any_moment told b) mid (c.write_first.ensures.any_moment told i.log b base next on) in
    let new = g.V.Vol.disk c.drop_left.new.vol in
    let after : blocks_in c.new.result ≡ with_steps staged.steps.items b = c.new.ensures.value ∙ s.table_is in
    let kept : IsBaseOf c.write_first.new.log (blocks_in c.new.result) next mid =
    subst (λ (x : Blocks). IsBaseOf c.write_first.new.log x next mid) (sym after) (c.in_ok-write_first.ensures.written told i.log b base next on) in
    let known : AreRooms i.rooms old = subst (λ (t : StoreState). AreRooms t.rooms old) (sym c.self.view_is) is_base.rooms in
    let same_length : AreAsLong old mid = same_then old started mid (c.in_ok-log.ensures.as_long told) (c.in_ok-write_first.ensures.as_long told) in
    record {
      of_log =
          subst (λ (l : LogState). IsBaseOf l c.drop_left.new.self.blocks next new) (sym c.drop_left.ensures.log)
          (subst (λ (x : Blocks). IsBaseOf c.write_first.new.log x next new) (sym c.drop_left.ensures.blocks) (new_base c.write_first.new.log (blocks_in c.new.result) next mid new kept (c.drop_left.ensures.changes told)));
      rooms = c.in_ok-drop_left.ensures.known told (rooms_longer i.rooms old mid (longer_same old mid same_length) known);
    }

pub returns-clause-log : goal.returns-clause-log
returns-clause-log g c =
    let i = c.self.inside in
    let b = blocks_in i.late in
    let es = c.args.effects.now in
    let there = c.args.next.now in
    let table : c.catch_up.new.self.table ≡ b = c.in_ok-catch_up.ensures.all in
    let staged = c.in_ok-staged.staged in
    let s : IsFirstWith b es there staged c.in_ok-staged.table = subst (λ (x : Blocks). IsFirstWith x es there staged c.in_ok-staged.table) table c.in_ok-staged.ensures.staged in
    let size : length staged.batch ≡ first_length there (blocks_then b es) = ap length s.staged_is.batch ∙ ap (first_length there) (staged_blocks b es staged s.staged_is.prepared) in
    let begun : c.in_ok-log.log ≡ begun_next i.log = begun_is i.log c.in_ok-log.log i.generation c.in_ok-log.ensures.log c.self.invariant.0 in
    c.drop_left.ensures.log ∙ c.in_ok-write_first.ensures.log ∙ ap (λ (l : LogState). with_batch l (length staged.batch)) begun ∙ ap (with_batch (begun_next i.log)) size
    ∙ ap (λ (t : StoreState). next_log t es there) c.self.view_is

pub returns-clause-blocks : goal.returns-clause-blocks
returns-clause-blocks g c =
    let i = c.self.inside in
    let b = blocks_in i.late in
    let es = c.args.effects.now in
    let there = c.args.next.now in
    let table : c.catch_up.new.self.table ≡ b = c.in_ok-catch_up.ensures.all in
    let staged = c.in_ok-staged.staged in
    let s : IsFirstWith b es there staged c.in_ok-staged.table = subst (λ (x : Blocks). IsFirstWith x es there staged c.in_ok-staged.table) table c.in_ok-staged.ensures.staged in
    c.drop_left.ensures.blocks ∙ c.new.ensures.value ∙ s.table_is ∙ staged_blocks b es staged s.staged_is.prepared ∙ ap (λ (t : StoreState). blocks_then t.blocks es) c.self.view_is

pub returns-clause-fewer : goal.returns-clause-fewer
returns-clause-fewer g c =
    let i = c.self.inside in
    let b = blocks_in i.late in
    let es = c.args.effects.now in
    let there = c.args.next.now in
    let table : c.catch_up.new.self.table ≡ b = c.in_ok-catch_up.ensures.all in
    let staged = c.in_ok-staged.staged in
    let s : IsFirstWith b es there staged c.in_ok-staged.table = subst (λ (x : Blocks). IsFirstWith x es there staged c.in_ok-staged.table) table c.in_ok-staged.ensures.staged in
    let made : c.drop_left.new.self.blocks ≡ blocks_then c.args.self.now.blocks es =
    c.drop_left.ensures.blocks ∙ c.new.ensures.value ∙ s.table_is ∙ staged_blocks b es staged s.staged_is.prepared ∙ ap (λ (t : StoreState). blocks_then t.blocks es) c.self.view_is in
    subst (λ (x : Blocks). length (blocks x) ≤ used_behind c.args.self.now.blocks es) (sym made) (law_counting.commit c.args.self.now.blocks es c.requires.room)

pub returns-clause-within : goal.returns-clause-within
returns-clause-within g c =
    let mine = c.in_ok-staged.ensures.staged in
    let staged = c.in_ok-staged.staged in
    let size : length staged.batch ≡ first_length c.args.next.now (blocks_then c.catch_up.new.self.table c.args.effects.now) =
    ap length mine.staged_is.batch ∙ ap (first_length c.args.next.now) (staged_blocks c.catch_up.new.self.table c.args.effects.now staged mine.staged_is.prepared) in
    let fits = c.in_ok-staged.ensures.fits in
    let end = ap (λ (l : LogState). l.end) (c.drop_left.ensures.log ∙ c.in_ok-write_first.ensures.log ∙ ap (λ (l : LogState). with_batch l (length staged.batch)) c.in_ok-log.ensures.log) in
    omega (arith, fits, size, end)

pub returns-clause-reserved : goal.returns-clause-reserved
returns-clause-reserved g c =
    reserved_kept c.self.inside.rooms c.drop_left.new.self.rooms c.args.bound c.drop_left.ensures.logs.0 c.drop_left.ensures.logs.1
    (subst (λ (t : StoreState). is_reserved t.rooms c.args.bound ≡ true) (sym c.self.view_is) c.requires.reserved)

pub returns-clause-emptied : goal.returns-clause-emptied
returns-clause-emptied g c = λ told.
    let i = c.self.inside in
    let b = blocks_in i.late in
    let es = c.args.effects.now in
    let there = c.args.next.now in
    let table : c.catch_up.new.self.table ≡ b = c.in_ok-catch_up.ensures.all in
    let staged = c.in_ok-staged.staged in
    let s : IsFirstWith b es there staged c.in_ok-staged.table = subst (λ (x : Blocks). IsFirstWith x es there staged c.in_ok-staged.table) table c.in_ok-staged.ensures.staged in
    let old = g.V.Vol.disk c.args.vol.now in
    let started = g.V.Vol.disk c.start_next.new.vol in
    let mid = g.V.Vol.disk c.write_first.new.vol in
    let new = g.V.Vol.disk c.drop_left.new.vol in
    let store : StoreState = record { log = i.log; blocks = b; unused = i.unused.items; rooms = i.rooms } in
    let ks = c.in_ok-unused.unused.items in
    let ks_are : ks ≡ i.unused.items ++ staged.blocks.items =
    c.in_ok-unused.ensures.value ∙ ap (λ (l : List Block). l ++ c.as_slice-2.result.now) c.as_slice.ensures.value ∙ ap (λ (l : List Block). i.unused.items ++ l) c.as_slice-2.ensures.value in
    let after : blocks_in c.new.result ≡ with_steps staged.steps.items b = c.new.ensures.value ∙ s.table_is in
    let low = other_low i.log.file in
    let dropped : HasDropped c.drop_left.new.self.blocks ks c.drop_left.new.self.unused new =
    subst (λ (x : Blocks). HasDropped x ks c.drop_left.new.self.unused new) (sym c.drop_left.ensures.blocks) (c.in_ok-drop_left.ensures.emptied told) in
    subst (λ (t : StoreState). EmptiesUnused t c.drop_left.new.self es old new) c.self.view_is
    (empties_behind store c.drop_left.new.self es old started new (λ file high. c.start_next.ensures.elsewhere told file (λ at. omega (arith, high, low, at)))
    (empties store c.drop_left.new.self es staged s.staged_is.prepared (c.drop_left.ensures.blocks ∙ after) ks ks_are started mid new (c.write_first.ensures.elsewhere told) dropped
    (c.drop_left.ensures.elsewhere told)))

-- the log that was left is closed

pub returns-clause-closed : goal.returns-clause-closed
returns-clause-closed g c = λ told.
    let mid = g.V.Vol.disk c.write_first.new.vol in
    let new = g.V.Vol.disk c.drop_left.new.vol in
    subst (λ (l : LogState). IsOtherClosed l new) (sym c.drop_left.ensures.log)
    (closed_dropped c.write_first.new.log (blocks_in c.new.result) mid new (c.drop_left.ensures.changes told) (c.in_ok-write_first.ensures.closed told))

-- ---- generations

pub returns-in_err-catch_up-clause-generation : goal.returns-in_err-catch_up-clause-generation
returns-in_err-catch_up-clause-generation g c =
    generation_kept c.args.self.now.log c.self.inside.log (ap (λ (t : StoreState). t.log) c.self.view_is)

pub returns-in_err-staged-clause-generation : goal.returns-in_err-staged-clause-generation
returns-in_err-staged-clause-generation g c =
    generation_kept c.args.self.now.log c.self.inside.log (ap (λ (t : StoreState). t.log) c.self.view_is)

pub returns-in_err-unused-clause-generation : goal.returns-in_err-unused-clause-generation
returns-in_err-unused-clause-generation g c =
    generation_kept c.args.self.now.log c.self.inside.log (ap (λ (t : StoreState). t.log) c.self.view_is)

pub returns-in_err-log-clause-generation : goal.returns-in_err-log-clause-generation
returns-in_err-log-clause-generation g c =
    generation_kept c.args.self.now.log c.self.inside.log (ap (λ (t : StoreState). t.log) c.self.view_is)

pub returns-in_err-write_first-clause-generation : goal.returns-in_err-write_first-clause-generation
returns-in_err-write_first-clause-generation g c =
    generation_kept c.args.self.now.log c.self.inside.log (ap (λ (t : StoreState). t.log) c.self.view_is)

pub returns-in_err-drop_left-clause-generation : goal.returns-in_err-drop_left-clause-generation
returns-in_err-drop_left-clause-generation g c =
    let head = ap (λ (t : StoreState). t.log.head) (sym c.self.view_is) ∙ c.self.invariant.0 in
    let next = ap (λ (l : LogState). l.head) c.drop_left.ensures.log ∙ c.write_first.ensures.head ∙ ap (λ (l : LogState). l.head) c.in_ok-log.ensures.log in
    generation_next c.args.self.now.log c.drop_left.new.self.log c.self.inside.generation head next

pub returns-clause-generation : goal.returns-clause-generation
returns-clause-generation g c =
    let head = ap (λ (t : StoreState). t.log.head) (sym c.self.view_is) ∙ c.self.invariant.0 in
    let next = ap (λ (l : LogState). l.head) c.drop_left.ensures.log ∙ c.write_first.ensures.head ∙ ap (λ (l : LogState). l.head) c.in_ok-log.ensures.log in
    generation_next c.args.self.now.log c.drop_left.new.self.log c.self.inside.generation head next

-- ---- no fault is told as `Worn`

pub returns-in_err-catch_up-clause-worn : goal.returns-in_err-catch_up-clause-worn
returns-in_err-catch_up-clause-worn g c =
    memory_worn c.from_residual.result c.from_residual.ensures.1

pub returns-in_err-staged-clause-worn : goal.returns-in_err-staged-clause-worn
returns-in_err-staged-clause-worn g c =
    memory_worn c.from_residual-in_err-staged.result c.from_residual-in_err-staged.ensures.1

pub returns-in_err-unused-clause-worn : goal.returns-in_err-unused-clause-worn
returns-in_err-unused-clause-worn g c =
    memory_worn c.from_residual-in_err-unused.result c.from_residual-in_err-unused.ensures.1

pub returns-in_err-log-clause-worn : goal.returns-in_err-log-clause-worn
returns-in_err-log-clause-worn g c =
    volume_worn c.from_residual-in_err-log.result c.from_residual-in_err-log.ensures.1

pub returns-in_err-write_first-clause-worn : goal.returns-in_err-write_first-clause-worn
returns-in_err-write_first-clause-worn g c =
    volume_worn c.from_residual-in_err-write_first.result c.from_residual-in_err-write_first.ensures.1

pub returns-in_err-drop_left-clause-worn : goal.returns-in_err-drop_left-clause-worn
returns-in_err-drop_left-clause-worn g c =
    volume_worn c.from_residual-in_err-drop_left.result c.from_residual-in_err-drop_left.ensures.1

-- ---- what stands before unused blocks are dropped

pub invariant_of-self-2 : goal.invariant_of-self-2
invariant_of-self-2 g c =
    let i = c.self.inside in
    let staged = c.in_ok-staged.staged in
    let head = c.write_first.ensures.head ∙ ap (λ (l : LogState). l.head) c.in_ok-log.ensures.log in
    let ks_are : c.in_ok-unused.unused.items ≡ i.unused.items ++ staged.blocks.items =
    c.in_ok-unused.ensures.value ∙ ap (λ (l : List Block). l ++ c.as_slice-2.result.now) c.as_slice.ensures.value ∙ ap (λ (l : List Block). i.unused.items ++ l) c.as_slice-2.ensures.value in
    let behind = All-append (λ (k : Block). 2 ≤ k.file) i.unused.items staged.blocks.items c.self.invariant.1.0 c.in_ok-staged.ensures.staged.staged_is.prepared.behind in
    (head, (subst AreBehindLogs (sym ks_are) behind, c.self.invariant.1.1))
