-- What is known of how long the files are.
use Rattle.std.proofs.Common.{◌≡◌, ◌≢◌, ◌≤◌, ◌<◌, ◌⊎◌, ◌||◌, ◌↔◌, ◌++◌, inl, inr, not, ℕ, ◌+◌, ◌^◌, ◌==◌, Bool, true, false, cond, List, [], ◌∷◌, Option, Some, None, IfSome, Result, Ok, Err, length, min, refl, sym, ap, subst, ◌∙◌, arith, IsTrue, All}
use Rattle.std.specs.Prelude.{nat_le}
use Rattle.std.specs.List.{list_all}
use Rattle.std.proofs.lemmas.Bool.{cases_eq, true≢false, eq-eqb, eqb-true, leb-true, le-leb, and_from, and_parts, or_left, or_right}
use Rattle.std.proofs.lemmas.List.Elements.{All-append, All-cons, All-head, All-nil, All-tail}
use Rattle.vol_disk.specs.Clock.{IsClocked}
use Rattle.vol_disk.specs.Disk.{Disk, Files}
use Rattle.vol_disk.specs.Does.{Rests}
use Rattle.vol_disk.specs.Images.{IsDurable, IsHonest, IsImage}
use Rattle.vol_disk.specs.Moments.{LeavesOnly, Quiet}
use Rattle.vol_disk.proofs.Moments.{joined, quiet_then, started, widened}
use Rattle.js_base.specs.declared.spot.Spot.{Spot}
use Rattle.effects.specs.declared.durable.Durable.{Durable}
use Rattle.effects.specs.declared.effect.Effect.{Effect}
use Rattle.gate_log.specs.Growing.{EndsBefore, KeepsOpen}
use Rattle.gate_log.specs.LogFile.{HasOpen}
use Rattle.gate_log.specs.LogState.{LogState, generation_of}
use Rattle.gate_log.proofs.GateReads.{settled_quiet}
use Rattle.op_records.specs.Allowed.{is_record}
use Rattle.op_records.specs.Spelling.{spelled_vacant}
use Rattle.block_table.specs.declared.block.Block.{Block}
use Rattle.block_table.specs.Blocks.{Blocks, has_block, is_among}
use Rattle.block_table.specs.Tables.{IsTable}
use Rattle.block_writing.specs.Dropping.{ChangesUnused}
use Rattle.block_writing.specs.declared.run.Run.{Run}
use Rattle.block_writing.specs.Planning.{Planned}
use Rattle.block_writing.specs.Writing.{AreAsLong, AreWithin}
use Rattle.block_writing.proofs.Commits.{law_plans}
use Rattle.block_writing.proofs.Written.{emptied_still}
use Rattle.stream_store.specs.Base.{IsBase, IsBaseOf, KeepsBases, LeavesBase, LeavesBases, MovesBase}
use Rattle.stream_store.specs.Alternating.{other_file}
use Rattle.stream_store.specs.Clearing.{IsOtherClosed, IsUsed, KeepsClosed, Spares}
use Rattle.stream_store.specs.Committing.{CommitsOrNot, EmptiesUnused, IsCommitted, touches, writes_in}
use Rattle.stream_store.specs.Holding.{Holds}
use Rattle.stream_store.specs.Opening.{IsFirstLog, KeepsHeld, LeavesBegun, RestsBut}
use Rattle.stream_store.specs.Placing.{plan_of}
use Rattle.stream_store.specs.Rooms.{AreLogsShort, AreLonger, AreMore, AreRooms, block_reach, is_reserved, no_rooms, reaches, room_of, with_room}
use Rattle.stream_store.specs.Reserving.{HasMessageRoom}
use Rattle.stream_store.specs.Staging.{AreBehindLogs, IsPrepared, is_written}
use Rattle.stream_store.specs.StoreState.{StoreState}
use Rattle.stream_store.specs.declared.rooms.Rooms.{Rooms}
use Rattle.stream_store.specs.declared.staging.Staged.{Staged}
use Rattle.stream_store.proofs.Alternated.{for_both, high_block}
use Rattle.stream_store.proofs.Committing.{base_spared, kept_used, log_low}
use Rattle.stream_store.proofs.Unused.{among_either, behind_among, rests_after}

-- ---- numbers

pub room_short : (rooms : Rooms) (file n : ℕ) → AreLogsShort rooms → n ≤ room_of rooms file → n ≤ 2 ^ 31
room_short rooms file n short within = go (file == 0) within
  where
    go : (t : Bool) → n ≤ cond t rooms.zero rooms.one → n ≤ 2 ^ 31
    go true h = omega (arith, h, short.zero)
    go false h = omega (arith, h, short.one)

pub room_known : (rooms : Rooms) (disk : Disk) (file n : ℕ) → file < 2 → AreRooms rooms disk → n ≤ room_of rooms file → n ≤ length (disk.seen file)
room_known rooms disk file n low are within = go (file == 0) refl within
  where
    second : (file == 0) ≡ false → file ≡ 1
    second e = let apart : file ≢ 0 = λ is. true≢false (sym (eq-eqb file 0 is) ∙ e) in omega (arith, low, apart)

    go : (t : Bool) → (file == 0) ≡ t → n ≤ cond t rooms.zero rooms.one → n ≤ length (disk.seen file)
    go true e h = subst (λ (f : ℕ). n ≤ length (disk.seen f)) (sym (eqb-true file 0 e)) (omega (arith, h, are.in_zero))
    go false e h = subst (λ (f : ℕ). n ≤ length (disk.seen f)) (sym (second e)) (omega (arith, h, are.in_one))

-- both logs are long enough, so each is
pub room_reserved : (rooms : Rooms) (file count : ℕ) → is_reserved rooms count ≡ true → count + 2 ^ 16 ≤ room_of rooms file
room_reserved rooms file count is = go (file == 0)
  where
    both : (count + 2 ^ 16 ≤ rooms.zero) × (count + 2 ^ 16 ≤ rooms.one)
    both = let parts = and_parts (nat_le (count + 2 ^ 16) rooms.zero) (nat_le (count + 2 ^ 16) rooms.one) is in (leb-true (count + 2 ^ 16) rooms.zero parts.0, leb-true (count + 2 ^ 16) rooms.one parts.1)

    go : (t : Bool) → count + 2 ^ 16 ≤ cond t rooms.zero rooms.one
    go true = both.0
    go false = both.1

pub reserved_kept : (old new : Rooms) (count : ℕ) → new.zero ≡ old.zero → new.one ≡ old.one → is_reserved old count ≡ true → is_reserved new count ≡ true
reserved_kept old new count zero one is =
    let parts = and_parts (nat_le (count + 2 ^ 16) old.zero) (nat_le (count + 2 ^ 16) old.one) is in
    and_from (nat_le (count + 2 ^ 16) new.zero) (nat_le (count + 2 ^ 16) new.one) (ap (nat_le (count + 2 ^ 16)) zero ∙ parts.0) (ap (nat_le (count + 2 ^ 16)) one ∙ parts.1)

-- ---- lengths

-- nothing is known
pub none_known : (log : LogState) (b : Blocks) (base : Durable) (disk : Disk) → IsBaseOf log b base disk → IsBase (record { log = log; blocks = b; unused = []; rooms = no_rooms }) base disk
none_known log b base disk is = record { of_log = is; rooms = record { in_zero = omega arith; in_one = omega arith; in_reach = tt; behind_logs = tt } }

reach_longer : (old new : Disk) (o : Option Block) → AreLonger old new → IfSome o (λ k. k.end ≤ length (old.seen k.file)) → IfSome o (λ k. k.end ≤ length (new.seen k.file))
reach_longer old new None more h = tt
reach_longer old new (Some k) more h = let longer = more k.file in omega (arith, h, longer)

pub rooms_longer : (rooms : Rooms) (old new : Disk) → AreLonger old new → AreRooms rooms old → AreRooms rooms new
rooms_longer rooms old new more is =
    let zero = more 0 in
    let one = more 1 in
    record { in_zero = omega (arith, is.in_zero, zero); in_one = omega (arith, is.in_one, one); in_reach = reach_longer old new rooms.reach more is.in_reach; behind_logs = is.behind_logs }

pub longer_same : (old new : Disk) → AreAsLong old new → AreLonger old new
longer_same old new same file = let is = same file in omega (arith, is)

pub longer_quiet : (old new : Disk) → Quiet old new → AreLonger old new
longer_quiet old new still file = let same = ap (λ (l : List ℕ). length l) (still.seen file) in omega (arith, same)

pub longer_then : (old mid new : Disk) → AreLonger old mid → AreLonger mid new → AreLonger old new
longer_then old mid new first second file = let one = first file in let two = second file in omega (arith, one, two)

pub same_then : (old mid new : Disk) → AreAsLong old mid → AreAsLong mid new → AreAsLong old new
same_then old mid new first second file = second file ∙ first file

-- one file is as long as it was, and the others rest
pub log_as_long : (file : ℕ) (old mid new : Disk) → AreAsLong old mid → ((other : ℕ) → other ≢ file → Rests other mid new) → length (new.seen file) ≡ length (mid.seen file) → AreAsLong old new
log_as_long file old mid new first rests here other = elim (cases_eq other file) [
  | inl same ↦ subst (λ (n : ℕ). length (new.seen n) ≡ length (old.seen n)) (sym same) (here ∙ first file)
  | inr ne ↦ ap (λ (l : List ℕ). length l) (rests other ne).seen ∙ first other
]

pub none_longer : (disk : Disk) → AreAsLong disk disk
none_longer disk file = refl

pub log_longer : (file : ℕ) (old new : Disk) → ((other : ℕ) → other ≢ file → Rests other old new) → length (old.seen file) ≤ length (new.seen file) → AreLonger old new
log_longer file old new rests here other = elim (cases_eq other file) [
  | inl same ↦ subst (λ (n : ℕ). length (old.seen n) ≤ length (new.seen n)) (sym same) here
  | inr ne ↦ let is = ap (λ (l : List ℕ). length l) (rests other ne).seen in omega (arith, is)
]

-- where nothing is called, a crash leaves the base
pub still_leaves : (disk : Disk) → IsClocked disk → LeavesBases disk disk
still_leaves disk clocked log b base is = started disk (λ image. Holds image base) clocked (λ image now. is.images image now)

pub base_quiet : (log : LogState) (b : Blocks) (base : Durable) (old new : Disk) → Quiet old new → IsBaseOf log b base old → IsBaseOf log b base new
base_quiet log b base old new still is = base_spared log b base old new is (λ file used. record { seen = still.seen file; leaves = still.leaves file })

-- nor where nothing is written
pub quiet_leaves : (old new : Disk) → Quiet old new → LeavesBases old new
quiet_leaves old new still log b base is = widened old new (λ image. Holds image base) (IsImage old) still.any_moment (λ image now. is.images image now)

pub quiet_keeps : (old new : Disk) → Quiet old new → KeepsBases old new
quiet_keeps old new still log b base is = base_quiet log b base old new still is

pub keeps_then : (old mid new : Disk) → KeepsBases old mid → KeepsBases mid new → KeepsBases old new
keeps_then old mid new first second log b base is = second log b base (first log b base is)

pub bases_then : (old mid new : Disk) → LeavesBases old mid → KeepsBases old mid → LeavesBases mid new → LeavesBases old new
bases_then old mid new leaves keeps more log b base is = joined old mid new (λ image. Holds image base) (λ image. Holds image base) (leaves log b base is) (more log b base (keeps log b base is)) (λ image h. h)

-- ---- a log that is cut behind its batches

-- each log ends before that offset, if the current one does
pub ends_before : (log : LogState) (b : Blocks) (base : Durable) (disk : Disk) (limit : ℕ) → IsBaseOf log b base disk → IsOtherClosed log disk → IsHonest disk → log.end < limit → 20 < limit → EndsBefore limit (disk.seen 0) × EndsBefore limit (disk.seen 1)
ends_before log b base disk limit is closed honest before long = for_both (λ (n : ℕ). EndsBefore limit (disk.seen n)) log.file (log_low log b base disk is) here there
  where
    here : EndsBefore limit (disk.seen log.file)
    here = let end = is.settled.1.end in record { generation = generation_of log; batches = is.settled.0; read = is.settled.1.read; before = omega (arith, before, end) }

    there : EndsBefore limit (disk.seen (other_file log.file))
    there = record { generation = None; batches = []; read = closed (disk.seen (other_file log.file)) (honest (other_file log.file)); before = omega (arith, long) }

pub closed_kept : (file : ℕ) (old new : Disk) → IsHonest old → ((other : ℕ) → other ≢ file → Rests other old new) → KeepsOpen (old.seen file) (new.seen file) → IsDurable new file → KeepsClosed old new
closed_kept file old new honest rests keeps firm log closed bytes left = elim (cases_eq (other_file log.file) file) [
  | inl same ↦
      let here = subst (λ (n : ℕ). HasOpen (old.seen n) None []) same (closed (old.seen (other_file log.file)) (honest (other_file log.file))) in
      subst (λ (l : List ℕ). HasOpen l None []) (sym (firm bytes (subst (λ (n : ℕ). new.leaves n bytes) same left))) (keeps None [] here)
  | inr ne ↦ closed bytes ((rests (other_file log.file) ne).leaves bytes left)
]

-- a log file and a file for messages are two
reach_apart : (old new : Disk) (file : ℕ) → file < 2 → ((other : ℕ) → other ≢ file → Rests other old new) → (o : Option Block) → IfSome o (λ k. 2 ≤ k.file) → IfSome o (λ k. k.end ≤ length (old.seen k.file)) → IfSome o (λ k. k.end ≤ length (new.seen k.file))
reach_apart old new file low rests None high h = tt
reach_apart old new file low rests (Some k) high h = subst (λ (l : List ℕ). k.end ≤ length l) (sym (rests k.file (λ is. omega (arith, is, high, low))).seen) h

pub trimmed_known : (rooms : Rooms) (file limit : ℕ) (old new : Disk) → file < 2 → limit < room_of rooms file → ((other : ℕ) → other ≢ file → Rests other old new) → length (new.seen file) ≡ min limit (length (old.seen file))
    → AreRooms rooms old → AreRooms (with_room rooms file limit) new
trimmed_known rooms file limit old new low more rests cut are = go (file == 0) refl
  where
    within : limit ≤ length (new.seen file)
    within = let known = room_known rooms old file (room_of rooms file) low are (omega arith) in omega (arith, known, more, cut)

    reach : IfSome rooms.reach (λ k. k.end ≤ length (new.seen k.file))
    reach = reach_apart old new file low rests rooms.reach are.behind_logs are.in_reach

    go : (t : Bool) → (file == 0) ≡ t → AreRooms (cond t (record rooms { zero = limit }) (record rooms { one = limit })) new
    go true e =
        let first : file ≡ 0 = eqb-true file 0 e in
        let one = ap (λ (l : List ℕ). length l) (rests 1 (λ is. omega (arith, is, first))).seen in
        record { in_zero = subst (λ (n : ℕ). limit ≤ length (new.seen n)) first within; in_one = omega (arith, are.in_one, one); in_reach = reach; behind_logs = are.behind_logs }
    go false e =
        let apart : file ≢ 0 = λ is. true≢false (sym (eq-eqb file 0 is) ∙ e) in
        let second : file ≡ 1 = omega (arith, low, apart) in
        let zero = ap (λ (l : List ℕ). length l) (rests 0 (λ is. apart (sym is))).seen in
        record { in_zero = omega (arith, are.in_zero, zero); in_one = subst (λ (n : ℕ). limit ≤ length (new.seen n)) second within; in_reach = reach; behind_logs = are.behind_logs }

pub more_same : (rooms : Rooms) → AreMore rooms rooms
more_same rooms = record { in_zero = omega arith; in_one = omega arith }

pub more_then : (a b c : Rooms) → AreMore a b → AreMore b c → AreMore a c
more_then a b c first second = record { in_zero = omega (arith, first.in_zero, second.in_zero); in_one = omega (arith, first.in_one, second.in_one) }

-- the logs stay as long as they are where files that are no blocks are cut
pub rooms_cleared : (b : Blocks) (rooms : Rooms) (old mid new : Disk) → AreAsLong old mid → Spares (IsUsed b) mid new → AreRooms rooms old → AreRooms (record rooms { reach = None }) new
rooms_cleared b rooms old mid new same spares is =
    let zero = ap (λ (l : List ℕ). length l) (spares.used 0 (inl (omega arith))).seen ∙ same 0 in
    let one = ap (λ (l : List ℕ). length l) (spares.used 1 (inl (omega arith))).seen ∙ same 1 in
    record { in_zero = omega (arith, is.in_zero, zero); in_one = omega (arith, is.in_one, one); in_reach = tt; behind_logs = tt }

-- ---- nothing was written

-- what was left then is left still
pub leaves_quiet : (old mid new : Disk) (P : Files → Type 0) → IsClocked mid → LeavesOnly old mid P → Quiet mid new → LeavesOnly old new P
leaves_quiet old mid new P clocked leaves still =
    joined old mid new P (IsImage mid) leaves still.any_moment (λ image is. leaves.each image (clocked.counts_now old.moment image leaves.later is))

pub held_then : (old mid new : Disk) → IsClocked mid → KeepsHeld old mid → Quiet mid new → KeepsHeld old new
held_then old mid new clocked keeps still d seen all = leaves_quiet old mid new (λ image. Holds image d) clocked (keeps d seen all) still

pub begun_then : (old mid new : Disk) → LeavesBegun old mid → Quiet mid new → LeavesBegun old new
begun_then old mid new (inl untouched) still = inl untouched
begun_then old mid new (inr quiet) still = inr (quiet_then old mid new quiet still)

pub rests_quiet_then : (old mid new : Disk) → RestsBut 0 old mid → Quiet mid new → RestsBut 0 old new
rests_quiet_then old mid new rests still file apart = rests_after file old mid new (rests file apart) (record { seen = still.seen file; leaves = still.leaves file })

pub first_then : (log : LogState) (mid new : Disk) → IsFirstLog log mid → Quiet mid new → IsFirstLog log new
first_then log mid new first still = record { file = first.file; head = first.head; settled = settled_quiet log (spelled_vacant 0 ∷ []) mid new still first.settled }

-- ---- a commit, and what is done behind it

pub committed_then : (store mid after : StoreState) (es : List Effect) (old written new : Disk) → IsCommitted store mid es old written → MovesBase mid after written new → IsCommitted store after es old new
committed_then store mid after es old written new committed moves base next is is_next = moves next (committed base next is is_next)

pub leaves_then : (store mid : StoreState) (es : List Effect) (old written new : Disk) → CommitsOrNot store es old written → IsCommitted store mid es old written → LeavesBase mid written new → CommitsOrNot store es old new
leaves_then store mid es old written new leaves committed keeps base next is is_next =
    joined old written new (λ image. Holds image base ⊎ Holds image next) (λ image. Holds image next) (leaves base next is is_next) (keeps next (committed base next is is_next).of_log) (λ image h. inr h)

-- a file that a commit touches is behind those of the logs
runs_high : (runs : List Run) (file : ℕ) → All (λ run. 2 ≤ run.file) runs → is_written runs file ≡ true → 2 ≤ file
runs_high [] file h is = absurd (true≢false (sym is))
runs_high (run ∷ runs) file h is = go (runs_high runs file (All-tail (λ (r : Run). 2 ≤ r.file) run runs h)) (run.file == file) refl is
  where
    go : (is_written runs file ≡ true → 2 ≤ file) → (t : Bool) → (run.file == file) ≡ t → (t || is_written runs file) ≡ true → 2 ≤ file
    go more true e there = subst (λ (n : ℕ). 2 ≤ n) (eqb-true run.file file e) (All-head (λ (r : Run). 2 ≤ r.file) run runs h)
    go more false e there = more there

touched_high : (b : Blocks) (es : List Effect) (file : ℕ) → IsTable b → IsTrue (list_all is_record es) → touches b es file ≡ true → 2 ≤ file
touched_high b es file table records is = go (has_block b file) refl is
  where
    written : (o : Option Planned) → plan_of b es ≡ o → writes_in o file ≡ true → 2 ≤ file
    written None e none = absurd (true≢false (sym none))
    written (Some made) e there = runs_high made.runs file (law_plans.runs b es made (record { table = table; allowed = records; made_is = e })).files there

    go : (t : Bool) → has_block b file ≡ t → (t || writes_in (plan_of b es) file) ≡ true → 2 ≤ file
    go true e or = high_block b file table e
    go false e or = written (plan_of b es) refl or

pub empties_then : (store mid after : StoreState) (es : List Effect) (old written new : Disk) → IsTable store.blocks → IsTrue (list_all is_record es) → AreBehindLogs store.unused → EmptiesUnused store mid es old written
    → after.blocks ≡ mid.blocks → after.unused ≡ mid.unused → ((file : ℕ) → 2 ≤ file → Rests file written new) → EmptiesUnused store after es old new
empties_then store mid after es old written new table records behind e blocks_are unused_are rests = record {
  emptied = λ file any free done.
      emptied_still written new file (rests file (high file any))
      (e.emptied file any (ap (λ (b : Blocks). has_block b file) (sym blocks_are) ∙ free) (ap (λ (ks : List Block). is_among ks file) (sym unused_are) ∙ done));
  late = λ file there. e.late file (ap (λ (ks : List Block). is_among ks file) (sym unused_are) ∙ there);
  elsewhere = λ file is_high none kept. rests_after file old written new (e.elsewhere file is_high none kept) (rests file is_high);
}
  where
    high : (file : ℕ) → (touches store.blocks es file || is_among store.unused file) ≡ true → 2 ≤ file
    high file any = go (touches store.blocks es file) refl any
      where
        go : (t : Bool) → touches store.blocks es file ≡ t → (t || is_among store.unused file) ≡ true → 2 ≤ file
        go true is or = touched_high store.blocks es file table records is
        go false is or = behind_among store.unused file behind or

-- ---- room for what is staged

pub within_staged : (b : Blocks) (es : List Effect) (staged : Staged) (disk : Disk) → IsPrepared b es staged → HasMessageRoom b es disk → AreWithin disk staged.runs.items
within_staged b es staged disk s room = subst (AreWithin disk) (sym s.runs) (subst (λ (o : Option Planned). IfSome o (λ made. AreWithin disk made.runs)) s.planned.made_is room)

-- ---- another length of a log is known

module _ (rooms : Rooms) (file n : ℕ) where
  pub room_set : room_of (with_room rooms file n) file ≡ n
  room_set = go (file == 0)
    where
      go : (t : Bool) → cond t (cond t (record rooms { zero = n }) (record rooms { one = n })).zero (cond t (record rooms { zero = n }) (record rooms { one = n })).one ≡ n
      go true = refl
      go false = refl

  pub reach_set : (with_room rooms file n).reach ≡ rooms.reach
  reach_set = go (file == 0)
    where
      go : (t : Bool) → (cond t (record rooms { zero = n }) (record rooms { one = n })).reach ≡ rooms.reach
      go true = refl
      go false = refl

  pub more_set : room_of rooms file ≤ n → AreMore rooms (with_room rooms file n)
  more_set more = go (file == 0) more
    where
      go : (t : Bool) → cond t rooms.zero rooms.one ≤ n → AreMore rooms (cond t (record rooms { zero = n }) (record rooms { one = n }))
      go true h = record { in_zero = h; in_one = omega arith }
      go false h = record { in_zero = omega arith; in_one = h }

  pub short_set : n ≤ 2 ^ 31 → AreLogsShort rooms → AreLogsShort (with_room rooms file n)
  short_set low short = go (file == 0)
    where
      go : (t : Bool) → AreLogsShort (cond t (record rooms { zero = n }) (record rooms { one = n }))
      go true = record { zero = low; one = short.one }
      go false = record { zero = short.zero; one = low }

  pub known_set : (disk : Disk) → file < 2 → n ≤ length (disk.seen file) → AreRooms rooms disk → AreRooms (with_room rooms file n) disk
  known_set disk low within are = go (file == 0) refl
    where
      second : (file == 0) ≡ false → file ≡ 1
      second e = let apart : file ≢ 0 = λ is. true≢false (sym (eq-eqb file 0 is) ∙ e) in omega (arith, low, apart)

      go : (t : Bool) → (file == 0) ≡ t → AreRooms (cond t (record rooms { zero = n }) (record rooms { one = n })) disk
      go true e = record { in_zero = subst (λ (f : ℕ). n ≤ length (disk.seen f)) (eqb-true file 0 e) within; in_one = are.in_one; in_reach = are.in_reach; behind_logs = are.behind_logs }
      go false e = record { in_zero = are.in_zero; in_one = subst (λ (f : ℕ). n ≤ length (disk.seen f)) (second e) within; in_reach = are.in_reach; behind_logs = are.behind_logs }

  pub reserved_set : (count : ℕ) → count + 2 ^ 16 ≤ n → is_reserved rooms count ≡ true → is_reserved (with_room rooms file n) count ≡ true
  reserved_set count within is = go (file == 0)
    where
      parts : (nat_le (count + 2 ^ 16) rooms.zero ≡ true) × (nat_le (count + 2 ^ 16) rooms.one ≡ true)
      parts = and_parts (nat_le (count + 2 ^ 16) rooms.zero) (nat_le (count + 2 ^ 16) rooms.one) is

      go : (t : Bool) → is_reserved (cond t (record rooms { zero = n }) (record rooms { one = n })) count ≡ true
      go true = and_from (nat_le (count + 2 ^ 16) n) (nat_le (count + 2 ^ 16) rooms.one) (le-leb (count + 2 ^ 16) n within) parts.1
      go false = and_from (nat_le (count + 2 ^ 16) rooms.zero) (nat_le (count + 2 ^ 16) n) parts.0 (le-leb (count + 2 ^ 16) n within)

-- ---- a file for messages

-- files that are no blocks are cut, and of one that is none nothing is known
pub rooms_dropped : (b : Blocks) (ks : List Block) (rooms : Rooms) (old new : Disk) → AreBehindLogs ks → ChangesUnused b ks old new → AreRooms rooms old → AreRooms (record rooms { reach = block_reach b rooms.reach }) new
rooms_dropped b ks rooms old new behind changes is =
    let zero = ap (λ (l : List ℕ). length l) (changes.elsewhere 0 (kept_used b ks 0 behind (inl (omega arith)))).seen in
    let one = ap (λ (l : List ℕ). length l) (changes.elsewhere 1 (kept_used b ks 1 behind (inl (omega arith)))).seen in
    record { in_zero = omega (arith, is.in_zero, zero); in_one = omega (arith, is.in_one, one); in_reach = left rooms.reach is.in_reach; behind_logs = high rooms.reach is.behind_logs }
  where
    left : (o : Option Block) → IfSome o (λ k. k.end ≤ length (old.seen k.file)) → IfSome (block_reach b o) (λ k. k.end ≤ length (new.seen k.file))
    left None h = tt
    left (Some k) h = go (has_block b k.file) refl
      where
        go : (t : Bool) → has_block b k.file ≡ t → IfSome (cond t (Some k) None) (λ r. r.end ≤ length (new.seen r.file))
        go true has = subst (λ (l : List ℕ). k.end ≤ length l) (sym (changes.elsewhere k.file (kept_used b ks k.file behind (inr has))).seen) h
        go false has = tt

    high : (o : Option Block) → IfSome o (λ k. 2 ≤ k.file) → IfSome (block_reach b o) (λ k. 2 ≤ k.file)
    high None h = tt
    high (Some k) h = go (has_block b k.file)
      where
        go : (t : Bool) → IfSome (cond t (Some k) None) (λ r. 2 ≤ r.file)
        go true = h
        go false = tt

pub reached_known : (rooms : Rooms) (k : Block) (old new : Disk) → AreLonger old new → 2 ≤ k.file → k.end ≤ length (new.seen k.file) → AreRooms rooms old → AreRooms (record rooms { reach = Some k }) new
reached_known rooms k old new more high within is =
    let zero = more 0 in
    let one = more 1 in
    record { in_zero = omega (arith, is.in_zero, zero); in_one = omega (arith, is.in_one, one); in_reach = within; behind_logs = high }

-- it does not reach to the end of the spot
pub reaches_less : (k : Block) (spot : Spot) → k.file ≡ spot.file → reaches (Some k) spot ≡ false → k.end < spot.at + spot.len
reaches_less k spot same none =
    let more : ¬ (spot.at + spot.len ≤ k.end) = λ le. true≢false (sym (and_from (k.file == spot.file) (nat_le (spot.at + spot.len) k.end) (eq-eqb k.file spot.file same) (le-leb (spot.at + spot.len) k.end le)) ∙ none) in
    omega (arith, more)

-- ---- what is made behind the store's base

-- what is to be dropped is no part of it
pub lists_more : (store : StoreState) (ks : List Block) (disk : Disk) → MovesBase store (record store { unused = ks }) disk disk
lists_more store ks disk base is = record { of_log = is.of_log; rooms = is.rooms }

-- the rooms are others
pub rooms_moved : (store : StoreState) (rooms : Rooms) (old new : Disk) → KeepsBases old new → (AreRooms store.rooms old → AreRooms rooms new) → MovesBase store (record store { rooms = rooms }) old new
rooms_moved store rooms old new keeps known base is = record { of_log = keeps store.log store.blocks base is.of_log; rooms = known is.rooms }

-- so they are of the store whose view this is
pub rooms_moved_in : (store viewed : StoreState) (rooms : Rooms) (old new : Disk) → viewed ≡ store → KeepsBases old new → (AreRooms viewed.rooms old → AreRooms rooms new) → MovesBase store (record viewed { rooms = rooms }) old new
rooms_moved_in store viewed rooms old new same keeps known = subst (λ (t : StoreState). MovesBase t (record viewed { rooms = rooms }) old new) same (rooms_moved viewed rooms old new keeps known)

-- what a look told of the logs is known then
pub known_looked : (store viewed : StoreState) (rooms : Rooms) (base : Durable) (old new : Disk) → viewed ≡ store → Quiet old new → AreRooms rooms new → IsBase store base old → IsBase (record viewed { rooms = rooms }) base new
known_looked store viewed rooms base old new same still are is =
    subst (λ (t : StoreState). IsBase (record t { rooms = rooms }) base new) (sym same) (record { of_log = base_quiet store.log store.blocks base old new still is.of_log; rooms = are })

-- both logs are so long, which is no more than a log may have
pub reserved_short : (rooms : Rooms) (count : ℕ) → AreLogsShort rooms → is_reserved rooms count ≡ true → count + 2 ^ 16 ≤ 2 ^ 31
reserved_short rooms count short is = room_short rooms 0 (count + 2 ^ 16) short (room_reserved rooms 0 count is)

-- among files to be dropped is the last one
pub listed_last : (ks : List Block) (file : ℕ) → is_among (ks ++ record { file = file; end = 0 } ∷ []) file ≡ true
listed_last ks file =
    among_either ks (record { file = file; end = 0 } ∷ []) file ∙ or_right (is_among ks file) (is_among (record { file = file; end = 0 } ∷ []) file) (or_left (file == file) false (eq-eqb file file refl))

pub behind_more : (ks : List Block) (file : ℕ) → 2 ≤ file → AreBehindLogs ks → AreBehindLogs (ks ++ record { file = file; end = 0 } ∷ [])
behind_more ks file high behind = All-append (λ (k : Block). 2 ≤ k.file) ks (record { file = file; end = 0 } ∷ []) behind (All-cons (λ (k : Block). 2 ≤ k.file) (record { file = file; end = 0 }) [] high (All-nil (λ (k : Block). 2 ≤ k.file)))

-- it has no room where it would pass the room that is known, and else it has
pub no_pass : (passes : Bool) (room n : ℕ) → (IsTrue passes ↔ (room < n)) → IsTrue (not passes) ↔ (n ≤ room)
no_pass true room n value = (λ is. absurd (true≢false (sym is)), λ le. let lt = value.0 refl in absurd (omega (arith, lt, le)))
no_pass false room n value = (λ is. let more : ¬ (room < n) = λ lt. true≢false (sym (value.1 lt)) in omega (arith, more), λ le. refl)

-- what a look at the logs tells
pub looked : (old mid new : Disk) (first_len second_len z o : ℕ) → Quiet old mid → Quiet mid new → first_len ≡ length (old.seen 0) → second_len ≡ length (mid.seen 1) → z ≤ first_len → o ≤ second_len → AreRooms (record { zero = z; one = o; reach = None }) new
looked old mid new first_len second_len z o first second zero_is one_is low_zero low_one =
    let kept_zero = ap (λ (l : List ℕ). length l) (first.seen 0) in
    let kept_one = ap (λ (l : List ℕ). length l) (second.seen 1) in
    let still_zero = ap (λ (l : List ℕ). length l) (second.seen 0) in
    record { in_zero = omega (arith, zero_is, low_zero, kept_zero, still_zero); in_one = omega (arith, one_is, low_one, kept_one); in_reach = tt; behind_logs = tt }

-- ---- answers

abbrev pub made_of : {E : Type 0} → Result Bool E → Bool
made_of (Ok made) = made
made_of (Err fault) = true

pub le_false : (a b : ℕ) → nat_le a b ≡ false → b < a
le_false a b none =
    let more : ¬ (a ≤ b) = λ le. true≢false (sym (le-leb a b le) ∙ none) in
    omega (arith, more)
