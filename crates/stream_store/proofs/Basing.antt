-- What an image holds by the generations and batches of its two logs.
use Rattle.std.proofs.Common.{◌≡◌, ◌≢◌, ◌⊎◌, inl, inr, ℕ, Bool, true, false, cond, List, refl, sym, ap, subst, ◌∙◌, arith}
use Rattle.std.specs.Prelude.{All, IsSome}
use Rattle.vol_disk.specs.Disk.{Disk, Files}
use Rattle.vol_disk.specs.Images.{IsDurable}
use Rattle.js_base.specs.Bytes.{Bytes}
use Rattle.gate_log.specs.LogFile.{HasOpen}
use Rattle.gate_log.specs.LogState.{LogState, generation_of}
use Rattle.gate_log.specs.Settled.{IsSettled}
use Rattle.gate_log.proofs.OneReading.{law}
use Rattle.effects.specs.declared.durable.Durable.{Durable}
use Rattle.durable_checks.specs.Storable.{IsOpenable, IsStorable}
use Rattle.block_table.specs.Blocks.{Blocks, blocks}
use Rattle.block_table.specs.Tables.{IsTable}
use Rattle.block_reading.specs.Standing.{AreStoredIn}
use Rattle.block_writing.specs.Writing.{BlocksStand}
use Rattle.log_records.specs.Batches.{Gives}
use Rattle.log_records.specs.Logged.{IsLogged}
use Rattle.log_records.specs.Unread.{stored_messages}
use Rattle.stream_store.specs.Logs.{LogIn, HasLog, HasLogs, is_first, current, current_file}
use Rattle.stream_store.specs.Holding.{HoldsIn, AllHold, last_of, logged}
use Rattle.stream_store.specs.Base.{IsBaseOf}
use Rattle.stream_store.proofs.Blocks.{IsSame, same_fronts, stored_moved}
use Rattle.stream_store.proofs.OneReading.{log_same}

-- ---- only the two logs count, and the blocks up to their ends

pub has_logs_by : (a b : Files) (zero one : LogIn) → b 0 ≡ a 0 → b 1 ≡ a 1 → HasLogs a zero one → HasLogs b zero one
has_logs_by a b zero one e f h = record {
  in_zero = subst (λ (l : Bytes). HasLog l zero) (sym e) h.in_zero;
  in_one = subst (λ (l : Bytes). HasLog l one) (sym f) h.in_one;
}

-- however its logs are read, one has an open batch
abbrev pub AreBegun : Files → Type 0
AreBegun image = (zero one : LogIn) → HasLogs image zero one → IsSome (current zero one).generation

pub holds_by : (x y : Files) (b : Blocks) (d : Durable) → IsTable b → y 0 ≡ x 0 → y 1 ≡ x 1 → All (IsSame x y) (blocks b) → AreBegun x → HoldsIn x b d → HoldsIn y b d
holds_by x y b d table e f same begun h = record {
  zero = h.zero;
  one = h.one;
  logs = has_logs_by x y h.zero h.one e f h.logs;
  begun = inl (begun h.zero h.one h.logs);
  gives = h.gives;
  stored = stored_moved x y b (last_of d) (stored_messages d) table same h.stored;
  openable = h.openable;
}

-- where both logs are on the disk, and the blocks stand, each image holds what reads hold
pub all_hold : (disk : Disk) (b : Blocks) (d : Durable) → IsDurable disk 0 → IsDurable disk 1 → IsTable b → BlocksStand b disk → AreBegun disk.seen → HoldsIn disk.seen b d → AllHold disk d
all_hold disk b d zero one table stand begun h image is = (
  b,
  holds_by disk.seen image b d table (zero (image 0) (is.left 0)) (one (image 1) (is.left 1))
      (same_fronts b disk image table stand (λ file. (stand.stand file).left (image file) (is.left file))) begun h,
)

-- ---- the current log is the one of its file

-- the log with the file's bytes is the current one, and has these batches
pub record IsNow (log : LogState) (batches : List Bytes) (image : Files) : Type 0 where
  pub zero : LogIn
  pub one : LogIn
  pub logs : HasLogs image zero one
  pub file_is : current_file zero one ≡ log.file
  pub generation_is : (current zero one).generation ≡ generation_of log
  pub batches_are : (current zero one).batches ≡ batches

pub holds_now : (log : LogState) (batches : List Bytes) (image : Files) (b : Blocks) (d : Durable) → IsNow log batches image → IsSome (generation_of log) → Gives batches (logged d b) → AreStoredIn image b (last_of d) (stored_messages d)
    → IsOpenable d → HoldsIn image b d
holds_now log batches image b d n begun gives stored openable =
    record { zero = n.zero; one = n.one; logs = n.logs; begun = inl (subst IsSome (sym n.generation_is) begun); gives = subst (λ (l : List Bytes). Gives l (logged d b)) (sym n.batches_are) gives; stored = stored; openable = openable }

-- both are read in one way, so that is the current one however they are read
pub current_always : (log : LogState) (batches : List Bytes) (image : Files) → IsNow log batches image → (zero one : LogIn) → HasLogs image zero one → current_file zero one ≡ log.file
current_always log batches image n zero one logs =
    ap (λ (l : LogIn). current_file l one) (log_same (image 0) zero n.zero logs.in_zero n.logs.in_zero)
    ∙ ap (λ (l : LogIn). current_file n.zero l) (log_same (image 1) one n.one logs.in_one n.logs.in_one) ∙ n.file_is

pub begun_always : (log : LogState) (batches : List Bytes) (image : Files) → IsNow log batches image → IsSome (generation_of log) → AreBegun image
begun_always log batches image n begun zero one logs =
    subst IsSome
    (sym (
    ap (λ (l : LogIn). (current l one).generation) (log_same (image 0) zero n.zero logs.in_zero n.logs.in_zero)
    ∙ ap (λ (l : LogIn). (current n.zero l).generation) (log_same (image 1) one n.one logs.in_one n.logs.in_one) ∙ n.generation_is
    )) begun

-- another list of batches in its file, with the same generation, and the other file as it was
pub now_with : (log : LogState) (batches others : List Bytes) (old new : Files) → IsNow log batches old → HasOpen (new log.file) (generation_of log) others
    → ((other : ℕ) → other ≢ log.file → (other ≡ 0) ⊎ (other ≡ 1) → new other ≡ old other) → IsNow log others new
now_with log batches others old new n has stays = go (is_first n.zero.generation n.one.generation) refl n.file_is n.generation_is
  where
    made : LogIn
    made = record { generation = generation_of log; batches = others }

    go : (b : Bool) → is_first n.zero.generation n.one.generation ≡ b → cond b 0 1 ≡ log.file → (cond b n.zero n.one).generation ≡ generation_of log → IsNow log others new
    go true e file gen =
        let apart : 1 ≢ log.file = λ is. absurd (omega (arith, is, file)) in
        let first : is_first (generation_of log) n.one.generation ≡ true = ap (λ g. is_first g n.one.generation) (sym gen) ∙ e in
        record {
          zero = made;
          one = n.one;
          logs = record {
            in_zero = subst (λ (f : ℕ). HasLog (new f) made) (sym file) has;
            in_one = subst (λ (l : Bytes). HasLog l n.one) (sym (stays 1 apart (inr refl))) n.logs.in_one;
          };
          file_is = ap (λ (b : Bool). cond b 0 1) first ∙ file;
          generation_is = ap (λ (b : Bool). (cond b made n.one).generation) first;
          batches_are = ap (λ (b : Bool). (cond b made n.one).batches) first;
        }
    go false e file gen =
        let apart : 0 ≢ log.file = λ is. absurd (omega (arith, is, file)) in
        let second : is_first n.zero.generation (generation_of log) ≡ false = ap (λ g. is_first n.zero.generation g) (sym gen) ∙ e in
        record {
          zero = n.zero;
          one = made;
          logs = record {
            in_zero = subst (λ (l : Bytes). HasLog l n.zero) (sym (stays 0 apart (inl refl))) n.logs.in_zero;
            in_one = subst (λ (f : ℕ). HasLog (new f) made) (sym file) has;
          };
          file_is = ap (λ (b : Bool). cond b 0 1) second ∙ file;
          generation_is = ap (λ (b : Bool). (cond b n.zero made).generation) second;
          batches_are = ap (λ (b : Bool). (cond b n.zero made).batches) second;
        }

-- ---- a base by the current log

-- what a base needs beside its log
pub record IsStoredBase (b : Blocks) (d : Durable) (disk : Disk) : Type 0 where
  pub table : IsTable b
  pub stand : BlocksStand b disk
  pub storable : IsStorable d
  pub given : IsLogged (logged d b)
  pub stored : AreStoredIn disk.seen b (last_of d) (stored_messages d)
  pub openable : IsOpenable d

pub base_of : (log : LogState) (batches : List Bytes) (disk : Disk) (b : Blocks) (d : Durable) → IsNow log batches disk.seen → IsSettled log batches disk → IsSome (generation_of log) → IsDurable disk 0 → IsDurable disk 1
    → Gives batches (logged d b) → IsStoredBase b d disk → IsBaseOf log b d disk
base_of log batches disk b d n settled begun zero one gives s =
    let holds = holds_now log batches disk.seen b d n begun gives s.stored s.openable in
    record {
      settled = (batches, settled);
      begun = begun;
      current = current_always log batches disk.seen n;
      durable_zero = zero;
      durable_one = one;
      table = s.table;
      stand = s.stand;
      storable = s.storable;
      given = s.given;
      holds = holds;
      images = all_hold disk b d zero one s.table s.stand (begun_always log batches disk.seen n begun) holds;
    }

pub current_has : (image : Files) (zero one : LogIn) → HasLogs image zero one → HasLog (image (current_file zero one)) (current zero one)
current_has image zero one h = go (is_first zero.generation one.generation)
  where
    go : (b : Bool) → HasLog (image (cond b 0 1)) (cond b zero one)
    go true = h.in_zero
    go false = h.in_one

-- what a base's log is now
pub now_of : (log : LogState) (batches : List Bytes) (disk : Disk) (b : Blocks) (d : Durable) → IsBaseOf log b d disk → IsSettled log batches disk → IsNow log batches disk.seen
now_of log batches disk b d h settled =
    let zero = h.holds.zero in
    let one = h.holds.one in
    let file : current_file zero one ≡ log.file = h.current zero one h.holds.logs in
    let has : HasLog (disk.seen log.file) (current zero one) = subst (λ (f : ℕ). HasLog (disk.seen f) (current zero one)) file (current_has disk.seen zero one h.holds.logs) in
    record {
      zero = zero;
      one = one;
      logs = h.holds.logs;
      file_is = file;
      generation_is = law.one_generation (disk.seen log.file) (current zero one).generation (generation_of log) (current zero one).batches batches has settled.read;
      batches_are = law.one_list (disk.seen log.file) (current zero one).generation (generation_of log) (current zero one).batches batches has settled.read;
    }

pub base_gives : (log : LogState) (batches : List Bytes) (disk : Disk) (b : Blocks) (d : Durable) → IsBaseOf log b d disk → IsSettled log batches disk → Gives batches (logged d b)
unfolding now_of
base_gives log batches disk b d h settled = subst (λ (l : List Bytes). Gives l (logged d b)) (now_of log batches disk b d h settled).batches_are h.holds.gives

pub base_begun : (log : LogState) (disk : Disk) (b : Blocks) (d : Durable) → IsBaseOf log b d disk → AreBegun disk.seen
base_begun log disk b d h = begun_always log h.settled.0 disk.seen (now_of log h.settled.0 disk b d h h.settled.1) h.begun
