-- The current log as it is found, and the faults of both.
use Rattle.std.proofs.Common.{◌≡◌, ◌⊎◌, ◌==◌, inl, inr, ℕ, Bool, true, false, cond, List, [], ◌∷◌, Option, Some, None, Result, Err, All, take, option_map, refl, sym, ap, subst, ◌∙◌, arith, length-take}
use Rattle.std.specs.Prelude.{IsSome}
use Rattle.std.proofs.Math.Path.{fun_ext}
use Rattle.std.proofs.lemmas.Bool.{eq-eqb}
use Rattle.std.proofs.lemmas.List.Elements.{All-nil, All-cons, All-head, All-tail}
use Rattle.vol_disk.specs.Disk.{Disk, Files}
use Rattle.vol_disk.specs.Images.{IsDurable}
use Rattle.vol_disk.specs.Moments.{Quiet}
use Rattle.vol_disk.proofs.Moments.{quiet_durable}
use Rattle.js_base.specs.Bytes.{Bytes}
use Rattle.gate_log.specs.LogFile.{HasOpen}
use Rattle.gate_log.specs.LogState.{LogState, generation_of}
use Rattle.gate_log.specs.Opening.{IsOpenFault as IsFileFault}
use Rattle.gate_log.specs.Settled.{IsSettled}
use Rattle.gate_log.specs.declared.fault.LogFault.{LogFault}
use Rattle.gate_log.specs.declared.fault.LogFault.TheVariants as logs
use Rattle.gate_log.proofs.GateReads.{settled_quiet}
use Rattle.gate_log.proofs.OneReading.{law}
use Rattle.js_model.proofs.Named.{none_some}
use Rattle.effects.specs.declared.durable.Durable.{Durable}
use Rattle.effects.specs.Folding.{vacant}
use Rattle.effects.specs.declared.durable.Body.{Body}
use Rattle.durable_checks.specs.Storable.{IsStorable}
use Rattle.block_table.specs.declared.block.Block.{Block}
use Rattle.block_table.specs.Blocks.{Blocks, blocks, has_block, no_blocks}
use Rattle.block_table.specs.Tables.{IsTable}
use Rattle.block_table.proofs.Lists.{each_passes}
use Rattle.block_reading.specs.Damage.{AreDamaged}
use Rattle.block_reading.specs.Standing.{AreStoredIn, IsWhole, written_in}
use Rattle.block_reading.proofs.Within.{follow_within}
use Rattle.log_records.specs.Batches.{Gives}
use Rattle.log_records.specs.Logged.{IsLogged, Logged, beginning}
use Rattle.log_records.specs.Unread.{unread, unread_body, stored_messages}
use Rattle.log_records.proofs.OneBad.{law_batches}
use Rattle.log_records.specs.Holding.{given_in}
use Rattle.log_records.specs.Reading.{GivesIn, IsReadFault}
use Rattle.log_records.specs.declared.log.LogRead.{LogRead}
use Rattle.block_reading.specs.Reading.{IsMessagesFault}
use Rattle.block_reading.specs.declared.fault.MessagesFault.{MessagesFault}
use Rattle.block_reading.specs.declared.fault.MessagesFault.TheVariants as messages
use Rattle.log_records.specs.declared.fault.ReadFault.{ReadFault}
use Rattle.log_records.specs.declared.fault.ReadFault.TheVariants as records
use Rattle.stream_store.specs.Logs.{LogIn, HasLog, HasLogs, is_first, current, current_file}
use Rattle.stream_store.specs.Damage.{IsBadLogged}
use Rattle.stream_store.specs.Holding.{Holds, last_of, logged}
use Rattle.stream_store.specs.Base.{IsBaseOf}
use Rattle.stream_store.specs.Beginning.{IsBeginFault, IsUnbegun}
use Rattle.stream_store.specs.Faults.{blocks_fault, open_fault, records_fault}
use Rattle.stream_store.specs.Finding.{IsCurrent, IsFaultIn, IsFaultWhere, IsLogFault, IsRecordsFault}
use Rattle.stream_store.specs.Opening.{IsOpenFault}
use Rattle.stream_store.specs.Untouched.{AreBlocksGone, IsNoneOpen, IsTouchedAt, IsUntouched}
use Rattle.stream_store.specs.declared.fault.OpenFault.{OpenFault}
use Rattle.stream_store.specs.declared.fault.OpenFault.TheVariants.{Fault, Damaged, UnknownVersion, NoRoom, NoMemory as OutOfMemory}
use Rattle.stream_store.specs.Reading.{AreSynced, IsBlocksFault, IsFound, IsStoredBy}
use Rattle.stream_store.specs.declared.logs.Current.{Current}
use Rattle.stream_store.specs.declared.reading.Found.{Found}
use Rattle.stream_store.proofs.OneReading.{log_same}
use Rattle.stream_store.proofs.Vacant.{no_batches}
use Rattle.stream_store.proofs.Basing.{IsNow, base_of, has_logs_by, current_has}
use Rattle.stream_store.proofs.Blocks.{IsFirm, firm_blocks}

-- ---- faults

pub zero_fault : (image : Files) (fault : LogFault) → IsFileFault (image 0) fault → IsLogFault image (open_fault 0 fault)
zero_fault image logs.Fault h = tt
zero_fault image logs.NoMemory h = absurd h
zero_fault image (logs.Damaged at) h = record { which = inl (refl, h) }
zero_fault image (logs.UnknownVersion n) h = (0, record { which = inl (refl, h) })

pub other_fault : (image : Files) (zero : LogIn) (fault : LogFault) → HasLog (image 0) zero → IsFileFault (image 1) fault → IsLogFault image (open_fault 1 fault)
other_fault image zero logs.Fault log h = tt
other_fault image zero logs.NoMemory log h = absurd h
other_fault image zero (logs.Damaged at) log h = record { which = inr (refl, ((zero, log), h)) }
other_fault image zero (logs.UnknownVersion n) log h = (1, record { which = inr (refl, ((zero, log), h)) })

pub zero_told : (image : Files) (told : OpenFault) → IsFaultIn 0 image told → IsLogFault image told
zero_told image told (fault, is, e) = subst (IsLogFault image) (sym e) (zero_fault image fault is)

pub one_told : (image : Files) (zero : LogIn) (told : OpenFault) → HasLog (image 0) zero → IsFaultIn 1 image told → IsLogFault image told
one_told image zero told log (fault, is, e) = subst (IsLogFault image) (sym e) (other_fault image zero fault log is)

pub read_fault_of : (file : ℕ) (log : LogState) (disk : Disk) (fault : ReadFault) → IsReadFault log disk fault → IsRecordsFault file log disk (records_fault file fault)
read_fault_of file log disk records.Fault h = tt
read_fault_of file log disk (records.Damaged at) h = λ batches settled. inl (refl, inl (h batches settled))
read_fault_of file log disk records.NoMemory h = tt

-- why the messages of blocks were not read
pub blocks_cause : (fault : MessagesFault) (told : OpenFault) → told ≡ blocks_fault fault → told ≡ Fault → fault ≡ messages.Fault
blocks_cause messages.Fault told e is = refl
blocks_cause (messages.Damaged file at) told e is = absurd (cc)
blocks_cause messages.NoMemory told e is = absurd (cc)

pub blocks_told : (read : LogRead) (disk : Disk) (fault : MessagesFault) → IsMessagesFault disk.seen read.table (last_of read.durable) (stored_messages read.durable) fault → IsBlocksFault read disk (blocks_fault fault)
blocks_told read disk messages.Fault h = tt
blocks_told read disk (messages.Damaged file at) h = h
blocks_told read disk messages.NoMemory h = tt

-- what the log told and a fault of its blocks
pub bad_blocks : (file : ℕ) (log : LogState) (disk : Disk) (read : LogRead) (fault : OpenFault) → GivesIn log disk read → IsBlocksFault read disk fault → IsRecordsFault file log disk fault
bad_blocks file log disk read Fault gives h = tt
bad_blocks file log disk read (Damaged damaged at) gives h = λ batches settled.
    inr (record { given = given_in read; gives = law_batches.last batches (given_in read) read.last (gives batches settled); damaged = h })
bad_blocks file log disk read (UnknownVersion n) gives h = absurd h
bad_blocks file log disk read NoRoom gives h = absurd h
bad_blocks file log disk read OutOfMemory gives h = tt

-- ---- where nothing is written

pub stored_back : (old mid : Disk) (f : Found) → Quiet old mid → IsStoredBy mid f → IsStoredBy old f
stored_back old mid f still h = subst (λ (x : Files). AreStoredIn x f.table (last_of f.durable) (stored_messages f.durable)) (fun_ext still.seen) h

pub blocks_back : (read : LogRead) (old mid : Disk) (fault : OpenFault) → Quiet old mid → IsBlocksFault read mid fault → IsBlocksFault read old fault
blocks_back read old mid Fault still h = tt
blocks_back read old mid (Damaged file at) still h = subst (λ (x : Files). AreDamaged x read.table (last_of read.durable) (stored_messages read.durable) file at) (fun_ext still.seen) h
blocks_back read old mid (UnknownVersion n) still h = absurd h
blocks_back read old mid NoRoom still h = absurd h
blocks_back read old mid OutOfMemory still h = tt

-- ---- causes

pub told_as : {T E : Type 0} (r : Result T E) (a b : E) → r ≡ Err a → r ≡ Err b → a ≡ b
told_as r a b p q = cc

pub open_cause : (file : ℕ) (fault : LogFault) (told : OpenFault) → told ≡ open_fault file fault → told ≡ Fault → fault ≡ logs.Fault
open_cause file logs.Fault told e is = refl
open_cause file logs.NoMemory told e is = absurd (cc)
open_cause file (logs.Damaged at) told e is = absurd (cc)
open_cause file (logs.UnknownVersion n) told e is = absurd (cc)

pub read_cause : (file : ℕ) (fault : ReadFault) (told : OpenFault) → told ≡ records_fault file fault → told ≡ Fault → fault ≡ records.Fault
read_cause file records.Fault told e is = refl
read_cause file (records.Damaged at) told e is = absurd (cc)
read_cause file records.NoMemory told e is = absurd (cc)

-- ---- both logs

abbrev log_in : LogState → List Bytes → LogIn
log_in log batches = record { generation = generation_of log; batches = batches }

-- both were opened, one after the other
pub record AreOpened (zero one : LogState) (old first second : Disk) : Type 0 where
  pub still : Quiet old first
  pub still_then : Quiet first second
  pub file_zero : zero.file ≡ 0
  pub file_one : one.file ≡ 1
  pub zero_batches : List Bytes
  pub one_batches : List Bytes
  pub settled_zero : IsSettled zero zero_batches first
  pub settled_one : IsSettled one one_batches second

logs_of : (zero one : LogState) (old first second : Disk) (a : AreOpened zero one old first second) → HasLogs old.seen (log_in zero a.zero_batches) (log_in one a.one_batches)
logs_of zero one old first second a = record {
  in_zero = subst (λ (l : Bytes). HasOpen l (generation_of zero) a.zero_batches) (a.still.seen 0) (subst (λ (f : ℕ). HasOpen (first.seen f) (generation_of zero) a.zero_batches) a.file_zero a.settled_zero.read);
  in_one = subst (λ (l : Bytes). HasOpen l (generation_of one) a.one_batches) (a.still_then.seen 1 ∙ a.still.seen 1) (subst (λ (f : ℕ). HasOpen (second.seen f) (generation_of one) a.one_batches) a.file_one a.settled_one.read);
}

durable_first : (zero one : LogState) (old first second : Disk) → AreOpened zero one old first second → IsDurable second 0
durable_first zero one old first second a = quiet_durable first second 0 a.still_then (subst (IsDurable first) a.file_zero a.settled_zero.durable)

durable_second : (zero one : LogState) (old first second : Disk) → AreOpened zero one old first second → IsDurable second 1
durable_second zero one old first second a = subst (IsDurable second) a.file_one a.settled_one.durable

pub found_zero : (zero one : LogState) (old first second : Disk) (found : Current) → AreOpened zero one old first second → is_first (generation_of zero) (generation_of one) ≡ true → found.file ≡ 0 → found.log ≡ zero → IsCurrent found old second
found_zero zero one old first second found a e file log = record {
  zero = log_in zero a.zero_batches;
  one = log_in one a.one_batches;
  logs = logs_of zero one old first second a;
  file_is = file ∙ ap (λ (b : Bool). cond b 0 1) (sym e);
  log_file = ap (λ (l : LogState). l.file) log ∙ a.file_zero ∙ sym file;
  settled = subst (λ (b : Bool). IsSettled found.log (cond b (log_in zero a.zero_batches) (log_in one a.one_batches)).batches second) (sym e)
      (subst (λ (l : LogState). IsSettled l a.zero_batches second) (sym log) (settled_quiet zero a.zero_batches first second a.still_then a.settled_zero));
  durable_zero = durable_first zero one old first second a;
  durable_one = durable_second zero one old first second a;
}

pub found_one : (zero one : LogState) (old first second : Disk) (found : Current) → AreOpened zero one old first second → is_first (generation_of zero) (generation_of one) ≡ false → found.file ≡ 1 → found.log ≡ one → IsCurrent found old second
found_one zero one old first second found a e file log = record {
  zero = log_in zero a.zero_batches;
  one = log_in one a.one_batches;
  logs = logs_of zero one old first second a;
  file_is = file ∙ ap (λ (b : Bool). cond b 0 1) (sym e);
  log_file = ap (λ (l : LogState). l.file) log ∙ a.file_one ∙ sym file;
  settled = subst (λ (b : Bool). IsSettled found.log (cond b (log_in zero a.zero_batches) (log_in one a.one_batches)).batches second) (sym e) (subst (λ (l : LogState). IsSettled l a.one_batches second) (sym log) a.settled_one);
  durable_zero = durable_first zero one old first second a;
  durable_one = durable_second zero one old first second a;
}

-- the file of the second log was not written as the first one was opened
pub second_fault : (zero : LogState) (batches : List Bytes) (old first : Disk) (told : OpenFault) → Quiet old first → zero.file ≡ 0 → IsSettled zero batches first → IsFaultIn 1 first.seen told → IsLogFault old.seen told
second_fault zero batches old first told still file settled (fault, is, e) =
    let log : HasLog (old.seen 0) (log_in zero batches) =
    subst (λ (l : Bytes). HasOpen l (generation_of zero) batches) (still.seen 0) (subst (λ (f : ℕ). HasOpen (first.seen f) (generation_of zero) batches) file settled.read) in
    one_told old.seen (log_in zero batches) told log (fault, subst (λ (l : Bytes). IsFileFault l fault) (still.seen 1) is, e)

pub first_is : (zero one : LogState) (g h : Option ℕ) (is b : Bool) → g ≡ generation_of zero → h ≡ generation_of one → is ≡ is_first g h → is ≡ b → is_first (generation_of zero) (generation_of one) ≡ b
first_is zero one g h is b p q r s = ap (λ (o : Option ℕ). is_first o (generation_of one)) (sym p) ∙ ap (is_first g) (sym q) ∙ sym r ∙ s

-- ---- what the current log and its blocks give

-- what is vacant without messages is
unread_vacant : (d : Durable) → unread d ≡ vacant 0 → d ≡ vacant 0
unread_vacant d same = go d.body (ap (λ (x : Durable). x.incarnation) same) (ap (λ (x : Durable). x.body) same)
  where
    go : (o : Option Body) → d.incarnation ≡ 0 → option_map unread_body o ≡ None → record { incarnation = d.incarnation; body = o } ≡ vacant 0
    go None i b = ap vacant i
    go (Some b) i e = absurd (none_some (sym e))

-- a block that was synced stands up to its end
firm : (disk : Disk) (last : ℕ) (b : Blocks) → AreSynced b disk → All (IsWhole disk.seen last) (blocks b) → All (IsFirm disk) (blocks b)
firm disk last b synced whole = both (blocks b) whole (each_passes (λ (x y : Block). y.file == x.file) (λ x. eq-eqb x.file x.file refl) (blocks b))
  where
    one : (k : Block) → IsWhole disk.seen last k → has_block b k.file ≡ true → IsFirm disk k
    one k whole there =
        let within = follow_within (written_in disk.seen k) whole.messages 0 k.end whole.few (omega arith) whole.stand.follow in
        record {
          long = omega (arith, within, length-take k.end (disk.seen k.file));
          left = λ bytes is. ap (take k.end) (synced k.file there bytes is);
        }

    both : (ks : List Block) → All (IsWhole disk.seen last) ks → All (λ k. has_block b k.file ≡ true) ks → All (IsFirm disk) ks
    both [] h k = All-nil (IsFirm disk)
    both (x ∷ ks) h k =
        All-cons (IsFirm disk) x ks (one x (All-head (IsWhole disk.seen last) x ks h) (All-head (λ (y : Block). has_block b y.file ≡ true) x ks k))
        (both ks (All-tail (IsWhole disk.seen last) x ks h) (All-tail (λ (y : Block). has_block b y.file ≡ true) x ks k))

module _ (found : Current) (old mid new : Disk) (c : IsCurrent found old mid) (still : Quiet old mid) (on : Quiet mid new) (f : Found) (is : IsFound found.log mid f) where
  abbrev batches : List Bytes
  batches = (current c.zero c.one).batches

  gives : Gives batches (logged f.durable f.table)
  gives = let last = is.last batches c.settled in law_batches.last batches (logged f.durable f.table) last.0 last.1

  pub found_holds : IsSome (current c.zero c.one).generation ⊎ IsUntouched old.seen → Holds old.seen f.durable
  found_holds begun = (
    f.table,
    record {
      zero = c.zero;
      one = c.one;
      logs = c.logs;
      begun = begun;
      gives = gives;
      stored = subst (λ (x : Files). AreStoredIn x f.table (last_of f.durable) (stored_messages f.durable)) (fun_ext still.seen) is.stored;
      openable = is.openable;
    },
  )

  generation_is : (current c.zero c.one).generation ≡ generation_of found.log
  generation_is =
      let has : HasLog (mid.seen found.log.file) (current c.zero c.one) =
      subst (λ (f : ℕ). HasLog (mid.seen f) (current c.zero c.one)) (sym (c.log_file ∙ c.file_is)) (current_has mid.seen c.zero c.one (has_logs_by old.seen mid.seen c.zero c.one (still.seen 0) (still.seen 1) c.logs)) in
      law.one_generation (mid.seen found.log.file) (current c.zero c.one).generation (generation_of found.log) batches batches has c.settled.read

  pub some_begun : IsSome (generation_of found.log) → IsSome (current c.zero c.one).generation
  some_begun some = subst IsSome (sym generation_is) some

  seen_is : (file : ℕ) → new.seen file ≡ old.seen file
  seen_is file = on.seen file ∙ still.seen file

  pub found_base : IsSome (generation_of found.log) → AreSynced f.table new → IsTable f.table → IsStorable f.durable → IsLogged (logged f.durable f.table) → IsBaseOf found.log f.table f.durable new
  found_base begun synced table storable given =
      let now : IsNow found.log batches new.seen = record {
        zero = c.zero;
        one = c.one;
        logs = has_logs_by old.seen new.seen c.zero c.one (seen_is 0) (seen_is 1) c.logs;
        file_is = sym c.file_is ∙ sym c.log_file;
        generation_is = generation_is;
        batches_are = refl;
      } in
      let stored : AreStoredIn new.seen f.table (last_of f.durable) (stored_messages f.durable) =
      subst (λ (x : Files). AreStoredIn x f.table (last_of f.durable) (stored_messages f.durable)) (sym (fun_ext on.seen)) is.stored in
      base_of found.log batches new f.table f.durable now (settled_quiet found.log batches mid new on c.settled) begun (quiet_durable mid new 0 on c.durable_zero) (quiet_durable mid new 1 on c.durable_one) gives
      (record {
        table = table;
        stand = firm_blocks f.table new (firm new (last_of f.durable) f.table synced stored.whole);
        storable = storable;
        given = given;
        stored = stored;
        openable = is.openable;
      })

  -- ---- where no log has an open batch

  both_none : (g h : Option ℕ) (b : Bool) → is_first g h ≡ b → cond b g h ≡ None → (g ≡ None) × (h ≡ None)
  both_none None None b e k = (refl, refl)
  both_none None (Some h) b e k = absurd (none_some (sym (subst (λ (x : Bool). cond x None (Some h) ≡ None) (sym e) k)))
  both_none (Some g) None b e k = absurd (none_some (sym (subst (λ (x : Bool). cond x (Some g) None ≡ None) (sym e) k)))
  both_none (Some g) (Some h) true e k = absurd (none_some (sym k))
  both_none (Some g) (Some h) false e k = absurd (none_some (sym k))

  none_both : generation_of found.log ≡ None → (c.zero.generation ≡ None) × (c.one.generation ≡ None)
  none_both none = go (is_first c.zero.generation c.one.generation) refl (generation_is ∙ none)
    where
      go : (b : Bool) → is_first c.zero.generation c.one.generation ≡ b → (cond b c.zero c.one).generation ≡ None → (c.zero.generation ≡ None) × (c.one.generation ≡ None)
      go true e k = both_none c.zero.generation c.one.generation true e k
      go false e k = both_none c.zero.generation c.one.generation false e k

  pub found_unbegun : generation_of found.log ≡ None → IsUntouched old.seen → AreBlocksGone new → IsUnbegun new
  found_unbegun none untouched gone =
      let both = none_both none in
      record {
        none = record {
          zero = c.zero;
          one = c.one;
          logs = has_logs_by old.seen new.seen c.zero c.one (seen_is 0) (seen_is 1) c.logs;
          none_in_zero = both.0;
          none_in_one = both.1;
        };
        durable_zero = quiet_durable mid new 0 on c.durable_zero;
        durable_one = quiet_durable mid new 1 on c.durable_one;
        untouched = subst IsUntouched (sym (fun_ext seen_is)) untouched;
        gone = gone;
      }

  -- the place is vacant, and has no blocks
  vacant_given : generation_of found.log ≡ None → logged f.durable f.table ≡ beginning 0
  vacant_given none =
      subst (λ (l : List Bytes). Gives l (logged f.durable f.table)) (no_batches (mid.seen found.log.file) (generation_of found.log) batches c.settled.read none) gives

  pub found_vacant : generation_of found.log ≡ None → f.durable ≡ vacant 0
  found_vacant none = unread_vacant f.durable (ap (λ (g : Logged). g.durable) (vacant_given none))

  pub found_no_blocks : generation_of found.log ≡ None → f.table ≡ no_blocks
  found_no_blocks none = ap (λ (g : Logged). g.blocks) (vacant_given none)

  pub found_none_open : generation_of found.log ≡ None → IsNoneOpen old.seen
  found_none_open none = let both = none_both none in record { zero = c.zero; one = c.one; logs = c.logs; none_in_zero = both.0; none_in_one = both.1 }

  pub not_begun : IsNoneOpen old.seen → generation_of found.log ≡ None
  not_begun n =
      let zero = log_same (old.seen 0) c.zero n.zero c.logs.in_zero n.logs.in_zero in
      let one = log_same (old.seen 1) c.one n.one c.logs.in_one n.logs.in_one in
      sym generation_is ∙ ap (λ (l : LogIn). (current l c.one).generation) zero ∙ ap (λ (l : LogIn). (current n.zero l).generation) one ∙ go (is_first n.zero.generation n.one.generation)
    where
      go : (b : Bool) → (cond b n.zero n.one).generation ≡ None
      go true = n.none_in_zero
      go false = n.none_in_one

-- ---- what is wrong with the current log

pub records_fault_of : (found : Current) (old mid : Disk) → Quiet old mid → (fault : OpenFault) → IsCurrent found old mid → IsRecordsFault found.file found.log mid fault → IsOpenFault old.seen fault
records_fault_of found old mid still Fault c h = tt
records_fault_of found old mid still (Damaged file at) c h =
    let batches = (current c.zero c.one).batches in
    let there = subst (λ (n : ℕ). IsBadLogged mid.seen n batches file at) c.file_is (h batches c.settled) in
    inr (inl (record { zero = c.zero; one = c.one; logs = c.logs; bad = subst (λ (x : Files). IsBadLogged x (current_file c.zero c.one) batches file at) (fun_ext still.seen) there }))
records_fault_of found old mid still (UnknownVersion n) c h = absurd h
records_fault_of found old mid still NoRoom c h = absurd h
records_fault_of found old mid still OutOfMemory c h = tt

pub log_fault_of : (image : Files) (fault : OpenFault) → IsLogFault image fault → IsOpenFault image fault
log_fault_of image Fault h = tt
log_fault_of image (Damaged file at) h = inl h
log_fault_of image (UnknownVersion n) h = h
log_fault_of image NoRoom h = absurd h
log_fault_of image OutOfMemory h = absurd h

-- a stream is missing
pub touched_of : (image : Files) (fault : OpenFault) → IsNoneOpen image → IsFaultWhere (IsTouchedAt image) fault → IsOpenFault image fault
touched_of image Fault none h = tt
touched_of image (Damaged file at) none h = inr (inr (record { none = none; touched = h }))
touched_of image (UnknownVersion n) none h = absurd h
touched_of image NoRoom none h = absurd h
touched_of image OutOfMemory none h = absurd h

pub begin_of : (image : Files) (fault : OpenFault) → IsBeginFault fault → IsOpenFault image fault
begin_of image Fault h = tt
begin_of image (Damaged file at) h = absurd h
begin_of image (UnknownVersion n) h = absurd h
begin_of image NoRoom h = tt
begin_of image OutOfMemory h = tt
