-- What stays open in a log file that gets longer, or is cut behind its batches.
use Rattle.std.proofs.Common.{◌≡◌, ◌≢◌, ◌⊎◌, inl, inr, ℕ, ◌+◌, ◌<◌, ◌≤◌, List, [], ◌∷◌, ◌++◌, Option, None, Some, IfSome, length, take, drop, get_or, sym, ◌∙◌, ap, subst, arith, length-take}
use Rattle.std.specs.Prelude.{IsSome}
use Rattle.std.proofs.lemmas.Bool.{cases_eq, false≢true}
use Rattle.std.proofs.lemmas.Bool.Decides.{nat_tests}
use Rattle.std.proofs.lemmas.List.{drop_all, get_or-take, take-take}
use Rattle.vol_disk.specs.Disk.{Disk, Files}
use Rattle.vol_disk.specs.Images.{IsDurable, IsHonest, IsImage}
use Rattle.vol_disk.specs.Moments.{Elsewhere, Quiet}
use Rattle.vol_disk.specs.Steps.{written, Torn}
use Rattle.vol_disk.specs.Synced.{DoesSynced}
use Rattle.vol_disk.specs.Growing.{Extends, ExtendsAt, IsExtendedImage}
use Rattle.vol_disk.proofs.Moments.{joined, widened, rests_on}
use Rattle.js_base.specs.Bytes.{Bytes}
use Rattle.gate_log.specs.Head.{head}
use Rattle.gate_log.specs.Batches.{end_of}
use Rattle.gate_log.specs.LogFile.{IsLog, IsShut, HasOpen}
use Rattle.gate_log.specs.LogState.{LogState, generation_of}
use Rattle.gate_log.specs.Settled.{IsSettled}
use Rattle.gate_log.specs.Growing.{EndsBefore, KeepsOpen, LeavesOpen}
use Rattle.gate_log.proofs.Crash.{same_front}
use Rattle.gate_log.proofs.OneReading.{one_list, short_none}
use Rattle.gate_log.proofs.Spelling.{size}

-- ---- one file

-- the same up to an offset behind what is open
front_log : (n : ℕ) (old new : Bytes) (g : ℕ) (bs : List Bytes) → end_of bs < n → take n new ≡ take n old → IsLog g bs old → IsLog g bs new
front_log n old new g bs before same log = record {
  gate = log.gate;
  rest = drop (end_of bs + 1) new;
  spells = same_front old g bs log.gate log.rest log.spells new (sym (take-take (end_of bs + 1) n new (omega arith)) ∙ ap (λ (l : Bytes). take (end_of bs + 1) l) same ∙ take-take (end_of bs + 1) n old (omega arith));
  closed = log.closed;
}

front_shut : (n : ℕ) (old new : Bytes) → 20 < n → n ≤ length new → take n new ≡ take n old → IsShut old → IsShut new
front_shut n old new behind long same shut = record {
  marked = sym (take-take 8 n new (omega arith)) ∙ ap (λ (l : Bytes). take 8 l) same ∙ take-take 8 n old (omega arith) ∙ shut.marked;
  long = omega arith;
  closed = λ one. shut.closed (sym (get_or-take n old 20 0 behind) ∙ ap (λ (l : Bytes). get_or l 20 0) (sym same) ∙ get_or-take n new 20 0 behind ∙ one);
}

-- a file that gets longer: behind its end any bytes may stand, but of one that has a head
pub keeps_longer : (old new : Bytes) → (21 < length old) ⊎ IsShut old → length old ≤ length new → take (length old) new ≡ take (length old) old → KeepsOpen old new
keeps_longer old new (inl long) longer same None [] (inl short) = absurd (omega arith)
keeps_longer old new (inr shut) longer same None [] (inl short) = inr (front_shut (length old) old new shut.long longer same shut)
keeps_longer old new headed longer same None [] (inr shut) = inr (front_shut (length old) old new shut.long longer same shut)
keeps_longer old new headed longer same None (b ∷ bs) open_ = absurd open_
keeps_longer old new headed longer same (Some g) [] open_ = absurd open_
keeps_longer old new headed longer same (Some g) (b ∷ bs) log = front_log (length old) old new g (b ∷ bs) (omega (arith, size old g (b ∷ bs) log.gate log.rest log.spells)) same log

-- one that holds nothing
keeps_none : (old new : Bytes) → length old ≤ 21 → HasOpen new None [] → KeepsOpen old new
keeps_none old new short none None [] open_ = none
keeps_none old new short none None (b ∷ bs) open_ = absurd open_
keeps_none old new short none (Some g) [] open_ = absurd open_
keeps_none old new short none (Some g) (b ∷ bs) log = absurd (short_none old g b bs short log)

pub keeps_short : (old new : Bytes) → length old ≤ 21 → length new ≤ 21 → KeepsOpen old new
keeps_short old new short less = keeps_none old new short (inl less)

pub keeps_shut : (old new : Bytes) → length old ≤ 21 → IsShut new → KeepsOpen old new
keeps_shut old new short shut = keeps_none old new short (inr shut)

reaches : (n : ℕ) (old new : Bytes) → n ≤ length old → take n new ≡ take n old → n ≤ length new
reaches n old new within same = omega (arith, within, ap length same, length-take n new, length-take n old)

-- ---- a head that is written

-- over as many bytes, of which nothing is kept
pub written_head : (bytes old new : Bytes) → bytes ≡ head 0 ++ 0 ∷ [] → length old ≡ 21 → new ≡ written 0 bytes old → IsShut new × (length new ≡ 21)
written_head bytes old new bytes_are long is = (record { marked = ap (λ (l : Bytes). take 8 l) whole; long = omega (arith, so_long); closed = λ one. absurd (omega (arith, one, shut)) }, so_long)
  where
    whole : new ≡ head 0 ++ 0 ∷ []
    whole = is ∙ ap (λ (l : Bytes). l ++ drop (0 + length l) old) bytes_are ∙ ap (λ (l : Bytes). (head 0 ++ 0 ∷ []) ++ l) (drop_all 21 old (omega (arith, long)))

    so_long : length new ≡ 21
    so_long = ap length whole

    shut : get_or new 20 0 ≡ 0
    shut = ap (λ (l : Bytes). get_or l 20 0) whole

-- ---- one file that is cut behind its batches

pub keeps_cut : (to : ℕ) (old new : Bytes) → EndsBefore to old → to ≤ length old → length new ≤ length old → take to new ≡ take to old → KeepsOpen old new
keeps_cut to old new ends within shorter same None [] (inl short) = inl (omega arith)
keeps_cut to old new ends within shorter same None [] (inr shut) =
    let none = one_list old ends.generation None ends.batches [] ends.read (inr shut) in
    inr (front_shut to old new (subst (λ (l : List Bytes). end_of l < to) none ends.before) (reaches to old new within same) same shut)
keeps_cut to old new ends within shorter same None (b ∷ bs) open_ = absurd open_
keeps_cut to old new ends within shorter same (Some g) [] open_ = absurd open_
keeps_cut to old new ends within shorter same (Some g) (b ∷ bs) log =
    let one = one_list old ends.generation (Some g) ends.batches (b ∷ bs) ends.read log in
    front_log to old new g (b ∷ bs) (subst (λ (l : List Bytes). end_of l < to) one ends.before) same log

pub keeps_take : (to : ℕ) (old new : Bytes) → EndsBefore to old → to ≤ length old → new ≡ take to old → KeepsOpen old new
keeps_take to old new ends within is =
    keeps_cut to old new ends within (omega (arith, within, ap length is, length-take to old)) (ap (λ (l : Bytes). take to l) is ∙ take-take to to old (omega arith))

pub keeps_on : (old mid new : Bytes) → KeepsOpen old mid → KeepsOpen mid new → KeepsOpen old new
keeps_on old mid new first second g bs open_ = second g bs (first g bs open_)

pub keeps_same : (old new : Bytes) → new ≡ old → KeepsOpen old new
keeps_same old new same g bs open_ = subst (λ (l : Bytes). HasOpen l g bs) (sym same) open_

-- ---- a log that is known

-- with a generation told, that is the one in its head
told_head : (log : LogState) → IsSome (generation_of log) → generation_of log ≡ log.head
told_head log some = elim (cases_eq log.end 20) [
  | inl none ↦ absurd (false≢true (subst (λ (o : Option ℕ). IsSome o) (nothing none) some))
  | inr more ↦ something more
]
  where
    nothing : log.end ≡ 20 → generation_of log ≡ None
    nothing none = grind (arith, nat_tests)

    something : log.end ≢ 20 → generation_of log ≡ log.head
    something more = grind (arith, nat_tests)

some_log : (head : Option ℕ) (batches : List Bytes) (bytes : Bytes) → HasOpen bytes head batches → IfSome head (λ generation. IsLog generation batches bytes)
some_log None batches bytes open_ = tt
some_log (Some g) [] bytes open_ = absurd open_
some_log (Some g) (b ∷ bs) bytes open_ = open_

-- it is what it was, if a batch is open
pub settled_kept : (log : LogState) (batches : List Bytes) (old new : Disk) → KeepsOpen (old.seen log.file) (new.seen log.file) → IsDurable new log.file → IsSome (generation_of log) → IsSettled log batches old → IsSettled log batches new
settled_kept log batches old new keeps durable some settled = record {
  read = keeps (generation_of log) batches settled.read;
  head = some_log log.head batches (new.seen log.file) (subst (λ (o : Option ℕ). HasOpen (new.seen log.file) o batches) (told_head log some) (keeps (generation_of log) batches settled.read));
  first_end = settled.first_end;
  end = settled.end;
  durable = durable;
}

-- ---- disks

abbrev WasKept : ℕ → Disk → Files → Type 0
WasKept file old image = KeepsOpen (old.seen file) (image file) × Elsewhere file old image

-- nothing was written
pub opens_quiet : (file : ℕ) (old mid : Disk) → IsDurable old file → Quiet old mid → LeavesOpen file old mid
opens_quiet file old mid durable still = record {
  elsewhere = λ other ne. record { seen = still.seen other; leaves = still.leaves other };
  any_moment = widened old mid (WasKept file old) (IsImage old) still.any_moment (λ image left. (keeps_same (old.seen file) (image file) (durable (image file) (left.left file)), λ other ne. left.left other));
}

-- room was made
pub opens_longer : (file end : ℕ) (old new : Disk) → IsDurable old file → ((bytes : Bytes) → Extends (length (old.seen file)) end (old.seen file) bytes → KeepsOpen (old.seen file) bytes) → ExtendsAt file end old new → LeavesOpen file old new
opens_longer file end old new durable leads extends = record {
  elsewhere = extends.elsewhere;
  any_moment = widened old new (WasKept file old) (λ image. IsExtendedImage file end old (image file) × Elsewhere file old image) extends.any_moment
      (λ image left. (leads (image file) (subst (λ (l : Bytes). Extends (length (old.seen file)) end l (image file)) (durable left.0.0 left.0.1) left.0.2), left.1));
}

-- up to the end of a head
pub opens_short : (file : ℕ) (old new : Disk) → IsDurable old file → length (old.seen file) ≤ 21 → ExtendsAt file 21 old new → LeavesOpen file old new
opens_short file old new durable short = opens_longer file 21 old new durable (λ bytes more. keeps_short (old.seen file) bytes short (omega (arith, more.no_longer, short)))

-- behind a head
pub opens_headed : (file end : ℕ) (old new : Disk) → IsDurable old file → (21 < length (old.seen file)) ⊎ IsShut (old.seen file) → ExtendsAt file end old new → LeavesOpen file old new
opens_headed file end old new durable headed = opens_longer file end old new durable (λ bytes more. keeps_longer (old.seen file) bytes headed more.no_shorter more.front)

-- and the file reads so
pub extends_seen : (file end : ℕ) (old new : Disk) → IsHonest new → IsDurable old file → ExtendsAt file end old new → Extends (length (old.seen file)) end (old.seen file) (new.seen file)
extends_seen file end old new honest durable extends =
    let from = extends.leaves (new.seen file) (honest file) in
    subst (λ (l : Bytes). Extends (length (old.seen file)) end l (new.seen file)) (durable from.0 from.1) from.2

-- one change more
pub opens_then : (file : ℕ) (step : Bytes → Bytes → Type 0) (old mid new : Disk) → LeavesOpen file old mid → DoesSynced file step mid new →
    ((bytes : Bytes) → step (mid.seen file) bytes → KeepsOpen (old.seen file) bytes) → LeavesOpen file old new
opens_then file step old mid new first does leads = record {
  elsewhere = λ other ne. rests_on other old mid new (first.elsewhere other ne) (does.elsewhere other ne);
  any_moment = joined old mid new (WasKept file old) (λ image. step (mid.seen file) (image file) × Elsewhere file mid image) first.any_moment does.any_moment (λ image left. (leads (image file) left.0, λ other ne. (first.elsewhere other ne).leaves (image other) (left.1 other ne)));
}

-- the write of a head
pub opens_head : (file : ℕ) (old mid new : Disk) → length (old.seen file) ≤ 21 → length (mid.seen file) ≤ 21 → LeavesOpen file old mid → DoesSynced file (Torn 0 21) mid new → LeavesOpen file old new
opens_head file old mid new short most first does = opens_then file (Torn 0 21) old mid new first does (λ bytes torn. keeps_short (old.seen file) bytes short (omega (arith, torn.no_longer, most)))

-- one after the other
pub opens_on : (file : ℕ) (old mid new : Disk) → KeepsOpen (old.seen file) (mid.seen file) → LeavesOpen file old mid → LeavesOpen file mid new → LeavesOpen file old new
opens_on file old mid new keeps first second = record {
  elsewhere = λ other ne. rests_on other old mid new (first.elsewhere other ne) (second.elsewhere other ne);
  any_moment = joined old mid new (WasKept file old) (WasKept file mid) first.any_moment second.any_moment (λ image left. (keeps_on (old.seen file) (mid.seen file) (image file) keeps left.0, λ other ne. (first.elsewhere other ne).leaves (image other) (left.1 other ne)));
}
