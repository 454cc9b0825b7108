-- What a call on a volume in memory does to its disk.
use Rattle.std.proofs.Common.{◌≡◌, ◌≤◌, inl, inr, ℕ, Bool, true, false, List, [], ◌++◌, Result, Ok, Err, IfOk, OnOk, OnErr, length, take, refl, sym, ◌∙◌, ap, subst, arith, drop, ◌+◌}
use Rattle.std.proofs.lemmas.List.{take_all, drop_all, append-nil}
use Rattle.vol_disk.specs.Disk.{IsLeftBelow}
use Rattle.vol_disk.specs.Images.{IsImage, IsDurable, IsAllDurable}
use Rattle.vol_disk.specs.Steps.{written, Torn, CutTo}
use Rattle.vol_disk.specs.Does.{Does}
use Rattle.vol_disk.specs.FileState.{FileState, at_rest}
use Rattle.vol_disk.specs.Left.{IsLeft}
use Rattle.vol_disk.specs.Calls.{CanDo, step_of, after, zeros}
use Rattle.vol_disk.specs.Replay.{bytes_in}
use Rattle.vol_disk.specs.MemDisk.{AreLeft, disk_after}
use Rattle.vol_disk.specs.Growing.{IsGrown}
use Rattle.vol_disk.specs.MemVol.{VolState, disk_of, file_of, IsDone, IsFailed, IsCall, IsGrowCall}
use Rattle.vol_disk.specs.declared.call.Call.{Call}
use Rattle.vol_disk.specs.declared.call.Deed.{Deed}
use Rattle.vol_disk.specs.declared.call.Deed.TheVariants.{Len, Read, Write, Grow, Cut, Sync, End}
use Rattle.vol_disk.specs.declared.failed.Failed.{Failed}
use Rattle.vol_disk.specs.declared.room.Room.{Room}
use Rattle.vol_disk.specs.declared.room.Room.TheVariants.{Made, Refused}
use Rattle.vol_disk.proofs.Leaving.{only_at_rest, step_same}
use Rattle.vol_disk.proofs.Replays.{state_here, does_call, does_nothing}
use Rattle.vol_disk.specs.Laws.{clocked}
use Rattle.vol_disk.specs.Moments.{Quiet}
use Rattle.vol_disk.proofs.Moments.{quiet, quiet_on}

-- the call as it is recorded
abbrev call_of : ℕ → Deed → Bool → Call
call_of file deed is_done = record { file = file; deed = deed; is_done = is_done }

-- its file after it
pub file_done : (old new : VolState) (file : ℕ) (deed : Deed) → IsDone old new file deed →
    file_of new file ≡ after deed true (file_of old file)
file_done old new file deed h = ap (λ (v : VolState). file_of v file) h.1 ∙ state_here old.start old.calls (call_of file deed true) file refl

-- a call that failed is not seen
unseen : (deed : Deed) (s : FileState) → (after deed false s).bytes ≡ s.bytes
unseen Len s = refl
unseen (Read at count) s = refl
unseen (Write at bytes) s = refl
unseen (Grow count) s = refl
unseen (Cut to) s = refl
unseen Sync s = refl
unseen End s = refl

pub bytes_failed : (old new : VolState) (file : ℕ) (deed : Deed) → IsFailed old new file deed →
    (file_of new file).bytes ≡ (file_of old file).bytes
bytes_failed old new file deed (inl h) =
    ap (λ (v : VolState). (file_of v file).bytes) h.1 ∙ ap (λ (s : FileState). s.bytes) (state_here old.start old.calls (call_of file deed false) file refl) ∙ unseen deed (file_of old file)
bytes_failed old new file deed (inr h) = ap (λ (v : VolState). (file_of v file).bytes) h

-- a look, and a sync, change nothing that is seen
pub kept_len : {T E : Type 0} (old new : VolState) (result : Result T E) (file : ℕ) → IsCall old new result file Len →
    (file_of new file).bytes ≡ (file_of old file).bytes
kept_len old new (Ok value) file h = ap (λ (s : FileState). s.bytes) (file_done old new file Len h)
kept_len old new (Err failed) file h = bytes_failed old new file Len h

pub kept_read : {T E : Type 0} (old new : VolState) (result : Result T E) (file at count : ℕ) → IsCall old new result file (Read at count) →
    (file_of new file).bytes ≡ (file_of old file).bytes
kept_read old new (Ok value) file at count h = ap (λ (s : FileState). s.bytes) (file_done old new file (Read at count) h)
kept_read old new (Err failed) file at count h = bytes_failed old new file (Read at count) h

pub kept_sync : {T E : Type 0} (old new : VolState) (result : Result T E) (file : ℕ) → IsCall old new result file Sync →
    (file_of new file).bytes ≡ (file_of old file).bytes
kept_sync old new (Ok value) file h = ap (λ (s : FileState). s.bytes) (file_done old new file Sync h)
kept_sync old new (Err failed) file h = bytes_failed old new file Sync h

-- a write and a cut are seen
pub seen_write : {T E : Type 0} (old new : VolState) (result : Result T E) (file at : ℕ) (bytes : List ℕ) → IsCall old new result file (Write at bytes) →
    OnOk result ((file_of new file).bytes ≡ written at bytes (file_of old file).bytes)
seen_write old new (Ok value) file at bytes h = ap (λ (s : FileState). s.bytes) (file_done old new file (Write at bytes) h)
seen_write old new (Err failed) file at bytes h = tt

pub seen_cut : {T E : Type 0} (old new : VolState) (result : Result T E) (file to : ℕ) → IsCall old new result file (Cut to) →
    OnOk result ((file_of new file).bytes ≡ take to (file_of old file).bytes)
seen_cut old new (Ok value) file to h = ap (λ (s : FileState). s.bytes) (file_done old new file (Cut to) h)
seen_cut old new (Err failed) file to h = tt

-- a write and a cut that failed may have done any part, here none
pub torn_write : {T E : Type 0} (old new : VolState) (result : Result T E) (file at : ℕ) (bytes : List ℕ) → IsCall old new result file (Write at bytes) →
    OnErr result (Torn at (length bytes) (file_of old file).bytes (file_of new file).bytes)
torn_write old new (Ok value) file at bytes h = tt
torn_write old new (Err failed) file at bytes h =
    subst (λ (b : List ℕ). Torn at (length bytes) (file_of old file).bytes b) (sym (bytes_failed old new file (Write at bytes) h)) (step_same 0 (Write at bytes) (file_of old file).bytes)

pub torn_cut : {T E : Type 0} (old new : VolState) (result : Result T E) (file to : ℕ) → IsCall old new result file (Cut to) →
    OnErr result (CutTo to (file_of old file).bytes (file_of new file).bytes)
torn_cut old new (Ok value) file to h = tt
torn_cut old new (Err failed) file to h =
    subst (λ (b : List ℕ). CutTo to (file_of old file).bytes b) (sym (bytes_failed old new file (Cut to) h)) (step_same 0 (Cut to) (file_of old file).bytes)

-- after a sync a crash leaves what a read gives
pub durable_sync : {T E : Type 0} (old new : VolState) (result : Result T E) (file : ℕ) → IsCall old new result file Sync →
    OnOk result (IsDurable (disk_of new) file)
durable_sync old new (Ok value) file h = λ bytes left.
    let here = file_done old new file Sync h in
    only_at_rest (file_of old file).bytes bytes (subst (λ s. IsLeft s bytes) here left) ∙ sym (ap (λ (s : FileState). s.bytes) here)
durable_sync old new (Err failed) file h = tt

-- the step that a call makes
abbrev step_at : VolState → ℕ → Deed → List ℕ → List ℕ → Type 0
step_at vol file deed = step_of (length (file_of vol file).bytes) deed

-- the call does what its step says
pub does_of : {T E : Type 0} (old new : VolState) (result : Result T E) (file : ℕ) (deed : Deed) → IsCall old new result file deed →
    CanDo deed (file_of old file) → Does file (step_at old file deed) (disk_of old) (disk_of new)
does_of old new (Ok value) file deed h can =
    subst (λ (v : VolState). Does file (step_at old file deed) (disk_of old) (disk_of v)) (sym h.1) (does_call old.start old.calls (call_of file deed true) can)
does_of old new (Err failed) file deed (inl h) can =
    subst (λ (v : VolState). Does file (step_at old file deed) (disk_of old) (disk_of v)) (sym h.1) (does_call old.start old.calls (call_of file deed false) can)
does_of old new (Err failed) file deed (inr h) can =
    subst (λ (v : VolState). Does file (step_at old file deed) (disk_of old) (disk_of v)) (sym h) (does_nothing (disk_of old) file (step_at old file deed) (step_same (length (file_of old file).bytes) deed))

-- ---- room

-- zeros at the end stand behind the bytes
written_end : (bytes more : List ℕ) → written (length bytes) more bytes ≡ bytes ++ more
written_end bytes more =
    ap (λ (front : List ℕ). (front ++ more) ++ drop (length bytes + length more) bytes) (take_all (length bytes) bytes (omega arith))
    ∙ ap (λ (behind : List ℕ). (bytes ++ more) ++ behind) (drop_all (length bytes + length more) bytes (omega arith)) ∙ append-nil (bytes ++ more)

-- it is seen if it was made
pub seen_grow : (old new : VolState) (result : Result Room Failed) (file count : ℕ) → IsGrowCall old new result file count →
    IfOk result (λ room. IsGrown room count (file_of old file).bytes (file_of new file).bytes)
seen_grow old new (Ok Made) file count h = ap (λ (s : FileState). s.bytes) (file_done old new file (Grow count) h) ∙ written_end (file_of old file).bytes (zeros count)
seen_grow old new (Ok Refused) file count h =
    ap (λ (v : VolState). (file_of v file).bytes) h.2 ∙ ap (λ (s : FileState). s.bytes) (state_here old.start old.calls (call_of file (Grow count) false) file refl)
seen_grow old new (Err failed) file count h = tt

pub torn_grow : (old new : VolState) (result : Result Room Failed) (file count : ℕ) → IsGrowCall old new result file count →
    OnErr result (Torn (length (file_of old file).bytes) count (file_of old file).bytes (file_of new file).bytes)
torn_grow old new (Ok room) file count h = tt
torn_grow old new (Err failed) file count h =
    let len = length (file_of old file).bytes in
    subst (λ (b : List ℕ). Torn len count (file_of old file).bytes b) (sym (bytes_failed old new file (Grow count) h)) (step_same len (Grow count) (file_of old file).bytes)

pub does_grow : (old new : VolState) (result : Result Room Failed) (file count : ℕ) → IsGrowCall old new result file count →
    Does file (Torn (length (file_of old file).bytes) count) (disk_of old) (disk_of new)
does_grow old new (Ok Made) file count h = does_of {T = Unit {0}} {E = Failed} old new (Ok tt) file (Grow count) h tt
does_grow old new (Ok Refused) file count h =
    subst (λ (v : VolState). Does file (step_at old file (Grow count)) (disk_of old) (disk_of v)) (sym h.2) (does_call old.start old.calls (call_of file (Grow count) false) tt)
does_grow old new (Err failed) file count h = does_of {T = Unit {0}} {E = Failed} old new (Err failed) file (Grow count) h tt

-- a look at all files writes nothing
pub kept_end : {T E : Type 0} (old new : VolState) (result : Result T E) → IsCall old new result 0 End → Quiet (disk_of old) (disk_of new)
kept_end {T} {E} old new result h =
    quiet_on (disk_of old) (disk_of old) (disk_of new) 0 (quiet (disk_of old) (clocked old.start old.calls)) (does_of old new result 0 End h tt) (same result h)
  where
    same : (answer : Result T E) → IsCall old new answer 0 End → (file_of new 0).bytes ≡ (file_of old 0).bytes
    same (Ok value) h = ap (λ (s : FileState). s.bytes) (file_done old new 0 End h)
    same (Err failed) h = bytes_failed old new 0 End h

-- a crash leaves nothing of files at rest that have no bytes
pub left_below : (v : VolState) (end : ℕ) → ((file : ℕ) → end ≤ file → file_of v file ≡ at_rest []) → IsLeftBelow end (disk_of v)
left_below v end rest file behind bytes left = only_at_rest [] bytes (subst (λ (s : FileState). IsLeft s bytes) (rest file behind) left)

-- files at rest that hold what a crash may leave are an image
pub image_of : (old : VolState) (start : List (ℕ × List ℕ)) (calls : List Call) → AreLeft old.start old.calls (bytes_in start) → calls ≡ [] →
    IsImage (disk_of old) (disk_after start calls).seen
image_of old start calls left none =
    subst (λ (cs : List Call). IsImage (disk_of old) (disk_after start cs).seen) (sym none) (record { bytes = left.bytes; left = left.left })

-- a crash leaves of them what reads give
pub durable_rest : (start : List (ℕ × List ℕ)) (calls : List Call) → calls ≡ [] → IsAllDurable (disk_after start calls)
durable_rest start calls none =
    subst (λ (cs : List Call). IsAllDurable (disk_after start cs)) (sym none) (λ file bytes left. only_at_rest (bytes_in start file) bytes left)
