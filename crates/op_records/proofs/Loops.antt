-- Lists and records that are read one after the other, as loops do.
use Rattle.std.proofs.Common.{◌≡◌, ℕ, suc, ◌+◌, ◌-◌, ◌≤◌, ◌<◌, List, [], ◌∷◌, ◌++◌, length, Result, Ok, Err, refl, sym, ap, subst, ◌∙◌, append_assoc, append-nil, arith}
use Rattle.std.specs.Int.{w32}
use Rattle.std.specs.Result.{IsErrAnd}
use Rattle.js_base.specs.Bytes.{Bytes}
use Rattle.op_records.specs.Steps.{Reading, Reader, continued, done}
use Rattle.op_records.specs.Fields.{word, list_fields, list_field}
use Rattle.op_records.specs.Reading.{record_at, Stand}
use Rattle.op_records.specs.Answers.{IsFaultOf, IsWrongBy, Reads}
use Rattle.op_records.specs.declared.fault.RecordFault.{RecordFault}
use Rattle.op_records.specs.declared.fault.RecordFault.TheVariants.{Cut, BadKind, BadField, NoMemory as OutOfMemory}
use Rattle.op_records.specs.declared.reader.Reader.{Reader as AtPlace}
use Rattle.op_records.specs.declared.record.Record.{Record}

-- ---- lists

-- the entries that were read before, and those that are still read
abbrev pub with_front : {A : Type 0} → List A → Reading (List A) → Reading (List A)
with_front front (Ok (xs, behind)) = Ok (front ++ xs, behind)
with_front front (Err fault) = Err fault

regroup : {A : Type 0} (bytes : Bytes) (front : List A) (x : A) (reading : Reading (List A)) → with_front front (continued bytes (λ (more : List A). done (x ∷ more)) reading) ≡ with_front (front ++ x ∷ []) reading
regroup {A} bytes front x (Ok (xs, behind)) = ap (λ (l : List A). Ok (l, behind)) (sym (append_assoc front (x ∷ []) xs))
regroup bytes front x (Err fault) = refl

pub goes_on : {A : Type 0} (field : Reader A) (bytes : Bytes) (front : List A) (count i at : ℕ) (x : A) (behind : ℕ) (total : Reading (List A)) → i < count → field bytes at ≡ Ok (x, behind)
    → with_front front (list_fields field (count - i) bytes at) ≡ total → with_front (front ++ x ∷ []) (list_fields field (count - (i + 1)) bytes behind) ≡ total
goes_on field bytes front count i at x behind total lt h so_far =
    let k : count - i ≡ suc (count - (i + 1)) = omega arith in
    let one : with_front front (list_fields field (count - i) bytes at) ≡ with_front (front ++ x ∷ []) (list_fields field (count - (i + 1)) bytes behind) = rw (k, h) (regroup bytes front x (list_fields field (count - (i + 1)) bytes behind)) in
    sym one ∙ so_far

stops : {A : Type 0} (field : Reader A) (bytes : Bytes) (front : List A) (count i at : ℕ) (fault : RecordFault) (total : Reading (List A)) → i < count → field bytes at ≡ Err fault
    → with_front front (list_fields field (count - i) bytes at) ≡ total → total ≡ Err fault
stops field bytes front count i at fault total lt h so_far =
    let k : count - i ≡ suc (count - (i + 1)) = omega arith in
    let one : with_front front (list_fields field (count - i) bytes at) ≡ Err fault = rw (k, h) refl in
    sym so_far ∙ one

pub fails_on : {A : Type 0} (field : Reader A) (bytes : Bytes) (front : List A) (count i at : ℕ) (fault : RecordFault) (total : Reading (List A)) → i < count → IsFaultOf (field bytes at) fault
    → with_front front (list_fields field (count - i) bytes at) ≡ total → IsFaultOf total fault
fails_on field bytes front count i at (Cut place) total lt h so_far = stops field bytes front count i at (Cut place) total lt h so_far
fails_on field bytes front count i at (BadKind place) total lt h so_far = stops field bytes front count i at (BadKind place) total lt h so_far
fails_on field bytes front count i at (BadField place) total lt h so_far = stops field bytes front count i at (BadField place) total lt h so_far
fails_on field bytes front count i at OutOfMemory total lt h so_far = tt

pub is_done : {A : Type 0} (field : Reader A) (bytes : Bytes) (front : List A) (count i at : ℕ) (total : Reading (List A)) → count ≤ i → with_front front (list_fields field (count - i) bytes at) ≡ total → total ≡ Ok (front, at)
is_done {A} field bytes front count i at total le so_far =
    let k : count - i ≡ 0 = omega arith in
    let one : with_front front (list_fields field (count - i) bytes at) ≡ Ok (front, at) = rw k (ap (λ (l : List A). Ok (l, at)) (append-nil front)) in
    sym so_far ∙ one

pub list_fault : {A : Type 0} (field : Reader A) (bytes : Bytes) (at count mid : ℕ) (fault : RecordFault) → word w32 bytes at ≡ Ok (count, mid) → IsFaultOf (list_fields field count bytes mid) fault → IsFaultOf (list_field field bytes at) fault
unfolding list_field
list_fault field bytes at count mid fault first h = subst (λ (r : Reading ℕ). IsFaultOf (continued bytes (list_fields field) r) fault) (sym first) h

pub list_read : {A : Type 0} (field : Reader A) (bytes : Bytes) (at count mid : ℕ) (xs : List A) (behind : ℕ) → word w32 bytes at ≡ Ok (count, mid) → list_fields field count bytes mid ≡ Ok (xs, behind) → list_field field bytes at ≡ Ok (xs, behind)
unfolding list_field
list_read field bytes at count mid xs behind first h = ap (continued bytes (list_fields field)) first ∙ h

-- a fault that is passed on
pub passed_on : {A : Type 0} (result : Result A RecordFault) (behind : AtPlace) (reading : Reading A) (fault : RecordFault) → IsErrAnd result (λ e. e ≡ fault) → IsFaultOf reading fault → Reads result behind reading
passed_on (Ok x) behind reading fault same h = absurd same
passed_on (Err e) behind reading fault same h = subst (IsFaultOf reading) (sym same) h

-- ---- records

pub stand_push : (bytes : Bytes) (at : ℕ) (rs : List Record) (mid : ℕ) (r : Record) (behind : ℕ) → Stand bytes at rs mid → record_at bytes mid ≡ Ok (r, behind) → Stand bytes at (rs ++ r ∷ []) behind
stand_push bytes at [] mid r behind h read = (behind, ap (record_at bytes) h ∙ read, refl)
stand_push bytes at (x ∷ rs) mid r behind h read = (h.0, h.1, stand_push bytes h.0 rs mid r behind h.2 read)

pub wrong_by : (bytes : Bytes) (rs : List Record) (at : ℕ) (fault : RecordFault) → Stand bytes 0 rs at → at < length bytes → IsFaultOf (record_at bytes at) fault → IsWrongBy bytes fault
wrong_by bytes rs at (Cut place) h more wrong = record { before = rs; at = at; stand = h; more = more; wrong = wrong }
wrong_by bytes rs at (BadKind place) h more wrong = record { before = rs; at = at; stand = h; more = more; wrong = wrong }
wrong_by bytes rs at (BadField place) h more wrong = record { before = rs; at = at; stand = h; more = more; wrong = wrong }
wrong_by bytes rs at OutOfMemory h more wrong = tt
