-- What is known of one reading after the other.
use Rattle.std.proofs.Common.{◌≡◌, ℕ, Bool, true, false, Option, Some, None, Ok, Err, refl, sym, ap, ◌∙◌, if◌then◌else◌}
use Rattle.js_base.specs.Bytes.{Bytes}
use Rattle.op_records.specs.Steps.{Reading, Reader, continued, done, peeked}
use Rattle.op_records.specs.Fields.{only, some_or_bad}
use Rattle.op_records.specs.Answers.{IsFaultOf}
use Rattle.op_records.specs.declared.fault.RecordFault.{RecordFault}
use Rattle.op_records.specs.declared.fault.RecordFault.TheVariants.{Cut, BadKind, BadField, NoMemory as OutOfMemory}

-- the first reading failed, and so both do
pub fails : {A B : Type 0} (bytes : Bytes) (next : A → Reader B) (reading : Reading A) (fault : RecordFault) → IsFaultOf reading fault → IsFaultOf (continued bytes next reading) fault
fails bytes next reading (Cut at) h = rw h refl
fails bytes next reading (BadKind at) h = rw h refl
fails bytes next reading (BadField at) h = rw h refl
fails bytes next reading OutOfMemory h = tt

-- both readings succeeded
pub record Both {A B : Type 0} (bytes : Bytes) (next : A → Reader B) (reading : Reading A) (b : B) (behind : ℕ) : Type 0 where
  pub value : A
  pub mid : ℕ
  pub first : reading ≡ Ok (value, mid)
  pub second : next value bytes mid ≡ Ok (b, behind)

pub both : {A B : Type 0} (bytes : Bytes) (next : A → Reader B) (reading : Reading A) (b : B) (behind : ℕ) → continued bytes next reading ≡ Ok (b, behind) → Both bytes next reading b behind
both bytes next (Ok (a, mid)) b behind e = record { value = a; mid = mid; first = refl; second = e }
both bytes next (Err fault) b behind e = absurd (cc)

-- what two readings gave that are the same
abbrev read : {A : Type 0} → A × ℕ → Reading A
read x = Ok x

read_is : {A : Type 0} (x y : A × ℕ) → read x ≡ read y → x ≡ y
read_is x y e = cc

pub value_is : {A : Type 0} (a : A) (at : ℕ) (b : A) (behind : ℕ) → read (a, at) ≡ read (b, behind) → a ≡ b
value_is {A} a at b behind e = ap (λ (p : A × ℕ). p.0) (read_is (a, at) (b, behind) e)

pub place_is : {A : Type 0} (a : A) (at : ℕ) (b : A) (behind : ℕ) → read (a, at) ≡ read (b, behind) → at ≡ behind
place_is {A} a at b behind e = ap (λ (p : A × ℕ). p.1) (read_is (a, at) (b, behind) e)

-- it was read ahead of where the next reading begins
pub record Peeked {A : Type 0} (reading : Reading A) (at : ℕ) (a : A) (mid : ℕ) : Type 0 where
  pub behind : ℕ
  pub first : reading ≡ Ok (a, behind)
  pub place : at ≡ mid

pub peeked_is : {A : Type 0} (at : ℕ) (reading : Reading A) (a : A) (mid : ℕ) → peeked at reading ≡ Ok (a, mid) → Peeked reading at a mid
peeked_is {A} at (Ok (b, behind)) a mid e = record { behind = behind; first = ap (λ (x : A). read (x, behind)) (value_is b at a mid e); place = place_is b at a mid e }
peeked_is at (Err fault) a mid e = absurd (cc)

-- the value may stand there
pub record Passed {A : Type 0} (may : A → Bool) (a : A) (at : ℕ) (b : A) (behind : ℕ) : Type 0 where
  pub may_be : may b ≡ true
  pub value : a ≡ b
  pub place : at ≡ behind

pub passed : {A : Type 0} (may : A → Bool) (begin : ℕ) (a : A) (bytes : Bytes) (at : ℕ) (b : A) (behind : ℕ) → only may begin a bytes at ≡ Ok (b, behind) → Passed may a at b behind
passed may begin a bytes at b behind e = by (may a) refl e
  where
    by : (is : Bool) → may a ≡ is → (if is then done a else (λ _ _. Err (BadField begin))) bytes at ≡ Ok (b, behind) → Passed may a at b behind
    by true is e =
        let same = value_is a at b behind e in
        record { may_be = ap may (sym same) ∙ is; value = same; place = place_is a at b behind e }
    by false is e = absurd (cc)

-- the value was read
pub record Given {A : Type 0} (o : Option A) (a : A) (at behind : ℕ) : Type 0 where
  pub some : o ≡ Some a
  pub place : at ≡ behind

pub given : {A : Type 0} (begin : ℕ) (o : Option A) (bytes : Bytes) (at : ℕ) (a : A) (behind : ℕ) → some_or_bad begin o bytes at ≡ Ok (a, behind) → Given o a at behind
given begin None bytes at a behind e = absurd (cc)
given begin (Some x) bytes at a behind e = record { some = ap Some (value_is x at a behind e); place = place_is x at a behind e }
