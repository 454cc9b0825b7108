-- Readers of bytes from a place on: what is read, and the place behind it, or a fault; one reading after the other.
use Rattle.std.specs.Prelude.{ℕ, Result, Ok, Err}
use Rattle.js_base.specs.Bytes.{Bytes}
use Rattle.op_records.specs.declared.fault.RecordFault.{RecordFault}

abbrev pub Reading : Type 0 → Type 0
Reading A = Result (A × ℕ) RecordFault

abbrev pub Reader : Type 0 → Type 0
Reader A = Bytes → ℕ → Reading A

-- the next reading begins behind this one
abbrev pub continued : {A B : Type 0} → Bytes → (A → Reader B) → Reading A → Reading B
continued bytes next (Ok (a, behind)) = next a bytes behind
continued bytes next (Err fault) = Err fault

infixl 10 ◌>>=◌
abbrev pub ◌>>=◌ : {A B : Type 0} → Reader A → (A → Reader B) → Reader B
(first >>= next) bytes at = continued bytes next (first bytes at)

-- nothing more is read
abbrev pub done : {A : Type 0} → A → Reader A
done a bytes at = Ok (a, at)

-- the place at which the next reading begins
abbrev pub place : Reader ℕ
place bytes at = Ok (at, at)

abbrev pub peeked : {A : Type 0} → ℕ → Reading A → Reading A
peeked at (Ok (a, behind)) = Ok (a, at)
peeked at (Err fault) = Err fault

-- what is read; the next reading begins where this one does
abbrev pub peek : {A : Type 0} → Reader A → Reader A
peek read bytes at = peeked at (read bytes at)
