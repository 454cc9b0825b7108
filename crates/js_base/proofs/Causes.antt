-- Laws of counts of faults.
use Rattle.std.proofs.Common.{ℕ, ◌≤◌, arith}
use Rattle.js_base.specs.Causes.{Rose, HasCause}

-- a count that rose has risen at any later time
pub rose_after : (a b c : ℕ) → Rose a b → b ≤ c → Rose a c
rose_after a b c h le = omega arith

-- a count that rose has risen since any earlier time
pub rose_before : (a b c : ℕ) → a ≤ b → Rose b c → Rose a c
rose_before a b c le h = omega arith

-- the call failed, and later the count did not fall
pub cause_after : {P : Type 0} (a b c : ℕ) → HasCause a b P → b ≤ c → HasCause a c P
cause_after a b c h le = record {
  later = omega (arith, h.later);
  failed = λ p. rose_after a b c (h.failed p) le;
}

-- the count did not fall, and then the call failed
pub cause_before : {P : Type 0} (a b c : ℕ) → a ≤ b → HasCause b c P → HasCause a c P
cause_before a b c le h = record {
  later = omega (arith, h.later);
  failed = λ p. rose_before a b c le (h.failed p);
}

-- the cause of one failure is that of another which comes only with it
pub cause_of : {P Q : Type 0} (a b : ℕ) → (Q → P) → HasCause a b P → HasCause a b Q
cause_of a b f h = record { later = h.later; failed = λ q. h.failed (f q) }
