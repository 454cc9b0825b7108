-- Numbers above 0: what they are as limits and as times.
use Rattle.std.proofs.Common.{◌≡◌, ℕ, suc, ◌-◌, ◌^◌, pos, true, false, ◌==◌, Some, nat_lt, nat_le, refl, arith}
use Rattle.std.proofs.lemmas.Bool.Decides.{nat_tests}
use Rattle.stream_config.specs.Standings.{allowed, nanos_standing, limit_standing}
use Rattle.stream_config.specs.Reading.{limit_of, window_of}

pub some : (n : ℕ) → nat_lt 0 (suc n) ≡ true
some n = grind (arith, nat_tests)

not_0 : (n : ℕ) → nat_lt 0 n ≡ true → (n == 0) ≡ false
not_0 n h = grind (arith, nat_tests)

from_0 : (n : ℕ) → nat_le 0 n ≡ true
from_0 n = grind (arith, nat_tests)

pub nanos_is : (n : ℕ) → nanos_standing (pos n) ≡ allowed (nat_le n (2 ^ 62 - 1))
nanos_is n = rw (from_0 n) refl

pub limit_is : (greatest n : ℕ) → limit_standing greatest (pos n) ≡ allowed (nat_le n greatest)
limit_is greatest n = refl

pub limit_kept : (n : ℕ) → nat_lt 0 n ≡ true → limit_of n ≡ Some n
limit_kept n h = rw (not_0 n h) refl

pub window_kept : (age window : ℕ) → nat_lt 0 window ≡ true → window_of age window ≡ window
window_kept age window h = rw (not_0 window h) refl
