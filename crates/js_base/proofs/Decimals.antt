-- Laws of decimal numbers.
use Rattle.std.proofs.Common.{ℕ, zero, lit≤, ◌≡◌, ◌≤◌, ◌+◌, ◌*◌, ◌-◌, ◌<◌, ◌^◌, List, ◌∷◌, arith, length, drop, suc, get_or, add-one}
use Rattle.std.proofs.Math.Nat.{pow-suc}
use Rattle.std.proofs.Math.Seq.{drop-cons}
use Rattle.js_base.specs.Decimal.{value_of}

-- the number whose first digits spell n, and whose others are these
abbrev pub continued : ℕ → List ℕ → ℕ
continued n digits = n * 10 ^ length digits + value_of digits

one_more : (n d p v : ℕ) → n * (p * 10) + (d * p + v) ≡ (n * 10 + d) * p + v
one_more n d p v = grind arith

step : (n d : ℕ) (more : List ℕ) → continued n (d ∷ more) ≡ continued (n * 10 + (d - 48)) more
step n d more = rw (pow-suc 10 (length more)) (one_more n (d - 48) (10 ^ length more) (value_of more))

-- one digit on
pub continued-next : (n : ℕ) (text : List ℕ) (i : ℕ) → i < length text →
    continued n (drop i text) ≡ continued (n * 10 + (get_or text i 0 - 48)) (drop (i + 1) text)
continued-next n text i h = rw (drop-cons text i 0 h) (rw add-one (step n (get_or text i 0) (drop (suc i) text)))

above : (n p d v : ℕ) → 2 ^ 60 ≤ n → 1 ≤ p → 2 ^ 62 ≤ (n * 10 + d) * p + v
above n p d v low one = grind arith

pow_one : (k : ℕ) → 1 ≤ 10 ^ k
pow_one zero = lit≤ tt
pow_one (suc k) = let next = pow_one k in rw (pow-suc 10 k) (omega arith)

-- a number of so much, and a digit more, is too big
pub too_big : (n : ℕ) (text : List ℕ) (i : ℕ) → i < length text → 2 ^ 60 ≤ n → 2 ^ 62 ≤ continued n (drop i text)
too_big n text i h low =
    rw (continued-next n text i h) (above n (10 ^ length (drop (i + 1) text)) (get_or text i 0 - 48) (value_of (drop (i + 1) text)) low (pow_one (length (drop (i + 1) text))))
