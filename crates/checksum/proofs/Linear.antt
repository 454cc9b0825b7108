-- The steps of the register are linear: after the sum of two registers it is the sum of what each becomes.
use Rattle.std.proofs.Common.{◌≡◌, ◌⊎◌, ◌<◌, ◌*◌, ◌/◌, ◌%◌, ◌^◌, ℕ, zero, suc, inl, inr, refl, sym, ap, ◌∙◌, arith}
use Rattle.std.specs.Prelude.{◌==◌, if◌then◌else◌}
use Rattle.std.proofs.Math.Nat.{pow-suc, mul_assoc}
use Rattle.std.proofs.lemmas.Nat.{shr_split, mod_below, xor_mod, xor_shr}
use lib.Bits.{bit_xor, xor_assoc, xor_comm, xor_shifted, xor_zero_r}
use Rattle.checksum.specs.Crc.{polynomial, after_bit, after_bits}

-- what is added as a bit falls out
taken : ℕ → ℕ
taken zero = 0
taken (suc _) = polynomial

zero_or_one : (r : ℕ) → (r % 2 ≡ 0) ⊎ (r % 2 ≡ 1)
zero_or_one r = grind arith

after_bit_is : (r : ℕ) → after_bit r ≡ bit_xor (r / 2) (taken (r % 2))
unfolding after_bit taken
after_bit_is r = elim (zero_or_one r) [
  | inl even ↦ ap (λ (n : ℕ). if n == 1 then bit_xor (r / 2) polynomial else r / 2) even ∙ sym (xor_zero_r (r / 2)) ∙ ap (λ (n : ℕ). bit_xor (r / 2) (taken n)) (sym even)
  | inr odd ↦ ap (λ (n : ℕ). if n == 1 then bit_xor (r / 2) polynomial else r / 2) odd ∙ ap (λ (n : ℕ). bit_xor (r / 2) (taken n)) (sym odd)
]

taken_at : (m n i j : ℕ) → m ≡ i → n ≡ j → taken (bit_xor i j) ≡ bit_xor (taken i) (taken j) → taken (bit_xor m n) ≡ bit_xor (taken m) (taken n)
taken_at m n i j p q h =
    ap (λ (k : ℕ). taken (bit_xor k n)) p ∙ ap (λ (k : ℕ). taken (bit_xor i k)) q ∙ h ∙ ap (λ (k : ℕ). bit_xor (taken k) (taken j)) (sym p) ∙ ap (λ (k : ℕ). bit_xor (taken m) (taken k)) (sym q)

taken_xor : (m n : ℕ) → (m ≡ 0) ⊎ (m ≡ 1) → (n ≡ 0) ⊎ (n ≡ 1) → taken (bit_xor m n) ≡ bit_xor (taken m) (taken n)
unfolding taken
taken_xor m n (inl p) (inl q) = taken_at m n 0 0 p q refl
taken_xor m n (inl p) (inr q) = taken_at m n 0 1 p q refl
taken_xor m n (inr p) (inl q) = taken_at m n 1 0 p q refl
taken_xor m n (inr p) (inr q) = taken_at m n 1 1 p q refl

xor_middle : (a b c d : ℕ) → bit_xor (bit_xor a b) (bit_xor c d) ≡ bit_xor (bit_xor a c) (bit_xor b d)
xor_middle a b c d =
    xor_assoc a b (bit_xor c d)
    ∙ ap (λ (n : ℕ). bit_xor a n) (sym (xor_assoc b c d) ∙ ap (λ (n : ℕ). bit_xor n d) (xor_comm b c) ∙ xor_assoc c b d)
    ∙ sym (xor_assoc a c (bit_xor b d))

one_bit : (a b : ℕ) → after_bit (bit_xor a b) ≡ bit_xor (after_bit a) (after_bit b)
one_bit a b =
    after_bit_is (bit_xor a b)
    ∙ ap (λ (n : ℕ). bit_xor n (taken (bit_xor a b % 2))) (xor_shr a b 1)
    ∙ ap (λ (n : ℕ). bit_xor (bit_xor (a / 2) (b / 2)) (taken n)) (xor_mod a b 1)
    ∙ ap (λ (n : ℕ). bit_xor (bit_xor (a / 2) (b / 2)) n) (taken_xor (a % 2) (b % 2) (zero_or_one a) (zero_or_one b))
    ∙ xor_middle (a / 2) (b / 2) (taken (a % 2)) (taken (b % 2))
    ∙ ap (λ (n : ℕ). bit_xor n (bit_xor (b / 2) (taken (b % 2)))) (sym (after_bit_is a))
    ∙ ap (λ (n : ℕ). bit_xor (after_bit a) n) (sym (after_bit_is b))

some_bits : (n a b : ℕ) → after_bits n (bit_xor a b) ≡ bit_xor (after_bits n a) (after_bits n b)
unfolding after_bits
some_bits zero a b = refl
some_bits (suc n) a b = ap (λ (r : ℕ). after_bits n r) (one_bit a b) ∙ some_bits n (after_bit a) (after_bit b)

-- bits that are 0 fall out, and nothing else happens
zero_bit : (r m : ℕ) → r ≡ m * 2 → after_bit r ≡ m
unfolding taken
zero_bit r m is =
    let even : r % 2 ≡ 0 = omega (arith, is) in
    let half : r / 2 ≡ m = omega (arith, is) in
    after_bit_is r ∙ ap (λ (n : ℕ). bit_xor (r / 2) (taken n)) even ∙ xor_zero_r (r / 2) ∙ half

zero_bits : (n m : ℕ) → after_bits n (m * 2 ^ n) ≡ m
unfolding after_bits
zero_bits zero m = omega arith
zero_bits (suc n) m =
    ap (λ (r : ℕ). after_bits n r) (zero_bit (m * 2 ^ suc n) (m * 2 ^ n) (ap (λ (k : ℕ). m * k) (pow-suc 2 n) ∙ sym (mul_assoc m (2 ^ n) 2))) ∙ zero_bits n m

-- the low bits fall out, and what they add is added to the rest
pub after_low_bits : (n r : ℕ) → 0 < 2 ^ n → after_bits n r ≡ bit_xor (r / 2 ^ n) (after_bits n (r % 2 ^ n))
after_low_bits n r some =
    ap (λ (k : ℕ). after_bits n k) (sym (shr_split r n) ∙ sym (xor_shifted (r / 2 ^ n) n (r % 2 ^ n) (mod_below r (2 ^ n) some)))
    ∙ some_bits n (r / 2 ^ n * 2 ^ n) (r % 2 ^ n)
    ∙ ap (λ (k : ℕ). bit_xor k (after_bits n (r % 2 ^ n))) (zero_bits n (r / 2 ^ n))
