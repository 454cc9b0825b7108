-- Names of two letters, and numbers of messages, are ones that may be asked for.
use Rattle.std.proofs.Common.{◌≡◌, ◌≤◌, ◌<◌, ◌^◌, ℕ, true, false, [], ◌∷◌, refl, arith}
use Rattle.std.specs.Prelude.{◌==◌}
use Rattle.std.proofs.lemmas.Bool.{and_from, le-leb, lt-ltb, ne_eqb}
use Rattle.js_base.specs.Names.{is_name_byte}
use Rattle.js_model.specs.Configs.{is_name, is_number}

other : (m x : ℕ) → m < x → (m == x) ≡ false
other m x before = ne_eqb m x (λ e. let no : ⊥ = omega (arith, e, before) in absurd no)

letter : (x : ℕ) → 97 ≤ x → x ≤ 122 → is_name_byte x ≡ true
letter x low high =
    let below : (m : ℕ) → m < 97 → (m == x) ≡ false = λ m small. other m x (omega (arith, small, low)) in
    rw (below 46 (omega arith), below 42 (omega arith), below 62 (omega arith), below 47 (omega arith), below 92 (omega arith))
    (and_from _ _ (and_from _ _ (le-leb 33 x (omega (arith, low))) (le-leb x 126 (omega (arith, high)))) refl)

pub letters : (x y : ℕ) → 97 ≤ x → x ≤ 122 → 97 ≤ y → y ≤ 122 → is_name (x ∷ y ∷ []) ≡ true
letters x y x_low x_high y_low y_high = rw (letter x x_low x_high, letter y y_low y_high) refl

pub number : (n : ℕ) → n < 2 ^ 62 → is_number n ≡ true
number n small = lt-ltb n (2 ^ 62) small
