-- The first place at which a test fails.
use Rattle.std.proofs.Common.{ℕ, ◌≡◌, ◌+◌, Bool, true, false, cond, ltb, ◌&&◌, not, suc, [], ◌∷◌, Some, None, length, position, is_none, refl, ◌∙◌, arith}
use Rattle.std.specs.List.{list_all, position_or_len}
use Rattle.std.proofs.lemmas.Bool.Decides.{nat_tests}
use Rattle.js_base.specs.Bytes.{Bytes}

-- where the first byte is that fails, or the length
abbrev first : (ℕ → Bool) → Bytes → ℕ
first test text = position_or_len (λ byte. not (test byte)) text

one_more : (n l : ℕ) → ltb (1 + n) (suc l) ≡ ltb n l
one_more n l = grind (arith, nat_tests)

found_where_one_fails : (test : ℕ → Bool) (text : Bytes) → ltb (first test text) (length text) ≡ not (list_all test text)
found_where_one_fails test [] = refl
found_where_one_fails test (byte ∷ more) = go (test byte) (found_where_one_fails test more)
  where
    go : (b : Bool) → ltb (first test more) (length more) ≡ not (list_all test more)
        → ltb (cond (not (not b)) (1 + first test more) 0) (suc (length more)) ≡ not (b && list_all test more)
    go true h = one_more _ _ ∙ h
    go false h = grind (arith, nat_tests)

-- there is no such place exactly if all pass
pub none_fails : (test : ℕ → Bool) (text : Bytes) → is_none (position (λ byte. not (test byte)) text) ≡ list_all test text
none_fails test text = go (list_all test text) _ (found_where_one_fails test text)
  where
    go : (all found : Bool) → found ≡ not all → is_none (cond found (Some (first test text)) None) ≡ all
    go true found h = rw h refl
    go false found h = rw h refl
