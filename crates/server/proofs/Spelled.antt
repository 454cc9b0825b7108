-- Laws of the options of the command line.
use Rattle.std.proofs.Common.{ℕ, ◌≡◌, ◌<◌, ◌==◌, Bool, true, false, [], ◌∷◌, None, length, refl, arith}
use Rattle.std.specs.List.{position_or_len}
use Rattle.std.proofs.lemmas.Str.Pattern.{IsSplitOnceResult, split_once_first}
use Rattle.js_base.specs.Bytes.{Bytes, has}

-- where the first `=` stands, or the length of the word
abbrev place : Bytes → ℕ
place word = position_or_len (λ byte. byte == 61) word

stands : (word : Bytes) → has word 61 ≡ true → place word < length word
stands [] h = cc
stands (b ∷ more) h = by (b == 61) refl (stands more)
  where
    by : (t : Bool) → (b == 61) ≡ t → (has more 61 ≡ true → place more < length more) → place (b ∷ more) < length (b ∷ more)
    by true is rest = rw is (omega arith)
    by false is rest = let other : has more 61 ≡ true = rw is at h in rw is (omega (arith, rest other))

apart : (word : Bytes) (b : Bool) → has word 61 ≡ b → place word ≡ length word → has word 61 ≡ false
apart word true is h = let e = stands word is in absurd (omega arith)
apart word false is h = is

-- a word that was not split has no `=`
pub splits_not : (word : Bytes) → IsSplitOnceResult 61 word None → has word 61 ≡ false
splits_not word h = apart word (has word 61) refl (split_once_first 61 word None h (omega arith))
