-- What is written one after the other.
use Rattle.std.proofs.Common.{◌≡◌, ℕ, ◌+◌, ◌<◌, Bool, true, List, [], ◌∷◌, ◌++◌, length, get_or, take, sym, ap, ◌∙◌, append_assoc}
use Rattle.std.specs.List.{flat_map, list_all}
use Rattle.std.proofs.lemmas.List.{flat_map_more, take_more}
use Rattle.std.proofs.lemmas.List.Sums.{AllPass-from_list_all}
use Rattle.js_base.specs.Bytes.{Bytes}
use Rattle.op_records.proofs.Written.{two_parts, three_parts}

-- each of them may stand there
pub may_at : {A : Type 0} (may : A → Bool) (xs : List A) (i : ℕ) (x : A) → list_all may xs ≡ true → i < length xs → x ≡ get_or xs i x → may x ≡ true
may_at may xs i x all within is = ap may is ∙ AllPass-from_list_all may xs all i x within

-- one more of them is written
pub next_put : {A : Type 0} (text : A → Bytes) (old so_far new : Bytes) (xs : List A) (i : ℕ) (x : A) → i < length xs → x ≡ get_or xs i x → so_far ≡ old ++ flat_map text (take i xs) → new ≡ so_far ++ text x
    → new ≡ old ++ flat_map text (take (i + 1) xs)
next_put {A} text old so_far new xs i x within is front one =
    one
    ∙ ap (λ (l : Bytes). l ++ text x) front
    ∙ flat_map_more text old (take i xs) x
    ∙ ap (λ (l : List A). old ++ flat_map text l) (ap (λ (y : A). take i xs ++ y ∷ []) is ∙ sym (take_more xs i x within))

-- two parts at once, and one more
pub two_and_one : (old one new a b c : Bytes) → one ≡ old ++ (a ++ b) → new ≡ one ++ c → new ≡ old ++ (a ++ (b ++ c))
two_and_one old one new a b c first second = two_parts old one new (a ++ b) c first second ∙ ap (λ (l : Bytes). old ++ l) (append_assoc a b c)

-- and two more
pub two_and_two : (old one two new a b c d : Bytes) → one ≡ old ++ (a ++ b) → two ≡ one ++ c → new ≡ two ++ d → new ≡ old ++ (a ++ (b ++ (c ++ d)))
two_and_two old one two new a b c d first second third = two_and_one old one new a b (c ++ d) first (two_parts one two new c d second third)

-- and three more
pub two_and_three : (old one two three new a b c d e : Bytes) → one ≡ old ++ (a ++ b) → two ≡ one ++ c → three ≡ two ++ d → new ≡ three ++ e → new ≡ old ++ (a ++ (b ++ (c ++ (d ++ e))))
two_and_three old one two three new a b c d e first second third fourth = two_and_one old one new a b (c ++ (d ++ e)) first (three_parts one two three new c d e second third fourth)
