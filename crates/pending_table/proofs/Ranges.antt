-- What is found from a sequence on, and what a search passes over.
use Rattle.std.proofs.Common.{◌≡◌, ℕ, ◌<◌, ◌≤◌, true, false, cond, List, ◌∷◌, ◌++◌, Option, Some, None, refl, ap, ◌∙◌, arith}
use Rattle.std.specs.Prelude.{find, nat_le}
use Rattle.std.specs.Option.{option_map, option_or}
use Rattle.std.proofs.lemmas.Bool.Decides.{nat_tests}
use Rattle.std.proofs.lemmas.List.Folds.{find-append}
use Rattle.js_model.specs.declared.consumer.Pending.{Pending}
use Rattle.pending_table.specs.Trees.{AreSides}
use Rattle.pending_table.proofs.Around.{all_map, find_right}

abbrev pub seq_of : Option Pending → Option ℕ
seq_of o = option_map (λ p. p.seq) o

not_from : (seq n : ℕ) → n < seq → nat_le seq n ≡ false
not_from seq n h = grind (arith, nat_tests)

from : (seq n : ℕ) → seq ≤ n → nat_le seq n ≡ true
from seq n h = grind (arith, nat_tests)

module _ (left : List Pending) (e : Pending) (right : List Pending) (seq : ℕ) where
  -- the entry is before the sequence, and so are those on its left
  pub from_right : AreSides left e right → e.seq < seq → find (λ p. nat_le seq p.seq) (left ++ e ∷ right) ≡ find (λ p. nat_le seq p.seq) right
  from_right sides h =
      find_right (λ p. nat_le seq p.seq) left (e ∷ right) (all_map (λ p. p.seq < e.seq) (λ p. nat_le seq p.seq ≡ false) (λ p k. not_from seq p.seq (omega (arith, h, k))) left sides.below)
      ∙ ap (λ b. cond b (Some e) (find (λ p. nat_le seq p.seq) right)) (not_from seq e.seq h)

  -- it is not
  pub from_left : seq ≤ e.seq → find (λ p. nat_le seq p.seq) (left ++ e ∷ right) ≡ option_or (find (λ p. nat_le seq p.seq) left) (Some e)
  from_left h =
      find-append (λ p. nat_le seq p.seq) left (e ∷ right)
      ∙ ap (λ b. option_or (find (λ p. nat_le seq p.seq) left) (cond b (Some e) (find (λ p. nat_le seq p.seq) right))) (from seq e.seq h)

-- what is found on the left comes first
pub found_left : (o q : Option Pending) (n : ℕ) → Some n ≡ seq_of o → Some n ≡ seq_of (option_or o q)
found_left None q n h = absurd cc
found_left (Some p) q n h = h

pub found_later : (o q : Option Pending) → None ≡ seq_of o → option_or o q ≡ q
found_later None q h = refl
found_later (Some p) q h = absurd cc
