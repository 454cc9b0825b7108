-- What is taken out of a structure, one by one.
use Rattle.std.proofs.Common.{◌≡◌, ℕ, ◌+◌, ◌<◌, List, [], ◌∷◌, ◌++◌, length, sym, ap, ◌∙◌, append_assoc, append-nil, arith}
use Rattle.std.specs.Prelude.{All}
use Rattle.std.proofs.lemmas.List.Elements.{All-nil, All-cons}
use Rattle.js_model.specs.declared.stream.Message.{Message}
use Rattle.js_model.specs.Lists.{Between}
use Rattle.js_model.proofs.Parts.{between_bounds}

-- one more is listed, and one less left
pub one_moved : {X : Type 0} (listed more left left' all : List X) (x : X) → listed ++ left ≡ all → left ≡ x ∷ left' → more ≡ listed ++ x ∷ [] → more ++ left' ≡ all
one_moved listed more left left' all x so_far is pushed = ap (λ (xs : List _). xs ++ left') pushed ∙ append_assoc listed (x ∷ []) left' ∙ ap (λ (xs : List _). listed ++ xs) (sym is) ∙ so_far

pub all_moved : {X : Type 0} (listed left all : List X) → listed ++ left ≡ all → left ≡ [] → listed ≡ all
all_moved listed left all so_far none = sym (append-nil listed) ∙ ap (λ (xs : List _). listed ++ xs) (sym none) ∙ so_far

pub fewer_left : {X : Type 0} (left left' : List X) (x : X) → left ≡ x ∷ left' → length left' < length left
fewer_left left left' x is = let same = ap length is in omega (arith, same)

-- all are below the end
pub all_below : (low end : ℕ) (ms : List Message) → Between (λ m. m.seq) low end ms → All (λ m. m.seq < end) ms
all_below low end [] h = All-nil (λ m. m.seq < end)
all_below low end (m ∷ ms) h = let above = between_bounds (λ m. m.seq) (m.seq + 1) end ms h.1 in All-cons (λ m. m.seq < end) m ms (omega (arith, above)) (all_below (m.seq + 1) end ms h.1)
