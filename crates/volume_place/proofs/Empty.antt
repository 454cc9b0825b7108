-- Whether there are records, by how many there are.
use Rattle.std.proofs.Common.{◌≡◌, ◌≢◌, ◌==◌, ℕ, true, false, List, [], length, ap, sym, ◌∙◌}
use Rattle.std.proofs.lemmas.Bool.{eq-eqb, eqb-true, true≢false}
use Rattle.std.proofs.lemmas.List.{nil_from_length}
use Rattle.effects.specs.declared.effect.Effect.{Effect}

pub nothing_in : (len : ℕ) (given : List Effect) → len ≡ length given → true ≡ (len == 0) → given ≡ []
nothing_in len given is e = nil_from_length given (sym is ∙ eqb-true len 0 (sym e))

pub something_in : (len : ℕ) (given : List Effect) → len ≡ length given → false ≡ (len == 0) → given ≢ []
something_in len given is e none = true≢false (sym (eq-eqb len 0 (is ∙ ap (λ (l : List Effect). length l) none)) ∙ sym e)
