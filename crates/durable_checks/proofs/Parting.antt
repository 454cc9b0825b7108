-- What the answer of a part says of the whole.
use Rattle.std.proofs.Common.{◌≡◌, Bool, true, false, Result, Ok, Err, IsTrue, sym, ◌∙◌}
use Rattle.std.specs.Prelude.{◌↔◌, IfOk}
use Rattle.std.proofs.lemmas.Bool.{true≢false}

-- a part fails that the whole would pass
pub fails : {P : Type 0} (answer test : Bool) → answer ≡ test → answer ≡ false → (P → test ≡ true) → IsTrue false ↔ P
fails answer test same is passes = (λ e. absurd (true≢false (sym e)), λ p. sym is ∙ same ∙ passes p)

-- the last part decides
pub decides : {P E : Type 0} (answer : Result Bool E) (test : Bool) → (test ≡ true → P) → (P → test ≡ true) → IfOk answer (λ it. it ≡ test) → IfOk answer (λ it. IsTrue it ↔ P)
decides (Ok it) test to from h = (λ e. to (sym h ∙ e), λ p. h ∙ from p)
decides (Err e) test to from h = h
