-- Messages that are sent one after another.
use Rattle.std.proofs.Common.{◌≡◌, ℕ, zero, suc, ◌+◌, ◌<◌, ◌≤◌, length, drop, get_or, add-one, arith, List, [], ◌∷◌, Result, refl, sym, subst, ap, ◌∙◌}
use Rattle.std.proofs.Math.Seq.{drop-cons}
use Rattle.js_base.specs.declared.out.Out.{Out}
use Rattle.js_api.specs.declared.fault.DeskFault.{DeskFault}
use Rattle.js_api.specs.Entries.{DeskEntry}
use Rattle.js_api.specs.Leading.{Makes}
use Rattle.js_api.specs.Stages.{Sends}

-- what is left begins with the next one
pub next_left : (outs : List Out) (i : ℕ) (out : Out) → i < length outs → out ≡ get_or outs i out → drop i outs ≡ out ∷ drop (i + 1) outs
next_left outs i out within is = drop-cons outs i out within ∙ ap (λ (o : Out). o ∷ drop (suc i) outs) (sym is) ∙ ap (λ (n : ℕ). out ∷ drop n outs) (sym (add-one i))

pub none_left : (outs : List Out) (i : ℕ) → length outs ≤ i → drop i outs ≡ []
none_left [] zero h = refl
none_left [] (suc i) h = refl
none_left (out ∷ outs) zero h = absurd (omega (arith, h))
none_left (out ∷ outs) (suc i) h = none_left outs i (omega (arith, h))

-- what is made of the one list is made of the other, if they are the same
pub sends_same : {D : Type 0} (made : D → List DeskEntry → D → Type 0) (xs ys : List Out) (result : Result (Unit {0}) DeskFault) (a b : D) → xs ≡ ys → Makes made (Sends ys result) a b → Makes made (Sends xs result) a b
sends_same made xs ys result a b is h = subst (λ (outs : List Out). Makes made (Sends outs result) a b) (sym is) h
