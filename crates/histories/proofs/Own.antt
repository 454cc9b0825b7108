-- A seat's own entries, and those of others.
use Rattle.std.proofs.Common.{◌≡◌, ℕ, List, [], ◌∷◌, ◌++◌, Bool, true, false, cond, refl, sym, ap, ◌∙◌, append_assoc, append-nil}
use Rattle.std.proofs.lemmas.List.Elements.{filter-append}
use Rattle.js_base.specs.Bytes.{has}
use Rattle.histories.specs.Entries.{Entry, AreBy}
use Rattle.histories.specs.Fronts.{is_by, own, AreForeign, Grows}

-- ---- entries of others

pub foreign-append : (ns : List ℕ) (a b : List Entry) → AreForeign ns a → AreForeign ns b → AreForeign ns (a ++ b)
foreign-append ns [] b f g = g
foreign-append ns (e ∷ es) b f g = (f.0, foreign-append ns es b f.1 g)

pub foreign-cut : (ns : List ℕ) (a b : List Entry) → AreForeign ns (a ++ b) → AreForeign ns a × AreForeign ns b
foreign-cut ns [] b f = (tt, f)
foreign-cut ns (e ∷ es) b f = let r = foreign-cut ns es b f.1 in ((f.0, r.0), r.1)

-- the entries of a seat with another number
pub foreign-by : (ns : List ℕ) (n : ℕ) (es : List Entry) → AreBy n es → has ns n ≡ false → AreForeign ns es
foreign-by ns n [] b f = tt
foreign-by ns n (e ∷ es) b f = (ap (has ns) b.0 ∙ f, foreign-by ns n es b.1 f)

-- ---- a seat's own entries

pub own-append : (ns : List ℕ) (a b : List Entry) → own ns (a ++ b) ≡ own ns a ++ own ns b
own-append ns a b = filter-append (is_by ns) a b

pub own-foreign : (ns : List ℕ) (a : List Entry) → AreForeign ns a → own ns a ≡ []
own-foreign ns [] f = refl
own-foreign ns (e ∷ es) f = ap (λ (b : Bool). cond b (e ∷ own ns es) (own ns es)) f.0 ∙ own-foreign ns es f.1

pub own-by : (ns : List ℕ) (n : ℕ) (es : List Entry) → AreBy n es → has ns n ≡ true → own ns es ≡ es
own-by ns n [] b h = refl
own-by ns n (e ∷ es) b h = ap (λ (t : Bool). cond t (e ∷ own ns es) (own ns es)) (ap (has ns) b.0 ∙ h) ∙ ap (λ (xs : List Entry). e ∷ xs) (own-by ns n es b.1 h)

-- ---- fronts that grow

pub grows-same : (ns : List ℕ) (xs : List Entry) → Grows ns xs xs
grows-same ns xs = record { later = []; behind = sym (append-nil xs); foreign = tt }

pub grows-both : (ns : List ℕ) (a b c : List Entry) → Grows ns a b → Grows ns b c → Grows ns a c
grows-both ns a b c f g = record {
  later = f.later ++ g.later;
  behind = g.behind ∙ (ap (λ (l : List Entry). l ++ g.later) f.behind ∙ append_assoc a f.later g.later);
  foreign = foreign-append ns f.later g.later f.foreign g.foreign;
}

pub own-grows : (ns : List ℕ) (old new : List Entry) → Grows ns old new → own ns new ≡ own ns old
own-grows ns old new g = ap (own ns) g.behind
    ∙ (own-append ns old g.later ∙ (ap (λ (xs : List Entry). own ns old ++ xs) (own-foreign ns g.later g.foreign) ∙ append-nil (own ns old)))

pub own-left : (ns : List ℕ) (n : ℕ) (front es : List Entry) → AreBy n es → has ns n ≡ true → own ns (front ++ es) ≡ own ns front ++ es
own-left ns n front es by h = own-append ns front es ∙ ap (λ (l : List Entry). own ns front ++ l) (own-by ns n es by h)
