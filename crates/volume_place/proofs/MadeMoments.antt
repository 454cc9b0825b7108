-- Whether the records of an event or of a delivery are no more than a moment.
use Rattle.std.proofs.Common.{◌≡◌, ◌==◌, ◌&&◌, not, ℕ, Bool, true, false, cond, List, [], ◌∷◌, ◌++◌, length, map, Option, None, Some, refl, sym, ap, ◌∙◌, arith}
use Rattle.std.specs.Prelude.{option_to_list}
use Rattle.std.proofs.lemmas.Bool.{eqb-true, true≢false}
use Rattle.js_base.specs.Bytes.{Bytes}
use Rattle.effects.specs.Ranges.{Range}
use Rattle.effects.specs.TimeEffects.{remove_of}
use Rattle.effects.specs.declared.effect.Effect.{Effect}
use Rattle.effects.specs.declared.effect.Effect.TheVariants.{Now}
use Rattle.place_engine.specs.Following.{is_now}
use Rattle.place_records.specs.Records.{gives_up}
use Rattle.volume_place.specs.Since.{is_moment}

-- the first of them is none
not_now : (e : Effect) (more : List Effect) → is_now e ≡ false → is_moment (e ∷ more) ≡ false
not_now e [] is = is
not_now e (f ∷ more) is = refl

-- ---- there are none, as their number tells

abbrev empty : {X : Type 0} → List X → Bool
empty [] = true
empty (x ∷ more) = false

empty_is : {X : Type 0} (l : List X) → (length l == 0) ≡ empty l
empty_is [] = refl
empty_is (x ∷ more) = go (length (x ∷ more) == 0) refl
  where
    go : (b : Bool) → (length (x ∷ more) == 0) ≡ b → b ≡ false
    go true e = let is : length (x ∷ more) ≡ 0 = eqb-true (length (x ∷ more)) 0 e in absurd (omega (arith, is))
    go false e = refl

all_empty : {X Y Z : Type 0} (a : List X) (b : List Y) (c : List Z) → ((empty a && empty b) && empty c) ≡ ((length a == 0 && length b == 0) && length c == 0)
all_empty a b c =
    sym
    (ap (λ (t : Bool). (t && length b == 0) && length c == 0) (empty_is a)
    ∙ ap (λ (t : Bool). (empty a && t) && length c == 0) (empty_is b)
    ∙ ap (λ (t : Bool). (empty a && empty b) && t) (empty_is c))

-- ---- what they are of

module _ (moment : ℕ) where
  abbrev pub Records : Bool → List Range → List Bytes → Option Effect → List Range → List Effect
  Records seen aged given_up effect removed =
      (cond seen (Now moment ∷ []) [] ++ (map remove_of aged ++ map (gives_up moment) given_up)) ++ (option_to_list effect ++ map remove_of removed)

  -- as they have no record of their own
  no_own : (seen : Bool) (aged : List Range) (given_up : List Bytes) (removed : List Range)
      → is_moment (Records seen aged given_up None removed) ≡ ((empty aged && empty given_up) && empty removed)
  no_own true [] [] [] = refl
  no_own false [] [] [] = refl
  no_own true [] [] (range ∷ more) = refl
  no_own false [] [] (range ∷ more) = not_now (remove_of range) (map remove_of more) refl
  no_own true [] (name ∷ names) removed = refl
  no_own false [] (name ∷ names) removed = not_now (gives_up moment name) (map (gives_up moment) names ++ map remove_of removed) refl
  no_own true (range ∷ more) given_up removed = refl
  no_own false (range ∷ more) given_up removed = not_now (remove_of range) ((map remove_of more ++ map (gives_up moment) given_up) ++ map remove_of removed) refl

  -- and as they have one
  an_own : (seen : Bool) (aged : List Range) (given_up : List Bytes) (effect : Effect) (removed : List Range)
      → is_moment (Records seen aged given_up (Some effect) removed) ≡ (((empty aged && empty given_up) && empty removed) && (not seen && is_now effect))
  an_own true [] [] effect [] = refl
  an_own false [] [] effect [] = refl
  an_own true [] [] effect (range ∷ more) = refl
  an_own false [] [] effect (range ∷ more) = refl
  an_own true [] (name ∷ names) effect removed = refl
  an_own false [] (name ∷ names) effect removed = not_now (gives_up moment name) (map (gives_up moment) names ++ (effect ∷ map remove_of removed)) refl
  an_own true (range ∷ more) given_up effect removed = refl
  an_own false (range ∷ more) given_up effect removed = not_now (remove_of range) ((map remove_of more ++ map (gives_up moment) given_up) ++ (effect ∷ map remove_of removed)) refl

  pub none_own : (seen : Bool) (aged : List Range) (given_up : List Bytes) (removed : List Range)
      → is_moment (Records seen aged given_up None removed) ≡ ((length aged == 0 && length given_up == 0) && length removed == 0)
  none_own seen aged given_up removed = no_own seen aged given_up removed ∙ all_empty aged given_up removed

  pub one_own : (seen : Bool) (aged : List Range) (given_up : List Bytes) (effect : Effect) (removed : List Range)
      → is_moment (Records seen aged given_up (Some effect) removed) ≡ (((length aged == 0 && length given_up == 0) && length removed == 0) && (not seen && is_now effect))
  one_own seen aged given_up effect removed = an_own seen aged given_up effect removed ∙ ap (λ (t : Bool). t && (not seen && is_now effect)) (all_empty aged given_up removed)

-- what fails already
pub fails_already : (none seen now : Bool) → (none && not seen) ≡ false → false ≡ (none && (not seen && now))
fails_already true true now is = refl
fails_already true false now is = absurd (true≢false is)
fails_already false seen now is = refl
