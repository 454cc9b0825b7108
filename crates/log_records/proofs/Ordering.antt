-- Consumers that stand in order of their names, each before the next one.
use Rattle.std.proofs.Common.{◌≡◌, ℕ, ◌+◌, ◌-◌, ◌<◌, ◌≤◌, true, false, List, [], ◌∷◌, ◌++◌, take, drop, length, get_or, sym, ap, subst, ◌∙◌, append_assoc, arith}
use Rattle.std.specs.Prelude.{All}
use Rattle.std.proofs.lemmas.Bool.{true≢false}
use Rattle.std.proofs.lemmas.List.{drop_more, take_more, take-append-drop}
use Rattle.std.proofs.lemmas.List.Elements.{All-nil, All-cons, All-head, All-tail}
use Rattle.js_base.specs.Bytes.{Bytes}
use Rattle.js_model.specs.declared.consumer.Consumer.{Consumer}
use Rattle.js_model.specs.Consumers.{is_before}
use Rattle.model_laws.specs.Sound.{AreOrdered}
use Rattle.model_laws.proofs.NameOrder.{before_trans}

abbrev After : Bytes → Consumer → Type 0
After name c = is_before name c.name ≡ true

after_last : (name : Bytes) (front : List Consumer) (last c : Consumer) → All (After name) (front ++ last ∷ []) → After last.name c → All (After name) (front ++ last ∷ c ∷ [])
after_last name [] last c h k =
    let first = All-head (After name) last [] h in
    All-cons (After name) last (c ∷ []) first (All-cons (After name) c [] (before_trans name last.name c.name first k) (All-nil (After name)))
after_last name (x ∷ front) last c h k =
    All-cons (After name) x (front ++ last ∷ c ∷ []) (All-head (After name) x (front ++ last ∷ []) h) (after_last name front last c (All-tail (After name) x (front ++ last ∷ []) h) k)

ordered_push : (front : List Consumer) (last c : Consumer) → AreOrdered (front ++ last ∷ []) → After last.name c → AreOrdered (front ++ last ∷ c ∷ [])
ordered_push [] last c h k = (All-cons (After last.name) c [] k (All-nil (After last.name)), (All-nil (After c.name), tt))
ordered_push (x ∷ front) last c h k = (after_last x.name front last c h.0 k, ordered_push front last c h.1 k)

ordered_at : (front : List Consumer) (a b : Consumer) (rest : List Consumer) → AreOrdered (front ++ a ∷ b ∷ rest) → After a.name b
ordered_at [] a b rest h = All-head (After a.name) b rest h.0
ordered_at (x ∷ front) a b rest h = ordered_at front a b rest h.1

-- the first one alone
pub first_ordered : (cs : List Consumer) → AreOrdered (take 1 cs)
first_ordered [] = tt
first_ordered (c ∷ cs) = (All-nil (After c.name), tt)

module _ (cs : List Consumer) (i : ℕ) (a b : Consumer) (within : i + 1 < length cs) (first : a ≡ get_or cs i a) (second : b ≡ get_or cs (i + 1) b) where
  front_is : take (i + 1) cs ≡ take i cs ++ a ∷ []
  front_is = take_more cs i a (omega (arith, within)) ∙ ap (λ (x : Consumer). take i cs ++ x ∷ []) (sym first)

  two_are : take (i + 1 + 1) cs ≡ take i cs ++ a ∷ b ∷ []
  two_are = take_more cs (i + 1) b within ∙ ap (λ (x : Consumer). take (i + 1) cs ++ x ∷ []) (sym second) ∙ ap (λ (l : List Consumer). l ++ b ∷ []) front_is ∙ append_assoc (take i cs) (a ∷ []) (b ∷ [])

  ordered_more : AreOrdered (take (i + 1) cs) → After a.name b → AreOrdered (take (i + 1 + 1) cs)
  ordered_more h k = subst AreOrdered (sym two_are) (ordered_push (take i cs) a b (subst AreOrdered front_is h) k)

  all_are : cs ≡ take i cs ++ a ∷ b ∷ drop (i + 1 + 1) cs
  all_are =
      sym (take-append-drop i cs)
      ∙ ap (λ (l : List Consumer). take i cs ++ l) (drop_more cs i a (omega (arith, within)) ∙ ap (λ (x : Consumer). x ∷ drop (i + 1) cs) (sym first))
      ∙ ap (λ (l : List Consumer). take i cs ++ a ∷ l) (drop_more cs (i + 1) b within ∙ ap (λ (x : Consumer). x ∷ drop (i + 1 + 1) cs) (sym second))

  not_ordered : is_before a.name b.name ≡ false → ¬ AreOrdered cs
  not_ordered fails h = true≢false (sym (ordered_at (take i cs) a b (drop (i + 1 + 1) cs) (subst AreOrdered all_are h)) ∙ fails)

-- the one at a place, and the one before it
module _ (cs : List Consumer) (place : ℕ) (a b : Consumer) (low : 1 ≤ place) (within : place < length cs) (first : a ≡ get_or cs (place - 1) a) (second : b ≡ get_or cs place b) where
  place_is : place - 1 + 1 ≡ place
  place_is = omega (arith, low)

  there : place - 1 + 1 < length cs
  there = omega (arith, low, within)

  second_there : b ≡ get_or cs (place - 1 + 1) b
  second_there = subst (λ (n : ℕ). b ≡ get_or cs n b) (sym place_is) second

  pub ordered_next : AreOrdered (take place cs) → is_before a.name b.name ≡ true → AreOrdered (take (place + 1) cs)
  ordered_next h k =
      subst (λ (n : ℕ). AreOrdered (take (n + 1) cs)) place_is
      (ordered_more cs (place - 1) a b there first second_there (subst (λ (n : ℕ). AreOrdered (take n cs)) (sym place_is) h) k)

  pub unordered_at : is_before a.name b.name ≡ false → ¬ AreOrdered cs
  unordered_at fails = not_ordered cs (place - 1) a b there first second_there fails
