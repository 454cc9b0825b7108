-- The map follows the list of the ids.
use Rattle.std.proofs.Common.{◌≡◌, ℕ, ◌^◌, ◌≤◌, ◌<◌, Bool, true, false, cond, List, [], ◌∷◌, ◌++◌, Option, Some, None, length, refl, sym, ap, subst, ◌∙◌, ◌+◌, ◌-◌, arith}
use Rattle.std.specs.Prelude.{nat_lt, option_map, sum_by}
use Rattle.std.specs.Option.{option_or}
use Rattle.std.specs.Cmp.Lexicographic.{nat_list_eq_equiv}
use Rattle.std.proofs.lemmas.List.{length-append}
use Rattle.std.proofs.lemmas.List.Elements.{All-get_or}
use Rattle.std.proofs.lemmas.List.Folds.{find-append}
use Rattle.std.proofs.lemmas.List.Sums.{sum_by-cons, sum_by_push}
use Rattle.std.proofs.lemmas.List.Sorted.{IsNonDecreasingBy-push, IsNonDecreasingBy-drop}
use Rattle.js_base.specs.Bytes.{Bytes, same}
use Rattle.js_base.specs.Moments.{plus}
use Rattle.js_base.proofs.Meeting.{same_is}
use Rattle.js_model.specs.declared.stream.Id.{Id}
use Rattle.dedup_window.specs.declared.known.Added.{Added}
use Rattle.dedup_window.specs.declared.known.KnownIds.{KnownIds}
use Rattle.dedup_window.specs.Window.{Window, id_of, seq_of, remembered, IsLatest}
use Rattle.dedup_window.specs.Known.{added_in, Sets}
use Rattle.dedup_window.specs.Mirrors.{AreApart, added_of, IsWindow, Mirrors}
use Rattle.dedup_window.proofs.Ids.{seen_of, seen_is}

-- ---- an id is looked up

module _ (w : Window) (known : KnownIds) (now : ℕ) (text : Bytes) (m : Mirrors w.ids known) where
  seen_found : (found : Option Added) → found ≡ added_in known text → seen_of w now found ≡ seq_of (remembered w now) text
  seen_found found is = ap (seen_of w now) (is ∙ m.found text) ∙ sym (seen_is w now text m.apart)

  pub seen_none : None ≡ added_in known text → None ≡ seq_of (remembered w now) text
  seen_none is = seen_found None is

  pub seen_some : (a : Added) (b : Bool) → Some a ≡ added_in known text → b ≡ nat_lt now (plus a.at w.window)
      → cond b (Some a.seq) None ≡ seq_of (remembered w now) text
  seen_some a b is counts = ap (λ (c : Bool). cond c (Some a.seq) None) counts ∙ seen_found (Some a) is

-- ---- the oldest id goes

rest_found : (i : Id) (later : List Id) (known : KnownIds) (text : Bytes) (b : Bool) → Mirrors (i ∷ later) known → same i.id text ≡ b
    → cond b None (added_in known text) ≡ option_map added_of (id_of later text)
rest_found i later known text true m e = sym (ap (option_map added_of) (ap (id_of later) (sym (same_is i.id text e)) ∙ m.apart.0))
rest_found i later known text false m e = m.found text ∙ ap (λ b. option_map added_of (cond b (Some i) (id_of later text))) e

pub mirrors_rest : (i : Id) (ids later : List Id) (known known' : KnownIds) → ids ≡ i ∷ later → Mirrors ids known → Sets known known' i.id None
    → Mirrors later known'
mirrors_rest i ids later known known' is old sets =
    let m : Mirrors (i ∷ later) known = subst (λ xs. Mirrors xs known) is old in
    record {
      few = omega (arith, m.few);
      apart = m.apart.1;
      ascending = IsNonDecreasingBy-drop (λ j. j.at) 1 (i ∷ later) m.ascending;
      found = λ text. sets.at text ∙ rest_found i later known text (same i.id text) m refl;
    }

-- ---- an id more

none_found : (i : Id) (o : Option Id) (b : Bool) → cond b (Some i) o ≡ None → (b ≡ false) × (o ≡ None)
none_found i o true h = cc
none_found i o false h = (refl, h)

or_none : {X : Type 0} (o : Option X) → option_or o None ≡ o
or_none None = refl
or_none (Some x) = refl

module _ (ids : List Id) (i : Id) (text : Bytes) where
  push_found : (o : Option Id) (b : Bool) → id_of ids text ≡ o → same i.id text ≡ b → id_of (ids ++ i ∷ []) text ≡ option_or o (cond b (Some i) None)
  push_found o b is e =
      find-append (λ j. same j.id text) ids (i ∷ []) ∙ ap (λ p. option_or p (cond (same i.id text) (Some i) None)) is
      ∙ ap (λ c. option_or o (cond c (Some i) None)) e

  id_of-push_here : id_of ids text ≡ None → same i.id text ≡ true → id_of (ids ++ i ∷ []) text ≡ Some i
  id_of-push_here absent e = push_found None true absent e

  id_of-push_other : same i.id text ≡ false → id_of (ids ++ i ∷ []) text ≡ id_of ids text
  id_of-push_other e = push_found (id_of ids text) false refl e ∙ or_none (id_of ids text)

apart_more : (ids : List Id) (i : Id) → AreApart ids → id_of ids i.id ≡ None → AreApart (ids ++ i ∷ [])
apart_more [] i apart absent = (refl, tt)
apart_more (j ∷ ids) i apart absent =
    let parts = none_found j (id_of ids i.id) (same j.id i.id) absent in
    (id_of-push_other ids i j.id (nat_list_eq_equiv.symm i.id j.id ∙ parts.0) ∙ apart.0, apart_more ids i apart.1 parts.1)

more_found : (ids : List Id) (i : Id) (known : KnownIds) (text : Bytes) (b : Bool) → Mirrors ids known → id_of ids i.id ≡ None → same i.id text ≡ b
    → cond b (Some (added_of i)) (added_in known text) ≡ option_map added_of (id_of (ids ++ i ∷ []) text)
more_found ids i known text true m absent e =
    sym (ap (option_map added_of) (id_of-push_here ids i text (ap (id_of ids) (sym (same_is i.id text e)) ∙ absent) e))
more_found ids i known text false m absent e = m.found text ∙ sym (ap (option_map added_of) (id_of-push_other ids i text e))

pub mirrors_more : (ids : List Id) (i : Id) (known known' : KnownIds) → Mirrors ids known → id_of ids i.id ≡ None → IsLatest i.at ids
    → length ids < 2 ^ 20 → Sets known known' i.id (Some (added_of i)) → Mirrors (ids ++ i ∷ []) known'
mirrors_more ids i known known' m absent latest room sets = record {
  few = omega (arith, room, length-append ids (i ∷ []));
  apart = apart_more ids i m.apart absent;
  ascending = IsNonDecreasingBy-push (λ j. j.at) ids i m.ascending
      (λ d some. All-get_or (λ j. j.at ≤ i.at) ids (length ids - 1) d (omega arith) latest);
  found = λ text. sets.at text ∙ more_found ids i known text (same i.id text) m absent refl;
}

-- ---- with the bytes of all texts

-- those of the oldest are among them
pub bytes_of_oldest : (i : Id) (ids later : List Id) (known : KnownIds) (bytes : ℕ) → ids ≡ i ∷ later → IsWindow ids known bytes → bytes ≡ length i.id + sum_by (λ j. length j.id) later
bytes_of_oldest i ids later known bytes is w = w.bytes_are ∙ ap (λ (js : List Id). sum_by (λ (j : Id). length j.id) js) is ∙ sum_by-cons (λ (j : Id). length j.id) i later

pub window_rest : (i : Id) (ids later : List Id) (known known' : KnownIds) (bytes left : ℕ) → ids ≡ i ∷ later → IsWindow ids known bytes → Sets known known' i.id None → left + length i.id ≡ bytes
    → IsWindow later known' left
window_rest i ids later known known' bytes left is w sets minus =
    let whole : bytes ≡ length i.id + sum_by (λ (j : Id). length j.id) later = bytes_of_oldest i ids later known bytes is w in
    record { mirrors = mirrors_rest i ids later known known' is w.mirrors sets; bytes_are = omega (arith, whole, minus); bytes_most = omega (arith, minus, w.bytes_most) }

pub window_more : (ids : List Id) (i : Id) (known known' : KnownIds) (bytes more : ℕ) → IsWindow ids known bytes → id_of ids i.id ≡ None → IsLatest i.at ids → length ids < 2 ^ 20
    → Sets known known' i.id (Some (added_of i)) → more ≡ bytes + length i.id → more ≤ 2 ^ 40 → IsWindow (ids ++ i ∷ []) known' more
window_more ids i known known' bytes more w absent latest room sets plus most = record {
  mirrors = mirrors_more ids i known known' w.mirrors absent latest room sets;
  bytes_are = omega (arith, plus, w.bytes_are, sum_by_push (λ (j : Id). length j.id) ids i);
  bytes_most = most;
}
