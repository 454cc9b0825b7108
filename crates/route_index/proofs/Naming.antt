-- What a change under one text means under all, and of one owner means for all.
use Rattle.std.proofs.Common.{◌≡◌, ℕ, ◌+◌, ◌==◌, ◌&&◌, Bool, true, false, cond, List, Option, Some, None, refl, sym, ap, ◌∙◌, arith}
use Rattle.std.specs.Prelude.{IfNone, IfSome}
use Rattle.std.specs.Ordering.{nat_cmp, is_eq}
use Rattle.std.specs.Cmp.{eq_by_cmp_equiv}
use Rattle.std.specs.Cmp.Lexicographic.{slice_cmp, nat_list_cmp_total, nat_list_eq_equiv}
use Rattle.std.specs.Map.{lookup, IsKeyTest, AreApart, KeepsOthers}
use Rattle.std.specs.BTreeMap.{get, is_at, UpdatesBy}
use Rattle.std.proofs.lemmas.Bool.{eqb-true, and_parts}
use Rattle.std.proofs.lemmas.List.{nil_from_length}
use Rattle.std.proofs.lemmas.Map.Text.{is_eq-slice_cmp}
use Rattle.js_base.specs.Bytes.{Bytes, same}
use Rattle.js_base.proofs.Meeting.{same_is}
use Rattle.route_index.proofs.Numbers.{at_number}
use Rattle.route_index.specs.declared.identifiers.Identifiers.{Identifiers}
use Rattle.route_index.specs.declared.names.Names.{Names}
use Rattle.route_index.specs.Names.{number_in, count_in, Sets, PutsIn, RemovesIn, RemovesSome, KeepsIn, number_or_none, count_or_zero, number_of, count_of, AddsName, DropsName, DropsSome, KeepsNames, Cuts}

-- ---- under one text

kept_apart : {K X : Type 0} (eq : K → K → Bool) (test : K → Bool) (old new : List (K × X)) → KeepsOthers eq test old new → (other : K → Bool) → IsKeyTest eq other → AreApart test other → lookup other new ≡ lookup other old
unfolding KeepsOthers
kept_apart eq test old new h = h

texts_apart : (here text key : Bytes) → same here text ≡ false → is_eq (slice_cmp nat_cmp here key) ≡ true → is_eq (slice_cmp nat_cmp text key) ≡ false
texts_apart here text key n y =
    is_eq-slice_cmp text key ∙ nat_list_eq_equiv.symm text key ∙ sym (nat_list_eq_equiv.congr here key text (sym (is_eq-slice_cmp here key) ∙ y)) ∙ n

pub sets_here : (old new : Identifiers) (here : Bytes) (number : Option ℕ) → UpdatesBy (λ x y. slice_cmp nat_cmp x.items y.items) (λ key. slice_cmp nat_cmp here key.items) old.numbers new.numbers number
    → Sets old new here number
sets_here old new here number h = record { at = λ text. go text (same here text) refl }
  where
    go : (text : Bytes) (b : Bool) → same here text ≡ b → number_in new text ≡ cond b number (number_in old text)
    go text true e = ap (number_in new) (sym (same_is here text e)) ∙ h.1
    go text false e =
        kept_apart _ _ old.numbers.entries new.numbers.entries h.3 _ (λ x y. (eq_by_cmp_equiv nat_list_cmp_total).congr text x.items y.items) (λ key. texts_apart here text key.items e)

-- ---- of one owner

pub record Replaces (old new : Names) (here : ℕ) (own : Identifiers) : Type 0 where
  pub at : (n : ℕ) → get nat_cmp new.owners n ≡ cond (is_at (nat_cmp here) n) (Some own) (get nat_cmp old.owners n)

module _ (old new : Names) (here : ℕ) (was own : Identifiers) (had : Some was ≡ get nat_cmp old.owners here) (replaces : Replaces old new here own) where
  own_here : (n : ℕ) → (here == n) ≡ true → get nat_cmp new.owners n ≡ Some own
  own_here n e = replaces.at n ∙ ap (λ b. cond b (Some own) (get nat_cmp old.owners n)) (at_number here n ∙ e)

  own_other : (n : ℕ) → (here == n) ≡ false → get nat_cmp new.owners n ≡ get nat_cmp old.owners n
  own_other n e = replaces.at n ∙ ap (λ b. cond b (Some own) (get nat_cmp old.owners n)) (at_number here n ∙ e)

  was_here : (n : ℕ) → (here == n) ≡ true → Some was ≡ get nat_cmp old.owners n
  was_here n e = had ∙ ap (get nat_cmp old.owners) (eqb-true here n e)

  number_here : (text : Bytes) (number : Option ℕ) → Sets was own text number
      → (n : ℕ) (other : Bytes) → number_of new n other ≡ cond (here == n && same text other) number (number_of old n other)
  number_here text number sets n other = go (here == n) refl
    where
      go : (b : Bool) → (here == n) ≡ b → number_of new n other ≡ cond (b && same text other) number (number_of old n other)
      go true e = ap (λ o. number_or_none o other) (own_here n e) ∙ sets.at other ∙ ap (λ o. cond (same text other) number (number_or_none o other)) (was_here n e)
      go false e = ap (λ o. number_or_none o other) (own_other n e)

  pub adds_name : (text : Bytes) (number : ℕ) → PutsIn was own text number → AddsName old new here text number
  adds_name text number puts = record { at = number_here text (Some number) puts.sets; counts = λ n. go n (here == n) refl }
    where
      go : (n : ℕ) (b : Bool) → (here == n) ≡ b → count_of new n ≡ count_of old n + cond b 1 0
      go n true e = ap count_or_zero (own_here n e) ∙ puts.count ∙ ap (λ o. count_or_zero o + 1) (was_here n e)
      go n false e = omega (arith, ap count_or_zero (own_other n e))

  pub drops_name : (text : Bytes) → RemovesIn was own text → DropsName old new here text
  drops_name text removes = record { at = number_here text None removes.sets; counts = λ n. go n (here == n) refl }
    where
      go : (n : ℕ) (b : Bool) → (here == n) ≡ b → count_of new n + cond b 1 0 ≡ count_of old n
      go n true e = ap (λ o. count_or_zero o + 1) (own_here n e) ∙ removes.count ∙ ap count_or_zero (was_here n e)
      go n false e = omega (arith, ap count_or_zero (own_other n e))

  pub drops_some : (number : ℕ) → RemovesSome was own number → DropsSome old new here number
  drops_some number removes = record { text = removes.text; was = sym (ap (λ o. number_or_none o removes.text) had) ∙ removes.was; drops = drops_name removes.text removes.removes }

  pub keeps_names : KeepsIn was own → KeepsNames old new
  keeps_names keeps = record { at = λ n text. at n text (here == n) refl; counts = λ n. count n (here == n) refl }
    where
      at : (n : ℕ) (text : Bytes) (b : Bool) → (here == n) ≡ b → number_of new n text ≡ number_of old n text
      at n text true e = ap (λ o. number_or_none o text) (own_here n e) ∙ keeps.at text ∙ ap (λ o. number_or_none o text) (was_here n e)
      at n text false e = ap (λ o. number_or_none o text) (own_other n e)

      count : (n : ℕ) (b : Bool) → (here == n) ≡ b → count_of new n ≡ count_of old n
      count n true e = ap count_or_zero (own_here n e) ∙ keeps.count ∙ ap count_or_zero (was_here n e)
      count n false e = ap count_or_zero (own_other n e)

pub if_none : {X P Q : Type 0} (o : Option X) → (P → Q) → IfNone o P → IfNone o Q
if_none None f h = f h
if_none (Some x) f h = h

-- ---- no texts

none_in : (own : Identifiers) (text : Bytes) → count_in own ≡ 0 → number_in own text ≡ None
none_in own text h = ap (lookup (λ key. is_eq (slice_cmp nat_cmp text key.items))) (nil_from_length own.numbers.entries h)

pub none_of : (names : Names) (n : ℕ) (text : Bytes) → count_of names n ≡ 0 → number_of names n text ≡ None
none_of names n text h = go (get nat_cmp names.owners n) h
  where
    go : (o : Option Identifiers) → count_or_zero o ≡ 0 → number_or_none o text ≡ None
    go None e = refl
    go (Some own) e = none_in own text e

-- ---- a text that has no number any more

cuts_none : (old new : Names) (here : ℕ) (text : Bytes) → number_of old here text ≡ None → KeepsNames old new → Cuts old new here text
cuts_none old new here text none keeps = record { at = λ n other. keeps.at n other ∙ go n other (here == n && same text other) refl }
  where
    go : (n : ℕ) (other : Bytes) (b : Bool) → (here == n && same text other) ≡ b → number_of old n other ≡ cond b None (number_of old n other)
    go n other true e =
        let both = and_parts (here == n) (same text other) e in
        sym (ap (λ m. number_of old m other) (eqb-true here n both.0)) ∙ ap (number_of old here) (sym (same_is text other both.1)) ∙ none
    go n other false e = refl

pub cuts_by : (old new : Names) (here : ℕ) (text : Bytes) (was : Option ℕ) → was ≡ number_of old here text → IfSome was (λ _. DropsName old new here text) → IfNone was (KeepsNames old new)
    → Cuts old new here text
cuts_by old new here text (Some number) e some none = record { at = some.at }
cuts_by old new here text None e some none = cuts_none old new here text (sym e) none

pub cuts_kept : (old mid new : Names) (here : ℕ) (text : Bytes) → Cuts old mid here text → KeepsNames mid new → Cuts old new here text
cuts_kept old mid new here text cuts keeps = record { at = λ n other. keeps.at n other ∙ cuts.at n other }
