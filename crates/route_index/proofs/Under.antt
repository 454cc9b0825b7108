-- What a change of the set at one pattern means for the numbers under all patterns.
use Rattle.std.proofs.Common.{◌≡◌, ℕ, ◌==◌, ◌||◌, ◌&&◌, not, Bool, true, false, cond, List, ◌++◌, Option, Some, None, Result, Ok, Err, refl, sym, ap, ◌∙◌}
use Rattle.std.specs.Prelude.{OnOk, OnErr}
use Rattle.std.specs.Ordering.{nat_cmp}
use Rattle.std.specs.Cmp.Lexicographic.{slice_cmp}
use Rattle.std.specs.BTreeMap.{get, is_at}
use Rattle.std.specs.BTreeSet.{BTreeSet, contains}
use Rattle.std.proofs.lemmas.Map.Text.{is_eq-slice_cmp}
use Rattle.std.proofs.lemmas.List.Folds.{list_any-append}
use Rattle.js_base.specs.Bytes.{Bytes, same, has}
use Rattle.js_base.proofs.Meeting.{same_is}
use Rattle.route_index.specs.Ids.{Ids, is_in, is_under, KeepsIds, AddsId, DropsId}
use Rattle.route_index.specs.Searching.{AddsUnder}
use Rattle.route_index.proofs.Numbers.{or_false, and_true, at_number, has_number}

-- the set at one pattern is another now, and the sets at the others are as they were
pub record Replaces (old new : Ids) (here : Bytes) (set : Option (BTreeSet ℕ)) : Type 0 where
  pub at : (pattern : Bytes) → get (slice_cmp nat_cmp) new pattern ≡ cond (is_at (slice_cmp nat_cmp here) pattern) set (get (slice_cmp nat_cmp) old pattern)

module _ (old new : Ids) (here : Bytes) (set : Option (BTreeSet ℕ)) (replaces : Replaces old new here set) (pattern : Bytes) (id : ℕ) where
  -- at the pattern
  under_here : same here pattern ≡ true → is_under new pattern id ≡ is_in set id
  under_here e = ap (λ o. is_in o id) (replaces.at pattern ∙ ap (λ b. cond b set (get (slice_cmp nat_cmp) old pattern)) (is_eq-slice_cmp here pattern ∙ e))

  -- at another
  under_other : same here pattern ≡ false → is_under new pattern id ≡ is_under old pattern id
  under_other e = ap (λ o. is_in o id) (replaces.at pattern ∙ ap (λ b. cond b set (get (slice_cmp nat_cmp) old pattern)) (is_eq-slice_cmp here pattern ∙ e))

  moved : same here pattern ≡ true → is_under old here id ≡ is_under old pattern id
  moved e = ap (λ p. is_under old p id) (same_is here pattern e)

pub keeps_under : (old new : Ids) (here : Bytes) (set : Option (BTreeSet ℕ)) → Replaces old new here set → ((id : ℕ) → is_in set id ≡ is_under old here id) → KeepsIds old new
keeps_under old new here set replaces keeps = record { at = λ pattern id. go pattern id (same here pattern) refl }
  where
    go : (pattern : Bytes) (id : ℕ) (b : Bool) → same here pattern ≡ b → is_under new pattern id ≡ is_under old pattern id
    go pattern id true e = under_here old new here set replaces pattern id e ∙ keeps id ∙ moved old new here set replaces pattern id e
    go pattern id false e = under_other old new here set replaces pattern id e

pub adds_under : (old new : Ids) (here : Bytes) (one : ℕ) (set : Option (BTreeSet ℕ)) → Replaces old new here set
    → ((id : ℕ) → is_in set id ≡ (is_under old here id || one == id)) → AddsId old new here one
adds_under old new here one set replaces adds = record { at = λ pattern id. go pattern id (same here pattern) refl }
  where
    go : (pattern : Bytes) (id : ℕ) (b : Bool) → same here pattern ≡ b → is_under new pattern id ≡ (is_under old pattern id || (b && one == id))
    go pattern id true e =
        under_here old new here set replaces pattern id e ∙ adds id ∙ ap (λ b. b || one == id) (moved old new here set replaces pattern id e)
    go pattern id false e = under_other old new here set replaces pattern id e ∙ sym (or_false (is_under old pattern id))

pub drops_under : (old new : Ids) (here : Bytes) (one : ℕ) (set : Option (BTreeSet ℕ)) → Replaces old new here set
    → ((id : ℕ) → is_in set id ≡ (is_under old here id && not (one == id))) → DropsId old new here one
drops_under old new here one set replaces drops = record { at = λ pattern id. go pattern id (same here pattern) refl }
  where
    go : (pattern : Bytes) (id : ℕ) (b : Bool) → same here pattern ≡ b → is_under new pattern id ≡ (is_under old pattern id && not (b && one == id))
    go pattern id true e =
        under_here old new here set replaces pattern id e ∙ drops id ∙ ap (λ b. b && not (one == id)) (moved old new here set replaces pattern id e)
    go pattern id false e = under_other old new here set replaces pattern id e ∙ sym (and_true (is_under old pattern id))

-- a number that went from a set
pub dropped_from_set : (old new : BTreeSet ℕ) (one : ℕ) → ((n : ℕ) → contains nat_cmp new n ≡ cond (is_at (nat_cmp one) n) false (contains nat_cmp old n))
    → (n : ℕ) → contains nat_cmp new n ≡ (contains nat_cmp old n && not (one == n))
dropped_from_set old new one h n = h n ∙ ap (λ b. cond b false (contains nat_cmp old n)) (at_number one n) ∙ go (one == n) (contains nat_cmp old n)
  where
    go : (b x : Bool) → cond b false x ≡ (x && not b)
    go true true = refl
    go true false = refl
    go false true = refl
    go false false = refl

-- a number that is under no pattern of the old is dropped by dropping what is under none
pub drops_after : (old mid new : Ids) (here : Bytes) (one : ℕ) → DropsId old mid here one → KeepsIds mid new → DropsId old new here one
drops_after old mid new here one drops keeps = record { at = λ pattern id. keeps.at pattern id ∙ drops.at pattern id }

-- the numbers of a set, added at the end of others
pub adds_set : (ids : Ids) (pattern : Bytes) (set : BTreeSet ℕ) (old new : List ℕ) → new ≡ old ++ set.keys → Some set ≡ get (slice_cmp nat_cmp) ids pattern → AddsUnder ids pattern old new
adds_set ids pattern set old new e h = record {
  at = λ id. ap (λ ns. has ns id) e ∙ list_any-append (λ m. m == id) old set.keys ∙ ap (λ b. has old id || b) (sym (has_number set.keys id) ∙ ap (λ o. is_in o id) h);
}

pub adds_none : (ids : Ids) (pattern : Bytes) (old : List ℕ) → None ≡ get (slice_cmp nat_cmp) ids pattern → AddsUnder ids pattern old old
adds_none ids pattern old h = record { at = λ id. sym (ap (λ b. has old id || b) (ap (λ o. is_in o id) (sym h)) ∙ or_false (has old id)) }

pub on_ok : {X E P Q : Type 0} (r : Result X E) → (P → Q) → OnOk r P → OnOk r Q
on_ok (Ok x) f h = f h
on_ok (Err e) f h = h

pub err_holds : {X E P : Type 0} (r : Result X E) → P → OnErr r P
err_holds (Ok x) h = tt
err_holds (Err e) h = h

pub on_err : {X E P Q : Type 0} (r : Result X E) → (P → Q) → OnErr r P → OnErr r Q
on_err (Ok x) f h = h
on_err (Err e) f h = f h
