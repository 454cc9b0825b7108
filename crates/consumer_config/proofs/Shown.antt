-- The fields of a printed configuration: one that is not shown is read as one that is null.
use Rattle.std.proofs.Common.{◌≡◌, Bool, true, false, ◌&&◌, List, [], ◌∷◌, Option, Some, None, Ordering, Less, Equal, Greater, nat_cmp, is_eq, refl, ap, sym, subst, ◌∙◌}
use Rattle.std.specs.Prelude.{unwrap_or}
use Rattle.std.specs.Ordering.{match_ordering}
use Rattle.std.specs.Cmp.Lexicographic.{slice_cmp}
use Rattle.std.proofs.lemmas.Bool.{and_parts}
use Rattle.std.proofs.lemmas.Map.Text.{is_eq-slice_cmp}
use Rattle.serde_json.specs.Data.{Data, null, Members, no_members, member}
use Rattle.serde_json.specs.Find.{get_member}
use Rattle.js_base.specs.Bytes.{Bytes}
use Rattle.js_base.proofs.Meeting.{same_is}
use Rattle.js_json.specs.Fields.{field}
use Rattle.consumer_config.specs.Printing.{object_with}
use Rattle.consumer_config.proofs.Agreeing.{Agrees}

-- null in the place of what is not shown
abbrev pub or_null : Option Data → Data
or_null value = unwrap_or value null

abbrev pub with_nulls : List (Bytes × Option Data) → Members
with_nulls [] = no_members
with_nulls ((key, value) ∷ more) = member key (or_null value) (with_nulls more)

-- ---- each key stands there once

abbrev is_absent : Bytes → List (Bytes × Option Data) → Bool
is_absent key [] = true
is_absent key ((k, _) ∷ more) = match_ordering (slice_cmp nat_cmp key k) (is_absent key more) false (is_absent key more)

abbrev pub are_apart : List (Bytes × Option Data) → Bool
are_apart [] = true
are_apart ((key, _) ∷ more) = is_absent key more && are_apart more

key_is : (key k : Bytes) → slice_cmp nat_cmp key k ≡ Equal → key ≡ k
key_is key k e = same_is key k (sym (is_eq-slice_cmp key k) ∙ ap is_eq e)

-- ---- a key that is not there

gone : (key : Bytes) (es : List (Bytes × Option Data)) → is_absent key es ≡ true → get_member key (object_with es) ≡ None
gone key [] h = refl
gone key ((k, None) ∷ more) h = by (slice_cmp nat_cmp key k) (gone key more) h
  where
    by : (o : Ordering) → (is_absent key more ≡ true → get_member key (object_with more) ≡ None) → match_ordering o (is_absent key more) false (is_absent key more) ≡ true
        → get_member key (object_with more) ≡ None
    by Less rec h = rec h
    by Equal rec h = absurd (cc)
    by Greater rec h = rec h
gone key ((k, Some d) ∷ more) h = by (slice_cmp nat_cmp key k) (gone key more) h
  where
    by : (o : Ordering) → (is_absent key more ≡ true → get_member key (object_with more) ≡ None) → match_ordering o (is_absent key more) false (is_absent key more) ≡ true
        → match_ordering o (get_member key (object_with more)) (Some d) (get_member key (object_with more)) ≡ None
    by Less rec h = rec h
    by Equal rec h = absurd (cc)
    by Greater rec h = rec h

-- ---- the fields are the same

abbrev SameField : Bytes → List (Bytes × Option Data) → Type 0
SameField key es = field key (object_with es) ≡ field key (with_nulls es)

one_same : (key k : Bytes) (value : Option Data) (more : List (Bytes × Option Data)) (o : Ordering) → slice_cmp nat_cmp key k ≡ o → is_absent k more ≡ true → SameField key more
    → SameField key ((k, value) ∷ more)
one_same key k None more Less e away rec = rw (e) rec
one_same key k None more Equal e away rec = rw (e, gone key more (subst (λ (name : Bytes). is_absent name more ≡ true) (sym (key_is key k e)) away)) refl
one_same key k None more Greater e away rec = rw (e) rec
one_same key k (Some d) more Less e away rec = rw (e) rec
one_same key k (Some d) more Equal e away rec = rw (e) refl
one_same key k (Some d) more Greater e away rec = rw (e) rec

pub fields_same : (es : List (Bytes × Option Data)) → are_apart es ≡ true → Agrees (object_with es) (with_nulls es)
fields_same [] h key = refl
fields_same ((k, value) ∷ more) h key =
    let parts = and_parts (is_absent k more) (are_apart more) h in
    one_same key k value more (slice_cmp nat_cmp key k) refl parts.0 (fields_same more parts.1 key)
