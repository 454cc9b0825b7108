-- A member that is put into an object behind all others.
use Rattle.std.proofs.Common.{◌≡◌, Bool, true, false, List, [], ◌∷◌, ◌++◌, Option, Some, None, Ordering, Less, Equal, Greater, nat_cmp, refl, ap}
use Rattle.std.specs.Ordering.{match_ordering}
use Rattle.std.specs.Cmp.Lexicographic.{slice_cmp}
use Rattle.serde_json.specs.Data.{Data, member, put}
use Rattle.js_base.specs.Bytes.{Bytes}
use Rattle.consumer_config.specs.Printing.{object_with}

-- whether the key is behind all of these
abbrev pub is_last : Bytes → List (Bytes × Option Data) → Bool
is_last key [] = true
is_last key ((k, _) ∷ more) = match_ordering (slice_cmp nat_cmp key k) false false (is_last key more)

abbrev pub with_entry : Bytes → Option Data → List (Bytes × Option Data) → List (Bytes × Option Data)
with_entry key value es = es ++ (key, value) ∷ []

-- a field that is put in behind all others
pub put_last : (key : Bytes) (value : Data) (es : List (Bytes × Option Data)) → is_last key es ≡ true → put key value (object_with es) ≡ object_with (with_entry key (Some value) es)
put_last key value [] h = refl
put_last key value ((k, None) ∷ more) h = by (slice_cmp nat_cmp key k) (put_last key value more) h
  where
    by : (o : Ordering) → (is_last key more ≡ true → put key value (object_with more) ≡ object_with (with_entry key (Some value) more)) → match_ordering o false false (is_last key more) ≡ true
        → put key value (object_with more) ≡ object_with (with_entry key (Some value) more)
    by Less rec h = absurd (cc)
    by Equal rec h = absurd (cc)
    by Greater rec h = rec h
put_last key value ((k, Some d) ∷ more) h = by (slice_cmp nat_cmp key k) (put_last key value more) h
  where
    by : (o : Ordering) → (is_last key more ≡ true → put key value (object_with more) ≡ object_with (with_entry key (Some value) more)) → match_ordering o false false (is_last key more) ≡ true
        → match_ordering o (member key value (member k d (object_with more))) (member k value (object_with more)) (member k d (put key value (object_with more))) ≡ member k d (object_with (with_entry key (Some value) more))
    by Less rec h = absurd (cc)
    by Equal rec h = absurd (cc)
    by Greater rec h = ap (member k d) (rec h)

-- one that is not shown
pub none_last : (key : Bytes) (es : List (Bytes × Option Data)) → object_with es ≡ object_with (with_entry key None es)
none_last key [] = refl
none_last key ((k, None) ∷ more) = none_last key more
none_last key ((k, Some d) ∷ more) = ap (member k d) (none_last key more)
