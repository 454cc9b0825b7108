-- Objects whose values have no fraction have none.
use Rattle.std.proofs.Common.{ℕ, ◌≡◌, List, [], ◌∷◌, Bool, true, false, ◌||◌, ◌==◌, if◌then◌else◌, Option, Some, None, refl}
use Rattle.std.specs.Ordering.{nat_cmp, match_ordering}
use Rattle.std.specs.Cmp.Lexicographic.{slice_cmp}
use Rattle.std.proofs.Common.{Ordering}
use Rattle.std.specs.declared.cmp.Ordering.TheVariants.{Less, Equal, Greater}
use Rattle.serde_json.specs.Data.{Data, string, Members, no_members, member, put}
use Rattle.serde_json.specs.Written.{has_float, items_have_float, members_have_float}
use Rattle.js_base.specs.Bytes.{Bytes}
use Rattle.js_json.specs.Building.{with_all, count, limit, count_unless_0, text_unless_empty, texts}

-- none of the values has a fraction
abbrev pub AreWhole : List (Bytes × Data) → Type 0
AreWhole [] = Unit {0}
AreWhole ((key, value) ∷ more) = (has_float value ≡ false) × AreWhole more

pub either : (a b : Bool) → a ≡ false → b ≡ false → (a || b) ≡ false
either a b one other = rw (one, other) refl

first_of : (a b : Bool) → (a || b) ≡ false → (a ≡ false) × (b ≡ false)
first_of false b none = (refl, none)
first_of true b none = cc

by_order : (key k : Bytes) (value v : Data) (more : Members) (order : Ordering) → has_float value ≡ false → (has_float v ≡ false) × (members_have_float more ≡ false)
    → members_have_float (put key value more) ≡ false
    → members_have_float (match_ordering order (member key value (member k v more)) (member k value more) (member k v (put key value more))) ≡ false
by_order key k value v more Less whole parts put_in = either (has_float value) _ whole (either (has_float v) _ parts.0 parts.1)
by_order key k value v more Equal whole parts put_in = either (has_float value) _ whole parts.1
by_order key k value v more Greater whole parts put_in = either (has_float v) _ parts.0 put_in

pub put_whole : (key : Bytes) (value : Data) (members : Members) → has_float value ≡ false → members_have_float members ≡ false → members_have_float (put key value members) ≡ false
put_whole key value no_members whole rest = either (has_float value) false whole refl
put_whole key value (member k v more) whole rest =
    let parts = first_of (has_float v) (members_have_float more) rest in
    by_order key k value v more (slice_cmp nat_cmp key k) whole parts (put_whole key value more whole parts.1)

pub all_whole : (values : List (Bytes × Data)) (members : Members) → AreWhole values → members_have_float members ≡ false → members_have_float (with_all values members) ≡ false
all_whole [] others whole rest = rest
all_whole ((key, value) ∷ more) others whole rest = all_whole more (put key value others) whole.1 (put_whole key value others whole.0 rest)

pub limit_whole : (n : Option ℕ) → has_float (limit n) ≡ false
limit_whole None = refl
limit_whole (Some n) = refl

pub texts_whole : (list : List Bytes) → items_have_float (texts list) ≡ false
texts_whole [] = refl
texts_whole (text ∷ more) = texts_whole more

pub text_whole : (key text : Bytes) (others : Members) → members_have_float others ≡ false → members_have_float (text_unless_empty key text others) ≡ false
text_whole key [] others rest = rest
text_whole key (byte ∷ more) others rest = put_whole key (string (byte ∷ more)) others refl rest

choice_whole : (first : Bool) (one other : Members) → members_have_float one ≡ false → members_have_float other ≡ false → members_have_float (if first then one else other) ≡ false
choice_whole true one other whole rest = whole
choice_whole false one other whole rest = rest

pub count_whole : (key : Bytes) (n : ℕ) (others : Members) → members_have_float others ≡ false → members_have_float (count_unless_0 key n others) ≡ false
count_whole key n others rest = choice_whole (n == 0) others (put key (count n) others) rest (put_whole key (count n) others refl rest)
