-- Parts of a list, in order: what each filter of the machine leaves.
use Rattle.std.proofs.Common.{◌≡◌, ℕ, zero, suc, ◌+◌, ◌<◌, ◌≤◌, Bool, true, false, ◌&&◌, ◌||◌, cond, List, [], ◌∷◌, ◌++◌, length, drop, take, map, arith, refl}
use Rattle.std.specs.Prelude.{Option, Some, None, filter, nat_lt, nat_le, count_by, sum_by, ◌==◌}
use Rattle.std.proofs.lemmas.Bool.{and_left, or_from, or_right, ne_eqb}
use Rattle.std.proofs.lemmas.List.Sums.{sum_by-cons}
use Rattle.std.specs.List.{list_any}
use Rattle.js_base.specs.Bytes.{same}
use Rattle.js_base.specs.Moments.{plus}
use Rattle.js_model.specs.Lists.{Between, IsPart, keep, none, skip}
use Rattle.js_model.specs.declared.stream.Message.{Message}
use Rattle.js_model.specs.declared.stream.Stream.{Stream}
use Rattle.js_model.specs.Streams.{size}
use Rattle.js_model.specs.Advance.{young}
use Rattle.js_model.specs.Trim.{newest, newest_at, fitting, fitting_at, trim, trim_count, trim_subjects}

-- ---- what leaves a part

pub all_part : {X : Type 0} (xs : List X) → IsPart xs xs
all_part [] = none
all_part (x ∷ xs) = keep (all_part xs)

pub no_part : {X : Type 0} (xs : List X) → IsPart [] xs
no_part [] = none
no_part (x ∷ xs) = skip (no_part xs)

pub filter_part : {X : Type 0} (p : X → Bool) (xs : List X) → IsPart (filter p xs) xs
filter_part p [] = none
filter_part p (x ∷ xs) = go (p x) (filter_part p xs)
  where
    go : (b : Bool) → IsPart (filter p xs) xs → IsPart (cond b (x ∷ filter p xs) (filter p xs)) (x ∷ xs)
    go true h = keep h
    go false h = skip h

pub drop_part : {X : Type 0} (n : ℕ) (xs : List X) → IsPart (drop n xs) xs
drop_part zero xs = all_part xs
drop_part (suc n) [] = none
drop_part (suc n) (x ∷ xs) = skip (drop_part n xs)

pub take_part : {X : Type 0} (n : ℕ) (xs : List X) → IsPart (take n xs) xs
take_part zero xs = no_part xs
take_part (suc n) [] = none
take_part (suc n) (x ∷ xs) = keep (take_part n xs)

pub newest_part : (n : ℕ) (xs : List Message) → IsPart (newest n xs) xs
newest_part n [] = none
newest_part n (m ∷ later) = go (nat_lt (count_by (λ x. same x.subject m.subject) later) n) (newest_part n later)
  where
    go : (b : Bool) → IsPart (newest n later) later → IsPart (cond b (m ∷ newest n later) (newest n later)) (m ∷ later)
    go true h = keep h
    go false h = skip h

fitting_part : (n : ℕ) (xs : List Message) → IsPart (fitting n xs) xs
fitting_part n [] = none
fitting_part n (m ∷ later) = go (nat_le (sum_by size (m ∷ later)) n) (fitting_part n later)
  where
    go : (b : Bool) → IsPart (fitting n later) later → IsPart (cond b (m ∷ later) (fitting n later)) (m ∷ later)
    go true h = all_part (m ∷ later)
    go false h = skip h

pub newest_at_part : (n : Option ℕ) (xs : List Message) → IsPart (newest_at n xs) xs
newest_at_part None xs = all_part xs
newest_at_part (Some n) xs = newest_part n xs

pub fitting_at_part : (n : Option ℕ) (xs : List Message) → IsPart (fitting_at n xs) xs
fitting_at_part None xs = all_part xs
fitting_at_part (Some n) xs = fitting_part n xs

pub part_trans : {X : Type 0} {zs ys xs : List X} → IsPart zs ys → IsPart ys xs → IsPart zs xs
part_trans none none = none
part_trans p (skip q) = skip (part_trans p q)
part_trans (keep p) (keep q) = keep (part_trans p q)
part_trans (skip p) (keep q) = skip (part_trans p q)

pub part_map : {X Y : Type 0} (f : X → Y) {ys xs : List X} → IsPart ys xs → IsPart (map f ys) (map f xs)
part_map f none = none
part_map f (keep p) = keep (part_map f p)
part_map f (skip p) = skip (part_map f p)

pub young_part : (s : Stream) (now : ℕ) → IsPart (young s now) s.messages
young_part s now = go (s.config.max_age == 0)
  where
    go : (b : Bool) → IsPart (cond b s.messages (filter (λ m. nat_lt now (plus m.at s.config.max_age)) s.messages)) s.messages
    go true = all_part s.messages
    go false = filter_part _ s.messages

pub trim_part : (s : Stream) → IsPart (trim s).messages s.messages
unfolding trim
trim_part s =
    part_trans (fitting_at_part s.config.max_bytes (trim_count (trim_subjects s)).messages)
    (part_trans (drop_part _ (trim_subjects s).messages) (newest_at_part s.config.max_msgs_per_subject s.messages))

-- ---- what a part keeps

pub part_any : {X : Type 0} (t : X → Bool) {ys xs : List X} → IsPart ys xs → list_any t ys ≡ true → list_any t xs ≡ true
part_any t none h = h
part_any t (keep {x = x} {ys = ys} {xs = xs} p) h = go (t x) (part_any t p) h
  where
    go : (b : Bool) → (list_any t ys ≡ true → list_any t xs ≡ true) → (b || list_any t ys) ≡ true → (b || list_any t xs) ≡ true
    go true f k = refl
    go false f k = f k
part_any t (skip {x = x} {xs = xs} p) h = or_right (t x) (list_any t xs) (part_any t p h)

pub part-length : {X : Type 0} {ys xs : List X} → IsPart ys xs → length ys ≤ length xs
part-length none = omega arith
part-length (keep {ys = ys} {xs = xs} p) = let h : length ys ≤ length xs = part-length p in omega arith
part-length (skip {ys = ys} {xs = xs} p) = let h : length ys ≤ length xs = part-length p in omega arith

pub part-sum : {X : Type 0} (f : X → ℕ) {ys xs : List X} → IsPart ys xs → sum_by f ys ≤ sum_by f xs
part-sum f none = omega arith
part-sum f (keep {x = x} {ys = ys} {xs = xs} p) = let h : sum_by f ys ≤ sum_by f xs = part-sum f p in rw (sum_by-cons f x ys, sum_by-cons f x xs) (omega arith)
part-sum f (skip {x = x} {ys = ys} {xs = xs} p) = let h : sum_by f ys ≤ sum_by f xs = part-sum f p in rw (sum_by-cons f x xs) (omega arith)

-- ---- ascending lists

pub between_bounds : {X : Type 0} (f : X → ℕ) (low high : ℕ) (xs : List X) → Between f low high xs → low ≤ high
between_bounds f low high [] h = h
between_bounds f low high (x ∷ xs) h = let q : low ≤ f x = h.0 in let r : f x + 1 ≤ high = between_bounds f (f x + 1) high xs h.1 in omega arith

-- no element below the first has the number
pub none_below : {X : Type 0} (f : X → ℕ) (t : X → Bool) (n low high : ℕ) (xs : List X) → Between f low high xs → n < low → list_any (λ x. f x == n && t x) xs ≡ false
none_below f t n low high [] h below = refl
none_below f t n low high (x ∷ xs) h below =
    or_from _ _ (and_left _ _ (ne_eqb (f x) n (let q : low ≤ f x = h.0 in omega arith)))
    (none_below f t n (f x + 1) high xs h.1 (let q : low ≤ f x = h.0 in omega arith))

pub between_lower : {X : Type 0} (f : X → ℕ) (a b high : ℕ) (xs : List X) → a ≤ b → Between f b high xs → Between f a high xs
between_lower f a b high [] h k = omega arith
between_lower f a b high (x ∷ xs) h k = (let q : b ≤ f x = k.0 in omega arith, k.1)

pub between_higher : {X : Type 0} (f : X → ℕ) (low a b : ℕ) (xs : List X) → a ≤ b → Between f low a xs → Between f low b xs
between_higher f low a b [] h k = omega arith
between_higher f low a b (x ∷ xs) h k = (k.0, between_higher f (f x + 1) a b xs h k.1)

pub part_between : {X : Type 0} (f : X → ℕ) (low high : ℕ) {ys xs : List X} → IsPart ys xs → Between f low high xs → Between f low high ys
part_between f low high none h = h
part_between f low high (keep {x = x} p) h = (h.0, part_between f (f x + 1) high p h.1)
part_between f low high (skip {x = x} {xs = xs} p) h = part_between f low high p (between_lower f low (f x + 1) high xs (let q : low ≤ f x = h.0 in omega arith) h.1)

pub between_push : {X : Type 0} (f : X → ℕ) (low high : ℕ) (xs : List X) (x : X) → f x ≡ high → Between f low high xs → Between f low (high + 1) (xs ++ x ∷ [])
between_push f low high [] x e h = (omega arith, omega arith)
between_push f low high (y ∷ ys) x e h = (h.0, between_push f (f y + 1) high ys x e h.1)

pub between_map : {X Y : Type 0} (f : Y → ℕ) (g : X → Y) (low high : ℕ) (xs : List X) → Between (λ x. f (g x)) low high xs → Between f low high (map g xs)
between_map f g low high [] h = h
between_map f g low high (x ∷ xs) h = (h.0, between_map f g (f (g x) + 1) high xs h.1)

pub between_from_map : {X Y : Type 0} (f : Y → ℕ) (g : X → Y) (low high : ℕ) (xs : List X) → Between f low high (map g xs) → Between (λ x. f (g x)) low high xs
between_from_map f g low high [] h = h
between_from_map f g low high (x ∷ xs) h = (h.0, between_from_map f g (f (g x) + 1) high xs h.1)
