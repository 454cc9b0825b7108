-- What a filter selects, one message after the other.
use Rattle.std.proofs.Common.{◌≡◌, ℕ, ◌+◌, ◌≤◌, ◌==◌, ◌&&◌, ◌||◌, Bool, true, false, cond, not, List, [], ◌∷◌, Option, Some, None, length, refl, sym, ap, ◌∙◌, arith}
use Rattle.std.specs.Prelude.{filter, find, nat_le, option_map}
use Rattle.std.specs.List.{join_with_byte}
use Rattle.std.proofs.lemmas.Bool.{and_parts, or_parts, leb-true, le-leb, lt-leb, not-true}
use Rattle.std.proofs.lemmas.Bool.Decides.{nat_tests}
use Rattle.std.proofs.lemmas.List.Splits.{join_with_byte-slice_split}
use Rattle.js_base.specs.Bytes.{Bytes, same, is_empty}
use Rattle.js_base.specs.Subjects.{tokens, matches, is_plain, is_wild, star, rest, is_subject_text}
use Rattle.js_base.proofs.Meeting.{same_is, same_self}
use Rattle.js_model.specs.declared.stream.Message.{Message}
use Rattle.js_model.specs.Lists.{Between}
use Rattle.js_model.specs.Streams.{passes_filter, seqs}
use Rattle.js_model.proofs.Members.{in_bounds, found_in}
use Rattle.stored_stream.specs.Indexed.{on_subject}
use Rattle.stored_stream.specs.Selecting.{next_passing}
use Rattle.stored_stream.proofs.Lists.{and_true}

abbrev Ascending : ℕ → ℕ → List Message → Type 0
Ascending low high ms = Between (λ m. m.seq) low high ms

-- ---- one subject

-- a subject without wildcards matches itself alone
plain_same : (ps ss : List Bytes) → is_plain ps ≡ true → matches ps ss ≡ true → ps ≡ ss
plain_same [] [] h k = refl
plain_same [] (s ∷ ss) h k = absurd cc
plain_same (p ∷ ps) [] h k = absurd cc
plain_same (p ∷ ps) (s ∷ ss) h k =
    let plain = and_parts (not (is_wild p)) (is_plain ps) h in
    let wild = or_parts (same p star) (same p rest) (not-true (is_wild p) plain.0) in
    let step : ((false && is_empty ps) || ((false || same p s) && matches ps ss)) ≡ true = rw wild.0 at (rw wild.1 at k) in
    let parts = and_parts (same p s) (matches ps ss) step in
    ap (λ (t : Bytes). t ∷ ps) (same_is p s parts.0) ∙ ap (λ (ts : List Bytes). s ∷ ts) (plain_same ps ss plain.1 parts.1)

plain_self : (ps : List Bytes) → is_plain ps ≡ true → matches ps ps ≡ true
plain_self [] h = refl
plain_self (p ∷ ps) h =
    let plain = and_parts (not (is_wild p)) (is_plain ps) h in
    let wild = or_parts (same p star) (same p rest) (not-true (is_wild p) plain.0) in
    rw (wild.1, wild.0, same_self p) (plain_self ps plain.1)

same_tokens : (a b : Bytes) → tokens a ≡ tokens b → a ≡ b
same_tokens a b h = sym (join_with_byte-slice_split 46 a) ∙ ap (join_with_byte 46) h ∙ join_with_byte-slice_split 46 b

subject_matches : (filter' subject : Bytes) → is_plain (tokens filter') ≡ true → same subject filter' ≡ matches (tokens filter') (tokens subject)
subject_matches filter' subject plain = go (same subject filter') refl (matches (tokens filter') (tokens subject)) refl
  where
    go : (b : Bool) → same subject filter' ≡ b → (c : Bool) → matches (tokens filter') (tokens subject) ≡ c → b ≡ c
    go true e true f = refl
    go false e false f = refl
    go true e false f = sym (plain_self (tokens filter') plain) ∙ ap (λ (t : Bytes). matches (tokens filter') (tokens t)) (sym (same_is subject filter' e)) ∙ f
    go false e true f = sym e ∙ ap (λ (t : Bytes). same t filter') (sym (same_tokens filter' subject (plain_same (tokens filter') (tokens subject) plain f))) ∙ same_self filter'

not_empty : (text : Bytes) → (length text == 0) ≡ false → is_empty text ≡ false
not_empty [] h = h
not_empty (byte ∷ more) h = refl

pub subject_selects : (filter' : Bytes) → (length filter' == 0) ≡ false → is_subject_text filter' ≡ true → (subject : Bytes) → same subject filter' ≡ passes_filter filter' subject
subject_selects filter' some text subject =
    subject_matches filter' subject (and_parts _ _ text).1 ∙ sym (ap (λ b. b || matches (tokens filter') (tokens subject)) (not_empty filter' some))

pub pattern_selects : (filter' : Bytes) → (length filter' == 0) ≡ false → (subject : Bytes) → matches (tokens filter') (tokens subject) ≡ passes_filter filter' subject
pattern_selects filter' some subject = sym (ap (λ b. b || matches (tokens filter') (tokens subject)) (not_empty filter' some))

pub all_selects : (filter' : Bytes) → (length filter' == 0) ≡ true → (subject : Bytes) → true ≡ passes_filter filter' subject
all_selects [] none subject = refl
all_selects (byte ∷ more) none subject = absurd (grind (arith, nat_tests))

-- ---- the next one

find_agree : (p q : Message → Bool) → ((m : Message) → p m ≡ q m) → (ms : List Message) → find p ms ≡ find q ms
find_agree p q h [] = refl
find_agree p q h (m ∷ ms) = ap (λ b. cond b (Some m) (find p ms)) (h m) ∙ ap (λ (o : Option Message). cond (q m) (Some m) o) (find_agree p q h ms)

and_false : (b : Bool) → (b && false) ≡ false
and_false true = refl
and_false false = refl

-- among all
pub next_of_all : (ms : List Message) (from : ℕ) → option_map (λ m. m.seq) (find (λ m. nat_le from m.seq) ms) ≡ next_passing (λ m. true) ms from
next_of_all ms from = ap (option_map (λ (m : Message). m.seq)) (find_agree (λ m. nat_le from m.seq) (λ m. nat_le from m.seq && true) (λ m. and_true (nat_le from m.seq)) ms)

-- among those of a subject
pub next_on_subject : (ms : List Message) (subject : Bytes) (from : ℕ) → find (λ n. nat_le from n) (seqs (on_subject subject ms)) ≡ next_passing (λ m. same m.subject subject) ms from
next_on_subject [] subject from = refl
next_on_subject (m ∷ ms) subject from = go (same m.subject subject) (nat_le from m.seq) (next_on_subject ms subject from)
  where
    go : (b c : Bool) → find (λ n. nat_le from n) (seqs (on_subject subject ms)) ≡ next_passing (λ x. same x.subject subject) ms from
        → find (λ n. nat_le from n) (seqs (cond b (m ∷ on_subject subject ms) (on_subject subject ms))) ≡ option_map (λ x. x.seq) (cond (nat_le from m.seq && b) (Some m) (find (λ x. nat_le from x.seq && same x.subject subject) ms))
    go true c h = head (nat_le from m.seq) h
      where
        head : (d : Bool) → find (λ n. nat_le from n) (seqs (on_subject subject ms)) ≡ next_passing (λ x. same x.subject subject) ms from
            → cond d (Some m.seq) (find (λ n. nat_le from n) (seqs (on_subject subject ms))) ≡ option_map (λ x. x.seq) (cond (d && true) (Some m) (find (λ x. nat_le from x.seq && same x.subject subject) ms))
        head true k = refl
        head false k = k
    go false c h = rw (and_false (nat_le from m.seq)) h

-- ---- one after the other

module _ (t : Message → Bool) where
  passes : ℕ → Message → Bool
  passes from m = nat_le from m.seq && t m

-- the first from a sequence on passes
pub found_next : (t : Message → Bool) (from : ℕ) (m : Message) (ms : List Message) → find (λ x. nat_le from x.seq) ms ≡ Some m → t m ≡ true → find (λ x. nat_le from x.seq && t x) ms ≡ Some m
found_next t from m [] h k = absurd cc
found_next t from m (x ∷ ms) h k = go (nat_le from x.seq) h (λ e. found_next t from m ms e k)
  where
    go : (b : Bool) → cond b (Some x) (find (λ y. nat_le from y.seq) ms) ≡ Some m → (find (λ y. nat_le from y.seq) ms ≡ Some m → find (λ y. nat_le from y.seq && t y) ms ≡ Some m) → cond (b && t x) (Some x) (find (λ y. nat_le from y.seq && t y) ms) ≡ Some m
    go true e r = let is : x ≡ m = cc in ap (λ b. cond b (Some x) (find (λ y. nat_le from y.seq && t y) ms)) (ap t is ∙ k) ∙ ap Some is
    go false e r = r e

-- from a sequence below all on, all are looked at
from_low : (t : Message → Bool) (from low high : ℕ) (ms : List Message) → from ≤ low → Ascending low high ms → filter (λ m. nat_le from m.seq && t m) ms ≡ filter t ms
from_low t from low high [] l h = refl
from_low t from low high (m ∷ ms) l h =
    let q : low ≤ m.seq = h.0 in
    ap (λ b. cond (b && t m) (m ∷ filter (λ x. nat_le from x.seq && t x) ms) (filter (λ x. nat_le from x.seq && t x) ms)) (le-leb from m.seq (omega arith))
    ∙ ap (λ (xs : List Message). cond (t m) (m ∷ xs) xs) (from_low t from (m.seq + 1) high ms (omega arith) h.1)

-- what passes from a sequence on: the first, and those after it
pub rest_first : (t : Message → Bool) (from low high : ℕ) (m : Message) (ms : List Message) → Ascending low high ms → find (λ x. nat_le from x.seq && t x) ms ≡ Some m
    → filter (λ x. nat_le from x.seq && t x) ms ≡ m ∷ filter (λ x. nat_le (m.seq + 1) x.seq && t x) ms
rest_first t from low high m [] h k = absurd cc
rest_first t from low high m (x ∷ ms) h k = go (nat_le from x.seq && t x) refl k (λ e. rest_first t from (x.seq + 1) high m ms h.1 e)
  where
    later : ℕ → List Message
    later n = filter (λ y. nat_le n y.seq && t y) ms

    go : (b : Bool) → (nat_le from x.seq && t x) ≡ b → cond b (Some x) (find (λ y. nat_le from y.seq && t y) ms) ≡ Some m → (find (λ y. nat_le from y.seq && t y) ms ≡ Some m → later from ≡ m ∷ later (m.seq + 1))
        → cond b (x ∷ later from) (later from) ≡ m ∷ cond (nat_le (m.seq + 1) x.seq && t x) (x ∷ later (m.seq + 1)) (later (m.seq + 1))
    go true e f r =
        let is : x ≡ m = cc in
        let below : from ≤ x.seq = leb-true from x.seq (and_parts _ _ e).0 in
        let own : m.seq ≡ x.seq = ap (λ (y : Message). y.seq) (sym is) in
        let gone : nat_le (m.seq + 1) x.seq ≡ false = lt-leb (m.seq + 1) x.seq (omega arith) in
        rw gone
        (ap (λ (y : Message). y ∷ later from) is
        ∙ ap (λ (ys : List Message). m ∷ ys) (from_low t from (x.seq + 1) high ms (omega arith) h.1 ∙ sym (from_low t (m.seq + 1) (x.seq + 1) high ms (omega arith) h.1)))
    go false e f r =
        let after : x.seq + 1 ≤ m.seq = (in_bounds (λ (y : Message). y.seq) (x.seq + 1) high m ms h.1 (found_in (λ y. nat_le from y.seq && t y) m ms f).0).0 in
        let gone : nat_le (m.seq + 1) x.seq ≡ false = lt-leb (m.seq + 1) x.seq (omega arith) in
        rw gone (r f)

-- if the first does not pass, the search goes on behind it
pub passed_over : (t : Message → Bool) (from low high : ℕ) (m : Message) (ms : List Message) → Ascending low high ms → find (λ x. nat_le from x.seq) ms ≡ Some m → t m ≡ false
    → find (λ x. nat_le from x.seq && t x) ms ≡ find (λ x. nat_le (m.seq + 1) x.seq && t x) ms
passed_over t from low high m [] h k fails = refl
passed_over t from low high m (x ∷ ms) h k fails = go (nat_le from x.seq) refl k (λ e. passed_over t from (x.seq + 1) high m ms h.1 e fails)
  where
    later : ℕ → Option Message
    later n = find (λ y. nat_le n y.seq && t y) ms

    go : (b : Bool) → nat_le from x.seq ≡ b → cond b (Some x) (find (λ y. nat_le from y.seq) ms) ≡ Some m → (find (λ y. nat_le from y.seq) ms ≡ Some m → later from ≡ later (m.seq + 1))
        → cond (b && t x) (Some x) (later from) ≡ cond (nat_le (m.seq + 1) x.seq && t x) (Some x) (later (m.seq + 1))
    go true e f r =
        let is : x ≡ m = cc in
        let below : from ≤ x.seq = leb-true from x.seq e in
        let own : m.seq ≡ x.seq = ap (λ (y : Message). y.seq) (sym is) in
        let no : t x ≡ false = ap t is ∙ fails in
        let gone : nat_le (m.seq + 1) x.seq ≡ false = lt-leb (m.seq + 1) x.seq (omega arith) in
        rw (no, gone) (found_low from (omega arith) ∙ sym (found_low (m.seq + 1) (omega arith)))
      where
        found_low : (n : ℕ) → n ≤ x.seq + 1 → later n ≡ find t ms
        found_low n l = low_find n (x.seq + 1) ms l h.1
          where
            low_find : (k' low' : ℕ) (ys : List Message) → k' ≤ low' → Ascending low' high ys → find (λ y. nat_le k' y.seq && t y) ys ≡ find t ys
            low_find k' low' [] l' h' = refl
            low_find k' low' (y ∷ ys) l' h' =
                let q : low' ≤ y.seq = h'.0 in
                ap (λ b. cond (b && t y) (Some y) (find (λ z. nat_le k' z.seq && t z) ys)) (le-leb k' y.seq (omega arith)) ∙ ap (λ (o : Option Message). cond (t y) (Some y) o) (low_find k' (y.seq + 1) ys (omega arith) h'.1)
    go false e f r =
        let after : x.seq + 1 ≤ m.seq = (in_bounds (λ (y : Message). y.seq) (x.seq + 1) high m ms h.1 (found_in (λ y. nat_le from y.seq) m ms f).0).0 in
        let gone : nat_le (m.seq + 1) x.seq ≡ false = lt-leb (m.seq + 1) x.seq (omega arith) in
        rw gone (r f)

pub none_passes : (t : Message → Bool) (from : ℕ) (ms : List Message) → find (λ x. nat_le from x.seq) ms ≡ None → find (λ x. nat_le from x.seq && t x) ms ≡ None
none_passes t from [] h = refl
none_passes t from (x ∷ ms) h = go (nat_le from x.seq) h (none_passes t from ms)
  where
    go : (b : Bool) → cond b (Some x) (find (λ y. nat_le from y.seq) ms) ≡ None → (find (λ y. nat_le from y.seq) ms ≡ None → find (λ y. nat_le from y.seq && t y) ms ≡ None) → cond (b && t x) (Some x) (find (λ y. nat_le from y.seq && t y) ms) ≡ None
    go true e r = absurd cc
    go false e r = r e

-- ---- turns of a search

pub found_seq : (t : Message → Bool) (from : ℕ) (m : Message) (ms : List Message) → Some m ≡ find (λ x. nat_le from x.seq) ms → t m ≡ true → Some m.seq ≡ next_passing t ms from
found_seq t from m ms h k = sym (ap (option_map (λ (x : Message). x.seq)) (found_next t from m ms (sym h) k))

pub passed_seq : (t : Message → Bool) (from low high : ℕ) (m : Message) (ms : List Message) → Ascending low high ms → Some m ≡ find (λ x. nat_le from x.seq) ms → t m ≡ false → next_passing t ms (m.seq + 1) ≡ next_passing t ms from
passed_seq t from low high m ms ascends h k = sym (ap (option_map (λ (x : Message). x.seq)) (passed_over t from low high m ms ascends (sym h) k))

pub none_seq : (t : Message → Bool) (from : ℕ) (ms : List Message) → None ≡ find (λ x. nat_le from x.seq) ms → None ≡ next_passing t ms from
none_seq t from ms h = sym (ap (option_map (λ (x : Message). x.seq)) (none_passes t from ms (sym h)))
