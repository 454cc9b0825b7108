-- What a change of a set of sequences makes of their list, and which of them are found.
use Rattle.std.proofs.Common.{◌≡◌, ℕ, ◌-◌, ◌<◌, Bool, true, false, cond, not, List, [], ◌∷◌, ◌++◌, Option, Some, None, Bor, refl, sym, ap, ◌∙◌, subst, arith, length}
use Rattle.std.specs.Prelude.{◌==◌, nat_le, filter, find, All, slice_get}
use Rattle.std.specs.List.{AllByRecursion}
use Rattle.std.specs.List.Sorted.{IsStrictlySortedBy}
use Rattle.std.specs.Option.{MatchOption, option_copied}
use Rattle.std.specs.Ordering.{nat_cmp, match_ordering}
use Rattle.std.specs.declared.cmp.Ordering.TheVariants.{Less, Greater}
use Rattle.std.specs.declared.ops.Bound.TheVariants.{Included, Unbounded}
use Rattle.std.specs.BTreeMap.{is_at}
use Rattle.std.specs.BTreeMap.Range.{range_contains}
use Rattle.std.specs.BTreeSet.{insert_key}
use Rattle.std.specs.Set.{remove_key}
use Rattle.std.proofs.lemmas.Bool.{eqb-true}
use Rattle.std.proofs.lemmas.Bool.Decides.{nat_tests}
use Rattle.std.proofs.lemmas.List.Elements.{All-head, All-tail}
use Rattle.std.proofs.lemmas.Map.Keys.{sorted_head, sorted_tail}
use Rattle.stream_view.specs.declared.counts.Counts.{Counts}
use Rattle.stream_view.specs.Counting.{last_from, counts_of}

-- ---- how numbers compare

greater : (m n : ℕ) → n < m → nat_cmp m n ≡ Greater
greater m n h = grind (arith, nat_tests)

at_number : (m n : ℕ) → is_at (nat_cmp m) n ≡ (n == m)
at_number m n = grind (arith, nat_tests)

from_number : (m n : ℕ) → range_contains nat_cmp (Included m) Unbounded n ≡ nat_le m n
from_number m n = grind (arith, nat_tests)

above_other : (m n : ℕ) → nat_cmp m n ≡ Less → not (n == m) ≡ true
above_other m n h = grind (arith, nat_tests)

-- ---- one more, and one less

pub insert_key-above : (seq : ℕ) (ns : List ℕ) → All (λ n. n < seq) ns → insert_key nat_cmp ns seq ≡ ns ++ seq ∷ []
insert_key-above seq [] h = refl
insert_key-above seq (n ∷ ns) h =
    ap (λ o. match_ordering o (seq ∷ n ∷ ns) (n ∷ ns) (n ∷ insert_key nat_cmp ns seq)) (greater seq n (All-head (λ n. n < seq) n ns h))
    ∙ ap (λ t. n ∷ t) (insert_key-above seq ns (All-tail (λ n. n < seq) n ns h))

-- a filter that keeps all
filter_all : (test : ℕ → Bool) (ns : List ℕ) → AllByRecursion (λ n. test n ≡ true) ns → filter test ns ≡ ns
filter_all test [] h = refl
filter_all test (n ∷ ns) h = ap (λ b. cond b (n ∷ filter test ns) (filter test ns)) h.0 ∙ ap (λ t. n ∷ t) (filter_all test ns h.1)

all_apart : (m : ℕ) (ns : List ℕ) → AllByRecursion (λ n. nat_cmp m n ≡ Less) ns → AllByRecursion (λ n. not (n == m) ≡ true) ns
all_apart m [] h = tt
all_apart m (n ∷ ns) h = (above_other m n h.0, all_apart m ns h.1)

pub remove_key-filter : (seq : ℕ) (ns : List ℕ) → IsStrictlySortedBy nat_cmp ns → remove_key (is_at (nat_cmp seq)) ns ≡ filter (λ n. not (n == seq)) ns
remove_key-filter seq [] h = refl
remove_key-filter seq (n ∷ ns) h = go (remove_key-filter seq ns (sorted_tail nat_cmp n ns h)) (n == seq) refl
  where
    all_stay : n ≡ seq → filter (λ n. not (n == seq)) ns ≡ ns
    all_stay e = filter_all (λ n. not (n == seq)) ns (all_apart seq ns (subst (λ (k : ℕ). AllByRecursion (λ y. nat_cmp k y ≡ Less) ns) e (sorted_head nat_cmp n ns h)))

    go : remove_key (is_at (nat_cmp seq)) ns ≡ filter (λ n. not (n == seq)) ns → (b : Bool) → (n == seq) ≡ b → cond (is_at (nat_cmp seq) n) ns (n ∷ remove_key (is_at (nat_cmp seq)) ns) ≡ cond (not (n == seq)) (n ∷ filter (λ n. not (n == seq)) ns) (filter (λ n. not (n == seq)) ns)
    go more true e =
        ap (λ b. cond b ns (n ∷ remove_key (is_at (nat_cmp seq)) ns)) (at_number seq n ∙ e)
        ∙ sym (ap (λ b. cond (not b) (n ∷ filter (λ n. not (n == seq)) ns) (filter (λ n. not (n == seq)) ns)) e ∙ all_stay (eqb-true n seq e))
    go more false e =
        ap (λ b. cond b ns (n ∷ remove_key (is_at (nat_cmp seq)) ns)) (at_number seq n ∙ e)
        ∙ ap (λ t. n ∷ t) more
        ∙ sym (ap (λ b. cond (not b) (n ∷ filter (λ n. not (n == seq)) ns) (filter (λ n. not (n == seq)) ns)) e)

-- ---- what is found

-- what an iterator gives next is the first of what it had left
first_left : (ns rest : List ℕ) (o : Option (Bor ℕ)) → MatchOption o ((ns ≡ []) × (rest ≡ [])) (λ n. ns ≡ n.now ∷ rest) → option_copied o ≡ slice_get ns 0
first_left ns rest None h = sym (ap (λ t. slice_get t 0) h.0)
first_left ns rest (Some n) h = sym (ap (λ t. slice_get t 0) h)

-- those from a number on
abbrev all_from : ℕ → List ℕ → List ℕ
all_from seq ns = filter (range_contains nat_cmp (Included seq) Unbounded) ns

slice_get-all_from : (seq : ℕ) (ns : List ℕ) → slice_get (all_from seq ns) 0 ≡ find (λ n. nat_le seq n) ns
slice_get-all_from seq [] = refl
slice_get-all_from seq (n ∷ ns) = ap (λ b. slice_get (cond b (n ∷ all_from seq ns) (all_from seq ns)) 0) (from_number seq n) ∙ go (slice_get-all_from seq ns) (nat_le seq n)
  where
    go : slice_get (all_from seq ns) 0 ≡ find (λ n. nat_le seq n) ns → (b : Bool) → slice_get (cond b (n ∷ all_from seq ns) (all_from seq ns)) 0 ≡ cond b (Some n) (find (λ n. nat_le seq n) ns)
    go more true = refl
    go more false = more

pub first_from_is : (seq : ℕ) (ns found rest : List ℕ) (o : Option (Bor ℕ)) → found ≡ all_from seq ns
    → MatchOption o ((found ≡ []) × (rest ≡ [])) (λ n. found ≡ n.now ∷ rest) → option_copied o ≡ find (λ n. nat_le seq n) ns
first_from_is seq ns found rest o e h = first_left found rest o h ∙ ap (λ t. slice_get t 0) e ∙ slice_get-all_from seq ns

-- ---- what is counted

-- the last of a list that begins with a number
slice_get-last : (n : ℕ) (ns : List ℕ) → slice_get (n ∷ ns) (length ns) ≡ Some (last_from n ns)
slice_get-last n [] = refl
slice_get-last n (m ∷ ns) = slice_get-last m ns

-- the counts of so many, if these are the first and the last
abbrev counted : ℕ → Option ℕ → Option ℕ → Option Counts
counted count None last = None
counted count (Some first) None = None
counted count (Some first) (Some last) = Some (record { count = count; first = first; last = last })

pub counts_are : (ns : List ℕ) (first last : ℕ) → slice_get ns 0 ≡ Some first → slice_get ns (length ns - 1) ≡ Some last → Some (record { count = length ns; first = first; last = last }) ≡ counts_of ns
counts_are [] first last f l = ap (λ o. counted 0 o (Some last)) (sym f)
counts_are (n ∷ ns) first last f l =
    let before : length ns ≡ length (n ∷ ns) - 1 = omega arith in
    ap (λ o. counted (length (n ∷ ns)) o (Some last)) (sym f)
    ∙ ap (λ o. counted (length (n ∷ ns)) (Some n) o) (sym l ∙ ap (slice_get (n ∷ ns)) (sym before) ∙ slice_get-last n ns)
