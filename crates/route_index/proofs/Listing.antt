-- The list of the subscriptions, by the entries of a map in the order of their numbers.
use Rattle.std.proofs.Common.{◌≡◌, ℕ, ◌==◌, ◌||◌, ◌&&◌, not, Bool, true, false, cond, List, [], ◌∷◌, ◌++◌, map, filter, Option, Some, None, refl, sym, ap, subst, ◌∙◌, arith}
use Rattle.std.specs.Option.{is_some}
use Rattle.std.specs.List.{AllByRecursion}
use Rattle.std.specs.List.Sorted.{IsStrictlySortedBy}
use Rattle.std.specs.Cmp.{nat_cmp_is, nat_cmp_total, eq_by_cmp_equiv}
use Rattle.std.specs.Ordering.{nat_cmp, match_ordering}
use Rattle.std.specs.declared.cmp.Ordering.TheVariants.{Less, Greater}
use Rattle.std.specs.Map.{keys_of, lookup, remove_entry}
use Rattle.std.specs.BTreeMap.{get, is_at, insert_entry}
use Rattle.std.proofs.lemmas.Map.{NonePasses, lookup-none}
use Rattle.std.proofs.lemmas.Map.Entries.{none_past_head}
use Rattle.std.proofs.lemmas.Map.Keys.{sorted_tail, IsDistinct-from_sorted}
use Rattle.std.proofs.lemmas.List.{map-append}
use Rattle.std.proofs.lemmas.Bool.{eqb-true, true≢false, and_parts}
use Rattle.js_base.specs.Bytes.{Bytes, same, has}
use Rattle.js_base.specs.Subjects.{tokens}
use Rattle.route_index.specs.declared.seek.Seek.{Seek}
use Rattle.route_index.specs.Subs.{id_of, IsAbove, is_there, without}
use Rattle.route_index.specs.Searching.{fits}
use Rattle.route_index.specs.Sought.{is_sought, sought_ids}
use Rattle.route_index.specs.Ids.{Ids, Patterns, sub_of, subs_of, has_pattern, is_under, Mirrors, AddsId, DropsId, KeepsIds}
use Rattle.route_index.proofs.Numbers.{or_false, and_true, at_number, eq_flip}

abbrev Entries : Type 0
Entries = List (ℕ × Bytes)

abbrev pub at : ℕ → ℕ → Bool
at id = is_at (nat_cmp id)

at_is : (id n : ℕ) → at id n ≡ (n == id)
at_is id n = at_number id n ∙ eq_flip id n

-- behind the entry of a number there is no other of it
alone : (id : ℕ) (e : ℕ × Bytes) (es : Entries) → IsStrictlySortedBy nat_cmp (keys_of (e ∷ es)) → at id e.0 ≡ true → NonePasses (at id) es
alone id e es rising h = none_past_head (eq_by_cmp_equiv nat_cmp_total) id e es (IsDistinct-from_sorted nat_cmp (keys_of (e ∷ es)) rising) h

-- ---- which numbers are sought

abbrev pub sought_of : Seek → Bytes → Option Bytes → Bool
sought_of seek text None = false
sought_of seek text (Some pattern) = fits seek (tokens pattern) (tokens text)

pub sought_has : (seek : Seek) (text : Bytes) (id : ℕ) (es : Entries) → IsStrictlySortedBy nat_cmp (keys_of es) → has (sought_ids seek text (map sub_of es)) id ≡ sought_of seek text (lookup (at id) es)
sought_has seek text id [] rising = refl
sought_has seek text id (e ∷ es) rising =
    go (fits seek (tokens e.1) (tokens text)) (e.0 == id) refl refl (sought_has seek text id es (sorted_tail nat_cmp e.0 (keys_of es) rising))
  where
    none : (e.0 == id) ≡ true → sought_of seek text (lookup (at id) es) ≡ false
    none h = ap (sought_of seek text) (lookup-none (at id) es (alone id e es rising (at_is id e.0 ∙ h)))

    go : (b c : Bool) → fits seek (tokens e.1) (tokens text) ≡ b → (e.0 == id) ≡ c → has (sought_ids seek text (map sub_of es)) id ≡ sought_of seek text (lookup (at id) es)
        → has (map id_of (cond b (sub_of e ∷ filter (is_sought seek text) (map sub_of es)) (filter (is_sought seek text) (map sub_of es)))) id
        ≡ sought_of seek text (cond (at id e.0) (Some e.1) (lookup (at id) es))
    go true true f g h = ap (λ c. c || has (sought_ids seek text (map sub_of es)) id) g ∙ sym (ap (λ c. sought_of seek text (cond c (Some e.1) (lookup (at id) es))) (at_is id e.0 ∙ g) ∙ f)
    go true false f g h =
        ap (λ c. c || has (sought_ids seek text (map sub_of es)) id) g ∙ h ∙ sym (ap (λ c. sought_of seek text (cond c (Some e.1) (lookup (at id) es))) (at_is id e.0 ∙ g))
    go false true f g h = h ∙ none g ∙ sym (ap (λ c. sought_of seek text (cond c (Some e.1) (lookup (at id) es))) (at_is id e.0 ∙ g) ∙ f)
    go false false f g h = h ∙ sym (ap (λ c. sought_of seek text (cond c (Some e.1) (lookup (at id) es))) (at_is id e.0 ∙ g))

-- those numbers rise
above_some : (x : ℕ) (seek : Seek) (text : Bytes) (es : Entries) → AllByRecursion (λ y. nat_cmp x y ≡ Less) (keys_of es) → AllByRecursion (λ y. nat_cmp x y ≡ Less) (sought_ids seek text (map sub_of es))
above_some x seek text [] h = tt
above_some x seek text (e ∷ es) h = go (is_sought seek text (sub_of e)) (above_some x seek text es h.1)
  where
    go : (b : Bool) → AllByRecursion (λ y. nat_cmp x y ≡ Less) (sought_ids seek text (map sub_of es))
        → AllByRecursion (λ y. nat_cmp x y ≡ Less) (map id_of (cond b (sub_of e ∷ filter (is_sought seek text) (map sub_of es)) (filter (is_sought seek text) (map sub_of es))))
    go true k = (h.0, k)
    go false k = k

pub sought_rise : (seek : Seek) (text : Bytes) (es : Entries) → IsStrictlySortedBy nat_cmp (keys_of es) → IsStrictlySortedBy nat_cmp (sought_ids seek text (map sub_of es))
unfolding IsStrictlySortedBy
sought_rise seek text [] h = tt
sought_rise seek text (e ∷ es) h = go (is_sought seek text (sub_of e)) (sought_rise seek text es h.1)
  where
    go : (b : Bool) → IsStrictlySortedBy nat_cmp (sought_ids seek text (map sub_of es))
        → IsStrictlySortedBy nat_cmp (map id_of (cond b (sub_of e ∷ filter (is_sought seek text) (map sub_of es)) (filter (is_sought seek text) (map sub_of es))))
    go true k = (above_some e.0 seek text es h.0, k)
    go false k = k

-- ---- adding

-- a greater number goes to the end
pub insert_end : (id : ℕ) (pattern : Bytes) (es : Entries) → IsAbove id (map sub_of es) → insert_entry nat_cmp es id pattern ≡ es ++ (id, pattern) ∷ []
insert_end id pattern [] h = refl
insert_end id pattern (e ∷ es) h =
    ap (λ o. match_ordering o ((id, pattern) ∷ e ∷ es) ((e.0, pattern) ∷ es) (e ∷ insert_entry nat_cmp es id pattern)) (sym (nat_cmp_is id e.0 Greater h.0))
    ∙ ap (λ more. e ∷ more) (insert_end id pattern es h.1)

pub subs_added : (old new : Patterns) (id : ℕ) (pattern : Bytes) → IsAbove id (subs_of old) → new.entries ≡ insert_entry nat_cmp old.entries id pattern → subs_of new ≡ subs_of old ++ record { id = id; pattern = pattern } ∷ []
subs_added old new id pattern above e = ap (map sub_of) (e ∙ insert_end id pattern old.entries above) ∙ map-append sub_of old.entries ((id, pattern) ∷ [])

-- it is not there before
pub none_above : (id : ℕ) (es : Entries) → IsAbove id (map sub_of es) → lookup (at id) es ≡ None
none_above id [] h = refl
none_above id (e ∷ es) h =
    let apart : (e.0 == id) ≡ false = grind arith in
    ap (λ b. cond b (Some e.1) (lookup (at id) es)) (at_is id e.0 ∙ apart) ∙ none_above id es h.1

pub mirrors_added : (old new : Patterns) (ids ids' : Ids) (id : ℕ) (pattern : Bytes) → Mirrors old ids → IsAbove id (subs_of old) → IsStrictlySortedBy nat_cmp (keys_of new.entries)
    → ((n : ℕ) → get nat_cmp new n ≡ cond (at id n) (Some pattern) (get nat_cmp old n)) → AddsId ids ids' pattern id → Mirrors new ids'
mirrors_added old new ids ids' id pattern mirrors above rising updates adds = record { ordered = rising; at = λ text n. adds.at text n ∙ go text n (id == n) refl }
  where
    go : (text : Bytes) (n : ℕ) (b : Bool) → (id == n) ≡ b → (is_under ids text n || (same pattern text && id == n)) ≡ has_pattern (get nat_cmp new n) text
    go text n true e =
        ap (λ b. is_under ids text n || (same pattern text && b)) e ∙ ap (λ b. b || (same pattern text && true)) (mirrors.at text n ∙ ap (λ m. has_pattern (get nat_cmp old m) text) (sym (eqb-true id n e))
        ∙ ap (λ o. has_pattern o text) (none_above id old.entries above))
        ∙ and_true (same pattern text)
        ∙ sym (ap (λ o. has_pattern o text) (updates n ∙ ap (λ b. cond b (Some pattern) (get nat_cmp old n)) (at_number id n ∙ e)))
    go text n false e =
        ap (λ b. is_under ids text n || (same pattern text && b)) e ∙ ap (λ b. is_under ids text n || b) (and_false (same pattern text)) ∙ or_false (is_under ids text n) ∙ mirrors.at text n
        ∙ sym (ap (λ o. has_pattern o text) (updates n ∙ ap (λ b. cond b (Some pattern) (get nat_cmp old n)) (at_number id n ∙ e)))
      where
        and_false : (b : Bool) → (b && false) ≡ false
        and_false true = refl
        and_false false = refl

-- ---- removing

pub there_is : (id : ℕ) (es : Entries) → is_some (lookup (at id) es) ≡ is_there id (map sub_of es)
there_is id [] = refl
there_is id (e ∷ es) = go (e.0 == id) (at_is id e.0) (there_is id es)
  where
    go : (b : Bool) → at id e.0 ≡ b → is_some (lookup (at id) es) ≡ is_there id (map sub_of es) → is_some (cond (at id e.0) (Some e.1) (lookup (at id) es)) ≡ (b || is_there id (map sub_of es))
    go true h k = ap (λ b. is_some (cond b (Some e.1) (lookup (at id) es))) h
    go false h k = ap (λ b. is_some (cond b (Some e.1) (lookup (at id) es))) h ∙ k

without_none : (id : ℕ) (es : Entries) → NonePasses (at id) es → without id (map sub_of es) ≡ map sub_of es
without_none id [] h = refl
without_none id (e ∷ es) h =
    ap (λ b. cond (not b) (sub_of e ∷ without id (map sub_of es)) (without id (map sub_of es))) (sym (at_is id e.0) ∙ h.0) ∙ ap (λ more. sub_of e ∷ more) (without_none id es h.1)

pub remove_is : (id : ℕ) (es : Entries) → IsStrictlySortedBy nat_cmp (keys_of es) → map sub_of (remove_entry (at id) es) ≡ without id (map sub_of es)
remove_is id [] rising = refl
remove_is id (e ∷ es) rising = go (e.0 == id) refl (remove_is id es (sorted_tail nat_cmp e.0 (keys_of es) rising))
  where
    go : (b : Bool) → (e.0 == id) ≡ b → map sub_of (remove_entry (at id) es) ≡ without id (map sub_of es)
        → map sub_of (cond (at id e.0) es (e ∷ remove_entry (at id) es)) ≡ cond (not (e.0 == id)) (sub_of e ∷ without id (map sub_of es)) (without id (map sub_of es))
    go true h k =
        ap (λ b. map sub_of (cond b es (e ∷ remove_entry (at id) es))) (at_is id e.0 ∙ h) ∙ sym (without_none id es (alone id e es rising (at_is id e.0 ∙ h)))
        ∙ sym (ap (λ b. cond (not b) (sub_of e ∷ without id (map sub_of es)) (without id (map sub_of es))) h)
    go false h k =
        ap (λ b. map sub_of (cond b es (e ∷ remove_entry (at id) es))) (at_is id e.0 ∙ h) ∙ ap (λ more. sub_of e ∷ more) k
        ∙ sym (ap (λ b. cond (not b) (sub_of e ∷ without id (map sub_of es)) (without id (map sub_of es))) h)

pub mirrors_removed : (old new : Patterns) (ids ids' : Ids) (id : ℕ) (pattern : Bytes) → Mirrors old ids → Some pattern ≡ get nat_cmp old id → IsStrictlySortedBy nat_cmp (keys_of new.entries)
    → ((n : ℕ) → get nat_cmp new n ≡ cond (at id n) None (get nat_cmp old n)) → DropsId ids ids' pattern id → Mirrors new ids'
mirrors_removed old new ids ids' id pattern mirrors was rising updates drops = record { ordered = rising; at = λ text n. drops.at text n ∙ go text n (id == n) refl }
  where
    never : (b : Bool) → (b && not (b && true)) ≡ false
    never true = refl
    never false = refl

    kept : (a b : Bool) → (a && not (b && false)) ≡ a
    kept true true = refl
    kept true false = refl
    kept false b = refl

    go : (text : Bytes) (n : ℕ) (b : Bool) → (id == n) ≡ b → (is_under ids text n && not (same pattern text && id == n)) ≡ has_pattern (get nat_cmp new n) text
    go text n true e =
        ap (λ b. is_under ids text n && not (same pattern text && b)) e
        ∙ ap (λ b. b && not (same pattern text && true)) (mirrors.at text n ∙ ap (λ m. has_pattern (get nat_cmp old m) text) (sym (eqb-true id n e)) ∙ ap (λ o. has_pattern o text) (sym was))
        ∙ never (same pattern text)
        ∙ sym (ap (λ o. has_pattern o text) (updates n ∙ ap (λ b. cond b None (get nat_cmp old n)) (at_number id n ∙ e)))
    go text n false e =
        ap (λ b. is_under ids text n && not (same pattern text && b)) e ∙ kept (is_under ids text n) (same pattern text) ∙ mirrors.at text n
        ∙ sym (ap (λ o. has_pattern o text) (updates n ∙ ap (λ b. cond b None (get nat_cmp old n)) (at_number id n ∙ e)))

-- ---- an addition that was taken back

pub mirrors_kept : (patterns : Patterns) (ids ids' : Ids) → Mirrors patterns ids → KeepsIds ids ids' → Mirrors patterns ids'
mirrors_kept patterns ids ids' mirrors keeps = record { ordered = mirrors.ordered; at = λ text n. keeps.at text n ∙ mirrors.at text n }

taken_back : (a b : Bool) → (b ≡ true → a ≡ false) → ((a || b) && not b) ≡ a
taken_back true true h = absurd (true≢false (h refl))
taken_back true false h = refl
taken_back false true h = refl
taken_back false false h = refl

pub mirrors_restored : (old new : Patterns) (ids mid ids' : Ids) (id : ℕ) (pattern : Bytes) → Mirrors old ids → IsAbove id (subs_of old) → new.entries ≡ old.entries → AddsId ids mid pattern id → DropsId mid ids' pattern id
    → Mirrors new ids'
mirrors_restored old new ids mid ids' id pattern mirrors above same' adds drops = record {
  ordered = let P : Entries → Type 0 = λ es. IsStrictlySortedBy nat_cmp (keys_of es) in subst P (sym same') mirrors.ordered;
  at = λ text n. drops.at text n ∙ ap (λ b. b && not (same pattern text && id == n)) (adds.at text n) ∙ taken_back (is_under ids text n) (same pattern text && id == n) (absent text n) ∙ mirrors.at text n
      ∙ ap (λ es. has_pattern (lookup (at n) es) text) (sym same');
}
  where
    absent : (text : Bytes) (n : ℕ) → (same pattern text && id == n) ≡ true → is_under ids text n ≡ false
    absent text n h =
        mirrors.at text n ∙ ap (λ m. has_pattern (get nat_cmp old m) text) (sym (eqb-true id n (and_parts (same pattern text) (id == n) h).1)) ∙ ap (λ o. has_pattern o text) (none_above id old.entries above)
