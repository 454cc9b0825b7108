-- What is counted of the subjects that a pattern matches, as the map is walked from the pattern's prefix on.
use Rattle.std.proofs.Common.{◌≡◌, ℕ, ◌&&◌, not, Bool, true, false, cond, List, [], ◌∷◌, ◌++◌, map, refl, sym, ap, ◌∙◌, subst, append_assoc, append-nil}
use Rattle.std.specs.Prelude.{filter, nat_eq}
use Rattle.std.specs.declared.alloc.Global.{Global}
use Rattle.std.specs.declared.vec.Vec.{Vec}
use Rattle.std.specs.declared.ops.Bound.TheVariants.{Included, Unbounded}
use Rattle.std.specs.declared.cmp.Ordering.{Ordering}
use Rattle.std.specs.declared.cmp.Ordering.TheVariants.{Less}
use Rattle.std.specs.List.{flat_map, starts_with, AllByRecursion, IsDistinct}
use Rattle.std.specs.List.Sorted.{IsStrictlySortedBy}
use Rattle.std.specs.Map.{keys_of}
use Rattle.std.specs.Option.{option_to_list}
use Rattle.std.specs.Ordering.{is_eq, is_le, nat_cmp}
use Rattle.std.specs.Cmp.Lexicographic.{slice_cmp}
use Rattle.std.specs.BTreeMap.Range.{range_contains}
use Rattle.std.specs.BTreeSet.{BTreeSet}
use Rattle.std.proofs.lemmas.Bool.{false_from_ne_true, true≢false}
use Rattle.std.proofs.lemmas.Map.Keys.{sorted_head, sorted_tail}
use Rattle.std.proofs.lemmas.Map.Text.{is_eq-slice_cmp}
use Rattle.js_base.specs.Bytes.{Bytes, same}
use Rattle.js_base.specs.Subjects.{matches, tokens}
use Rattle.stream_view.specs.declared.counts.Counts.{Counts}
use Rattle.stream_view.specs.Counting.{counts_of}
use Rattle.subject_counts.specs.Sequences.{counts_matching, AreDistinct}
use Rattle.subject_counts.specs.SubjectMaps.{SubjectMap, shown}
use Rattle.subject_counts.proofs.Beneath.{at_or_after, past}

abbrev Key : Type 0
Key = Vec ℕ Global

abbrev pub Entry : Type 0
Entry = Key × BTreeSet ℕ

abbrev pub Entries : Type 0
Entries = List Entry

abbrev pub key_cmp : Key → Key → Ordering
key_cmp x y = slice_cmp nat_cmp x.items y.items

abbrev pub fits : Bytes → Entry → Bool
fits pattern e = matches (tokens pattern) (tokens e.0.items)

-- what is counted of the entries that the pattern matches
abbrev pub gathered : Bytes → Entries → List Counts
gathered pattern es = flat_map (λ e. option_to_list (counts_of e.1.keys)) (filter (fits pattern) es)

pub gathered_yes : (pattern : Bytes) (e : Entry) (es : Entries) → fits pattern e ≡ true → gathered pattern (e ∷ es) ≡ option_to_list (counts_of e.1.keys) ++ gathered pattern es
gathered_yes pattern e es h = ap (λ b. flat_map (λ x. option_to_list (counts_of x.1.keys)) (cond b (e ∷ filter (fits pattern) es) (filter (fits pattern) es))) h

pub gathered_no : (pattern : Bytes) (e : Entry) (es : Entries) → fits pattern e ≡ false → gathered pattern (e ∷ es) ≡ gathered pattern es
gathered_no pattern e es h = ap (λ b. flat_map (λ x. option_to_list (counts_of x.1.keys)) (cond b (e ∷ filter (fits pattern) es) (filter (fits pattern) es))) h

-- the entries as they are seen
abbrev Seen : Type 0
Seen = Bytes × List ℕ

abbrev seen : Entries → List Seen
seen es = map (λ (e : Entry). (e.0.items, e.1.keys)) es

-- it is what is seen
pub gathered-shown : (pattern : Bytes) (subjects : SubjectMap) → gathered pattern subjects.entries ≡ counts_matching pattern (shown subjects)
gathered-shown pattern subjects = go subjects.entries
  where
    go : (es : Entries) → gathered pattern es ≡ flat_map (λ (e : Seen). option_to_list (counts_of e.1)) (filter (λ (e : Seen). matches (tokens pattern) (tokens e.0)) (seen es))
    go [] = refl
    go (e ∷ es) = step (fits pattern e) (go es)
      where
        step : (b : Bool) → gathered pattern es ≡ flat_map (λ (x : Seen). option_to_list (counts_of x.1)) (filter (λ (x : Seen). matches (tokens pattern) (tokens x.0)) (seen es))
            → flat_map (λ x. option_to_list (counts_of x.1.keys)) (cond b (e ∷ filter (fits pattern) es) (filter (fits pattern) es))
            ≡ flat_map (λ (x : Seen). option_to_list (counts_of x.1))
            (cond b ((e.0.items, e.1.keys) ∷ filter (λ (x : Seen). matches (tokens pattern) (tokens x.0)) (seen es)) (filter (λ (x : Seen). matches (tokens pattern) (tokens x.0)) (seen es)))
        step true h = ap (λ (cs : List Counts). option_to_list (counts_of e.1.keys) ++ cs) h
        step false h = h

-- no subject is in the map twice
pub distinct_shown : (subjects : SubjectMap) → IsStrictlySortedBy key_cmp (keys_of subjects.entries) → AreDistinct (shown subjects)
unfolding IsDistinct
distinct_shown subjects h = go subjects.entries h
  where
    apart : (key : Key) (es : Entries) → AllByRecursion (λ y. key_cmp key y ≡ Less) (keys_of es) → AllByRecursion (λ t. same key.items t ≡ false) (map (λ (e : Seen). e.0) (seen es))
    apart key [] h = tt
    apart key (e ∷ es) h = (sym (is_eq-slice_cmp key.items e.0.items) ∙ ap is_eq h.0, apart key es h.1)

    go : (es : Entries) → IsStrictlySortedBy key_cmp (keys_of es) → IsDistinct same (map (λ (e : Seen). e.0) (seen es))
    go [] h = tt
    go (e ∷ es) h = (apart e.0 es (sorted_head key_cmp e.0 (keys_of es) h), go es (sorted_tail key_cmp e.0 (keys_of es) h))

-- ---- from the prefix on

-- the entries behind a key, it too
abbrev pub from_key : Key → Entries → Entries
from_key start es = filter (λ e. range_contains key_cmp (Included start) Unbounded e.0) es

-- each subject that the pattern matches begins with the prefix
abbrev pub Begins : Bytes → Bytes → Type 0
Begins pattern prefix = (t : Bytes) → matches (tokens pattern) (tokens t) ≡ true → starts_with nat_eq t prefix ≡ true

pub begins_at : (pattern prefix start bare : Bytes) → start ≡ bare ++ prefix → bare ≡ [] → Begins pattern prefix → Begins pattern start
begins_at pattern prefix start bare is none begins t h = ap (starts_with nat_eq t) (is ∙ ap (λ (u : Bytes). u ++ prefix) none) ∙ begins t h

module _ (pattern : Bytes) (start : Key) (begins : Begins pattern start.items) where
  -- what stands before the prefix is not matched
  pub gathered_from : (es : Entries) → gathered pattern (from_key start es) ≡ gathered pattern es
  gathered_from [] = refl
  gathered_from (e ∷ es) = go (fits pattern e) refl (is_le (key_cmp start e.0)) refl (gathered_from es)
    where
      go : (b : Bool) → fits pattern e ≡ b → (c : Bool) → is_le (key_cmp start e.0) ≡ c → gathered pattern (from_key start es) ≡ gathered pattern es
          → gathered pattern (cond (c && not false) (e ∷ from_key start es) (from_key start es)) ≡ gathered pattern (e ∷ es)
      go true f true g h = gathered_yes pattern e (from_key start es) f ∙ ap (λ (cs : List Counts). option_to_list (counts_of e.1.keys) ++ cs) h ∙ sym (gathered_yes pattern e es f)
      go true f false g h = absurd (true≢false (sym (at_or_after start.items e.0.items (begins e.0.items f)) ∙ g))
      go false f true g h = gathered_no pattern e (from_key start es) f ∙ h ∙ sym (gathered_no pattern e es f)
      go false f false g h = h ∙ sym (gathered_no pattern e es f)

  unmatched : (e : Entry) → starts_with nat_eq e.0.items start.items ≡ false → fits pattern e ≡ false
  unmatched e h = false_from_ne_true (fits pattern e) (λ k. true≢false (sym (begins e.0.items k) ∙ h))

  -- what stands behind an entry that does not begin with the prefix is not matched
  pub gathered_past : (e : Entry) (es : Entries) → is_le (key_cmp start e.0) ≡ true → starts_with nat_eq e.0.items start.items ≡ false → IsStrictlySortedBy key_cmp (keys_of (e ∷ es)) → gathered pattern (e ∷ es) ≡ []
  gathered_past e es h k sorted = gathered_no pattern e es (unmatched e k) ∙ go es (sorted_head key_cmp e.0 (keys_of es) sorted)
    where
      go : (xs : Entries) → AllByRecursion (λ y. key_cmp e.0 y ≡ Less) (keys_of xs) → gathered pattern xs ≡ []
      go [] l = refl
      go (x ∷ xs) l = gathered_no pattern x xs (unmatched x (past start.items e.0.items x.0.items h k l.0)) ∙ go xs l.1

-- ---- the walk

-- what was found, and what is left
pub record Walks (pattern : Bytes) (start : Key) (all : List Counts) (found : List Counts) (left : Entries) : Type 0 where
  pub whole : found ++ gathered pattern left ≡ all
  pub sorted : IsStrictlySortedBy key_cmp (keys_of left)
  pub from : AllByRecursion (λ e. is_le (key_cmp start e.0) ≡ true) left

module _ (pattern : Bytes) (start : Key) (begins : Begins pattern start.items) (all : List Counts) where
  sorted_from : (es : Entries) → IsStrictlySortedBy key_cmp (keys_of es) → IsStrictlySortedBy key_cmp (keys_of (from_key start es))
  unfolding IsStrictlySortedBy
  sorted_from [] h = tt
  sorted_from (e ∷ es) h = go (is_le (key_cmp start e.0)) (sorted_from es h.1)
    where
      behind : (xs : Entries) → AllByRecursion (λ y. key_cmp e.0 y ≡ Less) (keys_of xs) → AllByRecursion (λ y. key_cmp e.0 y ≡ Less) (keys_of (from_key start xs))
      behind [] l = tt
      behind (x ∷ xs) l = step (is_le (key_cmp start x.0)) (behind xs l.1)
        where
          step : (b : Bool) → AllByRecursion (λ y. key_cmp e.0 y ≡ Less) (keys_of (from_key start xs)) → AllByRecursion (λ y. key_cmp e.0 y ≡ Less) (keys_of (cond (b && not false) (x ∷ from_key start xs) (from_key start xs)))
          step true m = (l.0, m)
          step false m = m

      go : (b : Bool) → IsStrictlySortedBy key_cmp (keys_of (from_key start es)) → IsStrictlySortedBy key_cmp (keys_of (cond (b && not false) (e ∷ from_key start es) (from_key start es)))
      go true k = (behind es h.0, k)
      go false k = k

  all_from : (es : Entries) → AllByRecursion (λ e. is_le (key_cmp start e.0) ≡ true) (from_key start es)
  all_from [] = tt
  all_from (e ∷ es) = go (is_le (key_cmp start e.0)) refl (all_from es)
    where
      go : (b : Bool) → is_le (key_cmp start e.0) ≡ b → AllByRecursion (λ x. is_le (key_cmp start x.0) ≡ true) (from_key start es)
          → AllByRecursion (λ x. is_le (key_cmp start x.0) ≡ true) (cond (b && not false) (e ∷ from_key start es) (from_key start es))
      go true f k = (f, k)
      go false f k = k

  pub walks_begin : (es left : Entries) (found : List Counts) → gathered pattern es ≡ all → IsStrictlySortedBy key_cmp (keys_of es) → left ≡ from_key start es → found ≡ [] → Walks pattern start all found left
  walks_begin es left found h sorted is none = rw (is, none) (record { whole = gathered_from pattern start begins es ∙ h; sorted = sorted_from es sorted; from = all_from es })

  module _ (found : List Counts) (left : Entries) (walks : Walks pattern start all found left) where
    at : (e : Entry) (es : Entries) → left ≡ e ∷ es → Walks pattern start all found (e ∷ es)
    at e es is = subst (λ (xs : Entries). Walks pattern start all found xs) is walks

    pub walks_over : (e : Entry) (es : Entries) → left ≡ e ∷ es → fits pattern e ≡ false → Walks pattern start all found es
    walks_over e es is fails =
        let w = at e es is in
        record { whole = ap (λ (cs : List Counts). found ++ cs) (sym (gathered_no pattern e es fails)) ∙ w.whole; sorted = sorted_tail key_cmp e.0 (keys_of es) w.sorted; from = w.from.1 }

    pub walks_on : (e : Entry) (es : Entries) (more : List Counts) → left ≡ e ∷ es → fits pattern e ≡ true → more ≡ found ++ option_to_list (counts_of e.1.keys) → Walks pattern start all more es
    walks_on e es more is passes pushed =
        let w = at e es is in
        record {
          whole = ap (λ (cs : List Counts). cs ++ gathered pattern es) pushed
              ∙ append_assoc found (option_to_list (counts_of e.1.keys)) (gathered pattern es)
              ∙ ap (λ (cs : List Counts). found ++ cs) (sym (gathered_yes pattern e es passes))
              ∙ w.whole;
          sorted = sorted_tail key_cmp e.0 (keys_of es) w.sorted;
          from = w.from.1;
        }

    pub walks_past : (e : Entry) (es : Entries) → left ≡ e ∷ es → starts_with nat_eq e.0.items start.items ≡ false → found ≡ all
    walks_past e es is fails =
        let w = at e es is in
        sym (append-nil found) ∙ ap (λ (cs : List Counts). found ++ cs) (sym (gathered_past pattern start begins e es w.from.0 fails w.sorted)) ∙ w.whole

    pub walks_all : left ≡ [] → found ≡ all
    walks_all is = sym (append-nil found) ∙ ap (λ (xs : Entries). found ++ gathered pattern xs) (sym is) ∙ walks.whole
