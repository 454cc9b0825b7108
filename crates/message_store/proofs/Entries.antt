-- Messages under their sequences: what is found, added and removed.
use Rattle.std.proofs.Common.{◌≡◌, ℕ, ◌+◌, ◌<◌, ◌≤◌, ◌^◌, ◌*◌, ◌==◌, ◌&&◌, Bool, true, false, cond, not, List, [], ◌∷◌, ◌++◌, Option, Some, None, length, refl, sym, ap, ◌∙◌, arith, Bor}
use Rattle.std.specs.Prelude.{All, filter, find, nat_le, sum_by, unwrap_or}
use Rattle.std.specs.List.{last_or}
use Rattle.std.specs.List.Sorted.{IsStrictlySortedBy}
use Rattle.std.specs.Cmp.{nat_cmp_is, nat_cmp_total, eq_by_cmp_equiv}
use Rattle.std.specs.Map.Iter.{TakesLast, deref}
use Rattle.std.specs.Option.{option_copied, option_map}
use Rattle.std.specs.Ordering.{nat_cmp, is_le, is_lt, match_ordering}
use Rattle.std.specs.declared.cmp.Ordering.TheVariants.{Greater}
use Rattle.std.specs.Map.{keys_of, values_of, lookup, remove_entry}
use Rattle.std.specs.BTreeMap.{is_at, insert_entry}
use Rattle.std.proofs.lemmas.Map.{NonePasses}
use Rattle.std.proofs.lemmas.Map.Entries.{none_past_head, length-values_of, sum_by-remove_entry}
use Rattle.std.proofs.lemmas.Map.Keys.{sorted_tail, IsDistinct-from_sorted}
use Rattle.std.proofs.lemmas.Map.Views.{All-map-remove_entry}
use Rattle.std.proofs.lemmas.Bool.Decides.{nat_tests}
use Rattle.std.proofs.lemmas.List.{length-append, map-append}
use Rattle.std.proofs.lemmas.List.Elements.{All-head, All-tail, All-push}
use Rattle.std.proofs.lemmas.List.Sums.{sum_by-le, sum_by_push}
use Rattle.js_model.specs.declared.stream.Message.{Message}
use Rattle.js_model.specs.Counts.{first_message}
use Rattle.js_model.specs.Streams.{size}
use Rattle.message_store.specs.Stored.{IsSmall, AreNumbered, AreStored}

abbrev pub Entries : Type 0
Entries = List (ℕ × Message)

abbrev pub at : ℕ → ℕ → Bool
at seq = is_at (nat_cmp seq)

at_is : (seq n : ℕ) → at seq n ≡ (n == seq)
at_is seq n = grind (arith, nat_tests)

-- ---- what is found

pub lookup_is : (seq : ℕ) (es : Entries) → AreNumbered es → lookup (at seq) es ≡ find (λ m. m.seq == seq) (values_of es)
lookup_is seq [] h = refl
lookup_is seq (e ∷ es) h =
    ap (λ b. cond b (Some e.1) (lookup (at seq) es)) (at_is seq e.0 ∙ ap (λ n. n == seq) h.0) ∙ ap (λ o. cond (e.1.seq == seq) (Some e.1) o) (lookup_is seq es h.1)

-- what passes is found by the sequences
pub values-filter : (q : ℕ → Bool) (p : Message → Bool) → ((m : Message) → q m.seq ≡ p m) → (es : Entries) → AreNumbered es → values_of (filter (λ e. q e.0) es) ≡ filter p (values_of es)
values-filter q p agree [] h = refl
values-filter q p agree (e ∷ es) h = go (q e.0) (p e.1) (ap q h.0 ∙ agree e.1) (values-filter q p agree es h.1)
  where
    go : (b c : Bool) → b ≡ c → values_of (filter (λ x. q x.0) es) ≡ filter p (values_of es) → values_of (cond b (e ∷ filter (λ x. q x.0) es) (filter (λ x. q x.0) es)) ≡ cond c (e.1 ∷ filter p (values_of es)) (filter p (values_of es))
    go true true k rest = ap (λ (ms : List Message). e.1 ∷ ms) rest
    go true false k rest = absurd cc
    go false true k rest = absurd cc
    go false false k rest = rest

pub find_is : (p : Message → Bool) (ms : List Message) → find p ms ≡ first_message (filter p ms)
find_is p [] = refl
find_is p (m ∷ ms) = go (p m) (find_is p ms)
  where
    go : (b : Bool) → find p ms ≡ first_message (filter p ms) → cond b (Some m) (find p ms) ≡ first_message (cond b (m ∷ filter p ms) (filter p ms))
    go true rest = refl
    go false rest = rest

pub last_or-push : (o : Option Message) (ms : List Message) (m : Message) → last_or o (ms ++ m ∷ []) ≡ Some m
last_or-push o [] m = refl
last_or-push o (x ∷ ms) m = last_or-push (Some x) ms m

-- what a range from a sequence on begins with
pub first_from : (seq : ℕ) (es part : Entries) → AreNumbered es → part ≡ filter (λ e. is_le (nat_cmp seq e.0) && true) es → first_message (values_of part) ≡ find (λ m. nat_le seq m.seq) (values_of es)
first_from seq es part h is =
    ap (λ (p : Entries). first_message (values_of p)) is
    ∙ ap first_message (values-filter (λ n. is_le (nat_cmp seq n) && true) (λ m. nat_le seq m.seq) (λ m. from_is m.seq) es h)
    ∙ sym (find_is (λ m. nat_le seq m.seq) (values_of es))
  where
    from_is : (n : ℕ) → (is_le (nat_cmp seq n) && true) ≡ nat_le seq n
    from_is n = grind (arith, nat_tests)

-- what a range up to a sequence ends with
pub last_upto : (seq : ℕ) (es part : Entries) → AreNumbered es → part ≡ filter (λ e. not (is_lt (nat_cmp seq e.0))) es → last_or None (values_of part) ≡ last_or None (filter (λ m. nat_le m.seq seq) (values_of es))
last_upto seq es part h is =
    ap (λ (p : Entries). last_or None (values_of p)) is ∙ ap (last_or None) (values-filter (λ n. not (is_lt (nat_cmp seq n))) (λ m. nat_le m.seq seq) (λ m. upto_is m.seq) es h)
  where
    upto_is : (n : ℕ) → not (is_lt (nat_cmp seq n)) ≡ nat_le n seq
    upto_is n = grind (arith, nat_tests)

pub last_entry : (part rest : Entries) (e : ℕ × Message) → part ≡ rest ++ e ∷ [] → Some e.1 ≡ last_or None (values_of part)
last_entry part rest e is = sym (ap (λ (p : Entries). last_or None (values_of p)) is ∙ ap (last_or None) (map-append (λ (x : ℕ × Message). x.1) rest (e ∷ [])) ∙ last_or-push None (values_of rest) e.1)

pub last_taken : (ms rest : List Message) (r : Option (Bor Message)) → TakesLast deref ms r rest → option_copied r ≡ last_or None ms
last_taken ms rest None h = sym (ap (last_or None) h.0)
last_taken ms rest (Some m) h = sym (ap (last_or None) h ∙ last_or-push None rest m.now)

-- ---- a message more

pub insert_end : (m : Message) (es : Entries) → AreNumbered es → All (λ x. x.seq < m.seq) (values_of es) → insert_entry nat_cmp es m.seq m ≡ es ++ (m.seq, m) ∷ []
insert_end m [] h above = refl
insert_end m (e ∷ es) h above =
    let below : e.1.seq < m.seq = All-head (λ x. x.seq < m.seq) e.1 (values_of es) above in
    let less : e.0 < m.seq = omega (arith, h.0) in
    ap (λ o. match_ordering o ((m.seq, m) ∷ e ∷ es) ((e.0, m) ∷ es) (e ∷ insert_entry nat_cmp es m.seq m)) (sym (nat_cmp_is m.seq e.0 Greater less))
    ∙ ap (λ (more : Entries). e ∷ more) (insert_end m es h.1 (All-tail (λ x. x.seq < m.seq) e.1 (values_of es) above))

numbered_more : (m : Message) (es : Entries) → AreNumbered es → AreNumbered (es ++ (m.seq, m) ∷ [])
numbered_more m [] h = (refl, tt)
numbered_more m (e ∷ es) h = (h.0, numbered_more m es h.1)

-- ---- a message less

numbered_less : (seq : ℕ) (es : Entries) → AreNumbered es → AreNumbered (remove_entry (at seq) es)
numbered_less seq [] h = tt
numbered_less seq (e ∷ es) h = go (at seq e.0) (numbered_less seq es h.1)
  where
    go : (b : Bool) → AreNumbered (remove_entry (at seq) es) → AreNumbered (cond b es (e ∷ remove_entry (at seq) es))
    go true k = h.1
    go false k = (h.0, k)

length_less : (seq : ℕ) (es : Entries) → length (remove_entry (at seq) es) ≤ length es
length_less seq [] = omega arith
length_less seq (e ∷ es) = go (at seq e.0) (length_less seq es)
  where
    go : (b : Bool) → length (remove_entry (at seq) es) ≤ length es → length (cond b es (e ∷ remove_entry (at seq) es)) ≤ length (e ∷ es)
    go true k = omega arith
    go false k = omega (arith, k)

none_goes : (seq : ℕ) (es : Entries) → AreNumbered es → NonePasses (at seq) es → values_of es ≡ filter (λ m. not (m.seq == seq)) (values_of es)
none_goes seq [] h none = refl
none_goes seq (e ∷ es) h none =
    ap (λ (ms : List Message). e.1 ∷ ms) (none_goes seq es h.1 none.1)
    ∙ ap (λ b. cond (not b) (e.1 ∷ filter (λ m. not (m.seq == seq)) (values_of es)) (filter (λ m. not (m.seq == seq)) (values_of es))) (sym none.0 ∙ at_is seq e.0 ∙ ap (λ n. n == seq) h.0)

pub removed : (seq : ℕ) (es : Entries) → IsStrictlySortedBy nat_cmp (keys_of es) → AreNumbered es → values_of (remove_entry (at seq) es) ≡ filter (λ m. not (m.seq == seq)) (values_of es)
removed seq [] rising h = refl
removed seq (e ∷ es) rising h = go (at seq e.0) refl (removed seq es (sorted_tail nat_cmp e.0 (keys_of es) rising) h.1)
  where
    rest : List Message
    rest = filter (λ m. not (m.seq == seq)) (values_of es)

    same_test : at seq e.0 ≡ (e.1.seq == seq)
    same_test = at_is seq e.0 ∙ ap (λ n. n == seq) h.0

    alone : at seq e.0 ≡ true → NonePasses (at seq) es
    alone f = none_past_head (eq_by_cmp_equiv nat_cmp_total) seq e es (IsDistinct-from_sorted nat_cmp (keys_of (e ∷ es)) rising) f

    go : (b : Bool) → at seq e.0 ≡ b → values_of (remove_entry (at seq) es) ≡ rest → values_of (cond b es (e ∷ remove_entry (at seq) es)) ≡ cond (not (e.1.seq == seq)) (e.1 ∷ rest) rest
    go true f k = none_goes seq es h.1 (alone f) ∙ ap (λ b. cond (not b) (e.1 ∷ rest) rest) (sym f ∙ same_test)
    go false f k = ap (λ (ms : List Message). e.1 ∷ ms) k ∙ ap (λ b. cond (not b) (e.1 ∷ rest) rest) (sym f ∙ same_test)

-- ---- what holds of the store

pub sum_small : (es : Entries) (bytes : ℕ) → AreStored es bytes → bytes ≤ 2 ^ 53
sum_small es bytes stored =
    let most : sum_by size (values_of es) ≤ length (values_of es) * 2097152 = sum_by-le size 2097152 (values_of es) stored.small in
    omega (arith, most, stored.few, stored.sum, length-values_of es)

pub stored_more : (es fs : Entries) (bytes : ℕ) (m : Message) → AreStored es bytes → IsSmall m → length (values_of es) + 1 < 2 ^ 32 → IsStrictlySortedBy nat_cmp (keys_of fs) → fs ≡ es ++ (m.seq, m) ∷ [] → AreStored fs (bytes + size m)
stored_more es fs bytes m stored small room ordered is = record {
  ordered = ordered;
  numbered = rw is (numbered_more m es stored.numbered);
  few = rw is (omega (arith, room, length-values_of es, length-append es ((m.seq, m) ∷ [])));
  small = rw (is, map-append) (All-push IsSmall (values_of es) m stored.small small);
  sum = rw (is, map-append) (ap (λ (n : ℕ). n + size m) stored.sum ∙ sym (sum_by_push size (values_of es) m));
}

-- the message that goes is a part of the sum
pub size_within : (seq : ℕ) (es : Entries) (bytes : ℕ) (m : Message) → AreStored es bytes → lookup (at seq) es ≡ Some m → sum_by size (values_of (remove_entry (at seq) es)) + size m ≡ bytes
size_within seq es bytes m stored found =
    ap (λ o. sum_by size (values_of (remove_entry (at seq) es)) + unwrap_or (option_map size o) 0) (sym found) ∙ sum_by-remove_entry size (at seq) es ∙ sym stored.sum

pub stored_less : (seq : ℕ) (es : Entries) (bytes left : ℕ) → AreStored es bytes → IsStrictlySortedBy nat_cmp (keys_of (remove_entry (at seq) es)) → left ≡ sum_by size (values_of (remove_entry (at seq) es)) → AreStored (remove_entry (at seq) es) left
stored_less seq es bytes left stored ordered sum = record {
  ordered = ordered;
  numbered = numbered_less seq es stored.numbered;
  few = omega (arith, stored.few, length_less seq es);
  small = All-map-remove_entry (at seq) (λ e. e.1) IsSmall es stored.small;
  sum = sum;
}
