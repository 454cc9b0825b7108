-- Ids found by their texts in a list, and which of them still count.
use Rattle.std.proofs.Common.{◌≡◌, ℕ, ◌+◌, ◌≤◌, Bool, true, false, cond, List, [], ◌∷◌, Option, Some, None, get_or, length, refl, sym, ap, ◌∙◌, arith}
use Rattle.std.specs.Prelude.{All, filter, nat_lt, option_map}
use Rattle.std.specs.List.{last_or}
use Rattle.std.specs.List.Sorted.{IsNonDecreasingBy}
use Rattle.std.proofs.lemmas.Bool.{ltb-true, lt-ltb}
use Rattle.std.proofs.lemmas.List.Elements.{All-head, All-tail, All-from_get_or}
use Rattle.js_base.specs.Bytes.{Bytes, same}
use Rattle.js_base.specs.Moments.{plus}
use Rattle.js_base.proofs.Meeting.{same_is}
use Rattle.js_model.specs.declared.stream.Id.{Id}
use Rattle.dedup_window.specs.declared.known.Added.{Added}
use Rattle.dedup_window.specs.Window.{Window, id_of, seq_of, remembered}
use Rattle.dedup_window.specs.Mirrors.{AreApart, added_of}

-- ---- those that count

passing_all : {X : Type 0} (t : X → Bool) (xs : List X) → All (λ x. t x ≡ true) xs → filter t xs ≡ xs
passing_all t [] h = refl
passing_all t (x ∷ xs) h =
    ap (λ b. cond b (x ∷ filter t xs) (filter t xs)) (All-head (λ y. t y ≡ true) x xs h)
    ∙ ap (λ ys. x ∷ ys) (passing_all t xs (All-tail (λ y. t y ≡ true) x xs h))

abbrev is_counted : Window → ℕ → Id → Bool
is_counted w now i = nat_lt now (plus i.at w.window)

-- if the oldest id counts, so do all
pub all_remembered : (w : Window) (now : ℕ) (i : Id) → i ≡ get_or w.ids 0 i → is_counted w now i ≡ true → IsNonDecreasingBy (λ j. j.at) w.ids
    → remembered w now ≡ w.ids
all_remembered w now i is counts up =
    let first : i.at ≡ (get_or w.ids 0 i).at = ap (λ (j : Id). j.at) is in
    let below = ltb-true now (plus i.at w.window) counts in
    passing_all (is_counted w now) w.ids (All-from_get_or (λ j. is_counted w now j ≡ true) w.ids i
    (λ k within. lt-ltb now (plus (get_or w.ids k i).at w.window) (omega (arith, below, first, up 0 k i (omega arith) within))))

-- none leaves before the oldest
pub oldest_first : (w : Window) (i : Id) → i ≡ get_or w.ids 0 i → IsNonDecreasingBy (λ j. j.at) w.ids
    → All (λ j. plus i.at w.window ≤ plus j.at w.window) w.ids
oldest_first w i is up =
    let first : i.at ≡ (get_or w.ids 0 i).at = ap (λ (j : Id). j.at) is in
    All-from_get_or (λ j. plus i.at w.window ≤ plus j.at w.window) w.ids i (λ k within. omega (arith, first, up 0 k i (omega arith) within))

-- ---- the last one

last_at : {X : Type 0} (o : Option X) (x : X) (more : List X) (d : X) → last_or o (x ∷ more) ≡ Some (get_or (x ∷ more) (length more) d)
last_at o x [] d = refl
last_at o x (y ∷ more) d = last_at (Some x) y more d

pub last_is : {X : Type 0} (xs : List X) (k : ℕ) (x : X) → x ≡ get_or xs k x → k + 1 ≡ length xs → Some x ≡ last_or None xs
last_is [] k x is at = absurd (omega (arith, at))
last_is (y ∷ more) k x is at =
    let end : k ≡ length more = omega (arith, at) in
    ap Some (is ∙ ap (λ (n : ℕ). get_or (y ∷ more) n x) end) ∙ sym (last_at None y more x)

-- ---- those of a text

-- the one that was found, if it passes
abbrev kept_if : (Id → Bool) → Option Id → Option Id
kept_if p None = None
kept_if p (Some i) = cond (p i) (Some i) None

-- of ids that are apart, the one of a text is found among those that pass exactly if it passes
id_of-filter : (p : Id → Bool) (ids : List Id) (text : Bytes) → AreApart ids → id_of (filter p ids) text ≡ kept_if p (id_of ids text)
id_of-filter p [] text apart = refl
id_of-filter p (i ∷ ids) text apart = go (id_of-filter p ids text apart.1) (same i.id text) (p i) refl refl
  where
    go : id_of (filter p ids) text ≡ kept_if p (id_of ids text) → (b q : Bool) → same i.id text ≡ b → p i ≡ q
        → id_of (cond q (i ∷ filter p ids) (filter p ids)) text ≡ kept_if p (cond b (Some i) (id_of ids text))
    go rest true true e f = ap (λ c. cond c (Some i) (id_of (filter p ids) text)) e ∙ sym (ap (λ c. cond c (Some i) None) f)
    go rest true false e f =
        rest ∙ ap (kept_if p) (ap (id_of ids) (sym (same_is i.id text e)) ∙ apart.0) ∙ sym (ap (λ c. cond c (Some i) None) f)
    go rest false true e f = ap (λ c. cond c (Some i) (id_of (filter p ids) text)) e ∙ rest
    go rest false false e f = rest

-- the sequence of what was added, if it still counts
abbrev pub seen_of : Window → ℕ → Option Added → Option ℕ
seen_of w now None = None
seen_of w now (Some a) = cond (nat_lt now (plus a.at w.window)) (Some a.seq) None

pub seen_is : (w : Window) (now : ℕ) (text : Bytes) → AreApart w.ids
    → seq_of (remembered w now) text ≡ seen_of w now (option_map added_of (id_of w.ids text))
seen_is w now text apart = ap (option_map (λ i. i.seq)) (id_of-filter (is_counted w now) w.ids text apart) ∙ go (id_of w.ids text)
  where
    seq : (i : Id) (b : Bool) → option_map (λ (j : Id). j.seq) (cond b (Some i) None) ≡ cond b (Some i.seq) None
    seq i true = refl
    seq i false = refl

    go : (o : Option Id) → option_map (λ i. i.seq) (kept_if (is_counted w now) o) ≡ seen_of w now (option_map added_of o)
    go None = refl
    go (Some i) = seq i (is_counted w now i)
