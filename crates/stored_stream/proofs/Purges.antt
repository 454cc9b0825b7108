-- What a purge names, and what is left without it.
use Rattle.std.proofs.Common.{◌≡◌, ℕ, ◌+◌, ◌^◌, ◌<◌, ◌≤◌, ◌&&◌, Bool, true, false, cond, List, [], ◌∷◌, Option, Some, None, zero, suc, length, take, map, refl, sym, ap, ◌∙◌, arith}
use Rattle.std.specs.Prelude.{find, is_some, nat_le, option_map}
use Rattle.std.proofs.lemmas.Bool.{ltb-false, le-ltb}
use Rattle.std.proofs.lemmas.List.Elements.{filter_agree}
use Rattle.std.proofs.lemmas.List.{length-map}
use Rattle.js_base.specs.Bytes.{Bytes}
use Rattle.js_model.specs.declared.stream.Message.{Message}
use Rattle.js_model.specs.declared.stream.Stream.{Stream}
use Rattle.js_model.specs.Events.{is_below, all_but_last, purge_list}
use Rattle.js_model.specs.Lists.{Between}
use Rattle.js_model.specs.Streams.{passes_filter, seqs}
use Rattle.stored_stream.specs.Selecting.{is_named, named, selects, selected, next_passing}
use Rattle.stored_stream.specs.declared.selector.Selector.{Selector}
use Rattle.js_model.proofs.Parts.{filter_part, part-length}
use Rattle.stored_stream.proofs.Lists.{and_true}

abbrev Ascending : ℕ → ℕ → List Message → Type 0
Ascending low high ms = Between (λ m. m.seq) low high ms

-- ---- below a sequence

module _ (p b : Message → Bool) where
  both : Message → Bool
  both m = p m && b m

  pub found_both : (m : Message) (ms : List Message) → find p ms ≡ Some m → b m ≡ true → find (λ x. p x && b x) ms ≡ Some m
  found_both m [] h k = absurd cc
  found_both m (x ∷ ms) h k = go (p x) h (λ e. found_both m ms e k)
    where
      go : (c : Bool) → cond c (Some x) (find p ms) ≡ Some m → (find p ms ≡ Some m → find (λ y. p y && b y) ms ≡ Some m) → cond (c && b x) (Some x) (find (λ y. p y && b y) ms) ≡ Some m
      go true e r = let is : x ≡ m = cc in ap (λ c. cond c (Some x) (find (λ y. p y && b y) ms)) (ap b is ∙ k) ∙ ap Some is
      go false e r = r e

  pub none_both : (ms : List Message) → find p ms ≡ None → find (λ x. p x && b x) ms ≡ None
  none_both [] h = refl
  none_both (x ∷ ms) h = go (p x) h (none_both ms)
    where
      go : (c : Bool) → cond c (Some x) (find p ms) ≡ None → (find p ms ≡ None → find (λ y. p y && b y) ms ≡ None) → cond (c && b x) (Some x) (find (λ y. p y && b y) ms) ≡ None
      go true e r = absurd cc
      go false e r = r e

not_below : (below : Option ℕ) (m n : ℕ) → m ≤ n → is_below below m ≡ false → is_below below n ≡ false
not_below None m n l h = absurd cc
not_below (Some limit) m n l h = le-ltb n limit (let q : limit ≤ m = ltb-false m limit h in omega arith)

-- if the first that passes is not below, none that passes is
none_below : (p : Message → Bool) (below : Option ℕ) (low high : ℕ) (m : Message) (ms : List Message) → Ascending low high ms → m.seq ≤ low → is_below below m.seq ≡ false → find (λ x. p x && is_below below x.seq) ms ≡ None
none_below p below low high m [] h l k = refl
none_below p below low high m (x ∷ ms) h l k =
    let q : low ≤ x.seq = h.0 in
    let no : is_below below x.seq ≡ false = not_below below m.seq x.seq (omega arith) k in
    rw no (ap (λ b. cond b (Some x) (find (λ y. p y && is_below below y.seq) ms)) (and_false (p x)) ∙ none_below p below (x.seq + 1) high m ms h.1 (omega arith) k)
  where
    and_false : (b : Bool) → (b && false) ≡ false
    and_false true = refl
    and_false false = refl

first_not_below : (p : Message → Bool) (below : Option ℕ) (low high : ℕ) (m : Message) (ms : List Message) → Ascending low high ms → find p ms ≡ Some m → is_below below m.seq ≡ false → find (λ x. p x && is_below below x.seq) ms ≡ None
first_not_below p below low high m [] h e k = absurd cc
first_not_below p below low high m (x ∷ ms) h e k = go (p x) e (λ f. first_not_below p below (x.seq + 1) high m ms h.1 f k)
  where
    go : (c : Bool) → cond c (Some x) (find p ms) ≡ Some m → (find p ms ≡ Some m → find (λ y. p y && is_below below y.seq) ms ≡ None)
        → cond (c && is_below below x.seq) (Some x) (find (λ y. p y && is_below below y.seq) ms) ≡ None
    go true f r =
        let is : x ≡ m = cc in
        let own : m.seq ≡ x.seq = ap (λ (y : Message). y.seq) (sym is) in
        ap (λ c. cond c (Some x) (find (λ y. p y && is_below below y.seq) ms)) (ap (λ (y : Message). is_below below y.seq) is ∙ k) ∙ none_below p below (x.seq + 1) high m ms h.1 (omega arith) k
    go false f r = r f

and_assoc : (a b c : Bool) → ((a && b) && c) ≡ (a && (b && c))
and_assoc true b c = refl
and_assoc false b c = refl

find_agree : (p q : Message → Bool) → ((m : Message) → p m ≡ q m) → (ms : List Message) → find p ms ≡ find q ms
find_agree p q h [] = refl
find_agree p q h (m ∷ ms) = ap (λ b. cond b (Some m) (find p ms)) (h m) ∙ ap (λ (o : Option Message). cond (q m) (Some m) o) (find_agree p q h ms)

module _ (test : Bytes → Bool) (below : Option ℕ) (ms : List Message) (from : ℕ) where
  selected_from : Message → Bool
  selected_from m = nat_le from m.seq && test m.subject

  named_is : find (λ m. (nat_le from m.seq && test m.subject) && is_below below m.seq) ms ≡ find (λ m. nat_le from m.seq && (test m.subject && is_below below m.seq)) ms
  named_is = find_agree _ _ (λ m. and_assoc (nat_le from m.seq) (test m.subject) (is_below below m.seq)) ms

  found_seq : (o : Option Message) (n : ℕ) → Some n ≡ option_map (λ m. m.seq) o → (m : Message) × (o ≡ Some m) × (m.seq ≡ n)
  found_seq None n h = absurd cc
  found_seq (Some m) n h = (m, refl, cc)

  pub named_found : (n : ℕ) → Some n ≡ next_passing (λ m. test m.subject) ms from → is_below below n ≡ true → Some n ≡ next_passing (λ m. test m.subject && is_below below m.seq) ms from
  named_found n h k =
      let w = found_seq (find (λ m. nat_le from m.seq && test m.subject) ms) n h in
      ap Some (sym w.2) ∙ sym (ap (option_map (λ (m : Message). m.seq)) (sym named_is ∙ found_both _ (λ m. is_below below m.seq) w.0 ms w.1 (ap (is_below below) w.2 ∙ k)))

  pub named_past : (low high n : ℕ) → Ascending low high ms → Some n ≡ next_passing (λ m. test m.subject) ms from → is_below below n ≡ false → None ≡ next_passing (λ m. test m.subject && is_below below m.seq) ms from
  named_past low high n ascends h k =
      let w = found_seq (find (λ m. nat_le from m.seq && test m.subject) ms) n h in
      sym (ap (option_map (λ (m : Message). m.seq)) (sym named_is ∙ first_not_below _ below low high w.0 ms ascends w.1 (ap (is_below below) w.2 ∙ k)))

  none_seq : (o : Option Message) → None ≡ option_map (λ m. m.seq) o → o ≡ None
  none_seq None h = refl
  none_seq (Some m) h = absurd cc

  pub named_none : None ≡ next_passing (λ m. test m.subject) ms from → None ≡ next_passing (λ m. test m.subject && is_below below m.seq) ms from
  named_none h = sym (ap (option_map (λ (m : Message). m.seq)) (sym named_is ∙ none_both _ (λ m. is_below below m.seq) ms (none_seq (find (λ m. nat_le from m.seq && test m.subject) ms) h)))

-- ---- the sequences that go

pub map-take : {X Y : Type 0} (f : X → Y) (n : ℕ) (xs : List X) → map f (take n xs) ≡ take n (map f xs)
map-take f zero xs = refl
map-take f (suc n) [] = refl
map-take {Y = Y} f (suc n) (x ∷ xs) = ap (λ (ys : List Y). f x ∷ ys) (map-take f n xs)

pub take_long : {X : Type 0} (n : ℕ) (xs : List X) → length xs ≤ n → take n xs ≡ xs
take_long zero [] h = refl
take_long (suc n) [] h = refl
take_long zero (x ∷ xs) h = absurd (omega arith)
take_long {X} (suc n) (x ∷ xs) h = ap (λ (ys : List X). x ∷ ys) (take_long n xs (omega arith))

module _ (s : Stream) (pattern : Bytes) (below : Option ℕ) (selector : Selector) (selected : (subject : Bytes) → selects selector subject ≡ passes_filter pattern subject) where
  named_list : named selector below s.messages ≡ purge_list s pattern below None
  named_list = filter_agree (is_named selector below) (λ m. passes_filter pattern m.subject && is_below below m.seq) (λ m. ap (λ b. b && is_below below m.seq) (selected m.subject)) s.messages

  -- the first of them, as many as are not kept
  pub purged : (keep : Option ℕ) (count : ℕ) → take count (named selector below s.messages) ≡ all_but_last keep (named selector below s.messages) → take count (seqs (named selector below s.messages)) ≡ seqs (purge_list s pattern below keep)
  purged keep count h =
      sym (map-take (λ (m : Message). m.seq) count (named selector below s.messages)) ∙ ap seqs (h ∙ ap (all_but_last keep) named_list)

pub named_few : (selector : Selector) (below : Option ℕ) (ms : List Message) → length ms < 2 ^ 32 → length (named selector below ms) < 2 ^ 32
named_few selector below ms h = omega (arith, part-length (filter_part (is_named selector below) ms), h)

pub take_all : (selector : Selector) (below : Option ℕ) (most : ℕ) (ms : List Message) → length ms < 2 ^ 32 → 2 ^ 32 ≤ most → take most (named selector below ms) ≡ named selector below ms
take_all selector below most ms h l = take_long most (named selector below ms) (omega (arith, named_few selector below ms h))

pub count_all : (selector : Selector) (below : Option ℕ) (most : ℕ) (ms : List Message) → length ms < 2 ^ 32 → 2 ^ 32 ≤ most → length (take most (seqs (named selector below ms))) ≡ length (named selector below ms)
count_all selector below most ms h l =
    ap length (sym (map-take (λ (m : Message). m.seq) most (named selector below ms)) ∙ ap seqs (take_all selector below most ms h l)) ∙ length-map (named selector below ms) (λ (m : Message). m.seq)

-- without a limit, all that are selected
pub named_selected : (selector : Selector) (below : Option ℕ) (ms : List Message) → is_some below ≡ false → length (named selector below ms) ≡ length (selected selector ms)
named_selected selector None ms h = ap length (filter_agree (is_named selector None) (λ m. selects selector m.subject) (λ m. sym (and_true (selects selector m.subject))) ms)
named_selected selector (Some n) ms h = absurd cc
