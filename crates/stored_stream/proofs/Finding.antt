-- What is found among messages in the order of their sequences.
use Rattle.std.proofs.Common.{◌≡◌, ℕ, ◌+◌, ◌<◌, ◌≤◌, ◌==◌, ◌&&◌, ◌⊎◌, inl, inr, Bool, true, false, cond, not, List, [], ◌∷◌, Option, Some, None, length, refl, sym, ap, subst, ◌∙◌, arith, Bor}
use Rattle.std.specs.Prelude.{All, IfSome, IsUtf8, count_by, filter, find, option_map, is_some, nat_le, unwrap_or}
use Rattle.std.specs.List.{last_or}
use Rattle.std.specs.Option.{option_copied}
use Rattle.std.proofs.lemmas.Str.{IsUtf8-from_is_utf8}
use Rattle.std.proofs.lemmas.Bool.{eq-eqb, leb-true, leb-false, ne_eqb}
use Rattle.std.proofs.lemmas.List.{length-map}
use Rattle.std.proofs.lemmas.List.Sums.{length-filter}
use Rattle.js_base.specs.Bytes.{Bytes, same}
use Rattle.js_model.specs.declared.stream.Message.{Message}
use Rattle.js_model.specs.declared.stream.Stream.{Stream}
use Rattle.js_model.specs.Counts.{first_message}
use Rattle.js_model.specs.Events.{message_at}
use Rattle.js_model.specs.Lists.{Between}
use Rattle.js_model.specs.Streams.{seqs}
use Rattle.js_model.specs.Verdict.{last_on}
use Rattle.js_model.proofs.Members.{IsIn, here, there, in_cons, in_filter, in_bounds, all_in, found_in}
use Rattle.js_model.proofs.Named.{none_some, some_is}
use Rattle.stream_view.specs.declared.counts.Counts.{Counts}
use Rattle.stream_view.specs.Counting.{counts_of, last_from, seqs_on}
use Rattle.stored_stream.specs.Selecting.{next_passing}
use Rattle.stored_stream.specs.Stored.{IsSound, IsText}

abbrev Ascending : ℕ → ℕ → List Message → Type 0
Ascending low high ms = Between (λ m. m.seq) low high ms

-- a sequence below the first is not there
pub apart : (n low high : ℕ) (ms : List Message) → n < low → Ascending low high ms → filter (λ m. not (m.seq == n)) ms ≡ ms
apart n low high [] l h = refl
apart n low high (m ∷ ms) l h =
    let q : low ≤ m.seq = h.0 in
    rw (ne_eqb m.seq n (omega arith)) (ap (λ (xs : List Message). m ∷ xs) (apart n (m.seq + 1) high ms (omega arith) h.1))

pub without_first : (low high : ℕ) (m : Message) (ms : List Message) → Ascending low high (m ∷ ms) → filter (λ x. not (x.seq == m.seq)) (m ∷ ms) ≡ ms
without_first low high m ms h = rw (eq-eqb m.seq m.seq refl) (apart m.seq (m.seq + 1) high ms (omega arith) h.1)

pub first_found : (s : Stream) (m : Message) → first_message s.messages ≡ Some m → message_at s m.seq ≡ Some m
first_found s m e = go s.messages e
  where
    go : (ms : List Message) → first_message ms ≡ Some m → find (λ x. x.seq == m.seq) ms ≡ Some m
    go [] k = absurd cc
    go (x ∷ ms) k = let is : x ≡ m = cc in ap (λ b. cond b (Some x) (find (λ y. y.seq == m.seq) ms)) (eq-eqb x.seq m.seq (ap (λ (y : Message). y.seq) is)) ∙ ap Some is

-- a message that is there is found by its sequence
pub member_found : (low high : ℕ) (m : Message) (ms : List Message) → Ascending low high ms → IsIn m ms → find (λ x. x.seq == m.seq) ms ≡ Some m
member_found low high m [] h k = elim k [ ]
member_found low high m (x ∷ ms) h here = ap (λ b. cond b (Some m) (find (λ y. y.seq == m.seq) ms)) (eq-eqb m.seq m.seq refl)
member_found low high m (x ∷ ms) h (there k) =
    let later : x.seq + 1 ≤ m.seq = (in_bounds (λ (y : Message). y.seq) (x.seq + 1) high m ms h.1 k).0 in
    ap (λ b. cond b (Some x) (find (λ y. y.seq == m.seq) ms)) (ne_eqb x.seq m.seq (omega arith)) ∙ member_found (x.seq + 1) high m ms h.1 k

-- a message that goes was one of them
pub fewer : (n : ℕ) (ms : List Message) → is_some (find (λ m. m.seq == n) ms) ≡ true → length (filter (λ m. not (m.seq == n)) ms) < length ms
fewer n [] h = absurd cc
fewer n (m ∷ ms) h = go (m.seq == n) (fewer n ms) h
  where
    at_most : (xs : List Message) → length (filter (λ x. not (x.seq == n)) xs) ≤ length xs
    at_most [] = omega arith
    at_most (x ∷ xs) = step (x.seq == n) (at_most xs)
      where
        step : (b : Bool) → length (filter (λ y. not (y.seq == n)) xs) ≤ length xs → length (cond (not b) (x ∷ filter (λ y. not (y.seq == n)) xs) (filter (λ y. not (y.seq == n)) xs)) ≤ length (x ∷ xs)
        step true k = omega arith
        step false k = omega arith

    go : (b : Bool) → (is_some (find (λ x. x.seq == n) ms) ≡ true → length (filter (λ x. not (x.seq == n)) ms) < length ms) → is_some (cond b (Some m) (find (λ x. x.seq == n) ms)) ≡ true
        → length (cond (not b) (m ∷ filter (λ x. not (x.seq == n)) ms) (filter (λ x. not (x.seq == n)) ms)) < length (m ∷ ms)
    go true r k = let q : length (filter (λ x. not (x.seq == n)) ms) ≤ length ms = at_most ms in omega arith
    go false r k = let q : length (filter (λ x. not (x.seq == n)) ms) < length ms = r k in omega arith

-- ---- the last message of a subject

last_seq : (m : Message) (ms : List Message) → (x : Message) × (last_or (Some m) ms ≡ Some x) × (last_from m.seq (seqs ms) ≡ x.seq) × IsIn x (m ∷ ms)
last_seq m [] = (m, refl, refl, here)
last_seq m (x ∷ ms) = let w = last_seq x ms in (w.0, w.1, w.2, there w.3)

-- what is counted of a subject tells its last message
pub last_counted : (s : Stream) (subject : Bytes) (c : Counts) → IsSound s → counts_of (seqs_on s subject) ≡ Some c → message_at s c.last ≡ last_on s subject
last_counted s subject c sound e = go (filter (λ m. same m.subject subject) s.messages) refl e
  where
    go : (ms : List Message) → filter (λ m. same m.subject subject) s.messages ≡ ms → counts_of (seqs ms) ≡ Some c → message_at s c.last ≡ last_or None ms
    go [] k f = absurd cc
    go (m ∷ ms) k f =
        let w = last_seq m ms in
        let is : last_from m.seq (seqs ms) ≡ c.last = ap (λ (o : Option Counts). unwrap_or (option_map (λ (x : Counts). x.last) o) 0) f in
        let member : IsIn w.0 (filter (λ x. same x.subject subject) s.messages) = subst (λ (xs : List Message). IsIn w.0 xs) (sym k) w.3 in
        let found = member_found 1 (s.last + 1) w.0 s.messages sound.ascends (in_filter (λ x. same x.subject subject) w.0 s.messages member).0 in
        ap (λ n. find (λ x. x.seq == n) s.messages) (sym is ∙ w.2) ∙ found ∙ sym w.1

pub none_counted : (s : Stream) (subject : Bytes) → counts_of (seqs_on s subject) ≡ None → last_on s subject ≡ None
none_counted s subject e = go (filter (λ m. same m.subject subject) s.messages) e
  where
    go : (ms : List Message) → counts_of (seqs ms) ≡ None → last_or None ms ≡ None
    go [] k = refl
    go (m ∷ ms) k = absurd cc

-- ---- the first message of a subject

find_first : (p : Message → Bool) (ms rest : List Message) (m : Message) → filter p ms ≡ m ∷ rest → find p ms ≡ Some m
find_first p [] rest m h = absurd cc
find_first p (x ∷ ms) rest m h = go (p x) h (find_first p ms rest m)
  where
    go : (b : Bool) → cond b (x ∷ filter p ms) (filter p ms) ≡ m ∷ rest → (filter p ms ≡ m ∷ rest → find p ms ≡ Some m) → cond b (Some x) (find p ms) ≡ Some m
    go true e r = let is : x ≡ m = cc in ap Some is
    go false e r = r e

find_nothing : (p : Message → Bool) (ms : List Message) → filter p ms ≡ [] → find p ms ≡ None
find_nothing p [] h = refl
find_nothing p (x ∷ ms) h = go (p x) h (find_nothing p ms)
  where
    go : (b : Bool) → cond b (x ∷ filter p ms) (filter p ms) ≡ [] → (filter p ms ≡ [] → find p ms ≡ None) → cond b (Some x) (find p ms) ≡ None
    go true e r = absurd cc
    go false e r = r e

pub record IsCounted (s : Stream) (subject : Bytes) (c : Counts) : Type 0 where
  pub count : count_by (λ m. same m.subject subject) s.messages ≡ c.count
  pub first : message_at s c.first ≡ find (λ m. same m.subject subject) s.messages

pub first_counted : (s : Stream) (subject : Bytes) (c : Counts) → IsSound s → counts_of (seqs_on s subject) ≡ Some c → IsCounted s subject c
first_counted s subject c sound e = go (filter (λ m. same m.subject subject) s.messages) refl e
  where
    go : (ms : List Message) → filter (λ m. same m.subject subject) s.messages ≡ ms → counts_of (seqs ms) ≡ Some c → IsCounted s subject c
    go [] k f = absurd cc
    go (m ∷ ms) k f =
        let number : length (seqs (m ∷ ms)) ≡ c.count = ap (λ (o : Option Counts). unwrap_or (option_map (λ (x : Counts). x.count) o) 0) f in
        let is : m.seq ≡ c.first = ap (λ (o : Option Counts). unwrap_or (option_map (λ (x : Counts). x.first) o) 0) f in
        let member : IsIn m (filter (λ x. same x.subject subject) s.messages) = subst (λ (xs : List Message). IsIn m xs) (sym k) here in
        let found = member_found 1 (s.last + 1) m s.messages sound.ascends (in_filter (λ x. same x.subject subject) m s.messages member).0 in
        record {
          count = sym (length-filter (λ x. same x.subject subject) s.messages) ∙ ap length k ∙ sym (length-map (m ∷ ms) (λ (x : Message). x.seq)) ∙ number;
          first = ap (λ n. find (λ x. x.seq == n) s.messages) (sym is) ∙ found ∙ sym (find_first (λ x. same x.subject subject) s.messages ms m k);
        }

-- of a subject that is not counted there is none
pub nothing_on : (s : Stream) (subject : Bytes) → counts_of (seqs_on s subject) ≡ None → filter (λ m. same m.subject subject) s.messages ≡ []
nothing_on s subject e = go (filter (λ m. same m.subject subject) s.messages) e
  where
    go : (ms : List Message) → counts_of (seqs ms) ≡ None → ms ≡ []
    go [] k = refl
    go (m ∷ ms) k = absurd cc

pub none_on : (s : Stream) (subject : Bytes) → counts_of (seqs_on s subject) ≡ None → find (λ m. same m.subject subject) s.messages ≡ None
none_on s subject e = find_nothing (λ m. same m.subject subject) s.messages (nothing_on s subject e)

-- ---- what is found has what all have

pub all_found : (P : Message → Type 0) (p : Message → Bool) (m : Message) (ms : List Message) → All P ms → Some m ≡ find p ms → P m
all_found P p m ms all found = all_in P ms all (found_in p m ms (sym found)).0

-- a message that is found has a subject of UTF-8
pub text_found : (o : Option (Bor Message)) (p : Message → Bool) (ms : List Message) → All IsText ms → option_copied o ≡ find p ms → IfSome o (λ x. IsUtf8 x.now.subject)
text_found None p ms all found = tt
text_found (Some m) p ms all found = IsUtf8-from_is_utf8 m.now.subject (all_found IsText p m.now ms all found)

last_member : (o : Option Message) (x : Message) (ms : List Message) → Some x ≡ last_or o ms → (Some x ≡ o) ⊎ IsIn x ms
last_member o x [] h = inl h
last_member o x (m ∷ ms) h = go (last_member (Some m) x ms h)
  where
    go : (Some x ≡ Some m) ⊎ IsIn x ms → (Some x ≡ o) ⊎ IsIn x (m ∷ ms)
    go (inl e) = inr (subst (λ (y : Message). IsIn y (m ∷ ms)) (some_is (sym e)) here)
    go (inr i) = inr (there i)

-- so has the last one
pub all_last : (P : Message → Type 0) (p : Message → Bool) (m : Message) (ms : List Message) → All P ms → Some m ≡ last_or None (filter p ms) → P m
all_last P p m ms all last = go (last_member None m (filter p ms) last)
  where
    go : (Some m ≡ None) ⊎ IsIn m (filter p ms) → P m
    go (inl e) = absurd (none_some (sym e))
    go (inr i) = all_in P ms all (in_filter p m ms i).0

-- ---- sequences of what is found

pub found_within : (s : Stream) (p : Message → Bool) (m : Message) → IsSound s → Some m ≡ find p s.messages → m.seq ≤ s.last
found_within s p m sound e =
    let bound : m.seq < s.last + 1 = (in_bounds (λ (x : Message). x.seq) 1 (s.last + 1) m s.messages sound.ascends (found_in p m s.messages (sym e)).0).1 in
    omega arith

pub found_from : (ms : List Message) (from : ℕ) (m : Message) → Some m ≡ find (λ x. nat_le from x.seq) ms → from ≤ m.seq
found_from ms from m e = leb-true from m.seq (found_in (λ x. nat_le from x.seq) m ms (sym e)).1

pub next_within : (s : Stream) (t : Message → Bool) (from n : ℕ) → IsSound s → Some n ≡ next_passing t s.messages from → n ≤ s.last
next_within s t from n sound e = go (find (λ m. nat_le from m.seq && t m) s.messages) refl e
  where
    go : (o : Option Message) → find (λ m. nat_le from m.seq && t m) s.messages ≡ o → Some n ≡ option_map (λ m. m.seq) o → n ≤ s.last
    go None f k = absurd cc
    go (Some m) f k = let is : n ≡ m.seq = cc in let most : m.seq ≤ s.last = found_within s (λ m. nat_le from m.seq && t m) m sound (sym f) in omega arith

-- ---- before the first that is found

-- a message before the first that passes does not pass
pub fails_before : (p : Message → Bool) (low high : ℕ) (m x : Message) (ms : List Message) → Between (λ y. y.seq) low high ms → find p ms ≡ Some m → IsIn x ms → x.seq < m.seq → p x ≡ false
fails_before p low high m x [] h found k l = elim k [ ]
fails_before p low high m x (y ∷ ms) h found k l = go (p y) refl found (in_cons k) (λ f i. fails_before p (y.seq + 1) high m x ms h.1 f i l)
  where
    go : (b : Bool) → p y ≡ b → cond b (Some y) (find p ms) ≡ Some m → (y ≡ x) ⊎ IsIn x ms → (find p ms ≡ Some m → IsIn x ms → p x ≡ false) → p x ≡ false
    go true e f (inl is) rest = let one : x.seq ≡ m.seq = ap (λ (z : Message). z.seq) (sym is ∙ some_is f) in absurd (omega arith)
    go true e f (inr i) rest =
        let one : y.seq ≡ m.seq = ap (λ (z : Message). z.seq) (some_is f) in
        let after : y.seq + 1 ≤ x.seq = (in_bounds (λ (z : Message). z.seq) (y.seq + 1) high x ms h.1 i).0 in
        absurd (omega arith)
    go false e f (inl is) rest = ap p (sym is) ∙ e
    go false e f (inr i) rest = rest f i

-- if none below a sequence passes, the search may begin there
pub find_from : (t : Message → Bool) (from : ℕ) (ms : List Message) → ((x : Message) → IsIn x ms → x.seq < from → t x ≡ false) → find (λ x. nat_le from x.seq && t x) ms ≡ find t ms
find_from t from [] h = refl
find_from t from (x ∷ ms) h = ap (λ b. cond b (Some x) (find (λ y. nat_le from y.seq && t y) ms)) (head (nat_le from x.seq) refl) ∙ ap (λ (o : Option Message). cond (t x) (Some x) o) (find_from t from ms (λ y i l. h y (there i) l))
  where
    head : (b : Bool) → nat_le from x.seq ≡ b → (b && t x) ≡ t x
    head true e = refl
    head false e = sym (h x here (leb-false from x.seq e))
