-- What the functions find as they look at a stream.
use Rattle.std.proofs.Common.{◌≡◌, ℕ, ◌+◌, ◌<◌, ◌≤◌, Bool, true, false, cond, List, [], ◌∷◌, Option, Some, None, length, refl, sym, ap, ◌∙◌, subst, arith}
use Rattle.std.specs.Prelude.{nat_lt, nat_le, filter, find, count_by, option_map, is_some}
use Rattle.std.specs.List.{AllByRecursion}
use Rattle.std.proofs.lemmas.Bool.{true≢false, le-leb, lt-leb, leb-true, lt-ltb, le-ltb}
use borrow.Author.Tests.{ltb-true}
use Rattle.std.proofs.lemmas.List.Sums.{length-filter}
use Rattle.std.proofs.lemmas.List.{length-map}
use Rattle.js_base.specs.Bytes.{Bytes, same}
use Rattle.js_base.proofs.Meeting.{same_is}
use Rattle.js_model.specs.declared.stream.Message.{Message}
use Rattle.js_model.specs.declared.stream.Stream.{Stream}
use Rattle.js_model.specs.Streams.{seqs, over_limit}
use Rattle.js_model.proofs.Members.{here, found_in, in_bounds}
use Rattle.js_model.proofs.Named.{none_some, some_is}
use Rattle.stream_view.specs.Heads.{MessageHead, head_of}
use Rattle.stream_view.specs.Order.{IsInOrder}
use Rattle.stream_view.specs.declared.counts.Counts.{Counts}
use Rattle.stream_view.specs.Counting.{counts_of, seqs_on}
use Rattle.retention.specs.Firsts.{first_number}
use Rattle.retention.specs.Over.{is_over_on, over_subject, IsOverOnlyOn}
use Rattle.retention.proofs.Splitting.{Ascending}

-- ---- one subject

length-seqs_on : (s : Stream) (t : Bytes) → length (seqs_on s t) ≡ count_by (λ m. same m.subject t) s.messages
length-seqs_on s t = length-map (filter (λ m. same m.subject t) s.messages) (λ m. m.seq) ∙ length-filter (λ m. same m.subject t) s.messages

counted : (ns : List ℕ) (counts : Counts) → Some counts ≡ counts_of ns → (counts.count ≡ length ns) × (Some counts.first ≡ first_number ns)
counted [] counts e = absurd (none_some (sym e))
counted (n ∷ ns) counts e = (ap (λ c. c.count) (some_is e), ap (λ c. Some c.first) (some_is e))

module _ (s : Stream) (t : Bytes) (limit : ℕ) (counts : Counts) (limited : s.config.max_msgs_per_subject ≡ Some limit) (is : Some counts ≡ counts_of (seqs_on s t)) where
  over_by_count : is_over_on s t ≡ nat_lt limit counts.count
  over_by_count = ap (over_limit (count_by (λ m. same m.subject t) s.messages)) limited ∙ ap (nat_lt limit) (sym (length-seqs_on s t) ∙ sym (counted (seqs_on s t) counts is).0)

  pub first_if_over : limit < counts.count → Some counts.first ≡ cond (is_over_on s t) (first_number (seqs_on s t)) None
  first_if_over l =
      (counted (seqs_on s t) counts is).1
      ∙ sym (ap (λ b. cond b (first_number (seqs_on s t)) None) (over_by_count ∙ lt-ltb limit counts.count l))

  pub none_if_within : counts.count ≤ limit → None ≡ cond (is_over_on s t) (first_number (seqs_on s t)) None
  none_if_within l = sym (ap (λ b. cond b (first_number (seqs_on s t)) None) (over_by_count ∙ le-ltb limit counts.count l))

-- ---- if only one subject may have too many

same_either : (b : Bool) (o : Option ℕ) → o ≡ cond b o o
same_either true o = refl
same_either false o = refl

module _ (s : Stream) (t : Bytes) (only_on : IsOverOnlyOn s t) where
  test_is : (m : Message) (own : Bool) → same m.subject t ≡ own → is_over_on s m.subject ≡ cond own (is_over_on s t) false
  test_is m true e = ap (is_over_on s) (same_is m.subject t e)
  test_is m false e = only_on.others m.subject e

  first_over : (ms : List Message) → option_map (λ m. m.seq) (find (λ m. is_over_on s m.subject) ms) ≡ cond (is_over_on s t) (first_number (seqs (filter (λ m. same m.subject t) ms))) None
  first_over [] = same_either (is_over_on s t) None
  first_over (m ∷ ms) = go (first_over ms) (same m.subject t) refl (is_over_on s t) refl
    where
      go : option_map (λ m. m.seq) (find (λ m. is_over_on s m.subject) ms) ≡ cond (is_over_on s t) (first_number (seqs (filter (λ m. same m.subject t) ms))) None → (own : Bool) → same m.subject t ≡ own → (over : Bool) → is_over_on s t ≡ over
          → option_map (λ m. m.seq) (cond (is_over_on s m.subject) (Some m) (find (λ m. is_over_on s m.subject) ms)) ≡ cond (is_over_on s t) (first_number (seqs (cond own (m ∷ filter (λ m. same m.subject t) ms) (filter (λ m. same m.subject t) ms)))) None
      go more true e true f =
          ap (λ b. option_map (λ m. m.seq) (cond b (Some m) (find (λ m. is_over_on s m.subject) ms))) (test_is m true e ∙ f)
          ∙ sym (ap (λ b. cond b (Some m.seq) None) f)
      go more true e false f =
          ap (λ b. option_map (λ m. m.seq) (cond b (Some m) (find (λ m. is_over_on s m.subject) ms))) (test_is m true e ∙ f)
          ∙ more ∙ ap (λ b. cond b (first_number (seqs (filter (λ m. same m.subject t) ms))) None) f
          ∙ sym (ap (λ b. cond b (Some m.seq) None) f)
      go more false e over f = ap (λ b. option_map (λ m. m.seq) (cond b (Some m) (find (λ m. is_over_on s m.subject) ms))) (test_is m false e) ∙ more

  pub over_subject-on : option_map (λ m. m.seq) (over_subject s) ≡ cond (is_over_on s t) (first_number (seqs_on s t)) None
  over_subject-on = first_over s.messages

-- ---- a walk through the messages

-- the messages from a sequence on
abbrev pub all_from : ℕ → List Message → List Message
all_from seq ms = filter (λ m. nat_le seq m.seq) ms

all_above : (seq : ℕ) (ms : List Message) → AllByRecursion (λ m. seq ≤ m.seq) ms → all_from seq ms ≡ ms
all_above seq [] h = refl
all_above seq (m ∷ ms) h = ap (λ b. cond b (m ∷ all_from seq ms) (all_from seq ms)) (le-leb seq m.seq h.0) ∙ ap (λ l. m ∷ l) (all_above seq ms h.1)

at_least : (low high seq : ℕ) (ms : List Message) → Ascending low high ms → seq ≤ low → AllByRecursion (λ m. seq ≤ m.seq) ms
at_least low high seq [] h l = tt
at_least low high seq (m ∷ ms) h l = let q : low ≤ m.seq = h.0 in (omega arith, at_least (m.seq + 1) high seq ms h.1 (omega arith))

-- from below the first on all are there
pub all_from_low : (low high seq : ℕ) (ms : List Message) → Ascending low high ms → seq ≤ low → all_from seq ms ≡ ms
all_from_low low high seq ms h l = all_above seq ms (at_least low high seq ms h l)

-- from above the last on none is
pub all_from_high : (low high seq : ℕ) (ms : List Message) → Ascending low high ms → high ≤ seq → all_from seq ms ≡ []
all_from_high low high seq [] h l = refl
all_from_high low high seq (m ∷ ms) h l =
    let below = in_bounds (λ m. m.seq) low high m (m ∷ ms) h here in
    let q : m.seq < high = below.1 in
    ap (λ b. cond b (m ∷ all_from seq ms) (all_from seq ms)) (lt-leb seq m.seq (omega arith)) ∙ all_from_high (m.seq + 1) high seq ms h.1 l

pub all_from_none : (seq : ℕ) (ms : List Message) → find (λ m. nat_le seq m.seq) ms ≡ None → all_from seq ms ≡ []
all_from_none seq [] e = refl
all_from_none seq (m ∷ ms) e = go (all_from_none seq ms) (nat_le seq m.seq) e
  where
    go : (find (λ m. nat_le seq m.seq) ms ≡ None → all_from seq ms ≡ []) → (b : Bool) → cond b (Some m) (find (λ m. nat_le seq m.seq) ms) ≡ None → cond b (m ∷ all_from seq ms) (all_from seq ms) ≡ []
    go more true f = absurd (none_some (sym f))
    go more false f = more f

-- the first of them, and those after it
pub all_from_some : (low high seq : ℕ) (first : Message) (ms : List Message) → Ascending low high ms → find (λ m. nat_le seq m.seq) ms ≡ Some first → all_from seq ms ≡ first ∷ all_from (first.seq + 1) ms
all_from_some low high seq first [] h e = absurd (none_some e)
all_from_some low high seq first (m ∷ ms) h e = go (all_from_some (m.seq + 1) high seq first ms h.1) (nat_le seq m.seq) refl e
  where
    -- it is the first one
    starts : seq ≤ m.seq → m ∷ all_from seq ms ≡ m ∷ cond (nat_le (m.seq + 1) m.seq) (m ∷ all_from (m.seq + 1) ms) (all_from (m.seq + 1) ms)
    starts l =
        ap (λ l. m ∷ l) (all_from_low (m.seq + 1) high seq ms h.1 (omega arith) ∙ sym (all_from_low (m.seq + 1) high (m.seq + 1) ms h.1 (omega arith)))
        ∙ sym (ap (λ b. m ∷ cond b (m ∷ all_from (m.seq + 1) ms) (all_from (m.seq + 1) ms)) (lt-leb (m.seq + 1) m.seq (omega arith)))

    -- it comes later
    follows : find (λ m. nat_le seq m.seq) ms ≡ Some first → nat_le (first.seq + 1) m.seq ≡ false
    follows f =
        let after = in_bounds (λ m. m.seq) (m.seq + 1) high first ms h.1 (found_in (λ m. nat_le seq m.seq) first ms f).0 in
        let q : m.seq + 1 ≤ first.seq = after.0 in
        lt-leb (first.seq + 1) m.seq (omega arith)

    go : (find (λ m. nat_le seq m.seq) ms ≡ Some first → all_from seq ms ≡ first ∷ all_from (first.seq + 1) ms) → (b : Bool) → nat_le seq m.seq ≡ b → cond b (Some m) (find (λ m. nat_le seq m.seq) ms) ≡ Some first
        → cond b (m ∷ all_from seq ms) (all_from seq ms) ≡ first ∷ cond (nat_le (first.seq + 1) m.seq) (m ∷ all_from (first.seq + 1) ms) (all_from (first.seq + 1) ms)
    go more true l f =
        subst (λ (z : Message). m ∷ all_from seq ms ≡ z ∷ cond (nat_le (z.seq + 1) m.seq) (m ∷ all_from (z.seq + 1) ms) (all_from (z.seq + 1) ms)) (some_is f) (starts (leb-true seq m.seq l))
    go more false l f = more f ∙ sym (ap (λ b. first ∷ cond b (m ∷ all_from (first.seq + 1) ms) (all_from (first.seq + 1) ms)) (follows f))

-- no limit, and so no subject over it
pub none_without_limit : (s : Stream) → is_some s.config.max_msgs_per_subject ≡ false → over_subject s ≡ None
none_without_limit s e = go s.messages
  where
    within : (limit : Option ℕ) → is_some limit ≡ false → (n : ℕ) → over_limit n limit ≡ false
    within None e n = refl
    within (Some limit) e n = absurd (true≢false e)

    go : (ms : List Message) → find (λ m. is_over_on s m.subject) ms ≡ None
    go [] = refl
    go (m ∷ ms) = ap (λ b. cond b (Some m) (find (λ m. is_over_on s m.subject) ms)) (within s.config.max_msgs_per_subject e (count_by (λ x. same x.subject m.subject) s.messages)) ∙ go ms

-- ---- what is asked of a subject

some_first : (ns : List ℕ) → 0 < length ns → is_some (first_number ns) ≡ true
some_first [] l = absurd (omega arith)
some_first (n ∷ ns) l = refl

-- a subject with too many messages has some
over_tells : (s : Stream) (t : Bytes) → is_some (cond (is_over_on s t) (first_number (seqs_on s t)) None) ≡ is_over_on s t
over_tells s t = go s.config.max_msgs_per_subject (is_over_on s t) refl
  where
    more : (limit : Option ℕ) → over_limit (count_by (λ m. same m.subject t) s.messages) limit ≡ true → 0 < length (seqs_on s t)
    more None e = absurd (true≢false (sym e))
    more (Some n) e =
        let l : n < count_by (λ m. same m.subject t) s.messages = ltb-true n (count_by (λ m. same m.subject t) s.messages) e in
        let k : length (seqs_on s t) ≡ count_by (λ m. same m.subject t) s.messages = length-seqs_on s t in
        omega arith

    go : (limit : Option ℕ) (b : Bool) → is_over_on s t ≡ b → is_some (cond b (first_number (seqs_on s t)) None) ≡ b
    go limit true e = some_first (seqs_on s t) (more s.config.max_msgs_per_subject e)
    go limit false e = refl

pub told : (s : Stream) (t u : Bytes) (o : Option ℕ) (b : Bool) → u ≡ t → o ≡ cond (is_over_on s u) (first_number (seqs_on s u)) None → is_some o ≡ b → is_over_on s t ≡ b
told s t u o b e f g = ap (is_over_on s) (sym e) ∙ sym (over_tells s u) ∙ sym (ap is_some f) ∙ g

-- ---- a step of the walk

-- the message that was found is seen so
seen : (found : Option Message) (head : MessageHead) → Some head ≡ option_map head_of found → (m : Message) × (found ≡ Some m) × (head ≡ head_of m)
seen None head e = absurd (none_some (sym e))
seen (Some m) head e = (m, refl, some_is e)

-- the first message of a subject with too many is among those from a sequence on
abbrev pub IsAhead : Stream → ℕ → Type 0
IsAhead s seq = over_subject s ≡ find (λ m. is_over_on s m.subject) (all_from seq s.messages)

pub ahead_at_first : (s : Stream) → IsInOrder s → IsAhead s 0
ahead_at_first s order = sym (ap (find (λ m. is_over_on s m.subject)) (all_from_low 1 (s.last + 1) 0 s.messages order.ascends (omega arith)))

pub none_ahead : (s : Stream) (seq : ℕ) → IsAhead s seq → None ≡ option_map head_of (find (λ m. nat_le seq m.seq) s.messages) → over_subject s ≡ None
none_ahead s seq ahead e = go (find (λ m. nat_le seq m.seq) s.messages) refl e
  where
    go : (o : Option Message) → find (λ m. nat_le seq m.seq) s.messages ≡ o → None ≡ option_map head_of o → over_subject s ≡ None
    go None f k = ahead ∙ ap (find (λ m. is_over_on s m.subject)) (all_from_none seq s.messages f)
    go (Some m) f k = absurd (none_some k)

pub none_past_last : (s : Stream) (seq : ℕ) → IsInOrder s → IsAhead s seq → s.last < seq → over_subject s ≡ None
none_past_last s seq order ahead l = ahead ∙ ap (find (λ m. is_over_on s m.subject)) (all_from_high 1 (s.last + 1) seq s.messages order.ascends (omega arith))

module _ (s : Stream) (order : IsInOrder s) (seq : ℕ) (ahead : IsAhead s seq) (head : MessageHead) (found : Some head ≡ option_map head_of (find (λ m. nat_le seq m.seq) s.messages)) where
  -- the message, and those after it
  step : (b : Bool) → is_over_on s head.subject ≡ b → (m : Message) × (head.seq ≡ m.seq) × (over_subject s ≡ cond b (Some m) (find (λ m. is_over_on s m.subject) (all_from (m.seq + 1) s.messages)))
  step b e =
      let w = seen (find (λ m. nat_le seq m.seq) s.messages) head found in (
        w.0,
        ap (λ h. h.seq) w.2,
        ahead ∙ ap (find (λ m. is_over_on s m.subject)) (all_from_some 1 (s.last + 1) seq w.0 s.messages order.ascends w.1)
            ∙ ap (λ b. cond b (Some w.0) (find (λ m. is_over_on s m.subject) (all_from (w.0.seq + 1) s.messages))) (ap (is_over_on s) (sym (ap (λ h. h.subject) w.2)) ∙ e),
      )

  pub stops : is_over_on s head.subject ≡ true → Some head.seq ≡ option_map (λ m. m.seq) (over_subject s)
  stops e = let w = step true e in ap Some w.1 ∙ sym (ap (option_map (λ m. m.seq)) w.2)

  pub goes_on : is_over_on s head.subject ≡ false → IsAhead s (head.seq + 1)
  goes_on e = let w = step false e in w.2 ∙ ap (λ n. find (λ m. is_over_on s m.subject) (all_from (n + 1) s.messages)) (sym w.1)

  pub within : (seq ≤ head.seq) × (head.seq ≤ s.last)
  within =
      let w = seen (find (λ m. nat_le seq m.seq) s.messages) head found in
      let i = found_in (λ m. nat_le seq m.seq) w.0 s.messages w.1 in
      let b = in_bounds (λ m. m.seq) 1 (s.last + 1) w.0 s.messages order.ascends i.0 in
      let e : head.seq ≡ w.0.seq = ap (λ h. h.seq) w.2 in
      let l : seq ≤ w.0.seq = leb-true seq w.0.seq i.1 in
      let r : w.0.seq < s.last + 1 = b.1 in
      (omega arith, omega arith)
