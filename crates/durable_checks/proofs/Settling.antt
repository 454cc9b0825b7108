-- The limits and the retention of a stream drop nothing where each of them is kept.
use Rattle.std.proofs.Common.{◌≡◌, ℕ, ◌≤◌, ◌^◌, ◌-◌, ◌&&◌, Bool, true, false, cond, List, [], ◌∷◌, map, length, drop, min, Option, Some, None, refl, sym, ap, ◌∙◌, arith, nat_le, nat_lt, length-drop}
use Rattle.std.specs.Prelude.{All, filter, unwrap_or, count_by, sum_by}
use Rattle.std.specs.List.{list_all}
use Rattle.std.proofs.lemmas.Bool.{and_parts, and_from, leb-true, le-leb}
use Rattle.std.proofs.lemmas.List.Elements.{All-head, All-tail}
use Rattle.js_base.specs.Bytes.{same, has, last_of}
use Rattle.js_model.specs.declared.stream.Message.{Message}
use Rattle.js_model.specs.declared.stream.Stream.{Stream}
use Rattle.js_model.specs.declared.consumer.Pending.{Pending}
use Rattle.js_model.specs.declared.consumer.Consumer.{Consumer}
use Rattle.js_model.specs.Streams.{size, seqs, only, confined}
use Rattle.js_model.specs.Trim.{newest, fitting, newest_at, fitting_at, max_messages, trim_subjects, trim_count, trim_bytes, trim}
use Rattle.js_model.specs.Retention.{is_kept, kept}
use Rattle.js_model.specs.Events.{settled}
use Rattle.js_model.proofs.Parts.{newest_part, newest_at_part, fitting_at_part, drop_part, filter_part, part-length}
use Rattle.js_model.proofs.Members.{IsIn, here, there}
use Rattle.model_laws.specs.Sound.{AreStored, IsWellStoredConsumer}
use Rattle.effects.proofs.Agreeing.{filter_all}
use Rattle.effects.proofs.Removing.{in_has}
use Rattle.effects.proofs.Falling.{part_full}
use Rattle.durable_checks.specs.Limits.{are_newest, are_newest_at, is_within_limit, are_within}

-- ---- one limit

newest_whole : (n : ℕ) (ms : List Message) → are_newest n ms ≡ true → newest n ms ≡ ms
newest_whole n [] h = refl
newest_whole n (m ∷ later) h =
    let p = and_parts (nat_lt (count_by (λ x. same x.subject m.subject) later) n) (are_newest n later) h in
    ap (λ (b : Bool). cond b (m ∷ newest n later) (newest n later)) p.0 ∙ ap (λ (l : List Message). m ∷ l) (newest_whole n later p.1)

whole_newest : (n : ℕ) (ms : List Message) → newest n ms ≡ ms → are_newest n ms ≡ true
whole_newest n [] h = refl
whole_newest n (m ∷ later) h = go (nat_lt (count_by (λ x. same x.subject m.subject) later) n) (λ e. whole_newest n later e) h
  where
    go : (b : Bool) → (newest n later ≡ later → are_newest n later ≡ true) → cond b (m ∷ newest n later) (newest n later) ≡ m ∷ later → (b && are_newest n later) ≡ true
    go true rest e = rest (ap (drop 1) e)
    go false rest e =
        let short : length (newest n later) ≤ length later = part-length (newest_part n later) in
        let long : length (newest n later) ≡ length (m ∷ later) = ap (λ (l : List Message). length l) e in
        absurd (omega (arith, short, long))

newest_at_whole : (o : Option ℕ) (ms : List Message) → are_newest_at o ms ≡ true → newest_at o ms ≡ ms
newest_at_whole None ms h = refl
newest_at_whole (Some n) ms h = newest_whole n ms h

whole_newest_at : (o : Option ℕ) (ms : List Message) → newest_at o ms ≡ ms → are_newest_at o ms ≡ true
whole_newest_at None ms h = refl
whole_newest_at (Some n) ms h = whole_newest n ms h

fitting_whole : (n : ℕ) (ms : List Message) → nat_le (sum_by size ms) n ≡ true → fitting n ms ≡ ms
fitting_whole n [] h = refl
fitting_whole n (m ∷ later) h = ap (λ (b : Bool). cond b (m ∷ later) (fitting n later)) h

whole_fitting : (n : ℕ) (ms : List Message) → fitting_at (Some n) ms ≡ ms → nat_le (sum_by size ms) n ≡ true
whole_fitting n [] h = le-leb 0 n (omega arith)
whole_fitting n (m ∷ later) h = go (nat_le (sum_by size (m ∷ later)) n) h
  where
    go : (b : Bool) → cond b (m ∷ later) (fitting n later) ≡ m ∷ later → b ≡ true
    go true e = refl
    go false e =
        let short : length (fitting n later) ≤ length later = part-length (fitting_at_part (Some n) later) in
        let long : length (fitting n later) ≡ length (m ∷ later) = ap (λ (l : List Message). length l) e in
        absurd (omega (arith, short, long))

fitting_at_whole : (o : Option ℕ) (ms : List Message) → is_within_limit (sum_by size ms) o ≡ true → fitting_at o ms ≡ ms
fitting_at_whole None ms h = refl
fitting_at_whole (Some n) ms h = fitting_whole n ms h

whole_fitting_at : (o : Option ℕ) (ms : List Message) → fitting_at o ms ≡ ms → is_within_limit (sum_by size ms) o ≡ true
whole_fitting_at None ms h = refl
whole_fitting_at (Some n) ms h = whole_fitting n ms h

-- of not more than any stream may have
last_whole : (o : Option ℕ) (ms : List Message) → length ms ≤ 2 ^ 24 → is_within_limit (length ms) o ≡ true → last_of (min (unwrap_or o (2 ^ 24)) (2 ^ 24)) ms ≡ ms
last_whole None ms few h = ap (λ (k : ℕ). drop k ms) (let f : length ms ≤ 2 ^ 24 = few in let e : length ms - min (2 ^ 24) (2 ^ 24) ≡ 0 = omega (arith, f) in e)
last_whole (Some n) ms few h = let m : length ms ≤ n = leb-true (length ms) n h in ap (λ (k : ℕ). drop k ms) (let e : length ms - min n (2 ^ 24) ≡ 0 = omega (arith, few, m) in e)

whole_last : (o : Option ℕ) (ms : List Message) → last_of (min (unwrap_or o (2 ^ 24)) (2 ^ 24)) ms ≡ ms → is_within_limit (length ms) o ≡ true
whole_last None ms h = refl
whole_last (Some n) ms h =
    let same_length : length (drop (length ms - min n (2 ^ 24)) ms) ≡ length ms = ap (λ (l : List Message). length l) h in
    let left : length (drop (length ms - min n (2 ^ 24)) ms) ≡ length ms - (length ms - min n (2 ^ 24)) = length-drop (length ms - min n (2 ^ 24)) ms in
    le-leb (length ms) n (omega (arith, same_length, left))

-- ---- a test that all pass keeps all

filter_whole : (t : Message → Bool) (ms : List Message) → list_all t ms ≡ true → filter t ms ≡ ms
filter_whole t [] h = refl
filter_whole t (m ∷ later) h =
    let p = and_parts (t m) (list_all t later) h in
    ap (λ (b : Bool). cond b (m ∷ filter t later) (filter t later)) p.0 ∙ ap (λ (l : List Message). m ∷ l) (filter_whole t later p.1)

whole_filter : (t : Message → Bool) (ms : List Message) → filter t ms ≡ ms → list_all t ms ≡ true
whole_filter t [] h = refl
whole_filter t (m ∷ later) h = go (t m) (λ e. whole_filter t later e) h
  where
    go : (b : Bool) → (filter t later ≡ later → list_all t later ≡ true) → cond b (m ∷ filter t later) (filter t later) ≡ m ∷ later → (b && list_all t later) ≡ true
    go true rest e = rest (ap (drop 1) e)
    go false rest e =
        let short : length (filter t later) ≤ length later = part-length (filter_part t later) in
        let long : length (filter t later) ≡ length (m ∷ later) = ap (λ (l : List Message). length l) e in
        absurd (omega (arith, short, long))

-- ---- a stream confined to its own messages

confined_whole : (ms : List Message) (last : ℕ) (c : Consumer) → IsWellStoredConsumer ms last c → confined (seqs ms) c ≡ c
confined_whole ms last c k =
    ap (λ (l : List ℕ). record c { picks = l; pending = filter (λ p. has (seqs ms) p.seq) c.pending; given_up = filter (has (seqs ms)) c.given_up }) (own c.picks k.picks_stored)
    ∙ ap (λ (l : List Pending). record c { pending = l; given_up = filter (has (seqs ms)) c.given_up }) (entries c.pending k.pending_stored)
    ∙ ap (λ (l : List ℕ). record c { given_up = l }) (own c.given_up k.given_up_stored)
  where
    own : (ns : List ℕ) → AreStored ms ns → filter (has (seqs ms)) ns ≡ ns
    own ns h = filter_all (has (seqs ms)) ns (λ n i. h.stored n (in_has n ns i))

    in_entries : (ps : List Pending) (p : Pending) → IsIn p ps → has (map (λ q. q.seq) ps) p.seq ≡ true
    in_entries ps p i = in_has p.seq (map (λ q. q.seq) ps) (mapped ps p i)
      where
        mapped : (ps : List Pending) (p : Pending) → IsIn p ps → IsIn p.seq (map (λ q. q.seq) ps)
        mapped [] p i = elim i [ ]
        mapped (q ∷ ps) p here = here
        mapped (q ∷ ps) p (there i) = there (mapped ps p i)

    entries : (ps : List Pending) → AreStored ms (map (λ q. q.seq) ps) → filter (λ p. has (seqs ms) p.seq) ps ≡ ps
    entries ps h = filter_all (λ p. has (seqs ms) p.seq) ps (λ p i. h.stored p.seq (in_entries ps p i))

all_confined : (ms : List Message) (last : ℕ) (cs : List Consumer) → All (IsWellStoredConsumer ms last) cs → map (confined (seqs ms)) cs ≡ cs
all_confined ms last [] h = refl
all_confined ms last (c ∷ cs) h =
    ap (λ (d : Consumer). d ∷ map (confined (seqs ms)) cs) (confined_whole ms last c (All-head (IsWellStoredConsumer ms last) c cs h))
    ∙ ap (λ (l : List Consumer). c ∷ l) (all_confined ms last cs (All-tail (IsWellStoredConsumer ms last) c cs h))

only_own : (s : Stream) → All (IsWellStoredConsumer s.messages s.last) s.consumers → only s s.messages ≡ s
only_own s h = ap (λ (cs : List Consumer). record s { consumers = cs }) (all_confined s.messages s.last s.consumers h)

-- ---- all of them

module _ (s : Stream) (stored : All (IsWellStoredConsumer s.messages s.last) s.consumers) (few : length s.messages ≤ 2 ^ 24) where
  own : only s s.messages ≡ s
  own = only_own s stored

  -- to the same messages
  only_same : (ms : List Message) → ms ≡ s.messages → only s ms ≡ s
  only_same ms e = ap (only s) e ∙ own

  abbrev is_retained : Message → Bool
  is_retained = is_kept s.config.retention s.consumers

  pub within_settled : are_within s.config s.messages ≡ true → list_all (is_kept s.config.retention s.consumers) s.messages ≡ true → settled s ≡ s
  unfolding trim kept
  within_settled h retained =
      let outer = and_parts (are_newest_at s.config.max_msgs_per_subject s.messages && is_within_limit (length s.messages) s.config.max_msgs) (is_within_limit (sum_by size s.messages) s.config.max_bytes) h in
      let inner = and_parts (are_newest_at s.config.max_msgs_per_subject s.messages) (is_within_limit (length s.messages) s.config.max_msgs) outer.0 in
      let subjects : trim_subjects s ≡ s = only_same (newest_at s.config.max_msgs_per_subject s.messages) (newest_at_whole s.config.max_msgs_per_subject s.messages inner.0) in
      let count : trim_count s ≡ s = only_same (last_of (max_messages s) s.messages) (last_whole s.config.max_msgs s.messages few inner.1) in
      let bytes : trim_bytes s ≡ s = only_same (fitting_at s.config.max_bytes s.messages) (fitting_at_whole s.config.max_bytes s.messages outer.1) in
      let trimmed : trim s ≡ s = ap (λ (t : Stream). trim_bytes (trim_count t)) subjects ∙ ap trim_bytes count ∙ bytes in
      ap kept trimmed ∙ only_same (filter is_retained s.messages) (filter_whole is_retained s.messages retained)

  -- the stages of a settled stream, each a part of the one before
  module _ (h : settled s ≡ s) where
    abbrev one : Stream
    one = trim_subjects s

    abbrev two : Stream
    two = trim_count one

    abbrev three : Stream
    three = trim_bytes two

    end_length : length (kept three).messages ≡ length s.messages
    unfolding trim
    end_length = ap (λ (t : Stream). length t.messages) h

    one_length : length one.messages ≤ length s.messages
    one_length = part-length (newest_at_part s.config.max_msgs_per_subject s.messages)

    two_length : length two.messages ≤ length one.messages
    two_length = part-length (drop_part (length one.messages - max_messages one) one.messages)

    three_length : length three.messages ≤ length two.messages
    three_length = part-length (fitting_at_part s.config.max_bytes two.messages)

    four_length : length (kept three).messages ≤ length three.messages
    unfolding kept
    four_length = part-length (filter_part (is_kept three.config.retention three.consumers) three.messages)

    one_is : one ≡ s
    one_is = only_same one.messages (part_full (newest_at_part s.config.max_msgs_per_subject s.messages) (omega (arith, end_length, one_length, two_length, three_length, four_length)))

    two_messages : two.messages ≡ one.messages
    two_messages = part_full (drop_part (length one.messages - max_messages one) one.messages) (omega (arith, end_length, one_length, two_length, three_length, four_length))

    three_messages : three.messages ≡ two.messages
    three_messages = part_full (fitting_at_part s.config.max_bytes two.messages) (omega (arith, end_length, one_length, two_length, three_length, four_length))

    two_is : two ≡ s
    two_is = ap trim_count one_is ∙ only_same (last_of (max_messages s) s.messages) (ap (λ (t : Stream). (trim_count t).messages) (sym one_is) ∙ two_messages ∙ ap (λ (t : Stream). t.messages) one_is)

    three_is : three ≡ s
    three_is = ap trim_bytes two_is ∙ only_same (fitting_at s.config.max_bytes s.messages) (ap (λ (t : Stream). (trim_bytes t).messages) (sym two_is) ∙ three_messages ∙ ap (λ (t : Stream). t.messages) two_is)

    four_messages : (kept three).messages ≡ three.messages
    unfolding kept
    four_messages = part_full (filter_part (is_kept three.config.retention three.consumers) three.messages) (omega (arith, end_length, one_length, two_length, three_length, four_length))

    pub settled_retained : list_all (is_kept s.config.retention s.consumers) s.messages ≡ true
    unfolding kept
    settled_retained = whole_filter is_retained s.messages (ap (λ (t : Stream). (kept t).messages) (sym three_is) ∙ four_messages ∙ ap (λ (t : Stream). t.messages) three_is)

    newest_messages : newest_at s.config.max_msgs_per_subject s.messages ≡ s.messages
    newest_messages = ap (λ (t : Stream). t.messages) one_is

    last_messages : last_of (max_messages s) s.messages ≡ s.messages
    last_messages = ap (λ (t : Stream). (trim_count t).messages) (sym one_is) ∙ two_messages ∙ ap (λ (t : Stream). t.messages) one_is

    fitting_messages : fitting_at s.config.max_bytes s.messages ≡ s.messages
    fitting_messages = ap (λ (t : Stream). (trim_bytes t).messages) (sym two_is) ∙ three_messages ∙ ap (λ (t : Stream). t.messages) two_is

    pub settled_within : are_within s.config s.messages ≡ true
    settled_within =
        and_from (are_newest_at s.config.max_msgs_per_subject s.messages && is_within_limit (length s.messages) s.config.max_msgs) (is_within_limit (sum_by size s.messages) s.config.max_bytes)
        (and_from (are_newest_at s.config.max_msgs_per_subject s.messages) (is_within_limit (length s.messages) s.config.max_msgs) (whole_newest_at s.config.max_msgs_per_subject s.messages newest_messages) (whole_last s.config.max_msgs s.messages last_messages))
        (whole_fitting_at s.config.max_bytes s.messages fitting_messages)
