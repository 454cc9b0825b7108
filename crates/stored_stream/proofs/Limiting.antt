-- Limits that hold go on holding when messages go, and messages that go one by one leave what the limits keep.
use Rattle.std.proofs.Common.{◌≡◌, ℕ, ◌<◌, ◌≤◌, ◌⊎◌, inl, inr, Bool, true, false, cond, List, [], ◌∷◌, Option, Some, None, length, refl, sym, ap, ◌∙◌, arith, subst}
use Rattle.std.specs.Prelude.{filter, find, nat_lt, count_by, is_some, option_map}
use Rattle.std.specs.Option.{option_or}
use Rattle.std.proofs.lemmas.Bool.{ltb-true, ltb-false, le-ltb, or_parts, or_from}
use Rattle.std.proofs.lemmas.List.Sums.{length-filter}
use Rattle.js_base.specs.Bytes.{Bytes, same}
use Rattle.js_model.specs.declared.stream.Message.{Message}
use Rattle.js_model.specs.declared.stream.Stream.{Stream}
use Rattle.js_model.specs.declared.stream_config.StreamConfig.{StreamConfig}
use Rattle.js_model.specs.Consumers.{empty_stream}
use Rattle.js_model.specs.Counts.{first_message}
use Rattle.js_model.specs.Lists.{IsPart, none, keep, skip}
use Rattle.js_model.specs.Streams.{size, over_limit}
use Rattle.js_model.specs.Trim.{max_messages}
use Rattle.js_model.proofs.Members.{IsIn, here, there, in_cons, in_filter}
use Rattle.js_model.proofs.Named.{same_is}
use Rattle.js_model.proofs.Parts.{part-length, part-sum}
use Rattle.retention.specs.Over.{is_over_on, is_over, over_subject, over_stream, next_over}
use Rattle.stream_view.specs.declared.counts.Counts.{Counts}
use Rattle.stream_view.specs.Counting.{counts_of, seqs_on}
use Rattle.stored_stream.specs.Stored.{IsSound}
use Rattle.stored_stream.proofs.Finding.{first_counted, nothing_on}

-- ---- fewer messages

part_filter : {X : Type 0} (p : X → Bool) {ys xs : List X} → IsPart ys xs → IsPart (filter p ys) (filter p xs)
part_filter p none = none
part_filter p (keep {x = x} {ys = ys} {xs = xs} q) = go (p x) (part_filter p q)
  where
    go : (b : Bool) → IsPart (filter p ys) (filter p xs) → IsPart (cond b (x ∷ filter p ys) (filter p ys)) (cond b (x ∷ filter p xs) (filter p xs))
    go true h = keep h
    go false h = h
part_filter p (skip {x = x} {ys = ys} {xs = xs} q) = go (p x) (part_filter p q)
  where
    go : (b : Bool) → IsPart (filter p ys) (filter p xs) → IsPart (filter p ys) (cond b (x ∷ filter p xs) (filter p xs))
    go true h = skip h
    go false h = h

pub part-count : {X : Type 0} (p : X → Bool) {ys xs : List X} → IsPart ys xs → count_by p ys ≤ count_by p xs
part-count p {ys} {xs} h = rw (← length-filter p ys) (rw (← length-filter p xs) (part-length (part_filter p h)))

over_less : (m n : ℕ) (limit : Option ℕ) → m ≤ n → over_limit n limit ≡ false → over_limit m limit ≡ false
over_less m n None l h = refl
over_less m n (Some most) l h = le-ltb most m (let q : n ≤ most = ltb-false most n h in omega arith)

module _ (s : Stream) {ms : List Message} (part : IsPart ms s.messages) where
  abbrev less : Stream
  less = record s { messages = ms }

  pub over_on_less : (t : Bytes) → is_over_on s t ≡ false → is_over_on less t ≡ false
  over_on_less t h = over_less _ _ s.config.max_msgs_per_subject (part-count (λ m. same m.subject t) part) h

  is_over_less : is_over s ≡ false → is_over less ≡ false
  is_over_less h =
      let parts = or_parts _ _ h in
      or_from _ _ (le-ltb (max_messages s) (length ms) (let q : length s.messages ≤ max_messages s = ltb-false (max_messages s) (length s.messages) parts.0 in let r : length ms ≤ length s.messages = part-length part in omega arith))
      (over_less _ _ s.config.max_bytes (part-sum size part) parts.1)

-- ---- nothing is over

pub none_found : (test : Message → Bool) (ms : List Message) → find test ms ≡ None → (m : Message) → IsIn m ms → test m ≡ false
none_found test [] h m k = elim k [ ]
none_found test (x ∷ ms) h m k = go (test x) refl h (in_cons k) (λ f i. none_found test ms f m i)
  where
    go : (b : Bool) → test x ≡ b → cond b (Some x) (find test ms) ≡ None → (x ≡ m) ⊎ IsIn m ms → (find test ms ≡ None → IsIn m ms → test m ≡ false) → test m ≡ false
    go true e f i rest = absurd cc
    go false e f (inl is) rest = ap test (sym is) ∙ e
    go false e f (inr i) rest = rest f i

find_nothing : (test : Message → Bool) (ms : List Message) → ((m : Message) → IsIn m ms → test m ≡ false) → find test ms ≡ None
find_nothing test [] h = refl
find_nothing test (x ∷ ms) h = ap (λ b. cond b (Some x) (find test ms)) (h x here) ∙ find_nothing test ms (λ m k. h m (there k))

no_subject_over : (s : Stream) → next_over s ≡ None → over_subject s ≡ None
no_subject_over s h = go (over_subject s) h
  where
    go : (o : Option Message) → option_map (λ m. m.seq) (option_or o (over_stream s)) ≡ None → o ≡ None
    go None k = refl
    go (Some m) k = absurd cc

-- a stream without messages is not over
none_over : (s : Stream) → first_message s.messages ≡ None → is_over s ≡ false
none_over s h = go s.messages h
  where
    go : (ms : List Message) → first_message ms ≡ None → is_over (record s { messages = ms }) ≡ false
    go [] k = or_from _ _ (le-ltb (max_messages s) 0 (omega arith)) (bytes s.config.max_bytes)
      where
        bytes : (o : Option ℕ) → over_limit 0 o ≡ false
        bytes None = refl
        bytes (Some n) = le-ltb n 0 (omega arith)
    go (m ∷ ms) k = absurd cc

pub not_over : (s : Stream) → next_over s ≡ None → is_over s ≡ false
not_over s h = go (is_over s) refl
  where
    first : (o : Option Message) → option_map (λ m. m.seq) (option_or (over_subject s) o) ≡ None → o ≡ None
    first None k = refl
    first (Some m) k = absurd (none_some_seq (sym k ∙ ap (λ (p : Option Message). option_map (λ x. x.seq) (option_or p (Some m))) (no_subject_over s h)))
      where
        none_some_seq : {n : ℕ} → None ≡ Some n → ⊥
        none_some_seq e = cc

    go : (b : Bool) → is_over s ≡ b → b ≡ false
    go false e = refl
    go true e = let over : over_stream s ≡ first_message s.messages = ap (λ b. cond b (first_message s.messages) None) e in sym e ∙ none_over s (sym over ∙ first (over_stream s) h)

pub next_none : (s : Stream) → over_subject s ≡ None → is_over s ≡ false → next_over s ≡ None
next_none s h k = ap (λ (o : Option Message). option_map (λ m. m.seq) (option_or o (over_stream s))) h ∙ ap (λ b. option_map (λ m. m.seq) (cond b (first_message s.messages) None)) k

-- an empty stream is not over
pub empty_within : (incarnation : ℕ) (config : StreamConfig) (now : ℕ) → next_over (empty_stream incarnation config now) ≡ None
empty_within incarnation config now = next_none (empty_stream incarnation config now) refl (none_over (empty_stream incarnation config now) refl)

-- if no message is of a subject that is over, no subject is, also one without messages
pub no_subject : (s : Stream) → over_subject s ≡ None → (t : Bytes) → is_over_on s t ≡ false
no_subject s h t = go (is_over_on s t) refl
  where
    go : (b : Bool) → is_over_on s t ≡ b → b ≡ false
    go false e = refl
    go true e = some s.config.max_msgs_per_subject refl e
      where
        some : (o : Option ℕ) → s.config.max_msgs_per_subject ≡ o → over_limit (count_by (λ m. same m.subject t) s.messages) o ≡ true → true ≡ false
        some None f k = absurd cc
        some (Some n) f k = counted (filter (λ m. same m.subject t) s.messages) refl
          where
            many : n < count_by (λ m. same m.subject t) s.messages
            many = ltb-true n (count_by (λ m. same m.subject t) s.messages) k

            counted : (ms : List Message) → filter (λ m. same m.subject t) s.messages ≡ ms → true ≡ false
            counted [] f' = let z : count_by (λ m. same m.subject t) s.messages ≡ 0 = sym (length-filter (λ m. same m.subject t) s.messages) ∙ ap length f' in absurd (omega (arith, many))
            counted (m ∷ ms) f' =
                let member = in_filter (λ x. same x.subject t) m s.messages (subst (λ (xs : List Message). IsIn m xs) (sym f') here) in
                sym e ∙ ap (is_over_on s) (sym (same_is m.subject t member.1)) ∙ none_found (λ x. is_over_on s x.subject) s.messages h m member.0

pub subjects_within : (s : Stream) → next_over s ≡ None → (t : Bytes) → is_over_on s t ≡ false
subjects_within s h = no_subject s (no_subject_over s h)

pub unlimited : (s : Stream) → is_some s.config.max_msgs_per_subject ≡ false → (t : Bytes) → is_over_on s t ≡ false
unlimited s h t = go s.config.max_msgs_per_subject h
  where
    go : (o : Option ℕ) → is_some o ≡ false → over_limit (count_by (λ m. same m.subject t) s.messages) o ≡ false
    go None k = refl
    go (Some n) k = absurd cc

-- a subject of which some are counted is over, or is not
pub counted_over : (s : Stream) (t : Bytes) (n : ℕ) (c : Counts) → IsSound s → s.config.max_msgs_per_subject ≡ Some n → counts_of (seqs_on s t) ≡ Some c → nat_lt n c.count ≡ is_over_on s t
counted_over s t n c sound limit e =
    ap (nat_lt n) (sym (first_counted s t c sound e).count) ∙ sym (ap (over_limit (count_by (λ m. same m.subject t) s.messages)) limit)

pub none_counted_over : (s : Stream) (t : Bytes) → counts_of (seqs_on s t) ≡ None → false ≡ is_over_on s t
none_counted_over s t e = go s.config.max_msgs_per_subject
  where
    none : count_by (λ m. same m.subject t) s.messages ≡ 0
    none = sym (length-filter (λ m. same m.subject t) s.messages) ∙ ap length (nothing_on s t e)

    go : (o : Option ℕ) → false ≡ over_limit (count_by (λ m. same m.subject t) s.messages) o
    go None = refl
    go (Some n) = sym (le-ltb n (count_by (λ m. same m.subject t) s.messages) (omega (arith, none)))

module _ (s : Stream) {ms : List Message} (part : IsPart ms s.messages) where
  pub within_less : next_over s ≡ None → next_over (record s { messages = ms }) ≡ None
  within_less h =
      next_none (record s { messages = ms })
      (find_nothing (λ m. is_over_on (record s { messages = ms }) m.subject) ms (λ m k. over_on_less s part m.subject (subjects_within s h m.subject)))
      (is_over_less s part (not_over s h))
