-- What the limit of each subject keeps of one message more.
use Rattle.std.proofs.Common.{◌≡◌, ℕ, suc, ◌+◌, ◌^◌, ◌-◌, ◌<◌, ◌≤◌, Bool, true, false, cond, List, [], ◌∷◌, ◌++◌, Option, Some, None, length, refl, sym, ap, subst, ◌∙◌, arith, IsTrue}
use Rattle.std.specs.Prelude.{find, nat_le, count_by, sum_by}
use Rattle.std.proofs.lemmas.Bool.{and_parts, ltb-true, ltb-false, leb-true, leb-false, lt-ltb, le-ltb, lt-leb, le-leb}
use Rattle.std.proofs.lemmas.List.{length-append}
use Rattle.std.proofs.lemmas.List.Sums.{sum_by-cons, sum_by_push}
use Rattle.js_base.specs.Bytes.{Bytes, same}
use Rattle.js_base.proofs.Meeting.{same_is, same_self}
use Rattle.js_model.specs.declared.stream_config.StreamConfig.{StreamConfig}
use Rattle.js_model.specs.declared.stream.Message.{Message}
use Rattle.js_model.specs.declared.stream.Stream.{Stream}
use Rattle.js_model.specs.declared.event.Publish.{Publish}
use Rattle.js_model.specs.Configs.{is_limit, is_stream_config}
use Rattle.js_model.specs.Events.{message_at}
use Rattle.js_model.specs.Streams.{size, over_limit}
use Rattle.js_model.specs.Trim.{newest, newest_at}
use Rattle.js_model.specs.Verdict.{message_of, held_after}
use Rattle.retention.specs.Over.{next_over}
use Rattle.stored_stream.specs.PushedOut.{reaches, pushed_out}
use Rattle.stored_stream.specs.Stored.{IsSound}
use Rattle.stream_view.specs.declared.counts.Counts.{Counts}
use Rattle.stored_stream.proofs.Finding.{IsCounted}
use Rattle.stored_stream.proofs.Limiting.{subjects_within}
use Rattle.stored_stream.proofs.Lists.{same_flip}

abbrev on : Bytes → Message → Bool
on t m = same m.subject t

abbrev count : Bytes → List Message → ℕ
count t ms = count_by (on t) ms

-- each subject has at most n messages
abbrev Within : ℕ → List Message → Type 0
Within n ms = (t : Bytes) → count t ms ≤ n

count-cons : (t : Bytes) (m : Message) (ms : List Message) → count t (m ∷ ms) ≡ cond (on t m) 1 0 + count t ms
count-cons t m ms = sum_by-cons (λ x. cond (on t x) 1 0) m ms

count-push : (t : Bytes) (ms : List Message) (m : Message) → count t (ms ++ m ∷ []) ≡ count t ms + cond (on t m) 1 0
count-push t ms m = sum_by_push (λ x. cond (on t x) 1 0) ms m

count_self : (m : Message) (ms : List Message) → count m.subject (m ∷ ms) ≡ 1 + count m.subject ms
count_self m ms = count-cons m.subject m ms ∙ ap (λ b. cond b 1 0 + count m.subject ms) (same_self m.subject)

count_on : (t : Bytes) (m : Message) (ms : List Message) → on t m ≡ true → count t (m ∷ ms) ≡ 1 + count t ms
count_on t m ms e = count-cons t m ms ∙ ap (λ b. cond b 1 0 + count t ms) e

count_off : (t : Bytes) (m : Message) (ms : List Message) → on t m ≡ false → count t (m ∷ ms) ≡ count t ms
count_off t m ms e = let f : count t (m ∷ ms) ≡ 0 + count t ms = count-cons t m ms ∙ ap (λ b. cond b 1 0 + count t ms) e in omega arith

within_later : (n : ℕ) (m : Message) (ms : List Message) → Within n (m ∷ ms) → Within n ms
within_later n m ms h t = go (on t m) refl
  where
    all : count t (m ∷ ms) ≤ n
    all = h t

    go : (b : Bool) → on t m ≡ b → count t ms ≤ n
    go true e = let f : count t (m ∷ ms) ≡ 1 + count t ms = count_on t m ms e in omega arith
    go false e = let f : count t (m ∷ ms) ≡ count t ms = count_off t m ms e in omega arith

-- a message of another subject is followed by fewer than n of its own
stays_apart : (n : ℕ) (p m : Message) (ms : List Message) → Within n (m ∷ ms) → on m.subject p ≡ false → count m.subject (ms ++ p ∷ []) < n
stays_apart n p m ms h e =
    let own : count m.subject (m ∷ ms) ≤ n = h m.subject in
    let f : count m.subject (m ∷ ms) ≡ 1 + count m.subject ms = count_self m ms in
    let g : count m.subject (ms ++ p ∷ []) ≡ count m.subject ms + 0 = count-push m.subject ms p ∙ ap (λ b. count m.subject ms + cond b 1 0) e in
    omega arith

-- so is one of its subject, if that has fewer than n
stays_beside : (n : ℕ) (p m : Message) (ms : List Message) → on m.subject p ≡ true → count p.subject (m ∷ ms) < n → count m.subject (ms ++ p ∷ []) < n
stays_beside n p m ms e room =
    let is : p.subject ≡ m.subject = same_is p.subject m.subject e in
    let own : count p.subject (m ∷ ms) ≡ 1 + count m.subject ms = ap (λ t. count t (m ∷ ms)) is ∙ count_self m ms in
    let g : count m.subject (ms ++ p ∷ []) ≡ count m.subject ms + 1 = count-push m.subject ms p ∙ ap (λ b. count m.subject ms + cond b 1 0) e in
    omega arith

kept_first : (n : ℕ) (m : Message) (ms : List Message) → count m.subject ms < n → newest n (m ∷ ms) ≡ m ∷ newest n ms
kept_first n m ms l = ap (λ b. cond b (m ∷ newest n ms) (newest n ms)) (lt-ltb (count m.subject ms) n l)

dropped_first : (n : ℕ) (m : Message) (ms : List Message) → n ≤ count m.subject ms → newest n (m ∷ ms) ≡ newest n ms
dropped_first n m ms l = ap (λ b. cond b (m ∷ newest n ms) (newest n ms)) (le-ltb (count m.subject ms) n l)

-- a subject with fewer than n messages loses none
held_all : (n : ℕ) (p : Message) (ms : List Message) → Within n ms → count p.subject ms < n → newest n (ms ++ p ∷ []) ≡ ms ++ p ∷ []
held_all n p [] h room = kept_first n p [] room
held_all n p (m ∷ ms) h room = kept_first n m (ms ++ p ∷ []) (stays (on m.subject p) refl) ∙ ap (λ (xs : List Message). m ∷ xs) (held_all n p ms (within_later n m ms h) later)
  where
    stays : (b : Bool) → on m.subject p ≡ b → count m.subject (ms ++ p ∷ []) < n
    stays true e = stays_beside n p m ms e room
    stays false e = stays_apart n p m ms h e

    later : count p.subject ms < n
    later = go (on p.subject m) refl
      where
        go : (b : Bool) → on p.subject m ≡ b → count p.subject ms < n
        go true e = let f : count p.subject (m ∷ ms) ≡ 1 + count p.subject ms = count_on p.subject m ms e in omega arith
        go false e = let f : count p.subject (m ∷ ms) ≡ count p.subject ms = count_off p.subject m ms e in omega arith

-- what is left if a full subject loses its first message
pub record Replaces (n : ℕ) (p : Message) (ms : List Message) : Type 0 where
  pub first : Message
  pub found : find (on p.subject) ms ≡ Some first
  pub number : length (newest n (ms ++ p ∷ [])) ≡ length ms
  pub sizes : sum_by size (newest n (ms ++ p ∷ [])) + size first ≡ sum_by size ms + size p

held_full : (n : ℕ) (p : Message) (ms : List Message) → Within n ms → 0 < n → count p.subject ms ≡ n → Replaces n p ms
held_full n p [] h some full = absurd (omega arith)
held_full n p (m ∷ ms) h some full = go (on p.subject m) refl (λ e. held_full n p ms (within_later n m ms h) some (sym (count_off p.subject m ms e) ∙ full))
  where
    go : (b : Bool) → on p.subject m ≡ b → (on p.subject m ≡ false → Replaces n p ms) → Replaces n p (m ∷ ms)
    go true e rest = record {
      first = m;
      found = ap (λ b. cond b (Some m) (find (on p.subject) ms)) e;
      number = ap length left ∙ length-append ms (p ∷ []) ∙ (omega arith);
      sizes = ap (λ (xs : List Message). sum_by size xs + size m) left ∙ sums;
    }
      where
        f : count p.subject (m ∷ ms) ≡ 1 + count p.subject ms
        f = count_on p.subject m ms e

        flipped : on m.subject p ≡ true
        flipped = same_flip p.subject m.subject ∙ e

        many : n ≤ count m.subject (ms ++ p ∷ [])
        many =
            let is : p.subject ≡ m.subject = same_is p.subject m.subject flipped in
            let g : count m.subject (ms ++ p ∷ []) ≡ count m.subject ms + 1 = count-push m.subject ms p ∙ ap (λ b. count m.subject ms + cond b 1 0) flipped in
            let own : count p.subject ms ≡ count m.subject ms = ap (λ t. count t ms) is in
            omega (arith, f)

        left : newest n (m ∷ ms ++ p ∷ []) ≡ ms ++ p ∷ []
        left = dropped_first n m (ms ++ p ∷ []) many ∙ held_all n p ms (within_later n m ms h) (omega (arith, f))

        sums : sum_by size (ms ++ p ∷ []) + size m ≡ sum_by size (m ∷ ms) + size p
        sums = omega (arith, sum_by_push size ms p, sum_by-cons size m ms)
    go false e rest = record {
      first = (rest e).first;
      found = ap (λ b. cond b (Some m) (find (on p.subject) ms)) e ∙ (rest e).found;
      number = ap length left ∙ ap (λ k. suc k) (rest e).number;
      sizes = ap (λ (xs : List Message). sum_by size xs + size (rest e).first) left ∙ sums;
    }
      where
        left : newest n (m ∷ ms ++ p ∷ []) ≡ m ∷ newest n (ms ++ p ∷ [])
        left = kept_first n m (ms ++ p ∷ []) (stays_apart n p m ms h (same_flip p.subject m.subject ∙ e))

        sums : sum_by size (m ∷ newest n (ms ++ p ∷ [])) + size (rest e).first ≡ sum_by size (m ∷ ms) + size p
        sums = omega (arith, sum_by-cons size m (newest n (ms ++ p ∷ [])), sum_by-cons size m ms, (rest e).sizes)

-- ---- by the stream's limit

limit_some : (c : StreamConfig) (n : ℕ) → IsTrue (is_stream_config c) → c.max_msgs_per_subject ≡ Some n → 0 < n
limit_some c n h e =
    let within = and_parts _ _ h in
    let some = and_parts _ _ within.0 in
    let window = and_parts _ _ some.0 in
    let age = and_parts _ _ window.0 in
    let consumers = and_parts _ _ age.0 in
    let largest = and_parts _ _ consumers.0 in
    let limit : is_limit (2 ^ 62 - 1) c.max_msgs_per_subject ≡ true = (and_parts _ _ largest.0).1 in
    ltb-true 0 n (and_parts _ _ (sym (ap (is_limit (2 ^ 62 - 1)) e) ∙ limit)).0

-- what a stream would hold after a publish, as its limit of each subject lets go of a message or does not
abbrev pub Holds : Stream → Publish → Option Message → Type 0
Holds s p None = (length (held_after s p) ≡ length s.messages + 1) × (sum_by size (held_after s p) ≡ sum_by size s.messages + size (message_of s p))
Holds s p (Some first) = (length (held_after s p) ≡ length s.messages) × (sum_by size (held_after s p) + size first ≡ sum_by size s.messages + size (message_of s p))

module _ (s : Stream) (p : Publish) (sound : IsSound s) (settled : next_over s ≡ None) where
  whole : held_after s p ≡ s.messages ++ message_of s p ∷ [] → Holds s p None
  whole e = (ap length e ∙ length-append s.messages _, ap (sum_by size) e ∙ sum_by_push size s.messages _)

  held_by : (o : Option ℕ) → s.config.max_msgs_per_subject ≡ o → Holds s p (cond (reaches (count p.subject s.messages) o) (find (on p.subject) s.messages) None)
  held_by None e = whole (ap (λ (l : Option ℕ). newest_at l (s.messages ++ message_of s p ∷ [])) e)
  held_by (Some n) e = go (nat_le n (count p.subject s.messages)) refl
    where
      within : Within n s.messages
      within t = ltb-false n (count t s.messages) (sym (ap (over_limit (count t s.messages)) e) ∙ subjects_within s settled t)

      held : held_after s p ≡ newest n (s.messages ++ message_of s p ∷ [])
      held = ap (λ (l : Option ℕ). newest_at l (s.messages ++ message_of s p ∷ [])) e

      go : (b : Bool) → nat_le n (count p.subject s.messages) ≡ b → Holds s p (cond b (find (on p.subject) s.messages) None)
      go false f = whole (held ∙ held_all n (message_of s p) s.messages within (leb-false n (count p.subject s.messages) f))
      go true f =
          let most : count p.subject s.messages ≤ n = within p.subject in
          let many : n ≤ count p.subject s.messages = leb-true n (count p.subject s.messages) f in
          let left = held_full n (message_of s p) s.messages within (limit_some s.config n sound.config e) (omega arith) in
          rw left.found (ap length held ∙ left.number, ap (λ (xs : List Message). sum_by size xs + size left.first) held ∙ left.sizes)

  pub held : Holds s p (pushed_out s p.subject)
  held = held_by s.config.max_msgs_per_subject refl

  pub held_at : (o : Option Message) → o ≡ pushed_out s p.subject → Holds s p o
  held_at o e = subst (λ (x : Option Message). Holds s p x) (sym e) held

-- ---- by what is counted of a subject

module _ (s : Stream) (subject : Bytes) where
  by_limit : Option ℕ → Option Message
  by_limit o = cond (reaches (count subject s.messages) o) (find (on subject) s.messages) None

  pub none_pushed : find (on subject) s.messages ≡ None → pushed_out s subject ≡ None
  none_pushed e = go (reaches (count subject s.messages) s.config.max_msgs_per_subject) (find (on subject) s.messages) e
    where
      go : (b : Bool) (o : Option Message) → o ≡ None → cond b o None ≡ None
      go true o h = h
      go false o h = refl

  module _ (c : Counts) (n : ℕ) (counted : IsCounted s subject c) (limit : s.config.max_msgs_per_subject ≡ Some n) where
    at_limit : pushed_out s subject ≡ cond (nat_le n c.count) (find (on subject) s.messages) None
    at_limit =
        ap (λ (o : Option ℕ). cond (reaches (count subject s.messages) o) (find (on subject) s.messages) None) limit
        ∙ ap (λ k. cond (nat_le n k) (find (on subject) s.messages) None) counted.count

    pub few_pushed : c.count < n → pushed_out s subject ≡ None
    few_pushed l = at_limit ∙ ap (λ b. cond b (find (on subject) s.messages) None) (lt-leb n c.count l)

    pub full_pushed : n ≤ c.count → message_at s c.first ≡ pushed_out s subject
    full_pushed l = counted.first ∙ sym (at_limit ∙ ap (λ b. cond b (find (on subject) s.messages) None) (le-leb n c.count l))
