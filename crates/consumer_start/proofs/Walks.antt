-- The steps of a walk through messages in the order of their sequences, to the first that passes a test.
use Rattle.std.proofs.Common.{◌≡◌, ℕ, ◌+◌, ◌<◌, ◌≤◌, Bool, true, false, ◌&&◌, cond, List, [], ◌∷◌, Some, None, refl, sym, ap, ◌∙◌, subst, arith}
use Rattle.std.specs.Prelude.{Option, nat_le, find, option_map}
use Rattle.std.proofs.lemmas.Bool.{le-leb, lt-leb, leb-true}
use Rattle.js_model.specs.declared.stream.Message.{Message}
use Rattle.js_model.specs.declared.stream.Stream.{Stream}
use Rattle.js_base.specs.Bytes.{Bytes}
use Rattle.js_model.specs.Lists.{Between}
use Rattle.js_model.specs.Streams.{passes_filter}
use Rattle.js_model.proofs.Members.{here, found_in, in_bounds}
use Rattle.js_model.proofs.Named.{none_some, some_is}
use Rattle.stream_view.specs.Heads.{MessageHead, head_of}
use Rattle.stream_view.specs.Order.{IsInOrder}

abbrev pub Ascending : ℕ → ℕ → List Message → Type 0
Ascending low high ms = Between (λ m. m.seq) low high ms

-- from the sequence on, and it passes
abbrev pub passes_from : (Message → Bool) → ℕ → Message → Bool
passes_from P seq m = P m && nat_le seq m.seq

module _ (P : Message → Bool) where
  and_false : (b : Bool) → (b && false) ≡ false
  and_false true = refl
  and_false false = refl

  and_true : (b : Bool) → (b && true) ≡ b
  and_true true = refl
  and_true false = refl

  -- two bounds below all of the messages are as good
  low_bounds : (a b low high : ℕ) (ms : List Message) → Ascending low high ms → a ≤ low → b ≤ low → find (passes_from P a) ms ≡ find (passes_from P b) ms
  low_bounds a b low high [] h k l = refl
  low_bounds a b low high (m ∷ ms) h k l =
      let q : low ≤ m.seq = h.0 in
      ap (λ t. cond (P m && t) (Some m) (find (passes_from P a) ms)) (le-leb a m.seq (omega arith) ∙ sym (le-leb b m.seq (omega arith)))
      ∙ ap (λ o. cond (P m && nat_le b m.seq) (Some m) o) (low_bounds a b (m.seq + 1) high ms h.1 (omega arith) (omega arith))

  pub all_from_low : (a low high : ℕ) (ms : List Message) → Ascending low high ms → a ≤ low → find (passes_from P a) ms ≡ find P ms
  all_from_low a low high [] h k = refl
  all_from_low a low high (m ∷ ms) h k =
      let q : low ≤ m.seq = h.0 in
      ap (λ t. cond (P m && t) (Some m) (find (passes_from P a) ms)) (le-leb a m.seq (omega arith))
      ∙ ap (λ t. cond t (Some m) (find (passes_from P a) ms)) (and_true (P m))
      ∙ ap (λ o. cond (P m) (Some m) o) (all_from_low a (m.seq + 1) high ms h.1 (omega arith))

  pub none_high : (a low high : ℕ) (ms : List Message) → Ascending low high ms → high ≤ a → find (passes_from P a) ms ≡ None
  none_high a low high [] h k = refl
  none_high a low high (m ∷ ms) h k =
      let below = in_bounds (λ m. m.seq) low high m (m ∷ ms) h here in
      let q : m.seq < high = below.1 in
      ap (λ t. cond (P m && t) (Some m) (find (passes_from P a) ms)) (lt-leb a m.seq (omega arith))
      ∙ ap (λ t. cond t (Some m) (find (passes_from P a) ms)) (and_false (P m))
      ∙ none_high a (m.seq + 1) high ms h.1 k

  pub none_from : (a : ℕ) (ms : List Message) → find (λ m. nat_le a m.seq) ms ≡ None → find (passes_from P a) ms ≡ None
  none_from a [] e = refl
  none_from a (m ∷ ms) e = go (none_from a ms) (nat_le a m.seq) e
    where
      go : (find (λ m. nat_le a m.seq) ms ≡ None → find (passes_from P a) ms ≡ None) → (b : Bool) → cond b (Some m) (find (λ m. nat_le a m.seq) ms) ≡ None → cond (P m && b) (Some m) (find (passes_from P a) ms) ≡ None
      go more true f = absurd (none_some (sym f))
      go more false f = ap (λ t. cond t (Some m) (find (passes_from P a) ms)) (and_false (P m)) ∙ more f

  -- the first from there on passes
  pub first_passes : (a : ℕ) (first : Message) (ms : List Message) → find (λ m. nat_le a m.seq) ms ≡ Some first → P first ≡ true → find (passes_from P a) ms ≡ Some first
  first_passes a first [] e p = absurd (none_some e)
  first_passes a first (m ∷ ms) e p = go (first_passes a first ms) (nat_le a m.seq) e
    where
      go : (find (λ m. nat_le a m.seq) ms ≡ Some first → P first ≡ true → find (passes_from P a) ms ≡ Some first) → (b : Bool) → cond b (Some m) (find (λ m. nat_le a m.seq) ms) ≡ Some first
          → cond (P m && b) (Some m) (find (passes_from P a) ms) ≡ Some first
      go more true f =
          ap (λ t. cond t (Some m) (find (passes_from P a) ms)) (and_true (P m))
          ∙ ap (λ t. cond t (Some m) (find (passes_from P a) ms)) (ap P (some_is f) ∙ p)
          ∙ f
      go more false f = ap (λ t. cond t (Some m) (find (passes_from P a) ms)) (and_false (P m)) ∙ more f p

  -- it does not pass: the search goes on behind it
  pub first_fails : (a low high : ℕ) (first : Message) (ms : List Message) → Ascending low high ms → find (λ m. nat_le a m.seq) ms ≡ Some first → P first ≡ false
      → find (passes_from P a) ms ≡ find (passes_from P (first.seq + 1)) ms
  first_fails a low high first [] h e p = refl
  first_fails a low high first (m ∷ ms) h e p = go (first_fails a (m.seq + 1) high first ms h.1) (nat_le a m.seq) refl e
    where
      step : ℕ → Bool → Option Message
      step n b = cond (P m && b) (Some m) (find (passes_from P n) ms)

      skipped : (n : ℕ) (b : Bool) → b ≡ false → step n b ≡ find (passes_from P n) ms
      skipped n b k = ap (step n) k ∙ ap (λ t. cond t (Some m) (find (passes_from P n) ms)) (and_false (P m))

      failed : (n : ℕ) → P m ≡ false → step n true ≡ find (passes_from P n) ms
      failed n k = ap (λ t. cond (t && true) (Some m) (find (passes_from P n) ms)) k

      go : (find (λ m. nat_le a m.seq) ms ≡ Some first → P first ≡ false → find (passes_from P a) ms ≡ find (passes_from P (first.seq + 1)) ms) → (b : Bool) → nat_le a m.seq ≡ b
          → cond b (Some m) (find (λ m. nat_le a m.seq) ms) ≡ Some first → step a b ≡ step (first.seq + 1) (nat_le (first.seq + 1) m.seq)
      go more true l f =
          let is : m ≡ first = some_is f in
          let le : a ≤ m.seq = leb-true a m.seq l in
          let behind : nat_le (first.seq + 1) m.seq ≡ false = subst (λ (z : Message). nat_le (z.seq + 1) m.seq ≡ false) is (lt-leb (m.seq + 1) m.seq (omega arith)) in
          let same : find (passes_from P a) ms ≡ find (passes_from P (first.seq + 1)) ms =
          subst (λ (z : Message). find (passes_from P a) ms ≡ find (passes_from P (z.seq + 1)) ms) is (low_bounds a (m.seq + 1) (m.seq + 1) high ms h.1 (omega arith) (omega arith)) in
          failed a (ap P is ∙ p) ∙ same ∙ sym (skipped (first.seq + 1) (nat_le (first.seq + 1) m.seq) behind)
      go more false l f =
          let after = in_bounds (λ m. m.seq) (m.seq + 1) high first ms h.1 (found_in (λ m. nat_le a m.seq) first ms f).0 in
          let q : m.seq + 1 ≤ first.seq = after.0 in
          skipped a false refl ∙ more f p ∙ sym (skipped (first.seq + 1) (nat_le (first.seq + 1) m.seq) (lt-leb (first.seq + 1) m.seq (omega arith)))

-- ---- what a look at the stream tells

-- the message that was found is seen so
pub record IsSeen (found : Option Message) (head : MessageHead) : Type 0 where
  pub message : Message
  pub is : found ≡ Some message
  pub head_is : head ≡ head_of message

pub seen : (found : Option Message) (head : MessageHead) → Some head ≡ option_map head_of found → IsSeen found head
seen None head e = absurd (none_some (sym e))
seen (Some m) head e = record { message = m; is = refl; head_is = some_is e }

pub unseen : (found : Option Message) → None ≡ option_map head_of found → found ≡ None
unseen None e = refl
unseen (Some m) e = absurd (none_some e)

-- the walk looks for the first that passes
pub record IsWalk (P : Message → Bool) (s : Stream) (wanted : Option ℕ) (seq : ℕ) : Type 0 where
  pub ahead : wanted ≡ option_map (λ m. m.seq) (find (passes_from P seq) s.messages)

module _ (P : Message → Bool) (s : Stream) (wanted : Option ℕ) (seq : ℕ) (walk : IsWalk P s wanted seq) where
  pub ends_unseen : None ≡ option_map head_of (find (λ m. nat_le seq m.seq) s.messages) → wanted ≡ None
  ends_unseen e = walk.ahead ∙ ap (option_map (λ m. m.seq)) (none_from P seq s.messages (unseen (find (λ m. nat_le seq m.seq) s.messages) e))

  pub ends_past : IsInOrder s → s.last < seq → wanted ≡ None
  ends_past order l = walk.ahead ∙ ap (option_map (λ m. m.seq)) (none_high P seq 1 (s.last + 1) s.messages order.ascends (omega arith))

  module _ (head : MessageHead) (found : Some head ≡ option_map head_of (find (λ m. nat_le seq m.seq) s.messages)) where
    look : IsSeen (find (λ m. nat_le seq m.seq) s.messages) head
    look = seen (find (λ m. nat_le seq m.seq) s.messages) head found

    seq_is : look.message.seq ≡ head.seq
    seq_is = sym (ap (λ h. h.seq) look.head_is)

    pub stops : ((m : Message) → head ≡ head_of m → P m ≡ true) → wanted ≡ Some head.seq
    stops p = walk.ahead ∙ ap (option_map (λ m. m.seq)) (first_passes P seq look.message s.messages look.is (p look.message look.head_is)) ∙ ap Some seq_is

    pub goes_on : IsInOrder s → ((m : Message) → head ≡ head_of m → P m ≡ false) → IsWalk P s wanted (head.seq + 1)
    goes_on order p = record {
      ahead =
          walk.ahead
          ∙ ap (option_map (λ m. m.seq)) (first_fails P seq 1 (s.last + 1) look.message s.messages order.ascends look.is (p look.message look.head_is))
          ∙ ap (λ n. option_map (λ m. m.seq) (find (passes_from P (n + 1)) s.messages)) seq_is;
    }

    pub within : IsInOrder s → (seq ≤ head.seq) × (head.seq ≤ s.last)
    within order =
        let i = found_in (λ m. nat_le seq m.seq) look.message s.messages look.is in
        let b = in_bounds (λ m. m.seq) 1 (s.last + 1) look.message s.messages order.ascends i.0 in
        let e : look.message.seq ≡ head.seq = seq_is in
        let l : seq ≤ look.message.seq = leb-true seq look.message.seq i.1 in
        let r : look.message.seq < s.last + 1 = b.1 in
        (omega arith, omega arith)

-- ---- what is read of a message

pub by_subject : (pattern text : Bytes) (head : MessageHead) (read result : Bool) → text ≡ head.subject → read ≡ passes_filter pattern text → read ≡ result
    → (m : Message) → head ≡ head_of m → passes_filter pattern m.subject ≡ result
by_subject pattern text head read result e f g m h = ap (passes_filter pattern) (sym (ap (λ x. x.subject) h) ∙ sym e) ∙ sym f ∙ g

pub by_moment : (at moment : ℕ) (head : MessageHead) (result : Bool) → moment ≡ head.at → nat_le at moment ≡ result → (m : Message) → head ≡ head_of m → nat_le at m.at ≡ result
by_moment at moment head result e f m h = ap (nat_le at) (sym (ap (λ x. x.at) h) ∙ sym e) ∙ f
