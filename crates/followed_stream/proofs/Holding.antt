-- What consumers hold and await as messages come and go.
use Rattle.std.proofs.Common.{◌≡◌, ℕ, ◌+◌, ◌-◌, ◌<◌, ◌≤◌, ◌^◌, ◌==◌, ◌&&◌, ◌||◌, Bool, true, false, cond, not, List, [], ◌∷◌, ◌++◌, Some, length, map, refl, sym, ap, ◌∙◌, arith}
use Rattle.std.specs.Prelude.{All, filter, find, nat_le}
use Rattle.std.proofs.lemmas.Bool.{true≢false, eqb-true, eq-eqb}
use Rattle.std.proofs.lemmas.List.{length-append}
use Rattle.std.proofs.lemmas.List.Elements.{All-cons, All-head, All-nil, All-tail, All-map, All-weaker, filter-append, filter_passes}
use Rattle.js_base.specs.Bytes.{Bytes, has}
use Rattle.js_model.specs.declared.stream.Message.{Message}
use Rattle.js_model.specs.declared.stream.Stream.{Stream}
use Rattle.js_model.specs.declared.consumer.Pending.{Pending}
use Rattle.js_model.specs.declared.consumer.Consumer.{Consumer}
use Rattle.js_model.specs.Lists.{Between}
use Rattle.js_model.specs.Streams.{confined, seqs}
use Rattle.js_model.proofs.Members.{IsIn, found_in, here, there}
use Rattle.js_model.proofs.Named.{some_is}
use Rattle.js_model.proofs.Parts.{filter_part, part-length}
use Rattle.consumer_need.specs.Needs.{awaits, takes_subject}
use Rattle.consumer_need.specs.Stored.{HoldsStored}
use Rattle.consumer_state.specs.Forgetting.{forgotten}
use Rattle.stored_stream.proofs.Finding.{apart}
use Rattle.followed_stream.specs.Followers.{Following, awaited, gaining, losing, IsCounted}

-- ---- lists

pub all_from_in : {X : Type 0} (P : X → Type 0) (xs : List X) → ((x : X) → IsIn x xs → P x) → All P xs
all_from_in P [] h = All-nil P
all_from_in P (x ∷ xs) h = All-cons P x xs (h x here) (all_from_in P xs (λ y i. h y (there i)))

pub filter_agree_on : {X : Type 0} (p q : X → Bool) (xs : List X) → All (λ x. p x ≡ q x) xs → filter p xs ≡ filter q xs
filter_agree_on p q [] h = refl
filter_agree_on {X} p q (x ∷ xs) h =
    ap (λ b. cond b (x ∷ filter p xs) (filter p xs)) (All-head (λ y. p y ≡ q y) x xs h)
    ∙ ap (λ (l : List X). cond (q x) (x ∷ l) l) (filter_agree_on p q xs (All-tail (λ y. p y ≡ q y) x xs h))

-- a number that passes is in what passes just if it is there
pub has_filtered : (p : ℕ → Bool) (xs : List ℕ) (n : ℕ) → p n ≡ true → has (filter p xs) n ≡ has xs n
has_filtered p [] n e = refl
has_filtered p (x ∷ xs) n e = go (p x) refl (has_filtered p xs n e)
  where
    other : (b : Bool) → (x == n) ≡ b → p x ≡ false → b ≡ false
    other true r q = absurd (true≢false (sym e ∙ sym (ap p (eqb-true x n r)) ∙ q))
    other false r q = refl

    go : (b : Bool) → p x ≡ b → has (filter p xs) n ≡ has xs n → has (cond b (x ∷ filter p xs) (filter p xs)) n ≡ ((x == n) || has xs n)
    go true q h = ap (λ (b : Bool). (x == n) || b) h
    go false q h = h ∙ sym (ap (λ (b : Bool). b || has xs n) (other (x == n) refl q))

-- ---- sequences of messages

-- the sequences without one
pub has_less : (ms : List Message) (seq n : ℕ) → has (seqs (filter (λ m. not (m.seq == seq)) ms)) n ≡ (has (seqs ms) n && not (n == seq))
has_less [] seq n = refl
has_less (m ∷ ms) seq n = go (m.seq == seq) refl (m.seq == n) refl (has_less ms seq n)
  where
    rest : List Message
    rest = filter (λ x. not (x.seq == seq)) ms

    and_false : (b : Bool) → (b && false) ≡ false
    and_false true = refl
    and_false false = refl

    go : (b : Bool) → (m.seq == seq) ≡ b → (d : Bool) → (m.seq == n) ≡ d → has (seqs rest) n ≡ (has (seqs ms) n && not (n == seq))
        → has (seqs (cond (not b) (m ∷ rest) rest)) n ≡ ((d || has (seqs ms) n) && not (n == seq))
    go true e true f h =
        let is : n ≡ seq = sym (eqb-true m.seq n f) ∙ eqb-true m.seq seq e in
        let gone : (n == seq) ≡ true = eq-eqb n seq is in
        h ∙ ap (λ b. has (seqs ms) n && not b) gone ∙ and_false (has (seqs ms) n) ∙ sym (ap not gone)
    go true e false f h = h
    go false e true f h =
        let other : (n == seq) ≡ false = ap (λ k. k == seq) (sym (eqb-true m.seq n f)) ∙ e in
        ap (λ b. b || has (seqs rest) n) f ∙ sym (ap not other)
    go false e false f h = ap (λ b. b || has (seqs rest) n) f ∙ h

pub has_more : (ms : List Message) (m : Message) (n : ℕ) → has (seqs ms) n ≡ true → has (seqs (ms ++ m ∷ [])) n ≡ true
has_more [] m n h = absurd (true≢false (sym h))
has_more (x ∷ ms) m n h = go (x.seq == n) h (has_more ms m n)
  where
    go : (b : Bool) → (b || has (seqs ms) n) ≡ true → (has (seqs ms) n ≡ true → has (seqs (ms ++ m ∷ [])) n ≡ true) → (b || has (seqs (ms ++ m ∷ [])) n) ≡ true
    go true k r = refl
    go false k r = r k

-- ---- what a consumer holds

-- what is stored of one stream is stored of another
pub holds_in : (s t : Stream) (c : Consumer) → ((n : ℕ) → has (seqs s.messages) n ≡ true → has (seqs t.messages) n ≡ true) → HoldsStored s c → HoldsStored t c
holds_in s t c f h = record {
  picks = All-weaker (λ (n : ℕ). has (seqs s.messages) n ≡ true) (λ n. has (seqs t.messages) n ≡ true) f c.picks h.picks;
  pending = All-weaker (λ (p : Pending). has (seqs s.messages) p.seq ≡ true) (λ p. has (seqs t.messages) p.seq ≡ true) (λ p. f p.seq) c.pending h.pending;
  given_up = All-weaker (λ (n : ℕ). has (seqs s.messages) n ≡ true) (λ n. has (seqs t.messages) n ≡ true) f c.given_up h.given_up;
}

-- a consumer that forgets a sequence keeps what it held of the others
module _ (s : Stream) (seq : ℕ) where
  abbrev rest : List Message
  rest = filter (λ m. not (m.seq == seq)) s.messages

  agrees : (n : ℕ) → has (seqs s.messages) n ≡ true → not (n == seq) ≡ has (seqs rest) n
  agrees n e = sym (has_less s.messages seq n ∙ ap (λ b. b && not (n == seq)) e)

  pub forgotten_is : (c : Consumer) → HoldsStored s c → forgotten seq c ≡ confined (seqs rest) c
  forgotten_is c h =
      let picks = filter_agree_on (λ n. not (n == seq)) (has (seqs rest)) c.picks (All-weaker (λ (n : ℕ). has (seqs s.messages) n ≡ true) (λ n. not (n == seq) ≡ has (seqs rest) n) agrees c.picks h.picks) in
      let pending = filter_agree_on (λ (p : Pending). not (p.seq == seq)) (λ p. has (seqs rest) p.seq) c.pending (All-weaker (λ (p : Pending). has (seqs s.messages) p.seq ≡ true) (λ p. not (p.seq == seq) ≡ has (seqs rest) p.seq) (λ p. agrees p.seq) c.pending h.pending) in
      let given_up = filter_agree_on (λ n. not (n == seq)) (has (seqs rest)) c.given_up (All-weaker (λ (n : ℕ). has (seqs s.messages) n ≡ true) (λ n. not (n == seq) ≡ has (seqs rest) n) agrees c.given_up h.given_up) in
      rw (picks, pending, given_up) refl

  pub losing_consumers : (subject : Bytes) (fs : List Following) → All (HoldsStored s) (map (λ f. f.consumer) fs) → map (λ f. f.consumer) (map (losing subject seq) fs) ≡ map (confined (seqs rest)) (map (λ f. f.consumer) fs)
  losing_consumers subject [] h = refl
  losing_consumers subject (f ∷ fs) h =
      rw (
        forgotten_is f.consumer (All-head (HoldsStored s) f.consumer (map (λ f. f.consumer) fs) h),
        losing_consumers subject fs (All-tail (HoldsStored s) f.consumer (map (λ f. f.consumer) fs) h),
      ) refl

-- ---- what is still to be delivered

-- the messages that a consumer awaits
abbrev pub awaits_it : Consumer → Message → Bool
awaits_it c m = awaits c m.subject m.seq

pub count_less : (t : Message → Bool) (seq low high : ℕ) (m : Message) (ms : List Message) → Between (λ x. x.seq) low high ms → find (λ x. x.seq == seq) ms ≡ Some m
    → length (filter t ms) ≡ length (filter t (filter (λ x. not (x.seq == seq)) ms)) + cond (t m) 1 0
count_less t seq low high m [] h e = absurd cc
count_less t seq low high m (x ∷ ms) h e = go (x.seq == seq) refl e (count_less t seq (x.seq + 1) high m ms h.1)
  where
    rest : List Message
    rest = filter (λ y. not (y.seq == seq)) ms

    first : (b : Bool) → length (cond b (x ∷ filter t ms) (filter t ms)) ≡ length (filter t ms) + cond b 1 0
    first true = omega arith
    first false = omega arith

    later : (b : Bool) → length (filter t ms) ≡ length (filter t rest) + cond (t m) 1 0 → length (cond b (x ∷ filter t ms) (filter t ms)) ≡ length (cond b (x ∷ filter t rest) (filter t rest)) + cond (t m) 1 0
    later true k = omega arith
    later false k = k

    go : (b : Bool) → (x.seq == seq) ≡ b → cond b (Some x) (find (λ y. y.seq == seq) ms) ≡ Some m → (find (λ y. y.seq == seq) ms ≡ Some m → length (filter t ms) ≡ length (filter t rest) + cond (t m) 1 0)
        → length (cond (t x) (x ∷ filter t ms) (filter t ms)) ≡ length (filter t (cond (not b) (x ∷ rest) rest)) + cond (t m) 1 0
    go true f k r =
        let is : x ≡ m = some_is k in
        let alike : rest ≡ ms = apart seq (x.seq + 1) high ms (let z : x.seq ≡ seq = eqb-true x.seq seq f in omega arith) h.1 in
        first (t x) ∙ ap (λ b. length (filter t ms) + cond b 1 0) (ap t is) ∙ ap (λ (l : List Message). length (filter t l) + cond (t m) 1 0) (sym alike)
    go false f k r = later (t x) (r k)

-- it awaits the other messages as before
awaits_others : (seq : ℕ) (c : Consumer) (m : Message) → not (m.seq == seq) ≡ true → awaits_it (forgotten seq c) m ≡ awaits_it c m
awaits_others seq c m e = ap (λ b. takes_subject c m.subject && (b || nat_le c.cursor m.seq)) (has_filtered (λ n. not (n == seq)) c.picks m.seq e)

module _ (s : Stream) (seq : ℕ) (m : Message) (ascends : Between (λ x. x.seq) 1 (s.last + 1) s.messages) (found : find (λ x. x.seq == seq) s.messages ≡ Some m) where
  abbrev left : List Message
  left = filter (λ x. not (x.seq == seq)) s.messages

  pub counted_less : (f : Following) → IsCounted s.messages f → IsCounted left (losing m.subject seq f)
  counted_less f h =
      let own : m.seq ≡ seq = eqb-true m.seq seq (found_in (λ x. x.seq == seq) m s.messages found).1 in
      let count : length (filter (awaits_it f.consumer) s.messages) ≡ length (filter (awaits_it f.consumer) left) + cond (awaits_it f.consumer m) 1 0 = count_less (awaits_it f.consumer) seq 1 (s.last + 1) m s.messages ascends found in
      let one : cond (awaits_it f.consumer m) 1 0 ≡ awaited f.consumer m.subject seq = ap (awaited f.consumer m.subject) own in
      let same : filter (awaits_it (forgotten seq f.consumer)) left ≡ filter (awaits_it f.consumer) left =
      filter_agree_on (awaits_it (forgotten seq f.consumer)) (awaits_it f.consumer) left
      (All-weaker (λ (x : Message). not (x.seq == seq) ≡ true) (λ x. awaits_it (forgotten seq f.consumer) x ≡ awaits_it f.consumer x) (awaits_others seq f.consumer) left (filter_passes (λ x. not (x.seq == seq)) s.messages)) in
      ap (λ n. n - awaited f.consumer m.subject seq) (h ∙ count ∙ ap (λ n. length (filter (awaits_it f.consumer) left) + n) one)
      ∙ (let e : (length (filter (awaits_it f.consumer) left) + awaited f.consumer m.subject seq) - awaited f.consumer m.subject seq ≡ length (filter (awaits_it f.consumer) left) = omega arith in e)
      ∙ ap length (sym same)

  pub all_counted_less : (fs : List Following) → All (IsCounted s.messages) fs → All (IsCounted left) (map (losing m.subject seq) fs)
  all_counted_less fs h = All-map (IsCounted left) (losing m.subject seq) fs (All-weaker (IsCounted s.messages) (λ f. IsCounted left (losing m.subject seq f)) counted_less fs h)

-- ---- one message more

pub gaining_consumers : (subject : Bytes) (seq : ℕ) (fs : List Following) → map (λ f. f.consumer) (map (gaining subject seq) fs) ≡ map (λ f. f.consumer) fs
gaining_consumers subject seq [] = refl
gaining_consumers subject seq (f ∷ fs) = ap (λ (cs : List Consumer). f.consumer ∷ cs) (gaining_consumers subject seq fs)

count_more : (t : Message → Bool) (ms : List Message) (m : Message) → length (filter t (ms ++ m ∷ [])) ≡ length (filter t ms) + cond (t m) 1 0
count_more t ms m = ap length (filter-append t ms (m ∷ [])) ∙ length-append (filter t ms) (filter t (m ∷ [])) ∙ ap (λ n. length (filter t ms) + n) (one (t m))
  where
    one : (b : Bool) → length (cond b (m ∷ []) []) ≡ cond b 1 0
    one true = refl
    one false = refl

pub all_counted_more : (ms : List Message) (m : Message) (fs : List Following) → All (IsCounted ms) fs → All (IsCounted (ms ++ m ∷ [])) (map (gaining m.subject m.seq) fs)
all_counted_more ms m fs h =
    All-map (IsCounted (ms ++ m ∷ [])) (gaining m.subject m.seq) fs
    (All-weaker (IsCounted ms) (λ f. IsCounted (ms ++ m ∷ []) (gaining m.subject m.seq f)) (λ f k. ap (λ n. n + awaited f.consumer m.subject m.seq) k ∙ sym (count_more (awaits_it f.consumer) ms m)) fs h)

-- no more than there are
pub counted_few : (ms : List Message) (fs : List Following) → length ms < 2 ^ 32 → All (IsCounted ms) fs → All (λ f. f.undelivered < 2 ^ 32) fs
counted_few ms fs l h =
    All-weaker (IsCounted ms) (λ f. f.undelivered < 2 ^ 32)
    (λ f k. let is : f.undelivered ≡ length (filter (awaits_it f.consumer) ms) = k in let most : length (filter (awaits_it f.consumer) ms) ≤ length ms = part-length (filter_part (awaits_it f.consumer) ms) in omega arith) fs h
