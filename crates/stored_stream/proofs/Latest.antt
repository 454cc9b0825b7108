-- What is seen of a stream at a later moment.
use Rattle.std.proofs.Common.{◌≡◌, ℕ, ◌+◌, ◌*◌, ◌^◌, ◌<◌, ◌≤◌, ◌&&◌, Bool, true, false, cond, List, [], ◌∷◌, Option, Some, None, length, max, refl, sym, ap, subst, ◌∙◌, arith, ◌⊎◌, inl, inr}
use Rattle.std.specs.Prelude.{All, filter, find, nat_le, nat_lt, option_map, sum_by, unwrap_or, IfSome}
use Rattle.std.proofs.lemmas.List.Elements.{All-head, All-tail}
use Rattle.std.proofs.lemmas.List.{length-map}
use Rattle.std.proofs.lemmas.List.Sums.{sum_by-cons}
use Rattle.std.specs.List.{last_or}
use Rattle.std.proofs.lemmas.Bool.Decides.{leb_tells}
use Rattle.std.proofs.lemmas.Bool.{le-leb, lt-leb, lt-ltb, le-ltb, ltb-true, ltb-false, ne_eqb}
use Rattle.js_base.specs.Bytes.{Bytes, same}
use Rattle.js_base.specs.Moments.{plus}
use Rattle.js_model.specs.declared.stream.Message.{Message}
use Rattle.js_model.specs.declared.stream.Stream.{Stream}
use Rattle.js_model.specs.Advance.{young}
use Rattle.js_model.specs.Lists.{Between}
use Rattle.js_model.specs.Streams.{seqs, size}
use Rattle.js_model.proofs.Members.{found_in, in_bounds}
use Rattle.js_model.proofs.Named.{some_is}
use Rattle.js_model.proofs.Parts.{filter_part, part_between, part-length, part-sum, young_part}
use Rattle.message_store.specs.Stored.{IsSmall}
use Rattle.retention.proofs.Walking.{all_from_low, all_from_none, all_from_some}
use Rattle.stream_view.specs.declared.counts.Counts.{Counts}
use Rattle.stream_view.specs.Counting.{counts_of, last_from}
use Rattle.stream_view.specs.Heads.{MessageHead, head_of}
use Rattle.stream_view.specs.Order.{IsInOrder}
use Rattle.stored_stream.specs.Later.{counted_all, counted_more, later, messages_from, IsSeenFrom}
use Rattle.stored_stream.specs.Stored.{IsSound, Rises}
use Rattle.stored_stream.proofs.Lists.{filter_swap}
use Rattle.stored_stream.proofs.Young.{young_unlimited}

-- ---- walking on

-- so many are counted from the first on, and the others come from a sequence on
pub record IsCounting (ms : List Message) (first from count : ℕ) : Type 0 where
  pub rest : count + length (messages_from from ms) ≡ length (messages_from first ms)

-- so many bytes
pub record IsSumming (ms : List Message) (first from bytes : ℕ) : Type 0 where
  pub rest : bytes + sum_by size (messages_from from ms) ≡ sum_by size (messages_from first ms)

-- so many of one subject
abbrev own : List Message → Bytes → ℕ → List ℕ
own ms subject from = seqs (filter (λ m. same m.subject subject) (messages_from from ms))

pub record IsTelling (ms : List Message) (subject : Bytes) (first from : ℕ) (found : Option Counts) : Type 0 where
  pub rest : counted_all found (own ms subject from) ≡ counted_all None (own ms subject first)

-- what is counted of them together
counted_on : (n first_one last_one : ℕ) (ns : List ℕ) → counted_all (Some (record { count = n; first = first_one; last = last_one })) ns ≡ Some (record { count = n + length ns; first = first_one; last = last_from last_one ns })
counted_on n first_one last_one [] = ap (λ k. Some (record { count = k; first = first_one; last = last_one })) (let e : n ≡ n + 0 = omega arith in e)
counted_on n first_one last_one (k ∷ ns) = counted_on (n + 1) first_one k ns ∙ ap (λ j. Some (record { count = j; first = first_one; last = last_from k ns })) (let e : n + 1 + length ns ≡ n + length (k ∷ ns) = omega arith in e)

counted : (ns : List ℕ) → counted_all None ns ≡ counts_of ns
counted [] = refl
counted (k ∷ ns) = counted_on 1 k k ns ∙ ap (λ j. Some (record { count = j; first = k; last = last_from k ns })) (let e : 1 + length ns ≡ length (k ∷ ns) = omega arith in e)

count_is : (c : Counts) (ns : List ℕ) → Some c ≡ counts_of ns → c.count ≡ length ns
count_is c [] e = absurd cc
count_is c (k ∷ ns) e = ap (λ (o : Option Counts). unwrap_or (option_map (λ (x : Counts). x.count) o) 0) e

module _ (high : ℕ) (ms : List Message) (ascends : Between (λ m. m.seq) 1 high ms) where
  pub from_some : (from : ℕ) (m : Message) → Some m ≡ find (λ x. nat_le from x.seq) ms → messages_from from ms ≡ m ∷ messages_from (m.seq + 1) ms
  from_some from m e = all_from_some 1 high from m ms ascends (sym e)

  pub from_none : (from : ℕ) → None ≡ find (λ x. nat_le from x.seq) ms → messages_from from ms ≡ []
  from_none from e = all_from_none from ms (sym e)

  pub from_start : messages_from 0 ms ≡ ms
  from_start = all_from_low 1 high 0 ms ascends (omega arith)

  pub counting_more : (first from count : ℕ) (m : Message) → IsCounting ms first from count → Some m ≡ find (λ x. nat_le from x.seq) ms → IsCounting ms first (m.seq + 1) (count + 1)
  counting_more first from count m h e =
      let split : length (messages_from from ms) ≡ length (m ∷ messages_from (m.seq + 1) ms) = ap (λ (l : List Message). length l) (from_some from m e) in
      let before : count + length (messages_from from ms) ≡ length (messages_from first ms) = h.rest in
      record { rest = omega (arith, split, before) }

  pub counting_all : (first from count : ℕ) → IsCounting ms first from count → None ≡ find (λ x. nat_le from x.seq) ms → count ≡ length (messages_from first ms)
  counting_all first from count h e =
      let none : length (messages_from from ms) ≡ 0 = ap (λ (l : List Message). length l) (from_none from e) in
      let before : count + length (messages_from from ms) ≡ length (messages_from first ms) = h.rest in
      omega (arith, none, before)

  pub summing_more : (first from bytes : ℕ) (m : Message) → IsSumming ms first from bytes → Some m ≡ find (λ x. nat_le from x.seq) ms → IsSumming ms first (m.seq + 1) (bytes + size m)
  summing_more first from bytes m h e =
      let split : sum_by size (messages_from from ms) ≡ size m + sum_by size (messages_from (m.seq + 1) ms) = ap (sum_by size) (from_some from m e) ∙ sum_by-cons size m (messages_from (m.seq + 1) ms) in
      let before : bytes + sum_by size (messages_from from ms) ≡ sum_by size (messages_from first ms) = h.rest in
      record { rest = omega (arith, split, before) }

  pub summing_all : (first from bytes : ℕ) → IsSumming ms first from bytes → None ≡ find (λ x. nat_le from x.seq) ms → bytes ≡ sum_by size (messages_from first ms)
  summing_all first from bytes h e =
      let none : sum_by size (messages_from from ms) ≡ 0 = ap (sum_by size) (from_none from e) in
      let before : bytes + sum_by size (messages_from from ms) ≡ sum_by size (messages_from first ms) = h.rest in
      omega (arith, none, before)

  module _ (subject : Bytes) where
    pub telling_more : (first from : ℕ) (found : Option Counts) (m : Message) → IsTelling ms subject first from found → Some m ≡ find (λ x. nat_le from x.seq) ms → same m.subject subject ≡ true → IsTelling ms subject first (m.seq + 1) (Some (counted_more found m.seq))
    telling_more first from found m h e own_is =
        let split : own ms subject from ≡ m.seq ∷ own ms subject (m.seq + 1) =
        ap (λ (l : List Message). seqs (filter (λ x. same x.subject subject) l)) (from_some from m e)
        ∙ ap (λ b. seqs (cond b (m ∷ filter (λ x. same x.subject subject) (messages_from (m.seq + 1) ms)) (filter (λ x. same x.subject subject) (messages_from (m.seq + 1) ms)))) own_is in
        record { rest = ap (counted_all found) (sym split) ∙ h.rest }

    pub telling_same : (first from : ℕ) (found : Option Counts) (m : Message) → IsTelling ms subject first from found → Some m ≡ find (λ x. nat_le from x.seq) ms → same m.subject subject ≡ false → IsTelling ms subject first (m.seq + 1) found
    telling_same first from found m h e other =
        let split : own ms subject from ≡ own ms subject (m.seq + 1) =
        ap (λ (l : List Message). seqs (filter (λ x. same x.subject subject) l)) (from_some from m e)
        ∙ ap (λ b. seqs (cond b (m ∷ filter (λ x. same x.subject subject) (messages_from (m.seq + 1) ms)) (filter (λ x. same x.subject subject) (messages_from (m.seq + 1) ms)))) other in
        record { rest = ap (counted_all found) (sym split) ∙ h.rest }

    pub telling_all : (first from : ℕ) (found : Option Counts) → IsTelling ms subject first from found → None ≡ find (λ x. nat_le from x.seq) ms → found ≡ counts_of (own ms subject first)
    telling_all first from found h e =
        ap (counted_all found) (sym (ap (λ (l : List Message). seqs (filter (λ x. same x.subject subject) l)) (from_none from e))) ∙ h.rest ∙ counted (own ms subject first)

-- ---- how many bytes, and how many

sizes_few : (ms : List Message) → All IsSmall ms → sum_by size ms ≤ length ms * 2 ^ 21
sizes_few [] h = omega arith
sizes_few (m ∷ ms) h =
    let here : size m ≤ 2 ^ 21 = All-head IsSmall m ms h in
    let rest : sum_by size ms ≤ length ms * 2 ^ 21 = sizes_few ms (All-tail IsSmall m ms h) in
    let all : sum_by size (m ∷ ms) ≡ size m + sum_by size ms = sum_by-cons size m ms in
    omega (arith, here, rest, all)

pub sizes_from : (s : Stream) (first : ℕ) → IsSound s → sum_by size (messages_from first s.messages) ≤ 2 ^ 53
sizes_from s first h =
    let few : length s.messages < 2 ^ 32 = h.few in
    let all : sum_by size s.messages ≤ length s.messages * 2 ^ 21 = sizes_few s.messages h.small in
    let part : sum_by size (messages_from first s.messages) ≤ sum_by size s.messages = part-sum size (filter_part (λ m. nat_le first m.seq) s.messages) in
    omega (arith, few, all, part)

pub count_from : (s : Stream) (first : ℕ) → IsSound s → length (messages_from first s.messages) < 2 ^ 32
count_from s first h =
    let few : length s.messages < 2 ^ 32 = h.few in
    let part : length (messages_from first s.messages) ≤ length s.messages = part-length (filter_part (λ m. nat_le first m.seq) s.messages) in
    omega (arith, few, part)

-- no more are counted of a subject than there are
pub telling_room : (s : Stream) → IsSound s → (subject : Bytes) (first from : ℕ) (found : Option Counts) → IsTelling s.messages subject first from found → IfSome found (λ counts. counts.count < 2 ^ 32)
telling_room s sound subject first from None h = tt
telling_room s sound subject first from (Some c) h =
    let is : c.count + length (own s.messages subject from) ≡ length (own s.messages subject first) =
    count_is (record { count = c.count + length (own s.messages subject from); first = c.first; last = last_from c.last (own s.messages subject from) }) (own s.messages subject first)
    (sym (counted_on c.count c.first c.last (own s.messages subject from)) ∙ h.rest ∙ counted (own s.messages subject first)) in
    let number : length (own s.messages subject first) ≡ length (filter (λ m. same m.subject subject) (messages_from first s.messages)) = length-map (filter (λ m. same m.subject subject) (messages_from first s.messages)) (λ (m : Message). m.seq) in
    let part : length (filter (λ m. same m.subject subject) (messages_from first s.messages)) ≤ length (messages_from first s.messages) = part-length (filter_part (λ m. same m.subject subject) (messages_from first s.messages)) in
    let few : length (messages_from first s.messages) < 2 ^ 32 = count_from s first sound in
    omega (arith, is, number, part, few)

-- the message of a head
pub head_is : (from : ℕ) (ms : List Message) (h : MessageHead) → Some h ≡ option_map head_of (find (λ x. nat_le from x.seq) ms) → (m : Message) × (Some m ≡ find (λ x. nat_le from x.seq) ms) × (h ≡ head_of m)
head_is from ms h e = go (find (λ x. nat_le from x.seq) ms) refl e
  where
    go : (o : Option Message) → find (λ x. nat_le from x.seq) ms ≡ o → Some h ≡ option_map head_of o → (m : Message) × (Some m ≡ find (λ x. nat_le from x.seq) ms) × (h ≡ head_of m)
    go None q k = absurd cc
    go (Some m) q k = (m, sym q, some_is k)

pub no_head : (from : ℕ) (ms : List Message) → None ≡ option_map head_of (find (λ x. nat_le from x.seq) ms) → None ≡ find (λ x. nat_le from x.seq) ms
no_head from ms e = go (find (λ x. nat_le from x.seq) ms) e
  where
    go : (o : Option Message) → None ≡ option_map head_of o → None ≡ o
    go None k = refl
    go (Some m) k = absurd cc

-- ---- the first that is not too old

-- the first from a sequence on is the first from its own on
own_first : (low high from : ℕ) (m : Message) (ms : List Message) → Between (λ x. x.seq) low high ms → Some m ≡ find (λ x. nat_le from x.seq) ms → Some m ≡ find (λ x. nat_le m.seq x.seq) ms
own_first low high from m [] h e = absurd cc
own_first low high from m (x ∷ xs) h e = go (nat_le from x.seq) e (own_first (x.seq + 1) high from m xs h.1)
  where
    go : (b : Bool) → Some m ≡ cond b (Some x) (find (λ y. nat_le from y.seq) xs) → (Some m ≡ find (λ y. nat_le from y.seq) xs → Some m ≡ find (λ y. nat_le m.seq y.seq) xs)
        → Some m ≡ cond (nat_le m.seq x.seq) (Some x) (find (λ y. nat_le m.seq y.seq) xs)
    go true k r = let is : m.seq ≡ x.seq = ap (λ (y : Message). y.seq) (some_is k) in k ∙ sym (ap (λ b. cond b (Some x) (find (λ y. nat_le m.seq y.seq) xs)) (le-leb m.seq x.seq (omega arith)))
    go false k r =
        let after : x.seq + 1 ≤ m.seq = (in_bounds (λ (y : Message). y.seq) (x.seq + 1) high m xs h.1 (found_in (λ y. nat_le from y.seq) m xs (sym k)).0).0 in
        r k ∙ sym (ap (λ b. cond b (Some x) (find (λ y. nat_le m.seq y.seq) xs)) (lt-leb m.seq x.seq (omega arith)))

module _ (age now : ℕ) where
  abbrev lasts : Message → Bool
  lasts m = nat_lt now (plus m.at age)

  -- those before a sequence are too old
  pub record AreOldBefore (ms : List Message) (from : ℕ) : Type 0 where
    pub same_end : filter lasts ms ≡ filter lasts (messages_from from ms)

  pub old_none : (high : ℕ) (ms : List Message) → Between (λ m. m.seq) 1 high ms → AreOldBefore ms 0
  old_none high ms h = record { same_end = ap (filter lasts) (sym (from_start high ms h)) }

  pub old_more : (high from : ℕ) (m : Message) (ms : List Message) → Between (λ x. x.seq) 1 high ms → AreOldBefore ms from → Some m ≡ find (λ x. nat_le from x.seq) ms → plus m.at age ≤ now → AreOldBefore ms (m.seq + 1)
  old_more high from m ms h k e l = record {
    same_end = k.same_end ∙ ap (filter lasts) (from_some high ms h from m e)
        ∙ ap (λ b. cond b (m ∷ filter lasts (messages_from (m.seq + 1) ms)) (filter lasts (messages_from (m.seq + 1) ms))) (le-ltb now (plus m.at age) l);
  }

  pub old_all : (high from : ℕ) (ms : List Message) → Between (λ x. x.seq) 1 high ms → AreOldBefore ms from → None ≡ find (λ x. nat_le from x.seq) ms → filter lasts ms ≡ messages_from from ms
  old_all high from ms h k e = k.same_end ∙ ap (filter lasts) (from_none high ms h from e) ∙ sym (from_none high ms h from e)

  plus_rises : (a b : ℕ) → a ≤ b → plus a age ≤ plus b age
  plus_rises a b l = omega arith

  -- from one that is not too old on none is
  young_on : (low high : ℕ) (ms : List Message) → now < plus low age → Rises (λ m. m.at) low high ms → filter lasts ms ≡ ms
  young_on low high [] l h = refl
  young_on low high (m ∷ ms) l h =
      let rises : plus low age ≤ plus m.at age = plus_rises low m.at h.0 in
      ap (λ b. cond b (m ∷ filter lasts ms) (filter lasts ms)) (lt-ltb now (plus m.at age) (omega arith)) ∙ ap (λ (xs : List Message). m ∷ xs) (young_on m.at high ms (omega arith) h.1)

  rises_from : (low high from : ℕ) (ms : List Message) → Rises (λ m. m.at) low high ms → Rises (λ m. m.at) low high (messages_from from ms)
  rises_from low high from [] h = h
  rises_from low high from (m ∷ ms) h = go (nat_le from m.seq) (rises_from m.at high from ms h.1)
    where
      lower : (ns : List Message) → Rises (λ m. m.at) m.at high ns → Rises (λ m. m.at) low high ns
      lower [] k = let a : low ≤ m.at = h.0 in let b : m.at ≤ high = k in omega (arith, a, b)
      lower (x ∷ ns) k = (let a : low ≤ m.at = h.0 in let b : m.at ≤ x.at = k.0 in omega (arith, a, b), k.1)

      go : (b : Bool) → Rises (λ m. m.at) m.at high (messages_from from ms) → Rises (λ m. m.at) low high (cond b (m ∷ messages_from from ms) (messages_from from ms))
      go true r = (h.0, r)
      go false r = lower (messages_from from ms) r

  pub young_found : (high moment from : ℕ) (m : Message) (ms : List Message) → Between (λ x. x.seq) 1 high ms → Rises (λ x. x.at) 0 moment ms → AreOldBefore ms from → Some m ≡ find (λ x. nat_le from x.seq) ms → now < plus m.at age
      → filter lasts ms ≡ messages_from m.seq ms
  young_found high moment from m ms h rises k e l = k.same_end ∙ all_of (from_some high ms h from m e) ∙ same_from
    where
      rest : List Message
      rest = messages_from (m.seq + 1) ms

      all_of : messages_from from ms ≡ m ∷ rest → filter lasts (messages_from from ms) ≡ messages_from from ms
      all_of is =
          let r : Rises (λ x. x.at) 0 moment (m ∷ rest) = subst (Rises (λ (x : Message). x.at) 0 moment) is (rises_from 0 moment from ms rises) in
          ap (filter lasts) is ∙ ap (λ b. cond b (m ∷ filter lasts rest) (filter lasts rest)) (lt-ltb now (plus m.at age) l) ∙ ap (λ (xs : List Message). m ∷ xs) (young_on m.at moment rest l r.1) ∙ sym is

      -- it is the first from its own sequence on
      same_from : messages_from from ms ≡ messages_from m.seq ms
      same_from = from_some high ms h from m e ∙ sym (from_some high ms h m.seq m own)
        where
          own : Some m ≡ find (λ x. nat_le m.seq x.seq) ms
          own = own_first 1 high from m ms h e

module _ (s : Stream) (now : ℕ) (sound : IsSound s) where
  pub young_from_start : s.config.max_age ≡ 0 → young s now ≡ messages_from 0 s.messages
  young_from_start e = young_unlimited s now sound e ∙ sym (from_start (s.last + 1) s.messages sound.ascends)

  limited : (s.config.max_age ≡ 0 → ⊥) → young s now ≡ filter (lasts s.config.max_age now) s.messages
  limited h = ap (λ b. cond b s.messages (filter (lasts s.config.max_age now) s.messages)) (ne_eqb s.config.max_age 0 h)

  module _ (from : ℕ) (h : s.config.max_age ≡ 0 → ⊥) (k : AreOldBefore s.config.max_age now s.messages from) where
    pub young_from_found : (m : Message) → Some m ≡ find (λ x. nat_le from x.seq) s.messages → nat_lt now (plus m.at s.config.max_age) ≡ true → young s now ≡ messages_from m.seq s.messages
    young_from_found m e l =
        limited h ∙ young_found s.config.max_age now (s.last + 1) s.moment from m s.messages sound.ascends sound.messages k e (ltb-true now (plus m.at s.config.max_age) l)

    pub young_from_end : None ≡ find (λ x. nat_le from x.seq) s.messages → young s now ≡ messages_from from s.messages
    young_from_end e = limited h ∙ old_all s.config.max_age now (s.last + 1) from s.messages sound.ascends k e

    pub old_next : (m : Message) → Some m ≡ find (λ x. nat_le from x.seq) s.messages → nat_lt now (plus m.at s.config.max_age) ≡ false → AreOldBefore s.config.max_age now s.messages (m.seq + 1)
    old_next m e l = old_more s.config.max_age now (s.last + 1) from m s.messages sound.ascends k e (ltb-false now (plus m.at s.config.max_age) l)

-- ---- looking

-- the first from two sequences on
find_later : (seq first : ℕ) (ms : List Message) → find (λ m. nat_le seq m.seq) (messages_from first ms) ≡ find (λ m. nat_le (max seq first) m.seq) ms
find_later seq first [] = refl
find_later seq first (m ∷ ms) = go (leb_tells first m.seq) (leb_tells seq m.seq) (find_later seq first ms)
  where
    rest : List Message
    rest = messages_from first ms

    both : (a b : Bool) → nat_le first m.seq ≡ a → nat_le seq m.seq ≡ b → nat_le (max seq first) m.seq ≡ (a && b) → find (λ x. nat_le seq x.seq) rest ≡ find (λ x. nat_le (max seq first) x.seq) ms
        → find (λ x. nat_le seq x.seq) (cond (nat_le first m.seq) (m ∷ rest) rest) ≡ cond (nat_le (max seq first) m.seq) (Some m) (find (λ x. nat_le (max seq first) x.seq) ms)
    both true true p q r h = ap (λ c. find (λ x. nat_le seq x.seq) (cond c (m ∷ rest) rest)) p ∙ ap (λ c. cond c (Some m) (find (λ x. nat_le seq x.seq) rest)) q ∙ sym (ap (λ c. cond c (Some m) (find (λ x. nat_le (max seq first) x.seq) ms)) r)
    both true false p q r h =
        ap (λ c. find (λ x. nat_le seq x.seq) (cond c (m ∷ rest) rest)) p ∙ ap (λ c. cond c (Some m) (find (λ x. nat_le seq x.seq) rest)) q ∙ h
        ∙ sym (ap (λ c. cond c (Some m) (find (λ x. nat_le (max seq first) x.seq) ms)) r)
    both false b p q r h = ap (λ c. find (λ x. nat_le seq x.seq) (cond c (m ∷ rest) rest)) p ∙ h ∙ sym (ap (λ c. cond c (Some m) (find (λ x. nat_le (max seq first) x.seq) ms)) r)

    go : ((nat_le first m.seq ≡ true) × (first ≤ m.seq)) ⊎ ((nat_le first m.seq ≡ false) × (m.seq < first)) → ((nat_le seq m.seq ≡ true) × (seq ≤ m.seq)) ⊎ ((nat_le seq m.seq ≡ false) × (m.seq < seq))
        → find (λ x. nat_le seq x.seq) rest ≡ find (λ x. nat_le (max seq first) x.seq) ms
        → find (λ x. nat_le seq x.seq) (cond (nat_le first m.seq) (m ∷ rest) rest) ≡ cond (nat_le (max seq first) m.seq) (Some m) (find (λ x. nat_le (max seq first) x.seq) ms)
    go (inl a) (inl b) h = both true true a.0 b.0 (let k : first ≤ m.seq = a.1 in let l : seq ≤ m.seq = b.1 in le-leb (max seq first) m.seq (omega arith)) h
    go (inl a) (inr b) h = both true false a.0 b.0 (let l : m.seq < seq = b.1 in lt-leb (max seq first) m.seq (omega arith)) h
    go (inr a) (inl b) h = both false true a.0 b.0 (let k : m.seq < first = a.1 in lt-leb (max seq first) m.seq (omega arith)) h
    go (inr a) (inr b) h = both false false a.0 b.0 (let k : m.seq < first = a.1 in lt-leb (max seq first) m.seq (omega arith)) h

pub find_seen : (s : Stream) (now first seq : ℕ) → IsSeenFrom s now first → find (λ m. nat_le seq m.seq) (young s now) ≡ find (λ m. nat_le (max seq first) m.seq) s.messages
find_seen s now first seq h = ap (find (λ m. nat_le seq m.seq)) h.seen ∙ find_later seq first s.messages

-- the last up to a sequence, if it is not before another
module _ (first : ℕ) where
  abbrev pub unless_before : Option Message → Option Message
  unless_before None = None
  unless_before (Some m) = cond (nat_le first m.seq) (Some m) None

  last_kept : (low high : ℕ) (d : Option Message) (ms : List Message) → ((m : Message) → d ≡ Some m → m.seq < low) → Between (λ m. m.seq) low high ms → last_or (unless_before d) (messages_from first ms) ≡ unless_before (last_or d ms)
  last_kept low high d [] below h = refl
  last_kept low high d (x ∷ ms) below h = go (leb_tells first x.seq) (last_kept (x.seq + 1) high (Some x) ms (λ m e. let is : x.seq ≡ m.seq = ap (λ (y : Message). y.seq) (some_is e) in omega arith) h.1)
    where
      rest : List Message
      rest = messages_from first ms

      nothing : x.seq < first → (o : Option Message) → d ≡ o → unless_before o ≡ None
      nothing l None e = refl
      nothing l (Some m) e =
          let b : m.seq < low = below m e in
          let k : low ≤ x.seq = h.0 in
          ap (λ c. cond c (Some m) None) (lt-leb first m.seq (omega arith))

      go : ((nat_le first x.seq ≡ true) × (first ≤ x.seq)) ⊎ ((nat_le first x.seq ≡ false) × (x.seq < first)) → last_or (unless_before (Some x)) rest ≡ unless_before (last_or (Some x) ms)
          → last_or (unless_before d) (cond (nat_le first x.seq) (x ∷ rest) rest) ≡ unless_before (last_or (Some x) ms)
      go (inl w) r = ap (λ c. last_or (unless_before d) (cond c (x ∷ rest) rest)) w.0 ∙ ap (λ c. last_or (cond c (Some x) None) rest) (sym w.0) ∙ r
      go (inr w) r =
          ap (λ c. last_or (unless_before d) (cond c (x ∷ rest) rest)) w.0 ∙ ap (λ o. last_or o rest) (nothing w.1 d refl) ∙ ap (λ c. last_or (cond c (Some x) None) rest) (sym w.0) ∙ r

last_seen : (s : Stream) (now first seq : ℕ) → IsSeenFrom s now first → last_or None (filter (λ m. nat_le m.seq seq) (young s now)) ≡ unless_before first (last_or None (filter (λ m. nat_le m.seq seq) s.messages))
last_seen s now first seq h =
    ap (λ (ms : List Message). last_or None (filter (λ m. nat_le m.seq seq) ms)) h.seen
    ∙ ap (last_or None) (filter_swap (λ m. nat_le m.seq seq) (λ m. nat_le first m.seq) s.messages)
    ∙ last_kept first 1 (s.last + 1) None (filter (λ m. nat_le m.seq seq) s.messages) (λ m e. absurd cc) (part_between (λ m. m.seq) 1 (s.last + 1) (filter_part (λ m. nat_le m.seq seq) s.messages) h.sound.ascends)

-- its head
pub last_head_seen : (s : Stream) (now first seq : ℕ) → IsSeenFrom s now first
    → option_map head_of (last_or None (filter (λ m. nat_le m.seq seq) (young s now))) ≡ option_map head_of (unless_before first (last_or None (filter (λ m. nat_le m.seq seq) s.messages)))
last_head_seen s now first seq h = ap (option_map head_of) (last_seen s now first seq h)

module _ (first : ℕ) where
  pub no_head_before : (o : Option Message) → None ≡ option_map head_of o → None ≡ option_map head_of (unless_before first o)
  no_head_before None e = refl
  no_head_before (Some m) e = absurd cc

  pub head_too_early : (h : MessageHead) (o : Option Message) → Some h ≡ option_map head_of o → h.seq < first → None ≡ option_map head_of (unless_before first o)
  head_too_early h None e l = absurd cc
  head_too_early h (Some m) e l =
      let is : h.seq ≡ m.seq = ap (λ (x : MessageHead). x.seq) (some_is e) in
      sym (ap (λ b. option_map head_of (cond b (Some m) None)) (lt-leb first m.seq (omega arith)))

  pub head_still_there : (h : MessageHead) (o : Option Message) → Some h ≡ option_map head_of o → first ≤ h.seq → Some h ≡ option_map head_of (unless_before first o)
  head_still_there h None e l = absurd cc
  head_still_there h (Some m) e l =
      let is : h.seq ≡ m.seq = ap (λ (x : MessageHead). x.seq) (some_is e) in
      e ∙ sym (ap (λ b. option_map head_of (cond b (Some m) None)) (le-leb first m.seq (omega arith)))

-- ---- order

pub seen_order : (s : Stream) (now first : ℕ) → IsSeenFrom s now first → IsInOrder (later s now)
seen_order s now first h = record {
  ascends = part_between (λ m. m.seq) 1 (s.last + 1) (young_part s now) h.sound.ascends;
  bound = h.sound.last;
}
