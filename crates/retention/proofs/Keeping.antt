-- What each limit keeps of a list from which a message goes, and of one that is within it.
use Rattle.std.proofs.Common.{◌≡◌, ℕ, suc, ◌+◌, ◌-◌, ◌<◌, ◌≤◌, Bool, true, false, cond, List, [], ◌∷◌, ◌++◌, Option, Some, None, length, drop, refl, sym, ap, ◌∙◌, subst, arith, ◌⊎◌, inl, inr}
use Rattle.std.specs.Prelude.{nat_lt, find, count_by, sum_by}
use Rattle.std.specs.List.{AllByRecursion}
use Rattle.std.proofs.lemmas.Bool.{true≢false, le-leb, lt-leb, lt-ltb, le-ltb, ltb-false}
use borrow.Author.Tests.{ltb-true}
use Rattle.std.proofs.lemmas.List.Sums.{sum_by-cons}
use Rattle.js_base.specs.Bytes.{Bytes, same, last_of}
use Rattle.js_base.proofs.Meeting.{same_is, same_self}
use Rattle.js_model.specs.declared.stream.Message.{Message}
use Rattle.js_model.specs.Streams.{size, over_limit}
use Rattle.js_model.specs.Trim.{newest, newest_at, fitting, fitting_at}
use Rattle.js_model.proofs.Named.{none_some}

-- how many messages have the subject
abbrev pub count_on : List Message → Bytes → ℕ
count_on ms subject = count_by (λ m. same m.subject subject) ms

abbrev one_on : Message → Bytes → ℕ
one_on m subject = cond (same m.subject subject) 1 0

count_on-cons : (m : Message) (ms : List Message) (subject : Bytes) → count_on (m ∷ ms) subject ≡ one_on m subject + count_on ms subject
count_on-cons m ms subject = sum_by-cons (λ x. one_on x subject) m ms

count_on-own : (m : Message) (ms : List Message) → count_on (m ∷ ms) m.subject ≡ 1 + count_on ms m.subject
count_on-own m ms = count_on-cons m ms m.subject ∙ ap (λ b. cond b 1 0 + count_on ms m.subject) (same_self m.subject)

count_on-other : (m : Message) (ms : List Message) (subject : Bytes) → same m.subject subject ≡ false → count_on (m ∷ ms) subject ≡ count_on ms subject
count_on-other m ms subject e =
    let sum : count_on (m ∷ ms) subject ≡ 0 + count_on ms subject = count_on-cons m ms subject ∙ ap (λ b. cond b 1 0 + count_on ms subject) e in
    let none : 0 + count_on ms subject ≡ count_on ms subject = omega arith in
    sum ∙ none

-- ---- the limit of each subject

-- each subject is within it
abbrev pub IsFew : ℕ → List Message → Type 0
IsFew n ms = (subject : Bytes) → count_on ms subject ≤ n

pub few_rest : (n : ℕ) (m : Message) (ms : List Message) → IsFew n (m ∷ ms) → IsFew n ms
few_rest n m ms h subject =
    let a : count_on (m ∷ ms) subject ≤ n = h subject in
    let b : count_on (m ∷ ms) subject ≡ one_on m subject + count_on ms subject = count_on-cons m ms subject in
    omega arith

pub newest_few : (n : ℕ) (ms : List Message) → IsFew n ms → newest n ms ≡ ms
newest_few n [] h = refl
newest_few n (m ∷ later) h =
    let a : count_on (m ∷ later) m.subject ≤ n = h m.subject in
    let b : count_on (m ∷ later) m.subject ≡ 1 + count_on later m.subject = count_on-own m later in
    ap (λ b. cond b (m ∷ newest n later) (newest n later)) (lt-ltb (count_on later m.subject) n (omega arith)) ∙ ap (λ l. m ∷ l) (newest_few n later (few_rest n m later h))

-- a subject of none of the messages has none, and that of one is within the limit if none is over it
few_or_none : (n : ℕ) (all ms : List Message) (subject : Bytes) → find (λ m. nat_lt n (count_on all m.subject)) ms ≡ None → (count_on ms subject ≡ 0) ⊎ (count_on all subject ≤ n)
few_or_none n all [] subject e = inl refl
few_or_none n all (m ∷ ms) subject e = go (few_or_none n all ms subject) (nat_lt n (count_on all m.subject)) refl (same m.subject subject) refl e
  where
    go : (find (λ m. nat_lt n (count_on all m.subject)) ms ≡ None → (count_on ms subject ≡ 0) ⊎ (count_on all subject ≤ n)) → (over : Bool) → nat_lt n (count_on all m.subject) ≡ over → (own : Bool) → same m.subject subject ≡ own
        → cond over (Some m) (find (λ m. nat_lt n (count_on all m.subject)) ms) ≡ None → (count_on (m ∷ ms) subject ≡ 0) ⊎ (count_on all subject ≤ n)
    go more true over own o f = absurd (none_some (sym f))
    go more false over true o f = inr (subst (λ t. count_on all t ≤ n) (same_is m.subject subject o) (ltb-false n (count_on all m.subject) over))
    go more false over false o f = other (more f)
      where
        other : (count_on ms subject ≡ 0) ⊎ (count_on all subject ≤ n) → (count_on (m ∷ ms) subject ≡ 0) ⊎ (count_on all subject ≤ n)
        other (inl z) = inl (count_on-other m ms subject o ∙ z)
        other (inr l) = inr l

pub few_from : (n : ℕ) (ms : List Message) → find (λ m. nat_lt n (count_on ms m.subject)) ms ≡ None → IsFew n ms
few_from n ms e subject = go (few_or_none n ms ms subject e)
  where
    go : (count_on ms subject ≡ 0) ⊎ (count_on ms subject ≤ n) → count_on ms subject ≤ n
    go (inl z) = omega arith
    go (inr l) = l

-- messages of other subjects than this one's
abbrev AreOthers : Message → List Message → Type 0
AreOthers m xs = AllByRecursion (λ x. same m.subject x.subject ≡ false) xs

count_on-without : (front back : List Message) (m : Message) (subject : Bytes) → same m.subject subject ≡ false → count_on (front ++ m ∷ back) subject ≡ count_on (front ++ back) subject
count_on-without [] back m subject e = count_on-other m back subject e
count_on-without (x ∷ front) back m subject e =
    count_on-cons x (front ++ m ∷ back) subject ∙ ap (λ k. one_on x subject + k) (count_on-without front back m subject e) ∙ sym (count_on-cons x (front ++ back) subject)

-- a message that has as many of its subject after it goes, and the others stay as they do without it
pub newest-without : (n : ℕ) (front back : List Message) (m : Message) → AreOthers m front → n ≤ count_on back m.subject → newest n (front ++ back) ≡ newest n (front ++ m ∷ back)
newest-without n [] back m h l = sym (ap (λ b. cond b (m ∷ newest n back) (newest n back)) (le-ltb (count_on back m.subject) n l))
newest-without n (x ∷ front) back m h l =
    ap (λ k. cond (nat_lt k n) (x ∷ newest n (front ++ back)) (newest n (front ++ back))) (sym (count_on-without front back m x.subject h.0))
    ∙ ap (λ ms. cond (nat_lt (count_on (front ++ m ∷ back) x.subject) n) (x ∷ ms) ms) (newest-without n front back m h.1 l)

-- those before the first message of a subject that has too many are of other subjects
others_before : (n : ℕ) (all front : List Message) (m : Message) → AllByRecursion (λ x. nat_lt n (count_on all x.subject) ≡ false) front → nat_lt n (count_on all m.subject) ≡ true → AreOthers m front
others_before n all [] m h over = tt
others_before n all (x ∷ front) m h over = (go (same m.subject x.subject) refl, others_before n all front m h.1 over)
  where
    go : (b : Bool) → same m.subject x.subject ≡ b → same m.subject x.subject ≡ false
    go true e = absurd (true≢false (sym over ∙ ap (λ t. nat_lt n (count_on all t)) (same_is m.subject x.subject e) ∙ h.0))
    go false e = e

same_flip : (a b : Bytes) → same a b ≡ false → same b a ≡ false
same_flip a b e = go (same b a) refl
  where
    go : (x : Bool) → same b a ≡ x → same b a ≡ false
    go true f = absurd (true≢false (sym (same_self b) ∙ ap (λ t. same t b) (same_is b a f) ∙ e))
    go false f = f

-- as many as the limit allows come after it
enough_after : (n : ℕ) (front back : List Message) (m : Message) → AreOthers m front → n < count_on (front ++ m ∷ back) m.subject → n ≤ count_on back m.subject
enough_after n [] back m h l = let own : count_on (m ∷ back) m.subject ≡ 1 + count_on back m.subject = count_on-own m back in omega arith
enough_after n (x ∷ front) back m h l =
    enough_after n front back m h.1 (subst (λ k. n < k) (count_on-other x (front ++ m ∷ back) m.subject (same_flip m.subject x.subject h.0)) l)

-- the test by which a subject has too many messages
abbrev pub is_crowded : Option ℕ → List Message → Message → Bool
is_crowded limit ms m = over_limit (count_on ms m.subject) limit

pub newest_at_few : (limit : Option ℕ) (ms : List Message) → find (is_crowded limit ms) ms ≡ None → newest_at limit ms ≡ ms
newest_at_few None ms e = refl
newest_at_few (Some n) ms e = newest_few n ms (few_from n ms e)

-- so do fewer messages
pub newest_at_rest : (limit : Option ℕ) (m : Message) (ms : List Message) → find (is_crowded limit (m ∷ ms)) (m ∷ ms) ≡ None → newest_at limit ms ≡ ms
newest_at_rest None m ms e = refl
newest_at_rest (Some n) m ms e = newest_few n ms (few_rest n m ms (few_from n (m ∷ ms) e))

pub newest_at-without : (limit : Option ℕ) (front back : List Message) (m : Message) → AllByRecursion (λ x. is_crowded limit (front ++ m ∷ back) x ≡ false) front → is_crowded limit (front ++ m ∷ back) m ≡ true
    → newest_at limit (front ++ back) ≡ newest_at limit (front ++ m ∷ back)
newest_at-without None front back m h over = absurd (true≢false (sym over))
newest_at-without (Some n) front back m h over =
    let others : AreOthers m front = others_before n (front ++ m ∷ back) front m h over in
    newest-without n front back m others (enough_after n front back m others (ltb-true n (count_on (front ++ m ∷ back) m.subject) over))

-- ---- the limit on messages

pub last_of_few : {X : Type 0} (n : ℕ) (xs : List X) → length xs ≤ n → last_of n xs ≡ xs
last_of_few n xs l = ap (λ k. drop k xs) (let none : length xs - n ≡ 0 = omega arith in none)

pub last_of-without : {X : Type 0} (n : ℕ) (x : X) (xs : List X) → n < length (x ∷ xs) → last_of n xs ≡ last_of n (x ∷ xs)
last_of-without n x xs l = ap (λ k. drop k (x ∷ xs)) (let one : suc (length xs - n) ≡ suc (length xs) - n = omega arith in one)

-- ---- the limit on bytes

pub fitting_at_few : (limit : Option ℕ) (ms : List Message) → over_limit (sum_by size ms) limit ≡ false → fitting_at limit ms ≡ ms
fitting_at_few None ms e = refl
fitting_at_few (Some n) [] e = refl
fitting_at_few (Some n) (m ∷ ms) e = ap (λ b. cond b (m ∷ ms) (fitting n ms)) (le-leb (sum_by size (m ∷ ms)) n (ltb-false n (sum_by size (m ∷ ms)) e))

pub fitting_at-without : (limit : Option ℕ) (m : Message) (ms : List Message) → over_limit (sum_by size (m ∷ ms)) limit ≡ true → fitting_at limit ms ≡ fitting_at limit (m ∷ ms)
fitting_at-without None m ms e = absurd (true≢false (sym e))
fitting_at-without (Some n) m ms e = sym (ap (λ b. cond b (m ∷ ms) (fitting n ms)) (lt-leb (sum_by size (m ∷ ms)) n (ltb-true n (sum_by size (m ∷ ms)) e)))
