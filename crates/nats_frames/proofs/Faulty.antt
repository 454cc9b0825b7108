-- What is read as broken has that fault, both ways.
use Rattle.std.proofs.Common.{ℕ, ◌≡◌, ◌+◌, ◌==◌, ◌<◌, ◌≤◌, Bool, true, false, cond, [], ◌∷◌, ◌++◌, length, take, drop, get_or, nat_lt, refl, sym, ◌∙◌, ap, subst, arith, inl, inr, Option, Some, None, length-append, append_assoc}
use Rattle.std.specs.Prelude.{Result, Ok, Err}
use Rattle.std.proofs.lemmas.Bool.{ltb-true, ltb-false, lt-ltb, le-ltb, eqb-true, eqb-false, eq-eqb, ne_eqb, cases_lt, not-true, not_from_false}
use Rattle.std.proofs.lemmas.List.{take-append-drop, length-take-le, get_or_append_left, get_or_at}
use Rattle.js_base.specs.Bytes.{Bytes}
use Rattle.nats_frames.specs.declared.op.Op.{Op}
use Rattle.nats_frames.specs.declared.op.Op.TheVariants.{Pub}
use Rattle.nats_frames.specs.declared.fault.Fault.{Fault}
use Rattle.nats_frames.specs.declared.fault.Fault.TheVariants.{UnknownOp, LineTooLong, BadArgs, PayloadTooBig, BadEnd}
use Rattle.nats_frames.specs.Grammar.{Lacks, Line, ConnectLine, PubLine, HPubLine, SubLine, UnsubLine, PingLine, PongLine, counted, Says, IsLine, HasWords, HasNoLine, HasNoName, HasBadArgs, HasBigPayload, HasBadEnd, Tells, IsWrongAt, is_name, IsFaulty}
use Rattle.nats_frames.specs.Reading.{split_at, without_cr, words_at, Reading, Whole, Partial, Broken, ended, payload_at, parted, behind_line, line_at, at_line, op_at}
use Rattle.nats_frames.proofs.Splits.{split_found, lacking_split, lacks_at}
use Rattle.nats_frames.proofs.Wording.{says_read, read_says}
use Rattle.nats_frames.proofs.Unsaid.{first_word, word_cut, words_unknown, words_known, words_bad}
use Rattle.nats_frames.proofs.Opening.{line_made, line_read, tells_read}
use Rattle.nats_frames.proofs.Readings.{payload_there}
use Rattle.nats_frames.proofs.Founds.{chosen}

-- ---- after a payload

-- the fault names the first wrong byte, counted from the place
record WrongEnd (place : ℕ) (bytes : Bytes) (fault : Fault) : Type 0 where
  behind : ℕ
  wrong : IsWrongAt bytes behind
  fault_is : BadEnd (place + behind) ≡ fault

wrong_at : (place behind : ℕ) (bytes : Bytes) (fault : Fault) (at : ℕ) → IsWrongAt bytes behind → at ≡ place + behind → Broken (BadEnd at) ≡ Broken fault → WrongEnd place bytes fault
wrong_at place behind bytes fault at wrong is e = record { behind = behind; wrong = wrong; fault_is = cc }

ended_broken : (made : Op) (place : ℕ) (bytes : Bytes) (fault : Fault) → ended made place bytes ≡ Broken fault → WrongEnd place bytes fault
ended_broken made place [] fault e = absurd (cc)
ended_broken made place (b ∷ []) fault e =
    elim (chosen (b == 13) _ _ _ e) [
      | inl p ↦ let no : Partial ≡ Broken fault = p.1 in absurd (cc)
      | inr p ↦ wrong_at place 0 (b ∷ []) fault place (eqb-false b 13 p.0, refl) (omega arith) p.1
    ]
ended_broken made place (b ∷ c ∷ more) fault e =
    elim (chosen (b == 13) _ _ _ e) [
      | inl p ↦ elim (chosen (c == 10) _ _ _ p.1) [
        | inl q ↦ let no : Whole made more ≡ Broken fault = q.1 in absurd (cc)
        | inr q ↦ wrong_at place 1 (b ∷ c ∷ more) fault (place + 1) (inr (eqb-true b 13 p.0, eqb-false c 10 q.0, refl)) refl q.1
      ]
      | inr p ↦ wrong_at place 0 (b ∷ c ∷ more) fault place (inl (eqb-false b 13 p.0, refl)) (omega arith) p.1
    ]

abbrev bad_end : ℕ → Reading
bad_end place = Broken (BadEnd place)

wrong_broken : (made : Op) (place behind : ℕ) (bytes : Bytes) → IsWrongAt bytes behind → ended made place bytes ≡ Broken (BadEnd (place + behind))
wrong_broken made place behind [] h = absurd h
wrong_broken made place behind (b ∷ []) h =
    ap (λ t. cond t Partial (bad_end place)) (ne_eqb b 13 h.0) ∙ ap bad_end (omega (arith, h.1))
wrong_broken made place behind (b ∷ c ∷ more) h =
    elim h [
      | inl f ↦ ap (λ t. cond t (cond (c == 10) (Whole made more) (bad_end (place + 1))) (bad_end place)) (ne_eqb b 13 f.0) ∙ ap bad_end (omega (arith, f.1))
      | inr f ↦ ap (λ t. cond t (cond (c == 10) (Whole made more) (bad_end (place + 1))) (bad_end place)) (eq-eqb b 13 f.0)
          ∙ ap (λ t. cond t (Whole made more) (bad_end (place + 1))) (ne_eqb c 10 f.1) ∙ ap bad_end (omega (arith, f.2))
    ]

-- ---- after a line that counts bytes

-- the bytes are a payload of the line's size
record Counts (said : Line) (size : ℕ) : Type 0 where
  made : Bytes → Op
  reads : (len : ℕ) (rest : Bytes) → behind_line len (Ok said) rest ≡ payload_at len size made rest

counts : (said : Line) (size : ℕ) → counted said ≡ Some size → Counts said size
counts (ConnectLine text) size e = absurd (cc)
counts (PubLine subject reply n) size e =
    let is : n ≡ size = cc in
    record { made = Pub subject reply; reads = λ len rest. ap (λ k. payload_at len k (Pub subject reply) rest) is }
counts (HPubLine subject reply header n) size e =
    let is : n ≡ size = cc in
    record { made = parted subject reply header; reads = λ len rest. ap (λ k. payload_at len k (parted subject reply header) rest) is }
counts (SubLine subject queue sid) size e = absurd (cc)
counts (UnsubLine sid max) size e = absurd (cc)
counts PingLine size e = absurd (cc)
counts PongLine size e = absurd (cc)

-- after a line that counts none there is no fault
has_size : (said : Line) (len : ℕ) (rest : Bytes) (fault : Fault) → behind_line len (Ok said) rest ≡ Broken fault → (size : ℕ) × (counted said ≡ Some size)
has_size (ConnectLine text) len rest fault e = absurd (cc)
has_size (PubLine subject reply size) len rest fault e = (size, refl)
has_size (HPubLine subject reply header size) len rest fault e = (size, refl)
has_size (SubLine subject queue sid) len rest fault e = absurd (cc)
has_size (UnsubLine sid max) len rest fault e = absurd (cc)
has_size PingLine len rest fault e = absurd (cc)
has_size PongLine len rest fault e = absurd (cc)

payload_big : (place size : ℕ) (made : Bytes → Op) (tail : Bytes) → 1048576 < size → payload_at place size made tail ≡ Broken (PayloadTooBig size)
payload_big place size made tail big =
    ap (λ t. cond t (Broken (PayloadTooBig size)) (cond (nat_lt (length tail) size) Partial (ended (made (take size tail)) (place + size) (drop size tail)))) (lt-ltb 1048576 size big)

-- ---- what is broken has the fault

-- the fault that is read is the one that is there
read_so : (bytes : Bytes) (fault other : Fault) → Broken fault ≡ Broken other → IsFaulty fault bytes → IsFaulty other bytes
read_so bytes fault other e h = let is : fault ≡ other = cc in subst (λ (f : Fault). IsFaulty f bytes) is h

big_payload : (bytes words : Bytes) (said : Line) (size : ℕ) → HasWords words bytes → Says said words → counted said ≡ Some size → 1048576 < size → HasBigPayload size bytes
big_payload bytes words said size first says n big = record { words = words; said = said; first = first; says = says; counts = n; big = big }

-- a payload of this size is there, and its end is wrong
end_faulty : (line rest : Bytes) (said : Line) (size : ℕ) (fault : Fault) → Tells said line → counted said ≡ Some size → size ≤ 1048576 → size ≤ length rest →
    WrongEnd (length line + size) (drop size rest) fault → IsFaulty fault (line ++ rest)
end_faulty line rest said size fault told n small there end =
    let body = take size rest in
    let len : length body ≡ size = length-take-le size rest there in
    let bad : HasBadEnd (length line + size + end.behind) (line ++ rest) = record {
      said = said;
      line = line;
      body = body;
      tail = drop size rest;
      behind = end.behind;
      told = told;
      counts = n ∙ ap (λ (k : ℕ). Some k) (sym len);
      small = omega (arith, len, small);
      whole = ap (λ r. line ++ r) (sym (take-append-drop size rest));
      wrong = end.wrong;
      place_is = omega (arith, len);
    } in
    subst (λ (f : Fault). IsFaulty f (line ++ rest)) end.fault_is bad

said_faulty : (words line rest : Bytes) (said : Line) (fault : Fault) → IsLine words line → Says said words → behind_line (length line) (Ok said) rest ≡ Broken fault →
    IsFaulty fault (line ++ rest)
said_faulty words line rest said fault is_line says e =
    let n = has_size said (length line) rest fault e in
    let size = n.0 in
    let c = counts said size n.1 in
    let first : HasWords words (line ++ rest) = record { line = line; more = rest; is_line = is_line; whole = refl } in
    let told : Tells said line = record { words = words; says = says; is_line = is_line } in
    elim (chosen (nat_lt 1048576 size) _ _ _ (sym (c.reads (length line) rest) ∙ e)) [
      | inl p ↦ read_so (line ++ rest) (PayloadTooBig size) fault p.1 (big_payload (line ++ rest) words said size first says n.1 (ltb-true 1048576 size p.0))
      | inr p ↦ elim (chosen (nat_lt (length rest) size) _ _ _ p.1) [
        | inl q ↦ let no : Partial ≡ Broken fault = q.1 in absurd (cc)
        | inr q ↦ end_faulty line rest said size fault told n.1 (ltb-false 1048576 size p.0) (ltb-false (length rest) size q.0)
            (ended_broken (c.made (take size rest)) (length line + size) (drop size rest) fault q.1)
      ]
    ]

words_faulty : (words bytes : Bytes) (fault : Fault) → HasWords words bytes → words_at words ≡ Err fault → IsFaulty fault bytes
words_faulty words bytes fault first e = by (is_name (first_word words)) refl
  where
    by : (t : Bool) → is_name (first_word words) ≡ t → IsFaulty fault bytes
    by true known =
        let bad : HasBadArgs bytes = record {
          words = words;
          word = first_word words;
          first = first;
          cut = word_cut words;
          known = known;
          none = λ said says. let read : words_at words ≡ Ok said = says_read said words says in absurd (cc);
        } in
        subst (λ (f : Fault). IsFaulty f bytes) (sym (words_known (first_word words) words (word_cut words) known fault e)) bad
    by false unknown =
        let bad : HasNoName bytes = record {
          words = words;
          word = first_word words;
          first = first;
          cut = word_cut words;
          unknown = not_from_false (is_name (first_word words)) unknown;
        } in
        let read : words_at words ≡ Err UnknownOp = words_unknown (first_word words) words (word_cut words) unknown in
        let fault_is : UnknownOp ≡ fault = cc in
        subst (λ (f : Fault). IsFaulty f bytes) fault_is bad

-- ---- the line, and what it begins

line_faulty : (words line rest : Bytes) (o : Result Line Fault) (fault : Fault) → IsLine words line → words_at words ≡ o → behind_line (length line) o rest ≡ Broken fault →
    IsFaulty fault (line ++ rest)
line_faulty words line rest (Ok said) fault is_line is e = said_faulty words line rest said fault is_line (read_says said words is) e
line_faulty words line rest (Err other) fault is_line is e =
    let fault_is : other ≡ fault = cc in
    words_faulty words (line ++ rest) fault (record { line = line; more = rest; is_line = is_line; whole = refl }) (is ∙ ap (λ (f : Fault). Err f) fault_is)

text_faulty : (text rest : Bytes) (fault : Fault) → Lacks 10 text → length text < 4098 → behind_line (length text + 1) (line_at text) rest ≡ Broken fault →
    IsFaulty fault (text ++ 10 ∷ rest)
text_faulty text rest fault first short e =
    let line = text ++ 10 ∷ [] in
    let len : length text + 1 ≡ length line = sym (length-append text (10 ∷ [])) in
    subst (λ (b : Bytes). IsFaulty fault b) (append_assoc text (10 ∷ []) rest)
    (line_faulty (without_cr text) line rest (line_at text) fault (line_made text first short) refl
    (subst (λ (n : ℕ). behind_line n (line_at text) rest ≡ Broken fault) len e))

no_line : (bytes : Bytes) → 4098 ≤ length bytes → Lacks 10 bytes → HasNoLine bytes
no_line bytes long lacks = record { long = long; none = λ k lt. lacks_at 10 bytes lacks k (omega arith) }

-- a first line that is too long
long_line : (bytes text rest : Bytes) → bytes ≡ text ++ 10 ∷ rest → Lacks 10 text → 4098 ≤ length text → HasNoLine bytes
long_line bytes text rest is lacks long =
    record {
      long = omega (arith, ap length is, length-append text (10 ∷ rest));
      none = λ k lt at. lacks_at 10 text lacks k (omega arith) (sym (get_or_append_left text (10 ∷ rest) 0 k (omega arith)) ∙ ap (λ x. get_or x k 0) (sym is) ∙ at);
    }

at_faulty : (bytes : Bytes) (s : Option (Bytes × Bytes)) (fault : Fault) → split_at 10 bytes ≡ s → at_line (length bytes) s ≡ Broken fault → IsFaulty fault bytes
at_faulty bytes None fault is e =
    elim (chosen (nat_lt (length bytes) 4098) _ _ _ e) [
      | inl p ↦ let no : Partial ≡ Broken fault = p.1 in absurd (cc)
      | inr p ↦ read_so bytes LineTooLong fault p.1 (no_line bytes (ltb-false (length bytes) 4098 p.0) (lacking_split 10 bytes is))
    ]
at_faulty bytes (Some s) fault is e =
    let apart = split_found 10 bytes s.0 s.1 is in
    elim (chosen (nat_lt (length s.0) 4098) _ _ _ e) [
      | inl p ↦ subst (λ (b : Bytes). IsFaulty fault b) (sym apart.whole) (text_faulty s.0 s.1 fault apart.first (ltb-true (length s.0) 4098 p.0) p.1)
      | inr p ↦ read_so bytes LineTooLong fault p.1 (long_line bytes s.0 s.1 apart.whole apart.first (ltb-false (length s.0) 4098 p.0))
    ]

pub faulty_found : (bytes : Bytes) (fault : Fault) → op_at bytes ≡ Broken fault → IsFaulty fault bytes
unfolding op_at
faulty_found bytes fault e = at_faulty bytes (split_at 10 bytes) fault refl e

-- ---- what has the fault is broken

no_line_split : (bytes : Bytes) → HasNoLine bytes → (s : Option (Bytes × Bytes)) → split_at 10 bytes ≡ s → at_line (length bytes) s ≡ Broken LineTooLong
no_line_split bytes h None is = ap (λ b. cond b Partial (Broken LineTooLong)) (le-ltb (length bytes) 4098 h.long)
no_line_split bytes h (Some s) is =
    let apart = split_found 10 bytes s.0 s.1 is in
    elim (cases_lt (length s.0) 4098) [
      | inl lt ↦ absurd (h.none (length s.0) lt (ap (λ x. get_or x (length s.0) 0) apart.whole ∙ get_or_at s.0 10 s.1 0 (length s.0) refl))
      | inr le ↦ ap (λ b. cond b (behind_line (length s.0 + 1) (line_at s.0) s.1) (Broken LineTooLong)) (le-ltb (length s.0) 4098 le)
    ]

no_line_broken : (bytes : Bytes) → HasNoLine bytes → op_at bytes ≡ Broken LineTooLong
unfolding op_at
no_line_broken bytes h = no_line_split bytes h (split_at 10 bytes) refl

-- the first line's text decides
first_read : (words bytes : Bytes) (h : HasWords words bytes) (o : Result Line Fault) → words_at words ≡ o → op_at bytes ≡ behind_line (length h.line) o h.more
first_read words bytes h o is = ap op_at h.whole ∙ line_read words h.line h.more h.is_line ∙ ap (λ r. behind_line (length h.line) r h.more) is

pub faulty_again : (bytes : Bytes) (fault : Fault) → IsFaulty fault bytes → op_at bytes ≡ Broken fault
faulty_again bytes UnknownOp h = first_read h.words bytes h.first (Err UnknownOp) (words_unknown h.word h.words h.cut (not-true (is_name h.word) h.unknown))
faulty_again bytes LineTooLong h = no_line_broken bytes h
faulty_again bytes BadArgs h = first_read h.words bytes h.first (Err BadArgs) (words_bad h.word h.words h.cut h.known h.none)
faulty_again bytes (PayloadTooBig size) h =
    let c = counts h.said size h.counts in
    first_read h.words bytes h.first (Ok h.said) (says_read h.said h.words h.says) ∙ c.reads (length h.first.line) h.first.more
    ∙ payload_big (length h.first.line) size c.made h.first.more h.big
faulty_again bytes (BadEnd place) h =
    let c = counts h.said (length h.body) h.counts in
    ap op_at h.whole ∙ tells_read h.said h.line (h.body ++ h.tail) h.told ∙ c.reads (length h.line) (h.body ++ h.tail)
    ∙ payload_there (length h.line) c.made h.body h.tail h.small
    ∙ wrong_broken (c.made h.body) (length h.line + length h.body) h.behind h.tail h.wrong ∙ ap bad_end (sym h.place_is)
