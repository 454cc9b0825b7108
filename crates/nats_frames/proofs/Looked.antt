-- What a look at the first bytes shows.
use Rattle.std.proofs.Common.{ℕ, ◌≡◌, ◌≢◌, ◌+◌, ◌-◌, ◌<◌, ◌≤◌, Bool, true, false, cond, [], ◌∷◌, ◌++◌, length, take, drop, get_or, refl, sym, ◌∙◌, ap, ap₂, subst, arith, inl, inr, Option, Some, None, length-append, append_assoc}
use Rattle.std.specs.Prelude.{Result, Ok, Err}
use Rattle.std.proofs.lemmas.Bool.{lt-ltb, le-ltb, cases_lt}
use Rattle.std.proofs.lemmas.List.{append-nil, take-append-drop, take-take, drop-drop, drop-take, length-take-le, length-drop, get_or_append_left, get_or_at, nil_from_length}
use Rattle.js_base.specs.Bytes.{Bytes, same}
use Rattle.nats_frames.specs.declared.fault.Fault.{Fault}
use Rattle.nats_frames.specs.declared.fault.Fault.TheVariants.{LineTooLong, PayloadTooBig, BadEnd}
use Rattle.nats_frames.specs.declared.line.Line.{Line as Lent}
use Rattle.nats_frames.specs.declared.look.Look.TheVariants as looks
use Rattle.nats_frames.specs.declared.look.Ending.TheVariants as endings
use Rattle.nats_frames.specs.Fields.{span, part}
use Rattle.nats_frames.specs.Grammar.{Lacks, Line, counted}
use Rattle.nats_frames.specs.Reading.{split_at, without_cr, line_at, Whole, Partial, Broken, payload_at, behind_line, at_line, op_at}
use Rattle.nats_frames.specs.Shapes.{seen, parts_in, IsInside}
use Rattle.nats_frames.specs.Looking.{IsScanned, IsQuiet, IsLineTo, Looks, Ends}
use Rattle.nats_frames.proofs.Splits.{split_found, split_lacking, lacks_from}
use Rattle.nats_frames.proofs.Opening.{at_first}
use Rattle.nats_frames.proofs.Longer.{StandsSo, stands_within}
use Rattle.nats_frames.proofs.Paying.{too_big, paid_whole, paid_partial, paid_wrong, made_of, counted_read, alone_read, counted_parts}

-- ---- the first line

-- what the line says, as it is read of its text
abbrev pub said_at : Bytes → ℕ → Lent → Line
said_at bytes end line = seen (without_cr (take end bytes)) line

-- a line is its text, and then at most a CR
cr_apart : (text : Bytes) → (cr : Bytes) × (text ≡ without_cr text ++ cr)
cr_apart text = by (same (drop (length text - 1) text) (13 ∷ []))
  where
    by : (t : Bool) → (cr : Bytes) × (text ≡ cond t (take (length text - 1) text) text ++ cr)
    by true = (drop (length text - 1) text, sym (take-append-drop (length text - 1) text))
    by false = ([], sym (append-nil text))

-- what is read after the first LF, whatever follows
line_reads : (bytes : Bytes) (end : ℕ) → end < length bytes → end < 4098 → split_at 10 bytes ≡ Some (take end bytes, drop (end + 1) bytes) → (more : Bytes) →
    op_at (bytes ++ more) ≡ behind_line (end + 1) (line_at (take end bytes)) (drop (end + 1) bytes ++ more)
line_reads bytes end within short first more =
    let text = take end bytes in
    let rest = drop (end + 1) bytes in
    let apart = split_found 10 bytes text rest first in
    let n : length text ≡ end = length-take-le end bytes (omega arith) in
    ap op_at (ap (λ b. b ++ more) apart.whole ∙ append_assoc text (10 ∷ rest) more) ∙ at_first text (rest ++ more) apart.first (omega arith)
    ∙ ap (λ k. behind_line (k + 1) (line_at text) (rest ++ more)) n

said_reads : (bytes : Bytes) (end : ℕ) (line : Lent) → IsLineTo bytes end line → (more : Bytes) →
    op_at (bytes ++ more) ≡ behind_line (end + 1) (Ok (said_at bytes end line)) (drop (end + 1) bytes ++ more)
said_reads bytes end line h more =
    line_reads bytes end h.within h.short h.first more ∙ ap (λ o. behind_line (end + 1) o (drop (end + 1) bytes ++ more)) h.says

-- of the bytes as they are
at_once : (bytes : Bytes) (end : ℕ) (o : Result Line Fault) → ((more : Bytes) → op_at (bytes ++ more) ≡ behind_line (end + 1) o (drop (end + 1) bytes ++ more)) →
    op_at bytes ≡ behind_line (end + 1) o (drop (end + 1) bytes)
at_once bytes end o reads = ap op_at (sym (append-nil bytes)) ∙ reads [] ∙ ap (behind_line (end + 1) o) (append-nil (drop (end + 1) bytes))

said_now : (bytes : Bytes) (end : ℕ) (line : Lent) → IsLineTo bytes end line → op_at bytes ≡ behind_line (end + 1) (Ok (said_at bytes end line)) (drop (end + 1) bytes)
said_now bytes end line h = at_once bytes end (Ok (said_at bytes end line)) (said_reads bytes end line h)

-- the line as it stands in all bytes of its operation
in_all : (bytes : Bytes) (end len : ℕ) (line : Lent) → IsLineTo bytes end line → end ≤ len → StandsSo (take len bytes) (without_cr (take end bytes)) line
in_all bytes end len line h le = let cr = cr_apart (take end bytes) in stands_within bytes (without_cr (take end bytes)) cr.0 end len line cr.1 le h.stands

-- a line with a fault
pub line_broken : (bytes : Bytes) (end : ℕ) (fault : Fault) → end < length bytes → end < 4098 → split_at 10 bytes ≡ Some (take end bytes, drop (end + 1) bytes) →
    line_at (take end bytes) ≡ Err fault → op_at bytes ≡ Broken fault
line_broken bytes end fault within short first e =
    at_once bytes end (line_at (take end bytes)) (line_reads bytes end within short first) ∙ ap (λ o. behind_line (end + 1) o (drop (end + 1) bytes)) e

-- ---- an operation of one line

pub alone_looks : (bytes : Bytes) (end : ℕ) (line : Lent) → IsLineTo bytes end line → ((words : Bytes) → None ≡ counted (seen words line)) →
    Looks bytes (looks.Whole (record { line = line; len = end + 1 }) (end + 1))
alone_looks bytes end line h none =
    let within = h.within in
    let all = take (end + 1) bytes in
    let s = in_all bytes end (end + 1) line h (omega arith) in
    let nothing : counted (seen all line) ≡ None = sym (none all) in (
      omega arith,
      record { fields = s.stands; payload = subst (IsInside all (end + 1)) (none all) tt },
      said_now bytes end line h ∙ ap (λ l. behind_line (end + 1) (Ok l) (drop (end + 1) bytes)) (sym s.same) ∙ alone_read all line (end + 1) (drop (end + 1) bytes) nothing,
    )

-- ---- an operation with a payload

-- what is read of it, whatever follows
payload_reads : (bytes : Bytes) (end size : ℕ) (line : Lent) → IsLineTo bytes end line → ((words : Bytes) → Some size ≡ counted (seen words line)) → (more : Bytes) →
    op_at (bytes ++ more) ≡ payload_at (end + 1) size (made_of (said_at bytes end line)) (drop (end + 1) bytes ++ more)
payload_reads bytes end size line h counts more =
    said_reads bytes end line h more
    ∙ counted_read (said_at bytes end line) size (end + 1) (drop (end + 1) bytes ++ more) (sym (counts (without_cr (take end bytes))))

payload_now : (bytes : Bytes) (end size : ℕ) (line : Lent) → IsLineTo bytes end line → ((words : Bytes) → Some size ≡ counted (seen words line)) →
    op_at bytes ≡ payload_at (end + 1) size (made_of (said_at bytes end line)) (drop (end + 1) bytes)
payload_now bytes end size line h counts =
    said_now bytes end line h ∙ counted_read (said_at bytes end line) size (end + 1) (drop (end + 1) bytes) (sym (counts (without_cr (take end bytes))))

pub big_looks : (bytes : Bytes) (end size : ℕ) (line : Lent) → IsLineTo bytes end line → ((words : Bytes) → Some size ≡ counted (seen words line)) → 1048576 < size →
    op_at bytes ≡ Broken (PayloadTooBig size)
big_looks bytes end size line h counts big =
    payload_now bytes end size line h counts ∙ too_big (end + 1) size (made_of (said_at bytes end line)) (drop (end + 1) bytes) big

-- the payload as it stands in all bytes of the operation
body_in : (bytes : Bytes) (start size : ℕ) → part (take (start + size + 2) bytes) (span start size) ≡ take size (drop start bytes)
body_in bytes start size =
    let n : start + size - start ≡ size = omega arith in
    let m : start + size + 2 ≡ start + (size + 2) = omega arith in
    ap (λ k. take k (drop start (take (start + size + 2) bytes))) n ∙ ap (λ k. take size (drop start (take k bytes))) m
    ∙ ap (take size) (drop-take start (size + 2) bytes) ∙ take-take size (size + 2) (drop start bytes) (omega arith)

pub whole_looks : (bytes : Bytes) (end size : ℕ) (line : Lent) → IsLineTo bytes end line → ((words : Bytes) → Some size ≡ counted (seen words line)) → size ≤ 1048576 →
    Ends size (drop (end + 1) bytes) endings.Whole → Looks bytes (looks.Whole (record { line = line; len = end + 1 }) (end + 1 + size + 2))
whole_looks bytes end size line h counts small e =
    let len = end + 1 + size + 2 in
    let all = take len bytes in
    let rest = drop (end + 1) bytes in
    let fits = e.0 in
    let room : len ≤ length bytes = omega (arith, length-drop (end + 1) bytes) in
    let inside : end + 1 + size ≤ length all = omega (arith, length-take-le len bytes room) in
    let s = in_all bytes end len line h (omega arith) in
    let made_is : made_of (said_at bytes end line) (take size rest) ≡ parts_in all line (end + 1) =
    ap₂ (λ (l : Line) (b : Bytes). made_of l b) (sym s.same) (sym (body_in bytes (end + 1) size)) ∙ sym (counted_parts all line (end + 1) size (sym (counts all)) s.stands) in
    let after : drop (size + 2) rest ≡ drop len bytes =
    drop-drop (size + 2) (end + 1) bytes ∙ ap (λ n. drop n bytes) (let sum : end + 1 + (size + 2) ≡ len = omega arith in sum) in (
      room,
      record { fields = s.stands; payload = subst (IsInside all (end + 1)) (counts all) inside },
      payload_now bytes end size line h counts ∙ paid_whole (end + 1) size (made_of (said_at bytes end line)) rest small e
          ∙ ap₂ Whole made_is after,
    )

pub partial_looks : (bytes : Bytes) (end size quiet : ℕ) (line : Lent) → IsLineTo bytes end line → ((words : Bytes) → Some size ≡ counted (seen words line)) → size ≤ 1048576 →
    Ends size (drop (end + 1) bytes) (endings.Partial quiet) → Looks bytes (looks.Partial end (end + 1 + quiet))
partial_looks bytes end size quiet line h counts small e =
    let within = h.within in
    let short = h.short in
    let rest = drop (end + 1) bytes in
    let few = e.0 in
    let waits : IsQuiet op_at bytes (end + 1 + quiet) = λ more lt.
    payload_reads bytes end size line h counts more
    ∙ paid_partial (end + 1) size quiet (made_of (said_at bytes end line)) rest more small e
    (omega (arith, lt, length-append bytes more, length-append rest more, length-drop (end + 1) bytes)) in
    let now : op_at bytes ≡ Partial = ap op_at (sym (append-nil bytes)) ∙ waits [] (omega (arith, few, length-append bytes [], length-drop (end + 1) bytes)) in
    (now, record { within = omega arith; short = omega arith; none = h.none }, waits)

pub wrong_looks : (bytes : Bytes) (end size place : ℕ) (line : Lent) → IsLineTo bytes end line → ((words : Bytes) → Some size ≡ counted (seen words line)) → size ≤ 1048576 →
    Ends size (drop (end + 1) bytes) (endings.Wrong place) → Looks bytes (looks.Broken (BadEnd (end + 1 + place)))
wrong_looks bytes end size place line h counts small e =
    let there = e.1 in (
      payload_now bytes end size line h counts ∙ paid_wrong (end + 1) size place (made_of (said_at bytes end line)) (drop (end + 1) bytes) small e,
      omega (arith, there, length-drop (end + 1) bytes),
    )

-- ---- no line

-- no LF is among the first bytes
abbrev NoneIn : Bytes → Type 0
NoneIn bytes = (k : ℕ) → k < 4098 → k < length bytes → get_or bytes k 0 ≡ 10 → ⊥

pub never_ended : (bytes : Bytes) → 4098 ≤ length bytes → NoneIn bytes → op_at bytes ≡ Broken LineTooLong
unfolding op_at
never_ended bytes long none = by (split_at 10 bytes) refl
  where
    by : (s : Option (Bytes × Bytes)) → split_at 10 bytes ≡ s → at_line (length bytes) s ≡ Broken LineTooLong
    by None is = ap (λ b. cond b Partial (Broken LineTooLong)) (le-ltb (length bytes) 4098 long)
    by (Some s) is =
        let apart = split_found 10 bytes s.0 s.1 is in
        elim (cases_lt (length s.0) 4098) [
          | inl lt ↦ absurd (none (length s.0) lt (omega arith) (ap (λ x. get_or x (length s.0) 0) apart.whole ∙ get_or_at s.0 10 s.1 0 (length s.0) refl))
          | inr le ↦ ap (λ b. cond b (behind_line (length s.0 + 1) (line_at s.0) s.1) (Broken LineTooLong)) (le-ltb (length s.0) 4098 le)
        ]

short_partial : (bytes : Bytes) → length bytes < 4098 → Lacks 10 bytes → op_at bytes ≡ Partial
unfolding op_at
short_partial bytes short lacks =
    ap (at_line (length bytes)) (split_lacking 10 bytes lacks) ∙ ap (λ b. cond b Partial (Broken LineTooLong)) (lt-ltb (length bytes) 4098 short)

pub not_ended : (bytes : Bytes) → length bytes < 4098 → NoneIn bytes → Looks bytes (looks.Partial (length bytes) (length bytes + 1))
not_ended bytes short none =
    let waits = short_partial bytes short (lacks_from 10 bytes (λ k lt. none k (omega arith) lt)) in (
      waits,
      record { within = omega arith; short = omega arith; none = λ k lt. none k (omega arith) lt },
      λ more lt.
          let empty : more ≡ [] = nil_from_length more (omega (arith, lt, length-append bytes more)) in
          ap op_at (ap (λ m. bytes ++ m) empty ∙ append-nil bytes) ∙ waits,
    )

-- a byte that is no LF, after bytes without one
pub goes_on : (bytes whole : Bytes) (byte n : ℕ) → n ≡ length bytes → whole ≡ bytes ++ byte ∷ [] → IsScanned bytes n → n + 1 < 4098 → byte ≢ 10 →
    Looks whole (looks.Partial (n + 1) (n + 2))
goes_on bytes whole byte n n_is whole_is h short other = at (n + 2) (omega arith)
  where
    len : length whole ≡ n + 1
    len = omega (arith, n_is, ap length whole_is, length-append bytes (byte ∷ []))

    none : NoneIn whole
    none k lt within is =
        let here : get_or (bytes ++ byte ∷ []) k 0 ≡ 10 = ap (λ (b : Bytes). get_or b k 0) (sym whole_is) ∙ is in
        elim (cases_lt k n) [
          | inl before ↦ h.none k before (sym (get_or_append_left bytes (byte ∷ []) 0 k (omega (arith, n_is, before))) ∙ here)
          | inr le ↦ other (sym (get_or_at bytes byte [] 0 k (omega (arith, n_is, len, within, le))) ∙ here)
        ]

    at : (m : ℕ) → m ≡ n + 1 + 1 → Looks whole (looks.Partial (n + 1) m)
    at m m_is =
        let found : Looks whole (looks.Partial (length whole) (length whole + 1)) = not_ended whole (omega (arith, len, short)) none in
        subst (λ (x : ℕ). Looks whole (looks.Partial (n + 1) x)) (sym m_is) (subst (λ (x : ℕ). Looks whole (looks.Partial x (x + 1))) len found)
