-- The first line, and what it begins.
use Rattle.std.proofs.Common.{ℕ, ◌≡◌, ◌+◌, ◌-◌, ◌<◌, ◌≤◌, Bool, true, false, cond, [], ◌∷◌, ◌++◌, length, take, drop, refl, sym, ◌∙◌, ap, subst, arith, inl, inr, length-append, append_assoc}
use Rattle.std.specs.Prelude.{Ok}
use Rattle.std.proofs.lemmas.Bool.{lt-ltb, false≢true}
use Rattle.std.proofs.lemmas.List.{take-append-drop, take_at, drop_at}
use Rattle.std.proofs.lemmas.Slice.Eq.{bytes_eq-Decides}
use Rattle.js_base.specs.Bytes.{Bytes, crlf, same}
use Rattle.nats_frames.specs.declared.fault.Fault.TheVariants.{LineTooLong}
use Rattle.nats_frames.specs.Grammar.{Lacks, EndsWithoutCr, IsLine, Line, Tells}
use Rattle.nats_frames.specs.Reading.{without_cr, words_at, line_at, behind_line, at_line, Broken, op_at}
use Rattle.nats_frames.proofs.Splits.{split_again, lacks_append, lacks_front}
use Rattle.nats_frames.proofs.Wording.{says_read}

-- ---- the end of a line

-- where a CR would stand
abbrev last_at : Bytes → ℕ
last_at text = length text - 1

cr_last : (words : Bytes) → last_at (words ++ 13 ∷ []) ≡ length words
cr_last words = let n = length-append words (13 ∷ []) in omega (arith, n)

with_cr : (words : Bytes) → same (drop (last_at (words ++ 13 ∷ [])) (words ++ 13 ∷ [])) (13 ∷ []) ≡ true
with_cr words =
    ap (λ n. same (drop n (words ++ 13 ∷ [])) (13 ∷ [])) (cr_last words) ∙ ap (λ end. same end (13 ∷ [])) (drop_at words (13 ∷ []) (length words) refl)

pub cr_dropped : (words : Bytes) → without_cr (words ++ 13 ∷ []) ≡ words
cr_dropped words =
    ap (λ t. cond t (take (last_at (words ++ 13 ∷ [])) (words ++ 13 ∷ [])) (words ++ 13 ∷ [])) (with_cr words)
    ∙ ap (λ n. take n (words ++ 13 ∷ [])) (cr_last words) ∙ take_at words (13 ∷ []) (length words) refl

cr_found : (text : Bytes) → same (drop (last_at text) text) (13 ∷ []) ≡ true → text ≡ take (last_at text) text ++ 13 ∷ []
cr_found text e =
    sym (take-append-drop (last_at text) text) ∙ ap (λ end. take (last_at text) text ++ end) ((bytes_eq-Decides (drop (last_at text) text) (13 ∷ [])).0 e)

pub none_dropped : (words : Bytes) → EndsWithoutCr words → without_cr words ≡ words
none_dropped words h = by (same (drop (last_at words) words) (13 ∷ [])) refl
  where
    by : (t : Bool) → same (drop (last_at words) words) (13 ∷ []) ≡ t → cond t (take (last_at words) words) words ≡ words
    by true e = absurd (h (take (last_at words) words) (cr_found words e))
    by false e = refl

-- a line without its LF
pub record Cut (words line : Bytes) : Type 0 where
  pub text : Bytes
  pub whole : line ≡ text ++ 10 ∷ []
  pub first : Lacks 10 text
  pub words_are : without_cr text ≡ words
  pub short : length text < 4098

pub line_cut : (words line : Bytes) → IsLine words line → Cut words line
line_cut words line h =
    elim h.ends [
      | inl cr ↦
          let text = words ++ 13 ∷ [] in
          let whole : line ≡ text ++ 10 ∷ [] = h.whole ∙ ap (λ e. words ++ e) cr ∙ sym (append_assoc words (13 ∷ []) (10 ∷ [])) in
          record {
            text = text;
            whole = whole;
            first = lacks_append 10 words (13 ∷ []) h.single ((λ e. cc), tt);
            words_are = cr_dropped words;
            short = omega (arith, h.short, ap length whole, length-append text (10 ∷ []));
          }
      | inr lf ↦
          let whole : line ≡ words ++ 10 ∷ [] = h.whole ∙ ap (λ e. words ++ e) lf.0 in
          record {
            text = words;
            whole = whole;
            first = h.single;
            words_are = none_dropped words lf.1;
            short = omega (arith, h.short, ap length whole, length-append words (10 ∷ []));
          }
    ]

pub line_made : (text : Bytes) → Lacks 10 text → length text < 4098 → IsLine (without_cr text) (text ++ 10 ∷ [])
line_made text first short = by (same (drop (last_at text) text) (13 ∷ [])) refl
  where
    fits : length (text ++ 10 ∷ []) ≤ 4098
    fits = omega (arith, short, length-append text (10 ∷ []))

    by : (t : Bool) → same (drop (last_at text) text) (13 ∷ []) ≡ t → IsLine (cond t (take (last_at text) text) text) (text ++ 10 ∷ [])
    by true e =
        let words = take (last_at text) text in
        let is = cr_found text e in
        record {
          end = crlf;
          ends = inl refl;
          whole = ap (λ x. x ++ 10 ∷ []) is ∙ append_assoc words (13 ∷ []) (10 ∷ []);
          single = lacks_front 10 words (13 ∷ []) (subst (Lacks 10) is first);
          short = fits;
        }
    by false e =
        record {
          end = 10 ∷ [];
          ends = inr (refl, λ front is. false≢true (sym e ∙ ap (λ x. same (drop (last_at x) x) (13 ∷ [])) is ∙ with_cr front));
          whole = refl;
          single = first;
          short = fits;
        }

-- ---- after the first line

pub at_first : (text rest : Bytes) → Lacks 10 text → length text < 4098 → op_at (text ++ 10 ∷ rest) ≡ behind_line (length text + 1) (line_at text) rest
unfolding op_at
at_first text rest lacks short =
    ap (at_line (length (text ++ 10 ∷ rest))) (split_again 10 text rest lacks)
    ∙ ap (λ b. cond b (behind_line (length text + 1) (line_at text) rest) (Broken LineTooLong)) (lt-ltb (length text) 4098 short)

-- the text of a line decides what is read, whatever follows
pub line_read : (words line rest : Bytes) → IsLine words line → op_at (line ++ rest) ≡ behind_line (length line) (words_at words) rest
line_read words line rest h =
    let c = line_cut words line h in
    let len : length c.text + 1 ≡ length line = omega (arith, ap length c.whole, length-append c.text (10 ∷ [])) in
    ap op_at (ap (λ l. l ++ rest) c.whole ∙ append_assoc c.text (10 ∷ []) rest) ∙ at_first c.text rest c.first c.short
    ∙ ap (λ n. behind_line n (line_at c.text) rest) len ∙ ap (λ w. behind_line (length line) (words_at w) rest) c.words_are

pub tells_read : (said : Line) (line rest : Bytes) → Tells said line → op_at (line ++ rest) ≡ behind_line (length line) (Ok said) rest
tells_read said line rest h = line_read h.words line rest h.is_line ∙ ap (λ o. behind_line (length line) o rest) (says_read said h.words h.says)
