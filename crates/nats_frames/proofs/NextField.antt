-- The next field of a line, by its place.
use Rattle.std.proofs.Common.{ℕ, ◌≡◌, ◌+◌, ◌-◌, ◌<◌, ◌≤◌, [], ◌∷◌, length, take, drop, sym, ◌∙◌, ap, ap₂, arith}
use Rattle.std.specs.List.{prefix_len}
use Rattle.std.proofs.lemmas.List.{drop-drop, length-drop}
use Rattle.std.proofs.lemmas.List.Sums.{prefix_len-le-length}
use Rattle.js_base.specs.Bytes.{Bytes, is_blank}
use Rattle.nats_frames.specs.Grammar.{is_solid}
use Rattle.nats_frames.specs.Reading.{fields_of}
use Rattle.nats_frames.specs.Fields.{span, IsNextField}
use Rattle.nats_frames.proofs.FieldLemmas.{behind, no_field, first_field}

-- so many blanks stand from the place on, and then so many bytes of a field
pub record Scanned (line : Bytes) (from blanks len : ℕ) : Type 0 where
  pub within : from ≤ length line
  pub skipped : blanks ≡ prefix_len is_blank (drop from line)
  pub found : len ≡ prefix_len is_solid (drop (from + blanks) line)

text_is : (line : Bytes) (from blanks len : ℕ) → Scanned line from blanks len → behind (drop from line) ≡ drop (from + blanks) line
text_is line from blanks len s = ap (λ n. drop n (drop from line)) (sym s.skipped) ∙ drop-drop blanks from line

pub nothing_next : (line : Bytes) (from blanks len : ℕ) → Scanned line from blanks len → len ≤ 0 → fields_of (drop from line) ≡ []
nothing_next line from blanks len s none =
    let is : prefix_len is_solid (behind (drop from line)) ≡ len = ap (prefix_len is_solid) (text_is line from blanks len s) ∙ sym s.found in
    no_field (drop from line) (omega (arith, is))

pub next_is : (line : Bytes) (from blanks len : ℕ) → Scanned line from blanks len → 0 < len → IsNextField line from (span (from + blanks) len)
next_is line from blanks len s some =
    let start = from + blanks in
    let text = text_is line from blanks len s in
    let is : len ≡ prefix_len is_solid (behind (drop from line)) = s.found ∙ ap (prefix_len is_solid) (sym text) in
    let size : start + len - start ≡ len = omega arith in
    let fits = prefix_len-le-length is_solid (drop start line) in
    let skips = prefix_len-le-length is_blank (drop from line) in
    record {
      within = (omega arith, omega (arith, s.within, s.found, s.skipped, fits, skips, length-drop start line, length-drop from line));
      first = first_field (drop from line) len is some
          ∙ ap₂ (λ (field : Bytes) (more : Bytes). field ∷ fields_of more) (ap (take len) text ∙ ap (λ n. take n (drop start line)) (sym size))
          (ap (drop len) text ∙ drop-drop len start line);
    }
