-- Laws of what is shown of a word.
use Rattle.std.proofs.Common.{◌≡◌, ◌≤◌, ◌<◌, ◌+◌, ℕ, min, [], ◌∷◌, length, map, take, set, get_or, arith, sym, ◌∙◌, ap}
use Rattle.std.proofs.lemmas.List.{map-append, take_min, take_more, take_more_set}
use Rattle.js_base.specs.Bytes.{Bytes}
use Rattle.server.specs.Lines.{shown, shown_byte}

-- one byte more is shown
pub shown_more : (room word : Bytes) (i byte : ℕ) → i < length room → i < length word → take i room ≡ map shown_byte (take i word) → byte ≡ shown_byte (get_or word i 0)
    → take (i + 1) (set room i byte) ≡ map shown_byte (take (i + 1) word)
shown_more room word i byte fits there front e =
    take_more_set room i byte fits
    ∙ rw (front, e) (sym (ap (map shown_byte) (take_more word i 0 there) ∙ map-append shown_byte (take i word) (get_or word i 0 ∷ [])))

-- all are
pub shown_whole : (room word : Bytes) (i len : ℕ) → take i room ≡ map shown_byte (take i word) → i ≤ len → len ≤ i → len ≡ min (length word) 64 → take len room ≡ shown word
shown_whole room word i len front up down e =
    let at : len ≡ i = omega (arith, up, down) in
    let most : i ≡ min 64 (length word) = omega (arith, up, down, e) in
    ap (λ (k : ℕ). take k room) at ∙ front ∙ ap (λ (k : ℕ). map shown_byte (take k word)) most ∙ ap (map shown_byte) (take_min 64 word)
