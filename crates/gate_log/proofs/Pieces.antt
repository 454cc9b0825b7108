-- The checksum of bytes that are read piece by piece.
use Rattle.std.proofs.Common.{◌≡◌, ℕ, ◌+◌, [], ◌++◌, take, drop, refl, sym, ◌∙◌, ap, arith, take-append-drop}
use Rattle.std.proofs.lemmas.List.{take-take, drop-take, drop-drop}
use Rattle.js_base.specs.Bytes.{Bytes}
use Rattle.checksum.specs.Crc.{added, started}
use Rattle.checksum.proofs.Registers.{added_append}

pub added_none : (register : ℕ) → added register [] ≡ register
unfolding added
added_none register = refl

take_split : (n m : ℕ) (xs : Bytes) → take (n + m) xs ≡ take n xs ++ take m (drop n xs)
take_split n m xs =
    sym (take-append-drop n (take (n + m) xs)) ∙ ap (λ (l : Bytes). l ++ drop n (take (n + m) xs)) (take-take n (n + m) xs (omega arith)) ∙ ap (λ (l : Bytes). take n xs ++ l) (drop-take n m xs)

-- a piece more
pub piece_more : (bytes mid : Bytes) (at done size sum next : ℕ) → mid ≡ bytes → sum ≡ added started (take done (drop at bytes)) → next ≡ added sum (take size (drop (at + done) mid)) →
    next ≡ added started (take (done + size) (drop at bytes))
piece_more bytes mid at done size sum next same so_far is =
    is ∙ ap (λ (l : Bytes). added sum (take size (drop (at + done) l))) same
    ∙ ap (λ (n : ℕ). added n (take size (drop (at + done) bytes))) so_far
    ∙ added_append started (take done (drop at bytes)) (take size (drop (at + done) bytes))
    ∙ ap (λ (l : Bytes). added started (take done (drop at bytes) ++ take size l)) (sym (drop-drop done at bytes))
    ∙ ap (λ (l : Bytes). added started l) (sym (take_split done size (drop at bytes)))
