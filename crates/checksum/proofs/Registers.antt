-- What becomes of the register as bytes are added.
use Rattle.std.proofs.Common.{◌≡◌, ◌<◌, ◌≤◌, ◌+◌, ◌^◌, ℕ, suc, List, [], ◌∷◌, ◌++◌, length, drop, get_or, map, refl, sym, ◌∙◌, ap, arith}
use Rattle.std.specs.List.{range_with_len}
use Rattle.std.proofs.lemmas.List.{drop_more, drop_all}
use Rattle.std.proofs.lemmas.List.FromFn.{get_or-map-range_with_len}
use Rattle.js_base.specs.Bytes.{Bytes}
use Rattle.checksum.specs.Crc.{after_bit, after_bits, after_byte, added, finished, crc32c}
use Rattle.checksum.specs.Laws.{LawChecksum}

-- what becomes of each four bits
abbrev pub nibbles : List ℕ
nibbles =
    0x00000000 ∷ 0x105EC76F ∷ 0x20BD8EDE ∷ 0x30E349B1 ∷ 0x417B1DBC ∷ 0x5125DAD3 ∷ 0x61C69362 ∷ 0x7198540D
    ∷ 0x82F63B78 ∷ 0x92A8FC17 ∷ 0xA24BB5A6 ∷ 0xB21572C9 ∷ 0xC38D26C4 ∷ 0xD3D3E1AB ∷ 0xE330A81A ∷ 0xF36E6F75 ∷ []

nibbles_are : nibbles ≡ map (λ n. after_bits 4 n) (range_with_len 0 16)
unfolding after_bit after_bits
nibbles_are = refl

pub in_nibbles : (n : ℕ) → n < 16 → get_or nibbles n 0 ≡ after_bits 4 n
in_nibbles n lt = ap (λ (l : List ℕ). get_or l n 0) nibbles_are ∙ get_or-map-range_with_len (λ k. after_bits 4 k) 0 16 n n 0 lt (omega arith)

pub nibble_twice : (register : ℕ) → after_bits 4 (after_bits 4 register) ≡ after_bits 8 register
unfolding after_bits
nibble_twice register = refl

-- a byte more
pub added_more : (register : ℕ) (bytes : Bytes) (i : ℕ) → i < length bytes → added register (drop i bytes) ≡ added (after_byte register (get_or bytes i 0)) (drop (i + 1) bytes)
unfolding added
added_more register bytes i lt = ap (λ (l : Bytes). added register l) (drop_more bytes i 0 lt)

pub added_all : (register : ℕ) (bytes : Bytes) (i : ℕ) → length bytes ≤ i → added register (drop i bytes) ≡ register
unfolding added
added_all register bytes i le = ap (λ (l : Bytes). added register l) (drop_all i bytes le)

-- bytes are added piece by piece
pub added_append : (register : ℕ) (a b : Bytes) → added (added register a) b ≡ added register (a ++ b)
unfolding added
added_append register [] b = refl
added_append register (byte ∷ a) b = added_append (after_byte register byte) a b

pub crc32c_lt : (bytes : Bytes) → crc32c bytes < 2 ^ 32
unfolding finished
crc32c_lt bytes = omega arith

pub law : LawChecksum
law = record { pieces = added_append; bits = crc32c_lt }
