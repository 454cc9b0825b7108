-- What the head of a log file is read as.
use Rattle.std.proofs.Common.{◌^◌, ◌≡◌, ◌≢◌, ◌⊎◌, inl, inr, ℕ, ◌+◌, ◌<◌, ◌≤◌, [], ◌∷◌, ◌++◌, Option, Some, length, take, drop, get_or, sym, ◌∙◌, ap, subst, arith, length-take, length-drop, take-append-drop}
use Rattle.std.specs.Prelude.{unwrap_or, Bool, true}
use Rattle.std.specs.List.{starts_with}
use Rattle.std.proofs.Math.Dec.{eqb}
use Rattle.std.proofs.lemmas.Slice.Eq.{starts_is}
use Rattle.std.specs.Int.{Width, byte_len, w16, w32, w64, to_be_bytes, from_be_bytes}
use Rattle.std.proofs.lemmas.Bool.Decides.{nat_tests, Decides-eqb}
use Rattle.std.proofs.lemmas.List.{take-take, drop-take, drop-drop, get_or-take, get_or-drop, get_or_past}
use Rattle.std.proofs.lemmas.Nat.{be_bytes_2, be_bytes_4, be_bytes_8}
use borrow.Rule.Slice.PartMut.{put_mid}
use Rattle.js_base.specs.Bytes.{Bytes}
use Rattle.js_base.specs.Numbers.{number_at}
use Rattle.checksum.specs.Crc.{crc32c}
use Rattle.gate_log.specs.Head.{mark, version, title, head}
use Rattle.gate_log.specs.LogFile.{IsShut}
use Rattle.gate_log.specs.Faults.{HasNoMark, HasUnknownVersion, HasBadGeneration, HasBadChecksum}

-- a number that the bytes hold
pub number_here : (w : Width) (bytes : Bytes) (at : ℕ) → at + byte_len w ≤ length bytes → number_at w bytes at ≡ Some (from_be_bytes w (take (byte_len w) (drop at bytes)))
number_here w bytes at within = grind (arith, nat_tests)

-- a window of a front is that of the whole
window : (n m k : ℕ) (l : Bytes) → n + m ≤ k → take m (drop n (take k l)) ≡ take m (drop n l)
window n m k l le = sym (drop-take n m (take k l)) ∙ ap (λ (x : Bytes). drop n x) (take-take (n + m) k l le) ∙ drop-take n m l

number_in_front : (w : Width) (bytes : Bytes) (at k : ℕ) → at + byte_len w ≤ k → k ≤ length bytes → number_at w (take k bytes) at ≡ number_at w bytes at
number_in_front w bytes at k within le =
    number_here w (take k bytes) at (omega (arith, length-take k bytes)) ∙ ap (λ (l : Bytes). Some (from_be_bytes w l)) (window at (byte_len w) k bytes within) ∙ sym (number_here w bytes at (omega arith))

-- ---- the head of a file, by its first 21 bytes

pub no_mark : (bytes : Bytes) → HasNoMark (take 21 bytes) → HasNoMark bytes
no_mark bytes bad e = bad (take-take 6 21 bytes (omega arith) ∙ e)

marked_in_front : (bytes : Bytes) → take 6 (take 21 bytes) ≡ mark → take 6 bytes ≡ mark
marked_in_front bytes marked = sym (take-take 6 21 bytes (omega arith)) ∙ marked

pub unknown_version : (bytes : Bytes) (n : ℕ) → 21 ≤ length bytes → HasUnknownVersion (take 21 bytes) n → HasUnknownVersion bytes n
unknown_version bytes n long bad = record {
  marked = marked_in_front bytes bad.marked;
  is = sym (number_in_front w16 bytes 6 21 (omega arith) long) ∙ bad.is;
  unknown = bad.unknown;
}

pub gate_in_front : (bytes : Bytes) → get_or (take 21 bytes) 20 0 ≡ get_or bytes 20 0
gate_in_front bytes = get_or-take 21 bytes 20 0 (omega arith)

pub bad_generation : (bytes : Bytes) → 21 ≤ length bytes → HasBadGeneration (take 21 bytes) → HasBadGeneration bytes
bad_generation bytes long bad = record {
  first_open = sym (gate_in_front bytes) ∙ bad.first_open;
  marked = marked_in_front bytes bad.marked;
  known = sym (number_in_front w16 bytes 6 21 (omega arith) long) ∙ bad.known;
  generation = bad.generation;
  is = sym (number_in_front w64 bytes 8 21 (omega arith) long) ∙ bad.is;
  too_great = bad.too_great;
}

pub bad_checksum : (bytes : Bytes) → 21 ≤ length bytes → HasBadChecksum (take 21 bytes) → HasBadChecksum bytes
bad_checksum bytes long bad = record {
  first_open = sym (gate_in_front bytes) ∙ bad.first_open;
  marked = marked_in_front bytes bad.marked;
  known = sym (number_in_front w16 bytes 6 21 (omega arith) long) ∙ bad.known;
  generation = bad.generation;
  is = sym (number_in_front w64 bytes 8 21 (omega arith) long) ∙ bad.is;
  below = bad.below;
  differs = λ e. bad.differs (number_in_front w32 bytes 16 21 (omega arith) long ∙ e ∙ ap (λ (l : Bytes). Some (crc32c l)) (sym (take-take 16 21 bytes (omega arith))));
}

-- ---- the bytes of a head

fits_take : (n : ℕ) (l : Bytes) → ((i : ℕ) → get_or l i 0 < 256) → (i : ℕ) → get_or (take n l) i 0 < 256
fits_take n l fits i = elim (below_or i n) [
  | inl lt ↦ subst (λ (b : ℕ). b < 256) (sym (get_or-take n l i 0 lt)) (fits i)
  | inr le ↦ subst (λ (b : ℕ). b < 256) (sym (get_or_past (take n l) i 0 (omega (arith, length-take n l)))) (omega arith)
]
  where
    below_or : (a b : ℕ) → (a < b) ⊎ (b ≤ a)
    below_or a b = grind arith

fits_drop : (n : ℕ) (l : Bytes) → ((i : ℕ) → get_or l i 0 < 256) → (i : ℕ) → get_or (drop n l) i 0 < 256
fits_drop n l fits i = subst (λ (b : ℕ). b < 256) (sym (get_or-drop n l i 0)) (fits (n + i))

-- bytes of which some are known
module _ (bytes : Bytes) (v g sum : ℕ) (size : length bytes ≡ 21) (fits : (i : ℕ) → get_or bytes i 0 < 256) where
  -- the bytes that a number was read from
  read_there : (w : Width) (at n : ℕ) → at + byte_len w ≤ 21 → n ≡ unwrap_or (number_at w bytes at) 0 → n ≡ from_be_bytes w (take (byte_len w) (drop at bytes))
  read_there w at n within is = is ∙ ap (λ (o : Option ℕ). unwrap_or o 0) (number_here w bytes at (omega (arith, size, within)))

  -- the mark and the version stand before the rest
  versioned : take 6 bytes ≡ mark → v ≡ unwrap_or (number_at w16 bytes 6) 0 → v ≡ version → bytes ≡ mark ++ to_be_bytes w16 version ++ drop 8 bytes
  versioned marked v_is known =
      let two : take 2 (drop 6 bytes) ≡ to_be_bytes w16 version = sym (be_bytes_2 (take 2 (drop 6 bytes)) version (omega (arith, length-take 2 (drop 6 bytes), length-drop 6 bytes, size)) (fits_take 2 (drop 6 bytes) (fits_drop 6 bytes fits)) (sym known ∙ read_there w16 6 v (omega arith) v_is)) in
      let past_mark : drop 6 bytes ≡ to_be_bytes w16 version ++ drop 8 bytes = sym (take-append-drop 2 (drop 6 bytes)) ∙ ap (λ (l : Bytes). take 2 (drop 6 bytes) ++ l) (drop-drop 2 6 bytes) ∙ ap (λ (l : Bytes). l ++ drop 8 bytes) two in
      sym (take-append-drop 6 bytes) ∙ ap (λ (l : Bytes). l ++ drop 6 bytes) marked ∙ ap (λ (l : Bytes). mark ++ l) past_mark

  pub shut_of_parts : take 6 bytes ≡ mark → v ≡ unwrap_or (number_at w16 bytes 6) 0 → v ≡ version → get_or bytes 20 0 ≢ 1 → IsShut bytes
  shut_of_parts marked v_is known closed = record { marked = ap (λ (l : Bytes). take 8 l) (versioned marked v_is known); long = omega (arith, size); closed = closed }

  pub head_of_parts : take 6 bytes ≡ mark → v ≡ unwrap_or (number_at w16 bytes 6) 0 → v ≡ version → g ≡ unwrap_or (number_at w64 bytes 8) 0 →
      sum ≡ unwrap_or (number_at w32 bytes 16) 0 → sum ≡ crc32c (take 16 bytes) → take 20 bytes ≡ head g
  head_of_parts marked v_is known g_is sum_is right =
      let eight : take 8 (drop 8 bytes) ≡ to_be_bytes w64 g = sym (be_bytes_8 (take 8 (drop 8 bytes)) g (omega (arith, length-take 8 (drop 8 bytes), length-drop 8 bytes, size)) (fits_take 8 (drop 8 bytes) (fits_drop 8 bytes fits)) (read_there w64 8 g (omega arith) g_is)) in
      let four : take 4 (drop 16 bytes) ≡ to_be_bytes w32 sum = sym (be_bytes_4 (take 4 (drop 16 bytes)) sum (omega (arith, length-take 4 (drop 16 bytes), length-drop 16 bytes, size)) (fits_take 4 (drop 16 bytes) (fits_drop 16 bytes fits)) (read_there w32 16 sum (omega arith) sum_is)) in
      let past_eight : drop 8 bytes ≡ to_be_bytes w64 g ++ drop 16 bytes = sym (take-append-drop 8 (drop 8 bytes)) ∙ ap (λ (l : Bytes). take 8 (drop 8 bytes) ++ l) (drop-drop 8 8 bytes) ∙ ap (λ (l : Bytes). l ++ drop 16 bytes) eight in
      let titled : bytes ≡ title g ++ drop 16 bytes = versioned marked v_is known ∙ ap (λ (l : Bytes). mark ++ to_be_bytes w16 version ++ l) past_eight in
      ap (λ (l : Bytes). take 20 l) titled ∙ ap (λ (l : Bytes). title g ++ l) (four ∙ ap (λ (n : ℕ). to_be_bytes w32 n) (right ∙ ap (λ (l : Bytes). crc32c (take 16 l)) titled))

  number_is : (w : Width) (at n : ℕ) → at + byte_len w ≤ 21 → n ≡ unwrap_or (number_at w bytes at) 0 → number_at w bytes at ≡ Some n
  number_is w at n within is = number_here w bytes at (omega (arith, size, within)) ∙ ap (λ (k : ℕ). Some k) (sym (read_there w at n within is))

  -- with too great a generation
  pub is_bad_generation : get_or bytes 20 0 ≡ 1 → take 6 bytes ≡ mark → v ≡ unwrap_or (number_at w16 bytes 6) 0 → v ≡ version → g ≡ unwrap_or (number_at w64 bytes 8) 0 → 2 ^ 62 ≤ g → HasBadGeneration bytes
  is_bad_generation open_ marked v_is known g_is great = record {
    first_open = open_;
    marked = marked;
    known = number_is w16 6 v (omega arith) v_is ∙ ap (λ (k : ℕ). Some k) known;
    generation = g;
    is = number_is w64 8 g (omega arith) g_is;
    too_great = great;
  }

  -- with another checksum
  pub is_bad_checksum : get_or bytes 20 0 ≡ 1 → take 6 bytes ≡ mark → v ≡ unwrap_or (number_at w16 bytes 6) 0 → v ≡ version → g ≡ unwrap_or (number_at w64 bytes 8) 0 → g < 2 ^ 62 →
      sum ≡ unwrap_or (number_at w32 bytes 16) 0 → sum ≢ crc32c (take 16 bytes) → HasBadChecksum bytes
  is_bad_checksum open_ marked v_is known g_is below sum_is differs = record {
    first_open = open_;
    marked = marked;
    known = number_is w16 6 v (omega arith) v_is ∙ ap (λ (k : ℕ). Some k) known;
    generation = g;
    is = number_is w64 8 g (omega arith) g_is;
    below = below;
    differs = λ e. differs (sum_is ∙ ap (λ (o : Option ℕ). unwrap_or o 0) e);
  }

pub marked_by : (bytes : Bytes) (r : Bool) → r ≡ starts_with eqb bytes mark → r ≡ true → take 6 bytes ≡ mark
marked_by bytes r is begins = ap (λ (l : Bytes). take 6 l) ((starts_is Decides-eqb bytes mark r is).0 begins)

-- ---- the head that is written

abbrev blank : Bytes → Bytes
blank marked = marked ++ 0 ∷ 0 ∷ 0 ∷ 0 ∷ 0 ∷ 0 ∷ 0 ∷ 0 ∷ 0 ∷ 0 ∷ 0 ∷ 0 ∷ 0 ∷ 0 ∷ 0 ∷ []

-- what is put together field by field is the head of a log, and its closed gate
pub empty_log_is : (g sum : ℕ) (marked told numbered summed : Bytes) → marked ≡ mark → told ≡ to_be_bytes w16 version → numbered ≡ to_be_bytes w64 g →
    sum ≡ crc32c (take 16 (put_mid 8 8 (put_mid 6 2 (blank marked) told) numbered)) → summed ≡ to_be_bytes w32 sum →
    put_mid 16 4 (put_mid 8 8 (put_mid 6 2 (blank marked) told) numbered) summed ≡ head g ++ 0 ∷ []
empty_log_is g sum marked told numbered summed mark_is told_is number_is sum_is summed_is =
    let titled : put_mid 8 8 (put_mid 6 2 (blank marked) told) numbered ≡ title g ++ 0 ∷ 0 ∷ 0 ∷ 0 ∷ 0 ∷ [] =
    ap (λ (l : Bytes). put_mid 8 8 (put_mid 6 2 (blank l) told) numbered) mark_is ∙ ap (λ (l : Bytes). put_mid 8 8 (put_mid 6 2 (blank mark) l) numbered) told_is ∙ ap (λ (l : Bytes). put_mid 8 8 (put_mid 6 2 (blank mark) (to_be_bytes w16 version)) l) number_is in
    ap (λ (l : Bytes). put_mid 16 4 l summed) titled
    ∙ ap (λ (l : Bytes). put_mid 16 4 (title g ++ 0 ∷ 0 ∷ 0 ∷ 0 ∷ 0 ∷ []) l) (summed_is ∙ ap (λ (n : ℕ). to_be_bytes w32 n) (sum_is ∙ ap (λ (l : Bytes). crc32c (take 16 l)) titled))
