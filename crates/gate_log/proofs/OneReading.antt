-- A log file is read in one way.
use Rattle.std.proofs.Common.{◌≡◌, ◌≢◌, ◌⊎◌, inl, inr, ℕ, ◌<◌, ◌≤◌, ◌^◌, List, [], ◌∷◌, ◌++◌, Option, Some, None, length, take, drop, get_or, refl, sym, ◌∙◌, ap, arith, append_assoc, length-append}
use Rattle.std.specs.Int.{w16, w32, w64, to_be_bytes, from_be_bytes}
use Rattle.std.proofs.lemmas.List.{take_at, drop_at, drop-drop, drop-take, get_or-drop, take-take}
use Rattle.std.proofs.lemmas.Nat.{from_be_bytes-to_be_bytes_4, from_be_bytes-to_be_bytes_8}
use Rattle.js_base.specs.Bytes.{Bytes}
use Rattle.js_base.specs.Numbers.{number_at}
use Rattle.checksum.specs.Crc.{crc32c}
use Rattle.checksum.proofs.Registers.{crc32c_lt}
use Rattle.checksum.proofs.Checking.{checked-append}
use Rattle.gate_log.specs.Head.{mark, version, title, head}
use Rattle.gate_log.specs.Batches.{open_batch, open_batches, end_of, HaveLengths}
use Rattle.gate_log.specs.LogFile.{Spells, IsLog, IsShut, HasOpen}
use Rattle.gate_log.specs.Faults.{HasNoMark, HasUnknownVersion, HasBadGeneration, HasBadChecksum, IsHeadDamagedAt, told_length, IsDamagedBatch, HasDamagedBatch, IsDamagedAt, IsOfUnknownVersion}
use Rattle.gate_log.specs.Laws.{LawReading}
use Rattle.gate_log.proofs.Spelling as spelling
use Rattle.gate_log.proofs.Spelling.{length-be4}
use Rattle.gate_log.proofs.Heads.{number_here}

pub same_number : (m n : ℕ) → m < 2 ^ 32 → n < 2 ^ 32 → to_be_bytes w32 m ≡ to_be_bytes w32 n → m ≡ n
same_number m n small less e = sym (from_be_bytes-to_be_bytes_4 m small) ∙ ap (λ (l : Bytes). from_be_bytes w32 l) e ∙ from_be_bytes-to_be_bytes_4 n less

pub front_of : (x y more others : Bytes) (n : ℕ) → length x ≡ n → length y ≡ n → x ++ more ≡ y ++ others → x ≡ y
front_of x y more others n one other e = sym (take_at x more n one) ∙ ap (λ (l : Bytes). take n l) e ∙ take_at y others n other

back_of : (x y more others : Bytes) (n : ℕ) → length x ≡ n → length y ≡ n → x ++ more ≡ y ++ others → more ≡ others
back_of x y more others n one other e = sym (drop_at x more n one) ∙ ap (λ (l : Bytes). drop n l) e ∙ drop_at y others n other

-- behind its gate an open batch is its length, its checksum, its records and more
behind : (b more : Bytes) → drop 1 (open_batch b ++ more) ≡ to_be_bytes w32 (length b) ++ (to_be_bytes w32 (crc32c b) ++ (b ++ more))
behind b more = checked-append b more

same_length : (b c more others : Bytes) → length b < 2 ^ 32 → length c < 2 ^ 32 → open_batch b ++ more ≡ open_batch c ++ others → length b ≡ length c
same_length b c more others small less e =
    let tails = sym (behind b more) ∙ ap (λ (l : Bytes). drop 1 l) e ∙ behind c others in
    same_number (length b) (length c) small less (front_of (to_be_bytes w32 (length b)) (to_be_bytes w32 (length c)) (to_be_bytes w32 (crc32c b) ++ (b ++ more)) (to_be_bytes w32 (crc32c c) ++ (c ++ others)) 4 (length-be4 (length b)) (length-be4 (length c)) tails)

tails_same : (b c more others : Bytes) → open_batch b ++ more ≡ open_batch c ++ others → b ++ more ≡ c ++ others
tails_same b c more others e =
    back_of (to_be_bytes w32 (crc32c b)) (to_be_bytes w32 (crc32c c)) (b ++ more) (c ++ others) 4 (length-be4 (crc32c b)) (length-be4 (crc32c c))
    (back_of (to_be_bytes w32 (length b)) (to_be_bytes w32 (length c)) (to_be_bytes w32 (crc32c b) ++ (b ++ more)) (to_be_bytes w32 (crc32c c) ++ (c ++ others)) 4 (length-be4 (length b)) (length-be4 (length c)) (sym (behind b more) ∙ ap (λ (l : Bytes). drop 1 l) e ∙ behind c others))

same_batch : (b c more others : Bytes) → length b < 2 ^ 32 → length c < 2 ^ 32 → open_batch b ++ more ≡ open_batch c ++ others → b ≡ c
same_batch b c more others small less e = front_of b c more others (length c) (same_length b c more others small less e) refl (tails_same b c more others e)

same_more : (b c more others : Bytes) → length b < 2 ^ 32 → length c < 2 ^ 32 → open_batch b ++ more ≡ open_batch c ++ others → more ≡ others
same_more b c more others small less e = back_of b c more others (length c) (same_length b c more others small less e) refl (tails_same b c more others e)

-- the batches after the first ones
after_first : (b c : Bytes) (bs cs : List Bytes) (x y : Bytes) → length b < 2 ^ 32 → length c < 2 ^ 32 →
    open_batches (b ∷ bs) ++ x ≡ open_batches (c ∷ cs) ++ y → (b ≡ c) × (open_batches bs ++ x ≡ open_batches cs ++ y)
after_first b c bs cs x y small less e =
    let whole = sym (append_assoc (open_batch b) (open_batches bs) x) ∙ e ∙ append_assoc (open_batch c) (open_batches cs) y in (
      same_batch b c (open_batches bs ++ x) (open_batches cs ++ y) small less whole,
      same_more b c (open_batches bs ++ x) (open_batches cs ++ y) small less whole,
    )

-- the first byte of an open batch
opens : (b : Bytes) (bs : List Bytes) (x : Bytes) → get_or (open_batches (b ∷ bs) ++ x) 0 0 ≡ 1
opens b bs x = refl

first_byte : (x y : Bytes) → x ≡ y → get_or x 0 0 ≡ get_or y 0 0
first_byte x y e = ap (λ (l : Bytes). get_or l 0 0) e

same_closed : (bs cs : List Bytes) (g h : ℕ) (r s : Bytes) → HaveLengths bs → HaveLengths cs → open_batches bs ++ g ∷ r ≡ open_batches cs ++ h ∷ s → g ≢ 1 → h ≢ 1 → bs ≡ cs
same_closed [] [] g h r s fit fits e shut closed = refl
same_closed [] (c ∷ cs) g h r s fit fits e shut closed = absurd (shut (first_byte _ _ e))
same_closed (b ∷ bs) [] g h r s fit fits e shut closed = absurd (closed (sym (first_byte _ _ e)))
same_closed (b ∷ bs) (c ∷ cs) g h r s fit fits e shut closed =
    let next = after_first b c bs cs (g ∷ r) (h ∷ s) fit.0 fits.0 e in
    let more = same_closed bs cs g h r s fit.1 fits.1 next.1 shut closed in
    λ i. next.0 i ∷ more i

-- a batch with another gate behind it is not damaged
module _ (b x s : Bytes) (small : length b < 2 ^ 32) (is : s ≡ to_be_bytes w32 (length b) ++ (to_be_bytes w32 (crc32c b) ++ (b ++ x))) where
  count : told_length s ≡ length b
  count =
      ap (λ (l : Bytes). from_be_bytes w32 (take 4 l)) is ∙ ap (λ (l : Bytes). from_be_bytes w32 l) (take_at (to_be_bytes w32 (length b)) (to_be_bytes w32 (crc32c b) ++ (b ++ x)) 4 (length-be4 (length b))) ∙ from_be_bytes-to_be_bytes_4 (length b) small

  behind_length : drop 4 s ≡ to_be_bytes w32 (crc32c b) ++ (b ++ x)
  behind_length = ap (λ (l : Bytes). drop 4 l) is ∙ drop_at (to_be_bytes w32 (length b)) (to_be_bytes w32 (crc32c b) ++ (b ++ x)) 4 (length-be4 (length b))

  behind_checksum : drop 8 s ≡ b ++ x
  behind_checksum = sym (drop-drop 4 4 s) ∙ ap (λ (l : Bytes). drop 4 l) behind_length ∙ drop_at (to_be_bytes w32 (crc32c b)) (b ++ x) 4 (length-be4 (crc32c b))

  records_are : take (told_length s) (drop 8 s) ≡ b
  records_are = ap (λ (n : ℕ). take n (drop 8 s)) count ∙ ap (λ (l : Bytes). take (length b) l) behind_checksum ∙ take_at b x (length b) refl

  checksum_is : take 4 (drop 4 s) ≡ to_be_bytes w32 (crc32c (take (told_length s) (drop 8 s)))
  checksum_is =
      ap (λ (l : Bytes). take 4 l) behind_length ∙ take_at (to_be_bytes w32 (crc32c b)) (b ++ x) 4 (length-be4 (crc32c b)) ∙ ap (λ (l : Bytes). to_be_bytes w32 (crc32c l)) (sym records_are)

  not_damaged : 0 < length x → IsDamagedBatch s → ⊥
  not_damaged more (inl passes) =
      absurd (omega (arith, passes, count, ap length is, length-append (to_be_bytes w32 (length b)) (to_be_bytes w32 (crc32c b) ++ (b ++ x)), length-append (to_be_bytes w32 (crc32c b)) (b ++ x), length-append b x, length-be4 (length b), length-be4 (crc32c b)))
  not_damaged more (inr differs) = differs checksum_is

-- the gate of a batch that is read does not begin one that is damaged
no_damage : (b : Bytes) (bs : List Bytes) (g : ℕ) (r s : Bytes) → length b < 2 ^ 32 → open_batches (b ∷ bs) ++ g ∷ r ≡ 1 ∷ s → IsDamagedBatch s → ⊥
no_damage b bs g r s small e damaged =
    not_damaged b (open_batches bs ++ g ∷ r) s small (sym (ap (λ (l : Bytes). drop 1 l) e) ∙ ap (λ (l : Bytes). drop 1 l) (append_assoc (open_batch b) (open_batches bs) (g ∷ r)) ∙ behind b (open_batches bs ++ g ∷ r)) (omega (arith, length-append (open_batches bs) (g ∷ r))) damaged

no_damage_after : (bs cs : List Bytes) (g : ℕ) (r s : Bytes) → HaveLengths bs → HaveLengths cs → open_batches bs ++ g ∷ r ≡ open_batches cs ++ 1 ∷ s → g ≢ 1 → IsDamagedBatch s → ⊥
no_damage_after [] [] g r s fit fits e shut damaged = shut (first_byte _ _ e)
no_damage_after [] (c ∷ cs) g r s fit fits e shut damaged = shut (first_byte _ _ e)
no_damage_after (b ∷ bs) [] g r s fit fits e shut damaged = no_damage b bs g r s fit.0 e damaged
no_damage_after (b ∷ bs) (c ∷ cs) g r s fit fits e shut damaged =
    no_damage_after bs cs g r s fit.1 fits.1 (after_first b c bs cs (g ∷ r) (1 ∷ s) fit.0 fits.0 e).1 shut damaged

same_damaged : (bs cs : List Bytes) (r s : Bytes) → HaveLengths bs → HaveLengths cs → open_batches bs ++ 1 ∷ r ≡ open_batches cs ++ 1 ∷ s → IsDamagedBatch r → IsDamagedBatch s → bs ≡ cs
same_damaged [] [] r s fit fits e one two = refl
same_damaged [] (c ∷ cs) r s fit fits e one two = absurd (no_damage c cs 1 s r fits.0 (sym e) one)
same_damaged (b ∷ bs) [] r s fit fits e one two = absurd (no_damage b bs 1 r s fit.0 e two)
same_damaged (b ∷ bs) (c ∷ cs) r s fit fits e one two =
    let next = after_first b c bs cs (1 ∷ r) (1 ∷ s) fit.0 fits.0 e in
    let more = same_damaged bs cs r s fit.1 fits.1 next.1 one two in
    λ i. next.0 i ∷ more i

-- ---- heads

same_generation : (g h : ℕ) → g < 2 ^ 62 → h < 2 ^ 62 → head g ≡ head h → g ≡ h
same_generation g h below less e =
    let tails : to_be_bytes w64 g ≡ to_be_bytes w64 h = ap (λ (l : Bytes). take 8 (drop 8 l)) e in
    sym (from_be_bytes-to_be_bytes_8 g (omega (arith, below))) ∙ ap (λ (l : Bytes). from_be_bytes w64 l) tails ∙ from_be_bytes-to_be_bytes_8 h (omega (arith, less))

module _ (bytes : Bytes) (generation : ℕ) (batches : List Bytes) (gate : ℕ) (rest : Bytes) (s : Spells bytes generation batches gate rest) where
  long_head : 20 < length bytes
  long_head = omega (arith, spelling.size bytes generation batches gate rest s)

  has_mark : take 6 bytes ≡ mark
  has_mark = ap (λ (l : Bytes). take 6 l) s.bytes_are

  has_version : number_at w16 bytes 6 ≡ Some version
  has_version = number_here w16 bytes 6 (omega (arith, long_head)) ∙ ap (λ (l : Bytes). Some (from_be_bytes w16 (take 2 (drop 6 l)))) s.bytes_are

  has_generation : number_at w64 bytes 8 ≡ Some generation
  has_generation =
      number_here w64 bytes 8 (omega (arith, long_head)) ∙ ap (λ (l : Bytes). Some (from_be_bytes w64 (take 8 (drop 8 l)))) s.bytes_are ∙ ap (λ (n : ℕ). Some n) (from_be_bytes-to_be_bytes_8 generation (omega (arith, s.below)))

  pub has_format : take 8 bytes ≡ mark ++ to_be_bytes w16 version
  has_format = ap (λ (l : Bytes). take 8 l) s.bytes_are

  -- what stands at its first gate
  pub first_gate : get_or bytes 20 0 ≡ get_or (open_batches batches ++ gate ∷ rest) 0 0
  first_gate = sym (get_or-drop 20 bytes 0 0) ∙ ap (λ (l : Bytes). get_or l 0 0) (spelling.behind_head bytes generation batches gate rest s)

  no_bad_mark : HasNoMark bytes → ⊥
  no_bad_mark bad = bad has_mark

  no_bad_version : (n : ℕ) → HasUnknownVersion bytes n → ⊥
  no_bad_version n bad = bad.unknown (some_same (sym bad.is ∙ has_version))
    where
      some_same : {m k : ℕ} → Some m ≡ Some k → m ≡ k
      some_same e = cc

  no_bad_generation : HasBadGeneration bytes → ⊥
  no_bad_generation bad = absurd (omega (arith, bad.too_great, s.below, some_same (sym bad.is ∙ has_generation)))
    where
      some_same : {m k : ℕ} → Some m ≡ Some k → m ≡ k
      some_same e = cc

  has_checksum : number_at w32 bytes 16 ≡ Some (crc32c (take 16 bytes))
  has_checksum =
      number_here w32 bytes 16 (omega (arith, long_head)) ∙ ap (λ (l : Bytes). Some (from_be_bytes w32 (take 4 (drop 16 l)))) s.bytes_are
      ∙ ap (λ (n : ℕ). Some n) (from_be_bytes-to_be_bytes_4 (crc32c (title generation)) (crc32c_lt (title generation))) ∙ ap (λ (l : Bytes). Some (crc32c (take 16 l))) (sym s.bytes_are)

  no_bad_head : (at : ℕ) → IsHeadDamagedAt bytes at → ⊥
  no_bad_head at (inl bad) = no_bad_mark bad.1
  no_bad_head at (inr (inl bad)) = no_bad_generation bad.1
  no_bad_head at (inr (inr bad)) = bad.1.differs has_checksum

-- two spellings begin with one head, and have the same behind it
one_head : (bytes : Bytes) (g h : ℕ) (bs cs : List Bytes) (x y : ℕ) (r s : Bytes) → Spells bytes g bs x r → Spells bytes h cs y s → g ≡ h
one_head bytes g h bs cs x y r s one other =
    same_generation g h one.below other.below (sym (spelling.head_is bytes g bs x r one) ∙ spelling.head_is bytes h cs y s other)

one_tail : (bytes : Bytes) (g h : ℕ) (bs cs : List Bytes) (x y : ℕ) (r s : Bytes) → Spells bytes g bs x r → Spells bytes h cs y s → open_batches bs ++ x ∷ r ≡ open_batches cs ++ y ∷ s
one_tail bytes g h bs cs x y r s one other = sym (spelling.behind_head bytes g bs x r one) ∙ spelling.behind_head bytes h cs y s other

-- ---- logs

logs_generation : (bytes : Bytes) (g h : ℕ) (bs cs : List Bytes) → IsLog g bs bytes → IsLog h cs bytes → g ≡ h
logs_generation bytes g h bs cs one other = one_head bytes g h bs cs one.gate other.gate one.rest other.rest one.spells other.spells

logs_list : (bytes : Bytes) (g h : ℕ) (bs cs : List Bytes) → IsLog g bs bytes → IsLog h cs bytes → bs ≡ cs
logs_list bytes g h bs cs one other =
    same_closed bs cs one.gate other.gate one.rest other.rest one.spells.lengths other.spells.lengths (one_tail bytes g h bs cs one.gate other.gate one.rest other.rest one.spells other.spells) one.closed other.closed

-- a file of 21 bytes or fewer has no open batch
pub short_none : (bytes : Bytes) (g : ℕ) (b : Bytes) (bs : List Bytes) → length bytes ≤ 21 → IsLog g (b ∷ bs) bytes → ⊥
short_none bytes g b bs short log = absurd (omega (arith, short, spelling.size bytes g (b ∷ bs) log.gate log.rest log.spells, spelling.end_of-some b bs))

-- none and some
none_some : (bytes : Bytes) (g : ℕ) (b : Bytes) (bs : List Bytes) → HasOpen bytes None [] → IsLog g (b ∷ bs) bytes → ⊥
none_some bytes g b bs (inl short) log = short_none bytes g b bs short log
none_some bytes g b bs (inr shut) log = shut.closed (first_gate bytes g (b ∷ bs) log.gate log.rest log.spells)

pub one_generation : (bytes : Bytes) (g h : Option ℕ) (bs cs : List Bytes) → HasOpen bytes g bs → HasOpen bytes h cs → g ≡ h
one_generation bytes None None bs cs one other = refl
one_generation bytes None (Some h) bs [] one other = absurd other
one_generation bytes None (Some h) [] (c ∷ cs) one other = absurd (none_some bytes h c cs one other)
one_generation bytes None (Some h) (b ∷ bs) (c ∷ cs) one other = absurd one
one_generation bytes (Some g) None [] cs one other = absurd one
one_generation bytes (Some g) None (b ∷ bs) [] one other = absurd (none_some bytes g b bs other one)
one_generation bytes (Some g) None (b ∷ bs) (c ∷ cs) one other = absurd other
one_generation bytes (Some g) (Some h) [] cs one other = absurd one
one_generation bytes (Some g) (Some h) (b ∷ bs) [] one other = absurd other
one_generation bytes (Some g) (Some h) (b ∷ bs) (c ∷ cs) one other = ap (λ (n : ℕ). Some n) (logs_generation bytes g h (b ∷ bs) (c ∷ cs) one other)

pub one_list : (bytes : Bytes) (g h : Option ℕ) (bs cs : List Bytes) → HasOpen bytes g bs → HasOpen bytes h cs → bs ≡ cs
one_list bytes None None [] [] one other = refl
one_list bytes None None [] (c ∷ cs) one other = absurd other
one_list bytes None None (b ∷ bs) cs one other = absurd one
one_list bytes None (Some h) bs [] one other = absurd other
one_list bytes None (Some h) [] (c ∷ cs) one other = absurd (none_some bytes h c cs one other)
one_list bytes None (Some h) (b ∷ bs) (c ∷ cs) one other = absurd one
one_list bytes (Some g) None [] cs one other = absurd one
one_list bytes (Some g) None (b ∷ bs) [] one other = absurd (none_some bytes g b bs other one)
one_list bytes (Some g) None (b ∷ bs) (c ∷ cs) one other = absurd other
one_list bytes (Some g) (Some h) [] cs one other = absurd one
one_list bytes (Some g) (Some h) (b ∷ bs) [] one other = absurd other
one_list bytes (Some g) (Some h) (b ∷ bs) (c ∷ cs) one other = logs_list bytes g h (b ∷ bs) (c ∷ cs) one other

-- a log without batches is shut
pub none_shut : (bytes : Bytes) (g : ℕ) → IsLog g [] bytes → IsShut bytes
none_shut bytes g log = record {
  marked = has_format bytes g [] log.gate log.rest log.spells;
  long = long_head bytes g [] log.gate log.rest log.spells;
  closed = λ one. log.closed (sym (first_gate bytes g [] log.gate log.rest log.spells) ∙ one);
}

-- a long file that is read has the format
pub format_of : (bytes : Bytes) (g : Option ℕ) (bs : List Bytes) → 21 < length bytes → HasOpen bytes g bs → take 8 bytes ≡ mark ++ to_be_bytes w16 version
format_of bytes None [] long (inl short) = absurd (omega arith)
format_of bytes None [] long (inr shut) = shut.marked
format_of bytes None (b ∷ bs) long open_ = absurd open_
format_of bytes (Some g) [] long open_ = absurd open_
format_of bytes (Some g) (b ∷ bs) long log = has_format bytes g (b ∷ bs) log.gate log.rest log.spells

log_whole : (bytes : Bytes) (g : ℕ) (bs : List Bytes) (at : ℕ) → IsLog g bs bytes → IsHeadDamagedAt bytes at ⊎ HasDamagedBatch bytes at → ⊥
log_whole bytes g bs at log (inl bad) = no_bad_head bytes g bs log.gate log.rest log.spells at bad
log_whole bytes g bs at log (inr cut) =
    no_damage_after bs cut.batches log.gate log.rest cut.rest log.spells.lengths cut.spells.lengths (one_tail bytes g cut.generation bs cut.batches log.gate 1 log.rest cut.rest log.spells cut.spells) log.closed cut.damaged

-- a batch that is damaged stands behind open gates
open_first : (bs : List Bytes) (r : Bytes) → get_or (open_batches bs ++ 1 ∷ r) 0 0 ≡ 1
open_first [] r = refl
open_first (b ∷ bs) r = refl

shut_whole : (bytes : Bytes) (at : ℕ) → IsShut bytes → IsHeadDamagedAt bytes at ⊎ HasDamagedBatch bytes at → ⊥
shut_whole bytes at shut (inl (inl bad)) = bad.1 (sym (take-take 6 8 bytes (omega arith)) ∙ ap (λ (l : Bytes). take 6 l) shut.marked)
shut_whole bytes at shut (inl (inr (inl bad))) = shut.closed bad.1.first_open
shut_whole bytes at shut (inl (inr (inr bad))) = shut.closed bad.1.first_open
shut_whole bytes at shut (inr cut) = shut.closed (first_gate bytes cut.generation cut.batches 1 cut.rest cut.spells ∙ open_first cut.batches cut.rest)

pub whole : (bytes : Bytes) (g : Option ℕ) (bs : List Bytes) (at : ℕ) → HasOpen bytes g bs → ¬ IsDamagedAt bytes at
whole bytes None [] at (inl short) damaged = absurd (omega (arith, short, damaged.long))
whole bytes None [] at (inr shut) damaged = shut_whole bytes at shut damaged.damage
whole bytes None (b ∷ bs) at open_ damaged = absurd open_
whole bytes (Some g) [] at open_ damaged = absurd open_
whole bytes (Some g) (b ∷ bs) at log damaged = log_whole bytes g (b ∷ bs) at log damaged.damage

-- another version
other_version : (bytes : Bytes) (n : ℕ) → number_at w16 bytes 6 ≡ Some version → HasUnknownVersion bytes n → ⊥
other_version bytes n known bad = bad.unknown (some_same (sym bad.is ∙ known))
  where
    some_same : {m k : ℕ} → Some m ≡ Some k → m ≡ k
    some_same e = cc

-- the version behind a mark
version_there : (bytes : Bytes) → 20 < length bytes → take 8 bytes ≡ mark ++ to_be_bytes w16 version → number_at w16 bytes 6 ≡ Some version
version_there bytes long marked =
    number_here w16 bytes 6 (omega (arith, long)) ∙ ap (λ (l : Bytes). Some (from_be_bytes w16 l)) (sym (drop-take 6 2 bytes)) ∙ ap (λ (l : Bytes). Some (from_be_bytes w16 (drop 6 l))) marked

pub known : (bytes : Bytes) (g : Option ℕ) (bs : List Bytes) (n : ℕ) → HasOpen bytes g bs → ¬ IsOfUnknownVersion bytes n
known bytes g bs n open_ bad = other_version bytes n (version_there bytes (omega (arith, bad.long)) (format_of bytes g bs bad.long open_)) bad.version

-- a head that has two faults would have a generation that is too great and small enough
small_and_great : (bytes : Bytes) → HasBadGeneration bytes → HasBadChecksum bytes → ⊥
small_and_great bytes one two = absurd (omega (arith, one.too_great, two.below, some_same (sym one.is ∙ two.is)))
  where
    some_same : {m k : ℕ} → Some m ≡ Some k → m ≡ k
    some_same e = cc

head_at : (bytes : Bytes) (at other : ℕ) → IsHeadDamagedAt bytes at → IsHeadDamagedAt bytes other → at ≡ other
head_at bytes at other (inl one) (inl two) = one.0 ∙ sym two.0
head_at bytes at other (inl one) (inr (inl two)) = absurd (one.1 two.1.marked)
head_at bytes at other (inl one) (inr (inr two)) = absurd (one.1 two.1.marked)
head_at bytes at other (inr (inl one)) (inl two) = absurd (two.1 one.1.marked)
head_at bytes at other (inr (inl one)) (inr (inl two)) = one.0 ∙ sym two.0
head_at bytes at other (inr (inl one)) (inr (inr two)) = absurd (small_and_great bytes one.1 two.1)
head_at bytes at other (inr (inr one)) (inl two) = absurd (two.1 one.1.marked)
head_at bytes at other (inr (inr one)) (inr (inl two)) = absurd (small_and_great bytes two.1 one.1)
head_at bytes at other (inr (inr one)) (inr (inr two)) = one.0 ∙ sym two.0

damage_at : (bytes : Bytes) (at other : ℕ) → IsHeadDamagedAt bytes at ⊎ HasDamagedBatch bytes at →
    IsHeadDamagedAt bytes other ⊎ HasDamagedBatch bytes other → at ≡ other
damage_at bytes at other (inl one) (inl two) = head_at bytes at other one two
damage_at bytes at other (inl one) (inr two) = absurd (no_bad_head bytes two.generation two.batches 1 two.rest two.spells at one)
damage_at bytes at other (inr one) (inl two) = absurd (no_bad_head bytes one.generation one.batches 1 one.rest one.spells other two)
damage_at bytes at other (inr one) (inr two) =
    one.here ∙ ap end_of (same_damaged one.batches two.batches one.rest two.rest one.spells.lengths two.spells.lengths (one_tail bytes one.generation two.generation one.batches two.batches 1 1 one.rest two.rest one.spells two.spells) one.damaged two.damaged) ∙ sym two.here

pub one_offset : (bytes : Bytes) (at other : ℕ) → IsDamagedAt bytes at → IsDamagedAt bytes other → at ≡ other
one_offset bytes at other one two = damage_at bytes at other one.damage two.damage

damage_known : (bytes : Bytes) (at n : ℕ) → IsHeadDamagedAt bytes at ⊎ HasDamagedBatch bytes at → HasUnknownVersion bytes n → ⊥
damage_known bytes at n (inl (inl one)) bad = one.1 bad.marked
damage_known bytes at n (inl (inr (inl one))) bad = other_version bytes n one.1.known bad
damage_known bytes at n (inl (inr (inr one))) bad = other_version bytes n one.1.known bad
damage_known bytes at n (inr one) bad = no_bad_version bytes one.generation one.batches 1 one.rest one.spells n bad

pub one_fault : (bytes : Bytes) (at n : ℕ) → IsDamagedAt bytes at → ¬ IsOfUnknownVersion bytes n
one_fault bytes at n damaged bad = damage_known bytes at n damaged.damage bad.version

pub law : LawReading
law = record {
  one_generation = one_generation;
  one_list = one_list;
  whole = whole;
  known = known;
  one_offset = one_offset;
  one_fault = one_fault;
}
