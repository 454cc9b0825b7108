-- Parts of a log file by their offsets.
use Rattle.std.proofs.Common.{◌≡◌, ℕ, ◌+◌, ◌<◌, ◌≤◌, ◌^◌, List, [], ◌∷◌, ◌++◌, length, take, drop, refl, sym, ◌∙◌, ap, arith, append_assoc, length-append, take-append-drop}
use Rattle.std.specs.Int.{w32, to_be_bytes}
use Rattle.std.proofs.lemmas.List.{take_at, drop_at, append-nil}
use Rattle.js_base.specs.Bytes.{Bytes}
use Rattle.checksum.specs.Checked.{checked}
use Rattle.checksum.proofs.Checking.{length-checked}
use Rattle.gate_log.specs.Head.{head}
use Rattle.gate_log.specs.Batches.{open_batch, open_batches, end_of, HaveLengths}
use Rattle.gate_log.specs.LogFile.{Spells}

pub length-be4 : (n : ℕ) → length (to_be_bytes w32 n) ≡ 4
length-be4 n = refl

pub length-head : (generation : ℕ) → length (head generation) ≡ 20
length-head generation = refl

pub length-open_batch : (records : Bytes) → length (open_batch records) ≡ 9 + length records
length-open_batch records = omega (arith, length-checked records)

-- one batch more
pub open_batches-push : (batches : List Bytes) (records rest : Bytes) →
    open_batches (batches ++ records ∷ []) ++ rest ≡ open_batches batches ++ 1 ∷ (checked records ++ rest)
open_batches-push [] records rest = ap (λ (l : Bytes). l ++ rest) (append-nil (open_batch records))
open_batches-push (b ∷ batches) records rest =
    append_assoc (open_batch b) (open_batches (batches ++ records ∷ [])) rest ∙ ap (λ (l : Bytes). open_batch b ++ l) (open_batches-push batches records rest) ∙ sym (append_assoc (open_batch b) (open_batches batches) (1 ∷ (checked records ++ rest)))

pub lengths-push : (batches : List Bytes) (records : Bytes) → HaveLengths batches → length records < 2 ^ 32 → HaveLengths (batches ++ records ∷ [])
lengths-push [] records short one = (one, tt)
lengths-push (b ∷ batches) records short one = (short.0, lengths-push batches records short.1 one)

pub end_of-push : (batches : List Bytes) (records : Bytes) → end_of (batches ++ records ∷ []) ≡ end_of batches + 9 + length records
end_of-push batches records =
    omega (arith, ap length (open_batches-push batches records []), ap length (append-nil (open_batches (batches ++ records ∷ []))), length-append (open_batches batches) (1 ∷ (checked records ++ [])), length-append (checked records) [], length-checked records)

pub end_of-some : (records : Bytes) (batches : List Bytes) → 20 < end_of (records ∷ batches)
end_of-some records batches = omega (arith, length-append (open_batch records) (open_batches batches), length-open_batch records)

pub end_of-front : (front rest : List Bytes) → end_of front ≤ end_of (front ++ rest)
end_of-front [] rest = omega arith
end_of-front (b ∷ front) rest = omega (arith, end_of-front front rest, length-append (open_batch b) (open_batches front), length-append (open_batch b) (open_batches (front ++ rest)))

-- the gate after the first batch stays
pub first-push : (batches : List Bytes) (records : Bytes) (first last next : ℕ) → first ≡ end_of (take 1 batches) → last ≡ end_of batches → next ≡ end_of (batches ++ records ∷ []) →
    (last ≡ 20 → end_of (take 1 (batches ++ records ∷ [])) ≡ next) × (20 < last → end_of (take 1 (batches ++ records ∷ [])) ≡ first)
first-push [] records first last next f l n = (λ z. sym n, λ lt. absurd (omega arith))
first-push (b ∷ batches) records first last next f l n = (λ z. absurd (omega (arith, end_of-some b batches)), λ lt. sym f)

-- where batches are cut at one of them
pub open_batches-cut : (front : List Bytes) (records : Bytes) (more : List Bytes) →
    open_batches (front ++ records ∷ more) ≡ open_batches front ++ (open_batch records ++ open_batches more)
open_batches-cut [] records more = refl
open_batches-cut (b ∷ front) records more =
    ap (λ (l : Bytes). open_batch b ++ l) (open_batches-cut front records more) ∙ sym (append_assoc (open_batch b) (open_batches front) (open_batch records ++ open_batches more))

pub lengths-cut : (front : List Bytes) (records : Bytes) (more : List Bytes) → HaveLengths (front ++ records ∷ more) → length records < 2 ^ 32
lengths-cut [] records more short = short.0
lengths-cut (b ∷ front) records more short = lengths-cut front records more short.1

module _ (bytes : Bytes) (generation : ℕ) (batches : List Bytes) (gate : ℕ) (rest : Bytes) (s : Spells bytes generation batches gate rest) where
  abbrev pub front : Bytes
  front = head generation ++ open_batches batches

  pub length-front : length front ≡ end_of batches
  length-front = omega (arith, length-append (head generation) (open_batches batches), length-head generation)

  pub split : bytes ≡ front ++ gate ∷ rest
  split = s.bytes_are ∙ sym (append_assoc (head generation) (open_batches batches) (gate ∷ rest))

  split_gate : bytes ≡ (front ++ gate ∷ []) ++ rest
  split_gate = split ∙ sym (append_assoc front (gate ∷ []) rest)

  length-gate : length (front ++ gate ∷ []) ≡ end_of batches + 1
  length-gate = omega (arith, length-front, length-append front (gate ∷ []))

  pub size : length bytes ≡ end_of batches + 1 + length rest
  size = omega (arith, ap length split_gate, length-append (front ++ gate ∷ []) rest, length-gate)

  pub front_is : take (end_of batches) bytes ≡ front
  front_is = ap (λ (l : Bytes). take (end_of batches) l) split ∙ take_at front (gate ∷ rest) (end_of batches) length-front

  pub gate_is : take (end_of batches + 1) bytes ≡ front ++ gate ∷ []
  gate_is = ap (λ (l : Bytes). take (end_of batches + 1) l) split_gate ∙ take_at (front ++ gate ∷ []) rest (end_of batches + 1) length-gate

  pub rest_is : drop (end_of batches + 1) bytes ≡ rest
  rest_is = ap (λ (l : Bytes). drop (end_of batches + 1) l) split_gate ∙ drop_at (front ++ gate ∷ []) rest (end_of batches + 1) length-gate

  pub head_is : take 20 bytes ≡ head generation
  head_is = ap (λ (l : Bytes). take 20 l) s.bytes_are ∙ take_at (head generation) (open_batches batches ++ gate ∷ rest) 20 (length-head generation)

  pub behind_head : drop 20 bytes ≡ open_batches batches ++ gate ∷ rest
  behind_head = ap (λ (l : Bytes). drop 20 l) s.bytes_are ∙ drop_at (head generation) (open_batches batches ++ gate ∷ rest) 20 (length-head generation)

-- a file by its head and what stands behind that
pub spelled : (bytes : Bytes) (generation : ℕ) (batches : List Bytes) (gate : ℕ) (rest : Bytes) → take 20 bytes ≡ head generation → generation < 2 ^ 62 → HaveLengths batches →
    drop 20 bytes ≡ open_batches batches ++ gate ∷ rest → Spells bytes generation batches gate rest
spelled bytes generation batches gate rest h below lengths behind = record {
  bytes_are = sym (take-append-drop 20 bytes) ∙ ap (λ (l : Bytes). l ++ drop 20 bytes) h ∙ ap (λ (l : Bytes). head generation ++ l) behind;
  below = below;
  lengths = lengths;
}
