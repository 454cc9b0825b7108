-- What stands in the blocks of one image stands in another that begins them so.
use Rattle.std.proofs.Common.{◌≡◌, ◌≤◌, ℕ, ◌+◌, ◌-◌, ◌==◌, ◌&&◌, ◌||◌, Bool, true, false, cond, List, [], ◌∷◌, Option, Some, None, IfSome, All, Ok, length, take, drop, find, option_map, refl, sym, ap, subst, ◌∙◌, arith, length-take-le}
use Rattle.std.specs.Prelude.{nat_le, unwrap_or}
use Rattle.std.specs.Io.{StartsWith}
use Rattle.std.specs.List.{AllZip}
use Rattle.std.proofs.lemmas.Bool.{true≢false, and_parts, eq-eqb, eqb-true, ne_eqb, leb-true}
use Rattle.std.proofs.lemmas.List.{take-take, drop-take}
use Rattle.std.proofs.lemmas.List.Elements.{All-nil, All-cons, All-head, All-tail, All-weaker}
use Rattle.js_base.specs.Bytes.{Bytes}
use Rattle.js_base.specs.declared.spot.Spot.{Spot}
use Rattle.js_model.specs.declared.stream.Message.{Message}
use Rattle.op_records.specs.Blocks.{message_at}
use Rattle.op_records.specs.Laws.{IsBatch}
use Rattle.vol_disk.specs.Disk.{Disk, Files}
use Rattle.message_block.specs.Standing.{Stands}
use Rattle.block_table.specs.declared.block.Block.{Block}
use Rattle.block_table.specs.declared.placed.Placed.{Placed}
use Rattle.block_table.specs.Blocks.{Blocks, blocks, is_among}
use Rattle.block_table.specs.Puts.{end_of}
use Rattle.block_table.specs.Tables.{AreApart, IsTable, lies_in}
use Rattle.block_reading.specs.Standing.{AreMessages, AreStoredIn, IsThere, IsWhole, StandsAt, bytes_at}
use Rattle.block_writing.specs.Writing.{BlocksStand, end_in, front_in}

-- the block holds the same up to its end
abbrev pub IsSame : Files → Files → Block → Type 0
IsSame x y k = take k.end (y k.file) ≡ take k.end (x k.file)

-- ---- spots

span_in : (n at len : ℕ) (xs : Bytes) → at + len ≤ n → take len (drop at xs) ≡ take len (drop at (take n xs))
span_in n at len xs within =
    let whole : at + (n - at) ≡ n = omega (arith, within) in
    sym (take-take len (n - at) (drop at xs) (omega (arith, within))) ∙ ap (take len) (sym (drop-take at (n - at) xs)) ∙ ap (λ (k : ℕ). take len (drop at (take k xs))) whole

pub span_same : (n at len : ℕ) (xs ys : Bytes) → at + len ≤ n → take n ys ≡ take n xs → take len (drop at ys) ≡ take len (drop at xs)
span_same n at len xs ys within same = span_in n at len ys within ∙ ap (λ (l : Bytes). take len (drop at l)) same ∙ sym (span_in n at len xs within)

module _ (x y : Files) where
  pub spot_same : (ks : List Block) (spot : Spot) → All (IsSame x y) ks → lies_in ks spot ≡ true → bytes_at y spot ≡ bytes_at x spot
  spot_same [] spot h is = absurd (true≢false (sym is))
  spot_same (k ∷ ks) spot h is = go (k.file == spot.file && nat_le (end_of spot) k.end) refl is (spot_same ks spot (All-tail (IsSame x y) k ks h))
    where
      there : (k.file == spot.file && nat_le (end_of spot) k.end) ≡ true → bytes_at y spot ≡ bytes_at x spot
      there e =
          let parts = and_parts (k.file == spot.file) (nat_le (end_of spot) k.end) e in
          let file : k.file ≡ spot.file = eqb-true k.file spot.file parts.0 in
          subst (λ (f : ℕ). take spot.len (drop spot.at (y f)) ≡ take spot.len (drop spot.at (x f))) file
          (span_same k.end spot.at spot.len (x k.file) (y k.file) (leb-true (end_of spot) k.end parts.1) (All-head (IsSame x y) k ks h))

      go : (t : Bool) → (k.file == spot.file && nat_le (end_of spot) k.end) ≡ t → (t || lies_in ks spot) ≡ true → (lies_in ks spot ≡ true → bytes_at y spot ≡ bytes_at x spot) → bytes_at y spot ≡ bytes_at x spot
      go true e l rest = there e
      go false e l rest = rest l

  pub stands_moved : (spot : Spot) (m : Message) → bytes_at y spot ≡ bytes_at x spot → StandsAt x spot m → StandsAt y spot m
  stands_moved spot m same h = record { few = subst IsBatch (sym same) h.few; reads = subst (λ (l : Bytes). message_at l 0 ≡ Ok (m, spot.len)) (sym same) h.reads }

  found_moved : (ks : List Block) (ps : List Placed) (ms : List Message) → All (IsSame x y) ks → All (λ p. lies_in ks p.spot ≡ true) ps → AllZip (IsThere x) ps ms → AllZip (IsThere y) ps ms
  found_moved ks [] [] same inside h = tt
  found_moved ks (p ∷ ps) (m ∷ ms) same inside h = (
    record { seq = h.0.seq; stands = stands_moved p.spot m (spot_same ks p.spot same (All-head (λ (p : Placed). lies_in ks p.spot ≡ true) p ps inside)) h.0.stands },
    found_moved ks ps ms same (All-tail (λ (p : Placed). lies_in ks p.spot ≡ true) p ps inside) h.1,
  )
  found_moved ks [] (m ∷ ms) same inside h = absurd h
  found_moved ks (p ∷ ps) [] same inside h = absurd h

  -- ---- blocks

  pub whole_moved : (last : ℕ) (ks : List Block) → All (IsSame x y) ks → All (IsWhole x last) ks → All (IsWhole y last) ks
  whole_moved last [] same h = All-nil (IsWhole y last)
  whole_moved last (k ∷ ks) same h =
      All-cons (IsWhole y last) k ks (subst (λ (l : Bytes). AreMessages l last k.end) (sym (All-head (IsSame x y) k ks same)) (All-head (IsWhole x last) k ks h))
      (whole_moved last ks (All-tail (IsSame x y) k ks same) (All-tail (IsWhole x last) k ks h))

  pub stored_moved : (b : Blocks) (last : ℕ) (ms : List Message) → IsTable b → All (IsSame x y) (blocks b) → AreStoredIn x b last ms → AreStoredIn y b last ms
  stored_moved b last ms table same h = record { whole = whole_moved last (blocks b) same h.whole; found = found_moved (blocks b) b.placed ms same table.inside h.found }

-- ---- ends

abbrev in_file : ℕ → Block → Bool
in_file file k = k.file == file

abbrev end_among : List Block → ℕ → ℕ
end_among ks file = unwrap_or (option_map (λ (k : Block). k.end) (find (in_file file) ks)) 0

module _ (k : Block) (ks : List Block) where
  lift : (xs : List Block) → All (λ j. end_among ks j.file ≡ j.end) xs → is_among xs k.file ≡ false → All (λ j. end_among (k ∷ ks) j.file ≡ j.end) xs
  lift [] h none = All-nil (λ (j : Block). end_among (k ∷ ks) j.file ≡ j.end)
  lift (j ∷ xs) h none = go (j.file == k.file) refl none (lift xs (All-tail (λ (j : Block). end_among ks j.file ≡ j.end) j xs h))
    where
      go : (t : Bool) → (j.file == k.file) ≡ t → (t || is_among xs k.file) ≡ false → (is_among xs k.file ≡ false → All (λ j. end_among (k ∷ ks) j.file ≡ j.end) xs) → All (λ j. end_among (k ∷ ks) j.file ≡ j.end) (j ∷ xs)
      go true e l rest = absurd (true≢false l)
      go false e l rest =
          let apart : (k.file == j.file) ≡ false = ne_eqb k.file j.file (λ is. true≢false (sym (eq-eqb j.file k.file (sym is)) ∙ e)) in
          All-cons (λ (j : Block). end_among (k ∷ ks) j.file ≡ j.end) j xs
          (ap (λ (t : Bool). unwrap_or (option_map (λ (k : Block). k.end) (cond t (Some k) (find (in_file j.file) ks))) 0) apart ∙ All-head (λ (j : Block). end_among ks j.file ≡ j.end) j xs h)
          (rest l)

ends_are : (ks : List Block) → AreApart ks → All (λ k. end_among ks k.file ≡ k.end) ks
ends_are [] apart = All-nil (λ (k : Block). end_among [] k.file ≡ k.end)
ends_are (k ∷ ks) apart =
    All-cons (λ (j : Block). end_among (k ∷ ks) j.file ≡ j.end) k ks
    (ap (λ (t : Bool). unwrap_or (option_map (λ (k : Block). k.end) (cond t (Some k) (find (in_file k.file) ks))) 0) (eq-eqb k.file k.file refl))
    (lift k ks ks (ends_are ks apart.1) apart.0)

-- where the blocks stand, what begins as they do holds the same
pub same_fronts : (b : Blocks) (disk : Disk) (image : Files) → IsTable b → BlocksStand b disk → ((file : ℕ) → StartsWith (image file) (front_in b disk.seen file)) → All (IsSame disk.seen image) (blocks b)
same_fronts b disk image table stand starts = All-weaker (λ (k : Block). end_among (blocks b) k.file ≡ k.end) (IsSame disk.seen image) at (blocks b) (ends_are (blocks b) table.blocks_are.apart)
  where
    at : (k : Block) → end_in b k.file ≡ k.end → IsSame disk.seen image k
    at k is =
        let full : length (front_in b disk.seen k.file) ≡ end_in b k.file = length-take-le (end_in b k.file) (disk.seen k.file) (stand.long k.file) in
        subst (λ (n : ℕ). take n (image k.file) ≡ take n (disk.seen k.file)) is (subst (λ (n : ℕ). take n (image k.file) ≡ front_in b disk.seen k.file) full (starts k.file))

-- ---- blocks that stand

find_all : (P : Block → Type 0) (ks : List Block) (file : ℕ) (o : Option Block) → find (in_file file) ks ≡ o → All P ks → IfSome o (λ k. (k.file ≡ file) × P k)
find_all P [] file None e h = tt
find_all P [] file (Some k) e h = cc
find_all P (j ∷ ks) file o e h = go (j.file == file) refl e (λ same. find_all P ks file o same (All-tail P j ks h))
  where
    go : (t : Bool) → (j.file == file) ≡ t → cond t (Some j) (find (in_file file) ks) ≡ o → (find (in_file file) ks ≡ o → IfSome o (λ k. (k.file ≡ file) × P k)) → IfSome o (λ k. (k.file ≡ file) × P k)
    go true is same rest = subst (λ (q : Option Block). IfSome q (λ k. (k.file ≡ file) × P k)) same (eqb-true j.file file is, All-head P j ks h)
    go false is same rest = rest same

-- the block is written so far, and stands
pub record IsFirm (disk : Disk) (k : Block) : Type 0 where
  pub long : k.end ≤ length (disk.seen k.file)
  pub left : (bytes : Bytes) → disk.leaves k.file bytes → take k.end bytes ≡ take k.end (disk.seen k.file)

abbrev StandsTo : Disk → ℕ → ℕ → Type 0
StandsTo disk file end = (end ≤ length (disk.seen file)) × Stands disk file (take end (disk.seen file))

firm_stands : (disk : Disk) (file end : ℕ) → end ≤ length (disk.seen file) → ((bytes : Bytes) → disk.leaves file bytes → take end bytes ≡ take end (disk.seen file)) → StandsTo disk file end
firm_stands disk file end long left =
    let full : length (take end (disk.seen file)) ≡ end = length-take-le end (disk.seen file) long in
    (long, record { read = ap (λ (n : ℕ). take n (disk.seen file)) full; left = λ bytes is. ap (λ (n : ℕ). take n bytes) full ∙ left bytes is })

pub firm_blocks : (b : Blocks) (disk : Disk) → All (IsFirm disk) (blocks b) → BlocksStand b disk
firm_blocks b disk firm = record { long = λ file. (at file).0; stand = λ file. (at file).1 }
  where
    of_found : (file : ℕ) (o : Option Block) → IfSome o (λ k. (k.file ≡ file) × IsFirm disk k) → StandsTo disk file (unwrap_or (option_map (λ (k : Block). k.end) o) 0)
    of_found file None h = firm_stands disk file 0 (omega arith) (λ bytes is. refl)
    of_found file (Some k) h = subst (λ (f : ℕ). StandsTo disk f k.end) h.0 (firm_stands disk k.file k.end h.1.long h.1.left)

    at : (file : ℕ) → StandsTo disk file (end_in b file)
    at file = of_found file (find (in_file file) (blocks b)) (find_all (IsFirm disk) (blocks b) file (find (in_file file) (blocks b)) refl firm)
