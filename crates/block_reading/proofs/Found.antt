-- Stored messages that were read one after the other.
use Rattle.std.proofs.Common.{◌≡◌, ◌<◌, ◌≤◌, ◌⊎◌, inl, inr, ℕ, zero, suc, ◌+◌, ◌==◌, ◌&&◌, Bool, true, cond, List, [], ◌∷◌, ◌++◌, Some, None, All, IsTrue, length, take, drop, get_or, map, find, option_map, refl, sym, ap, subst, ◌∙◌, arith, length-take}
use Rattle.std.specs.Prelude.{nat_le}
use Rattle.std.specs.List.{AllZip, list_all}
use Rattle.std.specs.List.Sorted.{IsStrictlySortedBy}
use Rattle.std.specs.Ordering.{nat_cmp}
use Rattle.std.proofs.lemmas.Bool.{true≢false, or_cases, and_parts, and_from, eqb-true, eq-eqb, ne_eqb, leb-true}
use Rattle.std.proofs.lemmas.List.{get_or-map, take_all}
use Rattle.std.proofs.lemmas.List.Elements.{All-head, All-tail, All-get_or}
use Rattle.std.proofs.lemmas.List.Folds.{list_all-append}
use Rattle.std.proofs.lemmas.Map.Keys.{below_from_sorted, sorted_tail}
use Rattle.js_base.specs.declared.spot.Spot.{Spot}
use Rattle.js_model.specs.Streams.{seqs}
use Rattle.js_model.specs.declared.stream.Message.{Message}
use Rattle.op_records.specs.Blocks.{is_block_message}
use Rattle.vol_disk.specs.Disk.{Files}
use Rattle.block_table.specs.declared.block.Block.{Block}
use Rattle.block_table.specs.declared.placed.Placed.{Placed}
use Rattle.block_table.specs.Blocks.{Blocks, blocks, spot_of}
use Rattle.block_table.specs.Puts.{end_of}
use Rattle.block_table.specs.Tables.{IsTable, lies_in}
use Rattle.block_reading.specs.Standing.{IsWhole, IsThere, StandsAt, written_in}
use Rattle.block_reading.specs.Damage.{IsToldBy}
use Rattle.block_reading.specs.Reading.{AreLostFault, IsCheckFault, IsFound, IsLostFault, IsMessagesFault}
use Rattle.block_reading.specs.declared.fault.MessagesFault.{MessagesFault}
use Rattle.block_reading.specs.declared.fault.MessagesFault.TheVariants.{Fault, Damaged, NoMemory as OutOfMemory}
use Rattle.block_reading.proofs.Within.{follow_within}
use Rattle.block_reading.proofs.Loads.{item_is, parts, one_more}
use Rattle.block_reading.proofs.OneReading.{here_of}

-- ---- where a stored message lies

abbrev pub placed_seqs : List Placed → List ℕ
placed_seqs ps = map (λ p. p.seq) ps

find_seq : (ps : List Placed) (i : ℕ) (d : Placed) → IsStrictlySortedBy nat_cmp (placed_seqs ps) → i < length ps → find (λ p. p.seq == (get_or ps i d).seq) ps ≡ Some (get_or ps i d)
find_seq [] i d sorted within = absurd (omega (arith, within))
find_seq (p ∷ ps) zero d sorted within = ap (λ (c : Bool). cond c (Some p) (find (λ (q : Placed). q.seq == p.seq) ps)) (eq-eqb p.seq p.seq refl)
find_seq (p ∷ ps) (suc j) d sorted within =
    let inner : j < length ps = omega (arith, within) in
    let less = below_from_sorted (placed_seqs (p ∷ ps)) 0 (suc j) d.seq sorted (omega arith) (omega (arith, within, length_map ps)) in
    let below : p.seq < (get_or ps j d).seq = subst (λ (n : ℕ). p.seq < n) (get_or-map (λ (q : Placed). q.seq) ps j d d.seq inner) less in
    ap (λ (c : Bool). cond c (Some p) (find (λ (q : Placed). q.seq == (get_or ps j d).seq) ps)) (ne_eqb p.seq (get_or ps j d).seq (λ same. omega (arith, below, same)))
    ∙ find_seq ps j d (sorted_tail nat_cmp p.seq (placed_seqs ps) sorted) inner
  where
    length_map : (xs : List Placed) → length (placed_seqs xs) ≡ length xs
    length_map [] = refl
    length_map (x ∷ xs) = let more = length_map xs in omega (arith, more)

-- the placed message at the place of one that is told
pub record IsPlacedAt (b : Blocks) (i : ℕ) (told : Message) (spot : Spot) : Type 0 where
  pub p : Placed
  pub within : i < length b.placed
  pub is : p ≡ get_or b.placed i p
  pub seq : p.seq ≡ told.seq
  pub spot_is : p.spot ≡ spot

module _ (b : Blocks) (us : List Message) (i : ℕ) (u : Message) (table : IsTable b) (same : placed_seqs b.placed ≡ seqs us) (within : i < length us) (is : u ≡ get_or us i u) where
  long : length b.placed ≡ length us
  long = omega (arith, count b.placed, ap length same, counts us)
    where
      count : (xs : List Placed) → length (placed_seqs xs) ≡ length xs
      count [] = refl
      count (x ∷ xs) = let more = count xs in omega (arith, more)

      counts : (ms : List Message) → length (seqs ms) ≡ length ms
      counts [] = refl
      counts (m ∷ ms) = let more = counts ms in omega (arith, more)

  -- the message placed there
  abbrev other : Spot → Placed
  other spot = record { seq = u.seq; spot = spot }

  abbrev here : Spot → Placed
  here spot = get_or b.placed i (other spot)

  seq_is : (spot : Spot) → (here spot).seq ≡ u.seq
  seq_is spot =
      sym (get_or-map (λ (p : Placed). p.seq) b.placed i (other spot) u.seq (omega (arith, within, long))) ∙ ap (λ (l : List ℕ). get_or l i u.seq) same ∙ get_or-map (λ (m : Message). m.seq) us i u u.seq within
      ∙ ap (λ (m : Message). m.seq) (sym is)

  spot_there : (spot : Spot) → spot_of b.placed u.seq ≡ Some (here spot).spot
  spot_there spot =
      ap (λ (n : ℕ). spot_of b.placed n) (sym (seq_is spot)) ∙ ap (option_map (λ (p : Placed). p.spot)) (find_seq b.placed i (other spot) table.rising (omega (arith, within, long)))

  pub no_spot : None ≡ spot_of b.placed u.seq → ⊥
  no_spot none = go (none ∙ spot_there (record { file = 0; at = 0; len = 0 }))
    where
      go : {x : Spot} → None ≡ Some x → ⊥
      go e = cc

  pub placed_at : (spot : Spot) → Some spot ≡ spot_of b.placed u.seq → IsPlacedAt b i u spot
  placed_at spot found = record {
    p = here spot;
    within = omega (arith, within, long);
    is = item_is b.placed b.placed i (other spot) refl (omega (arith, within, long));
    seq = seq_is spot;
    spot_is = sym (go (found ∙ spot_there spot));
  }
    where
      go : {x y : Spot} → Some x ≡ Some y → x ≡ y
      go e = cc

-- ---- within its file

block_within : (image : Files) (last : ℕ) (k : Block) → IsWhole image last k → k.end ≤ length (image k.file)
block_within image last k h =
    let past = follow_within (written_in image k) h.messages 0 k.end h.few (omega arith) h.stand.follow in
    omega (arith, past, length-take k.end (image k.file))

inside_file : (image : Files) (last : ℕ) (ks : List Block) (spot : Spot) → lies_in ks spot ≡ true → All (IsWhole image last) ks → spot.at + spot.len ≤ length (image spot.file)
inside_file image last [] spot h all = absurd (true≢false (sym h))
inside_file image last (k ∷ ks) spot h all =
    go (λ is. inside_file image last ks spot is (All-tail (IsWhole image last) k ks all)) (or_cases (k.file == spot.file && nat_le (end_of spot) k.end) (lies_in ks spot) h)
  where
    go : (lies_in ks spot ≡ true → spot.at + spot.len ≤ length (image spot.file)) → ((k.file == spot.file && nat_le (end_of spot) k.end) ≡ true) ⊎ (lies_in ks spot ≡ true) → spot.at + spot.len ≤ length (image spot.file)
    go rest (inl is) =
        let both = and_parts (k.file == spot.file) (nat_le (end_of spot) k.end) is in
        let most = leb-true (end_of spot) k.end both.1 in
        let whole = block_within image last k (All-head (IsWhole image last) k ks all) in
        subst (λ (f : ℕ). spot.at + spot.len ≤ length (image f)) (eqb-true k.file spot.file both.0) (omega (arith, most, whole))
    go rest (inr is) = rest is

pub spot_within : (image : Files) (last : ℕ) (b : Blocks) (i : ℕ) (u : Message) (spot : Spot) → IsTable b → IsPlacedAt b i u spot → All (IsWhole image last) (blocks b) → spot.at + spot.len ≤ length (image spot.file)
spot_within image last b i u spot table at all =
    subst (λ (s : Spot). s.at + s.len ≤ length (image s.file)) at.spot_is
    (inside_file image last (blocks b) at.p.spot (subst (λ (p : Placed). lies_in (blocks b) p.spot ≡ true) (sym at.is) (All-get_or (λ (p : Placed). lies_in (blocks b) p.spot ≡ true) b.placed i at.p at.within table.inside)) all)

-- ---- one after the other

zip_push : {X Y : Type 0} (R : X → Y → Type 0) (xs : List X) (ys : List Y) (x : X) (y : Y) → AllZip R xs ys → R x y → AllZip R (xs ++ x ∷ []) (ys ++ y ∷ [])
zip_push R [] [] x y h r = (r, tt)
zip_push R (a ∷ xs) (c ∷ ys) x y h r = (h.0, zip_push R xs ys x y h.1 r)
zip_push R [] (c ∷ ys) x y h r = absurd h
zip_push R (a ∷ xs) [] x y h r = absurd h

-- messages up to this place were found where they were placed
abbrev pub AreFoundUpTo : Files → Blocks → ℕ → List Message → Type 0
AreFoundUpTo image b i ms = AllZip (IsThere image) (take i b.placed) ms

pub one_found : (image : Files) (b : Blocks) (i : ℕ) (u m : Message) (ms : List Message) (spot : Spot) → IsPlacedAt b i u spot → AreFoundUpTo image b i ms → IsFound image spot u m → AreFoundUpTo image b (i + 1) (ms ++ m ∷ [])
one_found image b i u m ms spot at so_far found =
    subst (λ (l : List Placed). AllZip (IsThere image) l (ms ++ m ∷ [])) (sym (one_more b.placed i at.p at.within at.is))
    (zip_push (IsThere image) (take i b.placed) ms at.p m so_far (record { seq = found.by_log.seq ∙ sym at.seq; stands = subst (λ (s : Spot). StandsAt image s m) (sym at.spot_is) found.stands }))

pub one_allowed : (ms : List Message) (m : Message) → IsTrue (list_all is_block_message ms) → IsTrue (is_block_message m) → IsTrue (list_all is_block_message (ms ++ m ∷ []))
one_allowed ms m all one = list_all-append is_block_message ms (m ∷ []) ∙ and_from (list_all is_block_message ms) (is_block_message m && true) all (and_from (is_block_message m) true one refl)

pub all_found : (image : Files) (b : Blocks) (us : List Message) (i : ℕ) (ms : List Message) → placed_seqs b.placed ≡ seqs us → length us ≤ i → AreFoundUpTo image b i ms → AllZip (IsThere image) b.placed ms
all_found image b us i ms same past found = subst (λ (l : List Placed). AllZip (IsThere image) l ms) (take_all i b.placed (omega (arith, past, count b.placed, ap length same, counts us))) found
  where
    count : (xs : List Placed) → length (placed_seqs xs) ≡ length xs
    count [] = refl
    count (x ∷ xs) = let more = count xs in omega (arith, more)

    counts : (xs : List Message) → length (seqs xs) ≡ length xs
    counts [] = refl
    counts (x ∷ xs) = let more = counts xs in omega (arith, more)

pub all_told : (us : List Message) (i : ℕ) (ms : List Message) → length us ≤ i → AllZip IsToldBy (take i us) ms → AllZip IsToldBy us ms
all_told us i ms past told = subst (λ (l : List Message). AllZip IsToldBy l ms) (take_all i us past) told

-- the first that is lost
pub lost_there : (image : Files) (b : Blocks) (us : List Message) (i : ℕ) (u : Message) (ms : List Message) (spot : Spot) (fault : MessagesFault) → i < length us → u ≡ get_or us i u → IsPlacedAt b i u spot →
    AreFoundUpTo image b i ms → AllZip IsToldBy (take i us) ms → IsLostFault image spot u fault → AreLostFault image b.placed us fault
lost_there image b us i u ms spot Fault within is at found told h = tt
lost_there image b us i u ms spot OutOfMemory within is at found told h = tt
lost_there image b us i u ms spot (Damaged file place) within is at found told h = record {
  placed_before = take i b.placed;
  p = at.p;
  placed_after = drop (suc i) b.placed;
  placed_are = sym (parts b.placed i at.p at.within at.is);
  told_before = take i us;
  one = u;
  told_after = drop (suc i) us;
  told_are = sym (parts us i u within is);
  here = here_of image (take i b.placed) (take i us) ms found told;
  lost = λ there. h.2 there.0 (record { stands = subst (λ (s : Spot). StandsAt image s there.0) at.spot_is there.1.stands; by_log = there.2 });
  file_is = h.0 ∙ ap (λ (s : Spot). s.file) (sym at.spot_is);
  at_is = h.1 ∙ ap (λ (s : Spot). s.at) (sym at.spot_is);
}

-- ---- why messages were not read

pub check_told : (image : Files) (b : Blocks) (last : ℕ) (told : List Message) (fault : MessagesFault) → IsCheckFault image last (blocks b) fault → IsMessagesFault image b last told fault
check_told image b last told Fault h = tt
check_told image b last told (Damaged file at) h = inl h
check_told image b last told OutOfMemory h = tt

pub lost_told : (image : Files) (b : Blocks) (last : ℕ) (told : List Message) (fault : MessagesFault) → All (IsWhole image last) (blocks b) → AreLostFault image b.placed told fault →
    IsMessagesFault image b last told fault
lost_told image b last told Fault all h = tt
lost_told image b last told (Damaged file at) all h = inr (all, h)
lost_told image b last told OutOfMemory all h = tt
