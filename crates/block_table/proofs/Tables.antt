-- What is true of every table stays true, and what a change comes to in one.
use Rattle.std.proofs.Common.{◌≡◌, ℕ, ◌<◌, ◌≤◌, ◌^◌, ◌-◌, ◌==◌, ◌&&◌, ◌||◌, Bool, true, false, cond, not, List, [], ◌∷◌, ◌++◌, Option, Some, None, map, refl, sym, ap, ◌∙◌, subst, arith, slice_index_or}
use Rattle.std.specs.Prelude.{All, filter, nat_le}
use Rattle.std.specs.List.{list_any, AllByRecursion}
use Rattle.std.specs.List.Sorted.{IsStrictlySortedBy}
use Rattle.std.specs.Option.{option_to_list}
use Rattle.std.specs.Ordering.{nat_cmp}
use Rattle.std.specs.declared.cmp.Ordering.TheVariants.{Less}
use Rattle.std.specs.Cmp.{nat_cmp_is}
use Rattle.std.proofs.lemmas.Bool.{or_parts, or_left, or_right, and_parts, and_from, eqb-true, eq-eqb, leb-true, le-leb, leb-false, not-true}
use Rattle.std.proofs.lemmas.List.{map-append}
use Rattle.std.proofs.lemmas.List.Elements.{All-head, All-tail, All-push, All-filter, All-cons, All-nil}
use Rattle.std.proofs.lemmas.List.Folds.{list_any-append}
use Rattle.js_base.specs.declared.spot.Spot.{Spot}
use Rattle.block_table.specs.declared.block.Block.{Block}
use Rattle.block_table.specs.declared.placed.Placed.{Placed}
use Rattle.block_table.specs.Blocks.{Blocks, no_blocks, blocks, has_block, is_among, is_used, used}
use Rattle.block_table.specs.Counts.{UsesAsBefore}
use Rattle.block_table.specs.Puts.{end_of, is_above, goes_on, begins, fits, left_by, with_placed, put_at, is_within, without, removed}
use Rattle.block_table.specs.Tables.{AreApart, AreBlocks, AreBlocksBelow, IsFile, IsTable, lies_in}
use Rattle.block_table.proofs.Lists.{kept_all, kept_pass, kept-append, each_passes}
use Rattle.block_table.proofs.Apart.{apart_with, apart_kept, apart_first, apart_last, covers, lies_kept, lies_left, lies_right, lies_among}

-- ---- used

-- each message's file is used
pub each_used : (ps : List Placed) → All (λ p. is_used ps p.spot.file ≡ true) ps
each_used ps = each_passes (λ (p q : Placed). q.spot.file == p.spot.file) (λ p. eq-eqb p.spot.file p.spot.file refl) ps

-- a used file stays used with a message more
pub used_more : (seq : ℕ) (spot : Spot) (ps : List Placed) (file : ℕ) → is_used ps file ≡ true → is_used (with_placed seq spot ps) file ≡ true
used_more seq spot ps file h =
    list_any-append (λ (p : Placed). p.spot.file == file) ps (record { seq = seq; spot = spot } ∷ []) ∙ or_left (is_used ps file) ((spot.file == file) || false) h

pub held_more : (seq : ℕ) (spot : Spot) (ps : List Placed) (ks : List Block) → All (λ k. is_used ps k.file ≡ true) ks → used (with_placed seq spot ps) ks ≡ ks
held_more seq spot ps ks h =
    kept_all (λ (k : Block). is_used (with_placed seq spot ps) k.file) ks (λ k d within. used_more seq spot ps _ (h k d within))

-- ---- rising

abbrev seqs : List Placed → List ℕ
seqs ps = map (λ (p : Placed). p.seq) ps

below_more : (m n : ℕ) (ns : List ℕ) → AllByRecursion (λ k. nat_cmp m k ≡ Less) ns → m < n → AllByRecursion (λ k. nat_cmp m k ≡ Less) (ns ++ n ∷ [])
below_more m n [] h less = (sym (nat_cmp_is m n Less less), tt)
below_more m n (k ∷ ns) h less = (h.0, below_more m n ns h.1 less)

pub rising_more : (seq : ℕ) (spot : Spot) (ps : List Placed) → IsStrictlySortedBy nat_cmp (seqs ps) → is_above seq ps ≡ true → IsStrictlySortedBy nat_cmp (seqs (with_placed seq spot ps))
unfolding IsStrictlySortedBy
rising_more seq spot [] h above = (tt, tt)
rising_more seq spot (p ∷ ps) h above =
    let parts = or_parts (nat_le seq p.seq) (list_any (λ (x : Placed). nat_le seq x.seq) ps) (not-true _ above) in
    let less : p.seq < seq = leb-false seq p.seq parts.0 in (
      subst (λ (ns : List ℕ). AllByRecursion (λ k. nat_cmp p.seq k ≡ Less) ns) (sym (map-append (λ (x : Placed). x.seq) ps (record { seq = seq; spot = spot } ∷ []))) (below_more p.seq seq (seqs ps) h.0 less),
      rising_more seq spot ps h.1 (ap not parts.1),
    )

below_kept : (m : ℕ) (t : Placed → Bool) (ps : List Placed) → AllByRecursion (λ k. nat_cmp m k ≡ Less) (seqs ps) → AllByRecursion (λ k. nat_cmp m k ≡ Less) (seqs (filter t ps))
below_kept m t [] h = tt
below_kept m t (p ∷ ps) h = go (t p) (below_kept m t ps h.1)
  where
    go : (b : Bool) → AllByRecursion (λ k. nat_cmp m k ≡ Less) (seqs (filter t ps)) → AllByRecursion (λ k. nat_cmp m k ≡ Less) (seqs (cond b (p ∷ filter t ps) (filter t ps)))
    go true rest = (h.0, rest)
    go false rest = rest

rising_kept : (t : Placed → Bool) (ps : List Placed) → IsStrictlySortedBy nat_cmp (seqs ps) → IsStrictlySortedBy nat_cmp (seqs (filter t ps))
unfolding IsStrictlySortedBy
rising_kept t [] h = tt
rising_kept t (p ∷ ps) h = go (t p) (rising_kept t ps h.1)
  where
    go : (b : Bool) → IsStrictlySortedBy nat_cmp (seqs (filter t ps)) → IsStrictlySortedBy nat_cmp (seqs (cond b (p ∷ filter t ps) (filter t ps)))
    go true rest = (below_kept p.seq t ps h.0, rest)
    go false rest = rest

-- ---- what is true of a block

abbrev pub InFile : Block → Type 0
InFile k = IsFile k.file

abbrev pub EndsLow : Block → Type 0
EndsLow k = k.end < 2 ^ 32

-- ---- no blocks

pub table_none : IsTable no_blocks
unfolding IsStrictlySortedBy
table_none = record {
  rising = tt;
  blocks_are = record { apart = tt; files = All-nil InFile; ends = All-nil EndsLow };
  inside = All-nil (λ p. lies_in (blocks no_blocks) p.spot ≡ true);
  held = All-nil (λ k. is_used [] k.file ≡ true);
}

-- ---- inside

pub both : {X : Type 0} (P Q R : X → Type 0) (xs : List X) → ((x : X) → P x → Q x → R x) → All P xs → All Q xs → All R xs
both P Q R xs f p q = λ k d within. f (slice_index_or xs k d) (p k d within) (q k d within)

-- what lies in blocks still does once some of the first ones go that do not hold it
lies_part : (t : ℕ → Bool) (spot : Spot) (ks more : List Block) → t spot.file ≡ true → lies_in (ks ++ more) spot ≡ true
    → lies_in (filter (λ k. t k.file) ks ++ more) spot ≡ true
lies_part t spot ks more kept h = go (lies_in ks spot) refl (sym (list_any-append (covers spot) ks more) ∙ h)
  where
    go : (b : Bool) → lies_in ks spot ≡ b → (b || lies_in more spot) ≡ true → lies_in (filter (λ k. t k.file) ks ++ more) spot ≡ true
    go true e l = lies_left spot (filter (λ k. t k.file) ks) more (lies_kept t spot ks kept e)
    go false e l = lies_right spot (filter (λ k. t k.file) ks) more l

-- ---- files, and how far they are written

each_kept : (P : Block → Type 0) (t : Block → Bool) (ks more : List Block) → All P (ks ++ more) → All P (filter t ks ++ more)
each_kept P t [] more h = h
each_kept P t (k ∷ ks) more h = go (t k) (each_kept P t ks more (All-tail P k (ks ++ more) h))
  where
    go : (b : Bool) → All P (filter t ks ++ more) → All P (cond b (k ∷ filter t ks) (filter t ks) ++ more)
    go true rest = All-cons P k (filter t ks ++ more) (All-head P k (ks ++ more) h) rest
    go false rest = rest

blocks_kept : (t : ℕ → Bool) (ks more : List Block) → AreBlocks (ks ++ more) → AreBlocks (filter (λ k. t k.file) ks ++ more)
blocks_kept t ks more h = record { apart = apart_kept (λ k. t k.file) ks more h.apart; files = each_kept InFile (λ k. t k.file) ks more h.files; ends = each_kept EndsLow (λ k. t k.file) ks more h.ends }

pub each_first : (P : Block → Type 0) (ks more : List Block) → All P (ks ++ more) → All P ks
each_first P [] more h = All-nil P
each_first P (k ∷ ks) more h = All-cons P k ks (All-head P k (ks ++ more) h) (each_first P ks more (All-tail P k (ks ++ more) h))

pub files_last : (ks : List Block) (k : Block) → All InFile (ks ++ k ∷ []) → IsFile k.file
files_last [] k h = All-head InFile k [] h
files_last (j ∷ ks) k h = files_last ks k (All-tail InFile j (ks ++ k ∷ []) h)

-- ---- messages go

pub table_removed : (low high : ℕ) (b : Blocks) → IsTable b → IsTable (removed low high b)
table_removed low high b h =
    let left : List Placed = without low high b.placed in
    let within : All (λ p. lies_in (blocks b) p.spot ≡ true) left = All-filter (λ p. not (is_within low high p.seq)) (λ p. lies_in (blocks b) p.spot ≡ true) b.placed h.inside in
    record {
      rising = rising_kept (λ p. not (is_within low high p.seq)) b.placed h.rising;
      blocks_are = blocks_kept (is_used left) b.older (option_to_list b.writing) h.blocks_are;
      inside = both (λ p. is_used left p.spot.file ≡ true) (λ p. lies_in (blocks b) p.spot ≡ true) (λ p. lies_in (blocks (removed low high b)) p.spot ≡ true) left
          (λ p. lies_part (is_used left) p.spot b.older (option_to_list b.writing)) (each_used left) within;
      held = kept_pass (λ k. is_used left k.file) b.older;
    }

pub removed_is : (low high : ℕ) (b : Blocks) (ps : List Placed) (ks : List Block) → ps ≡ without low high b.placed → ks ≡ used ps b.older
    → record { placed = ps; older = ks; writing = b.writing } ≡ removed low high b
removed_is low high b ps ks left kept =
    ap (λ (ks' : List Block). record { placed = ps; older = ks'; writing = b.writing }) kept
    ∙ ap (λ (ps' : List Placed). record { placed = ps'; older = used ps' b.older; writing = b.writing }) left

-- the block being written is in the file of no other
older_other : (ks more : List Block) → AreApart (ks ++ more) → All (λ k. is_among more k.file ≡ false) ks
older_other [] more h = All-nil (λ k. is_among more k.file ≡ false)
older_other (k ∷ ks) more h =
    All-cons (λ x. is_among more x.file ≡ false) k ks
    (or_parts (is_among ks k.file) (is_among more k.file) (sym (list_any-append (λ (y : Block). y.file == k.file) ks more) ∙ h.0)).1
    (older_other ks more h.1)

-- if each other file is used as before, no block goes
pub held_still : (b : Blocks) (left : List Placed) → IsTable b → UsesAsBefore b.placed left b.writing → used left b.older ≡ b.older
held_still b left h same =
    kept_all (λ (k : Block). is_used left k.file) b.older
    (both (λ k. is_used b.placed k.file ≡ true) (λ k. is_among (option_to_list b.writing) k.file ≡ false) (λ k. is_used left k.file ≡ true) b.older
    (λ k held other. same.at k.file other ∙ held) h.held (older_other b.older (option_to_list b.writing) h.blocks_are.apart))

-- ---- a message comes

pub fits_above : (seq : ℕ) (spot : Spot) (b : Blocks) → fits seq spot b ≡ true → is_above seq b.placed ≡ true
fits_above seq spot b f =
    (and_parts (is_above seq b.placed) (nat_le (end_of spot) (2 ^ 32 - 1)) (and_parts (is_above seq b.placed && nat_le (end_of spot) (2 ^ 32 - 1)) (goes_on spot b.writing || begins spot b) f).0).0

pub fits_end : (seq : ℕ) (spot : Spot) (b : Blocks) → fits seq spot b ≡ true → end_of spot < 2 ^ 32
fits_end seq spot b f =
    let most : end_of spot ≤ 2 ^ 32 - 1 =
    leb-true (end_of spot) (2 ^ 32 - 1)
    (and_parts (is_above seq b.placed) (nat_le (end_of spot) (2 ^ 32 - 1)) (and_parts (is_above seq b.placed && nat_le (end_of spot) (2 ^ 32 - 1)) (goes_on spot b.writing || begins spot b) f).0).1 in
    omega (arith, most)

fits_where : (seq : ℕ) (spot : Spot) (b : Blocks) → fits seq spot b ≡ true → (goes_on spot b.writing || begins spot b) ≡ true
fits_where seq spot b f = (and_parts (is_above seq b.placed && nat_le (end_of spot) (2 ^ 32 - 1)) (goes_on spot b.writing || begins spot b) f).1

-- the block that it goes on in
on_file : (spot : Spot) (w : Block) → goes_on spot (Some w) ≡ true → spot.file ≡ w.file
on_file spot w e = eqb-true spot.file w.file (and_parts (spot.file == w.file) (spot.at == w.end) e).0

on_end : (spot : Spot) (w : Block) → goes_on spot (Some w) ≡ true → spot.at ≡ w.end
on_end spot w e = eqb-true spot.at w.end (and_parts (spot.file == w.file) (spot.at == w.end) e).1

abbrev written : Spot → Block
written spot = record { file = spot.file; end = end_of spot }

module _ (seq : ℕ) (spot : Spot) (b : Blocks) (h : IsTable b) (f : fits seq spot b ≡ true) where
  -- no block that is left is in the file of the spot
  left_absent : is_among (left_by spot b) spot.file ≡ false
  left_absent = go (goes_on spot b.writing) refl (fits_where seq spot b f)
    where
      on_absent : (o : Option Block) → goes_on spot o ≡ true → AreApart (b.older ++ option_to_list o) → is_among b.older spot.file ≡ false
      on_absent None e apart = cc
      on_absent (Some w) e apart = ap (is_among b.older) (on_file spot w e) ∙ apart_last b.older w apart

      go : (g : Bool) → goes_on spot b.writing ≡ g → (g || begins spot b) ≡ true → is_among (cond g b.older (blocks b)) spot.file ≡ false
      go true e ok = on_absent b.writing e h.blocks_are.apart
      go false e ok = not-true (has_block b spot.file) (and_parts (spot.at == 0 && nat_le 2 spot.file && nat_le spot.file 65535) (not (has_block b spot.file)) ok).1

  left_apart : AreApart (left_by spot b)
  left_apart = go (goes_on spot b.writing)
    where
      go : (g : Bool) → AreApart (cond g b.older (blocks b))
      go true = apart_first b.older (option_to_list b.writing) h.blocks_are.apart
      go false = h.blocks_are.apart

  -- what lay in a block lies in those that are left, or in the one being written
  still_lies : (s : Spot) → lies_in (blocks b) s ≡ true → lies_in (left_by spot b ++ written spot ∷ []) s ≡ true
  still_lies s l = go (goes_on spot b.writing) refl
    where
      grown : (w : Block) → goes_on spot (Some w) ≡ true → covers s w ≡ true → covers s (written spot) ≡ true
      grown w e l' =
          let parts = and_parts (w.file == s.file) (nat_le (end_of s) w.end) l' in
          and_from (spot.file == s.file) (nat_le (end_of s) (end_of spot)) (ap (λ n. n == s.file) (on_file spot w e) ∙ parts.0)
          (le-leb (end_of s) (end_of spot) (omega (arith, leb-true (end_of s) w.end parts.1, on_end spot w e)))

      on_lies : (o : Option Block) → goes_on spot o ≡ true → lies_in (b.older ++ option_to_list o) s ≡ true → lies_in (b.older ++ written spot ∷ []) s ≡ true
      on_lies None e l' = cc
      on_lies (Some w) e l' = at (lies_in b.older s) refl (sym (list_any-append (covers s) b.older (w ∷ [])) ∙ l')
        where
          at : (c : Bool) → lies_in b.older s ≡ c → (c || (covers s w || false)) ≡ true → lies_in (b.older ++ written spot ∷ []) s ≡ true
          at true e' k = lies_left s b.older (written spot ∷ []) e'
          at false e' k = lies_right s b.older (written spot ∷ []) (or_left (covers s (written spot)) false (grown w e (alone (covers s w) k)))
            where
              alone : (c : Bool) → (c || false) ≡ true → c ≡ true
              alone true q = refl
              alone false q = q

      go : (g : Bool) → goes_on spot b.writing ≡ g → lies_in (cond g b.older (blocks b) ++ written spot ∷ []) s ≡ true
      go true e = on_lies b.writing e l
      go false e = lies_left s (blocks b) (written spot ∷ []) l

  left_each : (P : Block → Type 0) → All P (blocks b) → All P (left_by spot b)
  left_each P each = go (goes_on spot b.writing)
    where
      go : (g : Bool) → All P (cond g b.older (blocks b))
      go true = each_first P b.older (option_to_list b.writing) each
      go false = each

  -- the spot is in the file of a block
  pub put_file : IsFile spot.file
  put_file = go (goes_on spot b.writing) refl (fits_where seq spot b f)
    where
      on_written : (o : Option Block) → goes_on spot o ≡ true → All InFile (b.older ++ option_to_list o) → IsFile spot.file
      on_written None e files = cc
      on_written (Some w) e files = subst IsFile (sym (on_file spot w e)) (files_last b.older w files)

      go : (g : Bool) → goes_on spot b.writing ≡ g → (g || begins spot b) ≡ true → IsFile spot.file
      go true e ok = on_written b.writing e h.blocks_are.files
      go false e ok =
          let free = and_parts (spot.at == 0 && nat_le 2 spot.file && nat_le spot.file 65535) (not (has_block b spot.file)) ok in
          let high = and_parts (spot.at == 0 && nat_le 2 spot.file) (nat_le spot.file 65535) free.0 in
          let low = and_parts (spot.at == 0) (nat_le 2 spot.file) high.0 in
          record { low = leb-true 2 spot.file low.1; high = leb-true spot.file 65535 high.1 }

  pub table_put : IsTable (put_at seq spot b)
  table_put =
      let more : List Placed = with_placed seq spot b.placed in
      let c : Blocks = put_at seq spot b in
      record {
        rising = rising_more seq spot b.placed h.rising (fits_above seq spot b f);
        blocks_are = blocks_kept (is_used more) (left_by spot b) (written spot ∷ []) (record {
          apart = apart_with (left_by spot b) (written spot) left_apart left_absent;
          files = All-push InFile (left_by spot b) (written spot) (left_each InFile h.blocks_are.files) put_file;
          ends = All-push EndsLow (left_by spot b) (written spot) (left_each EndsLow h.blocks_are.ends) (fits_end seq spot b f);
        });
        inside = All-push (λ p. lies_in (blocks c) p.spot ≡ true) b.placed (record { seq = seq; spot = spot })
            (both (λ p. is_used b.placed p.spot.file ≡ true) (λ p. lies_in (blocks b) p.spot ≡ true) (λ p. lies_in (blocks c) p.spot ≡ true) b.placed
            (λ p u l. lies_part (is_used more) p.spot (left_by spot b) (written spot ∷ []) (used_more seq spot b.placed p.spot.file u) (still_lies p.spot l))
            (each_used b.placed) h.inside)
            (lies_right spot (used more (left_by spot b)) (written spot ∷ [])
            (or_left (covers spot (written spot)) false
            (and_from (spot.file == spot.file) (nat_le (end_of spot) (end_of spot)) (eq-eqb spot.file spot.file refl) (le-leb (end_of spot) (end_of spot) (omega arith)))));
        held = kept_pass (λ k. is_used more k.file) (left_by spot b);
      }

  -- what is put at the end of the block being written
  pub went_on : goes_on spot b.writing ≡ true
      → put_at seq spot b ≡ record { placed = with_placed seq spot b.placed; older = b.older; writing = Some (written spot) }
  went_on e =
      ap (λ (ks : List Block). record { placed = with_placed seq spot b.placed; older = ks; writing = Some (written spot) })
      (ap (λ (g : Bool). used (with_placed seq spot b.placed) (cond g b.older (blocks b))) e ∙ held_more seq spot b.placed b.older h.held)

  -- what begins a block
  pub begun : goes_on spot b.writing ≡ false
      → put_at seq spot b
      ≡ record { placed = with_placed seq spot b.placed; older = b.older ++ used (with_placed seq spot b.placed) (option_to_list b.writing); writing = Some (written spot) }
  begun e =
      let more : List Placed = with_placed seq spot b.placed in
      ap (λ (ks : List Block). record { placed = more; older = ks; writing = Some (written spot) })
      (ap (λ (g : Bool). used more (cond g b.older (blocks b))) e
      ∙ kept-append (λ (k : Block). is_used more k.file) b.older (option_to_list b.writing)
      ∙ ap (λ (ks : List Block). ks ++ used more (option_to_list b.writing)) (held_more seq spot b.placed b.older h.held))

-- ---- which files are blocks

same_bools : (x y : Bool) → (x ≡ true → y ≡ true) → (y ≡ true → x ≡ true) → x ≡ y
same_bools true y f g = sym (f refl)
same_bools false true f g = g refl
same_bools false false f g = refl

older_used : (ps : List Placed) (ks : List Block) (file : ℕ) → All (λ k. is_used ps k.file ≡ true) ks → is_among ks file ≡ true → is_used ps file ≡ true
older_used ps [] file h m = cc
older_used ps (k ∷ ks) file h m = go (k.file == file) refl m (older_used ps ks file (All-tail (λ x. is_used ps x.file ≡ true) k ks h))
  where
    go : (c : Bool) → (k.file == file) ≡ c → (c || is_among ks file) ≡ true → (is_among ks file ≡ true → is_used ps file ≡ true) → is_used ps file ≡ true
    go true e m' rest = sym (ap (is_used ps) (eqb-true k.file file e)) ∙ All-head (λ x. is_used ps x.file ≡ true) k ks h
    go false e m' rest = rest m'

used_among : (ks : List Block) (ps : List Placed) (file : ℕ) → All (λ p. lies_in ks p.spot ≡ true) ps → is_used ps file ≡ true → is_among ks file ≡ true
used_among ks [] file h u = cc
used_among ks (p ∷ ps) file h u = go (p.spot.file == file) refl u (used_among ks ps file (All-tail (λ x. lies_in ks x.spot ≡ true) p ps h))
  where
    go : (c : Bool) → (p.spot.file == file) ≡ c → (c || is_used ps file) ≡ true → (is_used ps file ≡ true → is_among ks file ≡ true) → is_among ks file ≡ true
    go true e u' rest = sym (ap (is_among ks) (eqb-true p.spot.file file e)) ∙ lies_among p.spot ks (All-head (λ x. lies_in ks x.spot ≡ true) p ps h)
    go false e u' rest = rest u'

-- a file that is not being written is a block exactly if it is used
pub block_is : (b : Blocks) (file : ℕ) → IsTable b → is_among (option_to_list b.writing) file ≡ false → is_used b.placed file ≡ has_block b file
block_is b file h other =
    same_bools (is_used b.placed file) (has_block b file) (used_among (blocks b) b.placed file h.inside) (λ m. older_used b.placed b.older file h.held (first m))
  where
    either : (x y : Bool) → y ≡ false → (x || y) ≡ true → x ≡ true
    either true y e m = refl
    either false y e m = sym e ∙ m

    first : has_block b file ≡ true → is_among b.older file ≡ true
    first m =
        either (is_among b.older file) (is_among (option_to_list b.writing) file) other
        (sym (list_any-append (λ (k : Block). k.file == file) b.older (option_to_list b.writing)) ∙ m)

-- the file that is being written is one
pub block_written : (b : Blocks) (w : Block) (file : ℕ) → b.writing ≡ Some w → (w.file == file) ≡ true → has_block b file ≡ true
block_written b w file is e =
    list_any-append (λ (k : Block). k.file == file) b.older (option_to_list b.writing)
    ∙ or_right (is_among b.older file) (is_among (option_to_list b.writing) file) (ap (λ o. is_among (option_to_list o) file) is ∙ or_left (w.file == file) false e)

-- ---- the files below which each is a block

-- a message that goes on leaves each block
pub below_on : (free : ℕ) (spot : Spot) (b : Blocks) (placed : List Placed) → goes_on spot b.writing ≡ true → AreBlocksBelow free b
    → AreBlocksBelow free (record { placed = placed; older = b.older; writing = Some (written spot) })
below_on free spot b placed e h = record { low = h.low; taken = λ file least below. go b.writing e file (h.taken file least below) }
  where
    go : (o : Option Block) → goes_on spot o ≡ true → (file : ℕ) → is_among (b.older ++ option_to_list o) file ≡ true → is_among (b.older ++ written spot ∷ []) file ≡ true
    go None on file m = cc
    go (Some w) on file m =
        list_any-append (λ (k : Block). k.file == file) b.older (written spot ∷ [])
        ∙ ap (λ n. is_among b.older file || (n == file || false)) (on_file spot w on)
        ∙ sym (list_any-append (λ (k : Block). k.file == file) b.older (w ∷ []))
        ∙ m

-- one that begins a block leaves each, if the one that was being written holds a message
pub below_begun : (free free' : ℕ) (spot : Spot) (b : Blocks) (placed : List Placed) → 2 ≤ free' → (2 < free' → free' ≡ free)
    → (2 < free' → used placed (option_to_list b.writing) ≡ option_to_list b.writing) → AreBlocksBelow free b
    → AreBlocksBelow free' (record { placed = placed; older = b.older ++ used placed (option_to_list b.writing); writing = Some (written spot) })
below_begun free free' spot b placed low same kept h = record {
  low = low;
  taken = λ file least below.
      let some : 2 < free' = omega (arith, least, below) in
      list_any-append (λ (k : Block). k.file == file) (b.older ++ used placed (option_to_list b.writing)) (written spot ∷ [])
      ∙ or_left (is_among (b.older ++ used placed (option_to_list b.writing)) file) ((spot.file == file) || false)
      (ap (λ (ks : List Block). is_among (b.older ++ ks) file) (kept some) ∙ h.taken file least (omega (arith, below, same some)));
}
