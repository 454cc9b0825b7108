-- As long as not all files are in use, one is free.
use Rattle.std.proofs.Common.{◌≡◌, ◌≤◌, ◌<◌, ℕ, suc, ◌+◌, ◌-◌, max, ◌==◌, ◌||◌, Bool, true, false, cond, not, List, [], ◌∷◌, ◌++◌, Option, Some, None, length, refl, sym, ap, subst, ◌∙◌, arith, length-append}
use Rattle.std.specs.Prelude.{All, filter, is_some, option_map, IfSome}
use Rattle.std.specs.List.{range_with_len}
use Rattle.std.specs.Option.{option_to_list}
use Rattle.std.proofs.lemmas.Bool.{true≢false, eqb-true, eq-eqb}
use Rattle.std.proofs.lemmas.List.Elements.{All-head, All-tail, All-nil, All-cons}
use Rattle.std.proofs.lemmas.List.Filters.{length-filter_both}
use Rattle.std.proofs.lemmas.List.FromFn.{length-range_with_len}
use Rattle.block_table.specs.declared.block.Block.{Block}
use Rattle.block_table.specs.declared.placed.Placed.{Placed}
use Rattle.block_table.specs.declared.placing.Placing.{Placing}
use Rattle.block_table.specs.Blocks.{Blocks, blocks, has_block, is_among, is_used}
use Rattle.block_table.specs.Placings.{free_from, stays, place_on, place_at, place, placing}
use Rattle.block_table.specs.Tables.{AreApart, IsTable}
use Rattle.block_table.specs.Rooms.{LawRoom, begun_below, in_use}
use Rattle.block_table.proofs.Apart.{apart_first, apart_kept}
use Rattle.block_table.proofs.Ranges.{none_passing, blocks_in, count_free, free_parts, from_two, begun_at}

-- ---- a free file

free_some : (b : Blocks) (from : ℕ) → length (blocks b) + begun_below b from < 65534 → is_some (free_from from b) ≡ true
free_some b from few = go (free_from from b) refl
  where
    go : (o : Option ℕ) → free_from from b ≡ o → is_some o ≡ true
    go (Some file) e = refl
    go None e =
        let free = λ (file : ℕ). not (has_block b file) in
        let start = from_two from in
        let count : ℕ = (from - 2) + (65536 - max 2 from) in
        let none = none_passing free (range_with_len (max 2 from) (65536 - max 2 from)) e in
        let above : count_free b (2 + (from - 2)) (65536 - max 2 from) ≡ 0 = ap (λ (n : ℕ). count_free b n (65536 - max 2 from)) start ∙ none in
        let parts = free_parts b 2 (from - 2) (65536 - max 2 from) in
        let used = blocks_in (blocks b) 2 count in
        let both = length-filter_both (has_block b) free (λ file. refl) (range_with_len 2 count) in
        let long = length-range_with_len 2 count in
        absurd (omega (arith, few, start, above, parts, used, both, long))

room : (b : Blocks) (p : Placing) (len : ℕ) → in_use b p < 65534 → is_some (place b len p) ≡ true
room b p len few = go (stays len p.writing) refl
  where
    on : (o : Option Block) → stays len o ≡ true → is_some (place_on len p o) ≡ true
    on None is = absurd (true≢false (sym is))
    on (Some w) is = refl

    mapped : (o : Option ℕ) → is_some o ≡ true → is_some (option_map (place_at len) o) ≡ true
    mapped None h = absurd (true≢false (sym h))
    mapped (Some file) h = refl

    go : (g : Bool) → stays len p.writing ≡ g → is_some (cond g (place_on len p p.writing) (option_map (place_at len) (free_from p.from b))) ≡ true
    go true e = on p.writing e
    go false e = mapped (free_from p.from b) (free_some b p.from few)

one : (b : Blocks) (p : Placing) (len : ℕ) → IfSome (place b len p) (λ r. in_use b r.1 ≤ in_use b p + 1)
one b p len = go (stays len p.writing)
  where
    on : (o : Option Block) → IfSome (place_on len p o) (λ r. in_use b r.1 ≤ in_use b p + 1)
    on None = tt
    on (Some w) = omega arith

    new : (o : Option ℕ) → free_from p.from b ≡ o → IfSome (option_map (place_at len) o) (λ r. in_use b r.1 ≤ in_use b p + 1)
    new None e = tt
    new (Some file) e = let more = begun_at b p.from file e in omega (arith, more)

    go : (g : Bool) → IfSome (cond g (place_on len p p.writing) (option_map (place_at len) (free_from p.from b))) (λ r. in_use b r.1 ≤ in_use b p + 1)
    go true = on p.writing
    go false = new (free_from p.from b) refl

-- ---- few blocks

abbrev pub elsewhere : ℕ → Block → Bool
elsewhere file k = not (k.file == file)

-- of blocks that are apart one is in the file at most
all_others : (file : ℕ) (ks : List Block) → is_among ks file ≡ false → length (filter (elsewhere file) ks) ≡ length ks
all_others file [] absent = refl
all_others file (k ∷ ks) absent = go (k.file == file) absent (all_others file ks)
  where
    go : (g : Bool) → (g || is_among ks file) ≡ false → (is_among ks file ≡ false → length (filter (elsewhere file) ks) ≡ length ks)
        → length (cond (not g) (k ∷ filter (elsewhere file) ks) (filter (elsewhere file) ks)) ≡ suc (length ks)
    go true h rest = absurd (true≢false h)
    go false h rest = let r = rest h in omega (arith, r)

pub but_one : (file : ℕ) (ks : List Block) → AreApart ks → length ks ≤ length (filter (elsewhere file) ks) + 1
but_one file [] h = omega arith
but_one file (k ∷ ks) h = go (k.file == file) refl (but_one file ks h.1)
  where
    go : (g : Bool) → (k.file == file) ≡ g → length ks ≤ length (filter (elsewhere file) ks) + 1
        → suc (length ks) ≤ length (cond (not g) (k ∷ filter (elsewhere file) ks) (filter (elsewhere file) ks)) + 1
    go true e rest = let others = all_others file ks (sym (ap (is_among ks) (eqb-true k.file file e)) ∙ h.0) in omega (arith, others)
    go false e rest = omega (arith, rest)

-- those elsewhere are used by the other messages
used_others : (p : Placed) (placed : List Placed) (ks : List Block) → All (λ k. is_used (p ∷ placed) k.file ≡ true) ks
    → All (λ k. is_used placed k.file ≡ true) (filter (elsewhere p.spot.file) ks)
used_others p placed [] h = All-nil (λ (k : Block). is_used placed k.file ≡ true)
used_others p placed (k ∷ ks) h =
    go (k.file == p.spot.file) refl (p.spot.file == k.file) refl (All-head (λ (x : Block). is_used (p ∷ placed) x.file ≡ true) k ks h)
    (used_others p placed ks (All-tail (λ (x : Block). is_used (p ∷ placed) x.file ≡ true) k ks h))
  where
    go : (g : Bool) → (k.file == p.spot.file) ≡ g → (c : Bool) → (p.spot.file == k.file) ≡ c → (c || is_used placed k.file) ≡ true
        → All (λ x. is_used placed x.file ≡ true) (filter (elsewhere p.spot.file) ks)
        → All (λ x. is_used placed x.file ≡ true) (cond (not g) (k ∷ filter (elsewhere p.spot.file) ks) (filter (elsewhere p.spot.file) ks))
    go true e c f is rest = rest
    go false e true f is rest = absurd (true≢false (sym (eq-eqb k.file p.spot.file (sym (eqb-true p.spot.file k.file f))) ∙ e))
    go false e false f is rest = All-cons (λ (x : Block). is_used placed x.file ≡ true) k (filter (elsewhere p.spot.file) ks) is rest

no_more : (placed : List Placed) (ks : List Block) → AreApart ks → All (λ k. is_used placed k.file ≡ true) ks → length ks ≤ length placed
no_more [] [] apart used = omega arith
no_more [] (k ∷ ks) apart used = absurd (true≢false (sym (All-head (λ (x : Block). is_used [] x.file ≡ true) k ks used)))
no_more (p ∷ placed) ks apart used =
    let most = but_one p.spot.file ks apart in
    let rest = no_more placed (filter (elsewhere p.spot.file) ks) (others_apart (elsewhere p.spot.file) ks apart) (used_others p placed ks used) in
    omega (arith, most, rest)
  where
    nothing : (xs : List Block) → xs ++ [] ≡ xs
    nothing [] = refl
    nothing (x ∷ xs) = ap (λ (l : List Block). x ∷ l) (nothing xs)

    others_apart : (t : Block → Bool) (xs : List Block) → AreApart xs → AreApart (filter t xs)
    others_apart t xs h = subst AreApart (nothing (filter t xs)) (apart_kept t xs [] (subst AreApart (sym (nothing xs)) h))

held : (b : Blocks) → IsTable b → length (blocks b) ≤ length b.placed + 1
held b h =
    let older = no_more b.placed b.older (apart_first b.older (option_to_list b.writing) h.blocks_are.apart) h.held in
    let all = length-append b.older (option_to_list b.writing) in
    let most = at_most b.writing in
    omega (arith, older, all, most)
  where
    at_most : (o : Option Block) → length (option_to_list o) ≤ 1
    at_most None = omega arith
    at_most (Some w) = omega arith

first : (b : Blocks) → in_use b (placing b) ≡ length (blocks b)
first b = omega arith

pub law_room : LawRoom
law_room = record { room = room; first = first; one = one; held = held }
