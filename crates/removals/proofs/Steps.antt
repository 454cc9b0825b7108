-- A loop that takes messages out one by one, up through a list, has noted the fewest ranges that name them.
use Rattle.std.proofs.Common.{◌≡◌, ℕ, ◌<◌, ◌≤◌, Bool, true, false, cond, List, [], ◌∷◌, ◌++◌, refl, sym, ap, subst, ◌∙◌, arith}
use Rattle.std.specs.Prelude.{◌==◌, ⊤, not, filter, Option, Some, None}
use Rattle.std.proofs.lemmas.Bool.{true≢false, false_from_ne_true, eqb-true, eqb-false}
use Rattle.std.proofs.lemmas.List.{append-nil}
use Rattle.js_base.specs.Bytes.{has, is_empty}
use Rattle.js_model.specs.Events.{is_below}
use Rattle.js_model.specs.Lists.{Between, IsPart}
use Rattle.js_model.specs.Streams.{seqs}
use Rattle.js_model.specs.declared.stream.Message.{Message}
use Rattle.js_model.proofs.Members.{IsIn, here, there, in_filter, in_part, in_push}
use Rattle.js_model.proofs.Parts.{all_part, between_map, filter_part, part_between, part_map, part_trans}
use Rattle.model_laws.proofs.SoundParts.{map-filter}
use Rattle.effects.specs.Ranges.{Range, ranges}
use Rattle.effects.proofs.Agreeing.{in_mapped}
use Rattle.effects.proofs.Removing.{in_has}
use Rattle.removals.specs.Leaving.{follows, is_of, leaving}
use Rattle.removals.specs.Removed.{noted, Notes, NotesOne, Removed}
use Rattle.removals.proofs.Noting.{noted_after}
use Rattle.removals.proofs.Placing.{back_above, below_less, filter_in, first_from, from_seqs, front_below, front_part, has_gone, has_in, has_less, in_back, in_front, last_is, none_last, split_in, First, Split}
use Rattle.removals.proofs.Pushing.{front_some, last_leaves, ranges_agree, ranges_more, ranges_none, some_in}

-- it is above the one that left last
abbrev pub IsAbove : Option ℕ → ℕ → Type 0
IsAbove None n = ⊤
IsAbove (Some last) n = last < n

-- what is above it is still there
abbrev pub StaysAbove : Option ℕ → List Message → List Message → Type 0
StaysAbove last before now = (n : ℕ) → IsIn n (seqs before) → IsAbove last n → has (seqs now) n ≡ true

-- it was there, and is no longer
abbrev pub HasLeft : Option ℕ → List Message → List Message → Type 0
HasLeft None before now = ⊤
HasLeft (Some last) before now = IsIn last (seqs before) × (has (seqs now) last ≡ false)

above_more : (last : Option ℕ) (n m : ℕ) → IsAbove last n → n < m → IsAbove last m
above_more None n m a l = tt
above_more (Some k) n m a l = omega (arith, a)

module _ (low high : ℕ) (below : Option ℕ) (before : List Message) (ascends : Between (λ m. m.seq) low high before) where
  -- the sequences that may be noted
  abbrev counted : List ℕ
  counted = filter (is_below below) (seqs before)

  abbrev leaves : List Message → ℕ → Bool
  leaves now n = not (has (seqs now) n)

  counted_ascend : Between (λ n. n) low high counted
  counted_ascend = part_between (λ n. n) low high (filter_part (is_below below) (seqs before)) (between_map (λ n. n) (λ m. m.seq) low high before ascends)

  module _ (now : List Message) (part : IsPart now before) (last : Option ℕ) (n : ℕ) (there_is : IsIn n (seqs now)) (stays : StaysAbove last before now) (above : IsAbove last n)
      (front back : List ℕ) (whole : counted ≡ front ++ n ∷ back) where
    ascending : Between (λ k. k) low high (front ++ n ∷ back)
    ascending = subst (Between (λ k. k) low high) whole counted_ascend

    of_counted : (m : ℕ) → IsIn m (front ++ n ∷ back) → IsIn m (seqs before) × (is_below below m ≡ true)
    of_counted m i = in_filter (is_below below) m (seqs before) (subst (IsIn m) (sym whole) i)

    noted_too : is_below below n ≡ true
    noted_too = (of_counted n (in_back front (n ∷ back) here)).1

    in_front_of : (m : ℕ) → IsIn m (seqs before) → m < n → IsIn m front
    in_front_of m i l =
        in_front low high n front back ascending m
        (subst (IsIn m) whole (filter_in (is_below below) i (below_less below n m noted_too (omega arith)))) l

    front_ascends : Between (λ k. k) low high front
    front_ascends = part_between (λ k. k) low high (front_part front (n ∷ back)) ascending

    behind_stays : (m : ℕ) → IsIn m back → leaves now m ≡ false
    behind_stays m i =
        ap not (stays m (of_counted m (in_back front (n ∷ back) (there i))).0 (above_more last n m above (back_above low high n front back ascending m i)))

    -- the one before it leaves exactly if no message is left between it and the one that left last
    last_follows : (k : Option ℕ) → last ≡ k → HasLeft k before now → last_leaves (leaves now) front ≡ follows k now n
    last_follows None e h = none_last (leaves now) front (λ m i. ap not (stays m (of_counted m (in_push front (n ∷ back) i)).0 (subst (λ k. IsAbove k m) (sym e) tt)))
    last_follows (Some l) e h = go (first.found.seq == n) refl ∙ sym (ap (is_of n) first.is)
      where
        under : l < n
        under = subst (λ k. IsAbove k n) e above

        own : (m : Message) × IsIn m now × (m.seq ≡ n)
        own = from_seqs n now there_is

        now_ascends : Between (λ m. m.seq) low high now
        now_ascends = part_between (λ m. m.seq) low high part ascends

        first : First l now
        first = first_from low high l now now_ascends own.0 own.1 (let q : own.0.seq ≡ n = own.2 in omega (arith, under))

        at_most : first.found.seq ≤ n
        at_most = let q : own.0.seq ≡ n = own.2 in let r : first.found.seq ≤ own.0.seq = first.least own.0 own.1 (omega (arith, under)) in omega arith

        -- none between
        gone : first.found.seq ≡ n → (m : ℕ) → IsIn m front → l ≤ m → leaves now m ≡ true
        gone q m i g = ap not (false_from_ne_true (has (seqs now) m) (λ b. absurd (no b)))
          where
            no : has (seqs now) m ≡ true → ⊥
            no b =
                let w = from_seqs m now (has_in m (seqs now) b) in
                let r : w.0.seq ≡ m = w.2 in
                let s : first.found.seq ≤ w.0.seq = first.least w.0 w.1 (omega (arith, g)) in
                let t : m < n = front_below low high n front back ascending m i in
                omega (arith, q)

        -- one between
        apart : l ≡ first.found.seq → ⊥
        apart q = true≢false (sym (in_has first.found.seq (seqs now) (in_mapped (λ m. m.seq) first.member)) ∙ ap (has (seqs now)) (sym q) ∙ h.1)

        kept : (m : ℕ) → IsIn m front → first.found.seq ≤ m → leaves now m ≡ false
        kept m i g =
            let f : l ≤ first.found.seq = first.from in
            ap not (stays m (of_counted m (in_push front (n ∷ back) i)).0 (subst (λ k. IsAbove k m) (sym e) (omega (arith, g, apart))))

        go : (b : Bool) → (first.found.seq == n) ≡ b → last_leaves (leaves now) front ≡ (first.found.seq == n)
        go true q = last_is (leaves now) true low high l front front_ascends (in_front_of l h.0 under) (gone (eqb-true first.found.seq n q)) ∙ sym q
        go false q =
            let d : first.found.seq ≡ n → ⊥ = eqb-false first.found.seq n q in
            last_is (leaves now) false low high first.found.seq front front_ascends
            (in_front_of first.found.seq (in_part (part_map (λ m. m.seq) part) (in_mapped (λ m. m.seq) first.member)) (omega (arith, at_most, d))) kept
            ∙ sym q

  -- ---- one leaves

  abbrev left : ℕ → List Message → List Message
  left n now = filter (λ m. not (m.seq == n)) now

  left_seqs : (n : ℕ) (now : List Message) → seqs (left n now) ≡ filter (λ k. not (k == n)) (seqs now)
  left_seqs n now = map-filter (λ m. m.seq) (λ k. not (k == n)) now

  leaves_same : (n m : ℕ) (now : List Message) → (m ≡ n → ⊥) → leaves (left n now) m ≡ leaves now m
  leaves_same n m now apart = ap not (ap (λ ns. has ns m) (left_seqs n now) ∙ has_less n m (seqs now) apart)

  leaves_itself : (n : ℕ) (now : List Message) → leaves (left n now) n ≡ true
  leaves_itself n now = ap not (ap (λ ns. has ns n) (left_seqs n now) ∙ has_gone n (seqs now))

  module _ (now : List Message) (part : IsPart now before) (last : Option ℕ) (n : ℕ) (there_is : IsIn n (seqs now)) (stays : StaysAbove last before now) (above : IsAbove last n) (gone : HasLeft last before now) where
    stays_itself : leaves now n ≡ false
    stays_itself = ap not (in_has n (seqs now) there_is)

    -- it is not noted
    ranges_same : is_below below n ≡ false → leaving below before (left n now) ≡ leaving below before now
    ranges_same e = ranges_agree (leaves (left n now)) (leaves now) counted (λ m i. leaves_same n m now (λ q. true≢false (sym (in_filter (is_below below) m (seqs before) i).1 ∙ ap (is_below below) q ∙ e)))

    -- it is
    noted_split : Split n counted → (leaving below before (left n now) ≡ noted n (follows last now n) (leaving below before now)) × (follows last now n ≡ true → is_empty (leaving below before now) ≡ false)
    noted_split w = (
      ap (ranges (leaves (left n now))) w.whole
          ∙ ranges_more (leaves now) (leaves (left n now)) n w.front w.back
          (λ m i. leaves_same n m now (λ q. let l : m < n = front_below low high n w.front w.back ascend m i in omega (arith, q)))
          (leaves_itself n now) stays_itself
          (λ m i. leaves_same n m now (λ q. let l : n < m = back_above low high n w.front w.back ascend m i in omega (arith, q)) ∙ stays_behind m i)
          stays_behind
          ∙ ap (λ b. noted n b (ranges (leaves now) (w.front ++ n ∷ w.back))) joins
          ∙ ap (λ ns. noted n (follows last now n) (ranges (leaves now) ns)) (sym w.whole),
      λ e. ap (λ ns. is_empty (ranges (leaves now) ns)) w.whole ∙ front_some (leaves now) n w.front w.back stays_itself stays_behind (joins ∙ e),
    )
      where
        ascend : Between (λ k. k) low high (w.front ++ n ∷ w.back)
        ascend = subst (Between (λ k. k) low high) w.whole counted_ascend

        stays_behind : (m : ℕ) → IsIn m w.back → leaves now m ≡ false
        stays_behind = behind_stays now part last n there_is stays above w.front w.back w.whole

        joins : last_leaves (leaves now) w.front ≡ follows last now n
        joins = last_follows now part last n there_is stays above w.front w.back w.whole last refl gone

-- ---- the loop

-- these ranges were noted by now, and this sequence left last
pub record Noting (start : Removed) (last : Option ℕ) (before now : List Message) (gone : Removed) : Type 0 where
  pub all : gone.ranges ≡ start.ranges ++ leaving start.below before now
  pub below_same : gone.below ≡ start.below
  pub part : IsPart now before
  pub stays : StaysAbove last before now
  pub left_last : HasLeft last before now

leaving_none : (below : Option ℕ) (ms : List Message) → leaving below ms ms ≡ []
leaving_none below ms = ranges_none (λ n. not (has (seqs ms) n)) (filter (is_below below) (seqs ms)) (λ n i. ap not (in_has n (seqs ms) (in_filter (is_below below) n (seqs ms) i).0))

pub noting_none : (start : Removed) (ms : List Message) → Noting start None ms ms start
noting_none start ms = record {
  all = sym (ap (λ rs. start.ranges ++ rs) (leaving_none start.below ms) ∙ append-nil start.ranges);
  below_same = refl;
  part = all_part ms;
  stays = λ n i a. in_has n (seqs ms) i;
  left_last = tt;
}

pub noting_more : (low high : ℕ) (start : Removed) (last : Option ℕ) (before now : List Message) (gone new : Removed) (n : ℕ) → Between (λ m. m.seq) low high before → Noting start last before now gone
    → IsIn n (seqs now) → IsAbove last n → NotesOne n (follows last now n) gone new → Noting start (Some n) before (filter (λ m. not (m.seq == n)) now) new
noting_more low high start last before now gone new n ascends h there_is above one = record {
  all = one.ranges_are ∙ ap (λ b. cond (is_below b n) (noted n (follows last now n) gone.ranges) gone.ranges) h.below_same ∙ go (is_below start.below n) refl;
  below_same = one.below_same ∙ h.below_same;
  part = part_trans (filter_part (λ m. not (m.seq == n)) now) h.part;
  stays = λ m i l. ap (λ ns. has ns m) (map-filter (λ m. m.seq) (λ k. not (k == n)) now) ∙ has_less n m (seqs now) (λ q. omega (arith, q, l)) ∙ h.stays m i (above_more last n m above l);
  left_last = (in_part (part_map (λ m. m.seq) h.part) there_is, ap (λ ns. has ns n) (map-filter (λ m. m.seq) (λ k. not (k == n)) now) ∙ has_gone n (seqs now));
}
  where
    old : List Range
    old = leaving start.below before now

    counted_in : is_below start.below n ≡ true → IsIn n (filter (is_below start.below) (seqs before))
    counted_in e = filter_in (is_below start.below) (in_part (part_map (λ m. m.seq) h.part) there_is) e

    go : (b : Bool) → is_below start.below n ≡ b → cond b (noted n (follows last now n) gone.ranges) gone.ranges ≡ start.ranges ++ leaving start.below before (filter (λ m. not (m.seq == n)) now)
    go false e = h.all ∙ ap (λ rs. start.ranges ++ rs) (sym (ranges_same low high start.below before ascends now h.part last n there_is h.stays above h.left_last e))
    go true e =
        let w = noted_split low high start.below before ascends now h.part last n there_is h.stays above h.left_last (split_in n (filter (is_below start.below) (seqs before)) (counted_in e)) in
        ap (noted n (follows last now n)) h.all
        ∙ noted_after n (follows last now n) start.ranges old (λ k. false_from_ne_true (follows last now n) (λ j. absurd (true≢false (sym k ∙ w.1 j))))
        ∙ ap (λ rs. start.ranges ++ rs) (sym w.0)

pub noting_all : (start : Removed) (last : Option ℕ) (before now : List Message) (gone : Removed) → Noting start last before now gone → Notes start (leaving start.below before now) gone
noting_all start last before now gone h = record { all = h.all; below_same = h.below_same }

-- something was noted, unless what left is not to be
pub noting_some : (start : Removed) (last : ℕ) (before now : List Message) (gone : Removed) → Noting start (Some last) before now gone → is_below start.below last ≡ true → is_empty gone.ranges ≡ false
noting_some start last before now gone h e =
    ap is_empty h.all
    ∙ append_some start.ranges (leaving start.below before now)
    (some_in (λ n. not (has (seqs now) n)) last (filter (is_below start.below) (seqs before)) (filter_in (is_below start.below) h.left_last.0 e) (ap not h.left_last.1))
  where
    append_some : (xs ys : List Range) → is_empty ys ≡ false → is_empty (xs ++ ys) ≡ false
    append_some [] ys k = k
    append_some (x ∷ xs) ys k = refl
