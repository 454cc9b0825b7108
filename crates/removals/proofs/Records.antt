-- What was noted of what leaves a stream is what its records name.
use Rattle.std.proofs.Common.{◌≡◌, ℕ, ◌+◌, ◌<◌, ◌≤◌, Bool, true, false, ◌&&◌, ◌||◌, cond, List, [], ◌∷◌, ◌++◌, map, refl, sym, ap, ◌∙◌, arith}
use Rattle.std.specs.Prelude.{◌==◌, not, filter, Option, Some, None}
use Rattle.std.proofs.lemmas.Bool.{true≢false, false_from_ne_true, ltb-true, ltb-false, ne_eqb, eq-eqb, or_left, and_right}
use Rattle.std.proofs.lemmas.List.{map-append}
use Rattle.js_base.specs.Bytes.{has}
use Rattle.js_model.specs.Events.{is_below}
use Rattle.js_model.specs.Lists.{Between, IsPart}
use Rattle.js_model.specs.Retention.{kept}
use Rattle.js_model.specs.Streams.{seqs}
use Rattle.js_model.specs.Trim.{trim, trim_count, trim_subjects}
use Rattle.js_model.specs.declared.stream.Message.{Message}
use Rattle.js_model.specs.declared.stream.Stream.{Stream}
use Rattle.js_model.specs.declared.stream.State.TheVariants.{Live}
use Rattle.js_model.proofs.Lacking.{has-part}
use Rattle.js_model.proofs.Members.{IsIn, here, there, in_bounds, in_filter, in_part}
use Rattle.js_model.proofs.Parts.{all_part, between_map, drop_part, filter_part, fitting_at_part, newest_at_part, part_between, part_map, part_trans}
use Rattle.effects.specs.Effects.{settle_effects}
use Rattle.effects.specs.Ranges.{Range, first_leaves, with_leaving, ranges}
use Rattle.effects.specs.TimeEffects.{remove_of, removals}
use Rattle.effects.specs.declared.effect.Effect.{Effect}
use Rattle.effects.proofs.Agreeing.{append_assoc, filter_agree, filter_twice}
use Rattle.removals.specs.Leaving.{leaving, trim_ranges}
use Rattle.removals.proofs.Placing.{below_less}
use Rattle.removals.proofs.Pushing.{ranges_none}

-- ---- what is not to be noted

above_bound : (below : Option ℕ) (n m : ℕ) → is_below below n ≡ false → n ≤ m → is_below below m ≡ false
above_bound below n m e l = false_from_ne_true (is_below below m) (λ q. absurd (true≢false (sym (below_less below m n q l) ∙ e)))

first_none : (p : ℕ → Bool) (ns : List ℕ) → ((n : ℕ) → IsIn n ns → p n ≡ false) → first_leaves p ns ≡ false
first_none p [] h = refl
first_none p (n ∷ ns) h = h n here

module _ (p : ℕ → Bool) (below : Option ℕ) where
  -- what is not below the bound stays
  abbrev StaysBehind : List ℕ → Type 0
  StaysBehind ns = (n : ℕ) → IsIn n ns → is_below below n ≡ false → p n ≡ false

  all_stay : (low high n : ℕ) (ns : List ℕ) → Between (λ k. k) low high (n ∷ ns) → is_below below n ≡ false → StaysBehind (n ∷ ns) → (m : ℕ) → IsIn m (n ∷ ns) → p m ≡ false
  all_stay low high n ns t e h m i = h m i (above_bound below n m e (in_bounds (λ k. k) n high m (n ∷ ns) (omega arith, t.1) i).0)

  some_stay : (low high n : ℕ) (ns : List ℕ) → Between (λ k. k) low high (n ∷ ns) → is_below below n ≡ false → StaysBehind (n ∷ ns) → (m : ℕ) → IsIn m (filter (is_below below) (n ∷ ns)) → p m ≡ false
  some_stay low high n ns t e h m i = all_stay low high n ns t e h m (in_filter (is_below below) m (n ∷ ns) i).0

  first_below : (low high : ℕ) (ns : List ℕ) → Between (λ k. k) low high ns → StaysBehind ns → first_leaves p ns ≡ first_leaves p (filter (is_below below) ns)
  first_below low high [] t h = refl
  first_below low high (n ∷ ns) t h = go (is_below below n) refl
    where
      go : (b : Bool) → is_below below n ≡ b → p n ≡ first_leaves p (filter (is_below below) (n ∷ ns))
      go true e = sym (ap (λ b. first_leaves p (cond b (n ∷ filter (is_below below) ns) (filter (is_below below) ns))) e)
      go false e = h n here e ∙ sym (first_none p (filter (is_below below) (n ∷ ns)) (some_stay low high n ns t e h))

  -- the ranges are those of what is below the bound
  ranges_below : (low high : ℕ) (ns : List ℕ) → Between (λ k. k) low high ns → StaysBehind ns → ranges p ns ≡ ranges p (filter (is_below below) ns)
  ranges_below low high [] t h = refl
  ranges_below low high (n ∷ ns) t h = go (is_below below n) refl (ranges_below (n + 1) high ns t.1 (λ m i. h m (there i)))
    where
      go : (b : Bool) → is_below below n ≡ b → ranges p ns ≡ ranges p (filter (is_below below) ns) → ranges p (n ∷ ns) ≡ ranges p (filter (is_below below) (n ∷ ns))
      go true e k =
          ap (λ b. cond (p n) (with_leaving n b (ranges p ns)) (ranges p ns)) (first_below (n + 1) high ns t.1 (λ m i. h m (there i)))
          ∙ ap (λ rs. cond (p n) (with_leaving n (first_leaves p (filter (is_below below) ns)) rs) rs) k
          ∙ sym (ap (λ b. ranges p (cond b (n ∷ filter (is_below below) ns) (filter (is_below below) ns))) e)
      go false e k = ranges_none p (n ∷ ns) (all_stay low high n ns t e h) ∙ sym (ranges_none p (filter (is_below below) (n ∷ ns)) (some_stay low high n ns t e h))

-- ---- one filter

-- what a volume never holds is not below the bound, and what is not below it is such, or stays
pub record IsMissed (missing : List ℕ) (below : Option ℕ) (before after : List Message) : Type 0 where
  pub held : (n : ℕ) → IsIn n (seqs before) → is_below below n ≡ true → has missing n ≡ false
  pub stays : (n : ℕ) → IsIn n (seqs before) → is_below below n ≡ false → has missing n ≡ false → has (seqs after) n ≡ true

pub removals_are : (missing : List ℕ) (below : Option ℕ) (low high : ℕ) (before after : List Message) → Between (λ m. m.seq) low high before → IsMissed missing below before after
    → removals missing before after ≡ map remove_of (leaving below before after)
removals_are missing below low high before after t h =
    ap (map remove_of)
    (ranges_below leaves below low high held (part_between (λ n. n) low high (filter_part present (seqs before)) (between_map (λ n. n) (λ m. m.seq) low high before t)) stays
    ∙ ap (ranges leaves)
    (filter_twice present (is_below below) (seqs before)
    ∙ filter_agree (λ n. present n && is_below below n) (is_below below) (seqs before) (λ n i. one n (is_below below n) (h.held n i))))
  where
    leaves : ℕ → Bool
    leaves n = not (has (seqs after) n)

    present : ℕ → Bool
    present n = not (has missing n)

    held : List ℕ
    held = filter present (seqs before)

    absent : (b : Bool) → not b ≡ true → b ≡ false
    absent true e = absurd (true≢false (sym e))
    absent false e = refl

    stays : (n : ℕ) → IsIn n held → is_below below n ≡ false → leaves n ≡ false
    stays n i e = let w = in_filter present n (seqs before) i in ap not (h.stays n w.0 e (absent (has missing n) w.1))

    one : (n : ℕ) (b : Bool) → (b ≡ true → has missing n ≡ false) → (present n && b) ≡ b
    one n true k = ap (λ x. not x && true) (k refl)
    one n false k = and_right (present n) false refl

-- nothing is missed where all is noted
pub all_noted : (before after : List Message) → IsMissed [] None before after
all_noted before after = record { held = λ n i e. refl; stays = λ n i e. absurd (true≢false e) }

-- ---- a new message

-- the sequence of the new message is the greatest: it is missing, or it stays
pub missed_last : (b : Bool) (last : ℕ) (before after : List Message) → Between (λ m. m.seq) 1 (last + 2) before → (b ≡ false → has (seqs after) (last + 1) ≡ true)
    → IsMissed (cond b ((last + 1) ∷ []) []) (Some (last + 1)) before after
missed_last b last before after t h = record {
  held = λ n i e. held n b (ltb-true n (last + 1) e);
  stays = λ n i e k. stays n b (ltb-false n (last + 1) e) (in_bounds (λ n. n) 1 (last + 2) n (seqs before) (between_map (λ n. n) (λ m. m.seq) 1 (last + 2) before t) i).1 k h;
}
  where
    held : (n : ℕ) (b : Bool) → n < last + 1 → has (cond b ((last + 1) ∷ []) []) n ≡ false
    held n true l = ap (λ (x : Bool). x || false) (ne_eqb (last + 1) n (λ q. omega (arith, q)))
    held n false l = refl

    stays : (n : ℕ) (b : Bool) → last + 1 ≤ n → n < last + 2 → has (cond b ((last + 1) ∷ []) []) n ≡ false → (b ≡ false → has (seqs after) (last + 1) ≡ true) → has (seqs after) n ≡ true
    stays n true l g k f = absurd (true≢false (sym (or_left ((last + 1) == n) false (eq-eqb (last + 1) n (omega arith))) ∙ k))
    stays n false l g k f = ap (has (seqs after)) (omega arith) ∙ f refl

-- ---- limits and retention

-- what is missed of all filters is missed of each
missed_part : (missing : List ℕ) (below : Option ℕ) {before mid after end : List Message} → IsPart mid before → IsPart end after → IsMissed missing below before end → IsMissed missing below mid after
missed_part missing below p q h = record {
  held = λ n i. h.held n (in_part (part_map (λ m. m.seq) p) i);
  stays = λ n i e k. has-part n (part_map (λ m. m.seq) q) (h.stays n (in_part (part_map (λ m. m.seq) p) i) e k);
}

-- the records of what the limits and then the retention drop
pub settle_noted : (missing : List ℕ) (below : Option ℕ) (low high : ℕ) (s : Stream) → Between (λ m. m.seq) low high s.messages → IsMissed missing below s.messages (kept (trim s)).messages
    → settle_effects missing (Live s) ≡ map remove_of (trim_ranges below s ++ leaving below (trim s).messages (kept (trim s)).messages)
unfolding trim kept
settle_noted missing below low high s t h = four _ _ _ _ (one all kept_first t) (one first_all kept_second (between first_all)) (one second_all kept_third (between second_all)) (one third_all (all_part _) (between third_all))
  where
    first : List Message
    first = (trim_subjects s).messages

    second : List Message
    second = (trim_count (trim_subjects s)).messages

    third : List Message
    third = (trim s).messages

    end : List Message
    end = (kept (trim s)).messages

    second_of_first : IsPart second first
    second_of_first = drop_part _ first

    third_of_second : IsPart third second
    third_of_second = fitting_at_part s.config.max_bytes second

    kept_third : IsPart end third
    kept_third = filter_part _ third

    kept_second : IsPart end second
    kept_second = part_trans kept_third third_of_second

    kept_first : IsPart end first
    kept_first = part_trans kept_second second_of_first

    all : IsPart s.messages s.messages
    all = all_part s.messages

    first_all : IsPart first s.messages
    first_all = newest_at_part s.config.max_msgs_per_subject s.messages

    second_all : IsPart second s.messages
    second_all = part_trans second_of_first first_all

    third_all : IsPart third s.messages
    third_all = part_trans third_of_second second_all

    between : {ms : List Message} → IsPart ms s.messages → Between (λ m. m.seq) low high ms
    between p = part_between (λ m. m.seq) low high p t

    one : {before after : List Message} → IsPart before s.messages → IsPart end after → Between (λ m. m.seq) low high before → removals missing before after ≡ map remove_of (leaving below before after)
    one {before} {after} p q u = removals_are missing below low high before after u (missed_part missing below p q h)

    four : {es bs cs ds : List Effect} (ws xs ys zs : List Range) → es ≡ map remove_of ws → bs ≡ map remove_of xs → cs ≡ map remove_of ys → ds ≡ map remove_of zs
        → es ++ (bs ++ (cs ++ ds)) ≡ map remove_of ((ws ++ (xs ++ ys)) ++ zs)
    four {es} {bs} {cs} {ds} ws xs ys zs a b c d =
        rw (a, b, c, d) (sym
        (ap (map remove_of) (append_assoc ws (xs ++ ys) zs ∙ ap (λ l. ws ++ l) (append_assoc xs ys zs))
        ∙ map-append remove_of ws (xs ++ (ys ++ zs))
        ∙ ap (λ l. map remove_of ws ++ l) (map-append remove_of xs (ys ++ zs) ∙ ap (λ l. map remove_of xs ++ l) (map-append remove_of ys zs))))
