-- The records of passing time.
use Rattle.std.proofs.Common.{◌≡◌, ◌∙◌, ℕ, suc, ◌≤◌, ◌<◌, Bool, true, false, ◌&&◌, ◌||◌, not, cond, List, [], ◌∷◌, ◌++◌, length, map, max, refl, ap, arith}
use Rattle.std.specs.Prelude.{Option, None, filter, nat_lt, ◌==◌}
use Rattle.std.specs.List.{flat_map, list_any}
use Rattle.std.proofs.lemmas.Bool.{le-ltb, lt-ltb, ltb-false, ltb-true}
use Rattle.js_base.specs.Bytes.{Bytes}
use Rattle.js_base.specs.Moments.{plus}
use Rattle.js_model.specs.declared.consumer.Consumer.{Consumer}
use Rattle.js_model.specs.declared.stream.Stream.{Stream}
use Rattle.js_model.specs.Advance.{advance, aged, is_spent, remembered, young}
use Rattle.js_model.proofs.Parts.{filter_part, part-length}
use Rattle.effects.specs.declared.effect.Effect.{Effect}
use Rattle.effects.specs.declared.effect.Effect.TheVariants.{Now}
use Rattle.effects.specs.Ranges.{Range}
use Rattle.effects.specs.TimeEffects.{given_up_effects, has_spent_ids, now_effects, remove_of, time_effects}
use Rattle.removals.specs.Leaving.{leaving}
use Rattle.removals.specs.Removed.{Notes}
use Rattle.stream_state.specs.GivingUp.{giving_up}
use Rattle.place_records.specs.declared.made.TimeRecords.{TimeRecords}
use Rattle.place_records.specs.Records as records
use Rattle.place_records.specs.Records.{seen_in, time_in, IsFreshTime}

-- some leave exactly if fewer are left
fewer_left : {X : Type 0} (t : X → Bool) (xs : List X) → nat_lt (length (filter t xs)) (length xs) ≡ list_any (λ x. not (t x)) xs
fewer_left t [] = refl
fewer_left {X} t (x ∷ xs) = go (t x) (fewer_left t xs)
  where
    few : length (filter t xs) ≤ length xs
    few = part-length (filter_part t xs)

    one_more : (a b : ℕ) → nat_lt (suc a) (suc b) ≡ nat_lt a b
    one_more a b = go (nat_lt a b) refl
      where
        go : (c : Bool) → nat_lt a b ≡ c → nat_lt (suc a) (suc b) ≡ c
        go true e = let l : a < b = ltb-true a b e in lt-ltb (suc a) (suc b) (omega (arith, l))
        go false e = let l : b ≤ a = ltb-false a b e in le-ltb (suc a) (suc b) (omega (arith, l))

    go : (b : Bool) → nat_lt (length (filter t xs)) (length xs) ≡ list_any (λ y. not (t y)) xs
        → nat_lt (length (cond b (x ∷ filter t xs) (filter t xs))) (suc (length xs)) ≡ (not b || list_any (λ y. not (t y)) xs)
    go true e = one_more (length (filter t xs)) (length xs) ∙ e
    go false e = lt-ltb (length (filter t xs)) (suc (length xs)) (let l : length (filter t xs) ≤ length xs = few in omega (arith, l))

-- the moment is told if it is another one, or if ids left
seen_is : (s : Stream) (moment : ℕ) (same : Bool) → same ≡ (s.moment == moment) → (not same || nat_lt (length (remembered s moment)) (length s.ids)) ≡ not ((s.moment == moment) && not (has_spent_ids s moment))
seen_is s moment same is =
    ap (λ (b : Bool). not same || b) (fewer_left (λ i. nat_lt moment (plus i.at s.config.duplicate_window)) s.ids)
    ∙ ap (λ (b : Bool). not b || has_spent_ids s moment) is
    ∙ go (s.moment == moment) (has_spent_ids s moment)
  where
    go : (a b : Bool) → (not a || b) ≡ not (a && not b)
    go true true = refl
    go true false = refl
    go false b = refl

-- those who give something up
names_are : (moment : ℕ) (cs : List Consumer) → map (records.gives_up moment) (giving_up moment cs) ≡ flat_map (given_up_effects moment) cs
names_are moment [] = refl
names_are moment (c ∷ cs) = go (list_any (is_spent moment c) c.pending) (names_are moment cs)
  where
    go : (b : Bool) → map (records.gives_up moment) (giving_up moment cs) ≡ flat_map (given_up_effects moment) cs
        → map (records.gives_up moment) (map (λ d. d.name) (cond b (c ∷ filter (λ e. list_any (is_spent moment e) e.pending) cs) (filter (λ e. list_any (is_spent moment e) e.pending) cs))) ≡ cond b (records.gives_up moment c.name ∷ []) [] ++ flat_map (given_up_effects moment) cs
    go true e = ap (λ (es : List Effect). records.gives_up moment c.name ∷ es) e
    go false e = e

pub time_told : (s t : Stream) (now : ℕ) (old time : TimeRecords) (before after count left : ℕ) → IsFreshTime old → t ≡ advance s now → Notes old.aged (leaving old.aged.below s.messages t.messages) time.aged
    → time.given_up ≡ giving_up (max s.moment now) (aged s (max s.moment now)).consumers → time.moment ≡ after → time.seen ≡ (not (before == after) || nat_lt left count)
    → before ≡ s.moment → after ≡ t.moment → count ≡ length s.ids → left ≡ length t.ids → time_in time ≡ time_effects s now
unfolding advance
time_told s t now old time before after count left fresh passed notes names moment_is seen before_is after_is count_is left_is =
    ap (λ (ns : List Bytes). seen_in time ++ (map remove_of time.aged.ranges ++ map (records.gives_up time.moment) ns)) names
    ∙ ap (λ (rs : List Range). seen_in time ++ (map remove_of rs ++ map (records.gives_up time.moment) (giving_up moment (aged s moment).consumers))) ranges_are
    ∙ ap (λ (n : ℕ). cond time.seen (Now n ∷ []) [] ++ (map remove_of gone ++ map (records.gives_up n) (giving_up moment (aged s moment).consumers))) (moment_is ∙ at)
    ∙ ap (λ (b : Bool). cond b (Now moment ∷ []) [] ++ (map remove_of gone ++ map (records.gives_up moment) (giving_up moment (aged s moment).consumers))) seen_now
    ∙ ap (λ (es : List Effect). es ++ (map remove_of gone ++ map (records.gives_up moment) (giving_up moment (aged s moment).consumers))) (go ((s.moment == moment) && not (has_spent_ids s moment)))
    ∙ ap (λ (es : List Effect). now_effects s moment ++ (map remove_of gone ++ es)) (names_are moment (aged s moment).consumers)
  where
    moment : ℕ
    moment = max s.moment now

    at : after ≡ moment
    at = after_is ∙ ap (λ (u : Stream). u.moment) passed

    gone : List Range
    gone = leaving None s.messages (young s moment)

    ranges_are : time.aged.ranges ≡ gone
    ranges_are =
        notes.all
        ∙ ap (λ (rs : List Range). rs ++ leaving old.aged.below s.messages t.messages) fresh.none_aged
        ∙ ap (λ (below : Option ℕ). leaving below s.messages t.messages) fresh.noted
        ∙ ap (λ (u : Stream). leaving None s.messages u.messages) passed

    seen_now : time.seen ≡ not ((s.moment == moment) && not (has_spent_ids s moment))
    seen_now =
        seen
        ∙ ap (λ (n : ℕ). not (n == after) || nat_lt left count) before_is
        ∙ ap (λ (n : ℕ). not (s.moment == n) || nat_lt left count) at
        ∙ ap (λ (n : ℕ). not (s.moment == moment) || nat_lt left n) count_is
        ∙ ap (λ (n : ℕ). not (s.moment == moment) || nat_lt n (length s.ids)) (left_is ∙ ap (λ (u : Stream). length u.ids) passed)
        ∙ seen_is s moment (s.moment == moment) refl

    go : (b : Bool) → cond (not b) (Now moment ∷ []) [] ≡ cond b [] (Now moment ∷ [])
    go true = refl
    go false = refl
