-- What the records of passing time make of what a volume holds.
use Rattle.std.proofs.Common.{◌≡◌, ℕ, ◌≤◌, Bool, true, false, ◌&&◌, not, cond, List, [], ◌∷◌, ◌++◌, map, length, max, refl, sym, ap, ◌∙◌, subst, arith, ◌⊎◌, inl, inr}
use Rattle.std.specs.Prelude.{Option, Some, None, filter, ◌==◌, All}
use Rattle.std.specs.List.{list_any, flat_map}
use Rattle.std.specs.declared.cmp.Ordering.{Ordering}
use Rattle.std.specs.declared.cmp.Ordering.TheVariants.{Less, Equal, Greater}
use Rattle.std.specs.Ordering.{is_lt, is_eq, nat_cmp}
use Rattle.std.specs.Cmp.Lexicographic.{slice_cmp}
use Rattle.std.proofs.lemmas.Map.Text.{is_eq-slice_cmp}
use Rattle.std.proofs.lemmas.Bool.{true≢false, eqb-true, le-leb, and_parts, not-true, or_parts, false_from_ne_true}
use Rattle.std.proofs.lemmas.List.{map-id}
use Rattle.js_base.specs.Bytes.{Bytes, same}
use Rattle.js_model.specs.declared.stream.Id.{Id}
use Rattle.js_model.specs.declared.stream.Stream.{Stream}
use Rattle.js_model.specs.declared.stream.State.TheVariants.{Live}
use Rattle.js_model.specs.declared.consumer.Consumer.{Consumer}
use Rattle.js_model.specs.Streams.{only, seqs, confined, by_name, in_place_of}
use Rattle.js_model.specs.Consumers.{is_before}
use Rattle.js_model.specs.Lasting.{lasting_consumer}
use Rattle.js_model.specs.Advance.{advance, stream_at, aged, young, remembered, consumer_at, is_spent}
use Rattle.js_model.proofs.Members.{IsIn, here, there, in_append, all_in}
use Rattle.js_model.proofs.Named.{same_is, same_self, placed_same, placed_other}
use Rattle.js_model.proofs.Parts.{filter_part, young_part, part-length}
use Rattle.model_laws.specs.Sound.{AreOrdered}
use Rattle.model_laws.specs.Bounds.{IsBoundedConsumer}
use Rattle.model_laws.proofs.Whole.{IsSoundStream, all_from_in}
use Rattle.model_laws.proofs.SoundParts.{sound_only}
use Rattle.model_laws.proofs.SoundTime.{different_part}
use Rattle.model_laws.proofs.Taken.{last_of_few}
use Rattle.effects.specs.declared.durable.Body.{Body}
use Rattle.effects.specs.declared.durable.Durable.{Durable}
use Rattle.effects.specs.declared.effect.Effect.{Effect}
use Rattle.effects.specs.declared.effect.Effect.TheVariants.{GivenUp, Now}
use Rattle.effects.specs.Durables.{body_of, durable_of}
use Rattle.effects.specs.Folding.{live, live_if, replaced, given_up_by, at_moment, fold_all}
use Rattle.effects.specs.TimeEffects.{removals, has_spent_ids, now_effects, given_up_effects, effects_at, time_effects}
use Rattle.effects.specs.Laws.{Leads}
use Rattle.effects.proofs.Agreeing.{filter_all, map_agree, map_twice, append_assoc}
use Rattle.effects.proofs.Removing.{leads_only, leads_both}

-- ---- the moment and the ids

pub lacking_in : {X : Type 0} (t : X → Bool) (xs : List X) → list_any t xs ≡ false → (x : X) → IsIn x xs → t x ≡ false
lacking_in t [] h x i = elim i [ ]
lacking_in t (y ∷ ys) h x here = (or_parts _ _ h).0
lacking_in t (y ∷ ys) h x (there i) = lacking_in t ys (or_parts _ _ h).1 x i

not_false : (b : Bool) → not b ≡ false → b ≡ true
not_false true h = refl
not_false false h = absurd (true≢false h)

abbrev pub told : Stream → ℕ → Stream
told s moment = record s { moment = moment; ids = remembered s moment }

leads_now : (s : Stream) (moment : ℕ) → s.moment ≤ moment → Leads (Live s) (now_effects s moment) (Live (told s moment))
leads_now s moment le = go ((s.moment == moment) && not (has_spent_ids s moment)) refl
  where
    with : ℕ → List Id → Option Durable
    with m ids = Some (durable_of (Live (record s { moment = m; ids = ids })))

    same_told : s.moment ≡ moment → remembered s moment ≡ s.ids → with s.moment s.ids ≡ with moment (remembered s moment)
    same_told e f = ap (λ m. with m s.ids) e ∙ ap (with moment) (sym f)

    go : (b : Bool) → ((s.moment == moment) && not (has_spent_ids s moment)) ≡ b → fold_all (cond b [] (Now moment ∷ [])) (Some (durable_of (Live s))) ≡ Some (durable_of (Live (told s moment)))
    go true e =
        let parts = and_parts (s.moment == moment) (not (has_spent_ids s moment)) e in
        let ids : remembered s moment ≡ s.ids = filter_all _ s.ids (λ i k. not_false _ (lacking_in _ s.ids (not-true _ parts.1) i k)) in
        same_told (eqb-true s.moment moment parts.0) ids
    go false e = ap (λ (b : Bool). cond b (Some (live s.incarnation (at_moment moment (body_of s)))) None) (le-leb s.moment moment le)

-- ---- names

differ : (a b : Bytes) → is_before a b ≡ true → same a b ≡ false
differ a b h = go (slice_cmp nat_cmp a b) refl h
  where
    go : (o : Ordering) → slice_cmp nat_cmp a b ≡ o → is_lt o ≡ true → same a b ≡ false
    go Less e w = sym (is_eq-slice_cmp a b) ∙ ap is_eq e
    go Equal e w = absurd (true≢false (sym w))
    go Greater e w = absurd (true≢false (sym w))

pub differ_back : (a b : Bytes) → is_before a b ≡ true → same b a ≡ false
differ_back a b h = false_from_ne_true (same b a) (λ e. true≢false (sym (rw (same_is b a e) (same_self a)) ∙ differ a b h))

found_after : (done : List Consumer) (c : Consumer) (rest : List Consumer) → ((d : Consumer) → IsIn d done → same d.name c.name ≡ false) → by_name (done ++ c ∷ rest) c.name ≡ Some c
found_after [] c rest h = ap (λ (b : Bool). cond b (Some c) (by_name rest c.name)) (same_self c.name)
found_after (d ∷ done) c rest h = ap (λ (b : Bool). cond b (Some d) (by_name (done ++ c ∷ rest) c.name)) (h d here) ∙ found_after done c rest (λ e i. h e (there i))

others_stay : (new : Consumer) (cs : List Consumer) → ((d : Consumer) → IsIn d cs → same d.name new.name ≡ false) → map (in_place_of new) cs ≡ cs
others_stay new cs h = map_agree (in_place_of new) (λ c. c) cs (λ c i. placed_other new c (h c i)) ∙ map-id cs

placed_after : (done : List Consumer) (c new : Consumer) (rest : List Consumer) → c.name ≡ new.name → ((d : Consumer) → IsIn d done → same d.name new.name ≡ false) → ((d : Consumer) → IsIn d rest → same d.name new.name ≡ false)
    → map (in_place_of new) (done ++ c ∷ rest) ≡ done ++ new ∷ rest
placed_after [] c new rest e h k = ap (λ x. x ∷ map (in_place_of new) rest) (placed_same new c e) ∙ ap (λ l. new ∷ l) (others_stay new rest k)
placed_after (d ∷ done) c new rest e h k = ap (λ x. x ∷ map (in_place_of new) (done ++ c ∷ rest)) (placed_other new d (h d here)) ∙ ap (λ l. d ∷ l) (placed_after done c new rest e (λ x i. h x (there i)) k)

-- ---- what is given up

abbrev IsFew : Consumer → Type 0
IsFew c = length c.given_up ≤ 65536

filter_none : {X : Type 0} (t : X → Bool) (xs : List X) → list_any t xs ≡ false → filter t xs ≡ []
filter_none t [] h = refl
filter_none t (x ∷ xs) h = ap (λ (b : Bool). cond b (x ∷ filter t xs) (filter t xs)) (or_parts _ _ h).0 ∙ filter_none t xs (or_parts _ _ h).1

-- where nothing is spent, nothing changes
unspent : (moment : ℕ) (c : Consumer) → list_any (is_spent moment c) c.pending ≡ false → IsFew c → lasting_consumer (consumer_at moment c) ≡ lasting_consumer c
unspent moment c e few =
    rw (
      filter_none (is_spent moment c) c.pending e,
      filter_all (λ p. not (is_spent moment c p)) c.pending (λ p i. ap not (lacking_in (is_spent moment c) c.pending e p i)),
      last_of_few 65536 c.given_up few,
    ) refl

abbrev after : ℕ → Consumer → Consumer
after moment c = lasting_consumer (consumer_at moment c)

-- each of the first names comes before each of the others
abbrev AreBefore : List Consumer → List Consumer → Type 0
AreBefore done rest = (d e : Consumer) → IsIn d done → IsIn e rest → is_before d.name e.name ≡ true

before_more : (done : List Consumer) (x c : Consumer) (rest : List Consumer) → x.name ≡ c.name → AreBefore done (c ∷ rest) → All (λ d. is_before c.name d.name ≡ true) rest → AreBefore (done ++ x ∷ []) rest
before_more done x c rest n h k d e i j = go (in_append done (x ∷ []) i)
  where
    last : {y z : Consumer} {ys : List Consumer} → IsIn y (z ∷ ys) → ys ≡ [] → z ≡ y
    last here q = refl
    last (there i) q = absurd (none i q)
      where
        none : {y : Consumer} {ys : List Consumer} → IsIn y ys → ys ≡ [] → ⊥
        none here q = cc
        none (there i) q = cc

    go : IsIn d done ⊎ IsIn d (x ∷ []) → is_before d.name e.name ≡ true
    go (inl i) = h d e i (there j)
    go (inr i) = subst (λ (y : Consumer). is_before y.name e.name ≡ true) (last i refl) (subst (λ (n : Bytes). is_before n e.name ≡ true) (sym n) (all_in (λ d. is_before c.name d.name ≡ true) rest k j))

fold_given_up : (moment i : ℕ) (b : Body) (done rest : List Consumer) → AreBefore done rest → AreOrdered rest → All IsFew rest
    → fold_all (flat_map (given_up_effects moment) rest) (Some (live i (record b { consumers = done ++ map lasting_consumer rest }))) ≡ Some (live i (record b { consumers = done ++ map (after moment) rest }))
fold_given_up moment i b done [] h o f = refl
fold_given_up moment i b done (c ∷ rest) h o f = go (list_any (is_spent moment c) c.pending) refl (λ past k. fold_given_up moment i b past rest k o.1 (few_rest rest f))
  where
    few_rest : (rest : List Consumer) → All IsFew (c ∷ rest) → All IsFew rest
    few_rest rest f = all_from_in IsFew rest (λ d i. all_in IsFew (c ∷ rest) f (there i))

    more : List Effect
    more = flat_map (given_up_effects moment) rest

    with : List Consumer → Option Durable
    with cs = Some (live i (record b { consumers = cs }))

    -- what holds of the others, after any that came before
    Rest : Type 0
    Rest = (past : List Consumer) → AreBefore past rest → fold_all more (with (past ++ map lasting_consumer rest)) ≡ with (past ++ map (after moment) rest)

    -- from c's place on
    next : Rest → (x : Consumer) → x.name ≡ c.name → fold_all more (with (done ++ x ∷ map lasting_consumer rest)) ≡ with (done ++ x ∷ map (after moment) rest)
    next others x n =
        let lead : fold_all more (with (done ++ x ∷ map lasting_consumer rest)) ≡ fold_all more (with ((done ++ x ∷ []) ++ map lasting_consumer rest)) = ap (λ cs. fold_all more (with cs)) (sym (append_assoc done (x ∷ []) (map lasting_consumer rest))) in
        let through : fold_all more (with ((done ++ x ∷ []) ++ map lasting_consumer rest)) ≡ with ((done ++ x ∷ []) ++ map (after moment) rest) = others (done ++ x ∷ []) (before_more done x c rest n h o.0) in
        let back : with ((done ++ x ∷ []) ++ map (after moment) rest) ≡ with (done ++ x ∷ map (after moment) rest) = ap with (append_assoc done (x ∷ []) (map (after moment) rest)) in
        lead ∙ through ∙ back

    apart_done : (d : Consumer) → IsIn d done → same d.name c.name ≡ false
    apart_done d i = differ d.name c.name (h d c i here)

    apart_rest : (d : Consumer) → IsIn d (map lasting_consumer rest) → same d.name c.name ≡ false
    apart_rest d i = mapped rest o.0 d i
      where
        mapped : (cs : List Consumer) → All (λ d. is_before c.name d.name ≡ true) cs → (d : Consumer) → IsIn d (map lasting_consumer cs) → same d.name c.name ≡ false
        mapped [] a d i = elim i [ ]
        mapped (e ∷ es) a d here = differ_back c.name e.name (all_in (λ d. is_before c.name d.name ≡ true) (e ∷ es) a here)
        mapped (e ∷ es) a d (there i) = mapped es (all_from_in (λ d. is_before c.name d.name ≡ true) es (λ x j. all_in (λ d. is_before c.name d.name ≡ true) (e ∷ es) a (there j))) d i

    whole : Body
    whole = record b { consumers = done ++ lasting_consumer c ∷ map lasting_consumer rest }

    given : live_if i (replaced whole (given_up_by moment (by_name whole.consumers c.name))) ≡ with (done ++ after moment c ∷ map lasting_consumer rest)
    given =
        ap (λ (o : Option Consumer). live_if i (replaced whole (given_up_by moment o))) (found_after done (lasting_consumer c) (map lasting_consumer rest) apart_done)
        ∙ ap with (placed_after done (lasting_consumer c) (after moment c) (map lasting_consumer rest) refl apart_done apart_rest)

    go : (spent : Bool) → list_any (is_spent moment c) c.pending ≡ spent → Rest
        → fold_all (cond spent (GivenUp c.name moment ∷ []) [] ++ more) (with (done ++ lasting_consumer c ∷ map lasting_consumer rest)) ≡ with (done ++ after moment c ∷ map (after moment) rest)
    go true e others = ap (fold_all more) given ∙ next others (after moment c) refl
    go false e others = next others (lasting_consumer c) refl ∙ ap (λ x. with (done ++ x ∷ map (after moment) rest)) (sym (unspent moment c e (all_in IsFew (c ∷ rest) f here)))

leads_given_up : (s : Stream) (moment : ℕ) → AreOrdered s.consumers → All IsFew s.consumers → Leads (Live s) (flat_map (given_up_effects moment) s.consumers) (Live (record s { consumers = map (consumer_at moment) s.consumers }))
leads_given_up s moment o f =
    fold_given_up moment s.incarnation (body_of s) [] s.consumers (λ d e i j. elim i [ ]) o f
    ∙ ap (λ (cs : List Consumer). Some (live s.incarnation (record (body_of s) { consumers = cs }))) (sym (map_twice (consumer_at moment) lasting_consumer s.consumers))

-- ---- all of it

few_confined : (ns : List ℕ) (cs : List Consumer) → ((c : Consumer) → IsIn c cs → IsBoundedConsumer c) → (d : Consumer) → IsIn d (map (confined ns) cs) → IsFew d
few_confined ns [] h d i = elim i [ ]
few_confined ns (c ∷ cs) h d here = let a : length c.given_up ≤ 65536 = (h c here).given_up in let b : length (confined ns c).given_up ≤ length c.given_up = part-length (filter_part _ c.given_up) in omega arith
few_confined ns (c ∷ cs) h d (there i) = few_confined ns cs (λ e j. h e (there j)) d i

leads_at : (s : Stream) (moment : ℕ) → s.moment ≤ moment → IsSoundStream s → All IsBoundedConsumer s.consumers → Leads (Live s) (effects_at s moment) (Live (stream_at s moment))
leads_at s moment le h b =
    leads_both (Live s) (Live (told s moment)) (Live (stream_at s moment)) (now_effects s moment) (removals [] s.messages (young s moment) ++ flat_map (given_up_effects moment) (aged s moment).consumers)
    (leads_now s moment le)
    (leads_both (Live (told s moment)) (Live (aged s moment)) (Live (stream_at s moment)) (removals [] s.messages (young s moment)) (flat_map (given_up_effects moment) (aged s moment).consumers)
    (leads_only (told s moment) (young s moment) sound_told (young_part s moment))
    (leads_given_up (aged s moment) moment sound_aged.ordered (all_from_in IsFew (aged s moment).consumers (few_confined (seqs (young s moment)) s.consumers (λ c i. all_in IsBoundedConsumer s.consumers b i)))))
  where
    sound_told : IsSoundStream (told s moment)
    sound_told = record { config = h.config; messages = h.messages; consumers = h.consumers; ordered = h.ordered; ids = different_part (filter_part _ s.ids) h.ids }

    sound_aged : IsSoundStream (only (told s moment) (young s moment))
    sound_aged = sound_only (told s moment) (young s moment) (young_part s moment) sound_told

pub leads_time : (s : Stream) (now : ℕ) → IsSoundStream s → All IsBoundedConsumer s.consumers → Leads (Live s) (time_effects s now) (Live (advance s now))
unfolding advance
leads_time s now h b = leads_at s (max s.moment now) (omega arith) h b
