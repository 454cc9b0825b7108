-- What the removals of messages make of what a volume holds.
use Rattle.std.proofs.Common.{◌≡◌, ℕ, ◌+◌, ◌≤◌, ◌<◌, Bool, true, false, ◌&&◌, ◌||◌, not, cond, List, [], ◌∷◌, ◌++◌, map, refl, sym, ap, ◌∙◌, arith}
use Rattle.std.specs.Prelude.{Option, Some, filter, ◌==◌}
use Rattle.std.proofs.lemmas.Bool.{false_from_ne_true, eq-eqb, ne_eqb, or_left, or_right, and_right}
use Rattle.std.proofs.lemmas.List.{map-id}
use Rattle.js_base.specs.Bytes.{has}
use Rattle.js_model.specs.Lists.{Between, IsPart, keep, none, skip}
use Rattle.js_model.specs.declared.stream.Message.{Message}
use Rattle.js_model.specs.declared.stream.Stream.{Stream}
use Rattle.js_model.specs.declared.stream.State.{State}
use Rattle.js_model.specs.declared.stream.State.TheVariants.{Live}
use Rattle.js_model.specs.declared.consumer.Consumer.{Consumer}
use Rattle.js_model.specs.Streams.{only, seqs, confined, pending_seqs}
use Rattle.js_model.specs.Lasting.{lasting_consumer}
use Rattle.js_model.specs.Trim.{trim, trim_subjects, trim_count}
use Rattle.js_model.specs.Retention.{kept}
use Rattle.js_model.specs.Events.{settled}
use Rattle.js_model.proofs.Members.{IsIn, here, there, in_bounds, all_in}
use Rattle.js_model.proofs.Parts.{filter_part, drop_part, newest_at_part, fitting_at_part, part_between, between_map, part_map}
use Rattle.js_model.proofs.Lacking.{has-part}
use Rattle.model_laws.specs.Sound.{IsWellStoredConsumer}
use Rattle.model_laws.proofs.Whole.{IsSoundStream, split}
use Rattle.model_laws.proofs.SoundTime.{has_between}
use Rattle.model_laws.proofs.SoundParts.{sound_only, has-kept}
use Rattle.model_laws.proofs.Lasting.{sound_lasting}
use Rattle.effects.specs.declared.durable.Body.{Body}
use Rattle.effects.specs.declared.durable.Durable.{Durable}
use Rattle.effects.specs.declared.effect.Effect.{Effect}
use Rattle.effects.specs.Durables.{body_of, durable_of}
use Rattle.effects.specs.Ranges.{Range, is_within, is_outside, ranges}
use Rattle.effects.specs.Folding.{live, holding, keeping, removed, fold_all, then_fold}
use Rattle.effects.specs.TimeEffects.{remove_of, removals}
use Rattle.effects.specs.Effects.{settle_effects}
use Rattle.effects.specs.Laws.{Leads}
use Rattle.effects.proofs.Agreeing.{filter_agree, filter_all, filter_twice, map_agree, map_twice, in_mapped}
use Rattle.effects.proofs.Covering.{covers}

-- ---- one record list after another

pub fold_append : (xs ys : List Effect) (d : Option Durable) → fold_all (xs ++ ys) d ≡ fold_all ys (fold_all xs d)
fold_append [] ys d = refl
fold_append (x ∷ xs) ys d = fold_append xs ys (then_fold d x)

-- ---- what stays

holding_all : (t : ℕ → Bool) (c : Consumer) → ((n : ℕ) → t n ≡ true) → holding t c ≡ c
holding_all t c h = rw (filter_all t c.picks (λ n i. h n), filter_all (λ p. t p.seq) c.pending (λ p i. h p.seq), filter_all t c.given_up (λ n i. h n)) refl

pub keeping_all : (t : ℕ → Bool) (b : Body) → ((n : ℕ) → t n ≡ true) → keeping t b ≡ b
keeping_all t b h = rw (filter_all (λ m. t m.seq) b.messages (λ m i. h m.seq), map_agree (holding t) (λ c. c) b.consumers (λ c i. holding_all t c h) ∙ map-id b.consumers) refl

holding_twice : (t u : ℕ → Bool) (c : Consumer) → holding u (holding t c) ≡ holding (λ n. t n && u n) c
holding_twice t u c = rw (filter_twice t u c.picks, filter_twice (λ p. t p.seq) (λ p. u p.seq) c.pending, filter_twice t u c.given_up) refl

pub keeping_twice : (t u : ℕ → Bool) (b : Body) → keeping u (keeping t b) ≡ keeping (λ n. t n && u n) b
keeping_twice t u b =
    rw (filter_twice (λ m. t m.seq) (λ m. u m.seq) b.messages, map_twice (holding t) (holding u) b.consumers ∙ map_agree (λ c. holding u (holding t c)) (holding (λ n. t n && u n)) b.consumers (λ c i. holding_twice t u c)) refl

-- ---- tests that agree on what is stored

abbrev pub AgreeOn : (ℕ → Bool) → (ℕ → Bool) → List ℕ → Type 0
AgreeOn t u ns = (n : ℕ) → has ns n ≡ true → t n ≡ u n

pub in_has : (n : ℕ) (ns : List ℕ) → IsIn n ns → has ns n ≡ true
in_has n [] i = elim i [ ]
in_has n (m ∷ ns) here = or_left (n == n) (has ns n) (eq-eqb n n refl)
in_has n (m ∷ ns) (there i) = or_right (m == n) (has ns n) (in_has n ns i)

holding_agree : (t u : ℕ → Bool) (messages : List Message) (last : ℕ) (c : Consumer) → IsWellStoredConsumer messages last c → AgreeOn t u (seqs messages) → holding t c ≡ holding u c
holding_agree t u messages last c h a =
    rw (
      filter_agree t u c.picks (λ n i. a n (h.picks_stored.stored n (in_has n c.picks i))),
      filter_agree (λ p. t p.seq) (λ p. u p.seq) c.pending (λ p i. a p.seq (h.pending_stored.stored p.seq (in_has p.seq (pending_seqs c) (in_mapped (λ p. p.seq) i)))),
      filter_agree t u c.given_up (λ n i. a n (h.given_up_stored.stored n (in_has n c.given_up i))),
    ) refl

-- what outlives a crash of a sound stream has its entries stored
pub keeping_agree : (t u : ℕ → Bool) (s : Stream) → IsSoundStream s → AgreeOn t u (seqs s.messages) → keeping t (body_of s) ≡ keeping u (body_of s)
keeping_agree t u s h a =
    let k = (sound_lasting (Live s) (split (Live s) h)).stored.consumers in
    rw (
      filter_agree (λ m. t m.seq) (λ m. u m.seq) s.messages (λ m i. a m.seq (in_has m.seq (seqs s.messages) (in_mapped (λ m. m.seq) i))),
      map_agree (holding t) (holding u) (map lasting_consumer s.consumers) (λ c i. holding_agree t u s.messages s.last c (all_in (IsWellStoredConsumer s.messages s.last) (map lasting_consumer s.consumers) k i) a),
    ) refl

-- ---- a part of the messages

-- a part is what its sequences are of an ascending list
pub part_filter : (low high : ℕ) {ys xs : List Message} → IsPart ys xs → Between (λ m. m.seq) low high xs → filter (λ m. has (seqs ys) m.seq) xs ≡ ys
part_filter low high none h = refl
part_filter low high (keep {x = x} {ys = ys} {xs = xs} p) h =
    ap (λ (b : Bool). cond b (x ∷ filter (λ m. has (seqs (x ∷ ys)) m.seq) xs) (filter (λ m. has (seqs (x ∷ ys)) m.seq) xs)) (or_left (x.seq == x.seq) (has (seqs ys) x.seq) (eq-eqb x.seq x.seq refl))
    ∙ ap (λ l. x ∷ l) (filter_agree (λ m. has (seqs (x ∷ ys)) m.seq) (λ m. has (seqs ys) m.seq) xs (λ m i. other m (in_bounds (λ m. m.seq) (x.seq + 1) high m xs h.1 i)) ∙ part_filter (x.seq + 1) high p h.1)
  where
    other : (m : Message) → (x.seq + 1 ≤ m.seq) × (m.seq < high) → has (seqs (x ∷ ys)) m.seq ≡ has (seqs ys) m.seq
    other m b = let l : x.seq + 1 ≤ m.seq = b.0 in ap (λ (b : Bool). b || has (seqs ys) m.seq) (ne_eqb x.seq m.seq (λ q. omega (arith, q)))
part_filter low high (skip {x = x} {ys = ys} {xs = xs} p) h = ap (λ (b : Bool). cond b (x ∷ filter (λ m. has (seqs ys) m.seq) xs) (filter (λ m. has (seqs ys) m.seq) xs)) absent ∙ part_filter (x.seq + 1) high p h.1
  where
    absent : has (seqs ys) x.seq ≡ false
    absent = false_from_ne_true (has (seqs ys) x.seq) (λ e. let l : x.seq + 1 ≤ x.seq = has_between x.seq (x.seq + 1) high (seqs xs) (between_map (λ n. n) (λ m. m.seq) (x.seq + 1) high xs h.1) (has-part x.seq (part_map (λ m. m.seq) p) e) in absurd (omega arith))

pub only_body : (s : Stream) (messages : List Message) → IsSoundStream s → IsPart messages s.messages → body_of (only s messages) ≡ keeping (has (seqs messages)) (body_of s)
only_body s messages h p =
    rw (
      part_filter 1 (s.last + 1) p h.messages,
      map_twice (confined (seqs messages)) lasting_consumer s.consumers,
      map_twice lasting_consumer (holding (has (seqs messages))) s.consumers,
    ) refl

-- ---- removals

pub fold_removes : (i : ℕ) (rs : List Range) (b : Body) → fold_all (map remove_of rs) (Some (live i b)) ≡ Some (live i (keeping (is_outside rs) b))
fold_removes i [] b = ap (λ (b : Body). Some (live i b)) (sym (keeping_all (is_outside []) b (λ n. refl)))
fold_removes i (r ∷ rs) b =
    fold_removes i rs (removed r.low r.high b)
    ∙ ap (λ (b : Body). Some (live i b)) (keeping_twice (λ n. not (is_within r.low r.high n)) (is_outside rs) b)

-- the sequences that a volume was to hold
abbrev pub is_there : List ℕ → ℕ → Bool
is_there missing n = not (has missing n)

pub fold_removals : (missing : List ℕ) (s : Stream) (messages : List Message) → IsSoundStream s → IsPart messages s.messages
    → fold_all (removals missing s.messages messages) (Some (live s.incarnation (keeping (is_there missing) (body_of s)))) ≡ Some (live s.incarnation (keeping (is_there missing) (body_of (only s messages))))
fold_removals missing s messages h p =
    fold_removes s.incarnation rs (keeping (is_there missing) (body_of s))
    ∙ ap (λ (b : Body). Some (live s.incarnation b))
    (keeping_twice (is_there missing) (is_outside rs) (body_of s)
    ∙ keeping_agree (λ n. is_there missing n && is_outside rs n) (λ n. has (seqs messages) n && is_there missing n) s h agree
    ∙ sym (keeping_twice (has (seqs messages)) (is_there missing) (body_of s))
    ∙ ap (keeping (is_there missing)) (sym (only_body s messages h p)))
  where
    leaves : ℕ → Bool
    leaves n = not (has (seqs messages) n)

    there_seqs : List ℕ
    there_seqs = filter (is_there missing) (seqs s.messages)

    rs : List Range
    rs = ranges leaves there_seqs

    not_not : (b : Bool) → not (not b) ≡ b
    not_not true = refl
    not_not false = refl

    outside : (n : ℕ) → has there_seqs n ≡ true → is_outside rs n ≡ has (seqs messages) n
    outside n e =
        (covers leaves 1 (s.last + 1) there_seqs (part_between (λ n. n) 1 (s.last + 1) (filter_part (is_there missing) (seqs s.messages)) (between_map (λ n. n) (λ m. m.seq) 1 (s.last + 1) s.messages h.messages))).agrees n e
        ∙ not_not (has (seqs messages) n)

    agree : AgreeOn (λ n. is_there missing n && is_outside rs n) (λ n. has (seqs messages) n && is_there missing n) (seqs s.messages)
    agree n e = go (is_there missing n) refl
      where
        go : (b : Bool) → is_there missing n ≡ b → (b && is_outside rs n) ≡ (has (seqs messages) n && b)
        go false q = sym (and_right (has (seqs messages) n) false refl)
        go true q = outside n (has-kept (is_there missing) (seqs s.messages) n e q) ∙ same (has (seqs messages) n)
          where
            same : (b : Bool) → b ≡ (b && true)
            same true = refl
            same false = refl

-- ---- what limits and retention drop

pub fold_settled : (missing : List ℕ) (s : Stream) → IsSoundStream s
    → fold_all (settle_effects missing (Live s)) (Some (live s.incarnation (keeping (is_there missing) (body_of s)))) ≡ Some (live s.incarnation (keeping (is_there missing) (body_of (settled s))))
unfolding trim kept
fold_settled missing s h = to_first ∙ to_second ∙ to_third ∙ to_fourth
  where
    first : List Effect
    first = removals missing s.messages (trim_subjects s).messages

    second : List Effect
    second = removals missing (trim_subjects s).messages (trim_count (trim_subjects s)).messages

    third : List Effect
    third = removals missing (trim_count (trim_subjects s)).messages (trim s).messages

    fourth : List Effect
    fourth = removals missing (trim s).messages (kept (trim s)).messages

    held : Stream → Option Durable
    held t = Some (live s.incarnation (keeping (is_there missing) (body_of t)))

    sound_subjects : IsSoundStream (trim_subjects s)
    sound_subjects = sound_only s _ (newest_at_part s.config.max_msgs_per_subject s.messages) h

    sound_count : IsSoundStream (trim_count (trim_subjects s))
    sound_count = sound_only (trim_subjects s) _ (drop_part _ (trim_subjects s).messages) sound_subjects

    sound_trim : IsSoundStream (trim s)
    sound_trim = sound_only (trim_count (trim_subjects s)) _ (fitting_at_part s.config.max_bytes (trim_count (trim_subjects s)).messages) sound_count

    to_first : fold_all (first ++ (second ++ (third ++ fourth))) (held s) ≡ fold_all (second ++ (third ++ fourth)) (held (trim_subjects s))
    to_first = fold_append first (second ++ (third ++ fourth)) (held s) ∙ ap (fold_all (second ++ (third ++ fourth))) (fold_removals missing s (trim_subjects s).messages h (newest_at_part s.config.max_msgs_per_subject s.messages))

    to_second : fold_all (second ++ (third ++ fourth)) (held (trim_subjects s)) ≡ fold_all (third ++ fourth) (held (trim_count (trim_subjects s)))
    to_second =
        fold_append second (third ++ fourth) (held (trim_subjects s))
        ∙ ap (fold_all (third ++ fourth)) (fold_removals missing (trim_subjects s) (trim_count (trim_subjects s)).messages sound_subjects (drop_part _ (trim_subjects s).messages))

    to_third : fold_all (third ++ fourth) (held (trim_count (trim_subjects s))) ≡ fold_all fourth (held (trim s))
    to_third =
        fold_append third fourth (held (trim_count (trim_subjects s)))
        ∙ ap (fold_all fourth) (fold_removals missing (trim_count (trim_subjects s)) (trim s).messages sound_count (fitting_at_part s.config.max_bytes (trim_count (trim_subjects s)).messages))

    to_fourth : fold_all fourth (held (trim s)) ≡ held (settled s)
    to_fourth = fold_removals missing (trim s) (kept (trim s)).messages sound_trim (filter_part _ (trim s).messages)

-- a volume that holds all
pub whole : (b : Body) → keeping (is_there []) b ≡ b
whole b = keeping_all (is_there []) b (λ n. refl)

pub leads_only : (s : Stream) (messages : List Message) → IsSoundStream s → IsPart messages s.messages → Leads (Live s) (removals [] s.messages messages) (Live (only s messages))
leads_only s messages h p =
    ap (λ (b : Body). fold_all (removals [] s.messages messages) (Some (live s.incarnation b))) (sym (whole (body_of s)))
    ∙ fold_removals [] s messages h p
    ∙ ap (λ (b : Body). Some (live s.incarnation b)) (whole (body_of (only s messages)))

pub leads_settled : (s : Stream) → IsSoundStream s → Leads (Live s) (settle_effects [] (Live s)) (Live (settled s))
unfolding trim kept
leads_settled s h =
    ap (λ (b : Body). fold_all (settle_effects [] (Live s)) (Some (live s.incarnation b))) (sym (whole (body_of s)))
    ∙ fold_settled [] s h
    ∙ ap (λ (b : Body). Some (live s.incarnation b)) (whole (body_of (settled s)))

-- one list of records after another
pub leads_both : (old mid new : State) (xs ys : List Effect) → Leads old xs mid → Leads mid ys new → Leads old (xs ++ ys) new
leads_both old mid new xs ys h k = fold_append xs ys (Some (durable_of old)) ∙ ap (fold_all ys) h ∙ k
