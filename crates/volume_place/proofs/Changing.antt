-- Whether more than the moment changes by an event is told by its records, and by how many ids the window has before and after it.
use Rattle.std.proofs.Common.{◌≡◌, ◌≤◌, ◌<◌, ◌^◌, ℕ, ◌+◌, Bool, true, false, ◌||◌, ◌&&◌, ◌==◌, not, cond, List, [], ◌∷◌, ◌++◌, length, map, max, Some, None, refl, sym, ap, subst, ◌∙◌, arith}
use Rattle.std.specs.Prelude.{Decides, IsTrue, filter, nat_le, nat_lt, ⊤}
use Rattle.std.proofs.lemmas.Bool.{le-ltb, ltb-false, true≢false}
use Rattle.std.proofs.lemmas.List.{append-nil}
use Rattle.std.proofs.lemmas.Option.{none-some}
use Rattle.js_base.specs.Bytes.{Bytes}
use Rattle.js_base.specs.Moments.{plus}
use Rattle.js_model.specs.declared.stream.Id.{Id}
use Rattle.js_model.specs.declared.stream.Stream.{Stream}
use Rattle.js_model.specs.declared.stream.State.{State}
use Rattle.js_model.specs.declared.stream.State.TheVariants.{Vacant, Live}
use Rattle.js_model.specs.declared.event.Event.{Event}
use Rattle.js_model.specs.Advance.{advance, stream_at}
use Rattle.js_base.specs.declared.out.Out.{Out}
use Rattle.js_model.specs.declared.reply.Reply.{Reply}
use Rattle.js_model.specs.Events.{IsEvent, answered, kept_incarnation, settled_state, stream_answer, with_id}
use Rattle.js_model.specs.Runs.{IsStep}
use Rattle.js_model.specs.Firm.{Changes}
use Rattle.js_model.specs.Lasting.{lasting, lasting_consumer}
use Rattle.js_model.specs.Proper.{is_proper}
use Rattle.js_model.specs.StateMoments.{at_moment, moment_of}
use Rattle.js_model.specs.Verdict.{message_of}
use Rattle.js_model.proofs.Parts.{filter_part, part-length}
use Rattle.model_laws.specs.Bounds.{IsBounded}
use Rattle.model_laws.specs.Sound.{IsSound}
use Rattle.model_laws.proofs.Facts.{IfLive, IsChangeFact, change_time}
use Rattle.effects.specs.Durables.{body_of, durable_of, state_of}
use Rattle.effects.specs.Effects.{event_effects, live_effects}
use Rattle.effects.specs.Laws.{Leads}
use Rattle.effects.specs.TimeEffects.{effects_at, has_spent_ids, now_effects, time_effects}
use Rattle.effects.specs.declared.durable.Durable.{Durable}
use Rattle.effects.specs.declared.effect.Effect.{Effect}
use Rattle.effects.specs.declared.effect.Effect.TheVariants as effects
use Rattle.effects.proofs.Leading.{law_events}
use Rattle.effects.proofs.Unwritten.{law_no_records}
use Rattle.restore_laws.proofs.Holding.{opened}
use Rattle.place_engine.specs.Places.{ids_in}
use Rattle.volume_place.specs.Since.{is_moment}
use Rattle.volume_place.proofs.Following.{now_in}
use Rattle.volume_place.proofs.Growing.{many, step_of}

-- ---- states of which the same outlives a crash

moment_lasts : (s : State) → moment_of s ≡ moment_of (lasting s)
moment_lasts (Vacant i) = refl
moment_lasts (Live s) = refl

ids_last : (s : State) → ids_in s ≡ ids_in (lasting s)
ids_last (Vacant i) = refl
ids_last (Live s) = refl

at_own : (s : State) → at_moment s (moment_of s) ≡ s
at_own (Vacant i) = refl
at_own (Live s) = refl

ids_at : (s : State) (moment : ℕ) → ids_in (at_moment (lasting s) moment) ≡ ids_in s
ids_at (Vacant i) moment = refl
ids_at (Live s) moment = refl

-- no more ids than before, and no fewer
even_ids : (old new : State) → at_moment (lasting old) (moment_of new) ≡ lasting new → nat_lt (length (ids_in new)) (length (ids_in old)) ≡ false
even_ids old new same =
    let ids : ids_in new ≡ ids_in old = ids_last new ∙ sym (ap ids_in same) ∙ ids_at old (moment_of new) in
    let count : length (ids_in new) ≡ length (ids_in old) = ap (λ (l : List Id). length l) ids in
    le-ltb (length (ids_in new)) (length (ids_in old)) (omega (arith, count))

-- what is no shorter once it is filtered is as it was
all_pass : {X : Type 0} (t : X → Bool) (xs : List X) → length xs ≤ length (filter t xs) → filter t xs ≡ xs
all_pass t [] le = refl
all_pass {X} t (x ∷ xs) le = go (t x) (all_pass t xs) le
  where
    go : (b : Bool) → (length xs ≤ length (filter t xs) → filter t xs ≡ xs) → length (x ∷ xs) ≤ length (cond b (x ∷ filter t xs) (filter t xs)) → cond b (x ∷ filter t xs) (filter t xs) ≡ x ∷ xs
    go true rest le = ap (λ (ys : List X). x ∷ ys) (rest (omega (arith, le)))
    go false rest le = let few : length (filter t xs) ≤ length xs = part-length (filter_part t xs) in absurd (omega (arith, le, few))

-- ---- an event whose records tell of nothing but a moment, and after which there are no fewer ids

module _ (old new : State) (same_ids : nat_lt (length (ids_in new)) (length (ids_in old)) ≡ false) where
  no_record : lasting old ≡ lasting new → at_moment (lasting old) (moment_of new) ≡ lasting new
  no_record same =
      ap (at_moment (lasting old)) (moment_lasts new ∙ ap moment_of (sym same))
      ∙ at_own (lasting old)
      ∙ same

-- the moment alone
told_moment : (old new : State) (moment : ℕ) → nat_lt (length (ids_in new)) (length (ids_in old)) ≡ false → Leads old (effects.Now moment ∷ []) new
    → at_moment (lasting old) (moment_of new) ≡ lasting new
told_moment (Vacant i) new moment same_ids leads = absurd (none-some (durable_of new) leads)
told_moment (Live s) new moment same_ids leads = go (nat_le s.moment moment) leads
  where
    left : List Id
    left = filter (λ i. nat_lt moment (plus i.at s.config.duplicate_window)) s.ids

    later : Durable
    later = record { incarnation = s.incarnation; body = Some (record (body_of s) { moment = moment; ids = left }) }

    go : (b : Bool) → cond b (Some later) None ≡ Some (durable_of new) → at_moment (lasting (Live s)) (moment_of new) ≡ lasting new
    go false e = absurd (none-some (durable_of new) e)
    go true e =
        let same : later ≡ durable_of new = cc in
        let last : Live (record s { moment = moment; ids = left; consumers = map lasting_consumer s.consumers }) ≡ lasting new = ap state_of same ∙ opened new in
        let at : moment_of new ≡ moment = moment_lasts new ∙ sym (ap moment_of last) in
        let ids : ids_in new ≡ left = ids_last new ∙ sym (ap ids_in last) in
        let some : length s.ids ≤ length (ids_in new) = ltb-false (length (ids_in new)) (length s.ids) same_ids in
        let all : left ≡ s.ids = all_pass (λ i. nat_lt moment (plus i.at s.config.duplicate_window)) s.ids (subst (λ (l : List Id). length s.ids ≤ length l) ids some) in
        ap (at_moment (lasting (Live s))) at
        ∙ ap (λ (l : List Id). Live (record s { moment = moment; ids = l; consumers = map lasting_consumer s.consumers })) (sym all)
        ∙ last

-- ---- the event at the same stream, once its moment has come

at_now : (s : Stream) (now : ℕ) → State
at_now s now = at_moment (Live s) (max s.moment now)

max_again : (a b : ℕ) → max (max a b) b ≡ max a b
max_again a b = omega arith

advance_again : (s : Stream) (now : ℕ) → advance (record s { moment = max s.moment now }) now ≡ advance s now
unfolding advance
advance_again s now = ap (stream_at s) (max_again s.moment now)

answers_again : (s : Stream) (e : Event) (now : ℕ) (room : Bool) → (answered (Live s) e now room).state ≡ (answered (Live (record s { moment = max s.moment now })) e now room).state
unfolding answered
answers_again s e now room = ap (λ (t : Stream). settled_state (stream_answer t e.what room).state) (sym (advance_again s now))

nil_parts : {X : Type 0} (xs ys : List X) → xs ++ ys ≡ [] → (xs ≡ []) × (ys ≡ [])
nil_parts [] ys e = (refl, e)
nil_parts (x ∷ xs) ys e = cc

-- it is the first of them alone if the others are none
alone : {X : Type 0} (first second third : List X) → second ≡ [] → third ≡ [] → (first ++ second) ++ third ≡ first
alone first second third a b = ap (λ l. (first ++ l) ++ third) a ∙ ap (λ l. (first ++ []) ++ l) b ∙ append-nil (first ++ []) ∙ append-nil first

-- if it has no record then, it has no more than the moment before
only_moment : (s : Stream) (e : Event) (now : ℕ) (room : Bool) → event_effects (Live (record s { moment = max s.moment now })) e.what now room ≡ [] → is_moment (event_effects (Live s) e.what now room) ≡ true
only_moment s e now room none = ap is_moment told ∙ go ((s.moment == max s.moment now) && not (has_spent_ids s (max s.moment now)))
  where
    t : Stream
    t = record s { moment = max s.moment now }

    parts : (time_effects t now ≡ []) × (live_effects (advance t now) e.what room ≡ [])
    parts = nil_parts (time_effects t now) (live_effects (advance t now) e.what room) none

    passed : effects_at t (max s.moment now) ≡ []
    passed = ap (effects_at t) (sym (max_again s.moment now)) ∙ parts.0

    told : event_effects (Live s) e.what now room ≡ now_effects s (max s.moment now)
    told = alone (now_effects s (max s.moment now)) _ (live_effects (advance s now) e.what room)
        (nil_parts (now_effects t (max s.moment now)) _ passed).1
        (ap (λ (u : Stream). live_effects u e.what room) (sym (advance_again s now)) ∙ parts.1)

    go : (b : Bool) → is_moment (cond b [] (effects.Now (max s.moment now) ∷ [])) ≡ true
    go true = refl
    go false = refl

-- ---- its moment

with_id_at : (k : ℕ) (s : Stream) (id : Bytes) → s.moment ≡ k → (with_id s id).moment ≡ k
with_id_at k s [] h = h
with_id_at k s (byte ∷ more) h = h

moment_fact : (k : ℕ) → IsChangeFact (λ w. ⊤) ⊤ (λ s. s.moment ≡ k)
moment_fact k = record {
  gone = λ s reply g h. tt;
  only = λ s messages part h. h;
  configured = λ s reply config g h. h;
  stored = λ s p room g e h. with_id_at k (record s { messages = s.messages ++ message_of s p ∷ []; last = s.last + 1 }) p.wants.id h;
  made = λ s reply name config g e r h. h;
  removed = λ s reply name c g e h. h;
  acked = λ s reply ack c g e q h. h;
  pulled = λ s reply name ask c g e h. h;
}

moment_time : (s : Stream) (now : ℕ) → (advance s now).moment ≡ max s.moment now
unfolding advance
moment_time s now = refl

-- it leaves the stream at the moment to which time came
event_moment : (s : Stream) (new : State) (e : Event) (now : ℕ) (reply : Reply) (outs : List Out) → IsEvent (Live s) e now reply outs new → IfLive ⊤ (λ t. t.moment ≡ max s.moment now) new
event_moment s new e now reply outs x = change_time (λ w. ⊤) ⊤ (λ t. t.moment ≡ max s.moment now) (moment_fact (max s.moment now)) s new e now reply outs x tt (moment_time s now)

live_vacant : (s : Stream) (i : ℕ) → Live s ≡ Vacant i → ⊥
live_vacant s i e = cc

same_then : (s : Stream) (new : State) (m : ℕ) → IfLive ⊤ (λ t. t.moment ≡ m) new → at_moment (lasting (Live s)) (moment_of new) ≡ lasting new → lasting (Live (record s { moment = m })) ≡ lasting new
same_then s (Vacant i) m at same = absurd (live_vacant _ i same)
same_then s (Live t) m at same = ap (at_moment (lasting (Live s))) (sym at) ∙ same

-- what holds of a stream holds of it at a later moment
sound_at : (s : Stream) (m : ℕ) → IsSound (Live s) → IsSound (Live (record s { moment = m }))
sound_at s m h = record {
  stored = record { config = h.stored.config; messages = h.stored.messages; consumers = h.stored.consumers; ordered = h.stored.ordered; ids = h.stored.ids };
  matched = h.matched;
}

bounded_at : (s : Stream) (now : ℕ) → now < 2 ^ 62 → IsBounded (Live s) → IsBounded (Live (record s { moment = max s.moment now }))
bounded_at s now moment b = record {
  incarnation = b.incarnation;
  made = b.made;
  last = b.last;
  moment = let own : s.moment < 2 ^ 62 = b.moment in omega (arith, own, moment);
  messages = b.messages;
  each_message = b.each_message;
  ids = b.ids;
  each_id = b.each_id;
  consumers = b.consumers;
  each_consumer = b.each_consumer;
}

-- ---- both ways

-- nothing but the moment changes: there is no other record
rests_only : (old new : State) (e : Event) (now : ℕ) (room : Bool) → e.incarnation ≡ kept_incarnation old → IsTrue (is_proper e) → now < 2 ^ 62 → new ≡ (answered old e now room).state
    → IsSound old → IsBounded old → at_moment (lasting old) (moment_of new) ≡ lasting new → is_moment (event_effects old e.what now room) ≡ true
unfolding step_of
rests_only (Vacant i) new e now room kept proper moment is h b same =
    ap is_moment ((law_no_records many (Vacant i) new e now (answered (Vacant i) e now room).reply (answered (Vacant i) e now room).outs (step_of (Vacant i) new e now room kept proper moment is) h b).1 same)
rests_only (Live s) new e now room kept proper moment is h b same =
    let t = record s { moment = max s.moment now } in
    let first = step_of (Live s) new e now room kept proper moment is in
    let again = step_of (Live t) new e now room kept proper moment (is ∙ answers_again s e now room) in
    let at = event_moment s new e now (answered (Live s) e now room).reply (answered (Live s) e now room).outs first.event in
    only_moment s e now room
    ((law_no_records many (Live t) new e now (answered (Live t) e now room).reply (answered (Live t) e now room).outs again (sound_at s (max s.moment now) h) (bounded_at s now moment b)).1
    (same_then s new (max s.moment now) at same))

-- there is no other record, and there are no fewer ids: nothing but the moment changes
told_only : (old new : State) (l : List Effect) → nat_lt (length (ids_in new)) (length (ids_in old)) ≡ false → Leads old l new → (l ≡ [] → lasting old ≡ lasting new) → is_moment l ≡ true
    → at_moment (lasting old) (moment_of new) ≡ lasting new
told_only old new [] same_ids leads none is = no_record old new same_ids (none refl)
told_only old new (effect ∷ []) same_ids leads none is =
    let now = now_in effect is in
    told_moment old new now.0 same_ids (subst (λ (x : Effect). Leads old (x ∷ []) new) now.1 leads)
told_only old new (effect ∷ next ∷ more) same_ids leads none is = absurd (true≢false (sym is))

-- more than the moment changes just if there is another record, or there are fewer ids
pub changed_by : (old new : State) (e : Event) (now : ℕ) (room : Bool) → e.incarnation ≡ kept_incarnation old → IsTrue (is_proper e) → now < 2 ^ 62 → new ≡ (answered old e now room).state
    → IsSound old → IsBounded old → (more fewer : Bool) → more ≡ not (is_moment (event_effects old e.what now room)) → fewer ≡ nat_lt (length (ids_in new)) (length (ids_in old))
    → Decides (more || fewer) (Changes old new)
unfolding step_of
changed_by old new e now room kept proper moment is h b more fewer more_is fewer_is =
    (λ is same. true≢false (sym is ∙ none_of same), λ changes. go (more || fewer) refl changes)
  where
    Same : Type 0
    Same = at_moment (lasting old) (moment_of new) ≡ lasting new

    none_of : Same → (more || fewer) ≡ false
    none_of same =
        ap (λ (c : Bool). c || fewer) (more_is ∙ ap not (rests_only old new e now room kept proper moment is h b same))
        ∙ fewer_is
        ∙ even_ids old new same

    step : IsStep many old e now (answered old e now room).reply (answered old e now room).outs new
    step = step_of old new e now room kept proper moment is

    same_of : (more ≡ false) × (fewer ≡ false) → Same
    same_of none =
        told_only old new (event_effects old e.what now room) (sym fewer_is ∙ none.1) (law_events many old new e now (answered old e now room).reply (answered old e now room).outs step h b)
        (law_no_records many old new e now (answered old e now room).reply (answered old e now room).outs step h b).0
        (not_not (is_moment (event_effects old e.what now room)) (sym more_is ∙ none.0))
      where
        not_not : (c : Bool) → not c ≡ false → c ≡ true
        not_not true e = refl
        not_not false e = absurd (true≢false e)

    neither : (c d : Bool) → (c || d) ≡ false → (c ≡ false) × (d ≡ false)
    neither true d e = absurd (true≢false e)
    neither false d e = (refl, e)

    go : (c : Bool) → (more || fewer) ≡ c → Changes old new → c ≡ true
    go true e changes = refl
    go false e changes = absurd (changes (same_of (neither more fewer e)))

-- as a place tells it, by the records and the ids that it counts
pub told_changes : (old new : State) (e : Event) (now : ℕ) (room : Bool) → e.incarnation ≡ kept_incarnation old → IsTrue (is_proper e) → now < 2 ^ 62 → new ≡ (answered old e now room).state
    → IsSound old → IsBounded old → (made : List Effect) → made ≡ event_effects old e.what now room → (more changes : Bool) → more ≡ not (is_moment made)
    → changes ≡ (more || nat_lt (length (ids_in new)) (length (ids_in old))) → Decides changes (Changes old new)
told_changes old new e now room kept proper moment is h b made records more changes more_is changes_is =
    subst (λ (c : Bool). Decides c (Changes old new)) (sym changes_is)
    (changed_by old new e now room kept proper moment is h b more (nat_lt (length (ids_in new)) (length (ids_in old))) (more_is ∙ ap (λ (l : List Effect). not (is_moment l)) records) refl)
