-- What a tick leaves is at rest: all that was due by its moment has been done.
use Rattle.std.proofs.Common.{◌≡◌, ℕ, ◌-◌, ◌^◌, ◌<◌, ◌≤◌, Bool, true, false, ◌&&◌, ◌||◌, not, cond, List, [], ◌∷◌, ◌++◌, map, length, max, refl, sym, ap, ◌∙◌, subst, arith}
use Rattle.std.specs.Prelude.{filter, nat_lt, nat_le, ◌==◌, All, fold}
use Rattle.std.specs.List.{flat_map}
use Rattle.std.proofs.lemmas.Bool.{true≢false, ltb-true, lt-leb}
use Rattle.std.proofs.lemmas.List.Elements.{All-map, All-filter, All-weaker}
use Rattle.js_base.specs.Bytes.{has, last_of}
use Rattle.js_base.specs.Moments.{plus}
use Rattle.js_base.specs.declared.out.Out.{Out}
use Rattle.js_model.specs.declared.stream.Message.{Message}
use Rattle.js_model.specs.declared.stream.Id.{Id}
use Rattle.js_model.specs.declared.stream.Stream.{Stream}
use Rattle.js_model.specs.declared.stream.State.TheVariants.{Vacant, Live}
use Rattle.js_model.specs.declared.consumer.Pending.{Pending}
use Rattle.js_model.specs.declared.consumer.Pull.{Pull}
use Rattle.js_model.specs.declared.consumer.Consumer.{Consumer}
use Rattle.js_model.specs.declared.event.What.{What}
use Rattle.js_model.specs.Lists.{IsPart}
use Rattle.js_model.specs.Streams.{only, seqs, confined, is_push}
use Rattle.js_model.specs.Advance.{advance, advance_outs, stream_at, aged, young, remembered, consumer_at, consumer_outs, timeout, pull_beat, push_beat, is_spent, is_over, running, beaten, has_come, pull_comes, push_comes, placed}
use Rattle.js_model.specs.Deliver.{is_due}
use Rattle.js_model.specs.Retention.{kept}
use Rattle.js_model.specs.Trim.{trim, trim_count, trim_subjects}
use Rattle.js_model.specs.Events.{answered, completed, stream_answer, vacant_answer, settled}
use Rattle.js_model.proofs.Parts.{filter_part, drop_part, newest_at_part, fitting_at_part, part-length}
use Rattle.model_laws.proofs.Taken.{filter_again, only_again, last_of_few}
use Rattle.model_laws.proofs.Within.{last_of_length}
use Rattle.timer_laws.specs.Quiet.{NoneFallsDue, IsQuietStream, IsAtRest}
use Rattle.timer_laws.specs.Laws.{LawRest}
use Rattle.timer_laws.proofs.Lists.{all_members, all_part, all_filtered, filtered_out, unfiltered, map_fixed, all_silent}
use Rattle.timer_laws.proofs.Passing.{IsUntold, untold_at, not_over, same_max}

-- ---- a consumer for which all is done

pub record IsDoneConsumer (now : ℕ) (c : Consumer) : Type 0 where
  pub untold : IsUntold now c
  pub unspent : All (λ p. is_spent now c p ≡ false) c.pending
  pub few : length c.given_up ≤ 65536

done_stays : (now : ℕ) (c : Consumer) → IsDoneConsumer now c → consumer_at now c ≡ c
done_stays now c h =
    untold_at now c h.untold
    ∙ ap (λ (ps : List Pending). record c { pending = filter (λ p. not (is_spent now c p)) c.pending; given_up = last_of 65536 (fold placed c.given_up (map (λ p. p.seq) ps)) }) (filtered_out (is_spent now c) c.pending h.unspent)
    ∙ ap (λ (ps : List Pending). record c { pending = ps; given_up = last_of 65536 c.given_up })
    (unfiltered (λ p. not (is_spent now c p)) c.pending (All-weaker (λ p. is_spent now c p ≡ false) (λ p. not (is_spent now c p) ≡ true) (λ p e. ap not e) c.pending h.unspent))
    ∙ ap (λ (ns : List ℕ). record c { given_up = ns }) (last_of_few 65536 c.given_up h.few)

done_silent : (now : ℕ) (c : Consumer) → IsDoneConsumer now c → consumer_outs now c ≡ []
done_silent now c h =
    ap (λ (ps : List Pull). map timeout ps ++ map pull_beat (filter (pull_comes now) (running now c)) ++ last (push_comes now c)) (filtered_out (is_over now) c.waiting h.untold.over)
    ∙ ap (λ (ps : List Pull). map pull_beat (filter (pull_comes now) ps) ++ last (push_comes now c)) (not_over now c.waiting h.untold.over)
    ∙ ap (λ (ps : List Pull). map pull_beat ps ++ last (push_comes now c)) (filtered_out (pull_comes now) c.waiting h.untold.beats)
    ∙ ap last h.untold.own
  where
    last : Bool → List Out
    last b = cond b (push_beat c ∷ []) []

done_confined : (now : ℕ) (ns : List ℕ) (c : Consumer) → IsDoneConsumer now c → IsDoneConsumer now (confined ns c)
done_confined now ns c h = record {
  untold = record { over = h.untold.over; beats = h.untold.beats; own = h.untold.own };
  unspent = All-filter (λ p. has ns p.seq) (λ p. is_spent now c p ≡ false) c.pending h.unspent;
  few = let a : length c.given_up ≤ 65536 = h.few in let b : length (filter (has ns) c.given_up) ≤ length c.given_up = part-length (filter_part (has ns) c.given_up) in omega arith;
}

-- after a heartbeat now the next one is still to come
pub beat_ahead : (now heartbeat : ℕ) → now < 2 ^ 62 - 1 → has_come now now heartbeat ≡ false
beat_ahead now heartbeat l = go (nat_lt 0 heartbeat) refl
  where
    go : (b : Bool) → nat_lt 0 heartbeat ≡ b → (b && nat_le (plus now heartbeat) now) ≡ false
    go true e = lt-leb (plus now heartbeat) now (let k : 0 < heartbeat = ltb-true 0 heartbeat e in omega arith)
    go false e = refl

marked : (now mark heartbeat : ℕ) (b : Bool) → now < 2 ^ 62 - 1 → has_come now mark heartbeat ≡ b → has_come now (cond b now mark) heartbeat ≡ false
marked now mark heartbeat true l e = beat_ahead now heartbeat l
marked now mark heartbeat false l e = e

module _ (now : ℕ) (l : now < 2 ^ 62 - 1) where
  beaten_over : (p : Pull) → is_over now (beaten now p) ≡ is_over now p
  beaten_over p = go (pull_comes now p)
    where
      go : (b : Bool) → is_over now (cond b (record p { mark = now }) p) ≡ is_over now p
      go true = refl
      go false = refl

  beaten_comes : (p : Pull) → pull_comes now (beaten now p) ≡ false
  beaten_comes p = go (pull_comes now p) refl
    where
      go : (b : Bool) → pull_comes now p ≡ b → pull_comes now (cond b (record p { mark = now }) p) ≡ false
      go true e = beat_ahead now p.heartbeat l
      go false e = e

  own_marked : (c : Consumer) → push_comes now (record c { mark = cond (push_comes now c) now c.mark }) ≡ false
  own_marked c = go (is_push c) refl
    where
      go : (push : Bool) → is_push c ≡ push → (push && has_come now (cond (push && has_come now c.mark c.config.idle_heartbeat) now c.mark) c.config.idle_heartbeat) ≡ false
      go true e = marked now c.mark c.config.idle_heartbeat (has_come now c.mark c.config.idle_heartbeat) l refl
      go false e = refl

  not_true : (b : Bool) → not b ≡ true → b ≡ false
  not_true true q = absurd (true≢false (sym q))
  not_true false q = refl

  done_at : (c : Consumer) → IsDoneConsumer now (consumer_at now c)
  done_at c = record {
    untold = record {
      over =
          All-map (λ p. is_over now p ≡ false) (beaten now) (running now c)
          (All-weaker (λ p. not (is_over now p) ≡ true) (λ p. is_over now (beaten now p) ≡ false) (λ p e. beaten_over p ∙ not_true (is_over now p) e) (running now c) (all_filtered (λ p. not (is_over now p)) c.waiting));
      beats = All-map (λ p. pull_comes now p ≡ false) (beaten now) (running now c) (all_members (λ p. pull_comes now (beaten now p) ≡ false) (running now c) (λ p i. beaten_comes p));
      own = own_marked c;
    };
    unspent =
        All-weaker (λ p. not (is_spent now c p) ≡ true) (λ p. is_spent now c p ≡ false) (λ p e. not_true (is_spent now c p) e) (filter (λ p. not (is_spent now c p)) c.pending)
        (all_filtered (λ p. not (is_spent now c p)) c.pending);
    few = last_of_length 65536 (fold placed c.given_up (map (λ p. p.seq) (filter (is_spent now c) c.pending)));
  }

-- ---- a stream for which all is done

-- a message that is not too old
abbrev pub is_young : ℕ → ℕ → Message → Bool
is_young age now m = (age == 0) || nat_lt now (plus m.at age)

pub record IsDone (now : ℕ) (s : Stream) : Type 0 where
  pub moment : s.moment ≡ now
  pub messages : All (λ m. is_young s.config.max_age now m ≡ true) s.messages
  pub ids : remembered s now ≡ s.ids
  pub consumers : All (IsDoneConsumer now) s.consumers

pub done_only : (now : ℕ) (s : Stream) (messages : List Message) → IsPart messages s.messages → IsDone now s → IsDone now (only s messages)
done_only now s messages p h = record {
  moment = h.moment;
  messages = all_part (λ m. is_young s.config.max_age now m ≡ true) p h.messages;
  ids = h.ids;
  consumers =
      All-map (IsDoneConsumer now) (confined (seqs messages)) s.consumers
      (All-weaker (IsDoneConsumer now) (λ c. IsDoneConsumer now (confined (seqs messages) c)) (λ c k. done_confined now (seqs messages) c k) s.consumers h.consumers);
}

all_young : (s : Stream) (now : ℕ) → All (λ m. is_young s.config.max_age now m ≡ true) (young s now)
all_young s now = go (s.config.max_age == 0)
  where
    go : (b : Bool) → All (λ m. (b || nat_lt now (plus m.at s.config.max_age)) ≡ true) (cond b s.messages (filter (λ m. nat_lt now (plus m.at s.config.max_age)) s.messages))
    go true = all_members (λ m. true ≡ true) s.messages (λ m i. refl)
    go false = all_filtered (λ m. nat_lt now (plus m.at s.config.max_age)) s.messages

young_stays : (s : Stream) (now : ℕ) → All (λ m. is_young s.config.max_age now m ≡ true) s.messages → young s now ≡ s.messages
young_stays s now h = go (s.config.max_age == 0) h
  where
    go : (b : Bool) → All (λ m. (b || nat_lt now (plus m.at s.config.max_age)) ≡ true) s.messages → cond b s.messages (filter (λ m. nat_lt now (plus m.at s.config.max_age)) s.messages) ≡ s.messages
    go true k = refl
    go false k = unfiltered (λ m. nat_lt now (plus m.at s.config.max_age)) s.messages k

pub done_advance : (s : Stream) (now : ℕ) → max s.moment now < 2 ^ 62 - 1 → IsDone (max s.moment now) (advance s now)
unfolding advance
done_advance s now l = record {
  moment = refl;
  messages = all_young s (max s.moment now);
  ids = filter_again (λ i. nat_lt (max s.moment now) (plus i.at s.config.duplicate_window)) s.ids;
  consumers =
      All-map (IsDoneConsumer (max s.moment now)) (consumer_at (max s.moment now)) (aged s (max s.moment now)).consumers
      (all_members (λ c. IsDoneConsumer (max s.moment now) (consumer_at (max s.moment now) c)) (aged s (max s.moment now)).consumers (λ c i. done_at (max s.moment now) l c));
}

done_settled : (now : ℕ) (s : Stream) → IsDone now s → IsDone now (settled s)
unfolding kept trim
done_settled now s h =
    done_only now (trim s) _ (filter_part _ (trim s).messages)
    (done_only now (trim_count (trim_subjects s)) _ (fitting_at_part s.config.max_bytes (trim_count (trim_subjects s)).messages)
    (done_only now (trim_subjects s) _ (drop_part _ (trim_subjects s).messages)
    (done_only now s _ (newest_at_part s.config.max_msgs_per_subject s.messages) h)))

own_messages : (s : Stream) → only (settled s) (settled s).messages ≡ settled s
unfolding kept
own_messages s = only_again (trim s) _

aged_done : (now : ℕ) (s : Stream) → IsDone now s → only s s.messages ≡ s → aged s now ≡ s
aged_done now s h e =
    ap (λ (ms : List Message). record (only s ms) { moment = now; ids = remembered s now }) (young_stays s now h.messages)
    ∙ ap (λ (t : Stream). record t { moment = now; ids = remembered s now }) e
    ∙ ap (λ (n : ℕ). record s { moment = n; ids = remembered s now }) (sym h.moment)
    ∙ ap (λ (ids : List Id). record s { ids = ids }) h.ids

pub done_rests : (now : ℕ) (s : Stream) → IsDone now s → only s s.messages ≡ s → IsQuietStream s s.moment
unfolding advance advance_outs
done_rests now s h e = record {
  stays =
      ap (stream_at s) same
      ∙ ap (λ (a : Stream). record a { consumers = map (consumer_at now) a.consumers }) (aged_done now s h e)
      ∙ ap (λ (cs : List Consumer). record s { consumers = cs })
      (map_fixed (consumer_at now) s.consumers (All-weaker (IsDoneConsumer now) (λ c. consumer_at now c ≡ c) (λ c k. done_stays now c k) s.consumers h.consumers));
  silent =
      ap (λ (n : ℕ). flat_map (consumer_outs n) (aged s n).consumers) same
      ∙ ap (λ (a : Stream). flat_map (consumer_outs now) a.consumers) (aged_done now s h e)
      ∙ all_silent (consumer_outs now) s.consumers (All-weaker (IsDoneConsumer now) (λ c. consumer_outs now c ≡ []) (λ c k. done_silent now c k) s.consumers h.consumers);
  due = all_members (NoneFallsDue s.moment s.moment) s.consumers (λ c i. all_members (λ p. is_due s.moment c p ≡ is_due s.moment c p) c.pending (λ p j. refl));
}
  where
    same : max s.moment s.moment ≡ now
    same = same_max s.moment ∙ h.moment

pub law_rest : LawRest
unfolding answered
law_rest (Vacant i) e now room q l = subst (λ (w : What). IsAtRest (completed [] (vacant_answer i w now room)).state) (sym q) tt
law_rest (Live s) e now room q l =
    subst (λ (w : What). IsAtRest (completed (advance_outs s now) (stream_answer (advance s now) w room)).state) (sym q)
    (done_rests (max s.moment now) (settled (advance s now)) (done_settled (max s.moment now) (advance s now) (done_advance s now l)) (own_messages (advance s now)))
