-- Before each of its timers a state at rest changes in its moment alone.
use Rattle.std.proofs.Common.{◌≡◌, ℕ, ◌<◌, ◌≤◌, Bool, true, false, not, cond, List, [], ◌∷◌, ◌++◌, map, max, refl, sym, ap, ◌∙◌, subst, arith}
use Rattle.std.specs.Prelude.{filter, All, fold}
use Rattle.std.specs.List.{flat_map}
use Rattle.std.proofs.lemmas.List.Elements.{All-head, All-tail, All-map, All-filter, All-weaker}
use Rattle.js_base.specs.Bytes.{last_of}
use Rattle.js_base.specs.declared.out.Out.{Out}
use Rattle.js_model.specs.declared.stream.Message.{Message}
use Rattle.js_model.specs.declared.stream.Id.{Id}
use Rattle.js_model.specs.declared.stream.Stream.{Stream}
use Rattle.js_model.specs.declared.stream.State.TheVariants.{Vacant, Live}
use Rattle.js_model.specs.declared.consumer.Pending.{Pending}
use Rattle.js_model.specs.declared.consumer.Pull.{Pull}
use Rattle.js_model.specs.declared.consumer.Consumer.{Consumer}
use Rattle.js_model.specs.Streams.{only, seqs, confined}
use Rattle.js_model.specs.Deliver.{is_due}
use Rattle.js_model.specs.Advance.{advance, advance_outs, stream_at, aged, young, remembered, consumer_at, consumer_outs, timeout, pull_beat, push_beat, is_spent, is_over, running, beaten, pull_comes, push_comes, placed}
use Rattle.timers.specs.Timers.{stream_timers, timers}
use Rattle.timer_laws.specs.Quiet.{NoneFallsDue, IsQuietStream}
use Rattle.timer_laws.specs.Laws.{LawTimers}
use Rattle.timer_laws.proofs.Lists.{all_both, filter_same, map_same, flat_map_same, unfiltered, none_pass, empty_parts, empty_map, each_empty}
use Rattle.timer_laws.proofs.Agreeing.{Agrees, IsAgreeing, AgreeAll, agreeing_confined, spent_agrees, due_agrees, stream_agrees}

-- ---- a consumer to which nothing is sent

-- nothing that is sent has come
pub record IsUntold (now : ℕ) (c : Consumer) : Type 0 where
  pub over : All (λ p. is_over now p ≡ false) c.waiting
  pub beats : All (λ p. pull_comes now p ≡ false) c.waiting
  pub own : push_comes now c ≡ false

pub not_over : (now : ℕ) (ps : List Pull) → All (λ p. is_over now p ≡ false) ps → filter (λ p. not (is_over now p)) ps ≡ ps
not_over now ps h = unfiltered (λ p. not (is_over now p)) ps (All-weaker (λ p. is_over now p ≡ false) (λ p. not (is_over now p) ≡ true) (λ p e. ap not e) ps h)

pub untold : (now : ℕ) (c : Consumer) → consumer_outs now c ≡ [] → IsUntold now c
untold now c e = record {
  over = over;
  beats = subst (All (λ p. pull_comes now p ≡ false)) (not_over now c.waiting over) (none_pass (pull_comes now) (running now c) (empty_map pull_beat (filter (pull_comes now) (running now c)) first.1));
  own = own (push_comes now c) parts.1;
}
  where
    ended : List Out
    ended = map timeout (filter (is_over now) c.waiting)

    beaten_now : List Out
    beaten_now = map pull_beat (filter (pull_comes now) (running now c))

    parts : ((ended ++ beaten_now) ≡ []) × (cond (push_comes now c) (push_beat c ∷ []) [] ≡ [])
    parts = empty_parts (ended ++ beaten_now) (cond (push_comes now c) (push_beat c ∷ []) []) e

    first : (ended ≡ []) × (beaten_now ≡ [])
    first = empty_parts ended beaten_now parts.0

    over : All (λ p. is_over now p ≡ false) c.waiting
    over = none_pass (is_over now) c.waiting (empty_map timeout (filter (is_over now) c.waiting) first.0)

    own : (b : Bool) → cond b (push_beat c ∷ []) [] ≡ [] → b ≡ false
    own true w = cc
    own false w = refl

-- ---- a consumer whose tests agree

same_outs : (moment now : ℕ) (c : Consumer) → IsAgreeing moment now c → consumer_outs now c ≡ consumer_outs moment c
same_outs moment now c h =
    ap (λ (ps : List Pull). map timeout ps ++ map pull_beat (filter (pull_comes now) (running now c)) ++ last (push_comes now c)) (filter_same (is_over now) (is_over moment) c.waiting h.over)
    ∙ ap (λ (ps : List Pull). ended ++ map pull_beat (filter (pull_comes now) ps) ++ last (push_comes now c)) still
    ∙ ap (λ (ps : List Pull). ended ++ map pull_beat ps ++ last (push_comes now c)) (filter_same (pull_comes now) (pull_comes moment) (running moment c) beats)
    ∙ ap (λ (b : Bool). ended ++ map pull_beat (filter (pull_comes moment) (running moment c)) ++ last b) h.own
  where
    last : Bool → List Out
    last b = cond b (push_beat c ∷ []) []

    ended : List Out
    ended = map timeout (filter (is_over moment) c.waiting)

    still : running now c ≡ running moment c
    still = filter_same (λ p. not (is_over now p)) (λ p. not (is_over moment p)) c.waiting (All-weaker (λ p. is_over now p ≡ is_over moment p) (λ p. not (is_over now p) ≡ not (is_over moment p)) (λ p e. ap not e) c.waiting h.over)

    beats : All (λ p. pull_comes now p ≡ pull_comes moment p) (running moment c)
    beats = All-filter (λ p. not (is_over moment p)) (λ p. pull_comes now p ≡ pull_comes moment p) c.waiting h.beats

unbeaten : (now : ℕ) (ps : List Pull) → All (λ p. pull_comes now p ≡ false) ps → map (beaten now) ps ≡ ps
unbeaten now [] h = refl
unbeaten now (p ∷ ps) h =
    ap (λ (b : Bool). cond b (record p { mark = now }) p ∷ map (beaten now) ps) (All-head (λ p. pull_comes now p ≡ false) p ps h)
    ∙ ap (λ l. p ∷ l) (unbeaten now ps (All-tail (λ p. pull_comes now p ≡ false) p ps h))

-- what is left of the entries and of the sequences given up, where nothing is sent
abbrev pub left : ℕ → Consumer → Consumer
left now c = record c {
  pending = filter (λ p. not (is_spent now c p)) c.pending;
  given_up = last_of 65536 (fold placed c.given_up (map (λ p. p.seq) (filter (is_spent now c) c.pending)));
}

pub untold_at : (now : ℕ) (c : Consumer) → IsUntold now c → consumer_at now c ≡ left now c
untold_at now c h =
    ap (λ (ps : List Pull). record (left now c) { waiting = map (beaten now) ps; mark = cond (push_comes now c) now c.mark }) (not_over now c.waiting h.over)
    ∙ ap (λ (ps : List Pull). record (left now c) { waiting = ps; mark = cond (push_comes now c) now c.mark }) (unbeaten now c.waiting h.beats)
    ∙ ap (λ (b : Bool). record (left now c) { mark = cond b now c.mark }) h.own

same_left : (moment now : ℕ) (c : Consumer) → IsAgreeing moment now c → left now c ≡ left moment c
same_left moment now c h =
    ap (λ (ps : List Pending). record c { pending = ps; given_up = given (filter (is_spent now c) c.pending) }) kept
    ∙ ap (λ (ps : List Pending). record c { pending = filter (λ p. not (is_spent moment c p)) c.pending; given_up = given ps }) (filter_same (is_spent now c) (is_spent moment c) c.pending spent)
  where
    given : List Pending → List ℕ
    given ps = last_of 65536 (fold placed c.given_up (map (λ p. p.seq) ps))

    spent : All (λ p. is_spent now c p ≡ is_spent moment c p) c.pending
    spent = All-weaker (λ p. Agrees moment now p.due) (λ p. is_spent now c p ≡ is_spent moment c p) (λ p k. spent_agrees moment now c p k) c.pending h.entries

    kept : filter (λ p. not (is_spent now c p)) c.pending ≡ filter (λ p. not (is_spent moment c p)) c.pending
    kept = filter_same (λ p. not (is_spent now c p)) (λ p. not (is_spent moment c p)) c.pending (All-weaker (λ p. is_spent now c p ≡ is_spent moment c p) (λ p. not (is_spent now c p) ≡ not (is_spent moment c p)) (λ p e. ap not e) c.pending spent)

agreeing_untold : (moment now : ℕ) (c : Consumer) → IsAgreeing moment now c → IsUntold moment c → IsUntold now c
agreeing_untold moment now c h k = record {
  over = all_both (λ p. is_over now p ≡ is_over moment p) (λ p. is_over moment p ≡ false) (λ p. is_over now p ≡ false) (λ p e f. e ∙ f) c.waiting h.over k.over;
  beats = all_both (λ p. pull_comes now p ≡ pull_comes moment p) (λ p. pull_comes moment p ≡ false) (λ p. pull_comes now p ≡ false) (λ p e f. e ∙ f) c.waiting h.beats k.beats;
  own = h.own ∙ k.own;
}

-- it is at one moment what it is at the other
pub same_at : (moment now : ℕ) (c : Consumer) → IsAgreeing moment now c → consumer_outs moment c ≡ [] → consumer_at now c ≡ consumer_at moment c
same_at moment now c h e =
    untold_at now c (agreeing_untold moment now c h (untold moment c e)) ∙ same_left moment now c h ∙ sym (untold_at moment c (untold moment c e))

-- ---- a stream

module _ (s : Stream) (now : ℕ) (le : s.moment ≤ now) (h : AgreeAll s.moment now s) where
  -- its consumers, with what is stored at its own moment
  abbrev confined_now : List Consumer
  confined_now = (aged s s.moment).consumers

  agreeing : All (IsAgreeing s.moment now) confined_now
  agreeing =
      All-map (IsAgreeing s.moment now) (confined (seqs (young s s.moment))) s.consumers
      (All-weaker (IsAgreeing s.moment now) (λ c. IsAgreeing s.moment now (confined (seqs (young s s.moment)) c)) (λ c k. agreeing_confined s.moment now (seqs (young s s.moment)) c k) s.consumers h.consumers)

  same_aged : aged s now ≡ record (aged s s.moment) { moment = now }
  same_aged =
      ap (λ (ms : List Message). record (only s ms) { moment = now; ids = remembered s now }) h.messages
      ∙ ap (λ (ids : List Id). record (only s (young s s.moment)) { moment = now; ids = ids }) h.ids

  pub same_stream_outs : flat_map (consumer_outs now) (aged s now).consumers ≡ flat_map (consumer_outs s.moment) confined_now
  same_stream_outs =
      ap (λ (a : Stream). flat_map (consumer_outs now) a.consumers) same_aged
      ∙ flat_map_same (consumer_outs now) (consumer_outs s.moment) confined_now
      (All-weaker (IsAgreeing s.moment now) (λ c. consumer_outs now c ≡ consumer_outs s.moment c) (λ c k. same_outs s.moment now c k) confined_now agreeing)

  pub same_stream_at : flat_map (consumer_outs s.moment) confined_now ≡ [] → stream_at s now ≡ record (stream_at s s.moment) { moment = now }
  same_stream_at e =
      ap (λ (a : Stream). record a { consumers = map (consumer_at now) a.consumers }) same_aged
      ∙ ap (λ (cs : List Consumer). record (aged s s.moment) { moment = now; consumers = cs })
      (map_same (consumer_at now) (consumer_at s.moment) confined_now
      (all_both (IsAgreeing s.moment now) (λ c. consumer_outs s.moment c ≡ []) (λ c. consumer_at now c ≡ consumer_at s.moment c) (λ c k q. same_at s.moment now c k q) confined_now agreeing
      (each_empty (consumer_outs s.moment) confined_now e)))

-- the later of two moments, and of one with itself
pub later_of : (moment now : ℕ) → moment ≤ now → max moment now ≡ now
later_of moment now le = omega arith

pub same_max : (moment : ℕ) → max moment moment ≡ moment
same_max moment = omega arith

passes : (s : Stream) (now : ℕ) → IsQuietStream s s.moment → s.moment ≤ now → All (λ x. now < x) (stream_timers s) → IsQuietStream s now
unfolding advance advance_outs
passes s now rest le h = record {
  stays = ap (stream_at s) (later_of s.moment now le) ∙ same_stream_at s now le agree silent ∙ ap (λ (t : Stream). record t { moment = now }) (sym (ap (stream_at s) (same_max s.moment)) ∙ rest.stays);
  silent = ap (λ (n : ℕ). flat_map (consumer_outs n) (aged s n).consumers) (later_of s.moment now le) ∙ same_stream_outs s now le agree ∙ silent;
  due = All-weaker (IsAgreeing s.moment now) (NoneFallsDue s.moment now) (λ c k. all_due c k) s.consumers agree.consumers;
}
  where
    agree : AgreeAll s.moment now s
    agree = stream_agrees s now le h

    silent : flat_map (consumer_outs s.moment) (aged s s.moment).consumers ≡ []
    silent = sym (ap (λ (n : ℕ). flat_map (consumer_outs n) (aged s n).consumers) (same_max s.moment)) ∙ rest.silent

    all_due : (c : Consumer) → IsAgreeing s.moment now c → NoneFallsDue s.moment now c
    all_due c k = All-weaker (λ p. Agrees s.moment now p.due) (λ p. is_due now c p ≡ is_due s.moment c p) (λ p q. due_agrees s.moment now c p q) c.pending k.entries

pub law_timers : LawTimers
unfolding timers
law_timers (Vacant i) now rest le h = tt
law_timers (Live s) now rest le h = passes s now rest le h
