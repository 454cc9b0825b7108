-- A state within its limits stays so.
use Rattle.std.proofs.Common.{◌≡◌, ℕ, ◌+◌, ◌-◌, ◌<◌, ◌≤◌, Bool, true, false, ◌||◌, not, cond, List, [], ◌∷◌, map, length, drop, max, refl, sym, ap, ◌∙◌, subst, arith, ◌⊎◌, inl, inr, length-drop}
use Rattle.std.proofs.lemmas.List.{length-map}
use Rattle.std.specs.Prelude.{Option, Some, None, unwrap_or, filter, nat_lt, nat_le, ◌==◌, count_by, sum_by, All, IfSome, ⊤}
use Rattle.std.proofs.lemmas.Bool.{true≢false, ltb-true, ltb-false, leb-true, eqb-true, or_cases}
use Rattle.std.proofs.lemmas.List.Sums.{sum_by-cons}
use Rattle.js_base.specs.Bytes.{Bytes, same, has, last_of}
use Rattle.js_base.specs.Moments.{plus}
use Rattle.js_base.specs.declared.out.Out.{Out}
use Rattle.js_model.specs.declared.consumer_config.ConsumerConfig.{ConsumerConfig}
use Rattle.js_model.specs.declared.stream.Message.{Message}
use Rattle.js_model.specs.declared.stream.Stream.{Stream}
use Rattle.js_model.specs.declared.stream.State.{State}
use Rattle.js_model.specs.declared.stream.State.TheVariants.{Vacant, Live}
use Rattle.js_model.specs.declared.consumer.Pending.{Pending}
use Rattle.js_model.specs.declared.consumer.Consumer.{Consumer}
use Rattle.js_model.specs.declared.ack.AckKind.{AckKind}
use Rattle.js_model.specs.declared.ack.AckKind.TheVariants.{Ack as Acknowledge, Nak, Wpi, Next, Term}
use Rattle.js_model.specs.declared.event.Event.{Event}
use Rattle.js_model.specs.declared.reply.Reply.{Reply}
use Rattle.js_model.specs.declared.entry.Delivered.{Delivered}
use Rattle.js_model.specs.declared.entry.Delivered.TheVariants.{Sent, TooSmall, Emptied}
use Rattle.js_model.specs.declared.entry.Delivery.{Delivery}
use Rattle.js_model.specs.declared.entry.PlaceEntry.{PlaceEntry}
use Rattle.js_model.specs.declared.entry.PlaceEntry.TheVariants.{Step, Deliver, Broken}
use Rattle.js_model.specs.declared.entry.Call.TheVariants.{Step as StepOf, Deliver as DeliverOf}
use Rattle.js_model.specs.declared.reply.Answer.{Answer}
use Rattle.js_model.specs.Lists.{IsPart, Between}
use Rattle.js_model.specs.Streams.{size, confined, with_consumer, pending_seqs, is_unacknowledged}
use Rattle.js_model.specs.Advance.{advance, consumer_at, is_spent}
use Rattle.js_model.specs.Retention.{kept}
use Rattle.js_model.specs.Trim.{trim, newest, newest_at, fitting, fitting_at, max_messages}
use Rattle.js_model.specs.Acknowledge.{acknowledged, moved}
use Rattle.js_model.specs.Consumers.{new_consumer}
use Rattle.js_model.specs.Runs.{RunFrom, IsStep, new_messages}
use Rattle.js_model.specs.Pulls.{pulled}
use Rattle.js_model.specs.Events.{answered, IsEvent, settled_state, stream_answer, vacant_answer}
use Rattle.js_model.specs.Deliver.{Delivers, IsDelivery, IsDelivered, sent_to, with_pending, count_of, may_wait, is_due}
use Rattle.model_laws.proofs.Whole.{IsSoundConsumer, IsSoundState}
use Rattle.model_laws.specs.Limits.{IsWithin}
use Rattle.js_model.proofs.Parts.{filter_part, drop_part, part-length, part-sum, newest_part, fitting_at_part, part_trans, between_map, young_part}
use Rattle.js_model.proofs.Named.{same_is}
use Rattle.js_model.proofs.Members.{find_one, found_in}
use Rattle.model_laws.proofs.Facts.{IfLive, at_event}
use Rattle.js_model.proofs.Candidates.{IsReason, again, picked, onward, candidate_is}
use Rattle.model_laws.proofs.SoundTime.{has_between}
use Rattle.model_laws.proofs.SoundSent.{has_seq}
use Rattle.model_laws.proofs.Sounding.{sound_step, sound_delivery, sound_found}
use Rattle.model_laws.proofs.Settled.{picks_pulled}
use Rattle.model_laws.proofs.StoredBefore.{config_pulled}
use Rattle.model_laws.proofs.ConsumerFacts.{IsKept}
use Rattle.model_laws.proofs.AllConsumers.{all_fact, all_delivery}

-- ---- what the three limits leave

pub part-count : {X : Type 0} (t : X → Bool) {ys xs : List X} → IsPart ys xs → count_by t ys ≤ count_by t xs
part-count t p = part-sum (λ x. cond (t x) 1 0) p

pub count_cons : {X : Type 0} (t : X → Bool) (x : X) (xs : List X) → count_by t (x ∷ xs) ≡ cond (t x) 1 0 + count_by t xs
count_cons t x xs = sum_by-cons (λ x. cond (t x) 1 0) x xs

newest_count : (n : ℕ) (subject : Bytes) (ms : List Message) → count_by (λ m. same m.subject subject) (newest n ms) ≤ n
newest_count n subject [] = omega arith
newest_count n subject (m ∷ later) = go (nat_lt (count_by (λ x. same x.subject m.subject) later) n) refl (newest_count n subject later)
  where
    rest : ℕ
    rest = count_by (λ x. same x.subject subject) (newest n later)

    -- the message is of the subject, or of another one
    more : count_by (λ x. same x.subject m.subject) later < n → rest ≤ n → (b : Bool) → same m.subject subject ≡ b → cond b 1 0 + rest ≤ n
    more l h true e =
        let fewer : rest ≤ count_by (λ x. same x.subject subject) later = part-count (λ x. same x.subject subject) (newest_part n later) in
        let l' : count_by (λ x. same x.subject subject) later < n = subst (λ (u : Bytes). count_by (λ x. same x.subject u) later < n) (same_is m.subject subject e) l in
        omega arith
    more l h false e = omega arith

    go : (b : Bool) → nat_lt (count_by (λ x. same x.subject m.subject) later) n ≡ b → rest ≤ n → count_by (λ x. same x.subject subject) (cond b (m ∷ newest n later) (newest n later)) ≤ n
    go true e h = rw (count_cons (λ x. same x.subject subject) m (newest n later)) (more (ltb-true (count_by (λ x. same x.subject m.subject) later) n e) h (same m.subject subject) refl)
    go false e h = h

pub last_of_length : {X : Type 0} (n : ℕ) (xs : List X) → length (last_of n xs) ≤ n
last_of_length {X} n xs = let q : length (drop (length xs - n) xs) ≡ length xs - (length xs - n) = length-drop (length xs - n) xs in omega arith

fitting_sum : (n : ℕ) (ms : List Message) → sum_by size (fitting n ms) ≤ n
fitting_sum n [] = omega arith
fitting_sum n (m ∷ later) = go (nat_le (sum_by size (m ∷ later)) n) refl (fitting_sum n later)
  where
    go : (b : Bool) → nat_le (sum_by size (m ∷ later)) n ≡ b → sum_by size (fitting n later) ≤ n → sum_by size (cond b (m ∷ later) (fitting n later)) ≤ n
    go true e h = leb-true (sum_by size (m ∷ later)) n e
    go false e h = h

-- the messages of a stream within its limits
pub record AreWithin (s : Stream) (ms : List Message) : Type 0 where
  pub per_subject : IfSome s.config.max_msgs_per_subject (λ limit. (subject : Bytes) → count_by (λ m. same m.subject subject) ms ≤ limit)
  pub messages : length ms ≤ max_messages s
  pub bytes : IfSome s.config.max_bytes (λ limit. sum_by size ms ≤ limit)

pub subjects_part : (o : Option ℕ) {ys xs : List Message} → IsPart ys xs → IfSome o (λ limit. (subject : Bytes) → count_by (λ m. same m.subject subject) xs ≤ limit) → IfSome o (λ limit. (subject : Bytes) → count_by (λ m. same m.subject subject) ys ≤ limit)
subjects_part None p h = tt
subjects_part (Some n) {ys = ys} {xs = xs} p h = λ subject. let a : count_by (λ m. same m.subject subject) xs ≤ n = h subject in let b : count_by (λ m. same m.subject subject) ys ≤ count_by (λ m. same m.subject subject) xs = part-count (λ m. same m.subject subject) p in omega arith

bytes_part : (o : Option ℕ) {ys xs : List Message} → IsPart ys xs → IfSome o (λ limit. sum_by size xs ≤ limit) → IfSome o (λ limit. sum_by size ys ≤ limit)
bytes_part None p h = tt
bytes_part (Some n) {ys = ys} {xs = xs} p h = let a : sum_by size xs ≤ n = h in let b : sum_by size ys ≤ sum_by size xs = part-sum size p in omega arith

within_part : (s : Stream) {ys xs : List Message} → IsPart ys xs → AreWithin s xs → AreWithin s ys
within_part s {ys = ys} {xs = xs} p h = record {
  per_subject = subjects_part s.config.max_msgs_per_subject p h.per_subject;
  messages = let a : length xs ≤ max_messages s = h.messages in let b : length ys ≤ length xs = part-length p in omega arith;
  bytes = bytes_part s.config.max_bytes p h.bytes;
}

newest_within : (o : Option ℕ) (ms : List Message) → IfSome o (λ limit. (subject : Bytes) → count_by (λ m. same m.subject subject) (newest_at o ms) ≤ limit)
newest_within None ms = tt
newest_within (Some n) ms = λ subject. newest_count n subject ms

fitting_within : (o : Option ℕ) (ms : List Message) → IfSome o (λ limit. sum_by size (fitting_at o ms) ≤ limit)
fitting_within None ms = tt
fitting_within (Some n) ms = fitting_sum n ms

trim_within : (s : Stream) → AreWithin s (trim s).messages
unfolding trim
trim_within s =
    let first = newest_at s.config.max_msgs_per_subject s.messages in
    let second = last_of (max_messages s) first in
    record {
      per_subject = subjects_part s.config.max_msgs_per_subject (part_trans (fitting_at_part s.config.max_bytes second) (drop_part _ first)) (newest_within s.config.max_msgs_per_subject s.messages);
      messages = let a : length second ≤ max_messages s = last_of_length (max_messages s) first in let b : length (fitting_at s.config.max_bytes second) ≤ length second = part-length (fitting_at_part s.config.max_bytes second) in omega arith;
      bytes = fitting_within s.config.max_bytes second;
    }

-- what an event leaves is within the limits of its configuration
pub settled_within : (s : Stream) → AreWithin s (kept (trim s)).messages
unfolding kept
settled_within s = within_part s (filter_part _ (trim s).messages) (trim_within s)

-- ---- entries that wait

abbrev IsFew : Consumer → Type 0
IsFew c = length c.pending ≤ unwrap_or c.config.max_ack_pending 65536

few_filter : (t : Pending → Bool) (c d : Consumer) → d.pending ≡ filter t c.pending → d.config ≡ c.config → IsFew c → IsFew d
few_filter t c d e f h =
    let a : length (filter t c.pending) ≤ length c.pending = part-length (filter_part t c.pending) in
    let b : length d.pending ≡ length (filter t c.pending) = ap length e in
    let g : unwrap_or d.config.max_ack_pending 65536 ≡ unwrap_or c.config.max_ack_pending 65536 = ap (λ (v : ConsumerConfig). unwrap_or v.max_ack_pending 65536) f in
    omega arith

few_same : (c d : Consumer) → length d.pending ≡ length c.pending → d.config ≡ c.config → IsFew c → IsFew d
few_same c d e f h =
    let g : unwrap_or d.config.max_ack_pending 65536 ≡ unwrap_or c.config.max_ack_pending 65536 = ap (λ (v : ConsumerConfig). unwrap_or v.max_ack_pending 65536) f in
    omega arith

few_acknowledged : (now n : ℕ) (kind : AckKind) (c : Consumer) → IsFew c → IsFew (acknowledged now n kind c)
few_acknowledged now n Acknowledge c h = few_filter _ c (acknowledged now n Acknowledge c) refl refl h
few_acknowledged now n (Nak delay) c h = few_same c (acknowledged now n (Nak delay) c) (length-map c.pending (moved n (plus now delay))) refl h
few_acknowledged now n Wpi c h = few_same c (acknowledged now n Wpi c) (length-map c.pending (moved n (plus now c.config.ack_wait))) refl h
few_acknowledged now n (Next ask) c h = few_filter _ c (acknowledged now n (Next ask) c) refl refl h
few_acknowledged now n Term c h = few_filter _ c (acknowledged now n Term c) refl refl h

few_kept : IsKept IsFew
few_kept = record {
  confined = λ ns c h. few_filter (λ p. has ns p.seq) c (confined ns c) refl refl h;
  time = λ now c h. few_filter (λ p. not (is_spent now c p)) c (consumer_at now c) refl refl h;
  acknowledged = few_acknowledged;
  pulled = λ now reply ask c h. few_same c (pulled now reply ask c) (ap length (picks_pulled now reply ask c).2) (config_pulled now reply ask c) h;
}

few_new : (s : Stream) (name : Bytes) (config : ConsumerConfig) → IsFew (new_consumer s name config)
few_new s name config = omega arith

-- an entry that is there is replaced, and another one makes one more
length_with_pending : (new : Pending) (ps : List Pending) → length (with_pending ps new) ≤ length ps + 1
length_with_pending new [] = omega arith
length_with_pending new (p ∷ ps) = go (nat_lt p.seq new.seq) (p.seq == new.seq) (length_with_pending new ps)
  where
    go : (a b : Bool) → length (with_pending ps new) ≤ length ps + 1 → length (cond a (p ∷ with_pending ps new) (cond b (new ∷ ps) (new ∷ p ∷ ps))) ≤ length (p ∷ ps) + 1
    go true b h = omega arith
    go false true h = omega arith
    go false false h = omega arith

length_replaced : (new : Pending) (low high : ℕ) (ps : List Pending) → Between (λ p. p.seq) low high ps → has (map (λ p. p.seq) ps) new.seq ≡ true → length (with_pending ps new) ≡ length ps
length_replaced new low high [] h e = absurd (true≢false (sym e))
length_replaced new low high (p ∷ ps) h e = go (nat_lt p.seq new.seq) refl (p.seq == new.seq) refl (length_replaced new (p.seq + 1) high ps h.1) e
  where
    go : (a : Bool) → nat_lt p.seq new.seq ≡ a → (b : Bool) → (p.seq == new.seq) ≡ b → (has (map (λ p. p.seq) ps) new.seq ≡ true → length (with_pending ps new) ≡ length ps) → (b || has (map (λ p. p.seq) ps) new.seq) ≡ true
        → length (cond a (p ∷ with_pending ps new) (cond b (new ∷ ps) (new ∷ p ∷ ps))) ≡ length (p ∷ ps)
    go true q true w f k = let l : p.seq < new.seq = ltb-true p.seq new.seq q in let r : p.seq ≡ new.seq = eqb-true p.seq new.seq w in absurd (omega arith)
    go true q false w f k = let l : length (with_pending ps new) ≡ length ps = f k in omega arith
    go false q true w f k = refl
    go false q false w f k =
        let l : new.seq ≤ p.seq = ltb-false p.seq new.seq q in
        let r : p.seq + 1 ≤ new.seq = has_between new.seq (p.seq + 1) high (map (λ p. p.seq) ps) (between_map (λ n. n) (λ p. p.seq) (p.seq + 1) high ps h.1) k in
        absurd (omega arith)

-- a delivery of what is due replaces its entry, and another one needs room
pub length_sent : (most : ℕ) (a : Stream) (c : Consumer) (m : Message) (now : ℕ) → IsSoundConsumer a.messages a.last c → IsReason a c m → unwrap_or c.config.max_ack_pending 65536 ≤ most → length c.pending ≤ most → length (sent_to now m c).pending ≤ most
length_sent most a c m now k reason allowed h = go (is_unacknowledged c) refl
  where
    new : Pending
    new = record { seq = m.seq; count = count_of c m.seq + 1; due = plus now c.config.ack_wait }

    room : may_wait c ≡ true → is_unacknowledged c ≡ false → length (with_pending c.pending new) ≤ most
    room w e = either (or_cases (is_unacknowledged c) _ w)
      where
        either : (is_unacknowledged c ≡ true) ⊎ (nat_lt (length c.pending) (unwrap_or c.config.max_ack_pending 65536) ≡ true) → length (with_pending c.pending new) ≤ most
        either (inl q) = absurd (true≢false (sym q ∙ e))
        either (inr q) =
            let l : length c.pending < unwrap_or c.config.max_ack_pending 65536 = ltb-true (length c.pending) (unwrap_or c.config.max_ack_pending 65536) q in
            let r : length (with_pending c.pending new) ≤ length c.pending + 1 = length_with_pending new c.pending in omega arith

    waiting : is_unacknowledged c ≡ false → IsReason a c m → length (with_pending c.pending new) ≤ most
    waiting e (again q) =
        let x = find_one (λ p. p.seq) (is_due a.moment c) m.seq 1 c.cursor c.pending k.pending q in
        let there_is : has (pending_seqs c) m.seq ≡ true = subst (λ (n : ℕ). has (pending_seqs c) n ≡ true) x.3 (has_seq x.0 c.pending (found_in (λ p. p.seq == m.seq) x.0 c.pending x.1).0) in
        let l : length (with_pending c.pending new) ≡ length c.pending = length_replaced new 1 c.cursor c.pending k.pending there_is in omega arith
    waiting e (picked p rest q r o) = room o e
    waiting e (onward q t l o) = room o e

    go : (b : Bool) → is_unacknowledged c ≡ b → length (cond b c.pending (with_pending c.pending new)) ≤ most
    go true e = h
    go false e = waiting e reason

few_delivered : (a : Stream) (listening : List Bytes) (c after : Consumer) (d : Delivered) (outs : List Out) → Delivers a listening c d outs after → IsSoundConsumer a.messages a.last c → IsFew c → IsFew after
few_delivered a listening c after (Sent seq count dseq) outs x k h = subst IsFew (sym x.after_is) (length_sent (unwrap_or c.config.max_ack_pending 65536) a c x.message a.moment k (candidate_is a c x.message x.candidate).reason (omega arith) h)
few_delivered a listening c after TooSmall outs x k h = subst IsFew (sym x.after_is) h
few_delivered a listening c after Emptied outs x k h = subst IsFew (sym x.after_is) h

-- ---- the state

abbrev AreFew : State → Type 0
AreFew s = IfLive ⊤ (λ t. All IsFew t.consumers) s

abbrev pub FitsLimits : State → Type 0
FitsLimits s = IfLive ⊤ (λ t. AreWithin t t.messages) s

as_within : (s : State) → FitsLimits s → AreFew s → IsWithin s
as_within (Vacant i) h k = tt
as_within (Live t) h k = record { per_subject = h.per_subject; messages = h.messages; bytes = h.bytes; pending = k }

few_of : (s : State) → IsWithin s → AreFew s
few_of (Vacant i) h = tt
few_of (Live t) h = h.pending

fits_settled : (s : State) → FitsLimits (settled_state s)
unfolding kept trim
fits_settled (Vacant i) = tt
fits_settled (Live t) = let w = settled_within t in record { per_subject = w.per_subject; messages = w.messages; bytes = w.bytes }

pub fits_event : (old new : State) (e : Event) (now : ℕ) (reply : Reply) (outs : List Out) → IsEvent old e now reply outs new → FitsLimits new
unfolding answered
fits_event (Vacant i) new e now reply outs x = subst FitsLimits (ap (λ (a : Answer). a.state) x.answers) (fits_settled (vacant_answer i e.what now x.room).state)
fits_event (Live s) new e now reply outs x = subst FitsLimits (ap (λ (a : Answer). a.state) x.answers) (fits_settled (stream_answer (advance s now) e.what x.room).state)

-- time and retention only drop messages
fits_time : (s : Stream) (now : ℕ) → AreWithin s s.messages → AreWithin (advance s now) (advance s now).messages
unfolding advance
fits_time s now h = let w = within_part s (young_part s (max s.moment now)) h in record { per_subject = w.per_subject; messages = w.messages; bytes = w.bytes }

fits_kept : (s : Stream) → AreWithin s s.messages → AreWithin (kept s) (kept s).messages
unfolding kept
fits_kept s h = let w = within_part s (filter_part _ s.messages) h in record { per_subject = w.per_subject; messages = w.messages; bytes = w.bytes }

fits_with : (s : Stream) (c : Consumer) → AreWithin s s.messages → AreWithin (with_consumer s c) (with_consumer s c).messages
fits_with s c h = record { per_subject = h.per_subject; messages = h.messages; bytes = h.bytes }

fits_delivery : (s : Stream) (new : State) (now : ℕ) (listening : List Bytes) (d : Delivery) (outs : List Out) → IsDelivery s now listening d outs new → AreWithin s s.messages → FitsLimits new
fits_delivery s new now listening d outs x h = subst FitsLimits (sym x.new_is) (fits_kept (with_consumer (advance s now) x.after) (fits_with (advance s now) x.after (fits_time s now h)))

fits_of : (s : State) → IsWithin s → FitsLimits s
fits_of (Vacant i) h = tt
fits_of (Live t) h = record { per_subject = h.per_subject; messages = h.messages; bytes = h.bytes }

-- ---- one entry, and runs

within_event : (count : ℕ) (old new : State) (e : Event) (now : ℕ) (reply : Reply) (outs : List Out) → IsStep count old e now reply outs new → IsWithin old → IsWithin new
within_event count old new e now reply outs x h =
    as_within new (fits_event old new e now reply outs x.event)
    (at_event (λ w. ⊤) ⊤ (λ s. All IsFew s.consumers) (all_fact IsFew few_kept few_new) old new e now reply outs x.event tt (few_of old h))

within_delivery : (old new : State) (now : ℕ) (listening : List Bytes) (d : Delivery) (outs : List Out) → IsDelivered old now listening d outs new → IsSoundState old → IsWithin old → IsWithin new
within_delivery (Vacant i) new now listening d outs x s h = absurd x
within_delivery (Live t) new now listening d outs x s h =
    as_within new (fits_delivery t new now listening d outs x (fits_of (Live t) h))
    (all_delivery IsFew few_kept few_new t new now listening d outs x
    (λ q. few_delivered (advance t now) listening x.consumer x.after d.what x.own x.delivers (sound_found t now listening d outs new x s) q) h.pending)

pub stays_within : (count : ℕ) (old new : State) (entries : List PlaceEntry) → IsSoundState old → RunFrom count old entries new → IsWithin old → IsWithin new
stays_within count old new [] s r h = subst IsWithin r h
stays_within count old new (Step seat e now reply outs unsaid ∷ entries) s (mid, x, rest) h =
    stays_within (count + length (new_messages old mid)) mid new entries (sound_step count old mid e now reply outs x s) rest (within_event count old mid e now reply outs x h)
stays_within count old new (Deliver seat now listening d outs ∷ entries) s (mid, x, rest) h =
    stays_within (count + length (new_messages old mid)) mid new entries (sound_delivery old mid now listening d outs x.delivered s) rest (within_delivery old mid now listening d outs x.delivered s h)
stays_within count old new (Broken seat now (StepOf e) ∷ []) s (reply, outs, x) h = within_event count old new e now reply outs x h
stays_within count old new (Broken seat now (DeliverOf listening d) ∷ []) s (outs, x) h = within_delivery old new now listening d outs x.delivered s h
stays_within count old new (Broken seat now call ∷ entry ∷ entries) s r h = absurd r
