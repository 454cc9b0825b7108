-- The limits and the retention of a stream drop nothing of what they kept before, nor of a part of it.
use Rattle.std.proofs.Common.{◌≡◌, ℕ, ◌+◌, ◌<◌, ◌≤◌, Bool, true, false, ◌||◌, not, cond, List, [], ◌∷◌, map, length, refl, sym, ap, ◌∙◌, subst, arith}
use Rattle.std.specs.Prelude.{Option, Some, None, filter, ◌==◌, count_by, sum_by, IfSome}
use Rattle.std.specs.List.{list_any}
use Rattle.std.proofs.lemmas.Bool.{true≢false, eqb-true, lt-ltb}
use Rattle.js_base.specs.Bytes.{Bytes, same, has}
use Rattle.js_model.specs.declared.stream_config.Retention.{Retention as Policy}
use Rattle.js_model.specs.declared.stream_config.Retention.TheVariants.{Limits, Interest, WorkQueue}
use Rattle.js_model.specs.declared.stream.Message.{Message}
use Rattle.js_model.specs.declared.stream.Stream.{Stream}
use Rattle.js_model.specs.declared.consumer.Consumer.{Consumer}
use Rattle.js_model.specs.Lists.{IsPart}
use Rattle.js_model.specs.Streams.{only, seqs, confined, pending_seqs, takes, size}
use Rattle.js_model.specs.Retention.{kept, needs, is_kept}
use Rattle.js_model.specs.Trim.{newest, newest_at, fitting_at, max_messages, trim_count, trim_bytes, trim}
use Rattle.js_model.specs.Events.{settled}
use Rattle.js_model.proofs.Named.{same_self}
use Rattle.js_model.proofs.Members.{in_filter}
use Rattle.js_model.proofs.Parts.{part-length, part-sum}
use Rattle.model_laws.proofs.Whole.{has_member}
use Rattle.model_laws.proofs.SoundParts.{confined_pending}
use Rattle.model_laws.proofs.Within.{AreWithin, settled_within, subjects_part, count_cons}
use Rattle.model_laws.proofs.Taken.{only_again, last_of_few, fitting_few}
use Rattle.effects.proofs.Agreeing.{filter_all}

-- ---- what is within the limits

bytes_part : (o : Option ℕ) {ys xs : List Message} → IsPart ys xs → IfSome o (λ limit. sum_by size xs ≤ limit) → IfSome o (λ limit. sum_by size ys ≤ limit)
bytes_part None p h = tt
bytes_part (Some n) {ys = ys} {xs = xs} p h = let a : sum_by size xs ≤ n = h in let b : sum_by size ys ≤ sum_by size xs = part-sum size p in omega arith

-- a part of messages that are within them
pub within_part : (s : Stream) {ys xs : List Message} → IsPart ys xs → AreWithin s xs → AreWithin s ys
within_part s {ys = ys} {xs = xs} p h = record {
  per_subject = subjects_part s.config.max_msgs_per_subject p h.per_subject;
  messages = let a : length xs ≤ max_messages s = h.messages in let b : length ys ≤ length xs = part-length p in omega arith;
  bytes = bytes_part s.config.max_bytes p h.bytes;
}

newest_few : (n : ℕ) (ms : List Message) → ((subject : Bytes) → count_by (λ m. same m.subject subject) ms ≤ n) → newest n ms ≡ ms
newest_few n [] h = refl
newest_few n (m ∷ later) h =
    ap (λ (b : Bool). cond b (m ∷ newest n later) (newest n later)) (lt-ltb (count_by (λ x. same x.subject m.subject) later) n fewer)
    ∙ ap (λ (l : List Message). m ∷ l) (newest_few n later rest)
  where
    counted : (subject : Bytes) → count_by (λ x. same x.subject subject) (m ∷ later) ≡ cond (same m.subject subject) 1 0 + count_by (λ x. same x.subject subject) later
    counted subject = count_cons (λ x. same x.subject subject) m later

    fewer : count_by (λ x. same x.subject m.subject) later < n
    fewer =
        let a : count_by (λ x. same x.subject m.subject) (m ∷ later) ≤ n = h m.subject in
        let b : count_by (λ x. same x.subject m.subject) (m ∷ later) ≡ 1 + count_by (λ x. same x.subject m.subject) later = counted m.subject ∙ ap (λ (b : Bool). cond b 1 0 + count_by (λ x. same x.subject m.subject) later) (same_self m.subject) in
        omega arith

    rest : (subject : Bytes) → count_by (λ x. same x.subject subject) later ≤ n
    rest subject =
        let a : count_by (λ x. same x.subject subject) (m ∷ later) ≤ n = h subject in
        let b : count_by (λ x. same x.subject subject) (m ∷ later) ≡ cond (same m.subject subject) 1 0 + count_by (λ x. same x.subject subject) later = counted subject in
        omega arith

newest_within : (o : Option ℕ) (ms : List Message) → IfSome o (λ n. (subject : Bytes) → count_by (λ m. same m.subject subject) ms ≤ n) → newest_at o ms ≡ ms
newest_within None ms h = refl
newest_within (Some n) ms h = newest_few n ms h

fitting_within : (o : Option ℕ) (ms : List Message) → IfSome o (λ n. sum_by size ms ≤ n) → fitting_at o ms ≡ ms
fitting_within None ms h = refl
fitting_within (Some n) ms h = fitting_few n ms h

pub trim_same : (s : Stream) → AreWithin s s.messages → only s s.messages ≡ s → trim s ≡ s
unfolding trim
trim_same s h e =
    ap (λ (ms : List Message). trim_bytes (trim_count (only s ms))) (newest_within s.config.max_msgs_per_subject s.messages h.per_subject) ∙ ap (λ (t : Stream). trim_bytes (trim_count t)) e
    ∙ ap (λ (ms : List Message). trim_bytes (only s ms)) (last_of_few (max_messages s) s.messages h.messages) ∙ ap (λ (t : Stream). trim_bytes t) e
    ∙ ap (λ (ms : List Message). only s ms) (fitting_within s.config.max_bytes s.messages h.bytes) ∙ e

-- ---- what the retention keeps

has_filtered : (p : ℕ → Bool) (xs : List ℕ) (n : ℕ) → p n ≡ true → has (filter p xs) n ≡ has xs n
has_filtered p [] n e = refl
has_filtered p (x ∷ xs) n e = go (p x) refl (has_filtered p xs n e)
  where
    apart : (b : Bool) → (x == n) ≡ b → p x ≡ false → b ≡ false
    apart true r q = absurd (true≢false (sym e ∙ sym (ap p (eqb-true x n r)) ∙ q))
    apart false r q = refl

    go : (b : Bool) → p x ≡ b → has (filter p xs) n ≡ has xs n → has (cond b (x ∷ filter p xs) (filter p xs)) n ≡ ((x == n) || has xs n)
    go true q h = ap (λ (b : Bool). (x == n) || b) h
    go false q h = h ∙ sym (ap (λ (b : Bool). b || has xs n) (apart (x == n) refl q))

-- consumers that are changed, and need and take the message as before
module _ (f : Consumer → Consumer) (m : Message) (need : (c : Consumer) → needs (f c) m ≡ needs c m) (take : (c : Consumer) → takes (f c) m ≡ takes c m) where
  any_needs : (cs : List Consumer) → list_any (λ c. needs c m) (map f cs) ≡ list_any (λ c. needs c m) cs
  any_needs [] = refl
  any_needs (c ∷ cs) = ap (λ (b : Bool). b || list_any (λ c. needs c m) (map f cs)) (need c) ∙ ap (λ (b : Bool). needs c m || b) (any_needs cs)

  any_takes : (cs : List Consumer) → list_any (λ c. takes c m) (map f cs) ≡ list_any (λ c. takes c m) cs
  any_takes [] = refl
  any_takes (c ∷ cs) = ap (λ (b : Bool). b || list_any (λ c. takes c m) (map f cs)) (take c) ∙ ap (λ (b : Bool). takes c m || b) (any_takes cs)

  pub kept_same : (policy : Policy) (cs : List Consumer) → is_kept policy (map f cs) m ≡ is_kept policy cs m
  kept_same Limits cs = refl
  kept_same Interest cs = any_needs cs
  kept_same WorkQueue cs = ap (λ (b : Bool). b || not (list_any (λ c. takes c m) (map f cs))) (any_needs cs) ∙ ap (λ (b : Bool). list_any (λ c. needs c m) cs || not b) (any_takes cs)

-- a message that is stored is needed as before
confined_needs : (ns : List ℕ) (m : Message) → has ns m.seq ≡ true → (c : Consumer) → needs (confined ns c) m ≡ needs c m
confined_needs ns m e c = rw (confined_pending ns c, has_filtered (has ns) c.picks m.seq e, has_filtered (has ns) (pending_seqs c) m.seq e, has_filtered (has ns) c.given_up m.seq e) refl

pub kept_again : (s : Stream) → kept (kept s) ≡ kept s
unfolding kept
kept_again s = ap (λ (list : List Message). only (only s ms) list) stays ∙ only_again s ms
  where
    ms : List Message
    ms = filter (is_kept s.config.retention s.consumers) s.messages

    stays : filter (is_kept s.config.retention (map (confined (seqs ms)) s.consumers)) ms ≡ ms
    stays =
        filter_all _ ms
        (λ m i. kept_same (confined (seqs ms)) m (confined_needs (seqs ms) m (has_member m ms i)) (λ c. refl) s.config.retention s.consumers ∙ (in_filter (is_kept s.config.retention s.consumers) m s.messages i).1)

-- ---- both

-- a stream within its limits whose consumers have nothing but what is stored
pub settled_from : (s : Stream) → AreWithin s s.messages → only s s.messages ≡ s → kept s ≡ s → settled s ≡ s
settled_from s h e k = ap kept (trim_same s h e) ∙ k

own_kept : (s : Stream) → only (kept s) (kept s).messages ≡ kept s
unfolding kept
own_kept s = only_again s _

-- what the retention keeps, if it is within the limits
pub settled_kept : (s : Stream) → AreWithin (kept s) (kept s).messages → settled (kept s) ≡ kept s
settled_kept s h = settled_from (kept s) h (own_kept s) (kept_again s)

limits_kept : (s : Stream) → AreWithin (settled s) (settled s).messages
unfolding kept trim
limits_kept s = let w = settled_within s in record { per_subject = w.per_subject; messages = w.messages; bytes = w.bytes }

pub settled_again : (s : Stream) → settled (settled s) ≡ settled s
settled_again s = settled_kept (trim s) (limits_kept s)

-- ---- a stream that its limits and its retention keep whole

module _ (s : Stream) (h : settled s ≡ s) where
  pub within_of : AreWithin s s.messages
  within_of = subst (λ (t : Stream). AreWithin t t.messages) h (limits_kept s)

  pub own_of : only s s.messages ≡ s
  own_of = subst (λ (t : Stream). only t t.messages ≡ t) h (own_kept (trim s))

  pub kept_of : kept s ≡ s
  kept_of = sym (ap kept (trim_same s within_of own_of)) ∙ h
