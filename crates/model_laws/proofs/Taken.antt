-- After a publish that was taken under discard new, only the limit of each subject drops messages.
use Rattle.std.proofs.Common.{◌≡◌, ℕ, ◌+◌, ◌-◌, ◌≤◌, Bool, true, false, ◌&&◌, cond, List, [], ◌∷◌, ◌++◌, map, length, drop, refl, sym, ap, ◌∙◌, arith}
use Rattle.std.specs.Prelude.{Option, Some, None, filter, nat_lt, sum_by}
use Rattle.std.proofs.lemmas.Bool.{true≢false, ltb-false, le-leb}
use Rattle.js_base.specs.Bytes.{Bytes, has, last_of}
use Rattle.js_model.specs.declared.stream.Message.{Message}
use Rattle.js_model.specs.declared.stream.Stream.{Stream}
use Rattle.js_model.specs.declared.consumer.Pending.{Pending}
use Rattle.js_model.specs.declared.consumer.Consumer.{Consumer}
use Rattle.js_model.specs.Streams.{only, seqs, confined, size, over_limit}
use Rattle.js_model.specs.Trim.{fitting, fitting_at, max_messages, trim_subjects, trim_count, trim_bytes, trim}
use Rattle.js_model.specs.Verdict.{message_of, held_after, discards_new, late_checks}
use Rattle.js_model.specs.Events.{with_id}
use Rattle.model_laws.specs.Laws.{LawTaken}
use Rattle.model_laws.proofs.Bounded.{ArePassed, all_passed, taken_passed}

-- ---- the same messages again

pub filter_again : {X : Type 0} (t : X → Bool) (xs : List X) → filter t (filter t xs) ≡ filter t xs
filter_again t [] = refl
filter_again t (x ∷ xs) = go (t x) refl (filter_again t xs)
  where
    go : (b : Bool) → t x ≡ b → filter t (filter t xs) ≡ filter t xs → filter t (cond b (x ∷ filter t xs) (filter t xs)) ≡ cond b (x ∷ filter t xs) (filter t xs)
    go true e h = ap (λ (b : Bool). cond b (x ∷ filter t (filter t xs)) (filter t (filter t xs))) e ∙ ap (λ l. x ∷ l) h
    go false e h = h

confined_again : (keep : List ℕ) (c : Consumer) → confined keep (confined keep c) ≡ confined keep c
confined_again keep c = rw (filter_again (has keep) c.picks, filter_again (λ (p : Pending). has keep p.seq) c.pending, filter_again (has keep) c.given_up) refl

all_again : (keep : List ℕ) (cs : List Consumer) → map (confined keep) (map (confined keep) cs) ≡ map (confined keep) cs
all_again keep [] = refl
all_again keep (c ∷ cs) = rw (confined_again keep c, all_again keep cs) refl

pub only_again : (s : Stream) (messages : List Message) → only (only s messages) messages ≡ only s messages
only_again s messages = ap (λ (cs : List Consumer). record (only s messages) { consumers = cs }) (all_again (seqs messages) s.consumers)

-- ---- limits that are kept

pub last_of_few : {X : Type 0} (n : ℕ) (xs : List X) → length xs ≤ n → last_of n xs ≡ xs
last_of_few n xs l = ap (λ (k : ℕ). drop k xs) (let q : length xs - n ≡ 0 = omega arith in q)

pub fitting_few : (n : ℕ) (ms : List Message) → sum_by size ms ≤ n → fitting n ms ≡ ms
fitting_few n [] l = refl
fitting_few n (m ∷ ms) l = ap (λ (b : Bool). cond b (m ∷ ms) (fitting n ms)) (le-leb (sum_by size (m ∷ ms)) n l)

pub fitting_at_few : (o : Option ℕ) (ms : List Message) → over_limit (sum_by size ms) o ≡ false → fitting_at o ms ≡ ms
fitting_at_few None ms e = refl
fitting_at_few (Some n) ms e = fitting_few n ms (ltb-false n (sum_by size ms) e)

-- a stream whose messages keep two of its limits
two_limits : (s : Stream) (messages : List Message) → length messages ≤ max_messages s → over_limit (sum_by size messages) s.config.max_bytes ≡ false → trim_bytes (trim_count (only s messages)) ≡ only s messages
two_limits s messages l e =
    ap (λ (ms : List Message). trim_bytes (only (only s messages) ms)) (last_of_few (max_messages s) messages l) ∙ ap trim_bytes (only_again s messages)
    ∙ ap (λ (ms : List Message). only (only s messages) ms) (fitting_at_few s.config.max_bytes messages e) ∙ only_again s messages

-- ---- the publish

if_both : (a b : Bool) → (a && b) ≡ false → a ≡ true → b ≡ false
if_both true b e h = e
if_both false b e h = absurd (true≢false (sym h))

pub law_taken : LawTaken
unfolding trim
law_taken s p room e new = go p.wants.id
  where
    late : ArePassed (late_checks s p room)
    late = all_passed (late_checks s p room) (taken_passed s p room e).1

    few : length (held_after s p) ≤ max_messages s
    few = ltb-false (max_messages s) (length (held_after s p)) (if_both (discards_new s) (nat_lt (max_messages s) (length (held_after s p))) late.1.1.1.0 new)

    small : over_limit (sum_by size (held_after s p)) s.config.max_bytes ≡ false
    small = if_both (discards_new s) (over_limit (sum_by size (held_after s p)) s.config.max_bytes) late.1.1.1.1.0 new

    stored : Stream
    stored = record s { messages = s.messages ++ message_of s p ∷ []; last = s.last + 1 }

    go : (id : Bytes) → trim_bytes (trim_count (trim_subjects (with_id stored id))) ≡ trim_subjects (with_id stored id)
    go [] = two_limits stored (held_after s p) few small
    go (byte ∷ more) = two_limits (with_id stored (byte ∷ more)) (held_after s p) few small
