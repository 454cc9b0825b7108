-- The laws of what goes next: without it the limits keep the same, and if nothing goes, all.
use Rattle.std.proofs.Common.{◌≡◌, ℕ, suc, zero, ◌+◌, ◌≤◌, Bool, true, false, ◌||◌, cond, List, [], ◌∷◌, ◌++◌, Option, Some, None, length, refl, sym, ap, ◌∙◌, subst, arith}
use Rattle.std.specs.Prelude.{◌==◌, not, filter, find, option_map}
use Rattle.std.specs.Option.{option_or}
use Rattle.std.proofs.lemmas.Bool.{true≢false, le-ltb}
use Rattle.js_base.specs.Bytes.{has}
use Rattle.js_model.specs.declared.stream.Message.{Message}
use Rattle.js_model.specs.declared.stream.Stream.{Stream}
use Rattle.js_model.specs.Counts.{first_message}
use Rattle.js_model.specs.Events.{message_at, without_messages}
use Rattle.js_model.specs.Lists.{Between}
use Rattle.js_model.specs.Streams.{only, seqs, over_limit}
use Rattle.js_model.specs.Trim.{max_messages, trim}
use Rattle.js_model.proofs.Parts.{part_between}
use Rattle.retention.specs.Laws.{IsCoherent, LawTrimmed, LawWithin, LawWithout}
use Rattle.retention.specs.Over.{is_over, next_over, over_subject}
use Rattle.retention.proofs.Confining.{holds_confined, only_own, only_within}
use Rattle.retention.proofs.Dropping.{is_large, limits_keep, limits_keep_few, limits_keep-rest, limits_keep-without, limits_keep_part, trim_only}
use Rattle.retention.proofs.Keeping.{is_crowded}
use Rattle.retention.proofs.Splitting.{found_by_seq, split_at_found, without_it}

-- what the limits keep of these messages
abbrev kept_of : Stream → List Message → List Message
kept_of s ms = limits_keep s.config.max_msgs_per_subject (max_messages s) s.config.max_bytes ms

-- ---- what goes next

-- a message of this sequence, without which the limits keep the same
record Goes (s : Stream) (n : ℕ) (front : List Message) (m : Message) (back : List Message) : Type 0 where
  whole : s.messages ≡ front ++ m ∷ back
  seq : m.seq ≡ n
  same : kept_of s (front ++ back) ≡ kept_of s s.messages

abbrev NextIs : Stream → Option ℕ → Type 0
NextIs s None = (over_subject s ≡ None) × (is_over s ≡ false)
NextIs s (Some n) = (front : List Message) × (m : Message) × (back : List Message) × Goes s n front m back

none_large : (s : Stream) → is_large s.config.max_msgs_per_subject (max_messages s) s.config.max_bytes [] ≡ false
none_large s = ap (λ b. b || over_limit 0 s.config.max_bytes) (le-ltb (max_messages s) 0 (omega arith)) ∙ no_bytes s.config.max_bytes
  where
    no_bytes : (limit : Option ℕ) → over_limit 0 limit ≡ false
    no_bytes None = refl
    no_bytes (Some n) = le-ltb n 0 (omega arith)

next_of_large : (s : Stream) (ms : List Message) → s.messages ≡ ms → over_subject s ≡ None → is_over s ≡ true → NextIs s (option_map (λ m. m.seq) (first_message ms))
next_of_large s [] e f large =
    absurd (true≢false (sym large ∙ ap (is_large s.config.max_msgs_per_subject (max_messages s) s.config.max_bytes) e ∙ none_large s))
next_of_large s (m ∷ back) e f large = (
  [],
  m,
  back,
  record {
    whole = e;
    seq = refl;
    same = limits_keep-rest s.config.max_msgs_per_subject (max_messages s) s.config.max_bytes m back
        (subst (λ ms. find (is_crowded s.config.max_msgs_per_subject ms) ms ≡ None) e f)
        (subst (λ ms. is_large s.config.max_msgs_per_subject (max_messages s) s.config.max_bytes ms ≡ true) e large)
        ∙ ap (kept_of s) (sym e);
  },
)

next_is : (s : Stream) → NextIs s (next_over s)
next_is s = go (over_subject s) refl (is_over s) refl
  where
    go : (o : Option Message) → over_subject s ≡ o → (b : Bool) → is_over s ≡ b → NextIs s (option_map (λ m. m.seq) (option_or o (cond b (first_message s.messages) None)))
    go (Some m) e b f =
        let w = split_at_found (is_crowded s.config.max_msgs_per_subject s.messages) m s.messages e in (
          w.0,
          m,
          w.1,
          record {
            whole = w.2.whole;
            seq = refl;
            same = limits_keep-without s.config.max_msgs_per_subject (max_messages s) s.config.max_bytes s.messages w.0 w.1 m w.2;
          },
        )
    go None e true f = next_of_large s s.messages refl e f
    go None e false f = (e, f)

-- ---- the laws

pub law_within : LawWithin
law_within s coherent e =
    let none = subst (NextIs s) e (next_is s) in
    trim_only s ∙ ap (only s) (limits_keep_few s.config.max_msgs_per_subject (max_messages s) s.config.max_bytes s.messages none.0 none.1) ∙ only_own s coherent.held

module _ (s : Stream) (n : ℕ) (front : List Message) (m : Message) (back : List Message) (goes : Goes s n front m back) where
  trim_same : trim (only s (front ++ back)) ≡ trim s
  trim_same =
      trim_only (only s (front ++ back)) ∙ only_within (limits_keep_part s.config.max_msgs_per_subject (max_messages s) s.config.max_bytes (front ++ back)) s
      ∙ ap (only s) goes.same ∙ sym (trim_only s)

  module _ (coherent : IsCoherent s) where
    ascending : Between (λ m. m.seq) 1 (s.last + 1) (front ++ m ∷ back)
    ascending = subst (λ ms. Between (λ m. m.seq) 1 (s.last + 1) ms) goes.whole coherent.ascends

    there_is : message_at s n ≡ Some m
    there_is = ap (find (λ x. x.seq == n)) goes.whole ∙ subst (λ k. find (λ x. x.seq == k) (front ++ m ∷ back) ≡ Some m) goes.seq (found_by_seq 1 (s.last + 1) front back m ascending)

    left : without_messages s (m ∷ []) ≡ only s (front ++ back)
    left = ap (only s) (ap (filter (λ x. not (has (seqs (m ∷ [])) x.seq))) goes.whole ∙ without_it 1 (s.last + 1) front back m ascending)

pub law_without : LawWithout
law_without s n coherent e =
    let w = subst (NextIs s) e (next_is s) in
    (w.1, there_is s n w.0 w.1 w.2 w.3 coherent, ap trim (left s n w.0 w.1 w.2 w.3 coherent) ∙ trim_same s n w.0 w.1 w.2 w.3)

longer : (front back : List Message) (m : Message) → length (front ++ m ∷ back) ≡ suc (length (front ++ back))
longer [] back m = refl
longer (x ∷ front) back m = ap suc (longer front back m)

one_more : (s : Stream) (n : ℕ) (front : List Message) (m : Message) (back : List Message) → Goes s n front m back → length s.messages ≡ suc (length (front ++ back))
one_more s n front m back goes = ap length goes.whole ∙ longer front back m

-- what the limits keep is all of it, so nothing of it goes
none_kept : (s : Stream) → next_over s ≡ None → next_over (trim s) ≡ None
none_kept s e =
    let none = subst (NextIs s) e (next_is s) in
    ap next_over (trim_only s) ∙ ap (λ ms. next_over (only s ms)) (limits_keep_few s.config.max_msgs_per_subject (max_messages s) s.config.max_bytes s.messages none.0 none.1) ∙ e

-- of what the limits keep nothing goes next
nothing_next : (count : ℕ) (s : Stream) → length s.messages ≤ count → next_over (trim s) ≡ None
nothing_next zero s few = go (next_over s) refl
  where
    go : (o : Option ℕ) → next_over s ≡ o → next_over (trim s) ≡ None
    go None e = none_kept s e
    go (Some n) e =
        let w = subst (NextIs s) e (next_is s) in
        let more : length s.messages ≡ suc (length (w.0 ++ w.2)) = one_more s n w.0 w.1 w.2 w.3 in
        absurd (omega arith)
nothing_next (suc count) s few = go (λ t f. nothing_next count t f) (next_over s) refl
  where
    go : ((t : Stream) → length t.messages ≤ count → next_over (trim t) ≡ None) → (o : Option ℕ) → next_over s ≡ o → next_over (trim s) ≡ None
    go more None e = none_kept s e
    go more (Some n) e =
        let w = subst (NextIs s) e (next_is s) in
        let longer : length s.messages ≡ suc (length (w.0 ++ w.2)) = one_more s n w.0 w.1 w.2 w.3 in
        ap next_over (sym (trim_same s n w.0 w.1 w.2 w.3)) ∙ more (only s (w.0 ++ w.2)) (omega arith)

-- what holds of a stream with what the limits keep holds of the stream as they keep it
pub trimmed_coherent : (s : Stream) → IsCoherent s → IsCoherent (trim s)
trimmed_coherent s coherent =
    subst IsCoherent (sym (trim_only s))
    (record {
      ascends = part_between (λ m. m.seq) 1 (s.last + 1) (limits_keep_part s.config.max_msgs_per_subject (max_messages s) s.config.max_bytes s.messages) coherent.ascends;
      held = holds_confined s (kept_of s s.messages);
    })

pub law_trimmed : LawTrimmed
law_trimmed s coherent = (none, law_within (trim s) (trimmed_coherent s coherent) none)
  where
    none : next_over (trim s) ≡ None
    none = nothing_next (length s.messages) s (omega arith)
