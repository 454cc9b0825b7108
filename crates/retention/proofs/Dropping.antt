-- What the limits keep of the messages of a stream.
use Rattle.std.proofs.Common.{◌≡◌, ℕ, ◌≤◌, Bool, true, false, ◌||◌, List, ◌∷◌, ◌++◌, Option, None, length, refl, sym, ap, ◌∙◌, subst, arith}
use Rattle.std.specs.Prelude.{nat_lt, find, sum_by}
use Rattle.std.specs.List.{AllByRecursion}
use Rattle.std.proofs.lemmas.Bool.{ltb-false, or_parts}
use borrow.Author.Tests.{ltb-true}
use Rattle.js_base.specs.Bytes.{last_of}
use Rattle.js_model.specs.declared.stream.Message.{Message}
use Rattle.js_model.specs.declared.stream.Stream.{Stream}
use Rattle.js_model.specs.Lists.{IsPart}
use Rattle.js_model.specs.Streams.{only, size, over_limit}
use Rattle.js_model.specs.Trim.{newest_at, fitting_at, max_messages, trim}
use Rattle.js_model.proofs.Parts.{drop_part, fitting_at_part, newest_at_part, part_trans}
use Rattle.retention.proofs.Confining.{only_within}
use Rattle.retention.proofs.Keeping.{is_crowded, newest_at_few, newest_at_rest, newest_at-without, last_of_few, last_of-without, fitting_at_few, fitting_at-without}
use Rattle.retention.proofs.Splitting.{IsSplit}

-- ---- a list

module _ (per_subject : Option ℕ) (most : ℕ) (bytes : Option ℕ) where
  -- what all limits keep of it
  abbrev pub limits_keep : List Message → List Message
  limits_keep ms = fitting_at bytes (last_of most (newest_at per_subject ms))

  -- too many messages, or too many bytes
  abbrev pub is_large : List Message → Bool
  is_large ms = nat_lt most (length ms) || over_limit (sum_by size ms) bytes

  pub limits_keep_few : (ms : List Message) → find (is_crowded per_subject ms) ms ≡ None → is_large ms ≡ false → limits_keep ms ≡ ms
  limits_keep_few ms e f =
      let few = or_parts (nat_lt most (length ms)) (over_limit (sum_by size ms) bytes) f in
      ap (λ l. fitting_at bytes (last_of most l)) (newest_at_few per_subject ms e)
      ∙ ap (fitting_at bytes) (last_of_few most ms (ltb-false most (length ms) few.0))
      ∙ fitting_at_few bytes ms few.1

  -- without the first message of a subject that has too many
  pub limits_keep-without : (ms front back : List Message) (m : Message) → IsSplit (is_crowded per_subject ms) ms front m back → limits_keep (front ++ back) ≡ limits_keep ms
  limits_keep-without ms front back m h =
      ap (λ l. fitting_at bytes (last_of most l))
      (newest_at-without per_subject front back m
      (subst (λ all. AllByRecursion (λ y. is_crowded per_subject all y ≡ false) front) h.whole h.before)
      (subst (λ all. is_crowded per_subject all m ≡ true) h.whole h.passes))
      ∙ ap limits_keep (sym h.whole)

  -- without the first message of a list that is too large
  pub limits_keep-rest : (m : Message) (back : List Message) → find (is_crowded per_subject (m ∷ back)) (m ∷ back) ≡ None → is_large (m ∷ back) ≡ true → limits_keep back ≡ limits_keep (m ∷ back)
  limits_keep-rest m back e large =
      ap (λ l. fitting_at bytes (last_of most l)) (newest_at_rest per_subject m back e)
      ∙ go (nat_lt most (length (m ∷ back))) refl large
      ∙ sym (ap (λ l. fitting_at bytes (last_of most l)) (newest_at_few per_subject (m ∷ back) e))
    where
      go : (b : Bool) → nat_lt most (length (m ∷ back)) ≡ b → (b || over_limit (sum_by size (m ∷ back)) bytes) ≡ true → fitting_at bytes (last_of most back) ≡ fitting_at bytes (last_of most (m ∷ back))
      go true l f = ap (fitting_at bytes) (last_of-without most m back (ltb-true most (length (m ∷ back)) l))
      go false l f =
          let few : length (m ∷ back) ≤ most = ltb-false most (length (m ∷ back)) l in
          ap (fitting_at bytes) (last_of_few most back (omega arith))
          ∙ fitting_at-without bytes m back f
          ∙ sym (ap (fitting_at bytes) (last_of_few most (m ∷ back) few))

  -- it is some of them
  pub limits_keep_part : (ms : List Message) → IsPart (limits_keep ms) ms
  limits_keep_part ms = part_trans (fitting_at_part bytes (last_of most (newest_at per_subject ms))) (part_trans (drop_part _ (newest_at per_subject ms)) (newest_at_part per_subject ms))

-- ---- a stream

pub trim_only : (s : Stream) → trim s ≡ only s (limits_keep s.config.max_msgs_per_subject (max_messages s) s.config.max_bytes s.messages)
unfolding trim
trim_only s = ap (λ (t : Stream). only t third) (only_within (drop_part _ first) s) ∙ only_within (fitting_at_part s.config.max_bytes second) s
  where
    first : List Message
    first = newest_at s.config.max_msgs_per_subject s.messages

    second : List Message
    second = last_of (max_messages s) first

    third : List Message
    third = fitting_at s.config.max_bytes second
