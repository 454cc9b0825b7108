-- What a publish that is taken finds of its stream.
use Rattle.std.proofs.Common.{◌≡◌, ◌+◌, ◌^◌, ◌<◌, ◌≤◌, ◌==◌, ◌&&◌, Bool, true, false, cond, not, List, [], ◌∷◌, ◌++◌, Option, Some, None, length, refl, sym, ap, ◌∙◌, arith}
use Rattle.std.specs.Prelude.{nat_le, count_by}
use Rattle.std.proofs.lemmas.Bool.{eqb-false, leb-false, ltb-false}
use Rattle.std.proofs.lemmas.List.Sums.{sum_by_push}
use Rattle.js_base.specs.Bytes.{Bytes, is_empty, same}
use Rattle.js_base.specs.declared.out.ApiError.{ApiError}
use Rattle.js_model.specs.declared.stream.Id.{Id}
use Rattle.js_model.specs.declared.stream.Stream.{Stream}
use Rattle.js_model.specs.declared.event.Publish.{Publish}
use Rattle.js_model.specs.declared.reply.Verdict.TheVariants.{Take}
use Rattle.js_model.specs.Events.{with_message}
use Rattle.js_model.specs.Refusals.{Check, first_refusal}
use Rattle.js_model.specs.Streams.{over_limit}
use Rattle.js_model.specs.Trim.{max_messages, trim}
use Rattle.js_model.specs.Verdict.{known, early_checks, late_checks, first_of_all, verdict, message_of}
use Rattle.retention.specs.Over.{is_over_on, next_over, IsOverOnlyOn}
use Rattle.stored_stream.specs.Stored.{IsSound}
use Rattle.stored_stream.proofs.Limiting.{not_over, subjects_within}
use Rattle.stored_stream.proofs.Lists.{same_flip}
use Rattle.stored_stream.proofs.Sounding.{with_message_is}
use Rattle.std.proofs.lemmas.Bool.{or_parts}

all_none : (early : Option ApiError) (found : Option Id) (late : Option ApiError) → first_of_all early found late ≡ Take → (found ≡ None) × (late ≡ None)
all_none (Some e) found late h = absurd cc
all_none None (Some i) late h = absurd cc
all_none None None (Some e) h = absurd cc
all_none None None None h = (refl, refl)

-- no check fails
abbrev pub ArePassed : List Check → Type 0
ArePassed [] = Unit {0}
ArePassed (check ∷ checks) = (check.0 ≡ false) × ArePassed checks

pub all_passed : (checks : List Check) → first_refusal checks ≡ None → ArePassed checks
all_passed [] h = tt
all_passed (check ∷ checks) h = go check.0 h (all_passed checks)
  where
    go : (b : Bool) → cond b (Some check.1) (first_refusal checks) ≡ None → (first_refusal checks ≡ None → ArePassed checks) → (b ≡ false) × ArePassed checks
    go true k rest = absurd cc
    go false k rest = (refl, rest k)

pub record IsTaken (s : Stream) (p : Publish) : Type 0 where
  pub new_id : known s p.wants.id ≡ None
  pub window : is_empty p.wants.id ≡ false → length s.ids < 2 ^ 20
  pub numbers : (s.last + 1 == 2 ^ 62) ≡ false

pub taken : (s : Stream) (p : Publish) (room : Bool) → verdict s p room ≡ Take → IsTaken s p
unfolding verdict
taken s p room h =
    let none = all_none (first_refusal (early_checks s p)) (known s p.wants.id) (first_refusal (late_checks s p room)) h in
    let room_left = (all_passed (late_checks s p room) none.1).1.1.1.1.1 in
    record {
      new_id = none.0;
      window = λ e. leb-false (2 ^ 20) (length s.ids) (sym (ap (λ b. not b && nat_le (2 ^ 20) (length s.ids)) e) ∙ room_left.0);
      numbers = room_left.1.0;
    }

pub next_number : (s : Stream) (p : Publish) → IsSound s → IsTaken s p → s.last + 1 < 2 ^ 62
next_number s p sound h =
    let l : s.last < 2 ^ 62 = sound.last in
    let n : s.last + 1 ≡ 2 ^ 62 → ⊥ = eqb-false (s.last + 1) (2 ^ 62) h.numbers in
    omega arith

-- a stream within its limits has room for one message more
pub has_room : (s : Stream) → next_over s ≡ None → length s.messages + 1 < 2 ^ 32
has_room s h =
    let most : length s.messages ≤ max_messages s = ltb-false (max_messages s) (length s.messages) (or_parts _ _ (not_over s h)).0 in
    omega arith

-- a publish passes the limit of its own subject alone
pub over_own : (s : Stream) (p : Publish) → next_over s ≡ None → IsOverOnlyOn (with_message s p) p.subject
over_own s p h = record { others = λ t e. ap (λ (x : Stream). is_over_on x t) (with_message_is s p) ∙ ap (λ n. over_limit n s.config.max_msgs_per_subject) (same_count t e) ∙ subjects_within s h t }
  where
    same_count : (t : Bytes) → same t p.subject ≡ false → count_by (λ m. same m.subject t) (s.messages ++ message_of s p ∷ []) ≡ count_by (λ m. same m.subject t) s.messages
    same_count t e =
        let pushed : count_by (λ m. same m.subject t) (s.messages ++ message_of s p ∷ []) ≡ count_by (λ m. same m.subject t) s.messages + 0
        = sum_by_push (λ m. cond (same m.subject t) 1 0) s.messages (message_of s p) ∙ ap (λ b. count_by (λ m. same m.subject t) s.messages + cond b 1 0) (same_flip p.subject t ∙ e)
        in omega arith

-- the last sequence is that of the publish
pub trimmed_last : (s : Stream) (p : Publish) → (trim (with_message s p)).last ≡ s.last + 1
unfolding trim
trimmed_last s p = ap (λ (x : Stream). x.last) (with_message_is s p)
