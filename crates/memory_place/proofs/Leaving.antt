-- What leaves a stream where nothing is too much.
use Rattle.std.proofs.Common.{◌≡◌, ℕ, ◌≤◌, not, List, [], map, length, ap, ◌∙◌, arith}
use Rattle.std.specs.Prelude.{Option, None, filter}
use Rattle.js_base.specs.Bytes.{has}
use Rattle.js_model.specs.Lists.{IsPart}
use Rattle.js_model.specs.declared.stream.Message.{Message}
use Rattle.js_model.specs.declared.stream.Stream.{Stream}
use Rattle.js_model.specs.declared.stream.State.TheVariants.{Live}
use Rattle.js_model.specs.Events.{is_below, settled}
use Rattle.js_model.specs.Retention.{kept}
use Rattle.js_model.specs.Streams.{seqs}
use Rattle.js_model.specs.Trim.{trim, trim_subjects, trim_count}
use Rattle.js_model.proofs.Members.{in_filter}
use Rattle.js_model.proofs.Parts.{drop_part, newest_at_part, fitting_at_part, part-length}
use Rattle.effects.specs.Effects.{settle_effects}
use Rattle.effects.specs.TimeEffects.{remove_of, removals}
use Rattle.effects.proofs.Falling.{no_removals}
use Rattle.effects.proofs.Removing.{in_has}
use Rattle.removals.specs.Leaving.{leaving}
use Rattle.removals.proofs.Pushing.{ranges_none}

-- ---- nothing leaves

pub leaving_same : (below : Option ℕ) (messages : List Message) → leaving below messages messages ≡ []
leaving_same below messages = ranges_none (λ n. not (has (seqs messages) n)) (filter (is_below below) (seqs messages)) (λ n i. ap not (in_has n (seqs messages) (in_filter (is_below below) n (seqs messages) i).0))

-- ---- the limits drop nothing

module _ (s : Stream) (within : (trim s).messages ≡ s.messages) where
  subjects_part : IsPart (trim_subjects s).messages s.messages
  subjects_part = newest_at_part s.config.max_msgs_per_subject s.messages

  count_part : IsPart (trim_count (trim_subjects s)).messages (trim_subjects s).messages
  count_part = drop_part _ (trim_subjects s).messages

  bytes_part : IsPart (trim s).messages (trim_count (trim_subjects s)).messages
  unfolding trim
  bytes_part = fitting_at_part s.config.max_bytes (trim_count (trim_subjects s)).messages

  pub settle_within : settle_effects [] (Live s) ≡ map remove_of (leaving None s.messages (settled s).messages)
  settle_within =
      let x : length (trim s).messages ≤ length (trim_count (trim_subjects s)).messages = part-length bytes_part in
      let y : length (trim_count (trim_subjects s)).messages ≤ length (trim_subjects s).messages = part-length count_part in
      let z : length (trim_subjects s).messages ≤ length s.messages = part-length subjects_part in
      let e : length (trim s).messages ≡ length s.messages = ap (λ (messages : List Message). length messages) within in
      let first : removals [] s.messages (trim_subjects s).messages ≡ [] = no_removals s.messages (trim_subjects s).messages subjects_part (omega (arith, x, y, z, e)) in
      let second : removals [] (trim_subjects s).messages (trim_count (trim_subjects s)).messages ≡ [] = no_removals (trim_subjects s).messages (trim_count (trim_subjects s)).messages count_part (omega (arith, x, y, z, e)) in
      let third : removals [] (trim_count (trim_subjects s)).messages (trim s).messages ≡ [] = no_removals (trim_count (trim_subjects s)).messages (trim s).messages bytes_part (omega (arith, x, y, z, e)) in
      rw (first, second, third) (ap (λ (messages : List Message). removals [] messages (kept (trim s)).messages) within)

-- the limits hold
pub settle_trimmed : (s : Stream) → trim s ≡ s → settle_effects [] (Live s) ≡ map remove_of (leaving None s.messages (kept s).messages)
settle_trimmed s within =
    settle_within s (ap (λ (t : Stream). t.messages) within) ∙ ap (λ (t : Stream). map remove_of (leaving None s.messages (kept t).messages)) within
