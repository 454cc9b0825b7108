-- The changes by passing time, and what limits and retention drop, may be recorded.
use Rattle.std.proofs.Common.{◌≡◌, ℕ, ◌+◌, ◌<◌, ◌^◌, Bool, true, false, not, cond, List, [], ◌∷◌, ◌++◌, map, max, refl, arith}
use Rattle.std.specs.Prelude.{◌&&◌, ◌==◌, All}
use Rattle.std.specs.List.{list_any}
use Rattle.std.proofs.lemmas.Bool.{and_from}
use Rattle.std.proofs.lemmas.List.Elements.{All-map, All-weaker}
use Rattle.js_model.specs.declared.stream.Message.{Message}
use Rattle.js_model.specs.declared.stream.Stream.{Stream}
use Rattle.js_model.specs.declared.stream.State.TheVariants.{Live}
use Rattle.js_model.specs.Lists.{IsPart, Between}
use Rattle.js_model.specs.Configs.{is_name}
use Rattle.js_model.specs.Streams.{seqs, confined}
use Rattle.js_model.specs.Advance.{aged, young, is_spent}
use Rattle.js_model.specs.Trim.{trim, trim_subjects, trim_count}
use Rattle.js_model.specs.Retention.{kept}
use Rattle.js_model.proofs.Members.{all_in}
use Rattle.js_model.proofs.Parts.{part_between, part_trans, newest_at_part, drop_part, trim_part}
use Rattle.model_laws.proofs.Whole.{IsSoundConsumer, IsSoundStream}
use Rattle.effects.specs.declared.effect.Effect.{Effect}
use Rattle.effects.specs.declared.effect.Effect.TheVariants.{GivenUp, Now}
use Rattle.effects.specs.TimeEffects.{removals, has_spent_ids, now_effects, given_up_effects, effects_at, time_effects}
use Rattle.effects.specs.Effects.{settle_effects}
use Rattle.record_laws.proofs.Allowing.{Allowed, together, just, only_if, for_each, number, consumer_name}
use Rattle.record_laws.proofs.Removing.{allowed_removals}

-- a sound stream whose last sequence and moment are numbers
pub record IsNumbered (s : Stream) : Type 0 where
  pub sound : IsSoundStream s
  pub last : s.last < 2 ^ 62
  pub moment : s.moment < 2 ^ 62

-- ---- passing time

-- its consumers' names, whatever they lost
names_confined : (s : Stream) (ns : List ℕ) → IsSoundStream s → All (λ c. is_name c.name ≡ true) (map (confined ns) s.consumers)
names_confined s ns h =
    All-map (λ c. is_name c.name ≡ true) (confined ns) s.consumers
    (All-weaker (IsSoundConsumer s.messages s.last) (λ c. is_name (confined ns c).name ≡ true) (λ c k. consumer_name s.messages s.last c k) s.consumers h.consumers)

allowed_now : (s : Stream) (moment : ℕ) → moment < 2 ^ 62 → Allowed (now_effects s moment)
allowed_now s moment l = go ((s.moment == moment) && not (has_spent_ids s moment))
  where
    go : (b : Bool) → Allowed (cond b [] (Now moment ∷ []))
    go true = refl
    go false = just (Now moment) (number moment l)

allowed_at : (s : Stream) (moment : ℕ) → moment < 2 ^ 62 → IsNumbered s → Allowed (effects_at s moment)
allowed_at s moment l h =
    together (now_effects s moment) _ (allowed_now s moment l)
    (together (removals [] s.messages (young s moment)) _ (allowed_removals (s.last + 1) [] s.messages (young s moment) h.sound.messages (let q : s.last < 2 ^ 62 = h.last in omega arith))
    (for_each (given_up_effects moment) (aged s moment).consumers
    (λ c i. only_if (list_any (is_spent moment c) c.pending) (GivenUp c.name moment) (λ e. and_from (is_name c.name) _ (all_in (λ c. is_name c.name ≡ true) (aged s moment).consumers (names_confined s (seqs (young s moment)) h.sound) i) (number moment l)))))

pub allowed_time : (s : Stream) (now : ℕ) → now < 2 ^ 62 → IsNumbered s → Allowed (time_effects s now)
allowed_time s now l h = allowed_at s (max s.moment now) (let q : s.moment < 2 ^ 62 = h.moment in omega arith) h

-- ---- what limits and retention drop

pub allowed_drops : (missing : List ℕ) (s : Stream) → IsSoundStream s → s.last < 2 ^ 62 → Allowed (settle_effects missing (Live s))
allowed_drops missing s h l =
    together subjects_go (count_goes ++ (bytes_go ++ retention_drops)) (gone s.messages one.messages h.messages)
    (together count_goes (bytes_go ++ retention_drops) (gone one.messages two.messages (between by_subject))
    (together bytes_go retention_drops (gone two.messages (trim s).messages (between (part_trans (drop_part _ one.messages) by_subject)))
    (gone (trim s).messages (kept (trim s)).messages (between (trim_part s)))))
  where
    one : Stream
    one = trim_subjects s

    two : Stream
    two = trim_count one

    subjects_go : List Effect
    subjects_go = removals missing s.messages one.messages

    count_goes : List Effect
    count_goes = removals missing one.messages two.messages

    bytes_go : List Effect
    bytes_go = removals missing two.messages (trim s).messages

    retention_drops : List Effect
    retention_drops = removals missing (trim s).messages (kept (trim s)).messages

    gone : (before after : List Message) → Between (λ m. m.seq) 1 (s.last + 1) before → Allowed (removals missing before after)
    gone before after k = allowed_removals (s.last + 1) missing before after k (omega arith)

    by_subject : IsPart one.messages s.messages
    by_subject = newest_at_part s.config.max_msgs_per_subject s.messages

    between : {ms : List Message} → IsPart ms s.messages → Between (λ m. m.seq) 1 (s.last + 1) ms
    between p = part_between (λ m. m.seq) 1 (s.last + 1) p h.messages
