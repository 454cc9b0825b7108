-- The records of what leaves a stream's messages, and of what passing time changes, by a rule of this server's own.
use Rattle.std.specs.Prelude.{ℕ, max, nat_lt, Bool, ◌&&◌, not, ◌==◌, if◌then◌else◌, List, [], ◌∷◌, ◌++◌, map, filter}
use Rattle.std.specs.List.{list_any, flat_map}
use Rattle.js_base.specs.Bytes.{has}
use Rattle.js_base.specs.Moments.{plus}
use Rattle.js_model.specs.declared.stream.Message.{Message}
use Rattle.js_model.specs.declared.stream.Stream.{Stream}
use Rattle.js_model.specs.declared.consumer.Consumer.{Consumer}
use Rattle.js_model.specs.Streams.{seqs}
use Rattle.js_model.specs.Advance.{young, aged, is_spent}
use Rattle.effects.specs.Ranges.{Range, ranges}
use Rattle.effects.specs.declared.effect.Effect.{Effect}
use Rattle.effects.specs.declared.effect.Effect.TheVariants.{Remove, GivenUp, Now}

abbrev pub remove_of : Range → Effect
remove_of r = Remove r.low r.high

-- the fewest ranges of the messages that leave, but for those that the volume never held
abbrev pub removals : List ℕ → List Message → List Message → List Effect
removals skipped before after = map remove_of (ranges (λ n. not (has (seqs after) n)) (filter (λ n. not (has skipped n)) (seqs before)))

-- an id has left the window
abbrev pub has_spent_ids : Stream → ℕ → Bool
has_spent_ids s moment = list_any (λ i. not (nat_lt moment (plus i.at s.config.duplicate_window))) s.ids

-- the moment, if it or the ids change
abbrev pub now_effects : Stream → ℕ → List Effect
now_effects s moment = if (s.moment == moment) && not (has_spent_ids s moment) then [] else Now moment ∷ []

-- what is given up, if something is
abbrev pub given_up_effects : ℕ → Consumer → List Effect
given_up_effects moment c = if list_any (is_spent moment c) c.pending then GivenUp c.name moment ∷ [] else []

-- at a moment that is none of the past
abbrev pub effects_at : Stream → ℕ → List Effect
effects_at s moment = now_effects s moment ++ (removals [] s.messages (young s moment) ++ flat_map (given_up_effects moment) (aged s moment).consumers)

-- the moment, what is too old, and what each consumer gives up
abbrev pub time_effects : Stream → ℕ → List Effect
time_effects s now = effects_at s (max s.moment now)
