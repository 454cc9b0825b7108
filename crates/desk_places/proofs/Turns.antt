-- The turn that a caller is in, by its phase, and after a hold.
use Rattle.std.proofs.Common.{◌≡◌, Bool, true, false, ◌&&◌, if◌then◌else◌, refl}
use Rattle.js_model.specs.declared.event.What.{What}
use Rattle.js_model.specs.declared.event.What.TheVariants as whats
use Rattle.js_model.specs.declared.desk.PlaceAt.{PlaceAt}
use Rattle.js_api.specs.declared.outcome.Became.{Became}
use Rattle.desk_answers.specs.Became.{is_dropped}
use Rattle.desk_ground.specs.Grounds as phases
use Rattle.desk_ground.specs.Outcomes.{MayHold, phase_after}
use Rattle.desk_places.specs.declared.turn.Turn.{Turn}
use Rattle.desk_places.specs.declared.turn.Turn.TheVariants as turns
use Rattle.desk_places.specs.Dropping.{is_drop}
use Rattle.desk_places.specs.Turns.{after_hold, phase_of}

pub outside_is : (turn : Turn) → phase_of turn ≡ phases.Outside → turn ≡ turns.Outside
outside_is turns.Outside e = refl
outside_is turns.Within e = absurd (cc)
outside_is (turns.Between place) e = absurd (cc)
outside_is (turns.Owing place) e = absurd (cc)

pub within_is : (turn : Turn) → phase_of turn ≡ phases.Within → turn ≡ turns.Within
within_is turns.Within e = refl
within_is turns.Outside e = absurd (cc)
within_is (turns.Between place) e = absurd (cc)
within_is (turns.Owing place) e = absurd (cc)

-- a stream is dropped within one
pub drops_within : (what : What) (turn : Turn) → is_drop what ≡ true → MayHold what (phase_of turn) → turn ≡ turns.Within
drops_within (whats.Drop reply) turn d may = within_is turn may
drops_within (whats.Make reply config) turn d may = absurd (cc)
drops_within (whats.Change reply config) turn d may = absurd (cc)
drops_within (whats.Publish publish) turn d may = absurd (cc)
drops_within (whats.Purge reply filter below keep) turn d may = absurd (cc)
drops_within (whats.Delete reply seq) turn d may = absurd (cc)
drops_within (whats.MakeConsumer reply name config update) turn d may = absurd (cc)
drops_within (whats.DropConsumer reply name) turn d may = absurd (cc)
drops_within (whats.Ack reply ack) turn d may = absurd (cc)
drops_within (whats.Pull reply consumer ask) turn d may = absurd (cc)
drops_within whats.Tick turn d may = absurd (cc)
drops_within (whats.StreamInfo reply) turn d may = absurd (cc)
drops_within (whats.MessageGet reply by) turn d may = absurd (cc)
drops_within (whats.ConsumerInfo reply name) turn d may = absurd (cc)
drops_within (whats.ConsumerNames reply offset) turn d may = absurd (cc)
drops_within (whats.ConsumerList reply offset) turn d may = absurd (cc)

pub phase_held : (what : What) (at : PlaceAt) (told : Became) (turn : Turn) → phase_of (after_hold turn (is_drop what && is_dropped told) at.place) ≡ phase_after what at told (phase_of turn)
phase_held (whats.Drop reply) at told turn = by (is_dropped told)
  where
    by : (b : Bool) → phase_of (after_hold turn b at.place) ≡ (if b then phases.Owing at.place else phase_of turn)
    by true = refl
    by false = refl
phase_held (whats.Make reply config) at told turn = refl
phase_held (whats.Change reply config) at told turn = refl
phase_held (whats.Publish publish) at told turn = refl
phase_held (whats.Purge reply filter below keep) at told turn = refl
phase_held (whats.Delete reply seq) at told turn = refl
phase_held (whats.MakeConsumer reply name config update) at told turn = refl
phase_held (whats.DropConsumer reply name) at told turn = refl
phase_held (whats.Ack reply ack) at told turn = refl
phase_held (whats.Pull reply consumer ask) at told turn = refl
phase_held whats.Tick at told turn = refl
phase_held (whats.StreamInfo reply) at told turn = refl
phase_held (whats.MessageGet reply by) at told turn = refl
phase_held (whats.ConsumerInfo reply name) at told turn = refl
phase_held (whats.ConsumerNames reply offset) at told turn = refl
phase_held (whats.ConsumerList reply offset) at told turn = refl
