use Rattle.std.proofs.Common.{◌≡◌, List, length, map, Some, ap, ◌∙◌}
use Rattle.std.specs.Prelude.{slice_get, slice_set}
use Rattle.js_model.specs.PlaceStates.{PlaceIn}
use Rattle.desk_hold.specs.OnePlace.{on}
use Rattle.desk_places.specs.Places.{places_by}
use Rattle.js_desk.proofs.HeldGround.{facts_of, held_after, made_of, phase_after_held, there_held, there_is}
use Rattle.js_desk.proofs.HeldLasting.{held_outlasts}
use Rattle.js_desk.proofs.Sessions.{held_setting, hold_keeps}
use Rattle.desk_places.proofs.Sets.{length_set, map_get, map_set}
use Rattle.js_desk.proofs.solo_ground.SoloGroundGround.hold.Goals as goal

pub invariant_of-self : goal.invariant_of-self
invariant_of-self g c =
    let P = g.P.Place in
    let row = c.self.inside.places.items in
    let places : List PlaceIn = places_by P.seen row in
    let there : slice_get row c.args.at.place ≡ Some c.index_mut-place.result.now = there_is P.seen row c.args.at c.index_mut-place.result.now (rw (← c.self.view_is) at c.requires.within) c.index_mut-place.ensures.value in
    let stands : slice_get places c.args.at.place ≡ Some (P.seen c.index_mut-place.result.now).place = map_get (λ p. (P.seen p).place) row c.args.at.place c.index_mut-place.result.now there in
    let old = P.seen c.index_mut-place.result.now in let new = P.seen c.hold_on-outcome.new.place in
    let h = c.hold_on-outcome.ensures.holds 0 in
    let facts = facts_of P.keeps_vol g.met.P.Place.keeps_none P.left P.clock P.base P.room_causes.outgrows_log g.met.P.Place.earlier c.self.inside.router c.hold_on-outcome.new.port c.self.inside.catalog places (map P.vol row) c.self.inside.ticked c.self.inside.last c.self.inside.turn c.args.at P.holds old new stands c.args.what c.args.now c.hold_on-outcome.result h in
    let mapped : places_by P.seen (slice_set row c.args.at.place c.hold_on-outcome.new.place) ≡ slice_set places c.args.at.place new.place = map_set (λ p. (P.seen p).place) row c.args.at.place c.hold_on-outcome.new.place in
    rw mapped
    (held_after c.self.inside.catalog places c.self.inside.last c.self.inside.turn c.args.at old.place new.place stands c.self.invariant c.args.what c.hold_on-outcome.result.became h.entries (rw (← c.self.view_is) at c.requires.turn) facts
    c.is_drop-asked.result c.is_dropped-dropped.result c.last_of-self-inside.result c.after_hold-self-inside.result c.is_drop-asked.ensures.value c.is_dropped-dropped.ensures.value c.last_of-self-inside.ensures.value c.after_hold-self-inside.ensures.value)

pub returns-clause-made : goal.returns-clause-made
returns-clause-made g c =
    let P = g.P.Place in
    let row = c.self.inside.places.items in
    let places : List PlaceIn = places_by P.seen row in
    let there : slice_get row c.args.at.place ≡ Some c.index_mut-place.result.now = there_is P.seen row c.args.at c.index_mut-place.result.now (rw (← c.self.view_is) at c.requires.within) c.index_mut-place.ensures.value in
    let stands : slice_get places c.args.at.place ≡ Some (P.seen c.index_mut-place.result.now).place = map_get (λ p. (P.seen p).place) row c.args.at.place c.index_mut-place.result.now there in
    let old = P.seen c.index_mut-place.result.now in let new = P.seen c.hold_on-outcome.new.place in
    let h = c.hold_on-outcome.ensures.holds 0 in
    let facts = facts_of P.keeps_vol g.met.P.Place.keeps_none P.left P.clock P.base P.room_causes.outgrows_log g.met.P.Place.earlier c.self.inside.router c.hold_on-outcome.new.port c.self.inside.catalog places (map P.vol row) c.self.inside.ticked c.self.inside.last c.self.inside.turn c.args.at P.holds old new stands c.args.what c.args.now c.hold_on-outcome.result h in
    let mapped : places_by P.seen (slice_set row c.args.at.place c.hold_on-outcome.new.place) ≡ slice_set places c.args.at.place new.place = map_set (λ p. (P.seen p).place) row c.args.at.place c.hold_on-outcome.new.place in
    let lasts = held_outlasts P.seen P.vol P.holds P.reads P.left P.clock P.faults P.room_causes P.base g.met.P.Place.bases g.met.P.Place.leaves g.met.P.Place.stands c.index_mut-place.result.now c.hold_on-outcome.new.place
    c.law_kept.ensures.kept c.args.at c.self.inside.router c.hold_on-outcome.new.port c.args.what c.args.now c.hold_on-outcome.result h in
    rw (← c.self.view_is)
    (rw (mapped, map_set P.vol row c.args.at.place c.hold_on-outcome.new.place)
    (made_of P.keeps_vol g.met.P.Place.keeps_none P.left P.clock P.base P.room_causes.outgrows_log g.met.P.Place.earlier c.self.inside.router c.hold_on-outcome.new.port c.self.inside.catalog places (map P.vol row) c.self.inside.ticked c.self.inside.last c.self.inside.turn c.args.at P.holds old new stands c.args.what c.args.now c.hold_on-outcome.result h
    c.last_of-self-inside.result c.after_hold-self-inside.result (P.vol c.index_mut-place.result.now) (P.vol c.hold_on-outcome.new.place) c.last_of-self-inside.ensures.value
    (map_get P.vol row c.args.at.place c.index_mut-place.result.now there) c.hold_on-outcome.ensures.vol lasts))

pub returns-clause-there : goal.returns-clause-there
returns-clause-there g c =
    let P = g.P.Place in
    let row = c.self.inside.places.items in
    let places : List PlaceIn = places_by P.seen row in
    let there : slice_get row c.args.at.place ≡ Some c.index_mut-place.result.now = there_is P.seen row c.args.at c.index_mut-place.result.now (rw (← c.self.view_is) at c.requires.within) c.index_mut-place.ensures.value in
    let stands : slice_get places c.args.at.place ≡ Some (P.seen c.index_mut-place.result.now).place = map_get (λ p. (P.seen p).place) row c.args.at.place c.index_mut-place.result.now there in
    let old = P.seen c.index_mut-place.result.now in let new = P.seen c.hold_on-outcome.new.place in
    let h = c.hold_on-outcome.ensures.holds 0 in
    let facts = facts_of P.keeps_vol g.met.P.Place.keeps_none P.left P.clock P.base P.room_causes.outgrows_log g.met.P.Place.earlier c.self.inside.router c.hold_on-outcome.new.port c.self.inside.catalog places (map P.vol row) c.self.inside.ticked c.self.inside.last c.self.inside.turn c.args.at P.holds old new stands c.args.what c.args.now c.hold_on-outcome.result h in
    let mapped : places_by P.seen (slice_set row c.args.at.place c.hold_on-outcome.new.place) ≡ slice_set places c.args.at.place new.place = map_set (λ p. (P.seen p).place) row c.args.at.place c.hold_on-outcome.new.place in
    rw (← c.self.view_is)
    (λ alone. there_held c.self.inside.catalog places c.self.inside.last c.self.inside.turn c.args.at old.place new.place stands c.self.invariant c.args.what c.hold_on-outcome.result.became h.entries (rw (← c.self.view_is) at c.requires.turn) facts)

pub returns-clause-setting : goal.returns-clause-setting
returns-clause-setting g c =
    let P = g.P.Place in
    let row = c.self.inside.places.items in
    let places : List PlaceIn = places_by P.seen row in
    let there : slice_get row c.args.at.place ≡ Some c.index_mut-place.result.now = there_is P.seen row c.args.at c.index_mut-place.result.now (rw (← c.self.view_is) at c.requires.within) c.index_mut-place.ensures.value in
    let stands : slice_get places c.args.at.place ≡ Some (P.seen c.index_mut-place.result.now).place = map_get (λ p. (P.seen p).place) row c.args.at.place c.index_mut-place.result.now there in
    let old = P.seen c.index_mut-place.result.now in let new = P.seen c.hold_on-outcome.new.place in
    let h = c.hold_on-outcome.ensures.holds 0 in
    let facts = facts_of P.keeps_vol g.met.P.Place.keeps_none P.left P.clock P.base P.room_causes.outgrows_log g.met.P.Place.earlier c.self.inside.router c.hold_on-outcome.new.port c.self.inside.catalog places (map P.vol row) c.self.inside.ticked c.self.inside.last c.self.inside.turn c.args.at P.holds old new stands c.args.what c.args.now c.hold_on-outcome.result h in
    let mapped : places_by P.seen (slice_set row c.args.at.place c.hold_on-outcome.new.place) ≡ slice_set places c.args.at.place new.place = map_set (λ p. (P.seen p).place) row c.args.at.place c.hold_on-outcome.new.place in
    rw (← c.self.view_is)
    (held_setting c.self.inside.router c.hold_on-outcome.new.port c.self.inside.catalog places (places_by P.seen (slice_set row c.args.at.place c.hold_on-outcome.new.place)) (map P.vol row) (map P.vol (slice_set row c.args.at.place c.hold_on-outcome.new.place)) c.self.inside.ticked c.self.inside.last c.last_of-self-inside.result
    c.self.inside.turn c.after_hold-self-inside.result (hold_keeps c.args.at h.entries (on old.place c.self.inside.router) (on new.place c.hold_on-outcome.new.port) h.led) (ap length mapped ∙ length_set places c.args.at.place new.place))

pub returns-clause-phase : goal.returns-clause-phase
returns-clause-phase g c =
    let P = g.P.Place in
    let row = c.self.inside.places.items in
    let places : List PlaceIn = places_by P.seen row in
    let there : slice_get row c.args.at.place ≡ Some c.index_mut-place.result.now = there_is P.seen row c.args.at c.index_mut-place.result.now (rw (← c.self.view_is) at c.requires.within) c.index_mut-place.ensures.value in
    let stands : slice_get places c.args.at.place ≡ Some (P.seen c.index_mut-place.result.now).place = map_get (λ p. (P.seen p).place) row c.args.at.place c.index_mut-place.result.now there in
    let old = P.seen c.index_mut-place.result.now in let new = P.seen c.hold_on-outcome.new.place in
    let h = c.hold_on-outcome.ensures.holds 0 in
    let facts = facts_of P.keeps_vol g.met.P.Place.keeps_none P.left P.clock P.base P.room_causes.outgrows_log g.met.P.Place.earlier c.self.inside.router c.hold_on-outcome.new.port c.self.inside.catalog places (map P.vol row) c.self.inside.ticked c.self.inside.last c.self.inside.turn c.args.at P.holds old new stands c.args.what c.args.now c.hold_on-outcome.result h in
    let mapped : places_by P.seen (slice_set row c.args.at.place c.hold_on-outcome.new.place) ≡ slice_set places c.args.at.place new.place = map_set (λ p. (P.seen p).place) row c.args.at.place c.hold_on-outcome.new.place in
    rw (← c.self.view_is)
    (phase_after_held c.self.inside.catalog places c.self.inside.last c.self.inside.turn c.args.at old.place new.place stands c.self.invariant c.args.what c.hold_on-outcome.result.became h.entries (rw (← c.self.view_is) at c.requires.turn) facts
    c.is_drop-asked.result c.is_dropped-dropped.result c.last_of-self-inside.result c.after_hold-self-inside.result c.is_drop-asked.ensures.value c.is_dropped-dropped.ensures.value c.last_of-self-inside.ensures.value c.after_hold-self-inside.ensures.value)
