use Rattle.std.proofs.Common.{true}
use Rattle.js_model.specs.Catalog as catalog
use Rattle.js_model.specs.Cataloging.{change_told}
use Rattle.js_desk.proofs.Cataloged.{change_between, change_grounded, change_phase, change_text, known_single}
use Rattle.js_desk.proofs.Looked.{looked}
use Rattle.js_desk.proofs.solo_ground.SoloGroundGround.change.Goals as goal

pub change-changed-requires : goal.change-changed-requires
change-changed-requires g c = record { single = known_single _ c.args.at (rw (← c.self.view_is) at c.requires.known) }

pub invariant_of-self : goal.invariant_of-self
invariant_of-self g c = rw c.after_change-self-inside.ensures.value (change_grounded _ _ _ _ _ c.self.invariant c.args.at.place _ c.change-changed.result (rw (← c.self.view_is) at c.requires.turn) c.change-changed.ensures.changed c.change-changed.ensures.err)

pub returns-clause-made : goal.returns-clause-made
returns-clause-made g c = rw (← c.self.view_is) (looked _ g.met.P.Place.keeps_none _ _ _ _ g.P.Place.room_causes.outgrows_log g.met.P.Place.earlier _ _ _ _ _ _ _ c.self.inside.turn c.after_change-self-inside.result true (catalog.Change c.args.at.place c.args.subjects.now) (change_told c.change-changed.result) c.change-changed.ensures.changed)

pub returns-clause-between : goal.returns-clause-between
returns-clause-between g c = change_between _ _ _ _ _ c.self.invariant c.args.at _ c.change-changed.result c.change-changed.ensures.changed (rw (← c.self.view_is) at c.requires.known)

pub returns-clause-text : goal.returns-clause-text
returns-clause-text g c = change_text _ _ _ _ _ c.self.invariant c.args.at.place _ c.change-changed.result c.change-changed.ensures.changed

pub returns-clause-phase : goal.returns-clause-phase
returns-clause-phase g c = rw c.after_change-self-inside.ensures.value (change_phase c.self.inside.turn c.args.at.place c.change-changed.result (rw (← c.self.view_is) at c.requires.turn))
