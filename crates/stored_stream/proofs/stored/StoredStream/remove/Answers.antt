use Rattle.std.proofs.Common.{refl, sym, ◌∙◌}
use Rattle.std.proofs.lemmas.Bool.{OnTrue_from}
use Rattle.js_model.proofs.Parts.{filter_part}
use Rattle.stored_stream.specs.Stored.{alone}
use Rattle.stored_stream.proofs.Finding.{fewer}
use Rattle.stored_stream.proofs.Sounding.{sound_less}
use Rattle.stored_stream.proofs.stored.StoredStream.remove.Goals as goal

pub invariant_of-self : goal.invariant_of-self
invariant_of-self c =
    let i = c.self.inside in
    let s = alone i.incarnation i.made i.config i.messages i.last i.moment i.ids.ids in
    rw c.remove.ensures.left (record { sound = sound_less s c.self.invariant.sound (filter_part _ i.messages); window = c.self.invariant.window })

pub returns-clause-there : goal.returns-clause-there
returns-clause-there c = rw (← c.self.view_is) c.remove.ensures.there

pub returns-clause-left : goal.returns-clause-left
returns-clause-left c = rw (← c.self.view_is) (rw c.remove.ensures.left refl)

pub returns-clause-fewer : goal.returns-clause-fewer
returns-clause-fewer c =
    rw (← c.self.view_is) (OnTrue_from c.remove.result _ (λ e. rw c.remove.ensures.left (fewer c.args.seq c.self.inside.messages (sym c.remove.ensures.there ∙ e))))

pub returns-clause-sound : goal.returns-clause-sound
returns-clause-sound c =
    let i = c.self.inside in
    let s = alone i.incarnation i.made i.config i.messages i.last i.moment i.ids.ids in
    rw c.remove.ensures.left (sound_less s c.self.invariant.sound (filter_part _ i.messages))
