use Rattle.std.proofs.Common.{◌≤◌, refl}
use Rattle.stored_stream.specs.Stored.{alone}
use Rattle.stored_stream.proofs.Sounding.{sound_later}
use Rattle.stored_stream.proofs.stored.StoredStream.pass_time.Goals as goal

pub invariant_of-self : goal.invariant_of-self
invariant_of-self c =
    let i = c.self.inside in
    let s = alone i.incarnation i.made i.config i.messages i.last i.moment i.ids.ids in
    let later : i.moment ≤ c.args.now = rw (← c.self.view_is) at c.requires.later in
    rw (c.expire.ensures.left, c.self.invariant.window) (record { sound = sound_later s c.self.invariant.sound c.args.now later; window = refl })

pub returns-clause-left : goal.returns-clause-left
returns-clause-left c = rw (← c.self.view_is) (rw (c.expire.ensures.left, c.self.invariant.window) refl)

pub returns-clause-sound : goal.returns-clause-sound
returns-clause-sound c =
    let i = c.self.inside in
    let s = alone i.incarnation i.made i.config i.messages i.last i.moment i.ids.ids in
    let later : i.moment ≤ c.args.now = rw (← c.self.view_is) at c.requires.later in
    rw (c.expire.ensures.left, c.self.invariant.window) (sound_later s c.self.invariant.sound c.args.now later)
