use Rattle.std.proofs.Common.{◌+◌, ◌^◌, ◌<◌, refl, length}
use Rattle.stored_stream.specs.Stored.{alone, stored_message}
use Rattle.stored_stream.proofs.Sounding.{above_last, last_undone, proper_small, proper_text, sound_more}
use Rattle.stored_stream.proofs.stored.StoredStream.store.Goals as goal

pub push-requires-clause-above : goal.push-requires-clause-above
push-requires-clause-above c =
    let i = c.self.inside in
    let s = alone i.incarnation i.made i.config i.messages i.last i.moment i.ids.ids in
    let p = c.args.publish.now in
    rw c.in_ok-message.ensures.value (above_last s c.self.invariant.sound)

pub push-requires-clause-small : goal.push-requires-clause-small
push-requires-clause-small c =
    let i = c.self.inside in
    let s = alone i.incarnation i.made i.config i.messages i.last i.moment i.ids.ids in
    let p = c.args.publish.now in
    rw c.in_ok-message.ensures.value (proper_small p (i.last + 1) i.moment c.requires.proper)

pub invariant_of-self-in-Ok : goal.invariant_of-self-in-Ok
invariant_of-self-in-Ok c =
    let i = c.self.inside in
    let s = alone i.incarnation i.made i.config i.messages i.last i.moment i.ids.ids in
    let p = c.args.publish.now in
    let m = stored_message p (i.last + 1) i.moment in
    let room : length i.messages + 1 < 2 ^ 32 = rw (← c.self.view_is) at c.requires.room in
    let bound : i.last + 1 < 2 ^ 62 = rw (← c.self.view_is) at c.requires.numbers in
    rw (c.in-Ok.ensures.ok, c.in_ok-push.ensures.ok, c.in_ok-message.ensures.value)
    (record {
      sound = sound_more s c.self.invariant.sound m p.wants.id refl refl (proper_small p (i.last + 1) i.moment c.requires.proper) (proper_text p (i.last + 1) i.moment c.requires.proper) room bound;
      window = c.self.invariant.window;
    })

pub returns-in-Ok-clause-sound : goal.returns-in-Ok-clause-sound
returns-in-Ok-clause-sound c =
    let i = c.self.inside in
    let s = alone i.incarnation i.made i.config i.messages i.last i.moment i.ids.ids in
    let p = c.args.publish.now in
    let m = stored_message p (i.last + 1) i.moment in
    let room : length i.messages + 1 < 2 ^ 32 = rw (← c.self.view_is) at c.requires.room in
    let bound : i.last + 1 < 2 ^ 62 = rw (← c.self.view_is) at c.requires.numbers in
    rw (c.in-Ok.ensures.ok, c.in_ok-push.ensures.ok, c.in_ok-message.ensures.value)
    (sound_more s c.self.invariant.sound m p.wants.id refl refl (proper_small p (i.last + 1) i.moment c.requires.proper) (proper_text p (i.last + 1) i.moment c.requires.proper) room bound)

pub invariant_of-self-in-Err : goal.invariant_of-self-in-Err
invariant_of-self-in-Err c =
    let i = c.self.inside in
    let s = alone i.incarnation i.made i.config i.messages i.last i.moment i.ids.ids in
    let p = c.args.publish.now in
    rw (c.remove.ensures.left, c.in-Err.ensures.err, c.in_ok-push.ensures.ok, c.in_ok-message.ensures.value)
    (rw (last_undone i.messages (stored_message p (i.last + 1) i.moment) (i.last + 1) refl (above_last s c.self.invariant.sound)) c.self.invariant)

pub returns-in-Err-clause-err : goal.returns-in-Err-clause-err
returns-in-Err-clause-err c =
    let i = c.self.inside in
    let s = alone i.incarnation i.made i.config i.messages i.last i.moment i.ids.ids in
    let p = c.args.publish.now in
    rw (← c.self.view_is)
    (rw (c.remove.ensures.left, c.in-Err.ensures.err, c.in_ok-push.ensures.ok, c.in_ok-message.ensures.value)
    (rw (last_undone i.messages (stored_message p (i.last + 1) i.moment) (i.last + 1) refl (above_last s c.self.invariant.sound)) refl))
