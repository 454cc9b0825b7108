use Rattle.std.proofs.Common.{◌≡◌, ◌≤◌, ◌<◌, ◌+◌, ◌^◌, ◌||◌, ℕ, Bool, true, false, List, Option, None, Some, length, nat_lt, sym, ap, subst, ◌∙◌, arith}
use Rattle.std.specs.Prelude.{Decides, IfSome}
use Rattle.std.proofs.lemmas.Bool.{and_parts}
use Rattle.std.proofs.lemmas.Result.{err_from_is_err_and}
use Rattle.effects.specs.declared.effect.Effect.{Effect}
use Rattle.js_model.specs.Firm.{IsFirmStep}
use Rattle.place_engine.specs.Following.{followed}
use Rattle.place_engine.specs.Places.{ids_in}
use Rattle.place_records.specs.Records.{effects_in}
use Rattle.snapshot_bound.specs.Asking.{event_fixed}
use Rattle.snapshot_bound.specs.Laws.{if_room}
use Rattle.volume_place.specs.Rooms.{room_for}
use Rattle.volume_place.proofs.Answering.{Holds, answered_sound, left_counted, left_sound}
use Rattle.volume_place.proofs.Changing.{told_changes}
use Rattle.volume_place.proofs.Dated.{dated_as, dated_with, since_kept}
use Rattle.volume_place.proofs.Moved.{joined, taken, unmoved}
use Rattle.volume_place.proofs.Reserving.{raised_is}
use Rattle.volume_place.proofs.volume_place.VolumePlace.answer.Goals as goal
use Rattle.volume_place.proofs.volume_place.VolumePlace.answer.Goals.{in-Ok-take, then-more, else-more, in-Err}

pub has_room-requires-clause-proper : goal.has_room-requires-clause-proper
has_room-requires-clause-proper g c = (and_parts _ _ c.requires.proper).1

pub growth_of-requires : goal.growth_of-requires
growth_of-requires g c = record { proper = (and_parts _ _ c.requires.proper).1 }

pub answer_in-said-requires-clause-proper : goal.answer_in-said-requires-clause-proper
answer_in-said-requires-clause-proper g c = (and_parts _ _ c.requires.proper).1

pub invariant_of-self-in_err-reply : goal.invariant_of-self-in_err-reply
invariant_of-self-in_err-reply g c =
    let V = g.V.Vol in
    let i = c.self.inside in
    let e = c.args.event.now in
    let before = followed i.tail (effects_in i.made) in
    let made = effects_in c.answer_in-said.new.made in
    let room = c.in-Ok-has_room.room in
    let left = c.in_err-reply.field-0.0 in
    let going = rw (← c.self.view_is) at c.requires.going in
    let kept = rw (← c.self.view_is) at c.requires.kept in
    let moment : c.args.now < 2 ^ 62 = omega arith in
    let told_room = c.in-Ok-has_room.ensures.value ∙ ap (λ (l : List Effect). room_for i.fixed i.store i.slot l e.what) c.records-waiting.ensures.value in
    let holds : Holds V.told (V.disk i.vol) i.store before i.stored i.stopped i.fixed i.slot = record { sound = c.self.invariant.0; blocks = c.self.invariant.1; reserve = c.self.invariant.3 } in
    let p =
    left_sound V.told (V.disk i.vol) i.store before i.stored i.stopped going i.fixed i.slot holds c.has_room.new.store c.has_room.ensures.same c.take.new.self c.in-Ok.ensures.ok
    e room told_room left c.answer_in-said.new.slot c.args.now c.args.outs.now c.answer_in-said.new.outs made kept c.requires.proper moment c.in_err-reply.ensures.err
    c.in_err-reply.ensures.recorded in
    (p.sound, p.blocks, dated_with c.args.now i.since c.since_with-self-inside.result (followed c.take.new.self made) (c.since_with-self-inside.ensures.value c.take.new.self (dated_as c.take.new.self before i.since c.in-Ok.ensures.ok c.self.invariant.2)), p.reserve)

pub returns-in_err-reply-clause-err_recorded : goal.returns-in_err-reply-clause-err_recorded
returns-in_err-reply-clause-err_recorded g c =
    let V = g.V.Vol in
    let i = c.self.inside in
    let e = c.args.event.now in
    let before = followed i.tail (effects_in i.made) in
    let made = effects_in c.answer_in-said.new.made in
    let room = c.in-Ok-has_room.room in
    let left = c.in_err-reply.field-0.0 in
    let going = rw (← c.self.view_is) at c.requires.going in
    let told_room = c.in-Ok-has_room.ensures.value ∙ ap (λ (l : List Effect). room_for i.fixed i.store i.slot l e.what) c.records-waiting.ensures.value in
    let holds : Holds V.told (V.disk i.vol) i.store before i.stored i.stopped i.fixed i.slot = record { sound = c.self.invariant.0; blocks = c.self.invariant.1; reserve = c.self.invariant.3 } in
    let counted = left_counted V.told (V.disk i.vol) i.store before i.stored i.stopped going i.fixed i.slot holds c.has_room.new.store c.has_room.ensures.same c.take.new.self c.in-Ok.ensures.ok
    e room told_room left c.args.now made c.in_err-reply.ensures.recorded in
    let p = err_from_is_err_and c.from_residual.result c.from_residual.ensures.1 in
    rw (p.1, p.2)
    (rw (← c.self.view_is)
    (record {
      effects = made;
      told = c.in_err-reply.ensures.recorded;
      waiting = ap (λ (l : List Effect). followed l made) c.in-Ok.ensures.ok;
      counted = counted;
    }))

pub invariant_of-self-2 : goal.invariant_of-self-2
invariant_of-self-2 g c =
    let V = g.V.Vol in
    let i = c.self.inside in
    let e = c.args.event.now in
    let before = followed i.tail (effects_in i.made) in
    let made = effects_in c.answer_in-said.new.made in
    let room = c.in-Ok-has_room.room in
    let going = rw (← c.self.view_is) at c.requires.going in
    let kept = rw (← c.self.view_is) at c.requires.kept in
    let moment : c.args.now < 2 ^ 62 = omega arith in
    let told_room = c.in-Ok-has_room.ensures.value ∙ ap (λ (l : List Effect). room_for i.fixed i.store i.slot l e.what) c.records-waiting.ensures.value in
    let holds : Holds V.told (V.disk i.vol) i.store before i.stored i.stopped i.fixed i.slot = record { sound = c.self.invariant.0; blocks = c.self.invariant.1; reserve = c.self.invariant.3 } in
    let moved = taken c.take-2.result c.take-2.new.self c.take.new.self c.take-2.new.made c.answer_in-said.new.made c.take-2.ensures.ok c.take-2.ensures.none c.take-2.ensures.err c.take-2.ensures.made_left in
    let growth = c.in-Ok-growth_of.growth in
    let fits = c.in-Ok-has_room.ensures.fits in
    let raised : c.raise-self-inside.result ≡ i.fixed + if_room room (event_fixed i.slot e.what) =
    c.raise-self-inside.ensures.value ∙ raised_is i.fixed growth.fixed (event_fixed i.slot e.what) room c.in-Ok-growth_of.ensures.value.fixed fits in
    let small : c.raise-self-inside.result ≤ 2 ^ 31 = let value = c.raise-self-inside.ensures.value in omega (arith, value, fits) in
    let p =
    answered_sound V.told (V.disk i.vol) i.store before i.stored i.stopped going i.fixed i.slot holds c.has_room.new.store c.has_room.ensures.same c.take.new.self c.in-Ok.ensures.ok
    e room told_room c.in_ok-reply.reply c.answer_in-said.new.slot c.args.now c.args.outs.now c.answer_in-said.new.outs made c.count_with-self-inside.result c.raise-self-inside.result kept
    c.requires.proper moment c.in_ok-reply.ensures.answers c.in_ok-reply.ensures.recorded c.count_with-self-inside.ensures.value raised small in
    rw moved
    (p.sound, p.blocks, dated_with c.args.now i.since c.since_with-self-inside.result (followed c.take.new.self made) (c.since_with-self-inside.ensures.value c.take.new.self (dated_as c.take.new.self before i.since c.in-Ok.ensures.ok c.self.invariant.2)), p.reserve)

pub returns-clause-firm : goal.returns-clause-firm
returns-clause-firm g c = elim c.match-take-2.branch [
  | in-Ok-take w ↦
      let firm_is = w.firm-is in
      let told : c.match-take-2.firm ≡ Some w.is_firm.result = cc in
      let i = c.self.inside in
      let kept = rw (← c.self.view_is) at c.requires.kept in
      let moment : c.args.now < 2 ^ 62 = omega arith in
      let fewer = nat_lt (length (ids_in c.answer_in-said.new.slot)) (length (ids_in i.slot)) in
      let changes : w.if-more.changes ≡ (w.in-Ok-take.more || fewer) = elim w.if-more.branch [
        | then-more b ↦
            let changes_is = b.changes-is in
            let if_more = b.if-more in
            let yes_more : w.in-Ok-take.more ≡ true = cc in
            let yes : w.if-more.changes ≡ true = cc in
            yes ∙ sym (ap (λ (d : Bool). d || fewer) yes_more)
        | else-more b ↦
            let changes_is = b.changes-is in
            let if_more = b.if-more in
            let no_more : w.in-Ok-take.more ≡ false = cc in
            let less : w.if-more.changes ≡ nat_lt b.id_count.result c.id_count-ids.result = cc in
            less
            ∙ ap (λ (n : ℕ). nat_lt n c.id_count-ids.result) b.id_count.ensures.value
            ∙ ap (λ (n : ℕ). nat_lt (length (ids_in c.answer_in-said.new.slot)) n) c.id_count-ids.ensures.value
            ∙ sym (ap (λ (d : Bool). d || fewer) no_more)
      ] in
      let decides = told_changes i.slot c.answer_in-said.new.slot c.args.event.now c.args.now c.in-Ok-has_room.room kept c.requires.proper moment
      (c.in_ok-reply.ensures.answers c.args.event.now.incarnation).state_is
      c.self.invariant.0.sound c.self.invariant.0.bounded (effects_in c.answer_in-said.new.made) c.in_ok-reply.ensures.recorded w.in-Ok-take.more w.if-more.changes w.in-Ok-take.ensures.more changes in
      rw (← c.self.view_is)
      (subst (λ (o : Option Bool). IfSome o (λ f. Decides f (IsFirmStep i.slot c.args.event.now.what c.in_ok-reply.reply c.answer_in-said.new.slot))) (sym told)
      (w.is_firm.ensures.value i.slot c.answer_in-said.new.slot decides))
  | in-Err w ↦
      let firm_is = w.firm-is in
      let none : c.match-take-2.firm ≡ None = cc in
      rw (← c.self.view_is)
      (subst (λ (o : Option Bool). IfSome o (λ f. Decides f (IsFirmStep c.self.inside.slot c.args.event.now.what c.in_ok-reply.reply c.answer_in-said.new.slot))) (sym none) tt)
]

pub returns-in_default-clause-since : goal.returns-in_default-clause-since
returns-in_default-clause-since g c =
    let i = c.self.inside in
    let before = followed i.tail (effects_in i.made) in
    let same = unmoved c.take.new.self i.tail c.take.new.made i.made c.in_default.ensures.err c.in_default.ensures.made_left in
    rw (← c.self.view_is)
    (since_kept c.args.now i.since (followed c.take.new.self (effects_in c.take.new.made)) (dated_as (followed c.take.new.self (effects_in c.take.new.made)) before i.since same c.self.invariant.2))

pub returns-in_default-has_room-clause-since : goal.returns-in_default-has_room-clause-since
returns-in_default-has_room-clause-since g c =
    let i = c.self.inside in
    let before = followed i.tail (effects_in i.made) in
    let same = joined c.take.new.self c.take.new.made before c.in-Ok.ensures.ok c.in-Ok.ensures.none in
    rw (← c.self.view_is)
    (since_kept c.args.now i.since (followed c.take.new.self (effects_in c.take.new.made)) (dated_as (followed c.take.new.self (effects_in c.take.new.made)) before i.since same c.self.invariant.2))

pub returns-in_err-reply-clause-since : goal.returns-in_err-reply-clause-since
returns-in_err-reply-clause-since g c =
    let i = c.self.inside in
    let before = followed i.tail (effects_in i.made) in
    rw (← c.self.view_is) (c.since_with-self-inside.ensures.value c.take.new.self (dated_as c.take.new.self before i.since c.in-Ok.ensures.ok c.self.invariant.2))

pub returns-clause-since : goal.returns-clause-since
returns-clause-since g c =
    let i = c.self.inside in
    let before = followed i.tail (effects_in i.made) in
    let moved = taken c.take-2.result c.take-2.new.self c.take.new.self c.take-2.new.made c.answer_in-said.new.made c.take-2.ensures.ok c.take-2.ensures.none c.take-2.ensures.err c.take-2.ensures.made_left in
    rw (moved, ← c.self.view_is) (c.since_with-self-inside.ensures.value c.take.new.self (dated_as c.take.new.self before i.since c.in-Ok.ensures.ok c.self.invariant.2))
