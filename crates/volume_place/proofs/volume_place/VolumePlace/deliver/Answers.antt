use Rattle.std.proofs.Common.{◌<◌, ◌^◌, List, refl, ap, arith}
use Rattle.std.proofs.lemmas.Bool.{le-leb}
use Rattle.effects.specs.declared.effect.Effect.{Effect}
use Rattle.place_engine.specs.Following.{followed}
use Rattle.place_records.specs.Records.{effects_in}
use Rattle.volume_place.proofs.Answering.{Holds, sent_reserve}
use Rattle.volume_place.proofs.Dated.{dated_as, dated_with, since_kept}
use Rattle.volume_place.proofs.Growing.{grown_sent}
use Rattle.volume_place.proofs.Moved.{unmoved}
use Rattle.volume_place.proofs.Storing.{has_blocks, may_store, sent_blocks}
use Rattle.volume_place.proofs.volume_place.VolumePlace.deliver.Goals as goal

pub invariant_of-self-2 : goal.invariant_of-self-2
invariant_of-self-2 g c =
    let V = g.V.Vol in
    let i = c.self.inside in
    let going = rw (← c.self.view_is) at c.requires.going in
    let bound = rw c.incarnation.ensures.value at c.incarnation.ensures.bound in
    let moment : c.args.now < 2 ^ 62 = omega arith in
    let before = followed i.tail (effects_in i.made) in
    let blocks = sent_blocks i.store.blocks before i.stored c.deliver_one-sent.result i.slot c.args.now c.deliver_one-sent.new.self (effects_in c.deliver_one-sent.new.made)
    (has_blocks i.store.blocks before i.stored i.stopped going c.self.invariant.1) c.deliver_one-sent.ensures.recorded in
    let holds : Holds V.told (V.disk i.vol) i.store before i.stored i.stopped i.fixed i.slot = record { sound = c.self.invariant.0; blocks = c.self.invariant.1; reserve = c.self.invariant.3 } in
    let grown = grown_sent V.told (V.disk i.vol) i.store before i.stopped going i.slot c.self.invariant.0 c.deliver_one-sent.result c.deliver_one-sent.new.self c.args.now
    c.args.listening.now c.args.outs.now c.deliver_one-sent.new.outs (effects_in c.deliver_one-sent.new.made) (le-leb _ _ bound) moment c.deliver_one-sent.ensures.delivers c.deliver_one-sent.ensures.recorded in
    rw c.in-Ok.ensures.ok (
      grown,
      may_store i.store.blocks (followed before (effects_in c.deliver_one-sent.new.made)) i.stored i.stopped going blocks,
      dated_with c.args.now i.since c.since_with-self-inside.result (followed before (effects_in c.deliver_one-sent.new.made)) (c.since_with-self-inside.ensures.value before c.self.invariant.2),
      sent_reserve V.told (V.disk i.vol) i.store before i.stored i.stopped going i.fixed i.slot holds c.deliver_one-sent.result c.deliver_one-sent.new.self c.args.now
          c.args.listening.now c.args.outs.now c.deliver_one-sent.new.outs (effects_in c.deliver_one-sent.new.made) (le-leb _ _ bound) moment c.deliver_one-sent.ensures.delivers c.deliver_one-sent.ensures.recorded grown,
    )

pub returns-clause-recorded : goal.returns-clause-recorded
returns-clause-recorded g c =
    rw (← c.self.view_is)
    (record {
      effects = effects_in c.deliver_one-sent.new.made;
      told = c.deliver_one-sent.ensures.recorded;
      waiting = ap (λ (l : List Effect). followed l (effects_in c.deliver_one-sent.new.made)) c.in-Ok.ensures.ok;
      counted = refl;
    })

pub returns-in_default-clause-since : goal.returns-in_default-clause-since
returns-in_default-clause-since g c =
    let i = c.self.inside in
    let before = followed i.tail (effects_in i.made) in
    let same = unmoved c.take.new.self i.tail c.take.new.made i.made c.in_default.ensures.err c.in_default.ensures.made_left in
    rw (← c.self.view_is)
    (since_kept c.args.now i.since (followed c.take.new.self (effects_in c.take.new.made)) (dated_as (followed c.take.new.self (effects_in c.take.new.made)) before i.since same c.self.invariant.2))

pub returns-clause-since : goal.returns-clause-since
returns-clause-since g c =
    let i = c.self.inside in
    let before = followed i.tail (effects_in i.made) in
    rw (← c.self.view_is) (c.since_with-self-inside.ensures.value c.take.new.self (dated_as c.take.new.self before i.since c.in-Ok.ensures.ok c.self.invariant.2))
