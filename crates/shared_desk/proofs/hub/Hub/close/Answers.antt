use Rattle.std.proofs.Common.{arith}
use Rattle.shared_desk.proofs.Closed.{closes_hub}
use Rattle.shared_desk.proofs.Ending.{emptied}
use Rattle.shared_desk.proofs.Joined.{has_all_seats}
use Rattle.shared_desk.proofs.Passing.{all_passes, last_pass, more_passes, one_pass, some_passes}
use Rattle.shared_desk.proofs.hub.Hub.close.Goals as goal

pub take_last-all-requires : goal.take_last-all-requires
take_last-all-requires g c = omega (arith, some_passes c.args.self c.args.passes.items c.law_hub.ensures.hub c.requires.all, c.args.passes.ok.0)

pub loop-self-init : goal.loop-self-init
loop-self-init g c = one_pass c.args.self c.args.passes.items c.take_last-all.new.self.items c.take_last-all.result c.take_last-all.ensures.items c.requires.all.each

pub join-all-requires : goal.join-all-requires
join-all-requires g c = record {
  own = (
    (last_pass c.args.self c.loop-self.passes.items c.take_last.new.self.items c.take_last.result c.take_last.ensures.items c.loop-self.invariant.others).1,
    c.loop-self.invariant.own,
  );
}

pub loop-self-preserved : goal.loop-self-preserved
loop-self-preserved g c =
    more_passes c.args.self c.args.passes.items c.loop-self.passes.items c.take_last.new.self.items c.take_last.result c.loop-self.all c.join-all.result c.loop-self.invariant
    c.take_last.ensures.items c.join-all.ensures.joined c.join-all.ensures.own

pub take_apart-requires : goal.take_apart-requires
take_apart-requires g c = record {
  all = has_all_seats c.args.self c.args.passes.items c.loop-self.all c.requires.all c.loop-self.invariant.own
      (all_passes c.args.self c.args.passes.items c.loop-self.passes.items c.loop-self.all c.loop-self.invariant
      (emptied c.loop-self.passes.items _ c.is_empty.result c.loop-self.passes.ok.0 c.is_empty.ensures c.loop-self-test.false));
}

pub returns : goal.returns
returns g c =
    let P = g.P.Place in
    record {
      closes = closes_hub P.seen P.vol P.holds P.reads P.left P.clock P.base P.keeps_vol c.law_opened.ensures.law c.args.self c.args.passes.items c.loop-self.all c.take_apart.result
          (all_passes c.args.self c.args.passes.items c.loop-self.passes.items c.loop-self.all c.loop-self.invariant
          (emptied c.loop-self.passes.items _ c.is_empty.result c.loop-self.passes.ok.0 c.is_empty.ensures c.loop-self-test.false))
          c.take_apart.ensures.apart;
    }
