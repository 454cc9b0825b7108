use Rattle.std.proofs.Common.{arith, subst, sym}
use Rattle.stream_store.specs.Base.{MovesBase}
use Rattle.stream_store.specs.StoreState.{StoreState}
use Rattle.stream_store.proofs.Known.{lists_more, still_leaves}
use Rattle.stream_store.proofs.store.Store.reach.Goals as goal

pub list-requires : goal.list-requires
list-requires g c = record { behind = c.requires.spot.behind_logs }

pub returns-in_err-list-clause-any_moment : goal.returns-in_err-list-clause-any_moment
returns-in_err-list-clause-any_moment g c = λ told. still_leaves (g.V.Vol.disk c.args.vol.now) (g.met.V.Vol.clocked c.args.vol.now) c.args.self.now.log c.args.self.now.blocks

pub returns-then-reaches-clause-any_moment : goal.returns-then-reaches-clause-any_moment
returns-then-reaches-clause-any_moment g c = λ told. still_leaves (g.V.Vol.disk c.args.vol.now) (g.met.V.Vol.clocked c.args.vol.now) c.args.self.now.log c.args.self.now.blocks

pub returns-then-reaches-clause-room : goal.returns-then-reaches-clause-room
returns-then-reaches-clause-room g c = λ told.
    let disk = g.V.Vol.disk c.args.vol.now in
    record {
      keeps = subst (λ (t : StoreState). MovesBase c.args.self.now t disk disk) (sym c.list.ensures.same) (lists_more c.args.self.now c.list.new.self.unused disk);
      longer = λ file. omega arith;
    }

pub returns-in_err-reach-clause-any_moment : goal.returns-in_err-reach-clause-any_moment
returns-in_err-reach-clause-any_moment g c = λ told.
    c.reach_spot.ensures.any_moment told c.args.self.now.log c.args.self.now.blocks

pub returns-clause-any_moment : goal.returns-clause-any_moment
returns-clause-any_moment g c = λ told.
    c.reach_spot.ensures.any_moment told c.args.self.now.log c.args.self.now.blocks
