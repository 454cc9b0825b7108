use Rattle.std.proofs.Common.{[], ◌∷◌, ap, length, arith}
use Rattle.std.proofs.lemmas.List.{length-append}
use Rattle.std.specs.List.{AllByRecursion}
use Rattle.shared_desk.specs.Seats.{AreThere}
use Rattle.shared_desk.proofs.Dealing.{all_but_last, at_last, pass_end, pass_more}
use Rattle.shared_desk.proofs.opening.deal_passes.Goals as goal

pub loop-passes-preserved : goal.loop-passes-preserved
loop-passes-preserved g c =
    let i = c.loop-passes.invariant in
    record {
      made = pass_more c.loop-passes.rows.items c.take_last-in-loop-passes-2.new.self.items c.take_last-in-loop-passes-2.result c.loop-passes.routers.items c.take_last.new.self.items c.take_last.result c.loop-passes.catalogs.items c.take_last-in-loop-passes.new.self.items
          c.take_last-in-loop-passes.result c.loop-passes.passes.items c.push_reserved.new.self.items _ c.take_last-in-loop-passes-2.ensures.items c.take_last.ensures.items c.take_last-in-loop-passes.ensures.items c.push_reserved.ensures.items i.routers i.catalogs i.made;
      routers = omega (arith, i.routers, ap length c.take_last-in-loop-passes-2.ensures.items, ap length c.take_last.ensures.items, length-append c.take_last-in-loop-passes-2.new.self.items (c.take_last-in-loop-passes-2.result ∷ []), length-append c.take_last.new.self.items (c.take_last.result ∷ []));
      catalogs = omega (arith, i.catalogs, ap length c.take_last-in-loop-passes-2.ensures.items, ap length c.take_last-in-loop-passes.ensures.items, length-append c.take_last-in-loop-passes-2.new.self.items (c.take_last-in-loop-passes-2.result ∷ []), length-append c.take_last-in-loop-passes.new.self.items (c.take_last-in-loop-passes.result ∷ []));
      room = omega (arith, i.room, c.take_last-in-loop-passes-2.ensures.len, c.push_reserved.ensures.len, c.push_reserved.ensures.capacity);
      there = all_but_last (λ row. AreThere row.items) c.loop-passes.rows.items c.take_last-in-loop-passes-2.new.self.items c.take_last-in-loop-passes-2.result c.take_last-in-loop-passes-2.ensures.items i.there;
    }
