use Rattle.std.proofs.Common.{ℕ, List, Option, subst}
use Rattle.consumer_start.specs.Starts.{ArePicksAt}
use Rattle.consumer_start.proofs.Picking.{starts_ascend, starts_stored}
use Rattle.consumer_start.proofs.starting.start_of.Goals as goal

pub returns-in-Some : goal.returns-in-Some
returns-in-Some g c =
    let w = subst (λ (o : Option (List ℕ)). ArePicksAt (g.W.View.stream c.args.stream.now) c.args.config.now o) c.in-Some.is c.in_ok-picks.ensures.picks in
    record {
      start = record {
        picks_are = w.0;
        cursor_is = c.cursor_at-cursor.ensures.value;
        ascends = rw (w.0, c.cursor_at-cursor.ensures.value) (starts_ascend c.args.config.now.deliver_policy c.args.config.now.filter_subject (g.W.View.stream c.args.stream.now) c.cursor_at-cursor.ensures.order);
        few = w.1;
        stored = rw w.0 (starts_stored c.args.config.now.deliver_policy c.args.config.now.filter_subject (g.W.View.stream c.args.stream.now));
      };
    }
