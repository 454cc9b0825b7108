use Rattle.std.proofs.Common.{sym, ◌∙◌}
use Rattle.stored_stream.specs.Stored.{alone}
use Rattle.stored_stream.proofs.Finding.{last_counted}
use Rattle.stored_stream.proofs.stored.StoredStream.last_on.Goals as goal

pub returns-clause-value : goal.returns-clause-value
returns-clause-value c =
    let i = c.self.inside in
    let s = alone i.incarnation i.made i.config i.messages i.last i.moment i.ids.ids in
    let got = rw (← c.self.view_is) at c.get.ensures.value in
    rw (← c.self.view_is) (got ∙ last_counted s c.args.subject.now c.in_ok-counts.counts c.self.invariant.sound (sym c.in_ok-counts.ensures.value))
