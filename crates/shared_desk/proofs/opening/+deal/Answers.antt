use Rattle.shared_desk.proofs.Dealing.{deal_more}
use Rattle.shared_desk.proofs.opening.+deal.Goals as goal

pub returns-clause-dealt : goal.returns-clause-dealt
returns-clause-dealt g t c =
    deal_more c.args.rows.now.items c.deal.new.rows.items c.take_last-row.new.self.items c.take_last-row.result c.push_reserved.new.self c.args.seats.now.items c.take_last.new.self.items c.take_last.result
    c.push_reserved-2.new.self.items c.push_reserved-2.ensures.items c.take_last-row.ensures.items c.take_last.ensures.items c.requires.as_many c.push_reserved.ensures.items c.deal.ensures.dealt
