use Rattle.std.proofs.Common.{sym, ◌∙◌}
use Rattle.shared_desk.proofs.Rows.{not_none, row_at}
use Rattle.shared_desk.proofs.row.take_at.Goals as goal

pub unreachable-requires : goal.unreachable-requires
unreachable-requires g c =
    let a = row_at c.args.row.now.items c.args.at c.index_mut.result.now c.requires.there c.requires.within c.index_mut.ensures.value in
    not_none a.seat (sym a.is ∙ (sym c.take.ensures.value ∙ c.in_default.is))

pub returns-clause-seat : goal.returns-clause-seat
returns-clause-seat g c =
    let a = row_at c.args.row.now.items c.args.at c.index_mut.result.now c.requires.there c.requires.within c.index_mut.ensures.value in
    a.there ∙ (sym a.is ∙ (sym c.take.ensures.value ∙ c.in-Some.is))
