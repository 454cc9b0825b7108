use Rattle.std.proofs.Common.{sym}
use Rattle.desk_answers.proofs.Ordered.{with_info_at}
use Rattle.desk_answers.proofs.ordering.insert.Goals as goal

pub returns : goal.returns
returns c =
    record { ok = rw (c.in_ok-insert.ensures.items, c.count_before-at.ensures.value, c.as_slice.ensures.value, c.as_slice-2.ensures) (sym (with_info_at c.args.info c.args.infos.now.items)) }
