use Rattle.session.proofs.Ticked.{ticked_whole, tick_parted, tick_given}
use Rattle.std.proofs.Common.{refl}
use Rattle.session.proofs.Failed.{giving_fails}
use Rattle.session.proofs.ticking.end_turn.Goals as goal

pub returns-in-Err-clause-ticks : goal.returns-in-Err-clause-ticks
returns-in-Err-clause-ticks g c = tick_parted _ _ _ _ _ _ _ _ _ c.in-Err.stop _ c.in-Err.ensures.carries c.part_at.ensures.parts

pub returns-in-Ok-give_all-clause-ticks : goal.returns-in-Ok-give_all-clause-ticks
returns-in-Ok-give_all-clause-ticks g c =
    ticked_whole _ _ _ _ _ _ _ _ _ c.in-Ok.ensures.carries (rw c.as_slice.ensures.value at c.in-Ok-give_all.ensures.given)

pub returns-in-Err-give_all-clause-ticks : goal.returns-in-Err-give_all-clause-ticks
returns-in-Err-give_all-clause-ticks g c =
    tick_given _ _ _ _ _ _ _ _ _ c.in-Err-give_all.fault _ c.in-Ok.ensures.carries
    (rw c.as_slice.ensures.value at c.in-Err-give_all.ensures.given) c.from.ensures

pub returns-in-Err-give_all-clause-failings : goal.returns-in-Err-give_all-clause-failings
returns-in-Err-give_all-clause-failings g c = giving_fails c.in-Err-give_all.fault _ _ _ _ (λ none. refl) c.from.ensures c.in-Err-give_all.ensures.failings
