use Rattle.session.proofs.Parted.{parts_whole, parts_starved}
use Rattle.session.proofs.Failed.{none_fails, giving_fails}
use Rattle.std.proofs.Common.{refl, inl}
use Rattle.session.proofs.parting.part.Goals as goal

pub returns-in-Err-clause-parts : goal.returns-in-Err-clause-parts
returns-in-Err-clause-parts g c = parts_starved _ _ _ c.requires.parting c.in-Err.ensures.err

pub returns-in-Ok-give_all-clause-parts : goal.returns-in-Ok-give_all-clause-parts
returns-in-Ok-give_all-clause-parts g c =
    parts_whole _ _ _ _ _ c.requires.parting c.in-Ok.ensures.ok (rw c.as_slice.ensures.value at c.in-Ok-give_all.ensures.given)

pub returns-in-Ok-give_all-clause-failings : goal.returns-in-Ok-give_all-clause-failings
returns-in-Ok-give_all-clause-failings g c = none_fails c.args.cause _ _ c.requires.parting c.in-Ok-give_all.ensures.failings

pub returns-in-Err-give_all-clause-failings : goal.returns-in-Err-give_all-clause-failings
returns-in-Err-give_all-clause-failings g c = giving_fails c.in-Err-give_all.fault _ _ _ _ (λ none. refl) c.from.ensures c.in-Err-give_all.ensures.failings

pub returns-in-Err-clause-failings : goal.returns-in-Err-clause-failings
returns-in-Err-clause-failings g c = λ none. inl refl
