use Rattle.std.proofs.Common.{refl, inl}
use Rattle.session.proofs.parting.part_at.Goals as goal

pub returns-in-NoMemory-clause-failings : goal.returns-in-NoMemory-clause-failings
returns-in-NoMemory-clause-failings g c = λ none. inl refl
