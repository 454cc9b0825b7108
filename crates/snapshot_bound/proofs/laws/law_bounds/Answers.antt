use Rattle.snapshot_bound.proofs.Asked.{law_asked, law_parts}
use Rattle.snapshot_bound.proofs.Covers.{law_covers}
use Rattle.snapshot_bound.proofs.Growing.{law_growth}
use Rattle.snapshot_bound.proofs.laws.law_bounds.Goals as goal

pub returns : goal.returns
returns c = record { covers = law_covers; growth = law_growth; asked = law_asked; parts = law_parts }
