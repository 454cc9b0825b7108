use Rattle.stream_store.proofs.Placings.{law_placing}
use Rattle.stream_store.proofs.laws.law_placing.Goals as goal

pub returns : goal.returns
returns c = law_placing
