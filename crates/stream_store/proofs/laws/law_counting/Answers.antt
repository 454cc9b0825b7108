use Rattle.stream_store.proofs.Counting.{law_counting}
use Rattle.stream_store.proofs.laws.law_counting.Goals as goal

pub returns : goal.returns
returns c = law_counting
