use Rattle.std.proofs.Common.{◌∙◌, sym}
use Rattle.stream_store.proofs.Known.{reserved_short}
use Rattle.stream_store.proofs.store.Store.is_reserved.Goals as goal

pub returns-clause-short : goal.returns-clause-short
returns-clause-short c = λ is. reserved_short c.self.inside.rooms c.args.count c.self.invariant.1.1 (sym c.is_reserved.ensures.value ∙ is)
