use Rattle.std.proofs.Common.{sym}
use Rattle.stream_store.proofs.Vacant.{allowed_first, allowed_none}
use Rattle.stream_store.proofs.missing.allowed.Goals as goal

pub returns-then-file-eq0 : goal.returns-then-file-eq0
returns-then-file-eq0 c = record { value = sym (allowed_first c.args.file c.if-file-eq0.true) }

pub returns-else-file-eq0 : goal.returns-else-file-eq0
returns-else-file-eq0 c = record { value = sym (allowed_none c.args.file c.if-file-eq0.false) }
