use Rattle.std.proofs.Common.{◌∙◌, sym}
use Rattle.route_core.proofs.Tables.{named_there}
use Rattle.route_core.proofs.table.number_under.Goals as goal

pub returns-then-is_under_at : goal.returns-then-is_under_at
returns-then-is_under_at c =
    record { value = sym (named_there c.args.subscriptions.now.entries c.args.names.now c.requires.named c.args.session c.args.sid.now c.args.likely (sym c.is_under_at.ensures.value ∙ c.if-is_under_at.true)) }
