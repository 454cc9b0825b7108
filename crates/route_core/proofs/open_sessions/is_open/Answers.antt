use Rattle.std.proofs.Common.{◌∙◌}
use Rattle.route_core.proofs.Searching.{some_place}
use Rattle.route_core.proofs.open_sessions.is_open.Goals as goal

pub returns : goal.returns
returns c = record { value = c.is_some.ensures ∙ some_place c.args.number c.args.sessions.now c.place_of.result c.place_of.ensures.value }
