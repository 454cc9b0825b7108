use Rattle.std.proofs.Common.{◌∙◌, not}
use Rattle.route_core.proofs.Searching.{asked, asked_none}
use Rattle.route_core.proofs.open_sessions.is_deaf.Goals as goal

pub returns-in-Some : goal.returns-in-Some
returns-in-Some c = record {
  value = c.is_deaf.ensures.value
      ∙ asked c.args.number (λ session. not session.echo) c.args.sessions.now c.requires.numbered c.place_of.result c.in-Some.at c.index-sessions-at.result c.place_of.ensures.value c.in-Some.is c.index-sessions-at.is;
}

pub returns-in-None : goal.returns-in-None
returns-in-None c = record { value = asked_none c.args.number (λ session. not session.echo) c.args.sessions.now c.place_of.result c.place_of.ensures.value c.in-None.is }
