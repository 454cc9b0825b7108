use Rattle.desk_streams.proofs.walking.visit.Goals as goal

pub returns-clause-made : goal.returns-clause-made
returns-clause-made g c = record { entries = c.hold-outcome.ensures.made.entries; are = record { outcome = c.hold-outcome.result; holds = c.hold-outcome.ensures.made.are; told = c.add_told.ensures.told }; led = c.hold-outcome.ensures.made.led }
