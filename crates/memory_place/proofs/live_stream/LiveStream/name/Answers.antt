use Rattle.memory_place.proofs.Shown.{name_shown}
use Rattle.memory_place.proofs.live_stream.LiveStream.name.Goals as goal

pub returns-clause-utf8 : goal.returns-clause-utf8
returns-clause-utf8 c = rw c.config.ensures.value (name_shown c.self.inside.state c.holds.ensures.config)
