use Rattle.memory_place.proofs.Answering.{names_listed}
use Rattle.memory_place.proofs.Shown.{names_sound}
use Rattle.memory_place.proofs.live_stream.LiveStream.list_names.Goals as goal

pub returns-clause-acts : goal.returns-clause-acts
returns-clause-acts c = rw (← c.self.view_is) (names_listed c.self.inside.state c.args.offset _ _ c.consumer_count.ensures.value c.in_ok-consumer_names.ensures.value)

pub returns-clause-shown : goal.returns-clause-shown
returns-clause-shown c = names_sound c.self.inside.state c.args.offset _ c.holds.ensures.proper c.in_ok-consumer_names.ensures.value
