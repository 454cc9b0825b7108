use Rattle.memory_place.proofs.Answering.{shows}
use Rattle.memory_place.proofs.live_stream.LiveStream.show.Goals as goal

pub returns-clause-acts : goal.returns-clause-acts
returns-clause-acts c = shows c.args.self.now c.release.new.self _ (record { value = c.release.ensures.value; again = c.release.ensures.again }) c.in_ok-info.ensures.value
