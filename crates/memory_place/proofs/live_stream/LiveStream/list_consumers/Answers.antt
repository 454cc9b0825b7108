use Rattle.memory_place.proofs.Answering.{infos_listed}
use Rattle.memory_place.proofs.Shown.{infos_sound}
use Rattle.memory_place.proofs.live_stream.LiveStream.list_consumers.Goals as goal

pub returns-clause-acts : goal.returns-clause-acts
returns-clause-acts c =
    infos_listed c.args.self.now c.release.new.self c.args.offset _ _ (record { value = c.release.ensures.value; again = c.release.ensures.again })
    (rw c.self.view_is at c.consumer_count-total.ensures.value) (rw c.self-2.view_is at c.in_ok-consumer_infos.ensures.value)

pub returns-clause-shown : goal.returns-clause-shown
returns-clause-shown c = infos_sound c.self-2.inside.state c.args.offset _ c.holds.ensures.config c.holds.ensures.proper c.in_ok-consumer_infos.ensures.value
