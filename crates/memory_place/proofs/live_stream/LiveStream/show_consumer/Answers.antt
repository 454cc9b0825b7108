use Rattle.memory_place.proofs.Answering.{consumer_not_shown, consumer_shown, Released}
use Rattle.memory_place.proofs.Shown.{consumer_sound, no_consumer_utf8}
use Rattle.memory_place.proofs.live_stream.LiveStream.show_consumer.Goals.{in-Some, in-None+in_ok-no_consumer-in-None}
use Rattle.memory_place.proofs.live_stream.LiveStream.show_consumer.Goals as goal

pub returns-clause-acts : goal.returns-clause-acts
returns-clause-acts c =
    let released : Released c.args.self.now c.release.new.self = record { value = c.release.ensures.value; again = c.release.ensures.again } in
    elim c.match-branch-2.branch [
      | in-Some w ↦ rw w.result-is (consumer_shown c.args.self.now c.release.new.self c.args.name.now _ released (rw (w.in-Some.is, c.self.view_is) at c.in_ok-info.ensures.value))
      | in-None+in_ok-no_consumer-in-None w ↦
          rw (w.result-is, w.in_ok-no_consumer-in-None.ensures.value)
          (consumer_not_shown c.args.self.now c.release.new.self c.args.name.now released (rw (w.in-None.is, c.self.view_is) at c.in_ok-info.ensures.value))
    ]

pub returns-clause-shown : goal.returns-clause-shown
returns-clause-shown c =
    elim c.match-branch-2.branch [
      | in-Some w ↦ rw w.result-is (consumer_sound c.self.inside.state c.args.name.now _ c.holds.ensures.config c.holds.ensures.proper (rw w.in-Some.is at c.in_ok-info.ensures.value))
      | in-None+in_ok-no_consumer-in-None w ↦ rw w.result-is (no_consumer_utf8 _ w.in_ok-no_consumer-in-None.ensures.value)
    ]
