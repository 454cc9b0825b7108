use Rattle.std.proofs.Common.{◌≡◌, ◌∙◌, ℕ, Some, ap, refl, rules}
use Rattle.std.specs.Prelude.{is_some}
use Rattle.place_records.specs.declared.made.OwnRecords.{OwnRecords}
use Rattle.js_model.specs.Events.{message_at, settled, with_message}
use Rattle.memory_place.proofs.Answering.{settled_trimmed}
use Rattle.memory_place.proofs.Recorded.{copied_some}
use Rattle.memory_place.proofs.RecordedStreams.{publishes, stored_then}
use Rattle.memory_place.proofs.live_stream.LiveStream.store.Goals as goal

pub returns-clause-recorded : goal.returns-clause-recorded
returns-clause-recorded c =
    let s = c.self.inside.state in
    let p = c.args.publish.now in
    let own : OwnRecords = record { effect = c.args.own.now.effect; removed = c.publish.new.gone } in
    let stored : c.release.new.self ≡ settled (with_message s p) = c.release.ensures.value ∙ settled_trimmed (with_message s p) c.publish.new.self c.in_ok-seq.ensures.ok c.publish.ensures.settled in
    let id_is : c.in_ok-id.id ≡ p.wants.id = search rules in
    rw (← c.self.view_is)
    (publishes s p c.holds.ensures.order c.release.new.own c.record.new.self c.release.new.self c.is_some-is_kept.result (rw (← c.self.view_is) at c.requires.taken)
    (c.release.ensures.effect ∙ c.requires.fresh.none)
    (c.release.ensures.recorded ∙ stored_then s p c.holds.ensures.order c.args.own.now own c.publish.new.self c.requires.fresh refl c.in_ok-seq.ensures.gone c.in_ok-seq.ensures.ok)
    (ap (λ (o : OwnRecords). o.effect) c.record.ensures.value ∙ ap Some (rw (c.in_ok-message.ensures.value, c.last.ensures.value, c.moment.ensures.value, id_is) at c.put_effect.ensures.value))
    (ap (λ (o : OwnRecords). o.removed) c.record.ensures.value) stored c.release.ensures.kept
    (c.is_some-is_kept.ensures ∙ copied_some c.get.result ∙ ap is_some (rw c.self-2.view_is at c.get.ensures.value) ∙ ap (λ (n : ℕ). is_some (message_at c.release.new.self n)) c.in_ok-seq.ensures.seq))
