use Rattle.std.proofs.Common.{◌∙◌}
use Rattle.std.proofs.lemmas.Bool.{and_parts}
use Rattle.std.proofs.lemmas.Result.{IfOk-weaker}
use Rattle.memory_place.proofs.Recorded.{at_err, at_ok, rests}
use Rattle.memory_place.proofs.RecordedStreams.{making_again, reading, showing}
use Rattle.memory_place.proofs.live_stream.LiveStream.act.Goals as goal

pub publish-requires-clause-told : goal.publish-requires-clause-told
publish-requires-clause-told c = c.requires.told c.in-Publish.publish c.in-Publish.is

pub ask_consumer-requires-clause-valid : goal.ask_consumer-requires-clause-valid
ask_consumer-requires-clause-valid c = (and_parts _ _ (and_parts _ _ (rw c.in-MakeConsumer.is at c.requires.proper)).0).1

pub returns-in-Make-clause-acts : goal.returns-in-Make-clause-acts
returns-in-Make-clause-acts c = rw c.in-Make.is (IfOk-weaker c.make_again.result _ _ (λ reply h. h c.args.outs.now) c.make_again.ensures.acts)

pub returns-in-Change-clause-acts : goal.returns-in-Change-clause-acts
returns-in-Change-clause-acts c = rw c.in-Change.is (IfOk-weaker c.change.result _ _ (λ reply h. h c.args.outs.now) c.change.ensures.acts)

pub returns-in-Publish-clause-acts : goal.returns-in-Publish-clause-acts
returns-in-Publish-clause-acts c = rw c.in-Publish.is (IfOk-weaker c.publish.result _ _ (λ reply h. h c.args.outs.now) c.publish.ensures.acts)

pub returns-in-Purge-clause-acts : goal.returns-in-Purge-clause-acts
returns-in-Purge-clause-acts c = rw c.in-Purge.is (IfOk-weaker c.purge.result _ _ (λ reply h. h c.args.outs.now) (rw c.as_slice.ensures at c.purge.ensures.acts))

pub returns-in-Delete-clause-acts : goal.returns-in-Delete-clause-acts
returns-in-Delete-clause-acts c = rw c.in-Delete.is (IfOk-weaker c.delete.result _ _ (λ reply h. h c.args.outs.now) c.delete.ensures.acts)

pub returns-in-MakeConsumer-clause-acts : goal.returns-in-MakeConsumer-clause-acts
returns-in-MakeConsumer-clause-acts c = rw c.in-MakeConsumer.is (IfOk-weaker c.ask_consumer.result _ _ (λ reply h. h c.args.outs.now) c.ask_consumer.ensures.acts)

pub returns-in-DropConsumer-clause-acts : goal.returns-in-DropConsumer-clause-acts
returns-in-DropConsumer-clause-acts c = rw c.in-DropConsumer.is c.drop_consumer.ensures.acts

pub returns-in-Ack-clause-acts : goal.returns-in-Ack-clause-acts
returns-in-Ack-clause-acts c = rw c.in-Ack.is (rw c.as_ref.ensures.value at c.ack.ensures.acts)

pub returns-in-Pull-clause-acts : goal.returns-in-Pull-clause-acts
returns-in-Pull-clause-acts c = rw c.in-Pull.is (rw c.as_ref-in-Pull.ensures.value at c.pull.ensures.acts)

pub returns-in-StreamInfo-clause-acts : goal.returns-in-StreamInfo-clause-acts
returns-in-StreamInfo-clause-acts c = rw c.in-StreamInfo.is (IfOk-weaker c.show.result _ _ (λ reply h. h c.args.outs.now) c.show.ensures.acts)

pub returns-in-MessageGet-clause-acts : goal.returns-in-MessageGet-clause-acts
returns-in-MessageGet-clause-acts c = rw c.in-MessageGet.is (IfOk-weaker c.read.result _ _ (λ reply h. h c.args.outs.now) c.read.ensures.acts)

pub returns-in-ConsumerInfo-clause-acts : goal.returns-in-ConsumerInfo-clause-acts
returns-in-ConsumerInfo-clause-acts c = rw c.in-ConsumerInfo.is (IfOk-weaker c.show_consumer.result _ _ (λ reply h. h c.args.outs.now) c.show_consumer.ensures.acts)

pub returns-in-ConsumerNames-clause-acts : goal.returns-in-ConsumerNames-clause-acts
returns-in-ConsumerNames-clause-acts c = rw c.in-ConsumerNames.is (IfOk-weaker c.list_names.result _ _ (λ reply h. h c.args.outs.now) c.list_names.ensures.acts)

pub returns-in-ConsumerList-clause-acts : goal.returns-in-ConsumerList-clause-acts
returns-in-ConsumerList-clause-acts c = rw c.in-ConsumerList.is (IfOk-weaker c.list_consumers.result _ _ (λ reply h. h c.args.outs.now) c.list_consumers.ensures.acts)

pub returns-in-Make-clause-recorded : goal.returns-in-Make-clause-recorded
returns-in-Make-clause-recorded c = rw c.in-Make.is (at_ok c.make_again.result (c.make_again.ensures.recorded ∙ making_again c.args.self.now c.in-Make.config))

pub returns-in-Change-clause-recorded : goal.returns-in-Change-clause-recorded
returns-in-Change-clause-recorded c = rw c.in-Change.is (c.change.ensures.recorded c.in-Change.reply)

pub returns-in-Publish-clause-recorded : goal.returns-in-Publish-clause-recorded
returns-in-Publish-clause-recorded c = rw c.in-Publish.is c.publish.ensures.recorded

pub returns-in-Purge-clause-recorded : goal.returns-in-Purge-clause-recorded
returns-in-Purge-clause-recorded c = rw c.in-Purge.is (rw c.as_slice.ensures at (c.purge.ensures.recorded c.in-Purge.reply))

pub returns-in-Delete-clause-recorded : goal.returns-in-Delete-clause-recorded
returns-in-Delete-clause-recorded c = rw c.in-Delete.is (c.delete.ensures.recorded c.in-Delete.reply)

pub returns-in-MakeConsumer-clause-recorded : goal.returns-in-MakeConsumer-clause-recorded
returns-in-MakeConsumer-clause-recorded c = rw c.in-MakeConsumer.is (c.ask_consumer.ensures.recorded c.in-MakeConsumer.reply)

pub returns-in-DropConsumer-clause-recorded : goal.returns-in-DropConsumer-clause-recorded
returns-in-DropConsumer-clause-recorded c = rw c.in-DropConsumer.is (c.drop_consumer.ensures.recorded c.in-DropConsumer.reply)

pub returns-in-Ack-clause-recorded : goal.returns-in-Ack-clause-recorded
returns-in-Ack-clause-recorded c = rw c.in-Ack.is (rw c.as_ref.ensures.value at c.ack.ensures.recorded)

pub returns-in-Pull-clause-recorded : goal.returns-in-Pull-clause-recorded
returns-in-Pull-clause-recorded c = rw c.in-Pull.is (rw c.as_ref-in-Pull.ensures.value at c.pull.ensures.recorded)

pub returns-in-MessageGet-clause-recorded : goal.returns-in-MessageGet-clause-recorded
returns-in-MessageGet-clause-recorded c = rw c.in-MessageGet.is (at_ok c.read.result (rw (← c.self.view_is) (rests c.args.own.now c.self.inside.state c.requires.fresh c.holds.ensures.settled ∙ reading c.self.inside.state c.in-MessageGet.by)))

pub returns-in-ConsumerInfo-clause-recorded : goal.returns-in-ConsumerInfo-clause-recorded
returns-in-ConsumerInfo-clause-recorded c = rw c.in-ConsumerInfo.is (at_ok c.show_consumer.result (c.show_consumer.ensures.recorded ∙ showing c.args.self.now c.in-ConsumerInfo.name))

pub returns-in-ConsumerNames-clause-recorded : goal.returns-in-ConsumerNames-clause-recorded
returns-in-ConsumerNames-clause-recorded c = rw c.in-ConsumerNames.is (at_ok c.list_names.result (rw (← c.self.view_is) (rests c.args.own.now c.self.inside.state c.requires.fresh c.holds.ensures.settled)))

pub returns-in-MessageGet-clause-err_recorded : goal.returns-in-MessageGet-clause-err_recorded
returns-in-MessageGet-clause-err_recorded c = at_err c.read.result (rw (← c.self.view_is) (rests c.args.own.now c.self.inside.state c.requires.fresh c.holds.ensures.settled))

pub returns-in-ConsumerNames-clause-err_recorded : goal.returns-in-ConsumerNames-clause-err_recorded
returns-in-ConsumerNames-clause-err_recorded c = at_err c.list_names.result (rw (← c.self.view_is) (rests c.args.own.now c.self.inside.state c.requires.fresh c.holds.ensures.settled))
