use Rattle.desk_calls.proofs.api.carry_out.Goals as goal

pub returns-in-StreamPurge-clause-made : goal.returns-in-StreamPurge-clause-made
returns-in-StreamPurge-clause-made g c = rw c.in-StreamPurge.is c.purge_stream.ensures.made

pub returns-in-StreamMsgGet-clause-made : goal.returns-in-StreamMsgGet-clause-made
returns-in-StreamMsgGet-clause-made g c = rw c.in-StreamMsgGet.is c.read_message.ensures.made

pub returns-in-ConsumerCreate-clause-made : goal.returns-in-ConsumerCreate-clause-made
returns-in-ConsumerCreate-clause-made g c = rw c.in-ConsumerCreate.is c.make_consumer.ensures.made

pub returns-in-ConsumerDurableCreate-clause-made : goal.returns-in-ConsumerDurableCreate-clause-made
returns-in-ConsumerDurableCreate-clause-made g c = rw c.in-ConsumerDurableCreate.is c.make_consumer-in-ConsumerDurableCreate.ensures.made

pub returns-in-ConsumerInfo-clause-made : goal.returns-in-ConsumerInfo-clause-made
returns-in-ConsumerInfo-clause-made g c = rw c.in-ConsumerInfo.is c.show_consumer.ensures.made

pub returns-in-ConsumerDelete-clause-made : goal.returns-in-ConsumerDelete-clause-made
returns-in-ConsumerDelete-clause-made g c = rw c.in-ConsumerDelete.is c.drop_consumer.ensures.made

pub returns-in-ConsumerMsgNext-clause-made : goal.returns-in-ConsumerMsgNext-clause-made
returns-in-ConsumerMsgNext-clause-made g c = rw c.in-ConsumerMsgNext.is c.pull.ensures.made
