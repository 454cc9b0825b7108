use Rattle.std.proofs.Common.{Ok}
use Rattle.js_api.specs.Api.{TakesByApi}
use Rattle.js_api.specs.OneConsumer.{IsAcknowledging}
use Rattle.desk_ground.specs.Callers.{client_of}
use Rattle.desk_ground.proofs.Stages.{goes_on, stops_by}
use Rattle.desk_calls.proofs.AckCalls.{read, same_stream}
use Rattle.desk_calls.proofs.publishing.hand_on.Goals as goal

pub returns-in_err-taken-clause-made : goal.returns-in_err-taken-clause-made
returns-in_err-taken-clause-made g c =
    let same = same_stream c.read.result c.args.ack.now.stream c.as_slice.result.now c.in-Ok.stream c.in-Ok.is c.read.ensures c.as_slice.ensures c.requires.named in
    read g.G.Ground.made (client_of c.args.caller) c.args.message.now c.args.now (Ok c.args.ack.now) _ _ _ c.requires.read
    (stops_by g.G.Ground.made (IsAcknowledging (Ok c.args.ack.now) c.args.message.now.reply c.args.now) (TakesByApi (client_of c.args.caller) c.args.message.now) c.acknowledge.result _ _ _ _
    c.in_err-taken.was c.from_residual.ensures.1 (rw same at c.acknowledge.ensures.made))

pub returns-clause-made : goal.returns-clause-made
returns-clause-made g c =
    let same = same_stream c.read.result c.args.ack.now.stream c.as_slice.result.now c.in-Ok.stream c.in-Ok.is c.read.ensures c.as_slice.ensures c.requires.named in
    read g.G.Ground.made (client_of c.args.caller) c.args.message.now c.args.now (Ok c.args.ack.now) _ _ _ c.requires.read
    (goes_on g.G.Ground.made g.met.G.Ground.made_more (IsAcknowledging (Ok c.args.ack.now) c.args.message.now.reply c.args.now) (TakesByApi (client_of c.args.caller) c.args.message.now) c.acknowledge.result
    c.in_ok-taken.taken c.taken_by_api.result _ _ _ c.in_ok-taken.was (rw same at c.acknowledge.ensures.made) c.taken_by_api.ensures.made)
