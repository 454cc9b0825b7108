use Rattle.std.proofs.lemmas.Grind.{common_steps}
use Rattle.std.proofs.Common.{arith}
use Rattle.api_requests.specs.Requests.{request_of}
use Rattle.api_requests.proofs.Answered.{read_is, refused_is}
use Rattle.api_requests.proofs.reading.read_request.Goals as goal

pub returns-in-Some-clause-reading : goal.returns-in-Some-clause-reading
unfolding request_of
returns-in-Some-clause-reading c = grind (arith, common_steps)

pub returns-in-Some-clause-request : goal.returns-in-Some-clause-request
returns-in-Some-clause-request c = read_is c.args.subject.now c.args.body.now c.map.result (returns-in-Some-clause-reading c)

pub returns-in-Some-clause-refusal : goal.returns-in-Some-clause-refusal
returns-in-Some-clause-refusal c = refused_is c.args.subject.now c.args.body.now c.map.result (returns-in-Some-clause-reading c)

pub returns-in-Some-stream_call-clause-reading : goal.returns-in-Some-stream_call-clause-reading
unfolding request_of
returns-in-Some-stream_call-clause-reading c = grind (arith, common_steps)

pub returns-in-Some-stream_call-clause-request : goal.returns-in-Some-stream_call-clause-request
returns-in-Some-stream_call-clause-request c = read_is c.args.subject.now c.args.body.now c.map-in-Some-stream_call.result (returns-in-Some-stream_call-clause-reading c)

pub returns-in-Some-stream_call-clause-refusal : goal.returns-in-Some-stream_call-clause-refusal
returns-in-Some-stream_call-clause-refusal c = refused_is c.args.subject.now c.args.body.now c.map-in-Some-stream_call.result (returns-in-Some-stream_call-clause-reading c)

pub returns-in-Some-consumer_call-clause-reading : goal.returns-in-Some-consumer_call-clause-reading
unfolding request_of
returns-in-Some-consumer_call-clause-reading c = grind (arith, common_steps)

pub returns-in-Some-consumer_call-clause-request : goal.returns-in-Some-consumer_call-clause-request
returns-in-Some-consumer_call-clause-request c = read_is c.args.subject.now c.args.body.now c.map-in-Some-consumer_call.result (returns-in-Some-consumer_call-clause-reading c)

pub returns-in-Some-consumer_call-clause-refusal : goal.returns-in-Some-consumer_call-clause-refusal
returns-in-Some-consumer_call-clause-refusal c = refused_is c.args.subject.now c.args.body.now c.map-in-Some-consumer_call.result (returns-in-Some-consumer_call-clause-reading c)
