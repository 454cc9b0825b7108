use Rattle.std.proofs.Common.{Err, None, Ok, Some}
use Rattle.desk_ground.specs.Callers.{client_of}
use Rattle.desk_calls.proofs.ApiCalls.{read, unread}
use Rattle.desk_calls.proofs.publishing.publish_to_api.Goals as goal

pub returns-in-Ok-Some-clause-made : goal.returns-in-Ok-Some-clause-made
returns-in-Ok-Some-clause-made g c = read g.G.Ground.made (client_of c.args.caller) c.args.message.now c.args.now (Some (Ok c.in-Ok-Some.request)) c.publish_call.result _ _ (rw (c.in-Ok-Some.is, c.in-Ok-Some.field-0-is) at (rw (c.as_slice-to.ensures, c.as_slice.ensures) at c.read_request.ensures.reading)) c.publish_call.ensures.made

pub returns-in-Ok-None-clause-made : goal.returns-in-Ok-None-clause-made
returns-in-Ok-None-clause-made g c = read g.G.Ground.made (client_of c.args.caller) c.args.message.now c.args.now None c.tell_untaken.result _ _ (rw (c.in-Ok-None.is, c.in-Ok-None.field-0-is) at (rw (c.as_slice-to.ensures, c.as_slice.ensures) at c.read_request.ensures.reading)) c.tell_untaken.ensures.made

pub returns-in-Err-Refused-clause-made : goal.returns-in-Err-Refused-clause-made
returns-in-Err-Refused-clause-made g c = read g.G.Ground.made (client_of c.args.caller) c.args.message.now c.args.now (Some (Err c.in-Err-Refused.refusal)) c.refuse_call.result _ _ (rw (c.in-Err-Refused.is, c.in-Err-Refused.field-0-is) at (rw (c.as_slice-to.ensures, c.as_slice.ensures) at c.read_request.ensures.reading)) (rw c.in-Err-Refused.refusal-is at (c.refuse_call.ensures.made c.args.now))

pub returns-in-Err-NoMemory-clause-made : goal.returns-in-Err-NoMemory-clause-made
returns-in-Err-NoMemory-clause-made g c = unread g.G.Ground.made (client_of c.args.caller) c.args.message.now c.args.now _ (g.met.G.Ground.made_nothing _)
