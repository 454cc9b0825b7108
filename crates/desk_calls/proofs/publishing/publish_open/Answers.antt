use Rattle.std.proofs.Common.{sym, ◌∙◌}
use Rattle.js_api.specs.Api.{PublishesAck, PublishesToApi}
use Rattle.js_api.specs.Publishing.{PublishesPlain}
use Rattle.desk_ground.specs.Callers.{client_of}
use Rattle.desk_ground.proofs.Stages.{if_not, if_so}
use Rattle.desk_calls.proofs.publishing.publish_open.Goals as goal

pub returns-then-is_api-clause-made : goal.returns-then-is_api-clause-made
returns-then-is_api-clause-made g c =
    let api = rw c.as_slice-to.ensures at (sym c.is_api.ensures.value ∙ c.if-is_api.true) in
    if_so g.G.Ground.made _ (PublishesToApi (client_of c.args.caller) c.args.message.now c.args.now c.publish_to_api.result) _ _ _ api c.publish_to_api.ensures.made

pub returns-then-is_acknowledgement-clause-made : goal.returns-then-is_acknowledgement-clause-made
returns-then-is_acknowledgement-clause-made g c =
    let other = rw c.as_slice-to.ensures at (sym c.is_api.ensures.value ∙ c.if-is_api.false) in
    let acknowledgement = rw c.as_slice-to.ensures at (sym c.is_acknowledgement.ensures.value ∙ c.if-is_acknowledgement.true) in
    if_not g.G.Ground.made _ _ _ _ _ other
    (if_so g.G.Ground.made _ (PublishesAck (client_of c.args.caller) c.args.message.now c.args.now c.publish_ack.result) _ _ _ acknowledgement c.publish_ack.ensures.made)

pub returns-else-is_acknowledgement-clause-made : goal.returns-else-is_acknowledgement-clause-made
returns-else-is_acknowledgement-clause-made g c =
    let other = rw c.as_slice-to.ensures at (sym c.is_api.ensures.value ∙ c.if-is_api.false) in
    let plain = rw c.as_slice-to.ensures at (sym c.is_acknowledgement.ensures.value ∙ c.if-is_acknowledgement.false) in
    if_not g.G.Ground.made _ _ _ _ _ other
    (if_not g.G.Ground.made _ _ (PublishesPlain (client_of c.args.caller) c.args.message.now c.args.now c.publish_plain.result) _ _ plain c.publish_plain.ensures.made)

pub publish_plain-requires-clause-plain : goal.publish_plain-requires-clause-plain
publish_plain-requires-clause-plain g c = record {
  api = rw c.as_slice-to.ensures at (sym c.is_api.ensures.value ∙ c.if-is_api.false);
  acknowledgement = rw c.as_slice-to.ensures at (sym c.is_acknowledgement.ensures.value ∙ c.if-is_acknowledgement.false);
}
