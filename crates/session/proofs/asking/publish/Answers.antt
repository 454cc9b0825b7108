use Rattle.std.proofs.Common.{Ok, Err, refl, sym}
use Rattle.js_base.specs.declared.out.Out.{Out}
use Rattle.js_api.specs.Answering.{Publish, Took}
use Rattle.session.specs.Peer.{Request, publishing}
use Rattle.session.specs.declared.stop.Stop.TheVariants as stops
use Rattle.session.proofs.Asked.{publishing_right, is_message, asked_one, stopped_as, stopped_by, unsaid}
use Rattle.session.proofs.asking.publish.Goals as goal

pub publish-requires : goal.publish-requires
publish-requires g c = record { message = is_message c.args.message.now c.requires.message (sym c.if-not-is_publishable.ensures.value) }

pub returns-in_err-publish-clause-asks : goal.returns-in_err-publish-clause-asks
returns-in_err-publish-clause-asks g c =
    let message : Out = c.args.message.now in
    let request : Request = publishing c.args.now message in
    stopped_by _ _ request _ _ _ c.args.into.now.items c.args.into.now.items c.from_residual-in_err-publish.result
    (Publish message c.args.now) (Err c.in_err-publish.field-0.0) c.from_residual-in_err-publish.ensures.1
    (publishing_right c.args.now message (sym c.if-not-is_publishable.ensures.value)) c.in_err-publish.ensures.made refl

pub returns-in_err-write_fine-clause-asks : goal.returns-in_err-write_fine-clause-asks
returns-in_err-write_fine-clause-asks g c =
    let message : Out = c.args.message.now in
    let request : Request = publishing c.args.now message in
    stopped_as _ _ request _ _ _ c.args.into.now.items c.write_fine.new.into.items c.from_residual-in_err-write_fine.result
    stops.NoMemory c.from_residual-in_err-write_fine.ensures.1
    (unsaid _ _ _ _ c.args.into.now.items c.write_fine.new.into.items request (Publish message c.args.now) (Ok (Took c.in_ok-publish.field-0))
    (publishing_right c.args.now message (sym c.if-not-is_publishable.ensures.value)) c.in_ok-publish.ensures.made refl)

pub returns-clause-asks : goal.returns-clause-asks
returns-clause-asks g c =
    let message : Out = c.args.message.now in
    asked_one _ _ _ _ (publishing c.args.now message) (Publish message c.args.now) (Ok (Took c.in_ok-publish.field-0)) c.args.manners.verbose c.args.manners.pedantic
    c.args.into.now.items c.write_fine.new.into.items (publishing_right c.args.now message (sym c.if-not-is_publishable.ensures.value)) tt c.in_ok-publish.ensures.made
    c.in_ok-write_fine.ensures.ok
