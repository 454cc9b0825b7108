use Rattle.std.proofs.Common.{refl, sym}
use Rattle.session.specs.declared.ending.Refusal.TheVariants.{BadHeaders}
use Rattle.session.proofs.Asked.{asks_pub, asks_hpub, blockless, declined, stays}
use Rattle.session.proofs.asking.ask.Goals as goal

pub returns-in_ok-message-in-Pub-clause-asks : goal.returns-in_ok-message-in-Pub-clause-asks
returns-in_ok-message-in-Pub-clause-asks g c =
    asks_pub _ _ c.args.manners.now _ c.args.op _ _ _ _ _ _ _ c.publish.result _ c.in-Pub.is (rw c.empty.ensures at c.in_ok-message-in-Pub.ensures.message) c.publish.ensures.asks

pub returns-in_ok-message-in-Pub-clause-peer : goal.returns-in_ok-message-in-Pub-clause-peer
returns-in_ok-message-in-Pub-clause-peer g c = stays c.publish.result _ _ c.args.manners.now c.args.op _ c.in-Pub.is refl c.publish.ensures.client

pub returns-in_ok-message-in-HPub-clause-asks : goal.returns-in_ok-message-in-HPub-clause-asks
returns-in_ok-message-in-HPub-clause-asks g c =
    asks_hpub _ _ c.args.manners.now _ c.args.op _ _ _ _ _ _ _ _ c.publish-in-HPub.result _ c.in-HPub.is
    (rw c.as_slice-in-HPub.ensures at (sym c.if-not-is_block.ensures.value)) c.in_ok-message-in-HPub.ensures.message c.publish-in-HPub.ensures.asks

pub returns-in_ok-message-in-HPub-clause-peer : goal.returns-in_ok-message-in-HPub-clause-peer
returns-in_ok-message-in-HPub-clause-peer g c = stays c.publish-in-HPub.result _ _ c.args.manners.now c.args.op _ c.in-HPub.is refl c.publish-in-HPub.ensures.client

pub returns-then-not-is_block-clause-asks : goal.returns-then-not-is_block-clause-asks
returns-then-not-is_block-clause-asks g c =
    declined _ _ BadHeaders _ _ _ (blockless c.args.now c.args.op _ _ _ _ c.in-HPub.is (rw c.as_slice-in-HPub.ensures at (sym c.if-not-is_block.ensures.value)))
    (g.met.D.Desk.made_nothing c.args.desk.now)
