use Rattle.std.proofs.Common.{sym, subst}
use Rattle.std.specs.Option.{option_copied}
use Rattle.consumer_state.specs.Offering.{IsCurrent}
use Rattle.followed_stream.specs.Followers.{Following}
use Rattle.followed_stream.proofs.Hands.{delivers_for}
use Rattle.followed_stream.proofs.Nexts.{next_small}
use Rattle.followed_stream.proofs.follower.Follower.deliver.Goals as goal

pub deliver_next-requires-clause-small : goal.deliver_next-requires-clause-small
deliver_next-requires-clause-small c = next_small c.args.stored.now c.args.self.now.consumer (option_copied c.next-message.result) c.requires.sound c.next-message.ensures.value

pub returns-clause-delivered : goal.returns-clause-delivered
returns-clause-delivered c =
    let old : Following = record { consumer = c.self.inside.consumer; undelivered = c.self.inside.undelivered } in
    let current : IsCurrent c.args.stored.now old.consumer old.undelivered = subst (λ (f : Following). IsCurrent c.args.stored.now f.consumer f.undelivered) (sym c.self.view_is) c.requires.current in
    rw (c.left_then-self-inside.ensures.value, c.left_if_sent-left.ensures.value)
    (rw (← c.self.view_is)
    (delivers_for c.args.stored.now c.args.listened old c.holds.ensures.progress current c.in_ok-what.what _ _ _ c.deliver_next.new.self c.in_ok-what.ensures.delivered c.in_ok-what.ensures.ready))
