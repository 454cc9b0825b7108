use Rattle.std.specs.Option.{option_copied}
use Rattle.followed_stream.proofs.Nexts.{next_is}
use Rattle.followed_stream.proofs.follower.Follower.next.Goals as goal

pub returns : goal.returns
returns c = record {
  value = rw (← c.self.view_is) (next_is c.args.stored.now c.self.inside.consumer c.in_ok-seq.seq (option_copied c.get.result) c.requires.current.order c.in_ok-seq.ensures.offer c.get.ensures.value);
}
