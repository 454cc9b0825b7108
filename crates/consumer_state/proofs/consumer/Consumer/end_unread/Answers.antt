use Rattle.std.proofs.Common.{ap}
use Rattle.consumer_state.proofs.Unreads.{ends_unread}
use Rattle.consumer_state.specs.Keeping.{kept_of}
use Rattle.consumer_state.proofs.consumer.Consumer.end_unread.Goals as goal

pub returns : goal.returns
returns c = record { ended = ends_unread (kept_of c.self.inside.name c.self.inside.made c.self.inside.config c.self.inside.progress c.self.inside.pulls c.self.inside.mark) c.args.self.now c.self.view_is c.args.size c.args.now c.take_front.new.self.pulls c.requires.small (ap (λ q. q.pulls) c.take_front.ensures.left) }
