use Rattle.std.proofs.Common.{◌≡◌, ◌++◌, false, take, drop, map}
use Rattle.std.specs.Prelude.{All}
use Rattle.js_model.specs.declared.stream.Message.{Message}
use Rattle.followed_stream.specs.Delivering.{IsCurrentAt}
use Rattle.followed_stream.specs.Followers.{standing, Following}
use Rattle.followed_stream.specs.Needing.{NeedSame}
use Rattle.followed_stream.specs.Spans.{spans}
use Rattle.followed_stream.proofs.follower.advance_all.Given as goal

-- time has passed for the followers so far, which stand at the moment, the others are as they were, and outside the span they need the same
abbrev pub invariant-loop-follower : goal.invariant-loop-follower
invariant-loop-follower l = record {
  stand : l.followers ≡ map (standing l.fn.now) (take l.follower-index l.initial.followers) ++ drop l.follower-index l.initial.followers;
  needed : (m : Message) → spans l.loose m.seq ≡ false → NeedSame m (map (λ f. f.consumer) l.followers) (map (λ f. f.consumer) l.initial.followers);
  current : All (λ (f : Following). IsCurrentAt l.fn.now f.consumer) (take l.follower-index l.followers);
}
