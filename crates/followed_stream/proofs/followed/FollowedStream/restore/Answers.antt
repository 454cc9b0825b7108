use Rattle.std.proofs.Common.{◌∙◌}
use Rattle.followed_stream.proofs.Restored.{restored_attended, restored_followed}
use Rattle.followed_stream.proofs.followed.FollowedStream.restore.Goals as goal

pub invariant_of-result : goal.invariant_of-result
invariant_of-result c =
    restored_followed c.args.kept.now c.in_ok-stored.stored c.in_ok-followers.followers.items c.requires.kept c.in_ok-stored.ensures.value (c.in_ok-followers.ensures.value ∙ c.as_slice.ensures) c.in_ok-followers.ensures.counted

pub returns-clause-sound : goal.returns-clause-sound
returns-clause-sound c =
    restored_attended c.args.kept.now c.in_ok-stored.stored c.in_ok-followers.followers.items c.requires.kept c.in_ok-stored.ensures.value (c.in_ok-followers.ensures.value ∙ c.as_slice.ensures)
