use Rattle.followed_stream.proofs.Attending.{sound_with}
use Rattle.followed_stream.proofs.later.LaterFollowedStream.at.Goals as goal

pub at-seen-requires : goal.at-seen-requires
at-seen-requires c = record { sound = sound_with _ c.args.stored.now.consumers c.requires.followed.attended.sound }
