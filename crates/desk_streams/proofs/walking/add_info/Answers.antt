use Rattle.desk_streams.proofs.Walks.{adds_one}
use Rattle.desk_streams.proofs.walking.add_info.Goals as goal

pub returns-in-Info-clause-sound : goal.returns-in-Info-clause-sound
returns-in-Info-clause-sound c = rw c.push_reserved.ensures.items (adds_one c.args.infos.now.items c.in-Info.info (rw c.in-Info.is at c.requires.shown))
