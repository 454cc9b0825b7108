use Rattle.nats_frames.proofs.Framing.{framing}
use Rattle.nats_frames.proofs.laws.law_framing.Goals as goal

pub returns : goal.returns
returns c = record { framed = framing }
