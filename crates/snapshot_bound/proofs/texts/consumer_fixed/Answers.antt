use Rattle.consumer_config.proofs.Parts.{printable}
use Rattle.snapshot_bound.proofs.texts.consumer_fixed.Goals as goal

pub consumer_text-requires : goal.consumer_text-requires
consumer_text-requires c = record { utf8 = printable c.args.config.now c.requires.valid }
