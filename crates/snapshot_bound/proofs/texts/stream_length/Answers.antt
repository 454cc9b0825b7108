use Rattle.stream_config.proofs.Parts.{printable}
use Rattle.snapshot_bound.proofs.texts.stream_length.Goals as goal

pub stream_text-requires : goal.stream_text-requires
stream_text-requires c = record { utf8 = printable c.args.config.now c.requires.valid }
