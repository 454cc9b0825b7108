use Rattle.stream_config.proofs.Defaults.{default_read}
use Rattle.stream_config.proofs.laws.law_default.Goals as goal

pub returns : goal.returns
returns c = record { default = default_read }
