use Rattle.std.proofs.Common.{rules, tests, not}
use Rattle.std.proofs.lemmas.Fn.{filter_same}
use Rattle.js_base.specs.Bytes.{same}
use Rattle.log_replay.proofs.consumers.remove_one.Goals as goal

pub returns : goal.returns
returns c = record { left = filter_same _ (λ d. not (same d.name c.args.name.now)) _ (λ x b f' k. search (rules, tests)) _ _ c.retain.ensures.filtered }
