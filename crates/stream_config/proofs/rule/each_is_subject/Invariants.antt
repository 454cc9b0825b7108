use Rattle.std.proofs.Common.{◌≡◌, drop}
use Rattle.std.specs.List.{list_all}
use Rattle.stream_config.specs.Standings.{is_subject}
use Rattle.stream_config.proofs.rule.each_is_subject.Given as goal

-- the texts that are left decide
abbrev pub invariant-loop-text : goal.invariant-loop-text
invariant-loop-text l = list_all is_subject l.texts ≡ list_all is_subject (drop l.text-index l.texts)
