use Rattle.std.proofs.Common.{◌≡◌, true, take}
use Rattle.std.specs.List.{list_all}
use Rattle.js_model.specs.Retention.{is_kept}
use Rattle.durable_checks.proofs.keeping.are_kept.Given as goal

abbrev pub invariant-loop-message : goal.invariant-loop-message
invariant-loop-message l = list_all (is_kept l.policy l.consumers) (take l.message-index l.messages) ≡ true
