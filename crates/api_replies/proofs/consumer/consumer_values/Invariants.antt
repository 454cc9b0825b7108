use Rattle.std.proofs.Common.{◌≡◌, map, take}
use Rattle.serde_json.specs.View.{view}
use Rattle.api_replies.specs.Consumers.{consumer_data}
use Rattle.api_replies.proofs.consumer.consumer_values.Given as goal

abbrev pub invariant-loop-info : goal.invariant-loop-info
invariant-loop-info l = map view l.values.items ≡ map consumer_data (take l.info-index l.list)
