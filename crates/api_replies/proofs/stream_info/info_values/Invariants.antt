use Rattle.std.proofs.Common.{◌≡◌, map, take}
use Rattle.serde_json.specs.View.{view}
use Rattle.api_replies.specs.Infos.{info_data}
use Rattle.api_replies.proofs.stream_info.info_values.Given as goal

abbrev pub invariant-loop-info : goal.invariant-loop-info
invariant-loop-info l = map view l.values.items ≡ map info_data (take l.info-index l.list)
