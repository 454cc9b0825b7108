use denote.Param.Send.{IsSend, IsSync}
use Rattle.place_threads.proofs.Crossing.{place_crosses}
use Rattle.rows.proofs.running.run_row.Goals as goal

pub run-finish-requires-send-P : goal.run-finish-requires-send-P
run-finish-requires-send-P g c κs within = search (place_crosses) depth 20

pub run-finish-requires-sync-P : goal.run-finish-requires-sync-P
run-finish-requires-sync-P g c κs within = search (place_crosses) depth 20
