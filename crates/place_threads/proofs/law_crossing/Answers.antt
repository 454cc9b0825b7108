use Rattle.place_threads.proofs.Crossing.{place_crosses}
use Rattle.place_threads.proofs.law_crossing.Goals as goal

pub goes-requires-send-T : goal.goes-requires-send-T
goes-requires-send-T c = search place_crosses depth 20

pub is_shared-requires-sync-T : goal.is_shared-requires-sync-T
is_shared-requires-sync-T c = search place_crosses depth 20
