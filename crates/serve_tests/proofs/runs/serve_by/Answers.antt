use denote.Param.Send.{IsSend, IsSync}
use Rattle.place_threads.proofs.Crossing.{place_crosses}
use Rattle.vol_disk.proofs.mem_vol.MemVol.TheSendSync as volume
use Rattle.serve_tests.proofs.runs.serve_by.Goals as goal

pub serve_over-requires-send-P : goal.serve_over-requires-send-P
serve_over-requires-send-P g c κs within = search (place_crosses, volume.the_send) depth 20

pub serve_over-requires-sync-P : goal.serve_over-requires-sync-P
serve_over-requires-sync-P g c κs within = search (place_crosses, volume.the_sync) depth 20
