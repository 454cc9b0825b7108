use denote.Param.Send.{IsSend, IsSync}
use Rattle.place_threads.proofs.Crossing.{place_crosses}
use Rattle.vol_disk.proofs.dir_vol.DirVol.TheSendSync as volume
use Rattle.server_program.proofs.serve_address.Goals as goal

pub serve_door-status-requires-send-P : goal.serve_door-status-requires-send-P
serve_door-status-requires-send-P g c κs within = search (place_crosses, volume.the_send) depth 20

pub serve_door-status-requires-sync-P : goal.serve_door-status-requires-sync-P
serve_door-status-requires-sync-P g c κs within = search (place_crosses, volume.the_sync) depth 20
