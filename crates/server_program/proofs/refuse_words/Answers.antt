use denote.Param.Send.{IsSend, IsSync}
use Rattle.place_threads.proofs.Crossing.{place_crosses}
use Rattle.server_program.proofs.refuse_words.Goals as goal

pub serve_pipe-requires-send-P : goal.serve_pipe-requires-send-P
serve_pipe-requires-send-P g c κs within = search (place_crosses) depth 20

pub serve_pipe-requires-sync-P : goal.serve_pipe-requires-sync-P
serve_pipe-requires-sync-P g c κs within = search (place_crosses) depth 20
