use Rattle.std.proofs.Common.{◌≤◌, vec_len}
use Rattle.server_program.proofs.folder_volumes.Given as goal

-- a volume for each place before
abbrev pub invariant-loop-place : goal.invariant-loop-place
invariant-loop-place l = vec_len l.vols ≤ l.place
