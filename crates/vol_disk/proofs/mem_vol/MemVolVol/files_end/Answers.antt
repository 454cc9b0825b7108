use Rattle.std.proofs.Common.{◌≡◌, ◌≤◌, ℕ, [], subst}
use Rattle.vol_disk.specs.FileState.{at_rest}
use Rattle.vol_disk.specs.MemVol.{VolState, file_of}
use Rattle.vol_disk.proofs.Volumes.{kept_end, left_below}
use Rattle.vol_disk.proofs.mem_vol.MemVolVol.files_end.Goals as goal
use Rattle.vol_disk.proofs.mem_vol.MemVolVol.files_end.Goals.{in-Ok, in-Err}

pub returns-clause-left : goal.returns-clause-left
returns-clause-left c =
    elim c.match-call.branch [
      | in-Ok w ↦ rw w.result-is (left_below c.call.new.self w.end.result (subst (λ (v : VolState). (file : ℕ) → w.end.result ≤ file → file_of v file ≡ at_rest []) c.self.view_is w.end.ensures.rest))
      | in-Err w ↦ rw w.result-is tt
    ]

pub returns-clause-quiet : goal.returns-clause-quiet
returns-clause-quiet c = kept_end c.args.self.now c.call.new.self c.call.result c.call.ensures.call
