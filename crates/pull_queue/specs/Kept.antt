-- What is kept beside the pulls of a consumer that wait, this server's own.
use Rattle.std.specs.Prelude.{◌≡◌, ℕ, List, Option, count_by}
use Rattle.js_model.specs.declared.consumer.Pull.{Pull}
use Rattle.pull_queue.specs.Quiet.{IsQuietUntil}

-- until when nothing comes, and how many end when nothing can be delivered
pub record IsKeptQueue (next : Option ℕ) (no_waits : ℕ) (pulls : List Pull) : Type 0 where
  pub quiet : IsQuietUntil next pulls
  pub counted : no_waits ≡ count_by (λ p. p.no_wait) pulls
