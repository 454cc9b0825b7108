-- What is known of a log that was opened or started.
use Rattle.std.specs.Prelude.{ℕ, ◌+◌, ◌==◌, Option, None, if◌then◌else◌}

pub record LogState : Type 0 where
  -- its file
  pub file : ℕ
  -- the generation in the file's head, if batches may be appended
  pub head : Option ℕ
  -- the offsets of the gates after the first open batch and after the last one, 20 if none is open
  pub first_end : ℕ
  pub end : ℕ

-- none exactly if no batch is open
abbrev pub generation_of : LogState → Option ℕ
generation_of log = if log.end == 20 then None else log.head

-- a log without batches
abbrev pub new_log : ℕ → Option ℕ → LogState
new_log file head = record { file = file; head = head; first_end = 20; end = 20 }

-- with one open batch more, of so many bytes
abbrev pub with_batch : LogState → ℕ → LogState
with_batch log count =
    let end = log.end + 9 + count in
    record log { first_end = if log.end == 20 then end else log.first_end; end = end }
