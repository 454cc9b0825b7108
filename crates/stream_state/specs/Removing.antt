-- The room for noting what leaves a stream, this server's own.
use Rattle.std.specs.Prelude.{◌+◌, ◌≤◌, length}
use Rattle.js_model.specs.declared.stream.Stream.{Stream}
use Rattle.removals.specs.Removed.{Removed}

-- each message can be noted without memory
abbrev pub HasRoom : Stream → Removed → Type 0
HasRoom s gone = length s.messages ≤ gone.spare

-- and one more
abbrev pub HasRoomForOne : Stream → Removed → Type 0
HasRoomForOne s gone = length s.messages + 1 ≤ gone.spare
