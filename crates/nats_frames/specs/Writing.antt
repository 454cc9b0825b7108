-- Parts of a frame as they are written one after the other.
use Rattle.std.specs.Prelude.{◌+◌, ◌++◌, length, decimal}
use Rattle.js_base.specs.Bytes.{Bytes}
use Rattle.js_base.specs.Framing.{spaced}

-- the size of the headers, and that of headers and payload
abbrev pub sizes : Bytes → Bytes → Bytes
sizes headers payload = spaced (decimal (length headers)) ++ spaced (decimal (length headers + length payload))
