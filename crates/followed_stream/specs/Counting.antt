-- How many messages are left to be delivered to a consumer after a delivery, this server's own.
use Rattle.std.specs.Prelude.{ℕ, Option, Some, None}
use Rattle.js_model.specs.declared.stream.Message.{Message}
use Rattle.js_model.specs.declared.entry.Delivered.{Delivered}
use Rattle.js_model.specs.declared.entry.Delivered.TheVariants.{Sent, TooSmall, Emptied}
use Rattle.consumer_state.specs.Delivering.{left_after}
use Rattle.followed_stream.specs.Followers.{Following}

-- if the message is sent
abbrev pub left_if_sent : Following → Option Message → ℕ
left_if_sent f None = f.undelivered
left_if_sent f (Some m) = left_after f.consumer m f.undelivered

-- so many if a message was sent, and else as many as before
abbrev pub left_then : Option Delivered → ℕ → ℕ → ℕ
left_then None sent count = count
left_then (Some (Sent seq n dseq)) sent count = sent
left_then (Some TooSmall) sent count = count
left_then (Some Emptied) sent count = count
