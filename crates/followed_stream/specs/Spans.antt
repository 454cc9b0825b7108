-- Sequences among which a stream has messages that its retention may no longer keep, this server's own.
use Rattle.std.specs.Prelude.{◌≡◌, ℕ, nat_le, Bool, true, false, ◌&&◌, min, max, All}
use Rattle.js_model.specs.declared.stream.Stream.{Stream}
use Rattle.js_model.specs.Retention.{is_kept}
use Rattle.followed_stream.specs.declared.span.Span.{Span}

-- the sequence is in the span
abbrev pub spans : Span → ℕ → Bool
spans span seq = nat_le span.first seq && nat_le seq span.last

-- the least span with both
abbrev pub joined : Span → Span → Span
joined one other = record { first = min one.first other.first; last = max one.last other.last }

-- the retention keeps each message outside the span
pub record IsKeptOutside (span : Span) (s : Stream) : Type 0 where
  pub kept : All (λ m. spans span m.seq ≡ false → is_kept s.config.retention s.consumers m ≡ true) s.messages
