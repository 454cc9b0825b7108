-- The pace of answers, by the virtual scheduling algorithm of ITU-T I.371: each answer takes up a time of its own, after the times of those before it,
-- and has to wait while what is taken up reaches further ahead than a burst.
use Rattle.std.specs.Prelude.{ℕ, ◌+◌, ◌-◌, Option, None, Some}
use Rattle.std.specs.Duration.{as_nanos}
use Rattle.std.specs.declared.time.Instant.{Instant}
use Rattle.std.specs.Time.{instant_nanos}
use Rattle.tcp_edge.specs.declared.pace.Pace.{Pace}

-- in nanoseconds of the clock, until when the answers so far take up the time; 0 before the first one
abbrev pub until : Option Instant → ℕ
until None = 0
until (Some moment) = instant_nanos moment

-- how many nanoseconds ahead of a moment the time is taken up once one more answer comes
abbrev pub ahead_after : Pace → Instant → ℕ
ahead_after pace now = until pace.taken_until - instant_nanos now + as_nanos pace.apart
