-- The session that is measured.
use Rattle.std.specs.Prelude.{◌^◌, ◌-◌, codes, true}
use Rattle.session.specs.declared.ending.Limits.{Limits}

-- no input in memory passes them
abbrev pub limits : Limits
limits = record { input = 2 ^ 62 - 1; quiet = 1; host = codes "pipe"; port = 0; ticks = true }
