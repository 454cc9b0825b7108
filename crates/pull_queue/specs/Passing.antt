-- What passing time sends to waiting pulls and leaves of them, by JetStream's pull expiry and idle heartbeat.
use Rattle.std.specs.Prelude.{ℕ, Bool, ◌&&◌, List, ◌++◌, map, filter, not}
use Rattle.js_base.specs.declared.out.Out.{Out}
use Rattle.js_model.specs.declared.consumer.Pull.{Pull}
use Rattle.js_model.specs.Advance.{timeout, pull_beat, is_over, pull_comes, beaten}

-- the pulls that go on
abbrev pub going_on : ℕ → List Pull → List Pull
going_on now pulls = filter (λ p. not (is_over now p)) pulls

-- the timeouts of the pulls that end, then the heartbeats of those that go on
abbrev pub passing_outs : ℕ → List Pull → List Out
passing_outs now pulls = map timeout (filter (is_over now) pulls) ++ map pull_beat (filter (pull_comes now) (going_on now pulls))

-- it goes on, and a heartbeat comes for it
abbrev pub is_beaten : ℕ → Pull → Bool
is_beaten now p = not (is_over now p) && pull_comes now p

-- those that go on, with their heartbeats marked
abbrev pub passed : ℕ → List Pull → List Pull
passed now pulls = map (beaten now) (going_on now pulls)
