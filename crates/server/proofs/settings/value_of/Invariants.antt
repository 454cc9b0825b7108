use Rattle.std.proofs.Common.{◌≡◌, length}
use Rattle.server.specs.Settings.{settings_of, value_of}
use Rattle.server.specs.Words.{texts}
use Rattle.server.proofs.settings.value_of.Given as goal

-- the value that is looked for is the first one in the words that are left
abbrev pub invariant-loop-setting : goal.invariant-loop-setting
invariant-loop-setting l = value_of l.option (settings_of (texts l.rest)) ≡ value_of l.fn.option (settings_of (texts l.fn.words))

abbrev pub decreases-loop-setting : goal.decreases-loop-setting
decreases-loop-setting l = length l.rest
