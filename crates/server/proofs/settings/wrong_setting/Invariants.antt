use Rattle.std.proofs.Common.{◌≡◌, length}
use Rattle.server.specs.Settings.{settings_of}
use Rattle.server.specs.Words.{texts}
use Rattle.server.specs.WrongWords.{wrong_setting}
use Rattle.server.proofs.settings.wrong_setting.Given as goal

-- what is wrong first of the settings is wrong first of those that are left
abbrev pub invariant-loop-setting : goal.invariant-loop-setting
invariant-loop-setting l = wrong_setting l.verb (settings_of (texts l.rest)) ≡ wrong_setting l.fn.verb (settings_of (texts l.fn.words))

abbrev pub decreases-loop-setting : goal.decreases-loop-setting
decreases-loop-setting l = length l.rest
